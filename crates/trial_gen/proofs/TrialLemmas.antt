-- The rows of a trial one by one, their types, and a relation under its key.
use Rattle.std.proofs.Common.{◌≡◌, ℕ, zero, suc, ◌+◌, ◌*◌, ◌/◌, List, [], ◌∷◌, ◌++◌, map, All, refl, arith, rules}
use Rattle.std.specs.List.{range_with_len}
use Rattle.std.proofs.lemmas.List.FromFn.{map-range_with_len_more}
use Rattle.rel_base.specs.declared.names.Key.{Key}
use Rattle.rel_base.specs.declared.values.Value.{Value}
use Rattle.rel_base.specs.Relations.{HasTypes, RelationState}
use Rattle.trial_gen.specs.Trials.{next_state, state_after, row_behind, trial_columns, trial_file, trial_key, trial_row, trial_rows}

-- the state behind one more row
pub state_more : (k s : ℕ) {t : ℕ} → t ≡ state_after (2 * k) s → next_state (next_state t) ≡ state_after (2 * (k + 1)) s
state_more k s is =
    let twice : 2 * (k + 1) ≡ suc (suc (2 * k)) = omega arith in
    rw (is, twice) refl

-- one more row
pub rows_more : (n j k : ℕ) {rows more : List (List Value)} {row : List Value} {t : ℕ}
    → rows ≡ map (trial_row n j) (range_with_len 0 k)
    → t ≡ state_after (2 * k) (4 * n + j) → row ≡ row_behind (n / 8 + 1) t → more ≡ rows ++ row ∷ []
    → more ≡ map (trial_row n j) (range_with_len 0 (k + 1))
rows_more n j k so_far state is next =
    let here : 0 + k ≡ k = omega arith in
    rw (next, so_far, is, state, map-range_with_len_more (trial_row n j) 0 k k here) refl

-- each row has a number for each column
pub rows_are_typed : (n j : ℕ) (ks : List ℕ) → All (HasTypes trial_columns) (map (trial_row n j) ks)
rows_are_typed n j [] k d low = absurd (omega (arith, low))
rows_are_typed n j (i ∷ ks) zero d low = search rules
rows_are_typed n j (i ∷ ks) (suc k) d low = rows_are_typed n j ks k d (omega (arith, low))

pub same_file : (n j : ℕ) {name : List ℕ} {key : Key} {r : RelationState} → key ≡ trial_key name → r.schema ≡ trial_columns
    → r.rows ≡ trial_rows n j
    → (key, r) ≡ trial_file n j name
same_file n j key columns rows = λ i. (key i, record { schema = columns i; rows = rows i })
