-- The relations of a trial are such as a script is typed and run over.
use Rattle.std.proofs.Common.{◌≡◌, ◌≤◌, ℕ, List, [], ◌∷◌, length, true, ap, refl, arith}
use Rattle.std.specs.Prelude.{All, codes, find, None, option_map}
use Rattle.std.specs.List.{flat_map, range_with_len}
use Rattle.std.proofs.lemmas.Bool.{and_from}
use Rattle.std.proofs.lemmas.List.Elements.{All-cons, All-nil}
use Rattle.rel_base.specs.Keys.{File}
use Rattle.rel_base.specs.Relations.{HasTypes}
use Rattle.myrial_ast.specs.Loads.{is_load_key}
use Rattle.myrial_ast.specs.Trees.{StatementTree}
use Rattle.myrial_meaning.specs.Fetches.{Load, form_in, loads_in}
use Rattle.myrial_types.specs.Fetching.{has_form, have_forms}
use Rattle.algebra.specs.Rewriting.{AreTyped}
use Rattle.trial_gen.specs.Trials.{trial_file, trial_files, trial_key}
use Rattle.trial_gen.specs.TrialScript.{trial_script}
use Rattle.trial_gen.proofs.TrialLemmas.{rows_are_typed}

-- no script loads what a trial makes: a loaded file has no user
no_load : (name : List ℕ) (loads : List Load) → find (λ (l : Load). is_load_key l.0 (trial_key name)) loads ≡ None
no_load name [] = refl
no_load name (l ∷ loads) = no_load name loads

formed : (script : List StatementTree) (n j : ℕ) (name : List ℕ)
    → has_form (form_in script (trial_file n j name).0) (trial_file n j name).1 ≡ true
formed script n j name =
    ap (λ found. has_form (option_map (λ (l : Load). l.1) found) (trial_file n j name).1) (no_load name (flat_map loads_in script))

pub trial-formed : (script : List StatementTree) (n : ℕ) → have_forms (trial_files n) script ≡ true
trial-formed script n =
    and_from _ _ (formed script n 1 (codes "E1"))
    (and_from _ _ (formed script n 2 (codes "E2")) (and_from _ _ (formed script n 3 (codes "E3")) refl))

abbrev IsTyped : File → Type 0
IsTyped f = All (HasTypes f.1.schema) f.1.rows

typed : (n j : ℕ) (name : List ℕ) → IsTyped (trial_file n j name)
typed n j name = rows_are_typed n j (range_with_len 0 n)

pub trial-typed : (n : ℕ) → AreTyped (trial_files n)
trial-typed n =
    let first = trial_file n 1 (codes "E1") in
    let second = trial_file n 2 (codes "E2") in
    let third = trial_file n 3 (codes "E3") in
    All-cons IsTyped first (second ∷ third ∷ []) (typed n 1 (codes "E1"))
    (All-cons IsTyped second (third ∷ []) (typed n 2 (codes "E2"))
    (All-cons IsTyped third [] (typed n 3 (codes "E3")) (All-nil IsTyped)))

-- its script isn't too long
pub script-short : length trial_script ≤ 65536
unfolding trial_script
script-short = omega arith
