-- Worked cases of where rows go: one atom, of which two rows lie at worker 0 and one at worker 1. A row of one value goes to
-- worker 0, any other to both.
use Rattle.std.proofs.Common.{◌≡◌, ℕ, zero, suc, ◌+◌, ◌*◌, ◌<◌, ◌≤◌, ◌==◌, List, [], ◌∷◌, All, length, reverse, refl, ap, arith}
use Rattle.std.proofs.lemmas.Bool.Decides.{nat_tests}
use Rattle.std.specs.Prelude.{pos, false, if◌then◌else◌, slice_index_or}
use Rattle.rel_base.specs.declared.values.Value.TheVariants as variant
use Rattle.rel_io.specs.declared.taps.Totals.{Totals}
use Rattle.row_exchange.specs.Routes.{Row, Rows, rows_at}
use Rattle.row_exchange.specs.Moves.{Move, sendings_of, moves_of, sent, received, rows_between, all_given}
use Rattle.exchange_channels.specs.declared.messages.Batch.{Batch}
use Rattle.exchange_channels.specs.Messages.{rows_of_atom}
use Rattle.exchange_channels.specs.Wirings.{ReceiptState}
use Rattle.row_exchange.specs.declared.routes.Size.{Size}
use Rattle.row_exchange.specs.Exchanges.{with_more, nothing, of_all, AreTold, InOrder, IsBatch, Shows, batches_between}
use Rattle.row_exchange.specs.inner.Pairs.{times_to, rows_to, all_rows_to, pairs_from, pairs_to}

abbrev first_row : Row
first_row = variant.Int (pos 1) ∷ []

abbrev second_row : Row
second_row = variant.Int (pos 2) ∷ variant.Int (pos 3) ∷ []

abbrev third_row : Row
third_row = variant.Int (pos 4) ∷ variant.Int (pos 5) ∷ []

abbrev parts : List (List Rows)
parts = ((first_row ∷ second_row ∷ []) ∷ (third_row ∷ []) ∷ []) ∷ []

abbrev goes : ℕ → Row → List ℕ
goes atom row = if length row == 1 then 0 ∷ [] else 0 ∷ 1 ∷ []

-- of the rows at worker 0 one goes to worker 1, and both to worker 0
to_the_other : rows_to (goes 0) 1 (rows_at parts 0 0) ≡ second_row ∷ []
to_the_other = refl

to_itself : rows_to (goes 0) 0 (rows_at parts 0 0) ≡ first_row ∷ second_row ∷ []
to_itself = refl

-- worker 1 is given the long rows, worker by worker
given_to_the_other : all_rows_to goes parts 2 0 1 ≡ second_row ∷ third_row ∷ []
given_to_the_other = refl

-- the pairs, by the worker at which the row lies, and by the cell
sent_by_worker_0 : pairs_from goes parts 0 ≡ 3
sent_by_worker_0 = refl

sent_by_worker_1 : pairs_from goes parts 1 ≡ 2
sent_by_worker_1 = refl

received_by_worker_0 : pairs_to goes parts 2 0 ≡ 3
received_by_worker_0 = refl

received_by_worker_1 : pairs_to goes parts 2 1 ≡ 2
received_by_worker_1 = refl

-- a worker that stands twice among the cells of a row gets it twice
twice : times_to 1 (1 ∷ 0 ∷ 1 ∷ []) first_row ≡ first_row ∷ first_row ∷ []
twice = refl

-- an atom or a worker that isn't there has no rows
no_atom : rows_at parts 1 0 ≡ []
no_atom = refl

no_worker : rows_at parts 0 2 ≡ []
no_worker = refl

-- ---- the same, read off the moves

abbrev moves : List Move
moves = moves_of (sendings_of goes parts)

-- five pairs of a row and a cell
five_moves : length moves ≡ 5
five_moves = refl

moved_to_the_other : rows_between moves 0 0 1 ≡ second_row ∷ []
moved_to_the_other = refl

moved_to_itself : rows_between moves 0 0 0 ≡ first_row ∷ second_row ∷ []
moved_to_itself = refl

-- no row is of an atom that there isn't
moved_of_no_atom : rows_between moves 1 0 0 ≡ []
moved_of_no_atom = refl

rows_of_the_other : all_given moves 1 1 ≡ (second_row ∷ third_row ∷ []) ∷ []
rows_of_the_other = refl

moves_from_worker_0 : sent moves 0 ≡ 3
moves_from_worker_0 = refl

moves_to_worker_1 : received moves 1 ≡ 2
moves_to_worker_1 = refl

-- rows in another order are the same as a bag, and not in order
same_in_order : InOrder (first_row ∷ second_row ∷ []) (first_row ∷ second_row ∷ [])
same_in_order = refl

not_in_order : InOrder (first_row ∷ second_row ∷ []) (second_row ∷ first_row ∷ []) → ⊥
not_in_order e = absurd (cc)

-- ---- what a receipt shows of these moves, in batches of one row

abbrev size : Size
size = record { workers = 2; capacity = 16; batch = 1 }

abbrev batch : Row → Batch
batch row = record { atom = 0; rows = row ∷ [] }

-- for each worker the batches that it took, sender by sender
abbrev receipt : ReceiptState
receipt = record {
  capacity = 16;
  batches =
      ((batch first_row ∷ batch second_row ∷ []) ∷ (batch third_row ∷ []) ∷ [])
      ∷ ((batch second_row ∷ []) ∷ (batch third_row ∷ []) ∷ []) ∷ [];
}

shown : Shows InOrder 1 size moves receipt
shown = record {
  capacity = refl;
  cells = refl;
  senders = senders_at;
  sized = sized_at;
  rows_are = rows_at_each;
}
  where
    one_row : (row : Row) → IsBatch 1 1 (batch row)
    one_row row = record { one_atom = omega arith; some_row = omega arith; few = omega arith }

    alone : (row : Row) → All (IsBatch 1 1) (batch row ∷ [])
    alone row zero d _ = one_row row
    alone row (suc k) d below = absurd (omega (arith, below))

    both : All (IsBatch 1 1) (batch first_row ∷ batch second_row ∷ [])
    both zero d _ = one_row first_row
    both (suc zero) d _ = one_row second_row
    both (suc (suc k)) d below = absurd (omega (arith, below))

    no_other : (atom : ℕ) → (0 == suc atom) ≡ false
    no_other atom = grind (arith, nat_tests)

    senders_at : (w : ℕ) → w < 2 → length (slice_index_or receipt.batches w []) ≡ 2
    senders_at zero below = refl
    senders_at (suc zero) below = refl
    senders_at (suc (suc w)) below = absurd (omega (arith, below))

    sized_at : (u w : ℕ) → u < 2 → w < 2 → All (IsBatch 1 1) (batches_between receipt u w)
    sized_at zero zero _ _ = both
    sized_at zero (suc zero) _ _ = alone second_row
    sized_at (suc zero) zero _ _ = alone third_row
    sized_at (suc zero) (suc zero) _ _ = alone third_row
    sized_at (suc (suc u)) w below _ = absurd (omega (arith, below))
    sized_at u (suc (suc w)) _ below = absurd (omega (arith, below))

    rows_at_each : (u w atom : ℕ) → u < 2 → w < 2
        → rows_between moves atom u w ≡ rows_of_atom atom (batches_between receipt u w)
    rows_at_each zero zero zero _ _ = refl
    rows_at_each zero (suc zero) zero _ _ = refl
    rows_at_each (suc zero) zero zero _ _ = refl
    rows_at_each (suc zero) (suc zero) zero _ _ = refl
    rows_at_each zero zero (suc atom) _ _ = rw (no_other atom) refl
    rows_at_each zero (suc zero) (suc atom) _ _ = rw (no_other atom) refl
    rows_at_each (suc zero) zero (suc atom) _ _ = rw (no_other atom) refl
    rows_at_each (suc zero) (suc zero) (suc atom) _ _ = rw (no_other atom) refl
    rows_at_each (suc (suc u)) w atom below _ = absurd (omega (arith, below))
    rows_at_each u (suc (suc w)) atom _ below = absurd (omega (arith, below))

-- a receipt in which the workers' batches are changed over doesn't show them
abbrev turned : ReceiptState
turned = record { capacity = 16; batches = reverse receipt.batches }

not_shown : Shows InOrder 1 size moves turned → ⊥
not_shown shows = absurd (cc (shows.rows_are 0 0 0 (omega arith) (omega arith)))

-- ---- what the taps are told of these moves

abbrev sums : ℕ → ℕ → ℕ → Totals
sums sent got listed = record { sent = sent; got = got; listed = listed }

-- the taps of both workers, before and after, and one that is read by nobody
abbrev before : List Totals
before = sums 0 0 0 ∷ sums 0 5 7 ∷ sums 5 0 0 ∷ sums 0 0 0 ∷ sums 1 1 1 ∷ []

abbrev after : List Totals
after = sums 3 0 0 ∷ sums 0 8 7 ∷ sums 7 0 0 ∷ sums 0 2 0 ∷ sums 1 1 1 ∷ []

told : AreTold (λ (t : Totals). t) (λ (t : Totals). t.listed) 2 (sent moves) (received moves) nothing before after
told = record {
  count = refl;
  tags = tag_at;
  firsts = first_at;
  seconds = second_at;
  others = other_at;
}
  where
    tag_at : (k : ℕ) (d : Totals) → k < 5 → (slice_index_or after k d).listed ≡ (slice_index_or before k d).listed
    tag_at zero d _ = refl
    tag_at (suc zero) d _ = refl
    tag_at (suc (suc zero)) d _ = refl
    tag_at (suc (suc (suc zero))) d _ = refl
    tag_at (suc (suc (suc (suc k)))) d _ = refl

    first_at : (u : ℕ) (d : Totals) → u < 2 → slice_index_or after (2 * u) d ≡ with_more (slice_index_or before (2 * u) d) (sent moves u) 0 0
    first_at zero d _ = refl
    first_at (suc zero) d _ = refl
    first_at (suc (suc u)) d below = absurd (omega (arith, below))

    second_at : (w : ℕ) (d : Totals) → w < 2 → slice_index_or after (2 * w + 1) d ≡ with_more (slice_index_or before (2 * w + 1) d) 0 (received moves w) 0
    second_at zero d _ = refl
    second_at (suc zero) d _ = refl
    second_at (suc (suc w)) d below = absurd (omega (arith, below))

    other_at : (k : ℕ) (d : Totals) → 4 ≤ k → slice_index_or after k d ≡ slice_index_or before k d
    other_at (suc (suc (suc (suc k)))) d past = refl
    other_at zero d past = absurd (omega (arith, past))
    other_at (suc zero) d past = absurd (omega (arith, past))
    other_at (suc (suc zero)) d past = absurd (omega (arith, past))
    other_at (suc (suc (suc zero))) d past = absurd (omega (arith, past))

-- as many rows are sent as received
even : of_all 2 (sent moves) ≡ of_all 2 (received moves)
even = refl

-- a worker whose second tap was told of a row too many
abbrev miscounted : List Totals
miscounted = sums 3 0 0 ∷ sums 0 8 7 ∷ sums 7 0 0 ∷ sums 0 3 0 ∷ sums 1 1 1 ∷ []

not_told : AreTold (λ (t : Totals). t) (λ (t : Totals). t.listed) 2 (sent moves) (received moves) nothing before miscounted → ⊥
not_told t = absurd (omega (arith, ap (λ (t : Totals). t.got) (t.seconds 1 (sums 0 0 0) (omega arith))))
