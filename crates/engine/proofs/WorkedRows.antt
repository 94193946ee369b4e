-- What receipts and taps show of a `diff` at two workers: of the left operand a row goes from worker 0 to worker 1, of the right
-- one a row stays at worker 1, and worker 1 lists one row.
use Rattle.std.proofs.Common.{◌≡◌, ℕ, zero, suc, ◌<◌, ◌≤◌, ◌+◌, ◌*◌, ◌==◌, false, List, [], ◌∷◌, All, length, refl, ap, arith}
use Rattle.std.specs.Prelude.{pos, slice_index_or}
use Rattle.std.proofs.lemmas.Bool.Decides.{nat_tests}
use Rattle.std.proofs.lemmas.List.Sorted.{IsPermutation-refl, length_permutation}
use Rattle.rel_base.specs.Bags.{SameBag}
use Rattle.rel_base.specs.Limits.{most_items}
use Rattle.rel_base.specs.declared.values.Value.TheVariants as variant
use Rattle.rel_io.specs.declared.taps.Totals.{Totals}
use Rattle.exchange_channels.specs.declared.messages.Batch.{Batch}
use Rattle.exchange_channels.specs.Messages.{rows_of_atom}
use Rattle.exchange_channels.specs.Wirings.{ReceiptState}
use Rattle.algebra.specs.declared.notes.Exchange.TheVariants as exchange
use Rattle.row_exchange.specs.declared.routes.Size.{Size}
use Rattle.row_exchange.specs.Routes.{Row}
use Rattle.row_exchange.specs.Moves.{Move, rows_between}
use Rattle.row_exchange.specs.Exchanges.{with_more, IsBatch, Shows, batches_between}
use Rattle.placement.specs.Exchanges.{PlacedExchange}
use Rattle.routed_joins.specs.TermRuns.{shown_moves, AreShown, no_receipt, a_receipt, all_sent, all_received, all_listed, AreMoved, AreFair}

abbrev left_row : Row
left_row = variant.Int (pos 1) ∷ []

abbrev right_row : Row
right_row = variant.Int (pos 2) ∷ []

abbrev move : ℕ → ℕ → ℕ → Row → Move
move atom from to row = record { atom = atom; from = from; to = to; row = row }

abbrev difference : PlacedExchange
difference = record {
  kind = exchange.Diff;
  moves = move 0 0 1 left_row ∷ move 1 1 1 right_row ∷ [];
  listed = 0 ∷ 1 ∷ [];
}

-- ---- receipts

-- a receipt for each operand, of its rows as those of the first atom
two_receipts : shown_moves difference ≡ (move 0 0 1 left_row ∷ []) ∷ (move 0 1 1 right_row ∷ []) ∷ []
two_receipts = refl

abbrev size : Size
size = record { workers = 2; capacity = 16; batch = 256 }

abbrev batch : Row → Batch
batch row = record { atom = 0; rows = row ∷ [] }

-- what worker 1 took, of worker 0 and of worker 1
abbrev receipt : List Batch → List Batch → ReceiptState
receipt of_worker_0 of_worker_1 = record {
  capacity = 16;
  batches = ([] ∷ [] ∷ []) ∷ (of_worker_0 ∷ of_worker_1 ∷ []) ∷ [];
}

abbrev of_the_left : ReceiptState
of_the_left = receipt (batch left_row ∷ []) []

abbrev of_the_right : ReceiptState
of_the_right = receipt [] (batch right_row ∷ [])

no_other : (atom : ℕ) → (0 == suc atom) ≡ false
no_other atom = grind (arith, nat_tests)

none : All (IsBatch most_items 256) []
none k d below = absurd (omega (arith, below))

alone : (row : Row) → All (IsBatch most_items 256) (batch row ∷ [])
alone row zero d _ = record { one_atom = omega arith; some_row = omega arith; few = omega arith }
alone row (suc k) d below = absurd (omega (arith, below))

left_shown : Shows SameBag most_items size (move 0 0 1 left_row ∷ []) of_the_left
left_shown = record {
  capacity = refl;
  cells = refl;
  senders = senders_at;
  sized = sized_at;
  rows_are = rows_at_each;
}
  where
    senders_at : (w : ℕ) → w < 2 → length (slice_index_or of_the_left.batches w []) ≡ 2
    senders_at zero _ = refl
    senders_at (suc zero) _ = refl
    senders_at (suc (suc w)) below = absurd (omega (arith, below))

    sized_at : (u w : ℕ) → u < 2 → w < 2 → All (IsBatch most_items 256) (batches_between of_the_left u w)
    sized_at zero zero _ _ = none
    sized_at zero (suc zero) _ _ = alone left_row
    sized_at (suc zero) zero _ _ = none
    sized_at (suc zero) (suc zero) _ _ = none
    sized_at (suc (suc u)) w below _ = absurd (omega (arith, below))
    sized_at u (suc (suc w)) _ below = absurd (omega (arith, below))

    rows_at_each : (u w atom : ℕ) → u < 2 → w < 2
        → SameBag (rows_between (move 0 0 1 left_row ∷ []) atom u w) (rows_of_atom atom (batches_between of_the_left u w))
    rows_at_each zero zero zero _ _ = IsPermutation-refl []
    rows_at_each zero (suc zero) zero _ _ = IsPermutation-refl (left_row ∷ [])
    rows_at_each (suc zero) zero zero _ _ = IsPermutation-refl []
    rows_at_each (suc zero) (suc zero) zero _ _ = IsPermutation-refl []
    rows_at_each zero zero (suc atom) _ _ = rw (no_other atom) (IsPermutation-refl [])
    rows_at_each zero (suc zero) (suc atom) _ _ = rw (no_other atom) (IsPermutation-refl [])
    rows_at_each (suc zero) zero (suc atom) _ _ = rw (no_other atom) (IsPermutation-refl [])
    rows_at_each (suc zero) (suc zero) (suc atom) _ _ = rw (no_other atom) (IsPermutation-refl [])
    rows_at_each (suc (suc u)) w atom below _ = absurd (omega (arith, below))
    rows_at_each u (suc (suc w)) atom _ below = absurd (omega (arith, below))

right_shown : Shows SameBag most_items size (move 0 1 1 right_row ∷ []) of_the_right
right_shown = record {
  capacity = refl;
  cells = refl;
  senders = senders_at;
  sized = sized_at;
  rows_are = rows_at_each;
}
  where
    senders_at : (w : ℕ) → w < 2 → length (slice_index_or of_the_right.batches w []) ≡ 2
    senders_at zero _ = refl
    senders_at (suc zero) _ = refl
    senders_at (suc (suc w)) below = absurd (omega (arith, below))

    sized_at : (u w : ℕ) → u < 2 → w < 2 → All (IsBatch most_items 256) (batches_between of_the_right u w)
    sized_at zero zero _ _ = none
    sized_at zero (suc zero) _ _ = none
    sized_at (suc zero) zero _ _ = none
    sized_at (suc zero) (suc zero) _ _ = alone right_row
    sized_at (suc (suc u)) w below _ = absurd (omega (arith, below))
    sized_at u (suc (suc w)) _ below = absurd (omega (arith, below))

    rows_at_each : (u w atom : ℕ) → u < 2 → w < 2
        → SameBag (rows_between (move 0 1 1 right_row ∷ []) atom u w) (rows_of_atom atom (batches_between of_the_right u w))
    rows_at_each zero zero zero _ _ = IsPermutation-refl []
    rows_at_each zero (suc zero) zero _ _ = IsPermutation-refl []
    rows_at_each (suc zero) zero zero _ _ = IsPermutation-refl []
    rows_at_each (suc zero) (suc zero) zero _ _ = IsPermutation-refl (right_row ∷ [])
    rows_at_each zero zero (suc atom) _ _ = rw (no_other atom) (IsPermutation-refl [])
    rows_at_each zero (suc zero) (suc atom) _ _ = rw (no_other atom) (IsPermutation-refl [])
    rows_at_each (suc zero) zero (suc atom) _ _ = rw (no_other atom) (IsPermutation-refl [])
    rows_at_each (suc zero) (suc zero) (suc atom) _ _ = rw (no_other atom) (IsPermutation-refl [])
    rows_at_each (suc (suc u)) w atom below _ = absurd (omega (arith, below))
    rows_at_each u (suc (suc w)) atom _ below = absurd (omega (arith, below))

-- the receipt of the left operand stands before that of the right one
both_shown : AreShown size (shown_moves difference) (of_the_left ∷ of_the_right ∷ [])
both_shown = a_receipt _ _ _ _ left_shown (a_receipt _ _ _ _ right_shown no_receipt)

not_turned : AreShown size (shown_moves difference) (of_the_right ∷ of_the_left ∷ []) → ⊥
not_turned (a_receipt _ _ _ _ shows _) =
    absurd (omega (arith, length_permutation (left_row ∷ []) [] (shows.rows_are 0 1 0 (omega arith) (omega arith))))

-- ---- taps

abbrev sums : ℕ → ℕ → ℕ → Totals
sums sent got listed = record { sent = sent; got = got; listed = listed }

-- the taps of both workers, before and after, and one that is read by nobody
abbrev before : List Totals
before = sums 0 0 0 ∷ sums 0 5 0 ∷ sums 5 0 0 ∷ sums 0 0 0 ∷ sums 0 0 0 ∷ []

abbrev after : List Totals
after = sums 1 0 0 ∷ sums 0 5 0 ∷ sums 6 0 0 ∷ sums 0 2 1 ∷ sums 0 0 0 ∷ []

moved : AreMoved (λ (t : Totals). t) (λ (t : Totals). 0) 2 (difference ∷ []) before after
moved = record {
  count = refl;
  tags = λ k d below. refl;
  firsts = first_at;
  seconds = second_at;
  others = other_at;
}
  where
    first_at : (u : ℕ) (d : Totals) → u < 2 → slice_index_or after (2 * u) d
        ≡ with_more (slice_index_or before (2 * u) d) (all_sent (difference ∷ []) u) 0 0
    first_at zero d _ = refl
    first_at (suc zero) d _ = refl
    first_at (suc (suc u)) d below = absurd (omega (arith, below))

    second_at : (w : ℕ) (d : Totals) → w < 2 → slice_index_or after (2 * w + 1) d
        ≡ with_more (slice_index_or before (2 * w + 1) d) 0 (all_received (difference ∷ []) w) (all_listed (difference ∷ []) w)
    second_at zero d _ = refl
    second_at (suc zero) d _ = refl
    second_at (suc (suc w)) d below = absurd (omega (arith, below))

    other_at : (k : ℕ) (d : Totals) → 4 ≤ k → slice_index_or after k d ≡ slice_index_or before k d
    other_at (suc (suc (suc (suc k)))) d past = refl
    other_at zero d past = absurd (omega (arith, past))
    other_at (suc zero) d past = absurd (omega (arith, past))
    other_at (suc (suc zero)) d past = absurd (omega (arith, past))
    other_at (suc (suc (suc zero))) d past = absurd (omega (arith, past))

-- as many rows were sent as received, and are
fair : AreFair (λ (t : Totals). t) (λ (t : Totals). 0) before after
fair = record { count = refl; tags = λ k d below. refl; even = λ e. refl }

-- one row less received
abbrev lost : List Totals
lost = sums 1 0 0 ∷ sums 0 5 0 ∷ sums 6 0 0 ∷ sums 0 1 1 ∷ sums 0 0 0 ∷ []

not_moved : AreMoved (λ (t : Totals). t) (λ (t : Totals). 0) 2 (difference ∷ []) before lost → ⊥
not_moved m = absurd (omega (arith, ap (λ (t : Totals). t.got) (m.seconds 1 (sums 0 0 0) (omega arith))))

not_fair : AreFair (λ (t : Totals). t) (λ (t : Totals). 0) before lost → ⊥
not_fair f = absurd (omega (arith, f.even refl))
