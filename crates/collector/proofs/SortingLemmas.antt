-- What compares by keys of rows, and what was compared each with the next.
use Rattle.std.proofs.Common.{◌≡◌, ◌∙◌, ◌+◌, ◌<◌, List, get_or, length, All, Some, true, false, refl, sym, ap, subst, arith, is_lt}
use Rattle.std.specs.Borrow.{Bor}
use Rattle.std.specs.List.{AllAdjacentBelow}
use Rattle.std.specs.Iterator.{YieldsFirstRef}
use Rattle.std.specs.Iterator.Runs.{Run, YieldsRun}
use Rattle.std.proofs.lemmas.Iterator.{items_from_drains}
use Rattle.std.proofs.lemmas.Iterator.Consumers.{YieldsList-from_first}
use Rattle.std.proofs.lemmas.List.{get_or-map, length-map}
use Rattle.std.specs.Prelude.{IsSorted}
use Rattle.std.specs.declared.cmp.Ordering.{Ordering}
use Rattle.std.specs.declared.cmp.Ordering.TheVariants.{Less, Equal, Greater}
use Rattle.std.specs.Ordering.{as_partial_cmp, is_le, is_some_and, ordering_then, ordering_reverse, nat_cmp, int_cmp}
use Rattle.std.specs.Cmp.{IsTotalOrder, on_total}
use Rattle.std.specs.Cmp.Lexicographic.{slice_partial_cmp, lists_agrees}
use Rattle.rel_base.specs.declared.values.Value.{Value}
use Rattle.rel_base.specs.Values.{value_order, row_order}
use Rattle.rel_base.specs.ValueLaws.{row_order_total}
use Rattle.rel_base.specs.Beginnings.{leading_rank, leading_number, leading_bytes}
use Rattle.rel_base.proofs.SortLemmas.{IsSortedBy-part, not_less-row}
use Rattle.collector.specs.inner.Sorted.{rows_at, reference_order}

pub then_Equal : (first : Ordering) → ordering_then first Equal ≡ first
then_Equal Less = refl
then_Equal Equal = refl
then_Equal Greater = refl

-- how two rows compare by what they begin with
abbrev pub by_beginning : List Value → List Value → Ordering
by_beginning row other =
    ordering_then (nat_cmp (leading_rank row) (leading_rank other)) (int_cmp (leading_number row) (leading_number other))

-- what compares by what rows begin with and then by the rows, and is not less, is not less by the rows
pub not_less-keyed : (row other : List Value) → All (λ byte. byte < 256) (leading_bytes row)
    → All (λ byte. byte < 256) (leading_bytes other)
    → is_lt (ordering_then (by_beginning row other) (row_order row other)) ≡ false → is_lt (row_order row other) ≡ false
not_less-keyed row other bytes others e = not_less-row row other Equal bytes others (ap is_lt (then_Equal _) ∙ e)

reversed : (first : Ordering) → is_le first ≡ true → is_lt (ordering_reverse first) ≡ false
reversed Less e = refl
reversed Equal e = refl
reversed Greater e = cc

-- whether a row is at most another, by `<=` at their values, is so by the order of rows
pub at_most_as_rows : (row other : List Value)
    → is_some_and is_le (slice_partial_cmp (as_partial_cmp value_order) row other) ≡ is_le (row_order row other)
at_most_as_rows row other =
    let agree : slice_partial_cmp (as_partial_cmp value_order) row other ≡ Some (row_order row other) =
    lists_agrees {R = value_order} (λ x y. refl) row other in
    ap (is_some_and is_le) agree

-- a list of which each item is at most the next is in order
pub in_order_by_neighbours : {T : Type 0} (order : T → T → Ordering) → IsTotalOrder order → (xs : List T)
    → AllAdjacentBelow (λ x y. is_le (order x y) ≡ true) xs (length xs) → IsSorted order xs
in_order_by_neighbours order total xs next k d low high = ap is_lt (total.antisymm _ _) ∙ reversed _ (next k d high)

-- references whose rows are in order are so too
pub in_order_as_rows : (rows : List (Bor (List Value))) → IsSorted row_order (rows_at rows) → IsSorted reference_order rows
in_order_as_rows rows sorted k d low high =
    let now = λ (row : Bor (List Value)). row.now in
    let fact = sorted k d.now low (omega (arith, high, length-map rows now)) in
    rw (get_or-map now rows (k + 1) d d.now high, get_or-map now rows k d d.now (omega (arith, high))) at fact

-- references are ordered as their rows are
pub ordered_references : IsTotalOrder reference_order
ordered_references = on_total (λ (row : Bor (List Value)). row.now) row_order_total

-- and rows whose references are in order are so
pub rows_in_order : (rows : List (Bor (List Value))) → IsSorted reference_order rows → IsSorted row_order (rows_at rows)
rows_in_order rows sorted =
    IsSortedBy-part (λ (row : Bor (List Value)). Unit {0}) (λ row. row.now) (λ r s. is_lt (row_order r s))
    (λ p q. is_lt (reference_order p q)) (λ p q one other less. less) rows (λ k d low. tt) sorted

-- a whole run over rows gives references to them
pub rows_of_run : (rows : List (List Value)) (p : Run (YieldsFirstRef (λ (left : List (List Value)). left))) → p.whole ≡ true → p.from ≡ rows
    → rows_at p.items ≡ rows
unfolding YieldsRun
rows_of_run rows p whole from =
    let d = p.gave.0 in
    items_from_drains p.items (d.0, d.1, λ _. d.2 whole) (YieldsList-from_first (λ (x : Bor (List Value)). x.now) (λ (left : List (List Value)). left) rows from)

-- rows of which each is at most the next are in order
pub in_order_by_run : (rows : List (List Value)) (references : List (Bor (List Value))) → rows_at references ≡ rows
    → AllAdjacentBelow (λ r s. is_some_and is_le (slice_partial_cmp (as_partial_cmp value_order) r.now s.now) ≡ true) references (length references)
    → IsSorted row_order rows
in_order_by_run rows references same next =
    subst (IsSorted row_order) same (rows_in_order references (in_order_by_neighbours reference_order ordered_references references
    (λ k d high. sym (at_most_as_rows (get_or references k d).now (get_or references (k + 1) d).now) ∙ next k d high)))
