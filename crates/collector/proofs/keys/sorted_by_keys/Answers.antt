use Rattle.std.proofs.Common.{◌≡◌, ◌∙◌, map, ap, rules, is_lt}
use Rattle.std.specs.Ordering.{ordering_then, nat_cmp, int_cmp}
use Rattle.std.proofs.lemmas.List.Sorted.{All-permutation, IsPermutation-map}
use Rattle.rel_base.specs.Values.{row_order}
use Rattle.rel_base.specs.Beginnings.{BeginsWith}
use Rattle.rel_base.proofs.SortLemmas.{IsSortedBy-part}
use Rattle.collector.proofs.SortingLemmas.{in_order_as_rows, not_less-keyed}
use Rattle.collector.proofs.keys.sorted_by_keys.Goals as goal

pub returns : goal.returns
returns c =
    let pairs = c.sort_unstable.new.self.items in
    let made : map (λ row. row.now) c.in_ok-rows.rows.items ≡ map (λ e. e.2.now) pairs =
    c.in_ok-rows.ensures ∙ ap (map (λ e. e.2.now)) c.deref.ensures.value in
    let moved = IsPermutation-map (λ e. e.2.now) _ _ c.sort_unstable.ensures.permutation in
    let sorted = IsSortedBy-part (λ e. BeginsWith e.2.now e.0 e.1) (λ e. e.2.now) (λ r s. is_lt (row_order r s))
    (λ p q. is_lt (ordering_then (ordering_then (nat_cmp p.0 q.0) (int_cmp p.1 q.1)) (row_order p.2.now q.2.now)))
    (λ p q one other e. not_less-keyed p.2.now q.2.now one.is_text other.is_text
    (rw (one.is_rank, one.is_number, other.is_rank, other.is_number) at e))
    pairs (All-permutation (λ e. BeginsWith e.2.now e.0 e.1) _ _ c.sort_unstable.ensures.permutation c.in_ok-keyed.ensures.keys)
    c.sort_unstable.ensures.sorted in
    record {
      same_rows = rw made (rw c.in_ok-keyed.ensures.rows at moved);
      ascending = record { in_order = in_order_as_rows c.in_ok-rows.rows.items (rw made sorted); long = search rules };
    }
