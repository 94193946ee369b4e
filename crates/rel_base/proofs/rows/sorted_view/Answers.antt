use Rattle.std.proofs.Common.{◌≡◌, ◌∙◌, length, map, ap, arith, rules, is_lt, ◌∷◌, []}
use Rattle.std.specs.Ordering.{ordering_then, nat_cmp, int_cmp}
use Rattle.std.proofs.lemmas.List.{length-map}
use Rattle.std.proofs.lemmas.List.Sorted.{All-permutation, IsPermutation-map}
use Rattle.rel_base.specs.Picks.{items_at}
use Rattle.rel_base.specs.Values.{row_order}
use Rattle.rel_base.specs.Beginnings.{BeginsWith}
use Rattle.rel_base.proofs.SortLemmas.{IsSortedBy-part, not_less-row, items_at-numbered, numbers_within}
use Rattle.rel_base.proofs.rows.sorted_view.Goals as goal

pub at_places-requires-clause-within : goal.at_places-requires-clause-within
at_places-requires-clause-within c =
    let rows = c.args.rows.now in
    let pairs = c.sort_unstable.new.self.items in
    let all = All-permutation (λ e. items_at rows (e.3 ∷ []) ≡ e.2.now ∷ []) _ _ c.sort_unstable.ensures.permutation c.in_ok-numbered.ensures.numbered in
    rw (c.as_slice-2.ensures.value, c.in_ok-numbers.ensures, c.as_slice.ensures.value) (numbers_within (λ e. e.2.now) (λ e. e.3) rows pairs all)

pub at_places-requires-clause-room : goal.at_places-requires-clause-room
at_places-requires-clause-room c =
    let pairs = c.sort_unstable.new.self.items in
    let same : length pairs ≡ length c.in_ok-numbered.numbered.items = search rules in
    let numbers = c.as_slice-2.ensures.value ∙ c.in_ok-numbers.ensures ∙ ap (map (λ e. e.3)) c.as_slice.ensures.value in
    omega (arith, ap length numbers, length-map pairs (λ e. e.3), same, c.in_ok-numbered.ensures.few)

pub returns : goal.returns
returns c =
    let rows = c.args.rows.now in
    let pairs = c.sort_unstable.new.self.items in
    let all = All-permutation (λ e. items_at rows (e.3 ∷ []) ≡ e.2.now ∷ []) _ _ c.sort_unstable.ensures.permutation c.in_ok-numbered.ensures.numbered in
    let numbers = c.as_slice-2.ensures.value ∙ c.in_ok-numbers.ensures ∙ ap (map (λ e. e.3)) c.as_slice.ensures.value in
    let made : c.in_ok-made.made ≡ map (λ e. e.2.now) pairs =
    c.in_ok-made.ensures ∙ ap (items_at rows) numbers ∙ items_at-numbered (λ e. e.2.now) (λ e. e.3) rows pairs all in
    let moved = IsPermutation-map (λ e. e.2.now) _ _ c.sort_unstable.ensures.permutation in
    record {
      same_rows = rw made (rw c.in_ok-numbered.ensures.rows at moved);
      ascending = rw made (IsSortedBy-part (λ e. BeginsWith e.2.now e.0 e.1) (λ e. e.2.now) (λ r s. is_lt (row_order r s))
          (λ p q. is_lt (ordering_then (ordering_then (ordering_then (nat_cmp p.0 q.0) (int_cmp p.1 q.1)) (row_order p.2.now q.2.now)) (nat_cmp p.3 q.3)))
          (λ p q one other e. not_less-row p.2.now q.2.now (nat_cmp p.3 q.3) one.is_text other.is_text (rw (one.is_rank, one.is_number, other.is_rank, other.is_number) at e))
          pairs (All-permutation (λ e. BeginsWith e.2.now e.0 e.1) _ _ c.sort_unstable.ensures.permutation c.in_ok-numbered.ensures.leading)
          c.sort_unstable.ensures.sorted);
    }
