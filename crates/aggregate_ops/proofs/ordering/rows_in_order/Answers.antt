use Rattle.std.proofs.Common.{◌≡◌, ◌∙◌, map, ap, sym, subst, is_lt, refl}
use Rattle.std.proofs.lemmas.Result.{IfOk-weaker}
use Rattle.std.specs.declared.cmp.Ordering.{Ordering}
use Rattle.std.specs.declared.cmp.Ordering.TheVariants.{Less, Equal, Greater}
use Rattle.std.specs.Ordering.{ordering_then, nat_cmp, int_cmp}
use Rattle.std.proofs.lemmas.List.Sorted.{All-permutation, IsPermutation-map}
use Rattle.rel_base.specs.Bags.{IsSortedPermutation}
use Rattle.rel_base.specs.Values.{row_order}
use Rattle.rel_base.specs.Beginnings.{BeginsWith}
use Rattle.myrial_ast.specs.Combinations.{Rows}
use Rattle.rel_base.proofs.SortLemmas.{IsSortedBy-part, not_less-row}
use Rattle.aggregate_ops.proofs.ordering.rows_in_order.Goals as goal

-- nothing behind decides
then-equal : (r : Ordering) → ordering_then r Equal ≡ r
then-equal Less = refl
then-equal Equal = refl
then-equal Greater = refl

pub returns-clause-order : goal.returns-clause-order
returns-clause-order c =
    let pairs = c.sort_unstable.new.self.items in
    let moved = IsPermutation-map (λ e. e.2.now) _ _ c.sort_unstable.ensures.permutation in
    let order : IsSortedPermutation c.args.rows.now (map (λ e. e.2.now) pairs) = record {
      same_rows = rw c.in_ok-led.ensures.rows at moved;
      ascending = IsSortedBy-part (λ e. BeginsWith e.2.now e.0 e.1) (λ e. e.2.now) (λ r s. is_lt (row_order r s))
          (λ p q. is_lt (ordering_then (ordering_then (nat_cmp p.0 q.0) (int_cmp p.1 q.1)) (row_order p.2.now q.2.now)))
          (λ p q one other e. not_less-row p.2.now q.2.now Equal one.is_text other.is_text
          (ap is_lt (then-equal _) ∙ rw (one.is_rank, one.is_number, other.is_rank, other.is_number) at e))
          pairs (All-permutation (λ e. BeginsWith e.2.now e.0 e.1) _ _ c.sort_unstable.ensures.permutation c.in_ok-led.ensures.leading)
          c.sort_unstable.ensures.sorted;
    } in
    IfOk-weaker c.bare_rows.result _ _
    (λ made is. subst (λ (rows : Rows). IsSortedPermutation c.args.rows.now rows) (sym (is ∙ ap (map (λ e. e.2.now)) c.deref.ensures.value)) order)
    c.bare_rows.ensures
