-- What a merge of lists that are in order comes to.
use Rattle.std.proofs.Common.{◌≡◌, ◌∙◌, zero, suc, ◌<◌, ◌^◌, Bool, true, List, [], ◌∷◌, ◌++◌, map, length, Option, Some, All, refl}
use Rattle.std.proofs.Common.{sym, ap, arith, append-nil, length-append, is_lt}
use Rattle.std.specs.Prelude.{IsPermutation, IsSorted, vec_len}
use Rattle.std.specs.Global.{Vec, Global}
use Rattle.std.specs.declared.vec.IntoIter.{IntoIter}
use Rattle.std.specs.declared.cmp.Ordering.{Ordering}
use Rattle.std.specs.Ordering.{partial_lt}
use Rattle.std.specs.Cmp.{IsTotalOrder, IsStrictWeakOrder}
use Rattle.std.specs.List.Sorted.{IsSortedBy}
use Rattle.std.specs.Iterator.{Drains, DrainsIf}
use Rattle.std.specs.Iterator.Runs.{Run, YieldsRun, EveryRun, ItemsAre}
use Rattle.std.specs.Vec.Iter.{into_iter_items, into_iter_len, into_iter_steps}
use Rattle.std.proofs.lemmas.List.MinMax.{ranks_by}
use Rattle.std.proofs.lemmas.List.Sorted.{IsPermutation-refl}
use Rattle.std.proofs.lemmas.Iterator.{items_from_drains}
use Rattle.std.proofs.lemmas.Iterator.Adapters.{YieldsList-from_vec}
use Rattle.itertools.specs.declared.kmerge_impl.KMergeBy.{KMergeBy}
use Rattle.itertools.specs.declared.kmerge_impl.KMergeLt.{KMergeLt}
use Rattle.itertools.specs.KMerge.{SourcesGive, MergeGivesAll, MergeInOrder, joined_lists, kmerge_steps}
use Rattle.collector.specs.inner.Merged.{IsAscending, IsMerged}

module _ {T : Type 0} (order : T → T → Ordering) where
  -- a lone list in order is merged already
  pub merged_alone : (lists before : List (Vec T)) (list : Vec T) → lists ≡ before ++ list ∷ [] → length lists ≡ 1
      → All (IsAscending order) lists → IsMerged order lists list
  merged_alone lists [] list is long all =
      let own : IsAscending order list = rw is at all 0 list (omega (arith, long)) in
      record {
        same_items = rw (is, append-nil list.items) (IsPermutation-refl list.items);
        in_order = own.in_order;
      }
  merged_alone lists (other ∷ before) list is long all =
      absurd (omega (arith, ap length is, long, length-append before (list ∷ [])))

module _ {T : Type 0} (order : T → T → Ordering) (partial : T → T → Option Ordering) (total : IsTotalOrder order)
    (agree : (x y : T) → partial x y ≡ Some (order x y)) where
  -- `<` is the test of the order
  less_is : (x y : T) → partial_lt partial x y ≡ is_lt (order x y)
  less_is x y = rw (agree x y) refl

  pub strict : IsStrictWeakOrder (partial_lt partial)
  strict =
      let base : IsStrictWeakOrder (λ x y. is_lt (order x y)) = ranks_by total (λ (x : T). x) in
      record {
        one_way = λ x y less. less_is y x ∙ base.one_way x y (sym (less_is x y) ∙ less);
        chain = λ x y z one two. less_is x z ∙ base.chain x y z (sym (less_is x y) ∙ one) (sym (less_is y z) ∙ two);
      }

  by_less : (xs : List T) → IsSorted order xs → IsSortedBy (partial_lt partial) xs
  by_less xs sorted k d low high = less_is _ _ ∙ sorted k d low high

  pub by_order : (xs : List T) → IsSortedBy (partial_lt partial) xs → IsSorted order xs
  by_order xs sorted k d low high = sym (less_is _ _) ∙ sorted k d low high

  pub all_by_less : (lists : List (Vec T)) → All (IsAscending order) lists
      → All (IsSortedBy (partial_lt partial)) (map (λ list. list.items) lists)
  all_by_less [] all k d low = absurd (omega (arith, low))
  all_by_less (list ∷ lists) all zero d low = by_less list.items (all 0 list (omega arith)).in_order
  all_by_less (list ∷ lists) all (suc k) d low =
      all_by_less lists (λ i e less. all (suc i) e (omega (arith, less))) k d (omega (arith, low))

abbrev pub Merge : Type 0 → Type 0
Merge T = KMergeBy (IntoIter T Global) KMergeLt Global T

pub map_same : {X : Type 0} (xs : List X) → map (λ x. x) xs ≡ xs
map_same [] = refl
map_same (x ∷ xs) = ap (λ ys. x ∷ ys) (map_same xs)

module _ {T Z : Type 0} where
  -- a whole run of a list's iterator gives the list
  pub run_items : (xs : List T) (p : Run (into_iter_steps {X = T} {Z = Z})) → p.whole ≡ true
      → into_iter_items p.from ≡ xs → into_iter_len p.from ≡ length xs
      → p.items ≡ xs
  unfolding YieldsRun
  run_items xs p whole items long =
      let d = p.gave.0 in
      sym (map_same p.items) ∙ items_from_drains p.items (d.0, d.1, λ _. d.2 whole) (YieldsList-from_vec xs items long)

module _ {T : Type 0} where
  -- how a list becomes an iterator
  abbrev pub becomes : Vec T → IntoIter T Global → Type 0
  becomes list it =
      (into_iter_items it ≡ list.items) × (into_iter_len it ≡ vec_len list) × (into_iter_len it < 2 ^ 64)
      × EveryRun (into_iter_steps {X = T} {Z = Global}) (λ p. ItemsAre p (into_iter_items p.from))

module _ {T : Type 0} {order : T → T → Ordering} where
  -- each list is a source of its items
  pub sources : (lists : List (Vec T)) → All (IsAscending order) lists
      → SourcesGive becomes (into_iter_steps {X = T} {Z = Global}) lists (map (λ list. list.items) lists)
  sources [] all = tt
  sources (list ∷ lists) all =
      let own : IsAscending order list = all 0 list (omega arith) in (
        λ j given. (YieldsList-from_vec list.items given.0 (given.1 ∙ own.long)).runs,
        sources lists (λ k d low. all (suc k) d (omega (arith, low))),
      )

module _ {T : Type 0} (partial : T → T → Option Ordering) where
  -- the merge compares by `<`
  abbrev pub compares : KMergeLt → (T → T → Bool) → Type 0
  compares _ first = first ≡ partial_lt partial

  -- a call of the merge's `next`
  abbrev pub steps : Merge T → Option T → Merge T → Type 0
  steps = kmerge_steps (into_iter_steps {X = T} {Z = Global}) compares

  module _ (merge : Merge T) (xs : List T) (drained : Drains steps merge xs) where
    drains : DrainsIf steps (true ≡ true) merge xs
    drains = (drained.1.0, drained.1.1, λ _. (drained.0, drained.1.2))

    -- a merge that was drained gave the items of all lists
    pub all_given : (ls : List (List T)) → MergeGivesAll (into_iter_steps {X = T} {Z = Global}) compares merge ls
        → IsPermutation (joined_lists ls) xs
    all_given ls gives =
        let given = gives xs true drains in
        rw (given.2 refl, append-nil xs) at given.1

    -- and in order, where it gives in order
    pub given_in_order : MergeInOrder (into_iter_steps {X = T} {Z = Global}) compares (partial_lt partial) merge
        → IsSortedBy (partial_lt partial) xs
    given_in_order gives = gives xs true drains
