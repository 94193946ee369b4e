-- The shares of least load.
use Rattle.std.proofs.Common.{◌≡◌, ℕ, zero, suc, ◌+◌, ◌<◌, ◌≤◌, Bool, true, false, cond, List, [], ◌∷◌, length, map, get_or, take, refl, sym, ap, ◌∙◌, subst, arith}
use Rattle.std.specs.Prelude.{◌-◌, find, Some, unwrap_or, not, nat_lt, sum_by}
use Rattle.std.specs.List.{range_with_len, enumerate_from, zip, list_any}
use Rattle.std.specs.Ordering.{nat_cmp, ordering_then, is_lt}
use Rattle.std.specs.Cmp.Lexicographic.{slice_cmp}
use Rattle.std.proofs.lemmas.Bool.{ltb-true, ltb-false, lt-ltb, le-ltb, or_from, or_left, or_right}
use Rattle.std.proofs.lemmas.List.{length-map}
use Rattle.std.proofs.lemmas.List.FromFn.{length-enumerate_from}
use Rattle.share_chooser.specs.Load.{load_of, load_order, largest, product, rows_sent, comes_before, IsLeastLoad}
use Rattle.share_chooser.specs.Best.{best_shares}
use Rattle.share_chooser.proofs.BestLemmas.{best_is_least}
use Rattle.rel_base.specs.Limits.{most_workers}
use Rattle.myrial_ast.specs.Combinations.{Rows}
use Rattle.algebra.specs.Trees.{Shape}
use Rattle.algebra.specs.Shapes.{kept_of, is_acyclic_shape}
use Rattle.placement.specs.Laws.{IsSharing}
use Rattle.placement.specs.Layouts.{PlacedRelation, rows_of, reduced_item, reduced_items, joined_items, is_most, staying_atom}
use Rattle.placement.specs.Plans.{ShuffleRule, LeastLoad, Fixed, uses_of, kept_sizes, ruled_shuffle}
use Rattle.placement.proofs.RuleLemmas.{fitting-sharing}
use Rattle.placement.proofs.JoinedLemmas.{reduced_are_kept}
use Rattle.placement.specs.declared.choices.ShuffleChoice.{ShuffleChoice}
use Rattle.placement.specs.declared.choices.ShuffleChoice.TheVariants as choice
use Rattle.join_plans.specs.declared.sizes.Reduction.TheVariants as reduction
use Rattle.placement.specs.Choices.{shuffle_of}
use Rattle.join_plans.specs.JoinPlans.{sizes_of, reduction_of, joined_sizes, chosen, staying_of, IsChosenFor, ChosenAreRuled}
use Rattle.join_plans.specs.inner.Lines.{IsFitting}

-- what stands behind the sizes of all atoms is not read
zip-take : (uses sizes : List ℕ) → zip uses sizes ≡ zip uses (take (length uses) sizes)
zip-take [] sizes = refl
zip-take (u ∷ uses) [] = refl
zip-take (u ∷ uses) (s ∷ sizes) = ap (λ rest. (u, s) ∷ rest) (zip-take uses sizes)

pub load-taken : (uses sizes shares : List ℕ) → load_of uses sizes shares ≡ load_of uses (take (length uses) sizes) shares
unfolding load_of
load-taken uses sizes shares = ap (λ pairs. record { num = sum_by (rows_sent shares) pairs; den = product shares })
    (zip-take uses sizes)

least-taken : (uses sizes : List ℕ) (variables workers : ℕ) (shares : List ℕ) → IsLeastLoad uses sizes variables workers shares
    → IsLeastLoad uses (take (length uses) sizes) variables workers shares
unfolding comes_before
least-taken uses sizes variables workers shares least = record {
  vector = least.vector;
  least = λ other among. sym
      (λ i. is_lt (ordering_then (load_order (load-taken uses sizes other i) (load-taken uses sizes shares i))
      (ordering_then (nat_cmp (largest other) (largest shares)) (slice_cmp nat_cmp other shares)))) ∙ least.least other among;
}

-- the shares of least load for these sizes, and whatever stands behind them, are the best ones
pub least-is-best : (uses sizes joined : List ℕ) (variables workers : ℕ) (shares : List ℕ) → 1 ≤ workers → length uses ≡ length joined
    → take (length joined) sizes ≡ joined → IsLeastLoad uses sizes variables workers shares
    → shares ≡ best_shares uses joined variables workers
least-is-best uses sizes joined variables workers shares some long front least =
    (best_is_least uses joined variables workers some).1 shares
    (subst (λ s. IsLeastLoad uses s variables workers shares) (ap (λ n. take n sizes) long ∙ front)
    (least-taken uses sizes variables workers shares least))

pub load-den : (uses sizes shares : List ℕ) → (load_of uses sizes shares).den ≡ product shares
unfolding load_of
load-den uses sizes shares = refl

-- the load of these rows, where so many stand in front
pub load-front : (uses own sizes joined shares : List ℕ) → uses ≡ own → length own ≡ length joined → take (length joined) sizes ≡ joined
    → load_of uses sizes shares ≡ load_of own joined shares
load-front uses own sizes joined shares same long front =
    ap (λ us. load_of us sizes shares) same ∙ load-taken own sizes shares
    ∙ ap (λ s. load_of own s shares) (ap (λ n. take n sizes) long ∙ front)

-- ---- the shuffle of a rule

pub chosen-ruled : (rule : ShuffleRule) (workers : ℕ) (shape : Shape) (given : List Rows)
    → chosen rule workers shape (kept_sizes shape given) ≡ ruled_shuffle rule workers shape given
chosen-ruled LeastLoad workers shape given = refl
chosen-ruled (Fixed shuffle) workers shape given = refl

sizes-long : (shape : Shape) (given : List Rows) → length (kept_sizes shape given) ≡ length given
sizes-long shape given =
    length-map (enumerate_from 0 given) (λ (e : ℕ × Rows). length (kept_of shape e.0 e.1)) ∙ length-enumerate_from 0 given

pub staying-same : (shape : Shape) (given : List Rows) → staying_of (kept_sizes shape given) ≡ staying_atom shape given
staying-same shape given =
    ap (λ n. unwrap_or (find (is_most (kept_sizes shape given)) (range_with_len 0 n)) 0) (sizes-long shape given)

-- the reduced rows are kept rows, so that they are as many
reduced-sizes : (shape : Shape) (tables : List Rows) (n : ℕ) (given : List PlacedRelation)
    → sizes_of (rows_of (map (λ (e : ℕ × PlacedRelation). reduced_item shape tables e.0 e.1) (enumerate_from n given)))
    ≡ map (λ (e : ℕ × Rows). length (kept_of shape e.0 e.1))
    (enumerate_from n (rows_of (map (λ (e : ℕ × PlacedRelation). reduced_item shape tables e.0 e.1) (enumerate_from n given))))
reduced-sizes shape tables n [] = refl
reduced-sizes shape tables n (p ∷ given) =
    (λ i. length (sym (reduced_are_kept shape tables n p.relation.rows) i) ∷ reduced-sizes shape tables (n + 1) given i)

-- the numbers of joined rows are those of the kept rows of what is joined
pub joined-kept : (reduce : Bool) (shape : Shape) (given : List PlacedRelation)
    → joined_sizes (reduction_of reduce shape) shape given ≡ kept_sizes shape (rows_of (joined_items reduce shape given))
joined-kept false shape given = refl
joined-kept true shape given = by (is_acyclic_shape shape)
  where
    by : (b : Bool) → joined_sizes (cond b reduction.Reduced reduction.Cyclic) shape given
        ≡ kept_sizes shape (rows_of (cond b (reduced_items shape given) given))
    by true = reduced-sizes shape (rows_of given) 0 given
    by false = refl

pub chosen_are_ruled : ChosenAreRuled
chosen_are_ruled = record { shuffle = chosen-ruled; stays = staying-same; sizes = joined-kept }

-- what is chosen has shares that so many workers may have
pub chosen-shares : (rule : ShuffleRule) (workers : ℕ) (shape : Shape) (joined : List ℕ) (made : ShuffleChoice) → 1 ≤ workers
    → IsChosenFor rule workers shape joined made → IsSharing workers shape (shuffle_of made)
chosen-shares rule workers shape joined made some is = subst (IsSharing workers shape) (sym is.shuffle) (shares rule)
  where
    shares : (rule : ShuffleRule) → IsSharing workers shape (chosen rule workers shape joined)
    shares LeastLoad = (best_is_least (uses_of shape) joined (length shape.variables) workers some).0.vector
    shares (Fixed shuffle) = fitting-sharing workers shape shuffle

found-below : (p : ℕ → Bool) (d m a n : ℕ) → d < m → a + n ≤ m → unwrap_or (find p (range_with_len a n)) d < m
found-below p d m a zero low room = low
found-below p d m a (suc n) low room = by (p a) (found-below p d m (a + 1) n low (omega arith))
  where
    by : (b : Bool) → unwrap_or (find p (range_with_len (a + 1) n)) d < m
        → unwrap_or (cond b (Some a) (find p (range_with_len (a + 1) n))) d < m
    by true rest = omega (arith, room)
    by false rest = rest

staying-inside : (joined : List ℕ) → 0 < length joined → staying_of joined < length joined
staying-inside joined some = found-below (is_most joined) 0 (length joined) 0 (length joined) some (omega arith)

-- what is chosen fits
pub chosen-fits : (rule : ShuffleRule) (workers : ℕ) (shape : Shape) (joined : List ℕ) (made : ShuffleChoice) → 1 ≤ workers
    → workers ≤ most_workers → length joined ≡ length shape.atoms → 0 < length shape.atoms
    → IsChosenFor rule workers shape joined made → IsFitting shape made
chosen-fits rule workers shape joined (choice.Cells shares) some few long here is =
    let vector = chosen-shares rule workers shape joined (choice.Cells shares) some is in
    record {
      one_each = vector.one_each;
      positive = vector.positive;
      cells = omega (arith, vector.cells, few);
    }
chosen-fits rule workers shape joined choice.Keys some few long here is = tt
chosen-fits rule workers shape joined (choice.Broadcast stays) some few long here is =
    omega (arith, is.stays, staying-inside joined (omega (arith, long, here)), long)

-- ---- the atom that stays

-- the first number that passes is found
pub find-first : (p : ℕ → Bool) (a n s : ℕ) → a ≤ s → s < a + n → p s ≡ true → ((k : ℕ) → a ≤ k → k < s → p k ≡ false) → find p (range_with_len a n) ≡ Some s
find-first p a zero s from to good before = absurd (omega arith)
find-first p a (suc n) s from to good before =
    by (nat_lt a s) refl (λ less. find-first p (a + 1) n s (omega arith) (omega arith) good (λ k low high. before k (omega arith) high))
  where
    by : (b : Bool) → nat_lt a s ≡ b → (a < s → find p (range_with_len (a + 1) n) ≡ Some s) → find p (range_with_len a (suc n)) ≡ Some s
    by true e rest = let less = ltb-true a s e in let other = before a (omega arith) less in rw other (rest less)
    by false e rest =
        let same : a ≡ s = omega (arith, ltb-false a s e) in
        let here : p a ≡ true = ap p same ∙ good in
        rw here (ap Some same)

-- no number of a list is over one that none exceeds, and some is over one that is exceeded
none-over : (m : ℕ) (xs : List ℕ) → ((k : ℕ) → k < length xs → get_or xs k 0 ≤ m) → list_any (nat_lt m) xs ≡ false
none-over m [] all = refl
none-over m (x ∷ xs) all =
    or_from (nat_lt m x) (list_any (nat_lt m) xs) (le-ltb m x (all 0 (omega arith))) (none-over m xs (λ k low. all (suc k) (omega arith)))

some-over : (m : ℕ) (xs : List ℕ) (k : ℕ) → k < length xs → m < get_or xs k 0 → list_any (nat_lt m) xs ≡ true
some-over m [] k low over = absurd (omega arith)
some-over m (x ∷ xs) zero low over = or_left (nat_lt m x) (list_any (nat_lt m) xs) (lt-ltb m x over)
some-over m (x ∷ xs) (suc k) low over = or_right (nat_lt m x) (list_any (nat_lt m) xs) (some-over m xs k (omega arith) over)

-- what is known of the atom that stays after the first i sizes
pub record IsMostOf (joined : List ℕ) (i s : ℕ) : Type 0 where
  pub low : s ≤ i - 1
  pub most : (k : ℕ) → k < i → get_or joined k 0 ≤ get_or joined s 0
  pub first : (k : ℕ) → k < s → get_or joined k 0 < get_or joined s 0

pub most_none : (joined : List ℕ) → IsMostOf joined 0 0
most_none joined = record { low = omega arith; most = λ k low. absurd (omega arith); first = λ k low. absurd (omega arith) }

one-more : (joined : List ℕ) (i m k : ℕ) → (k < i → get_or joined k 0 ≤ m) → get_or joined i 0 ≤ m → k < i + 1 → get_or joined k 0 ≤ m
one-more joined i m k before here low = by (nat_lt k i) refl
  where
    by : (b : Bool) → nat_lt k i ≡ b → get_or joined k 0 ≤ m
    by true e = before (ltb-true k i e)
    by false e = let same : i ≡ k = omega (arith, ltb-false k i e) in subst (λ j. get_or joined j 0 ≤ m) same here

pub most_new : (joined : List ℕ) (i s : ℕ) → get_or joined s 0 < get_or joined i 0 → IsMostOf joined i s → IsMostOf joined (i + 1) i
most_new joined i s over so = record {
  low = omega arith;
  most = λ k low. one-more joined i (get_or joined i 0) k (λ less. omega (arith, so.most k less)) (omega arith) low;
  first = λ k low. omega (arith, so.most k low);
}

pub most_old : (joined : List ℕ) (i s : ℕ) → get_or joined i 0 ≤ get_or joined s 0 → IsMostOf joined i s → IsMostOf joined (i + 1) s
most_old joined i s under so = record {
  low = omega (arith, so.low);
  most = λ k low. one-more joined i (get_or joined s 0) k (so.most k) under low;
  first = so.first;
}

-- after all sizes it is the first of the greatest
pub most-stays : (joined : List ℕ) (s : ℕ) → IsMostOf joined (length joined) s → s ≡ staying_of joined
most-stays [] s so = omega (arith, so.low)
most-stays (size ∷ joined) s so =
    let all = size ∷ joined in
    let good : is_most (size ∷ joined) s ≡ true = ap not (none-over (get_or all s 0) all so.most) in
    let none : (k : ℕ) → 0 ≤ k → k < s → is_most (size ∷ joined) k ≡ false =
    λ k from low. ap not (some-over (get_or all k 0) all s (omega (arith, so.low)) (so.first k low)) in
    sym (ap (λ found. unwrap_or found 0) (find-first (is_most all) 0 (length all) s (omega arith) (omega (arith, so.low)) good none))
