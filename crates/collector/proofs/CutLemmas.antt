-- Sorted rows that are cut before a row, and put in one order again.
use Rattle.std.proofs.Common.{◌≡◌, ◌∙◌, ℕ, zero, suc, ◌+◌, ◌-◌, ◌<◌, ◌≤◌, ◌⊎◌, inl, inr, Bool, true, false, List, [], ◌∷◌, ◌++◌, get_or, length, drop, All, refl, sym, ap, subst, arith, is_lt}
use Rattle.std.specs.Prelude.{IsSorted, slice_range}
use Rattle.std.specs.declared.cmp.Ordering.{Ordering}
use Rattle.std.specs.declared.cmp.Ordering.TheVariants.{Less, Equal, Greater}
use Rattle.std.specs.Ordering.{is_gt, ordering_reverse}
use Rattle.std.proofs.lemmas.Bool.{cases_lt}
use Rattle.std.proofs.lemmas.List.{append-nil, append_assoc, get_or-drop, get_or-take, get_or_default, length-drop, length-take, drop-drop, take-append-drop}
use Rattle.std.proofs.lemmas.List.Concat.{flat_map-append}
use Rattle.std.proofs.lemmas.List.Elements.{All-append}
use Rattle.std.proofs.lemmas.List.Sorted.{IsPermutation-append, IsPermutation-append_comm, IsPermutation-append_left, IsPermutation-append_right, IsPermutation-trans, All-permutation}
use Rattle.rel_base.specs.declared.values.Value.{Value}
use Rattle.rel_base.specs.Bags.{SameBag, sorted}
use Rattle.rel_base.specs.Picks.{joined}
use Rattle.rel_base.specs.Values.{row_order}
use Rattle.rel_base.specs.ValueLaws.{row_order_total, row_order-IsAntisymmetric}
use Rattle.rel_base.proofs.SortedLemmas.{AtMost, Ascending, Ascending-sorted_by, Ascending-IsSorted, IsSorted-Ascending, IsPermutation-sorted_by, sorted_by-unique}
use Rattle.collector.specs.inner.Cuts.{stands_before, IsPlaceOf, IsCutAt}

abbrev Row : Type 0
Row = List Value

abbrev pub IsBefore : Row → Row → Type 0
IsBefore splitter row = stands_before splitter row ≡ true

abbrev pub IsBehind : Row → Row → Type 0
IsBehind splitter row = stands_before splitter row ≡ false

-- ---- how three rows compare

less : (r : Ordering) → is_lt r ≡ true → r ≡ Less
less Less e = refl
less Equal e = cc
less Greater e = cc

-- what is at most a row that stands before the splitter stands before it too
before_at_most : (splitter row other : Row) → is_gt (row_order row other) ≡ false → IsBefore splitter other → IsBefore splitter row
before_at_most splitter row other low before = by (row_order row other) refl low
  where
    by : (r : Ordering) → row_order row other ≡ r → is_gt r ≡ false → IsBefore splitter row
    by Less p e = ap is_lt (row_order_total.trans row other splitter p (less (row_order other splitter) before))
    by Equal p e = subst (IsBefore splitter) (sym (row_order-IsAntisymmetric row other p)) before
    by Greater p e = cc

-- and a row that is at least one that doesn't, doesn't either
behind_at_least : (splitter row other : Row) → is_gt (row_order row other) ≡ false → IsBehind splitter row → IsBehind splitter other
behind_at_least splitter row other low behind = by (stands_before splitter other) refl
  where
    by : (b : Bool) → stands_before splitter other ≡ b → b ≡ false
    by true e = sym (before_at_most splitter row other low e) ∙ behind
    by false e = refl

-- a row before the splitter is at most one that isn't
not_above : (splitter row other : Row) → IsBefore splitter row → IsBehind splitter other → is_gt (row_order row other) ≡ false
not_above splitter row other before behind = by (row_order row other) refl
  where
    by : (r : Ordering) → row_order row other ≡ r → is_gt r ≡ false
    by Less p = refl
    by Equal p = refl
    by Greater p =
        let turned : row_order other row ≡ Less = row_order_total.antisymm other row ∙ ap ordering_reverse p in
        sym (before_at_most splitter other row (ap is_gt turned) before) ∙ behind

-- ---- rows in ascending order, by their places

abbrev IsAscendingRows : List Row → Type 0
IsAscendingRows = Ascending row_order

at_most_at : (row : Row) (rows : List Row) (k : ℕ) (d : Row) → AtMost row_order row rows → k < length rows → is_gt (row_order row (get_or rows k d)) ≡ false
at_most_at row [] k d all low = absurd (omega (arith, low))
at_most_at row (other ∷ rows) zero d all low = all.0
at_most_at row (other ∷ rows) (suc k) d all low = at_most_at row rows k d all.1 (omega (arith, low))

pairs : (rows : List Row) → IsAscendingRows rows → (j k : ℕ) (d e : Row) → j < k → k < length rows → is_gt (row_order (get_or rows j d) (get_or rows k e)) ≡ false
pairs [] all j k d e order low = absurd (omega (arith, low))
pairs (row ∷ rows) all zero zero d e order low = absurd (omega (arith, order))
pairs (row ∷ rows) all zero (suc k) d e order low = at_most_at row rows k e all.0 (omega (arith, low))
pairs (row ∷ rows) all (suc j) zero d e order low = absurd (omega (arith, order))
pairs (row ∷ rows) all (suc j) (suc k) d e order low = pairs rows all.1 j k d e (omega (arith, order)) (omega (arith, low))

ascending : (rows : List Row) → IsSorted row_order rows → IsAscendingRows rows
ascending rows rising = Ascending-IsSorted row_order row_order_total row_order-IsAntisymmetric rows rising

-- ---- a search by halves

-- the rows from one place up to another stand before the splitter
abbrev pub AreBefore : Row → List Row → ℕ → ℕ → Type 0
AreBefore splitter rows from to = (k : ℕ) (d : Row) → from ≤ k → k < to → IsBefore splitter (get_or rows k d)

-- those from a place on don't
abbrev pub AreBehind : Row → List Row → ℕ → Type 0
AreBehind splitter rows from = (k : ℕ) (d : Row) → from ≤ k → k < length rows → IsBehind splitter (get_or rows k d)

module _ (splitter : Row) (rows : List Row) (rising : IsSorted row_order rows) (middle : ℕ) (row : Row) (within : middle < length rows)
    (is : row ≡ get_or rows middle row) where
  own : (d : Row) → row ≡ get_or rows middle d
  own d = is ∙ get_or_default rows middle row d within

  -- where the row in the middle stands before the splitter, all up to it do
  pub before_middle : (from : ℕ) → IsBefore splitter row → AreBefore splitter rows from (middle + 1)
  before_middle from before k d low high = by (cases_lt k middle)
    where
      here : IsBefore splitter (get_or rows middle d)
      here = subst (IsBefore splitter) (own d) before

      by : (k < middle) ⊎ (middle ≤ k) → IsBefore splitter (get_or rows k d)
      by (inl less) = before_at_most splitter _ _ (pairs rows (ascending rows rising) k middle d d less within) here
      by (inr most) =
          let same : middle ≡ k = omega (arith, most, high) in
          subst (λ n. IsBefore splitter (get_or rows n d)) same here

  -- where it doesn't, none behind it does
  pub behind_middle : IsBehind splitter row → AreBehind splitter rows middle
  behind_middle behind k d low high = by (cases_lt middle k)
    where
      here : IsBehind splitter (get_or rows middle d)
      here = subst (IsBehind splitter) (own d) behind

      by : (middle < k) ⊎ (k ≤ middle) → IsBehind splitter (get_or rows k d)
      by (inl less) = behind_at_least splitter _ _ (pairs rows (ascending rows rising) middle k d d less high) here
      by (inr most) =
          let same : middle ≡ k = omega (arith, most, low) in
          subst (λ n. IsBehind splitter (get_or rows n d)) same here

-- ---- a part that is cut

-- the rows from one place up to another, and those from there on
pub cut_at : (splitter : Row) (rows front rest : List Row) (from place : ℕ) → IsPlaceOf splitter rows from place
    → front ≡ slice_range rows from place → rest ≡ drop place rows → IsCutAt splitter (drop from rows) front rest
cut_at splitter rows front rest from place at is_front is_rest =
    let order = at.order in
    let within = at.within in
    let behind_front : drop (place - from) (drop from rows) ≡ drop place rows =
    drop-drop (place - from) from rows ∙ ap (λ (n : ℕ). drop n rows) (omega (arith, order)) in
    record {
      all = sym (take-append-drop (place - from) (drop from rows)) ∙ (λ i. sym is_front i ++ (behind_front ∙ sym is_rest) i);
      before = subst (All (IsBefore splitter)) (sym is_front) (λ k d low.
          let inside = length-take (place - from) (drop from rows) in
          let left = length-drop from rows in
          let high : k < place - from = omega (arith, low, inside, left) in
          subst (IsBefore splitter) (sym (get_or-take (place - from) (drop from rows) k d high ∙ get_or-drop from rows k d))
          (at.before (from + k) d (omega arith) (omega (arith, high, order))));
      behind = subst (All (IsBehind splitter)) (sym is_rest) (λ k d low.
          subst (IsBehind splitter) (sym (get_or-drop place rows k d))
          (at.behind (place + k) d (omega arith) (omega (arith, low, length-drop place rows))));
    }

-- rows that stand side by side in others that ascend do so too
pub sorted-part : (rows : List Row) (from to : ℕ) → from ≤ to → to ≤ length rows → IsSorted row_order rows → IsSorted row_order (slice_range rows from to)
sorted-part rows from to order within rising k d low high =
    let long = length-take (to - from) (drop from rows) in
    let left = length-drop from rows in
    let inside : k + 1 < to - from = omega (arith, high, long, left) in
    let item : (n : ℕ) → n < to - from → get_or (slice_range rows from to) n d ≡ get_or rows (from + n) d =
    λ n less. get_or-take (to - from) (drop from rows) n d less ∙ get_or-drop from rows n d in
    let next : get_or rows (from + (k + 1)) d ≡ get_or rows (from + k + 1) d = ap (λ (n : ℕ). get_or rows n d) (omega arith) in
    rw (item (k + 1) inside, next, item k (omega (arith, inside))) (rising (from + k) d (omega arith) (omega (arith, inside, order, within)))

-- ---- all parts in one order

at_most_behind : (splitter row : Row) (rows : List Row) → IsBefore splitter row → All (IsBehind splitter) rows → AtMost row_order row rows
at_most_behind splitter row [] before behind = tt
at_most_behind splitter row (other ∷ rows) before behind = (
  not_above splitter row other before (behind 0 other (omega arith)),
  at_most_behind splitter row rows before (λ k d low. behind (suc k) d (omega (arith, low))),
)

at_most_all : (row : Row) (rows others : List Row) → AtMost row_order row rows → AtMost row_order row others → AtMost row_order row (rows ++ others)
at_most_all row [] others some more = more
at_most_all row (other ∷ rows) others some more = (some.0, at_most_all row rows others some.1 more)

ascending-append : (splitter : Row) (front rest : List Row) → IsAscendingRows front → IsAscendingRows rest
    → All (IsBefore splitter) front → All (IsBehind splitter) rest → IsAscendingRows (front ++ rest)
ascending-append splitter [] rest one other before behind = other
ascending-append splitter (row ∷ front) rest one other before behind = (
  at_most_all row front rest one.0 (at_most_behind splitter row rest (before 0 row (omega arith)) behind),
  ascending-append splitter front rest one.1 other (λ k d low. before (suc k) d (omega (arith, low))) behind,
)

ascending-sorted : (rows : List Row) → IsAscendingRows (sorted rows)
ascending-sorted rows = Ascending-sorted_by row_order row_order_total row_order-IsAntisymmetric rows

-- rows that stand before a row and others, each in ascending order, are all in ascending order
pub sorted-cut : (splitter : Row) (rows front rest : List Row) → SameBag rows (front ++ rest)
    → All (IsBefore splitter) front → All (IsBehind splitter) rest → sorted rows ≡ sorted front ++ sorted rest
sorted-cut splitter rows front rest same before behind =
    let moved_front = IsPermutation-sorted_by row_order front in
    let moved_rest = IsPermutation-sorted_by row_order rest in
    let moved : SameBag rows (sorted front ++ sorted rest) =
    IsPermutation-trans _ _ _ same (IsPermutation-append _ _ _ _ moved_front moved_rest) in
    let all : IsAscendingRows (sorted front ++ sorted rest) =
    ascending-append splitter (sorted front) (sorted rest) (ascending-sorted front) (ascending-sorted rest)
    (All-permutation (IsBefore splitter) front (sorted front) moved_front before)
    (All-permutation (IsBehind splitter) rest (sorted rest) moved_rest behind) in
    sym (sorted_by-unique row_order row_order_total row_order-IsAntisymmetric rows (sorted front ++ sorted rest) moved
    (IsSorted-Ascending row_order row_order_total row_order-IsAntisymmetric (sorted front ++ sorted rest) all))

-- a bag has one ascending list
pub sorted-same : (rows others : List Row) → SameBag rows others → sorted others ≡ sorted rows
sorted-same rows others same =
    sorted_by-unique row_order row_order_total row_order-IsAntisymmetric rows (sorted others)
    (IsPermutation-trans _ _ _ same (IsPermutation-sorted_by row_order others))
    (IsSorted-Ascending row_order row_order_total row_order-IsAntisymmetric (sorted others) (ascending-sorted others))

-- ---- part by part

-- the parts so far, as the rows before a splitter and the others
pub record AreCut (splitter : Row) (parts fronts rests : List (List Row)) : Type 0 where
  pub same_rows : SameBag (joined parts) (joined fronts ++ joined rests)
  pub before : All (IsBefore splitter) (joined fronts)
  pub behind : All (IsBehind splitter) (joined rests)

joined-more : (parts : List (List Row)) (part : List Row) → joined (parts ++ part ∷ []) ≡ joined parts ++ part
joined-more parts part = flat_map-append (λ (rows : List Row). rows) parts (part ∷ []) ∙ ap (λ (rows : List Row). joined parts ++ rows) (append-nil part)

-- two lists behind two others, and each behind its own
dealt : (a b c d : List Row) → SameBag ((a ++ b) ++ (c ++ d)) ((a ++ c) ++ (b ++ d))
dealt a b c d =
    let one : (a ++ b) ++ (c ++ d) ≡ a ++ ((b ++ c) ++ d) = append_assoc a b (c ++ d) ∙ ap (λ rows. a ++ rows) (sym (append_assoc b c d)) in
    let two : a ++ ((c ++ b) ++ d) ≡ (a ++ c) ++ (b ++ d) = ap (λ rows. a ++ rows) (append_assoc c b d) ∙ sym (append_assoc a c (b ++ d)) in
    subst (λ rows. SameBag rows ((a ++ c) ++ (b ++ d))) (sym one)
    (subst (SameBag (a ++ ((b ++ c) ++ d))) two
    (IsPermutation-append_right a _ _ (IsPermutation-append_left d _ _ (IsPermutation-append_comm b c))))

pub cut_more : (splitter : Row) (parts fronts rests : List (List Row)) (part front rest : List Row)
    → AreCut splitter parts fronts rests → IsCutAt splitter part front rest
    → AreCut splitter (parts ++ part ∷ []) (fronts ++ front ∷ []) (rests ++ rest ∷ [])
cut_more splitter parts fronts rests part front rest are at =
    let whole : joined (parts ++ part ∷ []) ≡ joined parts ++ (front ++ rest) =
    joined-more parts part ∙ ap (λ (rows : List Row). joined parts ++ rows) at.all in
    let moved : SameBag (joined parts ++ (front ++ rest)) ((joined fronts ++ front) ++ (joined rests ++ rest)) =
    IsPermutation-trans _ _ _ (IsPermutation-append_left (front ++ rest) _ _ are.same_rows)
    (dealt (joined fronts) (joined rests) front rest) in
    record {
      same_rows = rw (whole, joined-more fronts front, joined-more rests rest) moved;
      before = rw (joined-more fronts front) (All-append (IsBefore splitter) (joined fronts) front are.before at.before);
      behind = rw (joined-more rests rest) (All-append (IsBehind splitter) (joined rests) rest are.behind at.behind);
    }
