-- Two lists of rows in order, gone through side by side.
use Rattle.std.proofs.Common.{◌≡◌, ℕ, zero, suc, ◌+◌, ◌<◌, Bool, true, false, not, cond, List, [], ◌∷◌, ◌++◌, length, map, take, drop, get_or, refl, sym, ◌∙◌, ap, subst, append_assoc, arith}
use Rattle.std.specs.Prelude.{All, filter, IsSorted, ◌||◌}
use Rattle.std.specs.List.{list_any}
use Rattle.std.specs.declared.cmp.Ordering.{Ordering}
use Rattle.std.specs.declared.cmp.Ordering.TheVariants.{Less, Equal, Greater}
use Rattle.std.specs.Ordering.{is_lt, is_gt, ordering_reverse}
use Rattle.std.proofs.lemmas.List.{take-append-drop, get_or-take, get_or-drop, length-take, length-drop}
use Rattle.std.proofs.lemmas.List.Elements.{All-nil, All-cons, All-tail, All-from_get_or}
use Rattle.std.proofs.lemmas.List.Folds.{list_any-append, list_any_none}
use Rattle.rel_base.specs.Values.{row_order}
use Rattle.rel_base.specs.ValueLaws.{row_order_total, row_order-IsAntisymmetric}
use Rattle.rel_base.proofs.SortedLemmas.{AtMost, Ascending, Ascending-IsSorted}
use Rattle.myrial_ast.specs.Combinations.{Row, Rows}
use Rattle.myrial_ast.specs.Bags.{same_row, has_row, distinct, difference}
use Rattle.bag_laws.proofs.PartialLemmas.{tied}
use Rattle.std.proofs.lemmas.List.{drop-drop, drop-map, length-map}
use Rattle.packed_rows.specs.Runs.{IsRun, IsBelow, begins}
use Rattle.packed_rows.proofs.RunLemmas.{apart-behind, distinct-step, sorted-drop, filter-all}

-- a row that comes before one isn't at or behind it
below-apart : (first q o : Row) → is_gt (row_order first q) ≡ false → is_lt (row_order o first) ≡ true → same_row q o ≡ false
below-apart first q o up less = by (same_row q o) refl
  where
    turned : (r : Ordering) → row_order o first ≡ r → is_lt r ≡ true → is_gt (row_order first o) ≡ true
    turned Less p e = ap is_gt (row_order_total.antisymm first o ∙ ap ordering_reverse p)
    turned Equal p e = absurd (cc)
    turned Greater p e = absurd (cc)

    by : (b : Bool) → same_row q o ≡ b → same_row q o ≡ false
    by false e = e
    by true e =
        let same : q ≡ o = tied q o e in
        let high : is_gt (row_order first o) ≡ false = subst (λ (r : Row). is_gt (row_order first r) ≡ false) same up in
        let low = turned (row_order o first) refl less in
        absurd (cc)

-- the rows that come before it don't matter
has_row-behind : (rows : Rows) (n : ℕ) (first q : Row) → IsBelow rows first n → is_gt (row_order first q) ≡ false → has_row rows q ≡ has_row (drop n rows) q
has_row-behind rows n first q below up =
    ap (λ some. has_row some q) (sym (take-append-drop n rows)) ∙ list_any-append (same_row q) (take n rows) (drop n rows)
    ∙ ap (λ b. b || has_row (drop n rows) q) none
  where
    none : list_any (same_row q) (take n rows) ≡ false
    none =
        list_any_none (same_row q) (take n rows)
        (All-from_get_or (λ o. same_row q o ≡ false) (take n rows) []
        (λ k low. let inside : k < n = omega (arith, length-take n rows) in
        below-apart first q (get_or (take n rows) k []) up (subst (λ (o : Row). is_lt (row_order o first) ≡ true) (sym (get_or-take n rows k [] inside)) (below.below k inside))))

AtMost-All : (first : Row) (rows : Rows) → AtMost row_order first rows → All (λ q. is_gt (row_order first q) ≡ false) rows
AtMost-All first [] m = All-nil (λ q. is_gt (row_order first q) ≡ false)
AtMost-All first (row ∷ rows) m = All-cons (λ q. is_gt (row_order first q) ≡ false) row rows m.0 (AtMost-All first rows m.1)

itself-up : (row : Row) → is_gt (row_order row row) ≡ false
itself-up row = by (row_order row row) refl
  where
    by : (r : Ordering) → row_order row row ≡ r → is_gt (row_order row row) ≡ false
    by Less p = ap is_gt p
    by Equal p = ap is_gt p
    by Greater p = let k : row_order row row ≡ Less = row_order_total.antisymm row row ∙ ap ordering_reverse p in ap is_gt k

order-of : (rows : Rows) → IsSorted row_order rows → Ascending row_order rows
order-of = Ascending-IsSorted row_order row_order_total row_order-IsAntisymmetric

-- of rows in order, each is at or behind the first
pub from-first : (rows : Rows) → IsSorted row_order rows → All (λ q. is_gt (row_order (get_or rows 0 []) q) ≡ false) rows
from-first [] s = All-nil (λ q. is_gt (row_order [] q) ≡ false)
from-first (first ∷ rows) s =
    All-cons (λ q. is_gt (row_order first q) ≡ false) first rows (itself-up first) (AtMost-All first rows (order-of (first ∷ rows) s).0)

-- whether the others have a row shows behind those that come before it
pub still-same : (others rest left : Rows) (n : ℕ) → IsSorted row_order left → IsBelow rest (get_or left 0 []) n
    → All (λ q. has_row others q ≡ has_row rest q) left → All (λ q. has_row others q ≡ has_row (drop n rest) q) left
still-same others rest left n s below all k d low =
    all k d low ∙ has_row-behind rest n (get_or left 0 []) (get_or left k d) below (from-first left s k d low)

pub All-drop : {X : Type 0} (P : X → Type 0) (n : ℕ) (xs : List X) → All P xs → All P (drop n xs)
All-drop P zero xs all = all
All-drop P (suc n) [] all = all
All-drop P (suc n) (x ∷ xs) all = All-drop P n xs (All-tail P x xs all)

-- in order, behind the rows that come before it, a row is the first or none
pub has-begins : (rows : Rows) (n : ℕ) (row : Row) → IsSorted row_order rows → IsBelow rows row n → has_row (drop n rows) row ≡ begins (drop n rows) row
has-begins rows n row s below = by (drop n rows) refl (order-of (drop n rows) (sorted-drop n rows s))
  where
    by : (some : Rows) → drop n rows ≡ some → Ascending row_order some → has_row some row ≡ begins some row
    by [] e a = refl
    by (first ∷ some) e a = same (same_row row first) refl
      where
        longer : n < length rows
        longer = omega (arith, ap length e, length-drop n rows)

        at : get_or rows n [] ≡ first
        at = sym (get_or-drop n rows 0 [] ∙ ap (λ (k : ℕ). get_or rows k []) (plus-zero n)) ∙ ap (λ rows. get_or rows 0 []) e
          where
            plus-zero : (k : ℕ) → k + 0 ≡ k
            plus-zero k = omega arith

        not_less : is_lt (row_order first row) ≡ false
        not_less = subst (λ (r : Row). is_lt (row_order r row) ≡ false) at (below.next longer)

        up : is_gt (row_order row first) ≡ false
        up = turned (row_order first row) refl not_less
          where
            turned : (r : Ordering) → row_order first row ≡ r → is_lt r ≡ false → is_gt (row_order row first) ≡ false
            turned Less p e = absurd (cc)
            turned Equal p e = ap is_gt (row_order_total.antisymm row first ∙ ap ordering_reverse p)
            turned Greater p e = ap is_gt (row_order_total.antisymm row first ∙ ap ordering_reverse p)

        same : (b : Bool) → same_row row first ≡ b → (same_row row first || has_row some row) ≡ same_row row first
        same true p = ap (λ b. b || has_row some row) p ∙ sym p
        same false p =
            ap (λ b. b || has_row some row) p
            ∙ list_any_none (same_row row) some (All-tail (λ r. same_row row r ≡ false) first some (apart-behind row first some up a.0 p)) ∙ sym p

-- the first run of one list gives its row, or, where the other list has it, none
pub difference-step : (rows others : Rows) (n : ℕ) → IsSorted row_order rows → IsRun rows n
    → difference rows others ≡ cond (has_row others (get_or rows 0 [])) (difference (drop n rows) others) (get_or rows 0 [] ∷ difference (drop n rows) others)
difference-step rows others n s r =
    ap (filter (λ row. not (has_row others row))) (distinct-step rows n s r) ∙ turn (has_row others (get_or rows 0 []))
  where
    turn : (b : Bool) → cond (not b) (get_or rows 0 [] ∷ difference (drop n rows) others) (difference (drop n rows) others)
        ≡ cond b (difference (drop n rows) others) (get_or rows 0 [] ∷ difference (drop n rows) others)
    turn true = refl
    turn false = refl

-- what no row is taken from is left as it is
pub difference-none : (rows : Rows) → difference rows [] ≡ distinct rows
difference-none rows = filter-all (λ row. true) (distinct rows) (λ k d low. refl)

-- what is made so far, and what is left of both
pub record SideBySide (rows others made left rest : Rows) : Type 0 where
  pub ascending : IsSorted row_order left
  pub others_ascending : IsSorted row_order rest
  pub same : All (λ q. has_row others q ≡ has_row rest q) left
  pub rows_are : made ++ difference left others ≡ difference rows others

-- a run is gone through: it gives its row, or, where the other list has it, none
pub one-gone : (rows others made left rest : Rows) (n m : ℕ) → SideBySide rows others made left rest → 0 < length left → IsBelow rest (get_or left 0 []) m → IsRun left n
    → SideBySide rows others (made ++ cond (begins (drop m rest) (get_or left 0 [])) [] (get_or left 0 [] ∷ [])) (drop n left) (drop m rest)
one-gone rows others made left rest n m s some below r = record {
  ascending = sorted-drop n left s.ascending;
  others_ascending = sorted-drop m rest s.others_ascending;
  same = All-drop (λ q. has_row others q ≡ has_row (drop m rest) q) n left behind;
  rows_are =
      append_assoc made (cond (begins (drop m rest) first) [] (first ∷ [])) (difference (drop n left) others)
      ∙ ap (λ rows. made ++ rows) (turn (begins (drop m rest) first) ∙ sym (difference-step left others n s.ascending r ∙ ap (λ b. cond b (difference (drop n left) others) (first ∷ difference (drop n left) others)) has))
      ∙ s.rows_are;
}
  where
    first : Row
    first = get_or left 0 []

    behind : All (λ q. has_row others q ≡ has_row (drop m rest) q) left
    behind = still-same others rest left m s.ascending below s.same

    has : has_row others first ≡ begins (drop m rest) first
    has = behind 0 [] some ∙ has-begins rest m first s.others_ascending below

    turn : (b : Bool) → cond b [] (first ∷ []) ++ difference (drop n left) others ≡ cond b (difference (drop n left) others) (first ∷ difference (drop n left) others)
    turn true = refl
    turn false = refl

-- the same, where the rows are those of other items
pub one-gone-at : {X : Type 0} (row : X → Row) (rows others : List X) (made : Rows) (done passed n m : ℕ) (first : X) (found : Bool)
    → SideBySide (map row rows) (map row others) made (map row (drop done rows)) (map row (drop passed others))
    → done < length rows → get_or (map row (drop done rows)) 0 [] ≡ row first
    → IsBelow (map row (drop passed others)) (row first) m → found ≡ begins (map row (drop (passed + m) others)) (row first) → IsRun (map row (drop done rows)) n
    → SideBySide (map row rows) (map row others) (made ++ cond found [] (row first ∷ [])) (map row (drop (done + n) rows)) (map row (drop (passed + m) others))
one-gone-at row rows others made done passed n m first found s low at below begin r =
    let some : 0 < length (drop done rows) = omega (arith, length-drop done rows) in
    let there : 0 < length (map row (drop done rows)) = omega (arith, some, length-map (drop done rows) row) in
    let gone =
    one-gone (map row rows) (map row others) made (map row (drop done rows)) (map row (drop passed others)) n m s there
    (subst (λ (key : Row). IsBelow (map row (drop passed others)) key m) (sym at) below) r in
    let left : drop n (map row (drop done rows)) ≡ map row (drop (done + n) rows) = drop-map row n (drop done rows) ∙ ap (map row) (drop-drop n done rows) in
    let rest : drop m (map row (drop passed others)) ≡ map row (drop (passed + m) others) = drop-map row m (drop passed others) ∙ ap (map row) (drop-drop m passed others) in
    let told : begins (drop m (map row (drop passed others))) (get_or (map row (drop done rows)) 0 []) ≡ found = (λ i. begins (rest i) (at i)) ∙ sym begin in
    let added : made ++ cond (begins (drop m (map row (drop passed others))) (get_or (map row (drop done rows)) 0 [])) [] (get_or (map row (drop done rows)) 0 [] ∷ []) ≡ made ++ cond found [] (row first ∷ []) =
    (λ i. made ++ cond (told i) [] (at i ∷ [])) in
    subst (λ (made : Rows). SideBySide (map row rows) (map row others) made (map row (drop (done + n) rows)) (map row (drop (passed + m) others))) added
    (subst (λ (left : Rows). SideBySide (map row rows) (map row others) (made ++ cond (begins (drop m (map row (drop passed others))) (get_or (map row (drop done rows)) 0 [])) [] (get_or (map row (drop done rows)) 0 [] ∷ [])) left (map row (drop (passed + m) others))) left
    (subst (λ (rest : Rows). SideBySide (map row rows) (map row others) (made ++ cond (begins (drop m (map row (drop passed others))) (get_or (map row (drop done rows)) 0 [])) [] (get_or (map row (drop done rows)) 0 [] ∷ [])) (drop n (map row (drop done rows))) rest) rest gone))
