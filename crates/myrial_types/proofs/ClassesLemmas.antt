-- Classes by the leaders of all columns are those of the equalities.
use Rattle.std.proofs.Common.{◌≡◌, ◌∙◌, ℕ, zero, suc, ◌+◌, ◌<◌, ◌≤◌, ◌==◌, Bool, true, false, not, cond, ◌&&◌, ◌||◌, List, [], ◌∷◌, ◌++◌, filter, get_or, length, map, take, refl, sym, ap, arith, zero-add, add-zero, eq-eqb}
use Rattle.std.specs.Prelude.{nat_lt, slice_index, sum}
use Rattle.std.specs.List.{list_any, range_with_len}
use Rattle.std.proofs.lemmas.Bool.Decides.{nat_tests}
use Rattle.std.proofs.lemmas.List.{append-nil, append_assoc, length-append, map-append}
use Rattle.std.proofs.lemmas.List.Elements.{filter-append}
use Rattle.std.proofs.lemmas.List.Sums.{sum_by_more}
use Rattle.std.proofs.lemmas.List.FromFn.{length-range_with_len, length-map-range_with_len, get_or-map-range_with_len}
use Rattle.myrial_ast.specs.Classes.{class_of, joins_items, leader, same_class, variables}
use Rattle.algebra.specs.ShapeLaws.{InRange}
use Rattle.myrial_types.specs.inner.Leaders.{class_by, is_first_by, merged, variables_at}

-- ---- ranges

-- so many places, and then so many more
pub range-append : (a m n : ℕ) → range_with_len a (m + n) ≡ range_with_len a m ++ range_with_len (a + m) n
range-append a zero n = rw (zero-add n, add-zero) refl
range-append a (suc m) n =
    let e : suc m + n ≡ suc (m + n) = omega arith in
    let f : a + suc m ≡ a + 1 + m = omega arith in
    rw (e, f) (ap (λ rest. a ∷ rest) (range-append (a + 1) m n))

-- one place more
pub range-more : (n : ℕ) → range_with_len 0 (n + 1) ≡ range_with_len 0 n ++ n ∷ []
range-more n = range-append 0 n 1 ∙ ap (λ m. range_with_len 0 n ++ m ∷ []) (zero-add n)

-- tests that agree below the end agree on the range
filter-range : (p q : ℕ → Bool) (end a n : ℕ) → a + n ≤ end → ((d : ℕ) → d < end → p d ≡ q d) → filter p (range_with_len a n) ≡ filter q (range_with_len a n)
filter-range p q end a zero l same = refl
filter-range p q end a (suc n) l same =
    ap (λ b. cond b (a ∷ filter p (range_with_len (a + 1) n)) (filter p (range_with_len (a + 1) n))) (same a (omega (arith, l)))
    ∙ ap (λ rest. cond (q a) (a ∷ rest) rest) (filter-range p q end (a + 1) n (omega (arith, l)) same)

any-range : (p q : ℕ → Bool) (end a n : ℕ) → a + n ≤ end → ((d : ℕ) → d < end → p d ≡ q d) → list_any p (range_with_len a n) ≡ list_any q (range_with_len a n)
any-range p q end a zero l same = refl
any-range p q end a (suc n) l same =
    ap (λ b. b || list_any p (range_with_len (a + 1) n)) (same a (omega (arith, l)))
    ∙ ap (λ b. q a || b) (any-range p q end (a + 1) n (omega (arith, l)) same)

-- none of a range passes where none below its end does
none-range : (p : ℕ → Bool) (end a n : ℕ) → a + n ≤ end → ((d : ℕ) → d < end → p d ≡ false) → list_any p (range_with_len a n) ≡ false
none-range p end a zero l none = refl
none-range p end a (suc n) l none =
    ap (λ b. b || list_any p (range_with_len (a + 1) n)) (none a (omega (arith, l))) ∙ none-range p end (a + 1) n (omega (arith, l)) none

or-true : (b : Bool) → (b || true) ≡ true
or-true true = refl
or-true false = refl

some-range : (p : ℕ → Bool) (a n d : ℕ) → a ≤ d → d < a + n → p d ≡ true → list_any p (range_with_len a n) ≡ true
some-range p a zero d l h e = absurd (omega (arith, l, h))
some-range p a (suc n) d l h e = by (a == d) refl (λ above. some-range p (a + 1) n d above (omega (arith, h)) e)
  where
    by : (b : Bool) → (a == d) ≡ b → (a + 1 ≤ d → list_any p (range_with_len (a + 1) n) ≡ true) → (p a || list_any p (range_with_len (a + 1) n)) ≡ true
    by true f rest = let same : a ≡ d = grind (arith, nat_tests, f) in ap (λ x. p x || list_any p (range_with_len (a + 1) n)) same ∙ ap (λ b. b || list_any p (range_with_len (a + 1) n)) e
    by false f rest =
        let above : a + 1 ≤ d = grind (arith, nat_tests, f, l) in
        ap (λ b. p a || b) (rest above) ∙ or-true (p a)

-- ---- first columns

-- no smaller column has the leader
pub is_first-true : (leaders : List ℕ) (column : ℕ) → column < length leaders
    → ((d : ℕ) → d < column → (slice_index leaders d == slice_index leaders column) ≡ false) → true ≡ is_first_by leaders column
is_first-true leaders column low none =
    sym (ap not (none-range (λ d. nat_lt d column && slice_index leaders d == slice_index leaders column) (length leaders) 0 (length leaders) (omega arith) (λ d l. by d (nat_lt d column) refl)))
  where
    by : (d : ℕ) (b : Bool) → nat_lt d column ≡ b → (nat_lt d column && slice_index leaders d == slice_index leaders column) ≡ false
    by d true f = ap (λ b. b && slice_index leaders d == slice_index leaders column) f ∙ none d (grind (arith, nat_tests, f))
    by d false f = ap (λ b. b && slice_index leaders d == slice_index leaders column) f

-- some smaller column has it
pub is_first-false : (leaders : List ℕ) (column d : ℕ) → column < length leaders → d < column → (slice_index leaders d == slice_index leaders column) ≡ true → false ≡ is_first_by leaders column
is_first-false leaders column d low l e =
    let below : nat_lt d column ≡ true = grind (arith, nat_tests, l) in
    sym (ap not (some-range (λ d. nat_lt d column && slice_index leaders d == slice_index leaders column) 0 (length leaders) d (omega arith) (omega (arith, l, low))
    (ap (λ b. b && slice_index leaders d == slice_index leaders column) below ∙ e)))

-- ---- leaders

module _ (rest : List (ℕ × ℕ)) (n : ℕ) where
  leader-at : (d : ℕ) → d < n → slice_index (map (leader rest) (range_with_len 0 n)) d ≡ leader rest d
  leader-at d l = get_or-map-range_with_len (leader rest) 0 n d d 0 l (zero-add d)

  -- one equality further
  pub leaders-more : (left right : ℕ) → left < n → right < n
      → merged (map (leader rest) (range_with_len 0 n)) left right ≡ map (leader ((left, right) ∷ rest)) (range_with_len 0 n)
  leaders-more left right l r =
      ap (λ own. map (λ x. cond (x == own) (slice_index (map (leader rest) (range_with_len 0 n)) left) x) (map (leader rest) (range_with_len 0 n))) (leader-at right r)
      ∙ ap (λ new. map (λ x. cond (x == leader rest right) new x) (map (leader rest) (range_with_len 0 n))) (leader-at left l)
      ∙ fused (range_with_len 0 n)
    where
      fused : (cs : List ℕ) → map (λ x. cond (x == leader rest right) (leader rest left) x) (map (leader rest) cs) ≡ map (leader ((left, right) ∷ rest)) cs
      fused [] = refl
      fused (c ∷ cs) = ap (λ xs. leader ((left, right) ∷ rest) c ∷ xs) (fused cs)

  class-same : (c : ℕ) → c < n → class_by (map (leader rest) (range_with_len 0 n)) c ≡ class_of rest (range_with_len 0 n) c
  class-same c l =
      ap (λ m. filter (λ d. slice_index (map (leader rest) (range_with_len 0 n)) c == slice_index (map (leader rest) (range_with_len 0 n)) d) (range_with_len 0 m)) (length-map-range_with_len (leader rest) 0 n)
      ∙ filter-range (λ d. slice_index (map (leader rest) (range_with_len 0 n)) c == slice_index (map (leader rest) (range_with_len 0 n)) d) (same_class rest c) n 0 n (omega arith)
      (λ d h. ap (λ x. x == slice_index (map (leader rest) (range_with_len 0 n)) d) (leader-at c l) ∙ ap (λ x. leader rest c == x) (leader-at d h))

  first-same : (c : ℕ) → c < n → is_first_by (map (leader rest) (range_with_len 0 n)) c ≡ not (list_any (λ d. nat_lt d c && same_class rest d c) (range_with_len 0 n))
  first-same c l =
      ap (λ m. not (list_any (λ d. nat_lt d c && slice_index (map (leader rest) (range_with_len 0 n)) d == slice_index (map (leader rest) (range_with_len 0 n)) c) (range_with_len 0 m))) (length-map-range_with_len (leader rest) 0 n)
      ∙ ap not (any-range (λ d. nat_lt d c && slice_index (map (leader rest) (range_with_len 0 n)) d == slice_index (map (leader rest) (range_with_len 0 n)) c) (λ d. nat_lt d c && same_class rest d c) n 0 n (omega arith)
      (λ d h. ap (λ x. nat_lt d c && x == slice_index (map (leader rest) (range_with_len 0 n)) c) (leader-at d h) ∙ ap (λ x. nat_lt d c && leader rest d == x) (leader-at c l)))

  classes-same : (a k : ℕ) → a + k ≤ n
      → map (class_by (map (leader rest) (range_with_len 0 n))) (filter (is_first_by (map (leader rest) (range_with_len 0 n))) (range_with_len a k))
      ≡ map (class_of rest (range_with_len 0 n)) (filter (λ c. not (list_any (λ d. nat_lt d c && same_class rest d c) (range_with_len 0 n))) (range_with_len a k))
  classes-same a zero l = refl
  classes-same a (suc k) l =
      let low : a < n = omega (arith, l) in
      ap (λ b. map (class_by (map (leader rest) (range_with_len 0 n)))
      (cond b (a ∷ filter (is_first_by (map (leader rest) (range_with_len 0 n))) (range_with_len (a + 1) k)) (filter (is_first_by (map (leader rest) (range_with_len 0 n))) (range_with_len (a + 1) k)))) (first-same a low)
      ∙ chosen (not (list_any (λ d. nat_lt d a && same_class rest d a) (range_with_len 0 n))) (class-same a low) (classes-same (a + 1) k (omega (arith, l)))
    where
      chosen : (b : Bool) → class_by (map (leader rest) (range_with_len 0 n)) a ≡ class_of rest (range_with_len 0 n) a
          → map (class_by (map (leader rest) (range_with_len 0 n))) (filter (is_first_by (map (leader rest) (range_with_len 0 n))) (range_with_len (a + 1) k))
          ≡ map (class_of rest (range_with_len 0 n)) (filter (λ c. not (list_any (λ d. nat_lt d c && same_class rest d c) (range_with_len 0 n))) (range_with_len (a + 1) k))
          → map (class_by (map (leader rest) (range_with_len 0 n))) (cond b (a ∷ filter (is_first_by (map (leader rest) (range_with_len 0 n))) (range_with_len (a + 1) k)) (filter (is_first_by (map (leader rest) (range_with_len 0 n))) (range_with_len (a + 1) k)))
          ≡ map (class_of rest (range_with_len 0 n)) (cond b (a ∷ filter (λ c. not (list_any (λ d. nat_lt d c && same_class rest d c) (range_with_len 0 n))) (range_with_len (a + 1) k)) (filter (λ c. not (list_any (λ d. nat_lt d c && same_class rest d c) (range_with_len 0 n))) (range_with_len (a + 1) k)))
      chosen true e h = λ i. e i ∷ h i
      chosen false e h = h

-- the variables by the leaders
pub variables-same : (widths : List ℕ) (pairs : List (ℕ × ℕ)) (leaders : List ℕ) → leaders ≡ map (leader pairs) (range_with_len 0 (sum widths))
    → filter (joins_items widths) (map (class_by leaders) (filter (is_first_by leaders) (range_with_len 0 (length leaders)))) ≡ variables widths pairs
variables-same widths pairs leaders e =
    ap (λ ls. filter (joins_items widths) (map (class_by ls) (filter (is_first_by ls) (range_with_len 0 (length ls))))) e
    ∙ ap (λ m. filter (joins_items widths) (map (class_by (map (leader pairs) (range_with_len 0 (sum widths)))) (filter (is_first_by (map (leader pairs) (range_with_len 0 (sum widths)))) (range_with_len 0 m))))
    (length-map-range_with_len (leader pairs) 0 (sum widths))
    ∙ ap (filter (joins_items widths)) (classes-same pairs (sum widths) 0 (sum widths) (omega arith))

-- ---- equalities

-- an equality among those in range is in range
pub in-range-get : (n : ℕ) (pairs : List (ℕ × ℕ)) (i : ℕ) → InRange n pairs → i < length pairs
    → ((get_or pairs i (0, 0)).0 < n) × ((get_or pairs i (0, 0)).1 < n)
in-range-get n [] i h l = absurd (omega (arith, l))
in-range-get n (p ∷ pairs) zero h l = h.0
in-range-get n (p ∷ pairs) (suc i) h l = in-range-get n pairs i h.1 (omega (arith, l))

-- before any equality each column leads itself
pub leaders-none : (columns : List ℕ) → map (leader []) columns ≡ columns
leaders-none [] = refl
leaders-none (c ∷ columns) = ap (λ rest. c ∷ rest) (leaders-none columns)

-- one item's columns more
pub columns-more : (widths : List ℕ) (i : ℕ) → i < length widths → (columns : List ℕ) → columns ≡ range_with_len 0 (sum (take i widths))
    → columns ++ range_with_len (length columns) (get_or widths i 0) ≡ range_with_len 0 (sum (take (i + 1) widths))
columns-more widths i low columns e =
    ap (λ xs. xs ++ range_with_len (length xs) (get_or widths i 0)) e
    ∙ ap (λ n. range_with_len 0 (sum (take i widths)) ++ range_with_len n (get_or widths i 0)) (length-range_with_len 0 (sum (take i widths)) ∙ sym (zero-add (sum (take i widths))))
    ∙ sym (range-append 0 (sum (take i widths)) (get_or widths i 0))
    ∙ ap (range_with_len 0) (sym (sum_by_more (λ y. y) widths i 0 low))

-- ---- chosen places

-- one place more
pub filter-more : (p : ℕ → Bool) (n : ℕ) → filter p (range_with_len 0 (n + 1)) ≡ filter p (range_with_len 0 n) ++ cond (p n) (n ∷ []) []
filter-more p n = ap (filter p) (range-more n) ∙ filter-append p (range_with_len 0 n) (n ∷ [])

pub same-true : (a b : ℕ) → a ≡ b → (b == a) ≡ true
same-true a b e = eq-eqb b a (sym e)

pub same-false : (a b : ℕ) → (a ≡ b → ⊥) → (b == a) ≡ false
same-false a b h = by (b == a) refl
  where
    by : (t : Bool) → (b == a) ≡ t → (b == a) ≡ false
    by true e = absurd (h (grind (arith, nat_tests, e)))
    by false e = e

-- ---- variables

module _ (widths leaders : List ℕ) (column : ℕ) (found : List (List ℕ)) where
  pub variable-later : is_first_by leaders column ≡ false → found ≡ found ++ variables_at widths leaders column
  variable-later e =
      sym (ap (λ b. found ++ filter (joins_items widths) (map (class_by leaders) (cond b (column ∷ []) []))) e ∙ append-nil found)

  pub variable-apart : is_first_by leaders column ≡ true → joins_items widths (class_by leaders column) ≡ false → found ≡ found ++ variables_at widths leaders column
  variable-apart e f =
      sym (ap (λ b. found ++ filter (joins_items widths) (map (class_by leaders) (cond b (column ∷ []) []))) e
      ∙ (ap (λ b. found ++ cond b (class_by leaders column ∷ []) []) f ∙ append-nil found))

  pub variable-one : is_first_by leaders column ≡ true → joins_items widths (class_by leaders column) ≡ true → found ++ class_by leaders column ∷ [] ≡ found ++ variables_at widths leaders column
  variable-one e f =
      sym (ap (λ b. found ++ filter (joins_items widths) (map (class_by leaders) (cond b (column ∷ []) []))) e
      ∙ ap (λ b. found ++ cond b (class_by leaders column ∷ []) []) f)

-- one column more
pub variables-more : (widths leaders : List ℕ) (n : ℕ)
    → filter (joins_items widths) (map (class_by leaders) (filter (is_first_by leaders) (range_with_len 0 (n + 1))))
    ≡ filter (joins_items widths) (map (class_by leaders) (filter (is_first_by leaders) (range_with_len 0 n))) ++ variables_at widths leaders n
variables-more widths leaders n =
    ap (λ cs. filter (joins_items widths) (map (class_by leaders) cs))
    (ap (filter (is_first_by leaders)) (range-more n) ∙ filter-append (is_first_by leaders) (range_with_len 0 n) (n ∷ []))
    ∙ ap (filter (joins_items widths)) (map-append (class_by leaders) (filter (is_first_by leaders) (range_with_len 0 n)) (filter (is_first_by leaders) (n ∷ [])))
    ∙ filter-append (joins_items widths) (map (class_by leaders) (filter (is_first_by leaders) (range_with_len 0 n))) (map (class_by leaders) (filter (is_first_by leaders) (n ∷ [])))

-- a further place behind so many
pub place-more : (old items : List ℕ) (n place : ℕ) → items ≡ old ++ range_with_len (length old) n → place ≡ length items
    → items ++ place ∷ [] ≡ old ++ range_with_len (length old) (n + 1)
place-more old items n place e f =
    let at : place ≡ length old + n =
    f ∙ ap length e ∙ length-append old (range_with_len (length old) n) ∙ ap (λ m. length old + m) (length-range_with_len (length old) n) in
    ap (λ p. items ++ p ∷ []) at
    ∙ ap (λ xs. xs ++ (length old + n) ∷ []) e
    ∙ append_assoc old (range_with_len (length old) n) ((length old + n) ∷ [])
    ∙ ap (λ xs. old ++ xs) (sym (range-append (length old) n 1))
