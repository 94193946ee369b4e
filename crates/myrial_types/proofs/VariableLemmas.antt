-- The join variables of a comprehension: in range, each of one type and of two items at least, no column in two of them.
use Rattle.std.proofs.Common.{◌≡◌, ℕ, zero, suc, ◌+◌, ◌<◌, ◌≤◌, ◌==◌, Bool, true, false, cond, not, List, [], ◌∷◌, ◌++◌, map, refl, sym, ◌∙◌, ap, arith, Option, Some, None}
use Rattle.std.specs.Prelude.{filter, nat_lt, option_and_then, slice_get, sum, ⊤, ◌&&◌, ◌||◌}
use Rattle.std.specs.List.{list_any, list_all, flat_map, range_with_len, cons_option}
use Rattle.std.proofs.lemmas.Bool.{and_from, and_parts, eqb-true}
use Rattle.std.proofs.lemmas.Bool.Decides.{nat_tests}
use Rattle.rel_base.specs.Relations.{same_type}
use Rattle.rel_base.specs.declared.values.ColType.{ColType}
use Rattle.rel_base.specs.declared.values.ColType.TheVariants as kind
use Rattle.myrial_ast.specs.Scalars.{Scalar}
use Rattle.myrial_ast.specs.Classes.{equality, equalities, leader, same_class, all_columns, class_of, first_columns, joins_items, variables}
use Rattle.algebra.specs.Shapes.{tie_test}
use Rattle.algebra.specs.ShapeConditions.{all_different, are_of, is_kind, is_truth, kind_at, where_both}
use Rattle.algebra.proofs.ShapeLemmas.{equality-is}
use Rattle.algebra.proofs.TypeLemmas.{same_type-equal, same_type-itself}

-- ---- lists of columns

abbrev pub Each : (ℕ → Type 0) → List ℕ → Type 0
Each P [] = ⊤
Each P (x ∷ xs) = P x × Each P xs

abbrev pub Ascends : List ℕ → Type 0
Ascends [] = ⊤
Ascends (x ∷ xs) = Each (λ y. x < y) xs × Ascends xs

each-map : (P Q : ℕ → Type 0) → ((x : ℕ) → P x → Q x) → (xs : List ℕ) → Each P xs → Each Q xs
each-map P Q f [] h = tt
each-map P Q f (x ∷ xs) h = (f x h.0, each-map P Q f xs h.1)

each-filter : (P : ℕ → Type 0) (test : ℕ → Bool) (xs : List ℕ) → Each P xs → Each P (filter test xs)
each-filter P test [] h = tt
each-filter P test (x ∷ xs) h = by (test x) (each-filter P test xs h.1)
  where
    by : (t : Bool) → Each P (filter test xs) → Each P (cond t (x ∷ filter test xs) (filter test xs))
    by true rest = (h.0, rest)
    by false rest = rest

each-passes : (test : ℕ → Bool) (xs : List ℕ) → Each (λ x. test x ≡ true) (filter test xs)
each-passes test [] = tt
each-passes test (x ∷ xs) = by (test x) refl (each-passes test xs)
  where
    by : (t : Bool) → test x ≡ t → Each (λ x. test x ≡ true) (filter test xs) → Each (λ x. test x ≡ true) (cond t (x ∷ filter test xs) (filter test xs))
    by true e rest = (e, rest)
    by false e rest = rest

ascends-filter : (test : ℕ → Bool) (xs : List ℕ) → Ascends xs → Ascends (filter test xs)
ascends-filter test [] h = tt
ascends-filter test (x ∷ xs) h = by (test x) (each-filter (λ y. x < y) test xs h.0) (ascends-filter test xs h.1)
  where
    by : (t : Bool) → Each (λ y. x < y) (filter test xs) → Ascends (filter test xs) → Ascends (cond t (x ∷ filter test xs) (filter test xs))
    by true first rest = (first, rest)
    by false first rest = rest

each-range : (P : ℕ → Type 0) (a n : ℕ) → ((c : ℕ) → a ≤ c → c < a + n → P c) → Each P (range_with_len a n)
each-range P a zero f = tt
each-range P a (suc n) f = (f a (omega arith) (omega arith), each-range P (a + 1) n (λ c l m. f c (omega (arith, l)) (omega (arith, m))))

ascends-range : (a n : ℕ) → Ascends (range_with_len a n)
ascends-range a zero = tt
ascends-range a (suc n) = (each-range (λ y. a < y) (a + 1) n (λ c l m. omega (arith, l)), ascends-range (a + 1) n)

each-all : (test : ℕ → Bool) (xs : List ℕ) → Each (λ x. test x ≡ true) xs → list_all test xs ≡ true
each-all test [] h = refl
each-all test (x ∷ xs) h = and_from (test x) (list_all test xs) h.0 (each-all test xs h.1)

none-each : (test : ℕ → Bool) (xs : List ℕ) → list_any test xs ≡ false → Each (λ x. test x ≡ false) xs
none-each test [] h = tt
none-each test (x ∷ xs) h = by (test x) refl h (none-each test xs)
  where
    by : (t : Bool) → test x ≡ t → (t || list_any test xs) ≡ false → (list_any test xs ≡ false → Each (λ x. test x ≡ false) xs) → (test x ≡ false) × Each (λ x. test x ≡ false) xs
    by true e f rest = cc
    by false e f rest = (e, rest f)

each-none : (test : ℕ → Bool) (xs : List ℕ) → Each (λ x. test x ≡ false) xs → list_any test xs ≡ false
each-none test [] h = refl
each-none test (x ∷ xs) h = ap (λ t. t || list_any test xs) h.0 ∙ each-none test xs h.1

-- ---- different columns

different-append : (xs ys : List ℕ) → all_different xs ≡ true → all_different ys ≡ true → Each (λ x. list_any (λ d. x == d) ys ≡ false) xs → all_different (xs ++ ys) ≡ true
different-append [] ys h k apart = k
different-append (x ∷ xs) ys h k apart =
    let parts = and_parts (not (list_any (λ d. x == d) xs)) (all_different xs) h in
    and_from (not (list_any (λ d. x == d) (xs ++ ys))) (all_different (xs ++ ys)) (ap not (joined xs (unnot (list_any (λ d. x == d) xs) parts.0))) (different-append xs ys parts.1 k apart.1)
  where
    unnot : (b : Bool) → not b ≡ true → b ≡ false
    unnot true e = cc
    unnot false e = refl

    joined : (zs : List ℕ) → list_any (λ d. x == d) zs ≡ false → list_any (λ d. x == d) (zs ++ ys) ≡ false
    joined [] e = apart.0
    joined (z ∷ zs) e = by (x == z) e (joined zs)
      where
        by : (t : Bool) → (t || list_any (λ d. x == d) zs) ≡ false → (list_any (λ d. x == d) zs ≡ false → list_any (λ d. x == d) (zs ++ ys) ≡ false) → (t || list_any (λ d. x == d) (zs ++ ys)) ≡ false
        by true e f = cc
        by false e f = f e

ascends-different : (xs : List ℕ) → Ascends xs → all_different xs ≡ true
ascends-different [] h = refl
ascends-different (x ∷ xs) h =
    and_from (not (list_any (λ d. x == d) xs)) (all_different xs)
    (ap not (each-none (λ d. x == d) xs (each-map (λ y. x < y) (λ y. (x == y) ≡ false) (λ y l. grind (arith, nat_tests, l)) xs h.0)))
    (ascends-different xs h.1)

-- ---- classes

module _ (pairs : List (ℕ × ℕ)) where
  abbrev Apart : List ℕ → Type 0
  Apart [] = ⊤
  Apart (c ∷ rest) = Each (λ r. same_class pairs c r ≡ false) rest × Apart rest

  abbrev leads : ℕ → ℕ → Bool
  leads r d = nat_lt d r && same_class pairs d r

  firsts-apart : (cs : List ℕ) → Ascends cs → Each (λ r. Each (λ d. leads r d ≡ false) cs) cs → Apart cs
  firsts-apart [] up h = tt
  firsts-apart (c ∷ rest) up h = (own rest up.0 h.1, firsts-apart rest up.1 (each-map (λ r. Each (λ d. leads r d ≡ false) (c ∷ rest)) (λ r. Each (λ d. leads r d ≡ false) rest) (λ r k. k.1) rest h.1))
    where
      less : (r : ℕ) → c < r → (nat_lt c r && same_class pairs c r) ≡ false → same_class pairs c r ≡ false
      less r l e = let t : nat_lt c r ≡ true = grind (arith, nat_tests, l) in ap (λ b. b && same_class pairs c r) (sym t) ∙ e

      own : (rs : List ℕ) → Each (λ y. c < y) rs → Each (λ r. Each (λ d. leads r d ≡ false) (c ∷ rest)) rs → Each (λ r. same_class pairs c r ≡ false) rs
      own [] l k = tt
      own (r ∷ rs) l k = (less r l.0 k.0.0, own rs l.1 k.1)

  -- a column of r's class shares none with c where r doesn't
  other-class : (c r y : ℕ) → same_class pairs c r ≡ false → same_class pairs r y ≡ true → same_class pairs c y ≡ false
  other-class c r y e f = ap (λ x. leader pairs c == x) (sym (eqb-true (leader pairs r) (leader pairs y) f)) ∙ e

  not-itself : (c x y : ℕ) → same_class pairs c x ≡ true → same_class pairs c y ≡ false → (x == y) ≡ false
  not-itself c x y e f = by (x == y) refl
    where
      by : (t : Bool) → (x == y) ≡ t → t ≡ false
      by true g = sym e ∙ ap (same_class pairs c) (eqb-true x y g) ∙ f
      by false g = refl

  module _ (joins : List ℕ → Bool) (columns : List ℕ) where
    abbrev classes : List ℕ → List ℕ
    classes cs = flat_map (λ v. v) (filter joins (map (class_of pairs columns) cs))

    each-append : (P : ℕ → Type 0) (xs ys : List ℕ) → Each P xs → Each P ys → Each P (xs ++ ys)
    each-append P [] ys h k = k
    each-append P (x ∷ xs) ys h k = (h.0, each-append P xs ys h.1 k)

    classes-apart : (c : ℕ) (cs : List ℕ) → Each (λ r. same_class pairs c r ≡ false) cs → Each (λ y. same_class pairs c y ≡ false) (classes cs)
    classes-apart c [] h = tt
    classes-apart c (r ∷ cs) h = by (joins (class_of pairs columns r)) (classes-apart c cs h.1)
      where
        by : (t : Bool) → Each (λ y. same_class pairs c y ≡ false) (classes cs)
            → Each (λ y. same_class pairs c y ≡ false) (flat_map (λ v. v) (cond t (class_of pairs columns r ∷ filter joins (map (class_of pairs columns) cs)) (filter joins (map (class_of pairs columns) cs))))
        by true rest =
            each-append (λ y. same_class pairs c y ≡ false) (class_of pairs columns r) (flat_map (λ v. v) (filter joins (map (class_of pairs columns) cs)))
            (each-map (λ y. same_class pairs r y ≡ true) (λ y. same_class pairs c y ≡ false) (λ y k. other-class c r y h.0 k) (class_of pairs columns r) (each-passes (same_class pairs r) columns)) rest
        by false rest = rest

    classes-different : Ascends columns → (cs : List ℕ) → Apart cs → all_different (classes cs) ≡ true
    classes-different up [] h = refl
    classes-different up (c ∷ cs) h = by (joins (class_of pairs columns c)) (classes-different up cs h.1) (classes-apart c cs h.0)
      where
        by : (t : Bool) → all_different (classes cs) ≡ true → Each (λ y. same_class pairs c y ≡ false) (classes cs)
            → all_different (flat_map (λ v. v) (cond t (class_of pairs columns c ∷ filter joins (map (class_of pairs columns) cs)) (filter joins (map (class_of pairs columns) cs)))) ≡ true
        by true rest apart =
            different-append (class_of pairs columns c) (flat_map (λ v. v) (filter joins (map (class_of pairs columns) cs)))
            (ascends-different (class_of pairs columns c) (ascends-filter (same_class pairs c) columns up)) rest
            (each-map (λ x. same_class pairs c x ≡ true) (λ x. list_any (λ d. x == d) (flat_map (λ v. v) (filter joins (map (class_of pairs columns) cs))) ≡ false)
            (λ x k. each-none (λ d. x == d) (flat_map (λ v. v) (filter joins (map (class_of pairs columns) cs)))
            (each-map (λ y. same_class pairs c y ≡ false) (λ y. (x == y) ≡ false) (λ y g. not-itself c x y k g) (flat_map (λ v. v) (filter joins (map (class_of pairs columns) cs))) apart))
            (class_of pairs columns c) (each-passes (same_class pairs c) columns))
        by false rest apart = rest

-- no column is in two variables
pub variables-different : (widths : List ℕ) (pairs : List (ℕ × ℕ)) → all_different (flat_map (λ v. v) (variables widths pairs)) ≡ true
variables-different widths pairs =
    let columns = all_columns widths in
    let up = ascends-range 0 (sum widths) in
    let first = λ (c : ℕ). not (list_any (λ d. nat_lt d c && same_class pairs d c) columns) in
    classes-different pairs (joins_items widths) columns up (first_columns pairs columns)
    (firsts-apart pairs (first_columns pairs columns) (ascends-filter first columns up)
    (each-map (λ r. first r ≡ true) (λ r. Each (λ d. (nat_lt d r && same_class pairs d r) ≡ false) (first_columns pairs columns))
    (λ r h. each-filter (λ d. (nat_lt d r && same_class pairs d r) ≡ false) first columns (none-each (λ d. nat_lt d r && same_class pairs d r) columns (unnot (list_any (λ d. nat_lt d r && same_class pairs d r) columns) h)))
    (first_columns pairs columns) (each-passes first columns)))
  where
    unnot : (b : Bool) → not b ≡ true → b ≡ false
    unnot true e = cc
    unnot false e = refl

-- ---- types

-- of each pair the two columns have one type
abbrev pub Alike : List ColType → List (ℕ × ℕ) → Type 0
Alike kinds [] = ⊤
Alike kinds (pair ∷ pairs) = (kind_at kinds pair.0 ≡ kind_at kinds pair.1) × Alike kinds pairs

leader-kind : (kinds : List ColType) (pairs : List (ℕ × ℕ)) → Alike kinds pairs → (c : ℕ) → kind_at kinds (leader pairs c) ≡ kind_at kinds c
leader-kind kinds [] h c = refl
leader-kind kinds (pair ∷ pairs) h c =
    by (leader pairs c == leader pairs pair.1) refl (leader-kind kinds pairs h.1 c) (leader-kind kinds pairs h.1 pair.0) (leader-kind kinds pairs h.1 pair.1)
  where
    by : (t : Bool) → (leader pairs c == leader pairs pair.1) ≡ t → kind_at kinds (leader pairs c) ≡ kind_at kinds c
        → kind_at kinds (leader pairs pair.0) ≡ kind_at kinds pair.0 → kind_at kinds (leader pairs pair.1) ≡ kind_at kinds pair.1
        → kind_at kinds (cond t (leader pairs pair.0) (leader pairs c)) ≡ kind_at kinds c
    by true e own left right = left ∙ h.0 ∙ sym right ∙ ap (kind_at kinds) (sym (eqb-true (leader pairs c) (leader pairs pair.1) e)) ∙ own
    by false e own left right = own

-- columns of one class have one type
class-kind : (kinds : List ColType) (pairs : List (ℕ × ℕ)) → Alike kinds pairs → (a b : ℕ) → same_class pairs a b ≡ true → kind_at kinds a ≡ kind_at kinds b
class-kind kinds pairs h a b e =
    sym (leader-kind kinds pairs h a) ∙ ap (kind_at kinds) (eqb-true (leader pairs a) (leader pairs b) e) ∙ leader-kind kinds pairs h b

found-kind : (kinds : List ColType) (c : ℕ) (k : ColType) → is_kind k (slice_get kinds c) ≡ true → kind_at kinds c ≡ k
found-kind [] c k e = cc
found-kind (x ∷ kinds) zero k e = sym (same_type-equal k x e)
found-kind (x ∷ kinds) (suc c) k e = found-kind kinds c k e

tie-kinds : (kinds : List ColType) (a b : ℕ) → is_truth kinds (tie_test (a, b)) ≡ true → kind_at kinds a ≡ kind_at kinds b
tie-kinds kinds a b e = by (slice_get kinds a) refl e
  where
    split : (k : ColType) (s : Option ColType) → is_kind kind.Bool (cond (is_kind k (Some k) && is_kind k s) (Some kind.Bool) None) ≡ true → is_kind k s ≡ true
    split k s e = (and_parts (is_kind k (Some k)) (is_kind k s) (at (is_kind k (Some k) && is_kind k s) e)).1
      where
        at : (t : Bool) → is_kind kind.Bool (cond t (Some kind.Bool) None) ≡ true → t ≡ true
        at true e = refl
        at false e = e

    by : (o : Option ColType) → slice_get kinds a ≡ o → is_kind kind.Bool (option_and_then (λ k. where_both kind.Bool k o (slice_get kinds b)) o) ≡ true → kind_at kinds a ≡ kind_at kinds b
    by None f g = cc
    by (Some k) f g =
        found-kind kinds a k (ap (is_kind k) f ∙ same_type-itself k) ∙ sym (found-kind kinds b k (split k (slice_get kinds b) g))

-- equalities of typed conjuncts are of columns of one type
pub equalities-alike : (kinds : List ColType) (es : List Scalar) → list_all (is_truth kinds) es ≡ true → Alike kinds (equalities es)
equalities-alike kinds [] h = tt
equalities-alike kinds (e ∷ es) h =
    let parts = and_parts (is_truth kinds e) (list_all (is_truth kinds) es) h in
    by (equality e) refl parts.0 (equalities-alike kinds es parts.1)
  where
    by : (o : Option (ℕ × ℕ)) → equality e ≡ o → is_truth kinds e ≡ true → Alike kinds (equalities es) → Alike kinds (cons_option o (equalities es))
    by None f g rest = rest
    by (Some pair) f g rest = (tie-kinds kinds pair.0 pair.1 (ap (is_truth kinds) (sym (equality-is e pair f)) ∙ g), rest)

-- whether columns are below this number, of one type, and of two items at least
abbrev pub is_column_set : ℕ → List ColType → List ℕ → List ℕ → Bool
is_column_set n kinds widths columns =
    list_all (λ c. nat_lt c n) columns && list_all (λ c. are_of kinds (kind_at kinds c) columns) columns && joins_items widths columns

module _ (widths : List ℕ) (kinds : List ColType) (pairs : List (ℕ × ℕ)) (alike : Alike kinds pairs) where
  class-typed : (c : ℕ) → joins_items widths (class_of pairs (all_columns widths) c) ≡ true
      → is_column_set (sum widths) kinds widths (class_of pairs (all_columns widths) c) ≡ true
  class-typed c joins =
      let cls = class_of pairs (all_columns widths) c in
      let one : Each (λ d. kind_at kinds c ≡ kind_at kinds d) cls =
      each-map (λ d. same_class pairs c d ≡ true) (λ d. kind_at kinds c ≡ kind_at kinds d) (λ d e. class-kind kinds pairs alike c d e) cls
      (each-passes (same_class pairs c) (all_columns widths)) in
      let below : list_all (λ c. nat_lt c (sum widths)) cls ≡ true =
      each-all (λ c. nat_lt c (sum widths)) cls
      (each-filter (λ c. nat_lt c (sum widths) ≡ true) (same_class pairs c) (all_columns widths)
      (each-range (λ c. nat_lt c (sum widths) ≡ true) 0 (sum widths) (λ c l m. grind (arith, nat_tests, m)))) in
      let typed : list_all (λ a. are_of kinds (kind_at kinds a) cls) cls ≡ true =
      each-all (λ a. are_of kinds (kind_at kinds a) cls) cls
      (each-map (λ a. kind_at kinds c ≡ kind_at kinds a) (λ a. are_of kinds (kind_at kinds a) cls ≡ true)
      (λ a e. each-all (λ d. same_type (kind_at kinds a) (kind_at kinds d)) cls
      (each-map (λ d. kind_at kinds c ≡ kind_at kinds d) (λ d. same_type (kind_at kinds a) (kind_at kinds d) ≡ true)
      (λ d f. ap (same_type (kind_at kinds a)) (sym f ∙ e) ∙ same_type-itself (kind_at kinds a)) cls one)) cls one) in
      and_from (list_all (λ c. nat_lt c (sum widths)) cls && list_all (λ a. are_of kinds (kind_at kinds a) cls) cls) (joins_items widths cls)
      (and_from (list_all (λ c. nat_lt c (sum widths)) cls) (list_all (λ a. are_of kinds (kind_at kinds a) cls) cls) below typed) joins

  -- each variable is in range, of one type, and of two items at least
  pub variables-typed : list_all (is_column_set (sum widths) kinds widths) (variables widths pairs) ≡ true
  variables-typed = each (first_columns pairs (all_columns widths))
    where
      each : (cs : List ℕ) → list_all (is_column_set (sum widths) kinds widths) (filter (joins_items widths) (map (class_of pairs (all_columns widths)) cs)) ≡ true
      each [] = refl
      each (c ∷ cs) = by (joins_items widths (class_of pairs (all_columns widths) c)) refl (each cs)
        where
          by : (t : Bool) → joins_items widths (class_of pairs (all_columns widths) c) ≡ t
              → list_all (is_column_set (sum widths) kinds widths) (filter (joins_items widths) (map (class_of pairs (all_columns widths)) cs)) ≡ true
              → list_all (is_column_set (sum widths) kinds widths)
              (cond t (class_of pairs (all_columns widths) c ∷ filter (joins_items widths) (map (class_of pairs (all_columns widths)) cs)) (filter (joins_items widths) (map (class_of pairs (all_columns widths)) cs))) ≡ true
          by true e rest =
              and_from (is_column_set (sum widths) kinds widths (class_of pairs (all_columns widths) c))
              (list_all (is_column_set (sum widths) kinds widths) (filter (joins_items widths) (map (class_of pairs (all_columns widths)) cs))) (class-typed c e) rest
          by false e rest = rest
