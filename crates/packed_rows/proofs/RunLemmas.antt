-- Rows in order: the first run, and the rows behind it, none of which is the same.
use Rattle.std.proofs.Common.{◌≡◌, ℕ, zero, suc, ◌+◌, ◌<◌, Bool, true, false, not, cond, List, [], ◌∷◌, ◌++◌, length, take, drop, get_or, refl, sym, ◌∙◌, ap, subst, arith}
use Rattle.std.specs.Prelude.{All, filter, IsSorted}
use Rattle.std.specs.declared.cmp.Ordering.{Ordering}
use Rattle.std.specs.declared.cmp.Ordering.TheVariants.{Less, Equal, Greater}
use Rattle.std.specs.Ordering.{is_eq, is_gt, ordering_reverse}
use Rattle.std.proofs.lemmas.List.Elements.{All-nil, All-cons, All-head, All-tail, All-weaker, All-from_get_or, filter-append}
use Rattle.std.proofs.lemmas.List.{take-append-drop, get_or-take, get_or-drop, length-take, length-drop}
use Rattle.rel_base.specs.Values.{row_order}
use Rattle.rel_base.specs.ValueLaws.{row_order_total, row_order-IsAntisymmetric}
use Rattle.rel_base.proofs.SortedLemmas.{AtMost, Ascending, Ascending-IsSorted, IsSorted-Ascending}
use Rattle.myrial_ast.specs.Combinations.{Row, Rows}
use Rattle.myrial_ast.specs.Bags.{same_row, distinct}
use Rattle.bag_laws.proofs.PartialLemmas.{itself, other, distinct-filter}
use Rattle.packed_rows.specs.Runs.{IsRun}

-- ---- filters

pub filter-all : {X : Type 0} (p : X → Bool) (xs : List X) → All (λ x. p x ≡ true) xs → filter p xs ≡ xs
filter-all p [] all = refl
filter-all p (x ∷ xs) all =
    ap (λ t. cond t (x ∷ filter p xs) (filter p xs)) (All-head (λ x. p x ≡ true) x xs all) ∙ ap (λ ys. x ∷ ys) (filter-all p xs (All-tail (λ x. p x ≡ true) x xs all))

pub filter-none : {X : Type 0} (p : X → Bool) (xs : List X) → All (λ x. p x ≡ false) xs → filter p xs ≡ []
filter-none p [] all = refl
filter-none p (x ∷ xs) all =
    ap (λ t. cond t (x ∷ filter p xs) (filter p xs)) (All-head (λ x. p x ≡ false) x xs all) ∙ filter-none p xs (All-tail (λ x. p x ≡ false) x xs all)

-- ---- rows that are the same, and rows that aren't

-- all of these are this one; none of these is
abbrev pub AreAll : Row → Rows → Type 0
AreAll key rows = All (λ row. row ≡ key) rows

abbrev pub NoneIs : Row → Rows → Type 0
NoneIs key rows = All (λ row. same_row key row ≡ false) rows

pub same-key : (key row : Row) → row ≡ key → same_row key row ≡ true
same-key key row e = subst (λ (r : Row). same_row key r ≡ true) (sym e) (itself key)

-- each once: the first run gives one
pub distinct-run : (key : Row) (more rest : Rows) → AreAll key more → NoneIs key rest → distinct ((key ∷ more) ++ rest) ≡ key ∷ distinct rest
distinct-run key more rest all none =
    ap (λ rows. key ∷ rows) (distinct-filter (other key) (more ++ rest) ∙ ap distinct (filter-append (other key) more rest ∙ both))
  where
    first : filter (other key) more ≡ []
    first = filter-none (other key) more (All-weaker (λ row. row ≡ key) (λ row. other key row ≡ false) (λ row e. ap not (same-key key row e)) more all)

    second : filter (other key) rest ≡ rest
    second = filter-all (other key) rest (All-weaker (λ row. same_row key row ≡ false) (λ row. other key row ≡ true) (λ row e. ap not e) rest none)

    both : filter (other key) more ++ filter (other key) rest ≡ rest
    both = (λ i. first i ++ second i)

-- ---- the order

-- in order, what is behind a row that is another than the first is another too
pub apart-behind : (key next : Row) (rest : Rows) → is_gt (row_order key next) ≡ false → AtMost row_order next rest → same_row key next ≡ false
    → NoneIs key (next ∷ rest)
apart-behind key next rest up behind apart =
    All-cons (λ row. same_row key row ≡ false) next rest apart (each rest behind)
  where
    less : row_order key next ≡ Less
    less = by (row_order key next) refl up apart
      where
        by : (r : Ordering) → row_order key next ≡ r → is_gt (row_order key next) ≡ false → is_eq (row_order key next) ≡ false → row_order key next ≡ Less
        by Less p g e = p
        by Equal p g e = let k = ap is_eq p in absurd (cc)
        by Greater p g e = let k = ap is_gt p in absurd (cc)

    each : (rows : Rows) → AtMost row_order next rows → NoneIs key rows
    each [] m = All-nil (λ row. same_row key row ≡ false)
    each (row ∷ rows) m = All-cons (λ row. same_row key row ≡ false) row rows (by (row_order key row) refl) (each rows m.1)
      where
        by : (r : Ordering) → row_order key row ≡ r → is_eq (row_order key row) ≡ false
        by Less p = ap is_eq p
        by Greater p = ap is_eq p
        by Equal p =
            let same : key ≡ row = row_order-IsAntisymmetric key row p in
            let turned : row_order next key ≡ Greater = row_order_total.antisymm next key ∙ ap ordering_reverse less in
            let behind : is_gt (row_order next key) ≡ false = subst (λ (r : Row). is_gt (row_order next r) ≡ false) (sym same) m.0 in
            let k = ap is_gt turned in
            absurd (cc)

Ascending-drop : (n : ℕ) (rows : Rows) → Ascending row_order rows → Ascending row_order (drop n rows)
Ascending-drop zero rows a = a
Ascending-drop (suc n) [] a = tt
Ascending-drop (suc n) (row ∷ rows) a = Ascending-drop n rows a.1

AtMost-drop : (key : Row) (n : ℕ) (rows : Rows) → AtMost row_order key rows → AtMost row_order key (drop n rows)
AtMost-drop key zero rows a = a
AtMost-drop key (suc n) [] a = tt
AtMost-drop key (suc n) (row ∷ rows) a = AtMost-drop key n rows a.1

pub sorted-drop : (n : ℕ) (rows : Rows) → IsSorted row_order rows → IsSorted row_order (drop n rows)
sorted-drop n rows s =
    IsSorted-Ascending row_order row_order_total row_order-IsAntisymmetric (drop n rows)
    (Ascending-drop n rows (Ascending-IsSorted row_order row_order_total row_order-IsAntisymmetric rows s))

-- ---- the first run

pub run-all : (keys : Rows) (n : ℕ) → IsRun keys n → AreAll (get_or keys 0 []) (take n keys)
run-all keys n r =
    All-from_get_or (λ row. row ≡ get_or keys 0 []) (take n keys) []
    (λ k low. let inside : k < n = omega (arith, length-take n keys) in get_or-take n keys k [] inside ∙ r.same k inside)

pub run-rest : (keys : Rows) (n : ℕ) → IsRun keys n → Ascending row_order keys → NoneIs (get_or keys 0 []) (drop n keys)
run-rest keys zero r order = let some = r.some in absurd (omega arith)
run-rest [] (suc n) r order = let within = r.within in absurd (omega arith)
run-rest (key ∷ keys) (suc n) r order = by (drop n keys) refl (AtMost-drop key n keys order.0) (Ascending-drop n keys order.1)
  where
    by : (rows : Rows) → drop n keys ≡ rows → AtMost row_order key rows → Ascending row_order rows → NoneIs key rows
    by [] e m a = All-nil (λ row. same_row key row ≡ false)
    by (next ∷ rest) e m a =
        let longer : n < length keys = omega (arith, ap length e, length-drop n keys) in
        let at : get_or keys n [] ≡ next = sym (get_or-drop n keys 0 [] ∙ ap (λ (k : ℕ). get_or keys k []) (plus-zero n)) ∙ ap (λ rows. get_or rows 0 []) e in
        apart-behind key next rest m.0 a.0 (subst (λ (row : Row). same_row key row ≡ false) at (r.next (omega (arith, longer))))
      where
        plus-zero : (k : ℕ) → k + 0 ≡ k
        plus-zero k = omega arith

-- the first run is one row, and those behind it are the others
pub distinct-step : (rows : Rows) (n : ℕ) → IsSorted row_order rows → IsRun rows n → distinct rows ≡ get_or rows 0 [] ∷ distinct (drop n rows)
distinct-step rows zero s r = let some = r.some in absurd (omega arith)
distinct-step [] (suc n) s r = let within = r.within in absurd (omega arith)
distinct-step (first ∷ rest) (suc n) s r =
    ap (λ rows. distinct (first ∷ rows)) (sym (take-append-drop n rest))
    ∙ distinct-run first (take n rest) (drop n rest)
    (All-tail (λ row. row ≡ first) first (take n rest) (run-all (first ∷ rest) (suc n) r))
    (run-rest (first ∷ rest) (suc n) r (Ascending-IsSorted row_order row_order_total row_order-IsAntisymmetric (first ∷ rest) s))
