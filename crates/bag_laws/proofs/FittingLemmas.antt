-- The numbers of partial rows lie in 64 bits.
use Rattle.std.proofs.Common.{◌≡◌, ℕ, ◌-◌, ◌*◌, ◌/◌, ◌%◌, ◌^◌, ◌≤◌, ℤ, pos, negsuc, Bool, true, false, cond, Option, Some, None, List, [], ◌∷◌, length, map, refl, sym, ◌∙◌, ap, subst, arith}
use Rattle.std.specs.Prelude.{neg_ℤ, fold, All, ◌&&◌, ◌≤ℤ◌}
use Rattle.std.specs.Ordering.{is_lt, is_gt}
use Rattle.std.proofs.lemmas.Bool.{ltb-true, lt-ltb}
use Rattle.std.proofs.lemmas.Int.{ints}
use Rattle.std.proofs.lemmas.Nat.{div_below, mod_below}
use Rattle.std.proofs.lemmas.List.{length-map}
use Rattle.std.proofs.lemmas.List.Sums.{length-filter, count_by-le-length}
use Rattle.std.proofs.lemmas.List.Elements.{All-nil, All-cons, All-head, All-tail, All-filter}
use Rattle.rel_base.specs.declared.values.Value.{Value}
use Rattle.rel_base.specs.Values.{value_order, number_of, in_64_bits}
use Rattle.myrial_ast.specs.declared.operators.AggOp.{AggOp}
use Rattle.myrial_ast.specs.declared.operators.AggOp.TheVariants as agg
use Rattle.myrial_ast.specs.Scalars.{value_at}
use Rattle.myrial_ast.specs.Combinations.{Row, Rows}
use Rattle.myrial_ast.specs.Bags.{same_row}
use Rattle.myrial_ast.specs.Groups.{Kinds, key_of, keys, members, total, lesser, greater, cell, row_fits}
use Rattle.myrial_ast.specs.Partials.{high, low, split_sums}
use Rattle.bag_laws.specs.PartialLaws.{PartialsFit}
use Rattle.bag_laws.proofs.ColumnLemmas.{behind, firsts, group_row-columns, partial_of, total-cons}
use Rattle.bag_laws.proofs.PartialLemmas.{row_for, partial_rows-row}

abbrev Fits : Value → Type 0
Fits v = in_64_bits (number_of v) ≡ true

-- ---- numbers

record Bounded (k : ℕ) (z : ℤ) : Type 0 where
  below : z ≤ℤ pos (k * 2 ^ 63)
  above : neg_ℤ (pos (k * 2 ^ 63)) ≤ℤ z

fits-bounds : (z : ℤ) → in_64_bits z ≡ true → Bounded 1 z
fits-bounds (pos n) h = let l = ltb-true n (2 ^ 63) h in record { below = omega (arith, ints, l); above = omega (arith, ints, l) }
fits-bounds (negsuc n) h = let l = ltb-true n (2 ^ 63) h in record { below = omega (arith, ints, l); above = omega (arith, ints, l) }

total-bounds : (vs : List Value) → All Fits vs → Bounded (length vs) (total vs)
total-bounds [] all = record { below = omega (arith, ints); above = omega (arith, ints) }
total-bounds (v ∷ vs) all =
    let own = fits-bounds (number_of v) (All-head Fits v vs all) in
    let rest = total-bounds vs (All-tail Fits v vs all) in
    let whole = total-cons v vs in
    let a = own.below in let b = own.above in let c = rest.below in let d = rest.above in
    record { below = omega (arith, ints, whole, a, c); above = omega (arith, ints, whole, b, d) }

high-fits : (k : ℕ) (z : ℤ) → k ≤ 4194304 → Bounded k z → in_64_bits (high z) ≡ true
high-fits k (pos n) few b = let l = b.below in lt-ltb (n / 2 ^ 62) (2 ^ 63) (div_below n (2 ^ 62) (2 ^ 63) (omega arith) (omega (arith, ints, l, few)))
high-fits k (negsuc n) few b = let l = b.above in lt-ltb (n / 2 ^ 62) (2 ^ 63) (div_below n (2 ^ 62) (2 ^ 63) (omega arith) (omega (arith, ints, l, few)))

low-fits : (z : ℤ) → in_64_bits (low z) ≡ true
low-fits (pos n) = let l = mod_below n (2 ^ 62) (omega arith) in lt-ltb (n % 2 ^ 62) (2 ^ 63) (omega (arith, l))
low-fits (negsuc n) = lt-ltb (2 ^ 62 - 1 - n % 2 ^ 62) (2 ^ 63) (omega arith)

small-fits : (k : ℕ) → k ≤ 4194304 → in_64_bits (pos k) ≡ true
small-fits k few = lt-ltb k (2 ^ 63) (omega (arith, few))

-- ---- columns

module _ (f : Value → Value → Value) (one : (a b : Value) → Fits a → Fits b → Fits (f a b)) where
  fold-fits : (v : Value) (vs : List Value) → Fits v → All Fits vs → Fits (fold f v vs)
  fold-fits v [] h all = h
  fold-fits v (w ∷ vs) h all = fold-fits (f v w) vs (one v w h (All-head Fits w vs all)) (All-tail Fits w vs all)

lesser-fits : (a b : Value) → Fits a → Fits b → Fits (lesser a b)
lesser-fits a b h k = by (is_lt (value_order b a))
  where
    by : (t : Bool) → Fits (cond t b a)
    by true = k
    by false = h

greater-fits : (a b : Value) → Fits a → Fits b → Fits (greater a b)
greater-fits a b h k = by (is_gt (value_order b a))
  where
    by : (t : Bool) → Fits (cond t b a)
    by true = k
    by false = h

total-of : (vs : List Value) → number_of (cell (Some agg.Sum) vs) ≡ total vs
total-of [] = refl
total-of (v ∷ vs) = refl

none-fits : (vs : List Value) → All Fits vs → Fits (cell None vs)
none-fits [] all = refl
none-fits (v ∷ vs) all = All-head Fits v vs all

least-fits : (vs : List Value) → All Fits vs → Fits (cell (Some agg.Min) vs)
least-fits [] all = refl
least-fits (v ∷ vs) all = fold-fits lesser lesser-fits v vs (All-head Fits v vs all) (All-tail Fits v vs all)

greatest-fits : (vs : List Value) → All Fits vs → Fits (cell (Some agg.Max) vs)
greatest-fits [] all = refl
greatest-fits (v ∷ vs) all = fold-fits greater greater-fits v vs (All-head Fits v vs all) (All-tail Fits v vs all)

count-fits : (vs : List Value) → length vs ≤ 4194304 → Fits (cell (Some agg.Count) vs)
count-fits [] few = refl
count-fits (v ∷ vs) few = small-fits (length (v ∷ vs)) few

count_all-fits : (vs : List Value) → length vs ≤ 4194304 → Fits (cell (Some agg.CountAll) vs)
count_all-fits [] few = refl
count_all-fits (v ∷ vs) few = small-fits (length (v ∷ vs)) few

-- ---- rows

abbrev RowFits : Row → Type 0
RowFits row = row_fits row ≡ true

both : (a b : Bool) → (a && b) ≡ true → (a ≡ true) × (b ≡ true)
both true b h = (refl, h)
both false b h = cc

and : (a b : Bool) → a ≡ true → b ≡ true → (a && b) ≡ true
and a b h k = ap (λ t. t && b) h ∙ k

firsts-fit : (rows : Rows) → All RowFits rows → All Fits (firsts rows)
firsts-fit [] all = All-nil Fits
firsts-fit (row ∷ rows) all = All-cons Fits (value_at row 0) (firsts rows) (first row (All-head RowFits row rows all)) (firsts-fit rows (All-tail RowFits row rows all))
  where
    first : (row : Row) → RowFits row → Fits (value_at row 0)
    first [] h = refl
    first (v ∷ row) h = (both (in_64_bits (number_of v)) (row_fits row) h).0

behind-fit : (rows : Rows) → All RowFits rows → All RowFits (map behind rows)
behind-fit [] all = All-nil RowFits
behind-fit (row ∷ rows) all = All-cons RowFits (behind row) (map behind rows) (rest row (All-head RowFits row rows all)) (behind-fit rows (All-tail RowFits row rows all))
  where
    rest : (row : Row) → RowFits row → RowFits (behind row)
    rest [] h = refl
    rest (v ∷ row) h = (both (in_64_bits (number_of v)) (row_fits row) h).1

partial-fits : (kinds : Kinds) (rows : Rows) → length rows ≤ 4194304 → All RowFits rows → RowFits (partial_of kinds rows)
partial-fits [] rows few all = refl
partial-fits (kind ∷ kinds) rows few all =
    by kind (partial-fits kinds (map behind rows) (subst (λ n. n ≤ 4194304) (sym (length-map rows behind)) few) (behind-fit rows all))
  where
    column : All Fits (firsts rows)
    column = firsts-fit rows all

    long : length (firsts rows) ≤ 4194304
    long = subst (λ n. n ≤ 4194304) (sym (length-map rows (λ row. value_at row 0))) few

    by : (kind : Option AggOp) → RowFits (partial_of kinds (map behind rows)) → RowFits (partial_of (kind ∷ kinds) rows)
    by None rest = and (in_64_bits (number_of (cell None (firsts rows)))) (row_fits (partial_of kinds (map behind rows))) (none-fits (firsts rows) column) rest
    by (Some agg.Min) rest = and (in_64_bits (number_of (cell (Some agg.Min) (firsts rows)))) (row_fits (partial_of kinds (map behind rows))) (least-fits (firsts rows) column) rest
    by (Some agg.Max) rest = and (in_64_bits (number_of (cell (Some agg.Max) (firsts rows)))) (row_fits (partial_of kinds (map behind rows))) (greatest-fits (firsts rows) column) rest
    by (Some agg.Count) rest = and (in_64_bits (number_of (cell (Some agg.Count) (firsts rows)))) (row_fits (partial_of kinds (map behind rows))) (count-fits (firsts rows) long) rest
    by (Some agg.CountAll) rest = and (in_64_bits (number_of (cell (Some agg.CountAll) (firsts rows)))) (row_fits (partial_of kinds (map behind rows))) (count_all-fits (firsts rows) long) rest
    by (Some agg.Sum) rest =
        let z = number_of (cell (Some agg.Sum) (firsts rows)) in
        let bounds = subst (Bounded (length (firsts rows))) (sym (total-of (firsts rows))) (total-bounds (firsts rows) column) in
        and (in_64_bits (high z)) (in_64_bits (low z) && row_fits (partial_of kinds (map behind rows))) (high-fits (length (firsts rows)) z long bounds)
        (and (in_64_bits (low z)) (row_fits (partial_of kinds (map behind rows))) (low-fits z) rest)

pub partials_fit : PartialsFit
partials_fit kinds rows few all =
    subst (λ rs. All RowFits rs) (sym (partial_rows-row kinds rows)) (each (keys kinds rows))
  where
    one : (key : Row) → RowFits (row_for kinds rows key)
    one key =
        let some = members kinds rows key in
        let fewer : length some ≤ length rows = subst (λ n. n ≤ length rows) (sym (length-filter (λ row. same_row key (key_of kinds row)) rows)) (count_by-le-length (λ row. same_row key (key_of kinds row)) rows) in
        ap (λ row. row_fits (split_sums kinds row)) (group_row-columns kinds some)
        ∙ partial-fits kinds some (omega (arith, fewer, few)) (All-filter (λ row. same_row key (key_of kinds row)) RowFits rows all)

    each : (some : List Row) → All RowFits (map (row_for kinds rows) some)
    each [] = All-nil RowFits
    each (key ∷ some) = All-cons RowFits (row_for kinds rows key) (map (row_for kinds rows) some) (one key) (each some)
