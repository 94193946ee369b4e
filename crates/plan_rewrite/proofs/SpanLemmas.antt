-- Scalars that read columns of a span alone: over the combined row, and over the row that begins where the span does.
use Rattle.std.proofs.Common.{◌≡◌, ◌∙◌, ℕ, zero, suc, ◌+◌, ◌-◌, ◌<◌, ◌≤◌, ◌==◌, Bool, true, false, cond, not, List, [], ◌∷◌, ◌++◌, length, map, refl, sym, ap, subst, arith, Option, Some, None}
use Rattle.std.specs.Prelude.{◌&&◌, ⊤, nat_le, nat_lt, neg_ℤ, option_and_then, slice_get}
use Rattle.std.specs.List.{list_all}
use Rattle.std.proofs.lemmas.Bool.{and_from, and_parts, leb-true, ltb-true}
use Rattle.std.proofs.lemmas.List.Folds.{list_all-append}
use Rattle.rel_base.specs.Relations.{same_type}
use Rattle.rel_base.specs.Values.{number_of, truth_of}
use Rattle.rel_base.specs.declared.values.ColType.{ColType}
use Rattle.rel_base.specs.declared.values.ColType.TheVariants as kind
use Rattle.rel_base.specs.declared.values.Value.TheVariants as value
use Rattle.myrial_ast.specs.declared.operators.BinOp.{BinOp}
use Rattle.myrial_ast.specs.declared.operators.BinOp.TheVariants as op
use Rattle.myrial_ast.specs.KeptRows.{Span, lies_in, put_at, reads_within}
use Rattle.myrial_ast.specs.Scalars.{Scalar, Lit, At, Not, Neg, Bin, applied, columns_of, exact_value, is_arithmetic, is_plain}
use Rattle.myrial_ast.specs.Combinations.{Row, all_hold}
use Rattle.algebra.specs.ShapeConditions.{is_kind, is_plain_test, is_truth, kind_in, kind_of_op, where_both}
use Rattle.algebra.specs.Shapes.{shifted}
use Rattle.algebra.proofs.RowLemmas.{value-put}
use Rattle.plan_rewrite.specs.inner.Pushing.{lowered}

-- what is said of the columns of two operands is said of those of each
both-read : (span : Span) (l r : Scalar) → list_all (lies_in span) (columns_of l ++ columns_of r) ≡ true
    → (list_all (lies_in span) (columns_of l) ≡ true) × (list_all (lies_in span) (columns_of r) ≡ true)
both-read span l r h =
    and_parts (list_all (lies_in span) (columns_of l)) (list_all (lies_in span) (columns_of r)) (sym (list_all-append (lies_in span) (columns_of l) (columns_of r)) ∙ h)

pub lies-behind : (span : Span) (c : ℕ) → lies_in span c ≡ true → span.from ≤ c
lies-behind span c h = leb-true span.from c (and_parts (nat_le span.from c) (nat_lt c span.to) h).0

pub lies-before : (span : Span) (c : ℕ) → lies_in span c ≡ true → c < span.to
lies-before span c h = ltb-true c span.to (and_parts (nat_le span.from c) (nat_lt c span.to) h).1

one-read : (span : Span) (c : ℕ) → (lies_in span c && true) ≡ true → lies_in span c ≡ true
one-read span c h = (and_parts (lies_in span c) true h).0

-- a scalar that reads some column and none elsewhere reads none elsewhere
pub reads-inside : (span : Span) (e : Scalar) → reads_within span e ≡ true → list_all (lies_in span) (columns_of e) ≡ true
reads-inside span e h = (and_parts (not (length (columns_of e) == 0)) (list_all (lies_in span) (columns_of e)) h).1

-- ---- there and back

raised : (span : Span) (e : Scalar) → list_all (lies_in span) (columns_of e) ≡ true → shifted span.from (lowered span.from e) ≡ e
raised span (Lit v) h = refl
raised span (At c) h =
    let behind = lies-behind span c (one-read span c h) in
    let same : span.from + (c - span.from) ≡ c = omega arith in
    ap At same
raised span (Not e) h = ap Not (raised span e h)
raised span (Neg e) h = ap Neg (raised span e h)
raised span (Bin o l r) h = let parts = both-read span l r h in λ i. Bin o (raised span l parts.0 i) (raised span r parts.1 i)

-- tests of a span, over its own row and back over the combined row
pub all-raised : (span : Span) (es : List Scalar) → list_all (reads_within span) es ≡ true → map (shifted span.from) (map (lowered span.from) es) ≡ es
all-raised span [] h = refl
all-raised span (e ∷ es) h =
    let parts = and_parts (reads_within span e) (list_all (reads_within span) es) h in
    λ i. raised span e (reads-inside span e parts.0) i ∷ all-raised span es parts.1 i

-- ---- values

lowered-value : (span : Span) (row : Row) (e : Scalar) → list_all (lies_in span) (columns_of e) ≡ true
    → exact_value (lowered span.from e) row ≡ exact_value e (put_at span.from row)
lowered-value span row (Lit v) h = refl
lowered-value span row (At c) h = sym (value-put span.from row c (lies-behind span c (one-read span c h)))
lowered-value span row (Not e) h = ap (λ v. value.Bool (not (truth_of v))) (lowered-value span row e h)
lowered-value span row (Neg e) h = ap (λ v. value.Int (neg_ℤ (number_of v))) (lowered-value span row e h)
lowered-value span row (Bin o l r) h =
    let parts = both-read span l r h in λ i. applied o (lowered-value span row l parts.0 i) (lowered-value span row r parts.1 i)

-- tests of a span hold over its own row where they hold over the combined row
pub all-lowered : (span : Span) (row : Row) (es : List Scalar) → list_all (reads_within span) es ≡ true
    → all_hold (map (lowered span.from) es) row ≡ all_hold es (put_at span.from row)
all-lowered span row [] h = refl
all-lowered span row (e ∷ es) h =
    let parts = and_parts (reads_within span e) (list_all (reads_within span) es) h in
    λ i. truth_of (lowered-value span row e (reads-inside span e parts.0) i) && all-lowered span row es parts.1 i

-- ---- types

lowered-plain : (places : ℕ) (e : Scalar) → is_plain (lowered places e) ≡ is_plain e
lowered-plain places (Lit v) = refl
lowered-plain places (At c) = refl
lowered-plain places (Not e) = lowered-plain places e
lowered-plain places (Neg e) = refl
lowered-plain places (Bin o l r) = λ i. not (is_arithmetic o) && lowered-plain places l i && lowered-plain places r i

shifted-plain : (places : ℕ) (e : Scalar) → is_plain (shifted places e) ≡ is_plain e
shifted-plain places (Lit v) = refl
shifted-plain places (At c) = refl
shifted-plain places (Not e) = shifted-plain places e
shifted-plain places (Neg e) = refl
shifted-plain places (Bin o l r) = λ i. not (is_arithmetic o) && shifted-plain places l i && shifted-plain places r i

-- the type at a place behind and before others
get-behind : (front : List ColType) (own : List ColType) (c : ℕ) → slice_get (front ++ own) (length front + c) ≡ slice_get own c
get-behind [] own c = ap (slice_get own) (zero-plus c)
  where
    zero-plus : (n : ℕ) → 0 + n ≡ n
    zero-plus n = omega arith
get-behind (k ∷ front) own c = ap (slice_get (k ∷ (front ++ own))) (one-on (length front) c) ∙ get-behind front own c
  where
    one-on : (n c : ℕ) → suc n + c ≡ suc (n + c)
    one-on n c = omega arith

get-before : (own back : List ColType) (c : ℕ) → c < length own → slice_get (own ++ back) c ≡ slice_get own c
get-before [] back c l = absurd (omega (arith, l))
get-before (k ∷ own) back zero l = refl
get-before (k ∷ own) back (suc c) l = get-before own back c (omega (arith, l))

-- the columns of a span are those of its own row
module _ (front own back : List ColType) where
  abbrev pub own_span : Span
  own_span = record { from = length front; to = length front + length own }

  lowered-kind : (e : Scalar) → list_all (lies_in own_span) (columns_of e) ≡ true
      → kind_in own (lowered (length front) e) ≡ kind_in (front ++ (own ++ back)) e
  lowered-kind (Lit v) h = refl
  lowered-kind (At c) h =
      let here = one-read own_span c h in
      let behind = lies-behind own_span c here in
      let before = lies-before own_span c here in
      let at : length front + (c - length front) ≡ c = omega arith in
      sym (get-before own back (c - length front) (omega (arith, before, behind)))
      ∙ sym (get-behind front (own ++ back) (c - length front)) ∙ ap (slice_get (front ++ (own ++ back))) at
  lowered-kind (Not e) h = ap (λ k. where_both kind.Bool kind.Bool k k) (lowered-kind e h)
  lowered-kind (Neg e) h = ap (λ k. where_both kind.Int kind.Int k k) (lowered-kind e h)
  lowered-kind (Bin o l r) h = let parts = both-read own_span l r h in λ i. kind_of_op o (lowered-kind l parts.0 i) (lowered-kind r parts.1 i)

  pub lowered-tests : (es : List Scalar) → list_all (reads_within own_span) es ≡ true
      → list_all (is_plain_test own) (map (lowered (length front)) es) ≡ list_all (is_plain_test (front ++ (own ++ back))) es
  lowered-tests [] h = refl
  lowered-tests (e ∷ es) h =
      let parts = and_parts (reads_within own_span e) (list_all (reads_within own_span) es) h in
      λ i. (lowered-plain (length front) e i && is_kind kind.Bool (lowered-kind e (reads-inside own_span e parts.0) i)) && lowered-tests es parts.1 i

-- ---- types over more columns

-- what is known stays
abbrev IsKept : Option ColType → Option ColType → Type 0
IsKept None b = ⊤
IsKept (Some k) b = b ≡ Some k

kept-itself : (a : Option ColType) → IsKept a a
kept-itself None = tt
kept-itself (Some k) = refl

both-kept : (given wanted : ColType) (a b c d : Option ColType) → IsKept a c → IsKept b d → IsKept (where_both given wanted a b) (where_both given wanted c d)
both-kept given wanted None b c d g h = tt
both-kept given wanted (Some k) None c d g h = by (same_type wanted k)
  where
    by : (t : Bool) → IsKept (cond (t && false) (Some given) None) (where_both given wanted c d)
    by true = tt
    by false = tt
both-kept given wanted (Some k) (Some j) c d g h =
    let same : where_both given wanted c d ≡ where_both given wanted (Some k) (Some j) = λ i. where_both given wanted (g i) (h i) in
    subst (IsKept (where_both given wanted (Some k) (Some j))) (sym same) (kept-itself (where_both given wanted (Some k) (Some j)))

compared-kept : (a b c d : Option ColType) → IsKept a c → IsKept b d
    → IsKept (option_and_then (λ k. where_both kind.Bool k a b) a) (option_and_then (λ k. where_both kind.Bool k c d) c)
compared-kept None b c d g h = tt
compared-kept (Some k) b c d g h =
    let same : option_and_then (λ k. where_both kind.Bool k c d) c ≡ where_both kind.Bool k (Some k) d = λ i. option_and_then (λ k. where_both kind.Bool k (g i) d) (g i) in
    subst (IsKept (where_both kind.Bool k (Some k) b)) (sym same) (both-kept kind.Bool k (Some k) b (Some k) d refl h)

op-kept : (o : BinOp) (a b c d : Option ColType) → IsKept a c → IsKept b d → IsKept (kind_of_op o a b) (kind_of_op o c d)
op-kept op.Or a b c d g h = both-kept kind.Bool kind.Bool a b c d g h
op-kept op.And a b c d g h = both-kept kind.Bool kind.Bool a b c d g h
op-kept op.Add a b c d g h = both-kept kind.Int kind.Int a b c d g h
op-kept op.Sub a b c d g h = both-kept kind.Int kind.Int a b c d g h
op-kept op.Mul a b c d g h = both-kept kind.Int kind.Int a b c d g h
op-kept op.Eq a b c d g h = compared-kept a b c d g h
op-kept op.Ne a b c d g h = compared-kept a b c d g h
op-kept op.Lt a b c d g h = compared-kept a b c d g h
op-kept op.Le a b c d g h = compared-kept a b c d g h
op-kept op.Gt a b c d g h = compared-kept a b c d g h
op-kept op.Ge a b c d g h = compared-kept a b c d g h

get-kept : (own back : List ColType) (c : ℕ) → IsKept (slice_get own c) (slice_get (own ++ back) c)
get-kept [] back c = tt
get-kept (k ∷ own) back zero = refl
get-kept (k ∷ own) back (suc c) = get-kept own back c

module _ (front own back : List ColType) where
  shifted-kept : (e : Scalar) → IsKept (kind_in own e) (kind_in (front ++ (own ++ back)) (shifted (length front) e))
  shifted-kept (Lit v) = refl
  shifted-kept (At c) = subst (IsKept (slice_get own c)) (sym (get-behind front (own ++ back) c)) (get-kept own back c)
  shifted-kept (Not e) = both-kept kind.Bool kind.Bool (kind_in own e) (kind_in own e) (kind_in (front ++ (own ++ back)) (shifted (length front) e)) (kind_in (front ++ (own ++ back)) (shifted (length front) e)) (shifted-kept e) (shifted-kept e)
  shifted-kept (Neg e) = both-kept kind.Int kind.Int (kind_in own e) (kind_in own e) (kind_in (front ++ (own ++ back)) (shifted (length front) e)) (kind_in (front ++ (own ++ back)) (shifted (length front) e)) (shifted-kept e) (shifted-kept e)
  shifted-kept (Bin o l r) =
      op-kept o (kind_in own l) (kind_in own r) (kind_in (front ++ (own ++ back)) (shifted (length front) l)) (kind_in (front ++ (own ++ back)) (shifted (length front) r)) (shifted-kept l) (shifted-kept r)

  kept-truth : (a b : Option ColType) → IsKept a b → is_kind kind.Bool a ≡ true → is_kind kind.Bool b ≡ true
  kept-truth None b h e = cc
  kept-truth (Some k) b h e = ap (is_kind kind.Bool) h ∙ e

  shifted-test : (e : Scalar) → is_plain_test own e ≡ true → is_plain_test (front ++ (own ++ back)) (shifted (length front) e) ≡ true
  shifted-test e h =
      let parts = and_parts (is_plain e) (is_truth own e) h in
      and_from (is_plain (shifted (length front) e)) (is_truth (front ++ (own ++ back)) (shifted (length front) e))
      (shifted-plain (length front) e ∙ parts.0)
      (kept-truth (kind_in own e) (kind_in (front ++ (own ++ back)) (shifted (length front) e)) (shifted-kept e) parts.1)

  -- tests of an atom's own columns are tests of the combined row, where they stand
  pub shifted-tests : (es : List Scalar) → list_all (is_plain_test own) es ≡ true → list_all (is_plain_test (front ++ (own ++ back))) (map (shifted (length front)) es) ≡ true
  shifted-tests [] h = refl
  shifted-tests (e ∷ es) h =
      let parts = and_parts (is_plain_test own e) (list_all (is_plain_test own) es) h in
      and_from (is_plain_test (front ++ (own ++ back)) (shifted (length front) e)) (list_all (is_plain_test (front ++ (own ++ back))) (map (shifted (length front)) es))
      (shifted-test e parts.0) (shifted-tests es parts.1)
