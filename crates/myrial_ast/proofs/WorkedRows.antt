-- The worked examples, computed from the definitions: a wrong join, group or class does not check.
use Rattle.std.proofs.Common.{◌≡◌, ℕ, Bool, true, false, List, [], ◌∷◌, Some, None, refl}
use Rattle.std.specs.Prelude.{ℤ, pos, negsuc, ◌+◌, map, codes}
use Rattle.rel_base.specs.declared.values.Value.TheVariants as value
use Rattle.rel_base.specs.declared.faults.RunFault.TheVariants as fault
use Rattle.myrial_ast.specs.Loads.{load_key, is_load_key}
use Rattle.myrial_ast.specs.declared.operators.BinOp.{BinOp}
use Rattle.myrial_ast.specs.declared.operators.BinOp.TheVariants as op
use Rattle.myrial_ast.specs.declared.operators.AggOp.TheVariants as agg
use Rattle.myrial_ast.specs.Scalars.{Scalar, Lit, At, Not, Neg, Bin, exact_value, holds, fits, conjuncts, plain_of, arithmetic_of}
use Rattle.myrial_ast.specs.Combinations.{Row, Rows, Comprehension, candidates, listed_rows}
use Rattle.myrial_ast.specs.Bags.{distinct, difference, union_all}
use Rattle.myrial_ast.specs.Groups.{Kinds, groups, sums_fit}
use Rattle.myrial_ast.specs.Partials.{partial_rows, partial_keys, merged}
use Rattle.myrial_ast.specs.Classes.{equalities, variables}
use Rattle.myrial_ast.specs.KeptRows.{kept_rows, prefix_candidates}
use Rattle.myrial_ast.specs.CandidateFaults.{Counted, overflows_on, join_fault, comprehension_fault}

-- ---- shorter words for the examples

abbrev ints : List ℕ → Row
ints numbers = map (λ n. value.Int (pos n)) numbers

abbrev pairs_of : List (ℕ × ℕ) → Rows
pairs_of pairs = map (λ p. ints (p.0 ∷ p.1 ∷ [])) pairs

abbrev column : List ℕ → Rows
column numbers = map (λ n. ints (n ∷ [])) numbers

abbrev equal : ℕ → ℕ → Scalar
equal a b = Bin op.Eq (At a) (At b)

abbrev number : ℤ → Scalar
number n = Lit (value.Int n)

-- a comprehension without aggregates
abbrev emitting : List Scalar → Scalar → Comprehension
emitting emits condition = record { conjuncts = conjuncts condition; emits = emits; aggregates = map (λ e. None) emits }

-- ---- equal rows count by their positions: three rows 7 joined with two rows 7 list six

pub listed-sevens : listed_rows (emitting (At 0 ∷ []) (equal 0 1)) (column (7 ∷ 7 ∷ 7 ∷ []) ∷ column (7 ∷ 7 ∷ []) ∷ [])
    ≡ column (7 ∷ 7 ∷ 7 ∷ 7 ∷ 7 ∷ 7 ∷ [])
listed-sevens = refl

-- ---- a relation joined with itself: a.y = b.x emits a.x, b.y

abbrev edges : Rows
edges = pairs_of ((1, 2) ∷ (2, 3) ∷ (2, 3) ∷ (3, 1) ∷ [])

pub listed-two_edges : listed_rows (emitting (At 0 ∷ At 3 ∷ []) (equal 1 2)) (edges ∷ edges ∷ [])
    ≡ pairs_of ((1, 3) ∷ (1, 3) ∷ (2, 1) ∷ (2, 1) ∷ (3, 2) ∷ [])
listed-two_edges = refl

pub variables-two_edges : variables (2 ∷ 2 ∷ []) (equalities (equal 1 2 ∷ [])) ≡ (1 ∷ 2 ∷ []) ∷ []
variables-two_edges = refl

-- ---- R.x = S.z and R.y = S.z over R = 1,1 / 1,2 / 2,2 and S = 1 / 2 / 2

abbrev both_equal : Scalar
both_equal = Bin op.And (equal 0 2) (equal 1 2)

abbrev r_rows : Rows
r_rows = pairs_of ((1, 1) ∷ (1, 2) ∷ (2, 2) ∷ [])

abbrev s_rows : Rows
s_rows = column (1 ∷ 2 ∷ 2 ∷ [])

pub listed-both_equal : listed_rows (emitting (At 0 ∷ At 2 ∷ []) both_equal) (r_rows ∷ s_rows ∷ [])
    ≡ pairs_of ((1, 1) ∷ (2, 2) ∷ (2, 2) ∷ [])
listed-both_equal = refl

-- one variable of three columns; the row 1,2 of R isn't kept
pub variables-both_equal : variables (2 ∷ 1 ∷ []) (equalities (conjuncts both_equal)) ≡ (0 ∷ 1 ∷ 2 ∷ []) ∷ []
variables-both_equal = refl

pub kept-both_equal_left : kept_rows (2 ∷ 1 ∷ []) (conjuncts both_equal) (equalities (conjuncts both_equal)) 0 r_rows ≡ pairs_of ((1, 1) ∷ (2, 2) ∷ [])
kept-both_equal_left = refl

pub kept-both_equal_right : kept_rows (2 ∷ 1 ∷ []) (conjuncts both_equal) (equalities (conjuncts both_equal)) 1 s_rows ≡ s_rows
kept-both_equal_right = refl

pub prefix-both_equal : prefix_candidates (2 ∷ 1 ∷ []) (conjuncts both_equal) (equalities (conjuncts both_equal)) 1 (r_rows ∷ s_rows ∷ [])
    ≡ pairs_of ((1, 1) ∷ (2, 2) ∷ [])
prefix-both_equal = refl

-- ---- an equality under `or` makes no variable: R.x = S.x or R.y = S.y over R = 1,5 / 2,6 and S = 1,9 / 3,6 / 2,6

abbrev either_equal : Scalar
either_equal = Bin op.Or (equal 0 2) (equal 1 3)

pub variables-either_equal : variables (2 ∷ 2 ∷ []) (equalities (conjuncts either_equal)) ≡ []
variables-either_equal = refl

pub listed-either_equal : listed_rows (emitting (At 0 ∷ At 2 ∷ []) either_equal)
    (pairs_of ((1, 5) ∷ (2, 6) ∷ []) ∷ pairs_of ((1, 9) ∷ (3, 6) ∷ (2, 6) ∷ []) ∷ [])
    ≡ pairs_of ((1, 1) ∷ (2, 3) ∷ (2, 2) ∷ [])
listed-either_equal = refl

-- a chain of equalities through a third item
pub variables-chain : variables (1 ∷ 1 ∷ 1 ∷ []) ((0, 1) ∷ (2, 1) ∷ []) ≡ (0 ∷ 1 ∷ 2 ∷ []) ∷ []
variables-chain = refl

-- columns of one item make no variable
pub variables-one_item : variables (2 ∷ 1 ∷ []) ((0, 1) ∷ []) ≡ []
variables-one_item = refl

-- ---- sums at the end of 64 bits: rows of a department and a payment

abbrev payment : List ℕ → ℤ → Row
payment department n = value.Str department ∷ value.Int n ∷ value.Int n ∷ []

abbrev by_department : Kinds
by_department = None ∷ Some agg.CountAll ∷ Some agg.Sum ∷ []

abbrev payments : Rows
payments = payment (codes "a") (pos 9223372036854775806) ∷ payment (codes "b") (negsuc 4) ∷ payment (codes "a") (pos 1) ∷ payment (codes "b") (pos 2) ∷ []

pub groups-payments : groups by_department payments
    ≡ (value.Str (codes "a") ∷ value.Int (pos 2) ∷ value.Int (pos 9223372036854775807) ∷ [])
    ∷ (value.Str (codes "b") ∷ value.Int (pos 2) ∷ value.Int (negsuc 2) ∷ []) ∷ []
groups-payments = refl

pub sums_fit-payments : sums_fit by_department payments ≡ true
sums_fit-payments = refl

pub sums_fit-one_more : sums_fit by_department (payment (codes "a") (pos 1) ∷ payments) ≡ false
sums_fit-one_more = refl

-- no row, no group, also without a column to group by
pub groups-none : groups (Some agg.CountAll ∷ []) [] ≡ []
groups-none = refl

-- the least and the greatest value
pub groups-extremes : groups (Some agg.Min ∷ Some agg.Max ∷ []) (pairs_of ((3, 3) ∷ (1, 1) ∷ (2, 2) ∷ [])) ≡ pairs_of ((1, 3) ∷ [])
groups-extremes = refl

-- ---- arithmetic is left until the join: R.x * R.y > 0 and R.id = S.id

abbrev with_product : List Scalar
with_product = conjuncts (Bin op.And (Bin op.Gt (Bin op.Mul (At 1) (At 2)) (number (pos 0))) (equal 0 3))

abbrev large : Row
large = ints (2 ∷ 9223372036854775807 ∷ 2 ∷ [])

abbrev with_large : Rows
with_large = ints (1 ∷ 3 ∷ 4 ∷ []) ∷ large ∷ []

-- the row that overflows has no partner
pub candidates-product : candidates (plain_of with_product) (with_large ∷ column (1 ∷ []) ∷ []) ≡ ints (1 ∷ 3 ∷ 4 ∷ 1 ∷ []) ∷ []
candidates-product = refl

-- where it has one, the product does not fit
pub fits-product : map (λ row. map (λ e. fits e row) (arithmetic_of with_product)) (candidates (plain_of with_product) (with_large ∷ column (1 ∷ 2 ∷ []) ∷ []))
    ≡ (true ∷ []) ∷ (false ∷ []) ∷ []
fits-product = refl

-- a sum fits at the end of 64 bits and not past it, and the least number has no opposite
pub fits-sum : fits (Bin op.Add (At 0) (number (pos 1))) (ints (9223372036854775806 ∷ [])) ≡ true
fits-sum = refl

pub fits-sum_past_the_end : fits (Bin op.Add (At 0) (number (pos 1))) (ints (9223372036854775807 ∷ [])) ≡ false
fits-sum_past_the_end = refl

pub fits-opposite : fits (Neg (number (negsuc 9223372036854775807))) [] ≡ false
fits-opposite = refl

-- both sides of `or` have to fit
pub fits-under_or : fits (Bin op.Or (Bin op.Eq (number (pos 1)) (number (pos 1))) (Bin op.Gt (Bin op.Mul (At 0) (At 0)) (number (pos 0)))) (ints (9223372036854775807 ∷ [])) ≡ false
fits-under_or = refl

-- ---- the operators on bags, over 1,1,2,3,3 and 3,4,4

pub distinct-example : distinct (column (1 ∷ 1 ∷ 2 ∷ 3 ∷ 3 ∷ [])) ≡ column (1 ∷ 2 ∷ 3 ∷ [])
distinct-example = refl

pub difference-example : difference (column (1 ∷ 1 ∷ 2 ∷ 3 ∷ 3 ∷ [])) (column (3 ∷ 4 ∷ 4 ∷ [])) ≡ column (1 ∷ 2 ∷ [])
difference-example = refl

pub union_all-example : union_all (column (1 ∷ 1 ∷ [])) (column (1 ∷ 2 ∷ [])) ≡ column (1 ∷ 1 ∷ 1 ∷ 2 ∷ [])
union_all-example = refl

-- ---- operators: a comparison of 2 with each of 1, 2 and 3, and what else a wrong operator would change

abbrev against : BinOp → List Bool
against operator = map (λ n. holds (Bin operator (number (pos 2)) (number (pos n))) []) (1 ∷ 2 ∷ 3 ∷ [])

pub comparisons : map against (op.Lt ∷ op.Le ∷ op.Gt ∷ op.Ge ∷ op.Eq ∷ op.Ne ∷ [])
    ≡ (false ∷ false ∷ true ∷ []) ∷ (false ∷ true ∷ true ∷ []) ∷ (true ∷ false ∷ false ∷ []) ∷ (true ∷ true ∷ false ∷ [])
    ∷ (false ∷ true ∷ false ∷ []) ∷ (true ∷ false ∷ true ∷ []) ∷ []
comparisons = refl

pub value-difference : exact_value (Bin op.Sub (number (pos 2)) (number (pos 5))) [] ≡ value.Int (negsuc 2)
value-difference = refl

pub value-not : map (λ b. holds (Not (Lit (value.Bool b))) []) (true ∷ false ∷ []) ≡ false ∷ true ∷ []
value-not = refl

-- a comparison of numbers that are computed is by their exact values: 3 * 4 > 11 and not 3 * 4 > 12
pub value-comparison : map (λ n. holds (Bin op.Gt (Bin op.Mul (At 0) (At 1)) (number (pos n))) (ints (3 ∷ 4 ∷ []))) (11 ∷ 12 ∷ []) ≡ true ∷ false ∷ []
value-comparison = refl

-- ---- groups in order of first rows, and every aggregate: of strings and truths the least and greatest by their order

abbrev named : List ℕ → Bool → Row
named name truth = value.Str name ∷ value.Str name ∷ value.Bool truth ∷ value.Bool truth ∷ []

pub groups-of_texts : groups (Some agg.Min ∷ Some agg.Max ∷ Some agg.Min ∷ Some agg.Max ∷ [])
    (named (codes "b") true ∷ named (codes "ab") false ∷ named (codes "c") true ∷ [])
    ≡ (value.Str (codes "ab") ∷ value.Str (codes "c") ∷ value.Bool false ∷ value.Bool true ∷ []) ∷ []
groups-of_texts = refl

-- the key 2 stands before 1, as its first row does; rows are counted, and not what they count
pub groups-in_order : groups (None ∷ Some agg.Count ∷ []) (pairs_of ((2, 7) ∷ (1, 5) ∷ (2, 5) ∷ [])) ≡ pairs_of ((2, 2) ∷ (1, 1) ∷ [])
groups-in_order = refl

-- where each column is a key there is a row for each key
pub groups-keys_alone : groups (None ∷ []) (column (3 ∷ 1 ∷ 3 ∷ [])) ≡ column (3 ∷ 1 ∷ [])
groups-keys_alone = refl

-- sums alone have to fit: a greatest value past 64 bits, which no row has, would not count
pub sums_fit-sums_alone : sums_fit (Some agg.Max ∷ []) (ints (9223372036854775808 ∷ []) ∷ []) ≡ true
sums_fit-sums_alone = refl

-- ---- partial rows: a sum that leaves 64 bits on the way, as two parts of three rows

abbrev most : ℤ
most = pos 9223372036854775807

abbrev paid : ℤ → Row
paid n = value.Str (codes "a") ∷ value.Int n ∷ []

abbrev by_name : Kinds
by_name = None ∷ Some agg.Sum ∷ []

abbrev part_of : ℤ → ℤ → Row
part_of high low = value.Str (codes "a") ∷ value.Int high ∷ value.Int low ∷ []

pub partial_rows-first : partial_rows by_name (paid most ∷ paid most ∷ []) ≡ part_of (pos 3) (pos 4611686018427387902) ∷ []
partial_rows-first = refl

pub partial_rows-second : partial_rows by_name (paid (negsuc 9223372036854775806) ∷ []) ≡ part_of (negsuc 1) (pos 1) ∷ []
partial_rows-second = refl

pub merged-both : merged by_name (part_of (pos 3) (pos 4611686018427387902) ∷ part_of (negsuc 1) (pos 1) ∷ []) ≡ paid most ∷ []
merged-both = refl

-- counts are added, and the key's places are counted behind the two columns of a sum
pub merged-counts : merged (Some agg.CountAll ∷ None ∷ []) (pairs_of ((2, 5) ∷ (3, 5) ∷ [])) ≡ pairs_of ((5, 5) ∷ [])
merged-counts = refl

pub partial_keys-behind_a_sum : partial_keys (Some agg.Sum ∷ None ∷ Some agg.Min ∷ None ∷ []) ≡ 2 ∷ 4 ∷ []
partial_keys-behind_a_sum = refl

-- ---- kept rows and prefixes: widths 2 and 1

-- a test without a column cuts candidates and no kept rows
abbrev never : Scalar
never = Lit (value.Bool false)

pub kept-under_never : kept_rows (2 ∷ 1 ∷ []) (never ∷ []) [] 1 s_rows ≡ s_rows
kept-under_never = refl

pub candidates-under_never : candidates (never ∷ []) (r_rows ∷ s_rows ∷ []) ≡ []
candidates-under_never = refl

-- a test of the second item alone, whose column stands third
pub kept-second_item : kept_rows (2 ∷ 1 ∷ []) (Bin op.Eq (At 2) (number (pos 2)) ∷ []) [] 1 s_rows ≡ column (2 ∷ 2 ∷ [])
kept-second_item = refl

-- ties are apart from tests: a test of two columns makes no class, and a tie cuts the items that have both of its columns
pub kept-by_a_tie : kept_rows (2 ∷ 1 ∷ []) [] ((0, 1) ∷ []) 0 r_rows ≡ pairs_of ((1, 1) ∷ (2, 2) ∷ [])
kept-by_a_tie = refl

pub kept-by_a_test : kept_rows (2 ∷ 1 ∷ []) (equal 0 2 ∷ equal 1 2 ∷ []) [] 0 r_rows ≡ r_rows
kept-by_a_test = refl

-- a prefix of two items whose columns are of one class only through the third
pub prefix-through_the_third : prefix_candidates (1 ∷ 1 ∷ 1 ∷ []) (equal 0 2 ∷ equal 1 2 ∷ []) ((0, 2) ∷ (1, 2) ∷ []) 2
    (column (1 ∷ 2 ∷ []) ∷ column (2 ∷ 3 ∷ []) ∷ column (9 ∷ []) ∷ []) ≡ pairs_of ((2, 2) ∷ [])
prefix-through_the_third = refl

-- ten equalities in a row are one class
pub variables-ten : variables (11 ∷ 1 ∷ []) (map (λ n. (n, n + 1)) (0 ∷ 1 ∷ 2 ∷ 3 ∷ 4 ∷ 5 ∷ 6 ∷ 7 ∷ 8 ∷ 9 ∷ 10 ∷ []))
    ≡ (0 ∷ 1 ∷ 2 ∷ 3 ∷ 4 ∷ 5 ∷ 6 ∷ 7 ∷ 8 ∷ 9 ∷ 10 ∷ 11 ∷ []) ∷ []
variables-ten = refl

-- ---- faults of candidates

abbrev past_the_end : Scalar
past_the_end = Bin op.Add (At 0) (Lit (value.Int most))

-- where an arithmetic test fits and doesn't hold nothing is emitted, so what is emitted may leave 64 bits
pub overflows-not_emitted : map (λ n. overflows_on (Bin op.Lt (Bin op.Mul (At 0) (At 0)) (number (pos 4)) ∷ []) (past_the_end ∷ []) (ints (n ∷ []))) (0 ∷ 1 ∷ 2 ∷ [])
    ≡ false ∷ true ∷ false ∷ []
overflows-not_emitted = refl

-- an overflow comes before a sum past 64 bits, and that sum is no overflow
pub fault-overflow_first : join_fault 3 false [] (past_the_end ∷ []) (Some agg.Sum ∷ []) (column (1 ∷ []))
    ≡ Some (fault.Overflow 3)
fault-overflow_first = refl

pub fault-of_a_sum : join_fault 3 false [] (Lit (value.Int most) ∷ []) (Some agg.Sum ∷ []) (column (1 ∷ 2 ∷ []))
    ≡ Some (fault.AggregateOverflow 3)
fault-of_a_sum = refl

-- a prefix that is too long comes before both
pub fault-of_a_prefix : join_fault 3 true [] (past_the_end ∷ []) (Some agg.Sum ∷ []) (column (1 ∷ []))
    ≡ Some (fault.TooManyRows 3)
fault-of_a_prefix = refl

-- the arithmetic conjunct of a comprehension is evaluated on candidates alone
pub fault-of_a_product : map (λ rows. comprehension_fault (record { prefixes = Counted; reduce = false }) 1 (3 ∷ 1 ∷ [])
    (record { conjuncts = with_product; emits = At 0 ∷ []; aggregates = None ∷ [] }) (with_large ∷ rows ∷ [])) (column (1 ∷ []) ∷ column (2 ∷ []) ∷ [])
    ≡ None ∷ Some (fault.Overflow 1) ∷ []
fault-of_a_product = refl

-- ---- loaded files

-- the key of a loaded file is no key of a script's user
pub loaded-own_key : is_load_key (codes "p") (load_key (codes "p")) ≡ true
loaded-own_key = refl

pub loaded-other_name : is_load_key (codes "p") (load_key (codes "q")) ≡ false
loaded-other_name = refl

pub loaded-scanned_key : is_load_key (codes "p") (record { user = codes "public"; program = codes "adhoc"; name = codes "p" }) ≡ false
loaded-scanned_key = refl
