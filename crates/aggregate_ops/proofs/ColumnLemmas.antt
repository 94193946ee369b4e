-- Columns of runs, row by row.
use Rattle.std.proofs.Common.{◌≡◌, ℕ, ◌+◌, ◌<◌, ◌^◌, ℤ, [], ◌∷◌, ◌++◌, length, take, fold, get_or, sym, ◌∙◌, ap, arith}
use Rattle.std.specs.Prelude.{◌+ℤ◌, ◌≤ℤ◌, neg_ℤ, pos, negsuc, FitsSigned}
use Rattle.std.specs.Int.{w128}
use Rattle.std.proofs.lemmas.Int.{ints}
use Rattle.std.proofs.lemmas.List.{take_more, map-append}
use Rattle.std.proofs.lemmas.List.Sums.{fold-append}
use Rattle.rel_base.specs.declared.values.Value.{Value}
use Rattle.rel_base.specs.Values.{number_of}
use Rattle.myrial_ast.specs.Scalars.{value_at}
use Rattle.myrial_ast.specs.Combinations.{Row, Rows}
use Rattle.myrial_ast.specs.Groups.{total}
use Rattle.aggregate_ops.specs.Columns.{column}

-- the column of one row more
pub column-more : (rows : Rows) (i place : ℕ) → i < length rows
    → column (take (i + 1) rows) place ≡ column (take i rows) place ++ value_at (get_or rows i []) place ∷ []
column-more rows i place low =
    ap (λ some. column some place) (take_more rows i [] low) ∙ map-append (λ r. value_at r place) (take i rows) (get_or rows i [] ∷ [])

-- what is folded of one row more
pub fold-more : {A : Type 0} (f : A → Value → A) (a : A) (rows : Rows) (i place : ℕ) (row : Row) → i < length rows → row ≡ get_or rows i []
    → fold f a (column (take (i + 1) rows) place) ≡ f (fold f a (column (take i rows) place)) (value_at row place)
fold-more f a rows i place row low is =
    ap (fold f a) (column-more rows i place low) ∙ fold-append f a (column (take i rows) place) (value_at (get_or rows i []) place ∷ [])
    ∙ ap (λ (r : Row). f (fold f a (column (take i rows) place)) (value_at r place)) (sym is)

-- the sum of one row more
pub total-more : (rows : Rows) (i place : ℕ) (row : Row) (sum made : ℤ) → i < length rows → row ≡ get_or rows i []
    → sum ≡ total (column (take i rows) place) → made ≡ sum +ℤ number_of (value_at row place)
    → made ≡ total (column (take (i + 1) rows) place)
total-more rows i place row sum made low is so_far new =
    new ∙ (λ j. so_far j +ℤ number_of (value_at row place)) ∙ sym (fold-more (λ s v. s +ℤ number_of v) (pos 0) rows i place row low is)

-- a number within 2 ^ 100 fits 128 bits
pub fits-wide : (z : ℤ) → neg_ℤ (pos (2 ^ 100)) ≤ℤ z → z ≤ℤ pos (2 ^ 100) → FitsSigned w128 z
fits-wide (pos n) low high = omega (arith, ints)
fits-wide (negsuc n) low high = omega (arith, ints)
