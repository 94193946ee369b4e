-- Scalars of which one fails a test.
use Rattle.std.proofs.Common.{◌≡◌, ℕ, ◌<◌, Bool, false, List, length, map, get_or, sym, ◌∙◌, ap}
use Rattle.std.specs.List.{list_all}
use Rattle.std.proofs.lemmas.List.Folds.{list_all-map, list_all_at}
use Rattle.myrial_ast.specs.declared.scalars.Scalar as code
use Rattle.myrial_ast.specs.Scalars.{Scalar, fits}
use Rattle.myrial_ast.specs.ScalarTrees.{scalar_tree_of}
use Rattle.myrial_ast.specs.Combinations.{Row}
use Rattle.expr_eval.specs.declared.evaluating.EvalFault.{EvalFault}
use Rattle.expr_eval.specs.declared.evaluating.EvalFault.TheVariants as fault
use Rattle.expr_eval.specs.Results.{IsFault, IsListFault}

-- where one fails, not all pass
pub list_all-fails : (p : Scalar → Bool) (es : List code.Scalar) (i : ℕ) (e : code.Scalar) → i < length es → e ≡ get_or es i e
    → p (scalar_tree_of e) ≡ false → list_all p (map scalar_tree_of es) ≡ false
list_all-fails p es i e low is fails =
    list_all-map p scalar_tree_of es
    ∙ list_all_at (λ x. p (scalar_tree_of x)) es i e low (ap (λ x. p (scalar_tree_of x)) (sym is) ∙ fails)

-- where one has a fault, the list has
pub IsListFault-one : (given : EvalFault) (row : Row) (es : List code.Scalar) (i : ℕ) (e : code.Scalar) → i < length es → e ≡ get_or es i e
    → IsFault given (scalar_tree_of e) row → IsListFault given (map scalar_tree_of es) row
IsListFault-one fault.Overflow row es i e low is fails = list_all-fails (λ x. fits x row) es i e low is fails
IsListFault-one fault.Memory row es i e low is fails = tt
