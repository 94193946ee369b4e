-- What the evaluation of a scalar comes to.
--
--   IsFault fault e row           why a scalar has no value on a row: a number left 64 bits, or there was no memory for a string
--   IsListFault fault es row      why scalars have no values on a row
use Rattle.std.specs.Prelude.{◌≡◌, ⊤, false, List}
use Rattle.rel_base.specs.declared.values.ColType.TheVariants as kind
use Rattle.rel_base.specs.Relations.{type_of}
use Rattle.myrial_ast.specs.Scalars.{Scalar, fits, exact_value}
use Rattle.myrial_ast.specs.Combinations.{Row}
use Rattle.myrial_ast.specs.CandidateFaults.{all_fit}
use Rattle.expr_eval.specs.declared.evaluating.EvalFault.{EvalFault}
use Rattle.expr_eval.specs.declared.evaluating.EvalFault.TheVariants as fault

-- a number that a part makes lies outside 64 bits, or the value is a string, for which there was no memory
abbrev pub IsFault : EvalFault → Scalar → Row → Type 0
IsFault fault.Overflow e row = fits e row ≡ false
IsFault fault.Memory e row = type_of (exact_value e row) ≡ kind.Str

-- a number that a part of one of them makes lies outside 64 bits; memory may be refused at any time
abbrev pub IsListFault : EvalFault → List Scalar → Row → Type 0
IsListFault fault.Overflow es row = all_fit es row ≡ false
IsListFault fault.Memory es row = ⊤
