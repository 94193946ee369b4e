-- Values whose strings are lent.
--
--   value_of_lent v     the value that is lent
use Rattle.rel_base.specs.declared.values.Value.{Value}
use Rattle.rel_base.specs.declared.values.Value.TheVariants as value
use Rattle.expr_eval.specs.declared.lent_values.Lent.{Lent}
use Rattle.expr_eval.specs.declared.lent_values.Lent.TheVariants as lent

-- the value that is lent
abbrev pub value_of_lent : Lent → Value
value_of_lent (lent.Int n) = value.Int n
value_of_lent (lent.Str s) = value.Str s.now
value_of_lent (lent.Bool b) = value.Bool b
