use Rattle.std.proofs.Common.{◌∙◌, sym, ap}
use Rattle.std.specs.Prelude.{option_map}
use Rattle.std.specs.Option.{ok_or}
use Rattle.rel_base.specs.declared.values.Value.TheVariants as variant
use Rattle.relation_csv.specs.declared.faults.RelFault.TheVariants as fault
use Rattle.relation_csv.specs.Fields.{value_of_field}
use Rattle.relation_csv.proofs.fields.value_of.Goals as goal

pub returns-in-Some-bool_of : goal.returns-in-Some-bool_of
returns-in-Some-bool_of c _ =
    ap (λ kind. value_of_field c.args.nth c.args.column kind c.args.field.now) c.in-Bool.is
    ∙ ap (λ truth. ok_or (option_map variant.Bool truth) (fault.BadBool c.args.nth c.args.column))
    (sym c.in-Some-bool_of.ensures)
