use Rattle.std.proofs.Common.{◌∙◌, sym}
use Rattle.relation_csv.proofs.ColumnLemmas.{SplitsAroundMatch-colon, column_of_field-Ok, column_of_field-no_colon, column_of_field-no_type}
use Rattle.relation_csv.proofs.fields.column_of.Goals as goal

pub returns-in_default : goal.returns-in_default
returns-in_default c = λ short.
    rw c.in_ok-name.ensures (column_of_field-no_colon c.args.number c.args.field.now c.in_default.ensures.cases)

pub returns-in_default-type_of : goal.returns-in_default-type_of
returns-in_default-type_of c = λ short.
    column_of_field-no_type c.args.number c.args.field.now c.in-Some.name.now c.in-Some.type_name.now
    (SplitsAroundMatch-colon c.args.field.now c.in-Some.name.now c.in-Some.type_name.now c.in-Some.ensures.cases)
    (sym c.in_default-type_of.is ∙ c.type_of.ensures)

pub returns : goal.returns
returns c = λ short.
    rw c.in_ok-name-2.ensures
    (column_of_field-Ok c.args.number c.args.field.now c.in-Some.name.now c.in-Some.type_name.now c.in-Some-type_of.kind
    (SplitsAroundMatch-colon c.args.field.now c.in-Some.name.now c.in-Some.type_name.now c.in-Some.ensures.cases)
    (sym c.in-Some-type_of.is ∙ c.type_of.ensures))
