-- the columns so far are of ints
use Rattle.std.proofs.Common.{◌≡◌, All, take}
use Rattle.rel_base.specs.declared.relations.Column.{Column}
use Rattle.rel_base.specs.declared.values.ColType.TheVariants as kind
use Rattle.relation_csv.proofs.int_rows.are_ints.Given as goal

abbrev pub invariant-loop-column : goal.invariant-loop-column
invariant-loop-column l = All (λ (c : Column). c.kind ≡ kind.Int) (take l.column-index l.schema)
