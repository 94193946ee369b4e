use Rattle.std.proofs.Common.{◌≡◌, rules}
use Rattle.rel_base.specs.declared.values.ColType.TheVariants as kind
use Rattle.relation_csv.proofs.plain.first_value.Goals as goal

pub returns-in-Some : goal.returns-in-Some
returns-in-Some c =
    let int : c.args.kind ≡ kind.Int = search rules in (
      c.in-Some.field-0-0.now,
      search rules,
      c.in-Some.ensures.begins,
      rw (int, c.in-Some.ensures.number) (search rules),
    )
