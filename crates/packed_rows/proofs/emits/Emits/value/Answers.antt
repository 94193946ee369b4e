use Rattle.std.proofs.Common.{◌≡◌, ◌∙◌, sym, subst, arith}
use Rattle.std.specs.Prelude.{IfSome}
use Rattle.std.proofs.lemmas.Option.{IfSome_then}
use Rattle.myrial_ast.specs.Scalars.{value_at}
use Rattle.packed_rows.specs.declared.emits.Emits.{Emits}
use Rattle.packed_rows.specs.Emitted.{emitted_by}
use Rattle.packed_rows.proofs.EmitLemmas.{emitted-at}
use Rattle.packed_rows.proofs.emits.Emits.value.Goals as goal

pub returns-else-place-picks : goal.returns-else-place-picks
returns-else-place-picks c =
    subst (λ (emits : Emits). IfSome c.picked.result (λ value. value.now ≡ value_at (emitted_by emits c.args.values.now) c.args.place)) (sym c.in-Picked.is)
    (IfSome_then c.picked.result c.picked.ensures
    (λ value same. same ∙ emitted-at c.in-Picked.picks.now c.args.values.now c.args.place c.index-picks-place.result (omega arith) c.index-picks-place.is))
