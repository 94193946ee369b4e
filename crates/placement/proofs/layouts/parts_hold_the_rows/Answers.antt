use Rattle.placement.proofs.ScriptLemmas.{parts_hold_the_rows}
use Rattle.placement.proofs.layouts.parts_hold_the_rows.Goals as goal

pub returns : goal.returns
returns c = parts_hold_the_rows
