use Rattle.std.proofs.Common.{◌∙◌}
use Rattle.trial_gen.proofs.TrialLemmas.{rows_are_typed, same_file}
use Rattle.trial_gen.proofs.relations.file_of.Goals as goal

pub new-requires : goal.new-requires
new-requires c = rw (c.in_ok-columns.ensures, c.in_ok-rows.ensures) (rows_are_typed _ _ _)

pub returns : goal.returns
returns c =
    let columns = c.new.ensures.schema ∙ c.in_ok-columns.ensures in
    let rows = c.new.ensures.rows ∙ c.in_ok-rows.ensures in
    same_file c.args.size c.args.number c.in_ok-key.ensures columns rows
