use Rattle.std.proofs.Common.{◌∙◌}
use Rattle.myrial_meaning.proofs.StatementLemmas.{matched-itself, empty-matched}
use Rattle.myrial_meaning.proofs.environment.Environment.relation.Goals as goal

pub returns-in_ok-held-in-Copy-clause-held : goal.returns-in_ok-held-in-Copy-clause-held
returns-in_ok-held-in-Copy-clause-held c = rw (c.in-Copy.is, c.in_ok-held-in-Copy.ensures) (matched-itself _)

pub returns-in_ok-schema-in-Empty-clause-held : goal.returns-in_ok-schema-in-Empty-clause-held
returns-in_ok-schema-in-Empty-clause-held c =
    rw c.in-Empty.is
    (empty-matched _ c.new-in-Empty.result (c.new-in-Empty.ensures.schema ∙ c.in_ok-schema-in-Empty.ensures) (c.new-in-Empty.ensures.rows ∙ c.new.ensures))
