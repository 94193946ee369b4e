use Rattle.std.proofs.Common.{◌∙◌}
use Rattle.myrial_meaning.proofs.EnvironmentLemmas.{kept_under-file, kept_under-stored}
use Rattle.myrial_meaning.proofs.environment.Environment.held.Goals as goal

pub returns-in_ok-copy-in-Some-stored_under : goal.returns-in_ok-copy-in-Some-stored_under
returns-in_ok-copy-in-Some-stored_under c =
    rw (c.in-Scan.is, c.in_ok-copy-in-Some-stored_under.ensures)
    (kept_under-stored c.args.files.now c.args.self.now c.in-Scan.key c.in-Some-stored_under.relation.now c.in-Some-stored_under.ensures)

pub returns-in-None-stored_under : goal.returns-in-None-stored_under
returns-in-None-stored_under c =
    rw c.in-Scan.is
    (c.lent_from.ensures ∙ kept_under-file c.args.files.now c.args.self.now c.in-Scan.key c.in-None-stored_under.ensures)
