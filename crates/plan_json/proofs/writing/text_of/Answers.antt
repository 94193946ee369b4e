use Rattle.std.proofs.Common.{◌∙◌}
use Rattle.fragmenter.specs.Plans.{plan_tree_of}
use Rattle.plan_json.proofs.WritingLemmas.{text_written}
use Rattle.plan_json.proofs.writing.text_of.Goals as goal

pub returns : goal.returns
returns c =
    c.in_ok-push.ensures.items
    ∙ text_written (plan_tree_of c.args.plan.now) c.in_ok-text.text.items c.in_ok-value.ensures c.in_ok-text.ensures.text
