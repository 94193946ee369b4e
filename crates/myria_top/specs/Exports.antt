-- What is exported can be replayed.
--
--   export_of r files c     the plan that an export of a typed script writes
--   ExportsAreRead          its text is read as that plan, and it fits the script
use Rattle.std.specs.Prelude.{◌≡◌, ◌≤◌, IsTrue, List, length, Ok}
use Rattle.rel_base.specs.Keys.{File}
use Rattle.rel_base.specs.Limits.{most_pieces}
use Rattle.myrial_ast.specs.Trees.{StatementTree}
use Rattle.myrial_types.specs.Checking.{checked_of}
use Rattle.myrial_types.specs.Fetching.{have_forms}
use Rattle.algebra.specs.Rewriting.{IsRewritten}
use Rattle.algebra.specs.Trees.{CheckedTree}
use Rattle.placement.specs.Plans.{placing_by, usual_rules, plan_of}
use Rattle.fragmenter.specs.NotedPlans.{noted_plan}
use Rattle.fragmenter.specs.Plans.{PlanTree, joins_of}
use Rattle.plan_json.specs.PlanTexts.{written}
use Rattle.command_words.specs.declared.requests.Request.{Request}
use Rattle.myria_top.specs.Plans.{plan_read}
use Rattle.myria_top.specs.Verdicts.{passes}

-- the plan that an export of a typed script over its files writes
abbrev pub export_of : Request → List File → CheckedTree → PlanTree
export_of r files c =
    noted_plan (plan_of (placing_by r.settings (usual_rules r.settings)) r.settings.local files c)
    r.settings.workers

-- for a script of no more statements than one may have, whatever its steps are rewritten to, the text of this plan is read as
-- this plan, and it fits
abbrev pub ExportsAreRead : Type 0
ExportsAreRead =
    (r : Request) (files : List File) (script : List StatementTree) (c d : CheckedTree)
    → IsTrue (have_forms files script) → checked_of files script ≡ Ok c
    → length script ≤ most_pieces → IsRewritten c d
    → plan_read r.settings.workers (joins_of d.steps) (written (export_of r files c))
    ≡ passes (export_of r files c)
