use Rattle.std.proofs.Common.{◌≡◌, ℕ, List, arith, subst}
use Rattle.rel_io.specs.Shelves.{CallCounts, counts_of}
use Rattle.rel_io.specs.declared.shelves.ShelfFault.TheVariants as refusal
use Rattle.algebra.specs.CheckedTrees.{checked_tree_of}
use Rattle.myria_top.specs.Plans.{needed_joins, plan_named, plan_read}
use Rattle.myria_top.specs.Reading.{Agrees, HasFetchCause}
use Rattle.myria_top.specs.declared.outcomes.Outcome.TheVariants as outcome
use Rattle.myria_top.specs.inner.Working.{plan_of_read, IsOfPlan, IsOfPlanText}
use Rattle.myria_top.proofs.ReadingLemmas.{too_long}
use Rattle.myria_top.proofs.ReplayLemmas.{err-further, plan_absent, plan_cause, plan_told, text-of_plan}
use Rattle.myria_top.proofs.VerdictLemmas.{meets_step}
use Rattle.myria_top.proofs.replaying.read_plan_for.Goals as goal

pub returns-in-Err-Absent-clause-read : goal.returns-in-Err-Absent-clause-read
returns-in-Err-Absent-clause-read g c =
    let counts : CallCounts = counts_of g.F.Shelf c.args.shelf.now c.fetched.new.shelf in
    let content = g.F.Shelf.content c.args.shelf.now (plan_named c.args.request.now) in
    let refused : HasFetchCause counts content refusal.Absent =
    subst (HasFetchCause counts content) c.in-Err-Absent.field-0-is (rw c.plan_name.ensures at c.in-Err-Absent.ensures.refused) in
    record {
      agrees = plan_absent c.args.request.now.settings.workers (needed_joins (checked_tree_of c.args.checked.now)) content refused.1;
      cause = refused.0;
      kept = c.fetched.ensures.kept;
    }

pub returns-then-len-gt-MOST_PLAN_BYTES-clause-read : goal.returns-then-len-gt-MOST_PLAN_BYTES-clause-read
returns-then-len-gt-MOST_PLAN_BYTES-clause-read g c =
    let joins = needed_joins (checked_tree_of c.args.checked.now) in
    record {
      agrees =
          meets_step _ _ (too_long 65536 outcome.NoPlan outcome.PlanTooLong (plan_read c.args.request.now.settings.workers joins) _ _
          (rw c.plan_name.ensures at c.in-Ok.ensures.ok) (omega arith));
      cause = tt;
      kept = c.fetched.ensures.kept;
    }

pub returns-clause-read : goal.returns-clause-read
returns-clause-read g c =
    let r = c.args.request.now in
    let workers = r.settings.workers in
    let joins = needed_joins (checked_tree_of c.args.checked.now) in
    let name = plan_named r in
    let counts : CallCounts = counts_of g.F.Shelf c.args.shelf.now c.fetched.new.shelf in
    let result = plan_of_read c.plan_of_bytes.result in
    record {
      agrees =
          plan_told workers joins (g.F.Shelf.content c.args.shelf.now name) c.in-Ok.bytes.items result
          (rw c.plan_name.ensures at c.in-Ok.ensures.ok) (omega arith)
          (subst (λ (bytes : List ℕ). Agrees (plan_read workers joins bytes) result) c.deref.ensures.value c.plan_of_bytes.ensures.agrees);
      cause = plan_cause counts (λ asked. asked ≡ name) c.plan_of_bytes.result c.plan_of_bytes.ensures.kind;
      kept = c.fetched.ensures.kept;
    }

pub returns-clause-kind : goal.returns-clause-kind
returns-clause-kind g c = err-further IsOfPlanText IsOfPlan text-of_plan c.plan_of_bytes.result c.plan_of_bytes.ensures.kind
