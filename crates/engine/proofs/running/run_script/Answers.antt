use Rattle.std.proofs.Common.{refl}
use Rattle.algebra.specs.CheckedTrees.{checked_tree_of}
use Rattle.fragmenter.specs.Plans.{lent_plan, rules_by}
use Rattle.engine.proofs.RunLemmas.{sources-held, all-ran}
use Rattle.engine.proofs.running.run_script.Goals as goal

pub stored_of-requires-clause-held : goal.stored_of-requires-clause-held
stored_of-requires-clause-held g c =
    sources-held c.args.settings.now (rules_by c.args.settings.now (lent_plan c.args.plan)) c.args.files.now (checked_tree_of c.args.checked.now) c.requires.of c.in_ok-held.held
    c.in_ok-held.noted g.T.Tap.totals g.T.Tap.tag c.args.taps.now.items c.run_steps.new.taps.items c.in_ok-held.ensures.ok

pub returns : goal.returns
returns g c = record {
  fair = c.in_ok-held.ensures.fair;
  ok =
      all-ran c.args.settings.now (rules_by c.args.settings.now (lent_plan c.args.plan)) c.args.files.now (checked_tree_of c.args.checked.now) c.requires.of c.in_ok-held.held
      c.in_ok-held.noted g.T.Tap.totals g.T.Tap.tag c.args.taps.now.items c.run_steps.new.taps.items c.in_ok-held.ensures.ok
      (record {
        stored = c.in_ok-stored.stored;
        plan = c.in_ok-held.noted.plan;
        traffic = c.in_ok-held.noted.traffic;
        receipts = c.in_ok-held.noted.receipts;
      })
      c.in_ok-stored.ensures refl refl refl;
  err = tt;
}
