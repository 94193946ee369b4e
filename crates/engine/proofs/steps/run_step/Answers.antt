use Rattle.std.proofs.Common.{rules, [], ◌∷◌, ◌++◌, ◌∙◌, ap, append_assoc}
use Rattle.algebra.specs.CheckedTrees.{term_tree_of}
use Rattle.algebra.specs.declared.notes.PlanNote.TheVariants as note
use Rattle.placement.specs.Plans.{ruled_placing, term_notes}
use Rattle.join_plans.specs.JoinPlans.{ruled_by}
use Rattle.engine.specs.inner.Held.{value_held}
use Rattle.engine.specs.inner.Terms.{later_in}
use Rattle.engine.proofs.UsedLemmas.{used_with_more}
use Rattle.engine.proofs.steps.run_step.Goals as goal

pub returns : goal.returns
returns g c =
    let run = c.args.run.now in
    let step = run.step.now in
    let s = c.args.settings.now in
    let plan = c.args.noted.now.plan in
    let came = c.in_ok-parts.field-0 in
    let x = c.in_ok-parts.ensures in
    let moved = x.run.run.ok in
    let notes =
    term_notes (ruled_placing s (ruled_by run.by)) s.local step.statement (value_held c.args.held.now) (term_tree_of step.term) in
    record {
      fair = x.run.run.fair;
      ok = record {
        made = came.parts;
        receipts = came.receipts;
        files = c.in_ok-hold.ensures.files ∙ x.files;
        results =
            used_with_more run.stores.now (later_in run) c.args.held.now.results.items c.run_term.new.held.results.items
            ((step.statement, came.parts) ∷ []) c.hold.new.self.results.items x.used c.in_ok-hold.ensures.results;
        parts = moved.0.parts;
        plan =
            c.in_ok-append.ensures
            ∙ (λ i. c.in_ok-add_note.ensures.ok i ++ (x.lines ∙ ap (λ lines. lines ++ notes) c.new-lines.ensures) i)
            ∙ append_assoc plan (note.Statement step.statement c.kind_of.result c.rows_in.result ∷ []) notes
            ∙ (λ i. plan ++ note.Statement step.statement (c.kind_of.ensures i) (c.rows_in.ensures i) ∷ notes);
        traffic = search rules;
        noted_receipts = search rules;
        shown = moved.0.receipts;
        moved = moved.1;
        sound = x.run.sound;
      };
      err = tt;
    }
