use Rattle.std.proofs.Common.{◌≡◌, length, sym, ap, ◌∙◌, subst, arith}
use Rattle.algebra.specs.declared.notes.PlanNote.TheVariants as note
use Rattle.std.proofs.lemmas.List.{length-map}
use Rattle.algebra.specs.ShapeTrees.{shape_tree_of}
use Rattle.algebra.specs.Trees.{atom_tree_of}
use Rattle.placement.specs.Plans.{uses_of}
use Rattle.share_chooser.specs.Load.{load_of}
use Rattle.share_chooser.specs.Shares as share
use Rattle.share_chooser.specs.Shares.{shares_of}
use Rattle.join_plans.specs.inner.Lines.{IsFitting, choice_line}
use Rattle.join_plans.proofs.SpanLemmas.{shape-small}
use Rattle.join_plans.proofs.CountLemmas.{uses-long}
use Rattle.join_plans.proofs.ChoiceLemmas.{load-front, load-den}
use Rattle.join_plans.proofs.notes.choice_note.Goals as goal

pub overflow_cast-result : goal.overflow_cast-result
overflow_cast-result c =
    let shares = shares_of c.in-Cells.shares in
    let fits = subst (IsFitting (shape_tree_of c.args.shape.now)) c.in-Cells.is c.requires.fitting in
    omega (
      arith,
      ap (λ load. load.den) c.load-load.ensures,
      load-den (share.uses_of c.in_ok-uses-in-Cells.uses)
          c.in_eight.result shares,
      fits.cells,
    )

pub overflow_add-result : goal.overflow_add-result
overflow_add-result c =
    let shape = shape_tree_of c.args.shape.now in
    let small = shape-small shape c.args.shape.now.well_formed in
    let low = subst (IsFitting shape) c.in-Broadcast.is c.requires.fitting in
    omega (arith, low, small.few_atoms)

pub returns-in_ok-uses-in-Cells : goal.returns-in_ok-uses-in-Cells
returns-in_ok-uses-in-Cells c =
    let shape = shape_tree_of c.args.shape.now in
    let joined = c.args.joined.now in
    let shares = shares_of c.in-Cells.shares in
    let long : length (uses_of (shape_tree_of c.args.shape.now)) ≡ length c.args.joined.now = uses-long shape
    ∙ sym (c.requires.joined ∙ sym (length-map c.args.shape.now.atoms atom_tree_of)) in
    let same = c.load-load.ensures ∙ load-front (share.uses_of c.in_ok-uses-in-Cells.uses) (uses_of shape)
    c.in_eight.result joined shares c.in_ok-uses-in-Cells.ensures.uses long c.in_eight.ensures in
    let den = load-den (uses_of shape) joined shares in
    (λ i. note.Hc c.args.local (same i).den (same i).num (same i).den)
    ∙ (λ i. note.Hc c.args.local (den i) (load_of (uses_of shape) joined shares).num (load_of (uses_of shape) joined shares).den)
    ∙ sym (ap (λ chosen. choice_line chosen c.args.local shape joined) c.in-Cells.is)
