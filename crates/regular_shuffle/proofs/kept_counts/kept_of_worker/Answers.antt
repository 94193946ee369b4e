use Rattle.std.proofs.Common.{◌∙◌, ◌+◌, ap, length, sym, subst, arith, All, true, false}
use Rattle.std.proofs.lemmas.List.Elements.{All-tail}
use Rattle.algebra.specs.ShapeTrees.{shape_tree_of}
use Rattle.algebra.specs.Shapes.{kept_of}
use Rattle.kept_rows.specs.KeptTests.{IsPartRow, is_kept}
use Rattle.kept_rows.proofs.PartLemmas.{keep-each}
use Rattle.regular_shuffle.proofs.KeptCountLemmas.{counted-next, plus-zero}
use Rattle.regular_shuffle.proofs.kept_counts.kept_of_worker.Goals as goal

pub returns-then-keeps_all : goal.returns-then-keeps_all
returns-then-keeps_all c =
    let shape = shape_tree_of c.args.kept.now.shape.now in
    c.len.ensures ∙ ap length (sym (keep-each (IsPartRow shape c.args.atom) (is_kept shape c.args.atom) (c.keeps_all.ensures c.if-keeps_all.true) c.args.rows.now c.requires))

pub loop-row-preserved-then-is_kept : goal.loop-row-preserved-then-is_kept
loop-row-preserved-then-is_kept c =
    let shape = shape_tree_of c.args.kept.now.shape.now in
    let inv = c.loop-row.invariant in
    let taken = c.in-Some.ensures.steps in
    record {
      can = tt;
      finite = tt;
      counted = counted-next shape c.args.atom c.loop-row.count c.args.rows.now c.loop-row.row-iterator c.next.new.self c.in-Some.row.now true taken
          (sym c.is_kept.ensures ∙ c.if-is_kept.true) inv.counted;
      known = All-tail (IsPartRow shape c.args.atom) c.in-Some.row.now c.next.new.self (subst (All (IsPartRow shape c.args.atom)) taken inv.known);
      few = omega (arith, inv.few, ap length taken);
    }

pub loop-row-preserved : goal.loop-row-preserved
loop-row-preserved c =
    let shape = shape_tree_of c.args.kept.now.shape.now in
    let inv = c.loop-row.invariant in
    let taken = c.in-Some.ensures.steps in
    record {
      can = tt;
      finite = tt;
      counted = ap (λ n. n + length (kept_of shape c.args.atom c.next.new.self)) (plus-zero c.loop-row.count)
          ∙ counted-next shape c.args.atom c.loop-row.count c.args.rows.now c.loop-row.row-iterator c.next.new.self c.in-Some.row.now false taken
          (sym c.is_kept.ensures ∙ c.if-is_kept.false) inv.counted;
      known = All-tail (IsPartRow shape c.args.atom) c.in-Some.row.now c.next.new.self (subst (All (IsPartRow shape c.args.atom)) taken inv.known);
      few = omega (arith, inv.few, ap length taken);
    }
