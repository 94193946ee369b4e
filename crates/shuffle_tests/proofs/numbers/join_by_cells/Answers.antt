use Rattle.std.proofs.Common.{◌∙◌, ℕ, length, sym, ap, subst, arith}
use Rattle.rel_io.specs.declared.taps.Totals.{Totals}
use Rattle.share_chooser.specs.Load.{IsShareVector}
use Rattle.share_chooser.specs.Shares.{shares_of}
use Rattle.algebra.specs.ShapeTrees.{shape_tree_of}
use Rattle.shuffle_tests.proofs.NumberLemmas.{numbers-ready}
use Rattle.shuffle_tests.proofs.numbers.join_by_cells.Goals as goal

pub invariant_of-join : goal.invariant_of-join
invariant_of-join g c =
    record { ready = numbers-ready (shape_tree_of c.in_ok-shape.shape) c.args.settings.now.workers c.in_ok-parts.parts c.in_ok-shape.ensures c.in_ok-parts.ensures.two c.in_ok-parts.ensures.all }

pub shuffle_join-requires-clause-shares : goal.shuffle_join-requires-clause-shares
shuffle_join-requires-clause-shares g c κs within =
    subst (λ (v : ℕ). IsShareVector v c.args.settings.now.workers (shares_of c.choose-shares.result))
    (c.two_atoms.ensures ∙ sym (ap length c.in_ok-shape.ensures.variables)) c.choose-shares.ensures.least.vector

pub shuffle_join-requires-clause-low : goal.shuffle_join-requires-clause-low
shuffle_join-requires-clause-low g c κs within k d below =
    let none = c.requires.blank k d below in
    let sent = ap (λ (t : Totals). t.sent) none in
    let got = ap (λ (t : Totals). t.got) none in
    record { sent = omega (arith, sent); got = omega (arith, got) }

pub shuffle_join-requires-clause-unlisted : goal.shuffle_join-requires-clause-unlisted
shuffle_join-requires-clause-unlisted g c κs within k d below =
    let listed = ap (λ (t : Totals). t.listed) (c.requires.blank k d below) in
    omega (arith, listed)
