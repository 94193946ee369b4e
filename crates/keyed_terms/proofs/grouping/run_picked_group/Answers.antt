use Rattle.std.proofs.Common.{◌∙◌, map, sym}
use Rattle.std.proofs.lemmas.List.{length-map}
use Rattle.myrial_ast.specs.ScalarTrees.{scalar_tree_of}
use Rattle.algebra.specs.Trees.{kind_of_emit}
use Rattle.keyed_terms.specs.KeyedTerms.{group_parts, group_exchanges, emitted_parts}
use Rattle.keyed_terms.proofs.MakingLemmas.{picked-formed, picked-run, on-any}
use Rattle.keyed_terms.proofs.grouping.run_picked_group.Goals as goal

pub meet_partials-requires-clause-formed : goal.meet_partials-requires-clause-formed
meet_partials-requires-clause-formed g c κs within =
    let kinds = map kind_of_emit c.args.kinds.now in
    let picks = map scalar_tree_of c.args.picks.now in
    let parts = c.args.parts.now in (
      emitted_parts picks parts,
      picked-formed kinds picks parts c.args.settings.now.workers c.in_ok-partials.partials c.requires.workers
          (length-map c.args.kinds.now kind_of_emit ∙ c.requires.kinds ∙ sym (length-map c.args.picks.now scalar_tree_of))
          c.in_ok-partials.ensures.few c.in_ok-partials.ensures.rows,
    )

pub returns-clause-run : goal.returns-clause-run
returns-clause-run g c =
    let kinds = map kind_of_emit c.args.kinds.now in
    let picks = map scalar_tree_of c.args.picks.now in
    let parts = c.args.parts.now in
    picked-run c.args.settings.now c.args.statement kinds picks parts (group_parts c.args.settings.now kinds (emitted_parts picks parts))
    (group_exchanges c.args.settings.now kinds (emitted_parts picks parts)) g.T.Tap.totals g.T.Tap.tag c.args.taps.now.items
    c.meet_partials.new.taps.items c.meet_partials.result c.in_ok-partials.ensures.fits
    (c.meet_partials.ensures.run (emitted_parts picks parts)
    (picked-formed kinds picks parts c.args.settings.now.workers c.in_ok-partials.partials c.requires.workers
    (length-map c.args.kinds.now kind_of_emit ∙ c.requires.kinds ∙ sym (length-map c.args.picks.now scalar_tree_of))
    c.in_ok-partials.ensures.few c.in_ok-partials.ensures.rows))

pub returns-clause-sums : goal.returns-clause-sums
returns-clause-sums g c =
    let kinds = map kind_of_emit c.args.kinds.now in
    let picks = map scalar_tree_of c.args.picks.now in
    let parts = c.args.parts.now in
    c.meet_partials.ensures.fits (emitted_parts picks parts)
    (picked-formed kinds picks parts c.args.settings.now.workers c.in_ok-partials.partials c.requires.workers
    (length-map c.args.kinds.now kind_of_emit ∙ c.requires.kinds ∙ sym (length-map c.args.picks.now scalar_tree_of))
    c.in_ok-partials.ensures.few c.in_ok-partials.ensures.rows)

pub returns-clause-fits : goal.returns-clause-fits
returns-clause-fits g c = on-any c.meet_partials.result c.in_ok-partials.ensures.fits
