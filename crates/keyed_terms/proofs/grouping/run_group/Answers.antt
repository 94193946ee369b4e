use Rattle.std.proofs.Common.{ℕ, map, get_or, [], subst}
use Rattle.myrial_ast.specs.Partials.{partial_rows}
use Rattle.algebra.specs.Trees.{kind_of_emit}
use Rattle.keyed_terms.specs.inner.Making.{AreMadeBy}
use Rattle.keyed_terms.proofs.grouping.run_group.Goals as goal

pub meet_partials-requires-clause-formed : goal.meet_partials-requires-clause-formed
meet_partials-requires-clause-formed g c κs within =
    let kinds = map kind_of_emit c.args.kinds.now in
    let listed = c.args.listed.now in (
      listed,
      record {
        long = c.requires.workers;
        grouped = c.requires.grouped;
        few = c.in_ok-partials.ensures.few;
        made = subst (λ (m : ℕ). AreMadeBy m (λ w. partial_rows kinds (get_or listed w [])) c.in_ok-partials.partials) c.requires.workers c.in_ok-partials.ensures.rows;
      },
    )

pub returns-clause-run : goal.returns-clause-run
returns-clause-run g c =
    let kinds = map kind_of_emit c.args.kinds.now in
    let listed = c.args.listed.now in
    c.meet_partials.ensures.run listed (record {
      long = c.requires.workers;
      grouped = c.requires.grouped;
      few = c.in_ok-partials.ensures.few;
      made = subst (λ (m : ℕ). AreMadeBy m (λ w. partial_rows kinds (get_or listed w [])) c.in_ok-partials.partials) c.requires.workers c.in_ok-partials.ensures.rows;
    })

pub returns-clause-fits : goal.returns-clause-fits
returns-clause-fits g c =
    let kinds = map kind_of_emit c.args.kinds.now in
    let listed = c.args.listed.now in
    c.meet_partials.ensures.fits listed (record {
      long = c.requires.workers;
      grouped = c.requires.grouped;
      few = c.in_ok-partials.ensures.few;
      made = subst (λ (m : ℕ). AreMadeBy m (λ w. partial_rows kinds (get_or listed w [])) c.in_ok-partials.partials) c.requires.workers c.in_ok-partials.ensures.rows;
    })
