use Rattle.std.proofs.Common.{rules, tests}
use Rattle.std.proofs.lemmas.Bool.Decides.{when_true}
use Rattle.std.proofs.lemmas.Iterator.{YieldsList-from_slice, cases_from_all}
use Rattle.std.proofs.lemmas.List.Elements.{All-from_all_within}
use Rattle.routed_joins.specs.Listings.{IsLow}
use Rattle.routed_joins.proofs.telling.have_room.Goals as goal

pub returns-clause-unlisted : goal.returns-clause-unlisted
returns-clause-unlisted g c all =
    let totals = g.T.Tap.totals in
    All-from_all_within (λ tap. IsLow (totals tap)) c.args.taps.now (when_true _ _ all
    (cases_from_all _ _ c.all.result (λ tap. IsLow (totals tap)) (λ _. Unit {0}) c.all.ensures.ran
    (YieldsList-from_slice c.args.taps.now cc) (λ tap q k. search (rules, tests)) (λ tap q k. tt)))
