use Rattle.std.proofs.Common.{refl, Some}
use Rattle.command_words.specs.Requests.{asked_of}
use Rattle.myria_top.proofs.MoveLemmas.{moved-where-asked, refused-still}
use Rattle.myria_top.proofs.run.answer.Goals as goal

pub returns-in-Ok-print-clause-moved : goal.returns-in-Ok-print-clause-moved
returns-in-Ok-print-clause-moved g c =
    let r = c.args.request.now in
    moved-where-asked (Some (asked_of r)) r (g.F.Shelf.content c.args.shelf.now) g.T.Tap.totals g.T.Tap.tag _ _ _ refl c.in-Ok.ensures.moved

pub returns-in-Err-clause-still : goal.returns-in-Err-clause-still
returns-in-Err-clause-still g c check = refused-still _ _ _ c.in-Err.refusal c.in-Err.ensures.read.agrees (c.in-Err.ensures.still check)
