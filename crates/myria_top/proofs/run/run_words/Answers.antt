use Rattle.std.proofs.Common.{◌∙◌, ap, subst, Err, List, ℕ}
use Rattle.std.proofs.KnownBytes.{Keeps-refl}
use Rattle.rel_io.specs.Sinks.{written_of}
use Rattle.myria_top.specs.Headline.{TellsLine}
use Rattle.myria_top.specs.Outcomes.{line_of}
use Rattle.myria_top.proofs.RunLemmas.{told_line}
use Rattle.myria_top.proofs.RequestLemmas.{check-asked}
use Rattle.myria_top.proofs.WordsLemmas.{headline-read, headline-unread, still-unread}
use Rattle.myria_top.proofs.run.run_words.Goals as goal

pub returns-in-Err-clause-headline : goal.returns-in-Err-clause-headline
returns-in-Err-clause-headline g c =
    headline-unread _ _ c.in-Err.fault _ c.from-refusal.ensures (λ usage. c.read_words.ensures.usage (c.in-Err.is ∙ ap Err usage))
    (Keeps-refl _) (told_line _ _ c.tell.result c.tell.ensures)

pub returns-clause-headline : goal.returns-clause-headline
returns-clause-headline g c =
    let err = written_of g.E.Sink c.args.err.now c.tell-2.new.err in
    headline-read _ _ c.in-Ok.request c.answer-answer.result c.in-Ok.ensures.ok c.answer-answer.ensures.explained
    c.answer-answer.ensures.each c.answer-answer.ensures.read
    (subst (λ (name : List ℕ). TellsLine err (line_of name c.answer-answer.result)) c.name_told.ensures
    (told_line err _ c.tell-2.result c.tell-2.ensures))

pub returns-in-Err-clause-still : goal.returns-in-Err-clause-still
returns-in-Err-clause-still g c none = still-unread _ c.in-Err.fault _ c.from-refusal.ensures

pub returns-clause-still : goal.returns-clause-still
returns-clause-still g c none = c.answer-answer.ensures.still (check-asked _ c.in-Ok.request c.in-Ok.ensures.ok none)
