use Rattle.std.proofs.Common.{sym}
use Rattle.myrial_meaning.proofs.NeededLemmas.{any-sources}
use Rattle.myrial_meaning.proofs.needed.mentions.Goals as goal

pub returns-in-From : goal.returns-in-From
returns-in-From c =
    rw (c.in-From.is, c.goes_over.ensures, c.as_slice.ensures.value) (sym (any-sources c.args.name.now c.in-From.items))
