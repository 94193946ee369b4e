use Rattle.std.proofs.Common.{sym}
use Rattle.rel_base.proofs.SortKeyLemmas.{lesser_key, greater_key, even_key}
use Rattle.word_table.proofs.text_keys.decided.Goals as goal

pub returns-then-key-other-clause-decides : goal.returns-then-key-other-clause-decides
returns-then-key-other-clause-decides c = λ s t is are. sym (lesser_key s t c.args.key c.args.other is are c.if-key-other.true)

pub returns-then-other-key-clause-decides : goal.returns-then-other-key-clause-decides
returns-then-other-key-clause-decides c = λ s t is are. sym (greater_key s t c.args.key c.args.other is are c.if-other-key.true)

pub returns-then-key-eq0-clause-decides : goal.returns-then-key-eq0-clause-decides
returns-then-key-eq0-clause-decides c = λ s t is are. sym (even_key s t c.args.key c.args.other is are c.if-key-other.false c.if-other-key.false c.if-key-eq0.true)
