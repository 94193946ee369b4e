use Rattle.std.proofs.Common.{sym}
use Rattle.csv.proofs.ReadFacts.{strip-short}
use Rattle.relation_csv.proofs.PlainLemmas.{strip_bom-marked, strip_bom-unmarked}
use Rattle.relation_csv.proofs.plain.without_mark.Goals as goal

pub returns-in-len3-up : goal.returns-in-len3-up
returns-in-len3-up c = strip_bom-marked c.args.bytes.now c.in-len3-up.len_at_least (sym c.if-is_mark.ensures)

pub returns-in_default : goal.returns-in_default
returns-in_default c = sym (strip-short c.args.bytes.now c.in_default.len_below)

pub returns-in_default-2 : goal.returns-in_default-2
returns-in_default-2 c = strip_bom-unmarked c.args.bytes.now c.in-len3-up.len_at_least (sym c.if-is_mark.ensures)
