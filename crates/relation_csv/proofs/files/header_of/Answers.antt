use Rattle.std.proofs.Common.{refl}
use Rattle.relation_csv.proofs.SchemaLemmas.{schema_of_record-not_text}
use Rattle.relation_csv.proofs.files.header_of.Goals as goal

pub returns-in-Record-clause-schema : goal.returns-in-Record-clause-schema
returns-in-Record-clause-schema c =
    let (all, text) = rw c.in-Record.is at c.in_ok-read_next.ensures.next in
    rw all c.schema_of.ensures

pub returns-in-NotText-clause-schema : goal.returns-in-NotText-clause-schema
returns-in-NotText-clause-schema c = λ short.
    let (header, others, all, not_text) = rw c.in-NotText.is at c.in_ok-read_next.ensures.next in
    rw all (schema_of_record-not_text header not_text)

pub returns-clause-schema : goal.returns-clause-schema
returns-clause-schema c = λ short.
    let none = rw c.in-End.is at c.in_ok-read_next.ensures.next in
    rw none refl
