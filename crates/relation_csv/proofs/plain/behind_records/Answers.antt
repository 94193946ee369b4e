use Rattle.std.proofs.Common.{◌≡◌, ◌-◌, ◌+◌, ◌∙◌, ◌<◌, length, drop, ap, sym, arith, rules, List}
use Rattle.std.proofs.Math.Seq.{drop-nil}
use Rattle.std.proofs.lemmas.Bool.Decides.{nat_tests}
use Rattle.csv.specs.declared.parser.State.TheVariants as state
use Rattle.relation_csv.specs.Files.{Record}
use Rattle.relation_csv.specs.inner.RecordsLeft.{records_after}
use Rattle.relation_csv.proofs.PlainLemmas.{drop-one_more, records_after-nothing}
use Rattle.relation_csv.proofs.plain.behind_records.Goals as goal

pub returns-then-is_empty : goal.returns-then-is_empty
returns-then-is_empty c =
    let n = c.args.count - c.records.counter in
    let line = c.in_ok-line.line.now in
    let empty : length line ≡ 0 = grind (arith, nat_tests) in
    let nothing = records_after-nothing line empty in
    c.records.invariant.left ∙ ap (λ (rs : List Record). drop n rs) (c.in_ok-line.ensures.same ∙ nothing)
    ∙ drop-nil n ∙ sym nothing

pub behind_record-requires : goal.behind_record-requires
behind_record-requires c =
    let some : 0 < length c.in_ok-line.line.now = grind (arith, nat_tests) in
    record { line = c.in_ok-line.ensures.line; some = some }

pub records-preserved : goal.records-preserved
records-preserved c =
    let n = c.args.count - c.records.counter in
    let m = c.args.count - (c.records.counter + 1) in
    let line = c.in_ok-line.line.now in
    record {
      text = search rules;
      left = c.records.invariant.left ∙ ap (λ (rs : List Record). drop n rs) c.in_ok-line.ensures.same
          ∙ drop-one_more n m (records_after state.StartRecord line) (omega arith)
          ∙ ap (λ (rs : List Record). drop m rs) c.in_ok-left.ensures;
    }
