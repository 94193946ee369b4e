use Rattle.std.proofs.Common.{◌≡◌, subst, arith, List, ℕ}
use Rattle.rel_io.specs.Shelves.{CallCounts, counts_of}
use Rattle.rel_io.specs.declared.shelves.ShelfFault.TheVariants as refusal
use Rattle.myria_top.specs.Reading.{AgreesBy, HasFetchCause}
use Rattle.myria_top.specs.Scripts.{TextComesTo, trees_read}
use Rattle.myria_top.proofs.ScriptLemmas.{absent, long, text_read, text_cause}
use Rattle.myria_top.proofs.reading.read_script.Goals as goal

pub returns-in-Err-Absent-clause-read : goal.returns-in-Err-Absent-clause-read
returns-in-Err-Absent-clause-read g c =
    let counts : CallCounts = counts_of g.F.Shelf c.args.shelf.now c.fetched.new.shelf in
    let content = g.F.Shelf.content c.args.shelf.now c.args.name.now in
    let refused : HasFetchCause counts content refusal.Absent = subst (HasFetchCause counts content) c.in-Err-Absent.field-0-is (rw c.as_str.ensures at c.in-Err-Absent.ensures.refused) in
    record {
      agrees = absent content refused.1;
      cause = refused.0;
      kept = c.fetched.ensures.kept;
    }

pub returns-then-len-gt-MOST_SCRIPT_BYTES-clause-read : goal.returns-then-len-gt-MOST_SCRIPT_BYTES-clause-read
returns-then-len-gt-MOST_SCRIPT_BYTES-clause-read g c = record {
  agrees = long _ _ (rw c.as_str.ensures at c.in-Ok.ensures.ok) (omega arith);
  cause = tt;
  kept = c.fetched.ensures.kept;
}

pub returns-clause-read : goal.returns-clause-read
returns-clause-read g c =
    let counts : CallCounts = counts_of g.F.Shelf c.args.shelf.now c.fetched.new.shelf in
    record {
      agrees =
          text_read _ c.in-Ok.bytes.items (trees_read c.script_of_text.result) (rw c.as_str.ensures at c.in-Ok.ensures.ok) (omega arith)
          (subst (λ (bytes : List ℕ). AgreesBy (TextComesTo bytes) (trees_read c.script_of_text.result)) c.deref.ensures.value c.script_of_text.ensures.agrees);
      cause = text_cause counts (λ asked. asked ≡ c.args.name.now) c.script_of_text.result c.script_of_text.ensures.kind;
      kept = c.fetched.ensures.kept;
    }
