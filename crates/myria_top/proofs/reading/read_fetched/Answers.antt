use Rattle.std.proofs.Common.{◌≡◌, ◌≢◌, ◌∙◌, refl, sym, ap, arith, rules}
use Rattle.relation_csv.specs.declared.faults.RelFault.TheVariants as why
use Rattle.rel_io.specs.Shelves.{CallCounts, counts_of}
use Rattle.myria_top.specs.declared.outcomes.Outcome.TheVariants as outcome
use Rattle.myria_top.specs.FileNames.{file_name_of}
use Rattle.myria_top.specs.Reading.{AgreesRefused, HasCause}
use Rattle.myria_top.specs.Runs.{relation_answer, relation_of, relation_read, relation_verdict}
use Rattle.myria_top.proofs.ReadingLemmas.{in_place, in_place_if, too_long, read-formed, read_goes, read_refuses}
use Rattle.myria_top.proofs.VerdictLemmas.{meets_step}
use Rattle.myria_top.proofs.reading.read_fetched.Goals as goal

pub returns-in-Ok-relation_of-clause-read : goal.returns-in-Ok-relation_of-clause-read
returns-in-Ok-relation_of-clause-read g c = record {
  agrees =
      meets_step _ _ (read_goes 67108864 (outcome.NoRelation c.args.fetch.now.key) (outcome.RelTooLong c.args.fetch.now.key) (relation_of c.args.fetch.now) _ _ _
      (rw c.in-Ok.ensures at (rw c.as_str.ensures at c.in-Ok-fetched.ensures.ok)) (omega arith)
      (ap (relation_answer c.args.fetch.now.key)
      (sym (ap (relation_read c.args.fetch.now.form) c.deref.ensures.value) ∙ c.in-Ok-relation_of.ensures.read (λ e. cc))));
  cause = tt;
  kept = c.fetched.ensures.kept;
}

pub returns-in-Ok-relation_of-clause-formed : goal.returns-in-Ok-relation_of-clause-formed
returns-in-Ok-relation_of-clause-formed g c =
    read-formed c.args.fetch.now.form c.deref.result.now c.in-Ok-relation_of.relation (c.in-Ok-relation_of.ensures.read (λ e. cc))

pub returns-then-len-gt-MOST_RELATION_BYTES-clause-read : goal.returns-then-len-gt-MOST_RELATION_BYTES-clause-read
returns-then-len-gt-MOST_RELATION_BYTES-clause-read g c =
    let key = c.args.fetch.now.key in
    let name = file_name_of key in
    let content = g.F.Shelf.content c.args.shelf.now name in
    let counts : CallCounts = counts_of g.F.Shelf c.args.shelf.now c.fetched.new.shelf in
    record {
      agrees =
          in_place (AgreesRefused (relation_verdict c.args.fetch.now content)) c.too_long.result (outcome.RelTooLong key) c.too_long.ensures
          (meets_step _ _ (too_long 67108864 (outcome.NoRelation key) (outcome.RelTooLong key) (relation_of c.args.fetch.now) _ _
          (rw c.in-Ok.ensures at (rw c.as_str.ensures at c.in-Ok-fetched.ensures.ok)) (omega arith))) tt;
      cause =
          in_place (HasCause counts (λ asked. asked ≡ name)) c.too_long.result (outcome.RelTooLong key) c.too_long.ensures
          refl tt;
      kept = c.fetched.ensures.kept;
    }

pub returns-clause-read : goal.returns-clause-read
returns-clause-read g c =
    let key = c.args.fetch.now.key in
    let name = file_name_of key in
    let fault = c.in-Err-relation_of.fault in
    let content = g.F.Shelf.content c.args.shelf.now name in
    let counts : CallCounts = counts_of g.F.Shelf c.args.shelf.now c.fetched.new.shelf in
    record {
      agrees =
          in_place_if (AgreesRefused (relation_verdict c.args.fetch.now content)) c.bad_relation.result (outcome.BadRelation key fault)
          (fault ≢ why.Memory) c.bad_relation.ensures
          (λ other. meets_step _ _ (read_refuses 67108864 (outcome.NoRelation key) (outcome.RelTooLong key) (relation_of c.args.fetch.now) _ _ _
          (rw c.in-Ok.ensures at (rw c.as_str.ensures at c.in-Ok-fetched.ensures.ok)) (omega arith)
          (ap (relation_answer key)
          (sym (ap (relation_read c.args.fetch.now.form) c.deref.ensures.value) ∙ c.in-Err-relation_of.ensures.read (λ e. other (cc)))))) tt;
      cause =
          in_place_if (HasCause counts (λ asked. asked ≡ name)) c.bad_relation.result (outcome.BadRelation key fault)
          (fault ≢ why.Memory) c.bad_relation.ensures (λ other. refl) tt;
      kept = c.fetched.ensures.kept;
    }

pub returns-in-Err-Failed-clause-read : goal.returns-in-Err-Failed-clause-read
returns-in-Err-Failed-clause-read g c = search rules
