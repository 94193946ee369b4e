use Rattle.std.proofs.Common.{rules, ◌≡◌, ◌∙◌, ◌++◌, ◌∷◌, [], ◌+◌, List, length, take, refl, sym, ap, arith}
use Rattle.std.proofs.lemmas.List.{length-append, take_more}
use Rattle.myrial_scopes.specs.Scopes.{ItemSchema, columns_of, scope_of}
use Rattle.myrial_scopes.proofs.MeaningLemmas.{length-columns_of}
use Rattle.myrial_scopes.proofs.ScopeLemmas.{scope_of-more}
use Rattle.myrial_scopes.proofs.scopes.Scope.of.Goals as goal

pub loop-item-preserved : goal.loop-item-preserved
loop-item-preserved c =
    let items = c.args.items.now in
    let i = c.loop-item.item-index in
    let item = c.item-item.result in
    let same : c.new.result ≡ item =
    λ j. let s : ItemSchema = record {
      alias = (c.new.ensures.alias ∙ ap (λ s. s.alias) c.item.view_is) j;
      schema = (c.new.ensures.schema ∙ ap (λ s. s.schema) c.item.view_is) j;
    } in s in
    let more : take (i + 1) items
    ≡ take i items ++ item ∷ [] = rw (take_more items i item c.loop-item-test.true, ← c.item-item.is) refl in
    let long : length (scope_of (take (i + 1) items)) ≡ length (scope_of (take i items)) + length item.schema =
    rw (
      scope_of-more items i item c.loop-item-test.true c.item-item.is,
      length-append (scope_of (take i items)) (columns_of i item),
      length-columns_of i item,
    ) refl in
    let sum : c.in-Some.more ≡ c.loop-item.len + c.len.result = search rules in
    record {
      kept = c.in_ok-push.ensures.items
          ∙ (ap (λ (kept : List ItemSchema). kept ++ c.new.result ∷ []) c.loop-item.invariant.kept
          ∙ (ap (λ (last : ItemSchema). take i items ++ last ∷ []) same ∙ sym more));
      few = search rules;
      len = omega (arith, sum, long, c.len.ensures, c.loop-item.invariant.len);
    }

pub invariant_of-result : goal.invariant_of-result
invariant_of-result c = (
  c.loop-item.invariant.len
      ∙ ap (λ (kept : List ItemSchema). length (scope_of kept)) (sym c.loop-item.invariant.kept),
  c.loop-item.invariant.few,
)
