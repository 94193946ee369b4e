use Rattle.std.proofs.Common.{◌≡◌, ◌∙◌, ◌+◌, ◌<◌, ◌^◌, List, length, sym, ap, arith}
use Rattle.std.proofs.lemmas.List.{at_drop_all}
use Rattle.myrial_scopes.specs.declared.meanings.Meaning.TheVariants as meaning
use Rattle.myrial_scopes.specs.Meanings.{is_ambiguous, is_unknown, meaning_among, place_in}
use Rattle.myrial_scopes.specs.Scopes.{ItemSchema, may_mean, places_of, scope_of}
use Rattle.myrial_scopes.specs.inner.Places.{places_from, scope_from, with_places}
use Rattle.myrial_scopes.proofs.MeaningLemmas.{is_ambiguous-among, is_unknown-among, length-scope_from-more, meaning-more}
use Rattle.myrial_scopes.proofs.MeaningLemmas.{place_in-among, with_places-among}
use Rattle.myrial_scopes.proofs.scopes.Scope.meaning_of.Goals as goal
use Rattle.myrial_scopes.proofs.scopes.Scope.meaning_of.Goals.{After-item-item}

-- the columns of the item lie within the scope
within : (c : After-item-item) → c.loop-item.first + length c.item-item.result.schema < 2 ^ 32
within c =
    let long = length-scope_from-more c.deref-item-items.result.now c.loop-item.item-index c.item-item.result
    c.loop-item-test.true c.item-item.is in
    let few : length c.args.self.now < 2 ^ 32 = rw (← c.self.view_is) (omega (arith, c.self.invariant.0, c.self.invariant.1)) in
    omega (arith, long, c.loop-item.invariant.first, few)

pub loop-item-init : goal.loop-item-init
loop-item-init c =
    let scope : scope_from 0 c.deref-item-items.result.now ≡ c.args.self.now = ap scope_of c.deref-item-items.ensures.value
    ∙ c.self.view_is in
    record {
      meaning = ap (λ s. with_places meaning.Unknown (places_from 0 (may_mean c.args.reference.now) s)) scope
          ∙ with_places-among (places_of c.args.self.now c.args.reference.now);
      first = omega (arith, ap length scope);
    }

pub with_own-meaning-requires : goal.with_own-meaning-requires
with_own-meaning-requires c = within (goal.at.with_own-meaning-requires c).After-item-item

pub overflow_add-first : goal.overflow_add-first
overflow_add-first c =
    let fits = within (goal.at.overflow_add-first c).After-item-item in
    omega (arith, fits, c.len-first.ensures)

pub loop-item-preserved : goal.loop-item-preserved
loop-item-preserved c =
    let items = c.deref-item-items.result.now in
    let i = c.loop-item.item-index in
    let item = c.item-item.result in
    let long = length-scope_from-more items i item c.loop-item-test.true c.item-item.is in
    record {
      meaning = rw (c.with_own-meaning.ensures, c.len-first.ensures)
          (meaning-more items i item c.loop-item-test.true c.item-item.is c.args.reference.now c.loop-item.meaning c.loop-item.first
          ∙ c.loop-item.invariant.meaning);
      first = omega (arith, long, c.loop-item.invariant.first, c.len-first.ensures);
    }

pub returns : goal.returns
returns c =
    let places = places_of c.args.self.now c.args.reference.now in
    let left = λ (rest : List ItemSchema).
    with_places c.loop-item.meaning (places_from c.loop-item.first (may_mean c.args.reference.now)
    (scope_from c.loop-item.item-index rest)) in
    let meant : c.loop-item.meaning ≡ meaning_among places =
    sym (at_drop_all left c.deref-item-items.result.now c.loop-item.item-index c.loop-item-test.false)
    ∙ c.loop-item.invariant.meaning in
    record {
      meaning = meant;
      unknown = ap is_unknown meant ∙ is_unknown-among places;
      ambiguous = ap is_ambiguous meant ∙ is_ambiguous-among places;
      place = ap place_in meant ∙ place_in-among places;
    }
