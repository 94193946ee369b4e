use Rattle.std.proofs.Common.{◌≡◌, suc, ◌+◌, ◌-◌, [], ◌∷◌, length, sym, ap, ◌∙◌, arith, length-append, map}
use Rattle.std.proofs.lemmas.List.{map-append}
use Rattle.myrial_parser.specs.inner.Descent.{separated}
use Rattle.myrial_parser.proofs.TurnLemmas.{separated-goes_on, separated-ends}
use Rattle.myrial_parser.proofs.cursor.Cursor.separated.Goals as goal

pub returns-then-not-eat : goal.returns-then-not-eat
returns-then-not-eat g c =
    let rule = g.P.Phrase.parser in
    let view = g.P.Phrase.tree_of in
    let turns = c.left-turn-end.result - (c.loop-turn._turn + 1) in
    let more : c.left-turn-end.result - c.loop-turn._turn ≡ suc turns = omega (arith, c.loop-turn-test.true) in
    separated-ends rule (c.left-turn-end.result - c.loop-turn._turn) turns (map view c.loop-turn.items) (map view c.push.new.self) (view c.in_ok-item.item) c.loop-turn.self c.read.new.cursor c.eat.new.self (separated rule c.args.self.now)
    c.loop-turn.invariant.rest more c.in_ok-item.ensures (ap (λ all. map view all) c.in_ok-push.ensures.ok ∙ map-append view c.loop-turn.items (c.in_ok-item.item ∷ [])) (sym c.eat.ensures.found ∙ c.if-not-eat.true) c.eat.ensures.after

pub loop-turn-preserved : goal.loop-turn-preserved
loop-turn-preserved g c =
    record {
      rest =
          let rule = g.P.Phrase.parser in
          let view = g.P.Phrase.tree_of in
          let turns = c.left-turn-end.result - (c.loop-turn._turn + 1) in
          let more : c.left-turn-end.result - c.loop-turn._turn ≡ suc turns = omega (arith, c.loop-turn-test.true) in
          separated-goes_on rule (c.left-turn-end.result - c.loop-turn._turn) turns (map view c.loop-turn.items) (map view c.push.new.self) (view c.in_ok-item.item) c.loop-turn.self c.read.new.cursor c.eat.new.self (separated rule c.args.self.now)
          c.loop-turn.invariant.rest more c.in_ok-item.ensures (ap (λ all. map view all) c.in_ok-push.ensures.ok ∙ map-append view c.loop-turn.items (c.in_ok-item.item ∷ [])) (sym c.eat.ensures.found ∙ c.if-not-eat.false) c.eat.ensures.after;
      few = omega (arith, ap length c.in_ok-push.ensures.ok, length-append c.loop-turn.items (c.in_ok-item.item ∷ []), c.loop-turn.invariant.few);
      bound = c.loop-turn.invariant.bound;
    }
