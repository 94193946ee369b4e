use Rattle.std.proofs.Common.{◌≡◌, [], Some, map, length, get_or, arith}
use Rattle.std.proofs.lemmas.Grind.{common_steps}
use Rattle.std.proofs.lemmas.List.Elements.{All-pop}
use Rattle.regular_shuffle.proofs.MovingLemmas.{mapped-back}
use Rattle.regular_shuffle.proofs.moving.taken_apart.Goals as goal

pub loop-parts-preserved : goal.loop-parts-preserved
loop-parts-preserved c = record {
  taken = mapped-back (λ parts. get_or parts 0 []) c.loop-parts.given c.pop.new.self c.loop-parts.backwards.items c.push.new.self.items
      (map (λ parts. get_or parts 0 []) c.args.given) c.in-Some.parts c.only_rows.result c.in-Some.ensures.items c.in_ok-push.ensures.items c.only_rows.ensures
      c.loop-parts.invariant.taken;
  left = (All-pop (λ parts. length parts ≡ 1) c.loop-parts.given c.pop.new.self (Some c.in-Some.parts) c.in-Some.ensures.items c.loop-parts.invariant.left).0;
}

pub only_rows-requires : goal.only_rows-requires
only_rows-requires c =
    (All-pop (λ parts. length parts ≡ 1) c.loop-parts.given c.pop.new.self (Some c.in-Some.parts) c.in-Some.ensures.items c.loop-parts.invariant.left).1

pub loop-parts-smaller : goal.loop-parts-smaller
loop-parts-smaller c = grind (arith, common_steps)

pub returns : goal.returns
returns c = grind (arith, common_steps)
