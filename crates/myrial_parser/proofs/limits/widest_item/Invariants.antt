-- the greatest so far, with those ahead, is the greatest of all
use Rattle.std.proofs.Common.{◌≡◌, drop, map}
use Rattle.myrial_parser.specs.Pieces.{widest}
use Rattle.myrial_parser.proofs.limits.widest_item.Given as goal

abbrev pub invariant-loop-item : goal.invariant-loop-item
invariant-loop-item l = widest l.widest (map (λ item. item.source) (drop l.item-index l.items)) ≡ widest l.initial.widest (map (λ item. item.source) l.items)
