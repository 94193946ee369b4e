use Rattle.std.proofs.Common.{◌≡◌, ◌++◌, [], length, map, reverse, get_or, All}
use Rattle.regular_shuffle.proofs.moving.taken_apart.Given as goal

abbrev pub invariant-loop-parts : goal.invariant-loop-parts
invariant-loop-parts l = record {
  taken : map (λ parts. get_or parts 0 []) l.given ++ reverse l.backwards.items ≡ map (λ parts. get_or parts 0 []) l.fn.given;
  left : All (λ parts. length parts ≡ 1) l.given;
}

abbrev pub decreases-loop-parts : goal.decreases-loop-parts
decreases-loop-parts l = length l.given
