-- Where each list of several begins when they are put together.
use Rattle.std.specs.Prelude.{◌≡◌, ℕ, ◌<◌, ◌≤◌, List, length, take, get_or}
use Rattle.rel_base.specs.Picks.{joined}

-- each number counts the items of the lists before its own; numbers behind the last list's don't matter
pub record AreStarts {X : Type 0} (xss : List (List X)) (starts : List ℕ) : Type 0 where
  pub as_many : length xss ≤ length starts
  pub each : (k : ℕ) → k < length xss → get_or starts k 0 ≡ length (joined (take k xss))
