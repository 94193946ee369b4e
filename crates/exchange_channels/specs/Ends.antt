-- Lists that take ends without a refusal, once there is room.
use Rattle.std.specs.Prelude.{ℕ, ◌+◌, ◌^◌, ◌<◌, ◌≤◌, List}

-- the ends, in order, and for how many further ones there is room
pub record EndsState (X : Type 0) : Type 0 where
  pub items : List X
  pub spare : ℕ

-- so many ends and the room beside them are within the capacity, and within a list's limit
pub record IsRoomy (len spare capacity : ℕ) : Type 0 where
  pub within_capacity : len + spare ≤ capacity
  pub within_limit : len + spare < 2 ^ 32
