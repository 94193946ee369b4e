-- Rows picked out of a list, and lists put together.
--
--   items_at xs places         the items at these places, in the order of the places
--   every_nth xs step start    the items whose place leaves the remainder `start` by the step
use Rattle.std.specs.Prelude.{ℕ, ◌%◌, ◌==◌, List, take, drop, map, filter}
use Rattle.std.specs.List.{flat_map, enumerate_from}

module _ {X : Type 0} where
  -- the items at these places; a place behind the end gives none
  abbrev pub items_at : List X → List ℕ → List X
  items_at xs places = flat_map (λ p. take 1 (drop p xs)) places

  -- the items whose place leaves this remainder by the step
  abbrev pub every_nth : List X → ℕ → ℕ → List X
  every_nth xs step start = map (λ e. e.1) (filter (λ e. e.0 % step == start) (enumerate_from 0 xs))

  -- the lists, one after another
  abbrev pub joined : List (List X) → List X
  joined xss = flat_map (λ xs. xs) xss
