-- Shelves in clauses: the ghost members of a shelf are passed whole, as `F.Shelf` under a bound `F: Shelf`.
--
--   ShelfCounts            the counts of a shelf at one moment
--   CallCounts             the counts of a shelf before and after a call
--   counts_of shelf old new   those of a call that found the shelf so and left it so
--   HaveNotFallen counts   no count fell
use Rattle.std.specs.Prelude.{ℕ, ◌≤◌}
use Rattle.rel_io.specs.declared.shelves.Shelf.{Ghosts}

-- how often the outside failed, and how often a name was not there
pub record ShelfCounts : Type 0 where
  pub faults : ℕ
  pub misses : ℕ

-- the counts of a shelf before and after a call
pub record CallCounts : Type 0 where
  pub before : ShelfCounts
  pub after : ShelfCounts

-- the counts of a shelf
abbrev pub shelf_counts : {S : Type 0} → Ghosts S → S → ShelfCounts
shelf_counts shelf s = record { faults = shelf.faults s; misses = shelf.misses s }

-- the counts of a call that found the shelf as `old` and left it as `new`
abbrev pub counts_of : {S : Type 0} → Ghosts S → S → S → CallCounts
counts_of shelf old new = record { before = shelf_counts shelf old; after = shelf_counts shelf new }

-- no count fell in the call
pub record HaveNotFallen (counts : CallCounts) : Type 0 where
  pub faults : counts.before.faults ≤ counts.after.faults
  pub misses : counts.before.misses ≤ counts.after.misses
