-- How the rows of a join come together, as a value of the code says it.
--
--   shuffle_of choice    how rows come together by this choice
use Rattle.share_chooser.specs.Shares.{shares_of}
use Rattle.placement.specs.Layouts.{Shuffle, ByCells, ByKeys, Broadcast}
use Rattle.placement.specs.declared.choices.ShuffleChoice.{ShuffleChoice}
use Rattle.placement.specs.declared.choices.ShuffleChoice.TheVariants as choice

-- how rows come together by this choice
abbrev pub shuffle_of : ShuffleChoice → Shuffle
shuffle_of (choice.Cells shares) = ByCells (shares_of shares)
shuffle_of choice.Keys = ByKeys
shuffle_of (choice.Broadcast stays) = Broadcast
