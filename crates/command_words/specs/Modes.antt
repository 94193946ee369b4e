-- What modes ask of the words.
--
--   is_replay mode             whether a run goes by a plan that is given
--   has_its_plan mode from     a replay has the name of its plan
use Rattle.std.specs.Prelude.{ℕ, Bool, true, false, not, ◌||◌, List, Option, is_some}
use Rattle.command_words.specs.declared.requests.Mode.{Mode}
use Rattle.command_words.specs.declared.requests.Mode.TheVariants as mode

-- whether a run goes by a plan that is given
abbrev pub is_replay : Mode → Bool
is_replay mode.Replay = true
is_replay _ = false

-- a replay has the name of its plan
abbrev pub has_its_plan : Mode → Option (List ℕ) → Bool
has_its_plan m from = not (is_replay m) || is_some from
