-- What the words ask for, as the top call takes it.
--
--   Asks asked request        this request is what is asked for
--   is_trial mode             whether a run makes its own relations, and reads no file
--   is_check mode             whether a run takes no workers
--   takes_workers asked       whether what is asked for takes workers
--   script_asked asked        the name of the script that is asked for; none where the words are
--                             refused, or ask for a trial
--   plan_asked asked          the name of the plan that is replayed, where one is
--   name_given asked answer   the name that an answer tells, as it was given
use Rattle.std.specs.Prelude.{◌≡◌, ℕ, Bool, true, false, not, List, [], Option, Some, None, option_and_then, unwrap_or, if◌then◌else◌}
use Rattle.std.specs.Option.{option_map_or}
use Rattle.command_words.specs.declared.requests.Mode.{Mode}
use Rattle.command_words.specs.declared.requests.Mode.TheVariants as mode
use Rattle.command_words.specs.declared.requests.Request.{Request}
use Rattle.command_words.specs.Modes.{is_replay}
use Rattle.command_words.specs.Requests.{Asked, asked_of}
use Rattle.myria_top.specs.declared.outcomes.Outcome.{Outcome}
use Rattle.myria_top.specs.declared.outcomes.Outcome.TheVariants as outcome

-- the request is what is asked for
abbrev pub Asks : Option Asked → Request → Type 0
Asks asked request = asked ≡ Some (asked_of request)

-- whether a run makes its own relations, and reads no file
abbrev pub is_trial : Mode → Bool
is_trial mode.Trial = true
is_trial _ = false

-- whether a run takes no workers
abbrev pub is_check : Mode → Bool
is_check mode.Check = true
is_check _ = false

-- whether what is asked for takes workers: neither a check does, nor words that aren't read
abbrev pub takes_workers : Option Asked → Bool
takes_workers asked = option_map_or (λ a. not (is_check a.mode)) asked false

-- the name of the script that is asked for, where one is
abbrev pub script_asked : Option Asked → Option (List ℕ)
script_asked asked = option_and_then (λ a. if is_trial a.mode then None else Some a.script) asked

-- the name of the plan that is replayed, where one is
abbrev pub plan_asked : Option Asked → Option (List ℕ)
plan_asked asked = option_and_then (λ a. if is_replay a.mode then a.from else None) asked

-- the name that an answer tells, as it was given: that of the plan, or else that of the script, whatever the mode
abbrev pub name_told : Asked → Outcome → List ℕ
name_told a outcome.NoPlan = unwrap_or a.from []
name_told a answer = a.script

abbrev pub name_given : Option Asked → Outcome → List ℕ
name_given asked answer = option_map_or (λ a. name_told a answer) asked []
