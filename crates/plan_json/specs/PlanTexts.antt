-- The text of a plan, as JSON.
--
--   number_in least most d                  the whole number that a value is, within limits
--   has_members count d                     whether a value is an object of exactly so many members
--   items_within most d                     the items of an array that has at most so many
--   each_of f ds                            what each of some values is, where each is something
--   choice_in d                             the choice that a value is
--   plan_in d                               the plan that a value is
--   plan_of_text bytes                      the plan that a text is
--   most_plan_bytes                         no file of a plan may have more bytes
--   choice_data choice, plan_data plan      the value of a choice, and that of a plan
--   written plan                            the text of a plan
use Rattle.std.specs.Prelude.{ℕ, ◌==◌, ◌&&◌, nat_le, if◌then◌else◌, Bool, false, List, [], ◌∷◌, ◌++◌, map, length, codes, Option, Some, None, option_map, option_and_then}
use Rattle.std.specs.Option.{option_map_or}
use Rattle.std.specs.Str.{bytes_eq, is_utf8}
use Rattle.serde_json.specs.Data as json
use Rattle.serde_json.specs.Data.{Data}
use Rattle.serde_json.specs.Events.{members_len}
use Rattle.serde_json.specs.Find.{get, as_u64, as_number, as_str, as_array, as_object}
use Rattle.serde_json.specs.Read.{read}
use Rattle.serde_json.specs.View.{items_of}
use Rattle.serde_json.specs.Written.{compact_text}
use Rattle.rel_base.specs.Limits.{most_workers, most_variables, most_pieces}
use Rattle.placement.specs.Layouts.{Shuffle, ByCells, ByKeys, Broadcast}
use Rattle.fragmenter.specs.Plans.{ChoiceTree, PlanTree}

-- ---- what is read

-- the whole number that a value is, within these limits: it is written without a point, an exponent or a minus
abbrev pub number_in : ℕ → ℕ → Data → Option ℕ
number_in least most d =
    option_and_then (λ n. if nat_le least n && nat_le n most then Some n else None)
    (option_and_then as_u64 (as_number d))

-- whether a value is an object of exactly so many members
abbrev pub has_members : ℕ → Data → Bool
has_members count d = option_map_or (λ ms. members_len ms == count) (as_object d) false

-- the items of an array, in order
abbrev pub list_of : json.Items → List Data
list_of json.no_items = []
list_of (json.item d ds) = d ∷ list_of ds

-- the items of an array that has at most so many
abbrev pub items_within : ℕ → Data → Option (List Data)
items_within most d =
    option_and_then (λ ds. if nat_le (length (list_of ds)) most then Some (list_of ds) else None)
    (as_array d)

-- what each of some values is, where each is something
abbrev pub each_of : {X : Type 0} → (Data → Option X) → List Data → Option (List X)
each_of f [] = Some []
each_of f (d ∷ ds) = option_and_then (λ x. option_map (λ xs. x ∷ xs) (each_of f ds)) (f d)

-- the number of a step's statement
abbrev pub statement_in : Data → Option ℕ
statement_in step = option_and_then (number_in 1 most_pieces) (get (codes "statement") step)

-- the shares of a step: no more than a join has variables, and none above the most workers
abbrev pub shares_in : Data → Option (List ℕ)
shares_in step =
    option_and_then (each_of (number_in 1 most_workers))
    (option_and_then (items_within most_variables) (get (codes "shares") step))

-- how the rows of a step's join meet, by its word: only a join by cells has shares, and no step has any other member
abbrev pub shuffle_by : Data → List ℕ → Option Shuffle
shuffle_by step word =
    if bytes_eq word (codes "hc")
    then (if has_members 3 step then option_map ByCells (shares_in step) else None)
    else if bytes_eq word (codes "rs") then (if has_members 2 step then Some ByKeys else None)
    else if bytes_eq word (codes "br") then (if has_members 2 step then Some Broadcast else None)
    else None

-- how the rows of a step's join meet
abbrev pub shuffle_in : Data → Option Shuffle
shuffle_in step =
    option_and_then (shuffle_by step) (option_and_then as_str (get (codes "shuffle") step))

-- the choice that a step is
abbrev pub choice_in : Data → Option ChoiceTree
choice_in step =
    option_and_then (λ statement. option_map (λ shuffle. record {
      statement = statement;
      shuffle = shuffle;
    }) (shuffle_in step)) (statement_in step)

-- the number of workers of a plan
abbrev pub workers_in : Data → Option ℕ
workers_in d = option_and_then (number_in 1 most_workers) (get (codes "workers") d)

-- the steps of a plan: no more than a script has statements
abbrev pub steps_in : Data → Option (List Data)
steps_in d = option_and_then (items_within most_pieces) (get (codes "steps") d)

-- the plan that a value is: an object of the number of workers and the steps
abbrev pub plan_in : Data → Option PlanTree
plan_in d =
    if has_members 2 d
    then option_and_then (λ workers. option_map
    (λ choices. record { workers = workers; choices = choices })
    (option_and_then (each_of choice_in) (steps_in d))) (workers_in d)
    else None

-- the value that a text is: JSON in UTF-8, as it is read
abbrev pub value_in : List ℕ → Option Data
value_in bytes = if is_utf8 bytes then read bytes else None

-- the plan that a text is
abbrev pub plan_of_text : List ℕ → Option PlanTree
plan_of_text bytes = option_and_then plan_in (value_in bytes)

-- no file of a plan may have more bytes
abbrev pub most_plan_bytes : ℕ
most_plan_bytes = 65536

-- ---- what is written

-- a whole number, as a value
abbrev pub whole : ℕ → Data
whole n = json.number (json.unsigned n)

-- a step with this word and nothing more
abbrev pub step_with : List ℕ → ℕ → Data
step_with word statement =
    json.object (json.member (codes "shuffle") (json.string word)
    (json.member (codes "statement") (whole statement) json.no_members))

-- the step of a statement whose rows meet so
abbrev pub step_data : ℕ → Shuffle → Data
step_data statement (ByCells shares) =
    json.object (json.member (codes "shares") (json.array (items_of (map whole shares)))
    (json.member (codes "shuffle") (json.string (codes "hc"))
    (json.member (codes "statement") (whole statement) json.no_members)))
step_data statement ByKeys = step_with (codes "rs") statement
step_data statement Broadcast = step_with (codes "br") statement

-- the step of a choice
abbrev pub choice_data : ChoiceTree → Data
choice_data c = step_data c.statement c.shuffle

-- the value of a plan, its members in the order of their names
abbrev pub plan_data : PlanTree → Data
plan_data plan =
    json.object (json.member (codes "steps") (json.array (items_of (map choice_data plan.choices)))
    (json.member (codes "workers") (whole plan.workers) json.no_members))

-- the text of a plan: its value without a space, and a line feed
abbrev pub written : PlanTree → List ℕ
written plan = compact_text (plan_data plan) ++ codes "\n"
