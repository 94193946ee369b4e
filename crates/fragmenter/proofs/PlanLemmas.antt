-- How the rows of a statement's join meet by a plan.
use Rattle.std.proofs.Common.{◌≡◌, ◌==◌, ◌∙◌, ℕ, Bool, true, false, cond, List, [], ◌∷◌, map, Option, Some, refl, sym, ap}
use Rattle.std.specs.Prelude.{find}
use Rattle.std.specs.Borrow.{Bor}
use Rattle.std.specs.Option.{option_copied, option_map_or}
use Rattle.placement.specs.Layouts.{Shuffle, Broadcast}
use Rattle.fragmenter.specs.Plans.{ChoiceTree, choice_tree_of, shuffle_of}
use Rattle.fragmenter.specs.declared.plans.Choice.{Choice}

-- among the trees of choices
abbrev pub met_in : List Choice → ℕ → Shuffle
met_in choices number =
    option_map_or (λ (c : ChoiceTree). c.shuffle) (find (λ (c : ChoiceTree). c.statement == number) (map choice_tree_of choices)) Broadcast

met_among : (choices : List Choice) (number : ℕ)
    → met_in choices number ≡ option_map_or (λ (c : Choice). shuffle_of c.how) (find (λ (c : Choice). c.statement == number) choices) Broadcast
met_among [] number = refl
met_among (choice ∷ choices) number = either (choice.statement == number) (met_among choices number)
  where
    either : (b : Bool)
        → met_in choices number ≡ option_map_or (λ (c : Choice). shuffle_of c.how) (find (λ (c : Choice). c.statement == number) choices) Broadcast
        → option_map_or (λ (c : ChoiceTree). c.shuffle) (cond b (Some (choice_tree_of choice)) (find (λ (c : ChoiceTree). c.statement == number) (map choice_tree_of choices))) Broadcast
        ≡ option_map_or (λ (c : Choice). shuffle_of c.how) (cond b (Some choice) (find (λ (c : Choice). c.statement == number) choices)) Broadcast
    either true h = refl
    either false h = h

pub met-found : (choices : List Choice) (number : ℕ) (found : Option (Bor Choice))
    → option_copied found ≡ find (λ (c : Choice). c.statement == number) choices
    → met_in choices number ≡ option_map_or (λ (c : Choice). shuffle_of c.how) (option_copied found) Broadcast
met-found choices number found e =
    met_among choices number ∙ ap (λ o. option_map_or (λ (c : Choice). shuffle_of c.how) o Broadcast) (sym e)
