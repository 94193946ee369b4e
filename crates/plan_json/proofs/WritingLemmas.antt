-- The text of a plan's value.
use Rattle.std.proofs.Common.{◌≡◌, ◌∙◌, ℕ, false, List, [], ◌∷◌, ◌++◌, map, refl, ap}
use Rattle.serde_json.specs.Data.{Data}
use Rattle.serde_json.specs.View.{items_of}
use Rattle.serde_json.specs.Written.{compact_text, has_float, items_have_float}
use Rattle.placement.specs.Layouts.{Shuffle, ByCells, ByKeys, Broadcast}
use Rattle.fragmenter.specs.Plans.{ChoiceTree, PlanTree}
use Rattle.plan_json.specs.PlanTexts.{choice_data, plan_data, step_data, whole, written}

-- shares are whole
wholes_are_whole : (shares : List ℕ) → items_have_float (items_of (map whole shares)) ≡ false
wholes_are_whole [] = refl
wholes_are_whole (share ∷ shares) = wholes_are_whole shares

step_is_whole : (n : ℕ) (shuffle : Shuffle) → has_float (step_data n shuffle) ≡ false
step_is_whole n (ByCells shares) = rw (wholes_are_whole shares) refl
step_is_whole n ByKeys = refl
step_is_whole n Broadcast = refl

choices_are_whole : (choices : List ChoiceTree) → items_have_float (items_of (map choice_data choices)) ≡ false
choices_are_whole [] = refl
choices_are_whole (c ∷ choices) = rw (step_is_whole c.statement c.shuffle) (choices_are_whole choices)

-- no number of a plan's value is a float
plan_is_whole : (plan : PlanTree) → has_float (plan_data plan) ≡ false
plan_is_whole plan = rw (choices_are_whole plan.choices) refl

-- the compact text of a plan's value, and a line feed
pub text_written : (plan : PlanTree) (text : List ℕ) {d : Data} → d ≡ plan_data plan → (has_float d ≡ false → text ≡ compact_text d)
    → text ++ 10 ∷ [] ≡ written plan
text_written plan text is written_as =
    ap (λ front. front ++ 10 ∷ []) (written_as (ap has_float is ∙ plan_is_whole plan) ∙ ap compact_text is)
