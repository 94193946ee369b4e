-- The text of a run at workers is the text of what the script stores.
use Rattle.std.proofs.Common.{◌≡◌, ap, refl, ℕ, List, ◌++◌, map}
use Rattle.std.specs.Prelude.{All}
use Rattle.rel_base.specs.Keys.{File}
use Rattle.rel_base.specs.declared.names.Key.{Key}
use Rattle.algebra.specs.declared.notes.PlanNote.{PlanNote}
use Rattle.algebra.specs.declared.notes.Traffic.{Traffic}
use Rattle.placement.specs.Laws.{IsPlaced}
use Rattle.placement.specs.Layouts.{PlacedRelation}
use Rattle.placement.specs.Stores.{AreStoredAt}
use Rattle.placement.specs.declared.stores.SpreadStore.{SpreadStore}
use Rattle.output_texts.specs.OutputText.{output_text}
use Rattle.output_texts.specs.Stores.{all_rows, whole_store}
use Rattle.output_texts.specs.TrialText.{trial_text}
use Rattle.output_texts.proofs.StoreLemmas.{stores-text, stores-trial, unplaced}
use Rattle.command_words.specs.declared.requests.Mode.{Mode}
use Rattle.command_words.specs.declared.requests.Mode.TheVariants as mode
use Rattle.command_words.specs.declared.requests.Request.{Request}
use Rattle.myria_top.specs.Printed.{asked_traffic, notes_text, text_in, text_of_mode}

text-same : (m : Mode) (r : Request) (stored others : List File) (plan : List PlanNote) (traffic : List Traffic)
    → output_text stored ≡ output_text others → trial_text r.size (all_rows stored) ≡ trial_text r.size (all_rows others)
    → text_of_mode m r stored plan traffic ≡ text_of_mode m r others plan traffic
text-same mode.Run r stored others plan traffic same trial = ap (λ text. text ++ notes_text r plan traffic) same
text-same mode.Check r stored others plan traffic same trial = same
text-same mode.Explain r stored others plan traffic same trial = refl
text-same mode.Trial r stored others plan traffic same trial = ap (λ text. text ++ notes_text r plan traffic) trial
text-same mode.Export r stored others plan traffic same trial = refl
text-same mode.Replay r stored others plan traffic same trial = ap (λ text. text ++ asked_traffic r traffic) same

pub text-placed : (r : Request) (n : ℕ) (stored : List SpreadStore) (placed : List (Key × PlacedRelation)) (plan : List PlanNote)
    (traffic : List Traffic) → AreStoredAt stored placed → All (λ (p : Key × PlacedRelation). IsPlaced n p.1) placed
    → text_in r (map whole_store stored) plan traffic ≡ text_in r (map unplaced placed) plan traffic
text-placed r n stored placed plan traffic is all =
    text-same r.mode r (map whole_store stored) (map unplaced placed) plan traffic (stores-text n stored placed is all)
    (stores-trial n r.size stored placed is all)
