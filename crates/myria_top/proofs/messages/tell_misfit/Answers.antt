use Rattle.std.proofs.Common.{◌≡◌, ◌∙◌, ap, List, ℕ, append_assoc}
use Rattle.std.specs.Prelude.{◌++◌, codes}
use Rattle.myria_top.specs.Outcomes.{line_with}
use Rattle.output_texts.proofs.PieceLemmas.{offers_line}
use Rattle.myria_top.proofs.messages.tell_misfit.Goals as goal

-- the pieces of the line, one after another
line : (digits : List ℕ) → codes "myria: plan does not fit statement " ++ (digits ++ codes "\n") ≡ line_with (codes "plan does not fit statement " ++ digits)
line digits = simp append_assoc

pub returns : goal.returns
returns g c =
    offers_line _ _ _ _ (line c.format-number.result.now ∙ ap (λ (digits : List ℕ). line_with (codes "plan does not fit statement " ++ digits)) c.format-number.ensures.text)
    c.offer_all.ensures
