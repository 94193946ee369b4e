use Rattle.std.proofs.Common.{◌≡◌, ◌∙◌, ap, List, ℕ, append_assoc}
use Rattle.std.specs.Prelude.{◌++◌, codes}
use Rattle.myria_top.specs.Outcomes.{line_with}
use Rattle.output_texts.proofs.PieceLemmas.{offers_line}
use Rattle.myria_top.proofs.messages.tell_missing.Goals as goal

-- the pieces of the line, one after another
line : (a b c d e : List ℕ) → codes "myria: no relation " ++ (a ++ (b ++ (c ++ (d ++ (e ++ codes "\n"))))) ≡ line_with (codes "no relation " ++ (a ++ b ++ c ++ d ++ e))
line a b c d e = simp append_assoc

pub returns : goal.returns
returns g c =
    let words = c.words_of_key.result in
    offers_line _ _ _ _
    (line words.0.now words.1.now words.2.now words.3.now words.4.now
    ∙ ap (λ (key : List ℕ). line_with (codes "no relation " ++ key)) c.words_of_key.ensures) c.offer_all.ensures
