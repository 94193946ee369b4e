use Rattle.std.proofs.Common.{◌≡◌, ◌∙◌, ap, List, ℕ, append_assoc}
use Rattle.std.specs.Prelude.{◌++◌, codes}
use Rattle.myria_top.specs.Outcomes.{line_with}
use Rattle.output_texts.proofs.PieceLemmas.{offers_line}
use Rattle.myria_top.proofs.messages.tell_line.Goals as goal

-- the pieces of the line, one after another
line : (digits words : List ℕ) → codes "myria: line " ++ (digits ++ (codes ": " ++ (words ++ codes "\n"))) ≡ line_with (codes "line " ++ digits ++ codes ": " ++ words)
line digits words = simp append_assoc

pub returns : goal.returns
returns g c =
    offers_line _ _ _ _
    (line c.format.result.now c.args.words.now ∙ ap (λ (digits : List ℕ). line_with (codes "line " ++ digits ++ codes ": " ++ c.args.words.now)) c.format.ensures.text)
    c.offer_all.ensures
