use Rattle.std.proofs.Common.{◌≡◌, ◌∙◌, ap, List, ℕ, append_assoc}
use Rattle.std.specs.Prelude.{◌++◌, codes}
use Rattle.myria_top.specs.Outcomes.{line_with, joined_words}
use Rattle.output_texts.proofs.PieceLemmas.{offers_line}
use Rattle.myria_top.proofs.messages.tell_relation.Goals as goal

-- the pieces of the line, one after another
line : (u v w x y a b c d e : List ℕ) → codes "myria: relation " ++ (u ++ (v ++ (w ++ (x ++ (y ++ (codes ": "
    ++ (a ++ (b ++ (c ++ (d ++ (e ++ codes "\n")))))))))))
    ≡ line_with (codes "relation " ++ (u ++ v ++ w ++ x ++ y) ++ codes ": " ++ (a ++ b ++ c ++ d ++ e))
line u v w x y a b c d e = simp append_assoc

pub returns : goal.returns
returns g c =
    let key = c.words_of_key.result in
    let words = c.args.words in
    offers_line _ _ _ _
    (line key.0.now key.1.now key.2.now key.3.now key.4.now words.0.now words.1.now words.2.now words.3.now words.4.now
    ∙ ap (λ (told : List ℕ). line_with (codes "relation " ++ told ++ codes ": " ++ joined_words words)) c.words_of_key.ensures) c.offer_all.ensures
