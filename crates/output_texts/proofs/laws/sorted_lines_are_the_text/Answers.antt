use Rattle.output_texts.proofs.LawLemmas.{sorted-lines}
use Rattle.output_texts.proofs.laws.sorted_lines_are_the_text.Goals as goal

pub returns : goal.returns
returns c = sorted-lines
