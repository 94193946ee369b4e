use Rattle.word_table.proofs.WordLemmas.{word_of-order}
use Rattle.word_table.proofs.dictionary.words_keep_order.Goals as goal

pub returns : goal.returns
returns c = word_of-order
