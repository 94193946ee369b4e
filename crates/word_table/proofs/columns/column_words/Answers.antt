use Rattle.std.proofs.Common.{◌≡◌, ℕ, ◌+◌, ◌*◌, ◌<◌, List, [], ◌∷◌, ◌++◌, length, get_or, take, ap, ◌∙◌, sym, arith}
use Rattle.std.proofs.lemmas.List.{take_all}
use Rattle.word_table.specs.WordTables.{word_at, column_of, cut_into}
use Rattle.word_table.proofs.TableLemmas.{length-cut_into, word_at-cut_into}
use Rattle.word_table.proofs.ColumnLemmas.{column-more}
use Rattle.word_table.proofs.columns.column_words.Goals as goal

pub loop-place-preserved : goal.loop-place-preserved
loop-place-preserved c =
    let rows = cut_into c.args.count c.args.columns c.args.words.now in
    let column = c.args.column in
    let place = c.loop-place.place in
    let word : ℕ = get_or c.args.words.now (place * c.args.columns + column) 0 in
    let there : place < length rows = rw (length-cut_into c.args.count c.args.columns c.args.words.now) c.loop-place-test.true in
    let is : word_at rows place column ≡ word = word_at-cut_into c.args.count c.args.columns c.args.words.now place column c.loop-place-test.true c.requires.there in
    let next : column_of (take (place + 1) rows) column ≡ column_of (take place rows) column ++ word ∷ [] =
    column-more rows column place there ∙ ap (λ (w : ℕ). column_of (take place rows) column ++ w ∷ []) is in
    c.in_ok-push.ensures.items ∙ ap (λ (ws : List ℕ). ws ++ word ∷ []) c.loop-place.invariant ∙ sym next

pub returns : goal.returns
returns c =
    let rows = cut_into c.args.count c.args.columns c.args.words.now in
    let many : length rows ≡ c.args.count = length-cut_into c.args.count c.args.columns c.args.words.now in
    let all : take c.loop-place.place rows ≡ rows = take_all c.loop-place.place rows (omega arith) in
    c.loop-place.invariant ∙ ap (λ (rs : List (List ℕ)). column_of rs c.args.column) all
