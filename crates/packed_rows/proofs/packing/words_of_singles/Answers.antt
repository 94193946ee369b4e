use Rattle.std.proofs.Common.{◌≡◌, map}
use Rattle.std.specs.Prelude.{IfOk, IfSome}
use Rattle.std.proofs.lemmas.Result.{IfOk-weaker}
use Rattle.std.proofs.lemmas.Option.{IfSome_then}
use Rattle.myrial_ast.specs.Combinations.{emitted}
use Rattle.myrial_ast.specs.ScalarTrees.{scalar_tree_of}
use Rattle.packed_rows.specs.Unpacked.{unpacked_row}
use Rattle.packed_rows.proofs.TwinLemmas.{told-rows}
use Rattle.packed_rows.proofs.packing.words_of_singles.Goals as goal

pub returns-clause-words : goal.returns-clause-words
returns-clause-words c =
    let columns = c.in_ok-singles.singles.columns.items in
    let picks = c.in_ok-singles.singles.picks.items in
    let rows = c.args.rows.now in
    let given : IfOk c.words_by_width.result (λ found. IfSome found (λ words. map (unpacked_row columns) words.items ≡ map (emitted (map scalar_tree_of picks)) rows)) =
    rw (c.deref.ensures.value, c.deref-2.ensures.value) at c.words_by_width.ensures.words in
    IfOk-weaker c.words_by_width.result (λ found. IfSome found (λ words. map (unpacked_row columns) words.items ≡ map (emitted (map scalar_tree_of picks)) rows))
    (λ found. IfSome found (λ words. map (unpacked_row c.args.columns.now) words.items ≡ map (emitted (map scalar_tree_of c.args.picks.now)) rows))
    (λ found told. IfSome_then found told (λ words e. told-rows columns picks c.args.columns.now c.args.picks.now c.requires c.in_ok-singles.ensures words.items rows e))
    given
