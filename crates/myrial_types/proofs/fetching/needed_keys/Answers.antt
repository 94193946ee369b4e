use Rattle.std.proofs.Common.{◌≡◌, ◌∙◌, ◌+◌, ◌∷◌, [], drop, ap, sym, refl, length, ◌≤◌}
use Rattle.std.proofs.lemmas.List.{drop_all, length-map}
use Rattle.std.specs.List.{flat_map}
use Rattle.indexmap.specs.IndexSet.{insert_all}
use Rattle.rel_base.specs.Keys.{same_key}
use Rattle.myrial_ast.specs.Operands.{operands_of}
use Rattle.myrial_ast.specs.Trees.{rel_tree_of, statement_tree_of, trees_of}
use Rattle.myrial_meaning.specs.Fetches.{keys_needed, needed_from}
use Rattle.myrial_meaning.proofs.NeededLemmas.{trees-at}
use Rattle.myrial_types.proofs.FetchingLemmas.{insert_all-append, insert_all-none}
use Rattle.myrial_types.proofs.fetching.needed_keys.Goals as goal
use Rattle.myrial_types.proofs.fetching.needed_keys.Goals.{in-Nothing, in-Assign+in_ok-insert_keys-in-Assign, in-Store+in_ok-push_key-in-Store}

pub loop-statement-preserved : goal.loop-statement-preserved
loop-statement-preserved c =
    let script = c.args.script.now in
    let i = c.loop-statement.statement-index in
    let rest = drop (i + 1) (trees_of script) in
    let keys = c.loop-statement.keys.keys in
    let stored = c.loop-statement.stored in
    let split = trees-at script i c.statement-item.result c.loop-statement-test.true c.statement-item.is in
    let before : insert_all same_key [] (needed_from [] (trees_of script)) ≡ insert_all same_key keys (needed_from stored (statement_tree_of c.statement-item.result ∷ rest)) =
    c.loop-statement.invariant ∙ ap (λ trees. insert_all same_key keys (needed_from stored trees)) split in
    elim c.match-statement.branch [
      | in-Nothing w ↦ rw (w.stored-is, w.keys-is) (before ∙ rw w.in-Nothing.is refl)
      | in-Assign+in_ok-insert_keys-in-Assign w ↦
          let own = flat_map (keys_needed stored) (operands_of (rel_tree_of w.in-Assign.relation)) in
          rw (w.stored-is, w.keys-is, w.in_ok-insert_keys-in-Assign.ensures)
          (before ∙ rw w.in-Assign.is (insert_all-append keys own (needed_from stored rest)))
      | in-Store+in_ok-push_key-in-Store w ↦
          rw (w.stored-is, w.keys-is, w.in_ok-push_key-in-Store.ensures) (before ∙ rw w.in-Store.is refl)
    ]

pub returns : goal.returns
returns c =
    let script = c.args.script.now in
    let i = c.loop-statement.statement-index in
    let long : length (trees_of script) ≤ i = rw (length-map script statement_tree_of) c.loop-statement-test.false in
    sym (sym (insert_all-none (needed_from [] (trees_of script))) ∙ (c.loop-statement.invariant ∙ rw (drop_all i (trees_of script) long) refl))
