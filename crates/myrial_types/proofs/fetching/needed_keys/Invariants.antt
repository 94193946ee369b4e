-- the keys of the statements so far are there, and what is left adds the others
use Rattle.std.proofs.Common.{◌≡◌, [], drop}
use Rattle.indexmap.specs.IndexSet.{insert_all}
use Rattle.rel_base.specs.Keys.{same_key}
use Rattle.myrial_ast.specs.Trees.{trees_of}
use Rattle.myrial_meaning.specs.Fetches.{needed_from}
use Rattle.myrial_types.proofs.fetching.needed_keys.Given as goal

abbrev pub invariant-loop-statement : goal.invariant-loop-statement
invariant-loop-statement l =
    insert_all same_key [] (needed_from [] (trees_of l.script))
    ≡ insert_all same_key l.keys.keys (needed_from l.stored (drop l.statement-index (trees_of l.script)))
