use Rattle.std.proofs.Common.{◌≡◌, ◌+◌, ◌-◌, ◌<◌, length, arith, refl}
use Rattle.std.proofs.lemmas.List.{drop-map, drop-set, length-set, take_rest}
use Rattle.myrial_ast.specs.Trees.{statement_tree_of}
use Rattle.myrial_meaning.proofs.NeededLemmas.{trees-at}
use Rattle.myrial_meaning.proofs.needed.needed_flags.Goals as goal

pub is_needed-requires : goal.is_needed-requires
is_needed-requires c =
    let i = c.loop-i.i in
    let script = c.args.script.now in
    let back : i - 1 + 1 ≡ i = omega arith in
    rw (back, take_rest c.deref.result.now i, take_rest script i, c.deref.ensures.value, c.loop-i.invariant.behind, drop-map statement_tree_of i script) refl

pub loop-i-preserved : goal.loop-i-preserved
loop-i-preserved c =
    let i = c.loop-i.i in
    let script = c.args.script.now in
    let s = c.index-script-i.result in
    let back : i - 1 + 1 ≡ i = omega arith in
    let low : i - 1 < length script = omega arith in
    let low' : i - 1 < length c.loop-i.flags.items = omega arith in
    record {
      as_long = rw (length-set c.loop-i.flags.items (i - 1) c.is_needed.result) c.loop-i.invariant.as_long;
      behind =
          rw (
            drop-set c.loop-i.flags.items (i - 1) c.is_needed.result low',
            trees-at script (i - 1) s low c.index-script-i.is,
            c.is_needed.ensures,
            back,
            take_rest script i,
            c.loop-i.invariant.behind,
            drop-map statement_tree_of i script,
          ) refl;
    }
