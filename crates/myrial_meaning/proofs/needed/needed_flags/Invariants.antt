use Rattle.std.proofs.Common.{◌≡◌, drop, length}
use Rattle.myrial_ast.specs.Trees.{trees_of}
use Rattle.myrial_meaning.specs.inner.NeededFlags.{needed_flags}
use Rattle.myrial_meaning.proofs.needed.needed_flags.Given as goal

abbrev pub invariant-loop-i : goal.invariant-loop-i
invariant-loop-i l = record {
  as_long : length l.flags.items ≡ length l.script;
  behind : drop l.i l.flags.items ≡ needed_flags (drop l.i (trees_of l.script));
}
