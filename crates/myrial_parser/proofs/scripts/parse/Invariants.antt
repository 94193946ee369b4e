-- the pieces so far are read, and no piece past the last that has a number was begun
use Rattle.std.proofs.Common.{◌≡◌, ◌+◌, ◌<◌, ◌≤◌, ◌^◌, length, All}
use Rattle.myrial_ast.specs.Trees.{trees_of}
use Rattle.myrial_lexer.specs.Slices.{IsCut}
use Rattle.myrial_parser.proofs.PieceLemmas.{ReadSoFar}
use Rattle.myrial_parser.proofs.scripts.parse.Given as goal

abbrev pub invariant-loop-len : goal.invariant-loop-len
invariant-loop-len l = record {
  read : ReadSoFar l.bytes l.tokens l.rest l.number (trees_of l.script);
  cut : All (IsCut l.bytes) l.rest;
  counted : length l.script + 1 ≡ l.number;
  few : l.number ≤ 257;
  room : length l.rest < 2 ^ 32;
}

abbrev pub decreases-loop-len : goal.decreases-loop-len
decreases-loop-len l = length l.rest
