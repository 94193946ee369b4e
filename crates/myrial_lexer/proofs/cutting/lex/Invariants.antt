-- the tokens so far and those of the text ahead are all tokens
use Rattle.std.proofs.Common.{◌≡◌, ◌-◌, ◌≤◌, length, drop}
use Rattle.myrial_lexer.specs.Tokens.{tokens_from, tokens_of}
use Rattle.myrial_lexer.proofs.CutLemmas.{with_all}
use Rattle.myrial_lexer.proofs.cutting.lex.Given as goal

abbrev pub invariant-loop-place : goal.invariant-loop-place
invariant-loop-place l = record {
  all : with_all l.tokens (tokens_from l.place 0 (drop l.place l.bytes)) ≡ tokens_of l.bytes;
  within : l.place ≤ length l.bytes;
  few : length l.tokens ≤ l.place;
}

abbrev pub decreases-loop-place : goal.decreases-loop-place
decreases-loop-place l = length l.bytes - l.place
