-- how many parentheses were opened and closed so far; up to here not too many were open at one place
use Rattle.std.proofs.Common.{◌≡◌, ℕ, ◌+◌, ◌≤◌, take}
use Rattle.std.specs.Prelude.{count_by}
use Rattle.myrial_parser.specs.Pieces.{is_open, is_close}
use Rattle.myrial_parser.proofs.limits.nests_too_deep.Given as goal

abbrev pub invariant-loop-token : goal.invariant-loop-token
invariant-loop-token l = record {
  opened : l.opened ≡ count_by (λ t. is_open t.kind) (take l.token-index l.tokens);
  closed : l.closed ≡ count_by (λ t. is_close t.kind) (take l.token-index l.tokens);
  few : l.opened ≤ l.token-index;
  fewer : l.closed ≤ l.token-index;
  shallow : (n : ℕ) → n ≤ l.token-index → count_by (λ t. is_open t.kind) (take n l.tokens) ≤ count_by (λ t. is_close t.kind) (take n l.tokens) + 64;
}
