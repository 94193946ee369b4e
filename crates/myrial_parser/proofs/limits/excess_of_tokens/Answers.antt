use Rattle.std.proofs.Common.{◌≡◌, subst, arith}
use Rattle.myrial_parser.specs.declared.faults.What.TheVariants.{Statements, Tokens, Nesting}
use Rattle.myrial_parser.specs.Pieces.{IsFaulty, TooMany}
use Rattle.myrial_parser.proofs.FaultLemmas.{statements-IsFaulty, tokens-IsFaulty, nesting-IsFaulty}
use Rattle.myrial_parser.proofs.limits.excess_of_tokens.Goals as goal

pub returns-then-number-gt-MOST_PIECES-clause-some : goal.returns-then-number-gt-MOST_PIECES-clause-some
returns-then-number-gt-MOST_PIECES-clause-some c what e text ended =
    let same : Statements ≡ what = cc in
    subst (λ w. IsFaulty text c.args.number (record { tokens = c.args.tokens.now; ended = ended }) (TooMany w)) same
    (statements-IsFaulty text c.args.number (record { tokens = c.args.tokens.now; ended = ended }) (omega arith))

pub returns-then-tokens-gt-MOST_TOKENS-clause-some : goal.returns-then-tokens-gt-MOST_TOKENS-clause-some
returns-then-tokens-gt-MOST_TOKENS-clause-some c what e text ended =
    let same : Tokens ≡ what = cc in
    subst (λ w. IsFaulty text c.args.number (record { tokens = c.args.tokens.now; ended = ended }) (TooMany w)) same
    (tokens-IsFaulty text c.args.number (record { tokens = c.args.tokens.now; ended = ended }) (omega arith) (omega arith))

pub returns-then-nests_too_deep-clause-some : goal.returns-then-nests_too_deep-clause-some
returns-then-nests_too_deep-clause-some c what e text ended =
    let same : Nesting ≡ what = cc in
    subst (λ w. IsFaulty text c.args.number (record { tokens = c.args.tokens.now; ended = ended }) (TooMany w)) same
    (nesting-IsFaulty text c.args.number (record { tokens = c.args.tokens.now; ended = ended }) (omega arith) (omega arith) (c.nests_too_deep.ensures.0 c.if-nests_too_deep.true))
