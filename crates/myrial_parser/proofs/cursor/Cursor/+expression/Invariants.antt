-- Each call goes to a tighter rule, or into parentheses.
use Rattle.std.proofs.Common.{◌≡◌, ℕ, ◌+◌, ◌-◌, ◌*◌}
use Rattle.myrial_ast.specs.Trees.{tree_of}
use Rattle.myrial_parser.specs.declared.expressions.Level.{Level}
use Rattle.myrial_parser.specs.declared.expressions.Level.TheVariants.{Disjunction, Conjunction, Sum, Product}
use Rattle.myrial_parser.specs.inner.Descent.{expression, chain_at, chain_from, operand_at, sign_at}
use Rattle.myrial_parser.proofs.cursor.Cursor.+expression.Given as goal

-- how loose the operands of a level are
abbrev pub rank : Level → ℕ
rank Disjunction = 14
rank Conjunction = 12
rank Sum = 8
rank Product = 6

abbrev pub decreases-expression : goal.decreases-expression
decreases-expression l = 20 * l.depth

abbrev pub decreases-aggregated : goal.decreases-aggregated
decreases-aggregated l = 20 * l.depth + 1

abbrev pub decreases-aggregate : goal.decreases-aggregate
decreases-aggregate l = 20 * l.depth + 2

abbrev pub decreases-fixed : goal.decreases-fixed
decreases-fixed l = 20 * l.depth + 3

abbrev pub decreases-primary : goal.decreases-primary
decreases-primary l = 20 * l.depth + 4

abbrev pub decreases-behind_minuses : goal.decreases-behind_minuses
decreases-behind_minuses l = 20 * l.depth + 5

abbrev pub decreases-signed : goal.decreases-signed
decreases-signed l = 20 * l.depth + 6

abbrev pub decreases-operand : goal.decreases-operand
decreases-operand l = 20 * l.depth + rank l.level + 1

abbrev pub decreases-chain : goal.decreases-chain
decreases-chain l = 20 * l.depth + rank l.level + 2

abbrev pub decreases-comparison : goal.decreases-comparison
decreases-comparison l = 20 * l.depth + 11

abbrev pub decreases-negation : goal.decreases-negation
decreases-negation l = 20 * l.depth + 12

-- what the chain gives is what it gives from here on, with the turns that are left
abbrev pub invariant-chain-loop-turn : goal.invariant-chain-loop-turn
invariant-chain-loop-turn l =
    chain_at (expression l.depth) l.level l.fn.self
    ≡ chain_from (sign_at l.level) (operand_at (expression l.depth) l.level) (l._turn-end - l._turn) (tree_of l.left) l.self
