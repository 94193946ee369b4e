use Rattle.std.proofs.Common.{◌≡◌, ◌+◌, ◌-◌, suc, Some, ◌∙◌, sym, ap, arith, drop, length}
use Rattle.std.proofs.lemmas.Grind.{common_steps}
use Rattle.std.proofs.lemmas.Result.{err_from_is_err_and}
use Rattle.myrial_ast.specs.Trees as tree
use Rattle.myrial_ast.specs.Trees.{Tree, tree_of}
use Rattle.myrial_parser.specs.inner.Descent as spec
use Rattle.myrial_parser.specs.inner.Descent.{Input, Parsed, ◌>>=◌, chain_from, wrapped}
use Rattle.myrial_parser.proofs.CountLemmas.{negation-counted, signed-counted, expression-some}
use Rattle.myrial_parser.proofs.LevelLemmas.{chain_at-is}
use Rattle.myrial_parser.proofs.ParserLemmas.{chain-none}
use Rattle.myrial_parser.proofs.TurnLemmas.{parses-refused, parses-along, chain-begun, chain_from-turn, chain_from-none, chain_from-over, chain_from-end}
use Rattle.myrial_parser.proofs.cursor.Cursor.+expression.Goals as goal

pub chain-returns-in_err-left : goal.chain-returns-in_err-left
chain-returns-in_err-left t c =
    let inner = spec.expression c.args.depth in
    let p = err_from_is_err_and c.from_residual.result c.from_residual.ensures.1 in
    parses-refused tree_of tree_of (spec.operand_at inner c.args.level c.args.self.now) _ _ _ c.from_residual.result _ _
    (λ h. chain_at-is inner c.args.level c.args.self.now ∙ chain-none (spec.sign_at c.args.level) (spec.operand_at inner c.args.level) c.args.self.now h)
    c.in_err-left.ensures p.1 p.2

pub chain-loop-turn-init : goal.chain-loop-turn-init
chain-loop-turn-init t c =
    let inner = spec.expression c.args.depth in
    let sign = spec.sign_at c.args.level in
    let operand = spec.operand_at inner c.args.level in
    let left = tree_of c.in_ok-left.left in
    let rest = c.operand.new.self in
    let turns : length rest ≡ c.left-turn-end.result - 0 = omega (arith, c.left-turn-end.ensures.value) in
    chain_at-is inner c.args.level c.args.self.now ∙ chain-begun sign operand c.args.self.now left rest c.in_ok-left.ensures ∙ ap (λ n. chain_from sign operand n left rest) turns

pub chain-loop-turn-preserved : goal.chain-loop-turn-preserved
chain-loop-turn-preserved t c =
    let sign = spec.sign_at c.args.level in
    let operand = spec.operand_at (spec.expression c.args.depth) c.args.level in
    let now = c.loop-turn.self in
    let rest = c.operand-in-loop-turn.new.self in
    let turns = c.left-turn-end.result - (c.loop-turn._turn + 1) in
    let more : c.left-turn-end.result - c.loop-turn._turn ≡ suc turns = omega (arith, c.loop-turn-test.true) in
    let read : operand (drop 1 now) ≡ Some (tree_of c.in_ok-right.right, rest) = ap operand (sym c.in-Some.ensures.after) ∙ c.in_ok-right.ensures in
    c.loop-turn.invariant
    ∙ chain_from-turn sign operand (c.left-turn-end.result - c.loop-turn._turn) turns (tree_of c.loop-turn.left) (tree_of c.in_ok-right.right) c.in-Some.op now rest more (sym c.in-Some.ensures.found) read
    ∙ ap (λ (a : Tree). chain_from sign operand turns a rest) (sym c.in_ok-left-2.ensures)

pub chain-returns-in_default : goal.chain-returns-in_default
chain-returns-in_default t c =
    let sign = spec.sign_at c.args.level in
    let operand = spec.operand_at (spec.expression c.args.depth) c.args.level in
    c.loop-turn.invariant
    ∙ chain_from-over sign operand (c.left-turn-end.result - c.loop-turn._turn) (tree_of c.loop-turn.left) c.loop-turn.self (sym c.in_default.ensures.found)
    ∙ ap (λ (i : Input). Some (tree_of c.loop-turn.left, i)) (sym c.in_default.ensures.after)

pub chain-returns-in_err-right : goal.chain-returns-in_err-right
chain-returns-in_err-right t c =
    let sign = spec.sign_at c.args.level in
    let operand = spec.operand_at (spec.expression c.args.depth) c.args.level in
    let now = c.loop-turn.self in
    let turns = c.left-turn-end.result - (c.loop-turn._turn + 1) in
    let more : c.left-turn-end.result - c.loop-turn._turn ≡ suc turns = omega (arith, c.loop-turn-test.true) in
    let p = err_from_is_err_and c.from_residual-in_err-right.result c.from_residual-in_err-right.ensures.1 in
    parses-refused tree_of tree_of (operand c.operator.new.self) _ _ _ c.from_residual-in_err-right.result _ _
    (λ h. c.loop-turn.invariant
    ∙ chain_from-none sign operand (c.left-turn-end.result - c.loop-turn._turn) turns (tree_of c.loop-turn.left) c.in-Some.op now more (sym c.in-Some.ensures.found) (ap operand (sym c.in-Some.ensures.after) ∙ h))
    c.in_err-right.ensures p.1 p.2

pub chain-returns : goal.chain-returns
chain-returns t c =
    let sign = spec.sign_at c.args.level in
    let operand = spec.operand_at (spec.expression c.args.depth) c.args.level in
    let over : c.left-turn-end.result - c.loop-turn._turn ≡ 0 = omega (arith, c.loop-turn-test.false) in
    c.loop-turn.invariant ∙ chain_from-end sign operand (c.left-turn-end.result - c.loop-turn._turn) (tree_of c.loop-turn.left) c.loop-turn.self over

pub expression-returns : goal.expression-returns
expression-returns t c = parses-along tree_of _ _ _ _ (expression-some c.args.depth c.args.self.now c.if-depth-eq0.false) c.chain.ensures

pub negation-returns-in_err-found : goal.negation-returns-in_err-found
negation-returns-in_err-found t c =
    let inner = spec.expression c.args.depth in
    let count = c.count_of-count.result in
    let p = err_from_is_err_and c.from_residual.result c.from_residual.ensures.1 in
    parses-refused tree_of tree_of (spec.comparison inner c.count_of-count.new.self) _ _ _ c.from_residual.result _ _
    (λ h. negation-counted inner c.args.self.now c.count_of-count.new.self count c.count_of-count.ensures.count c.count_of-count.ensures.after
    ∙ ap (λ (o : Parsed Tree). o >>= λ a rest. Some (wrapped tree.Not count a, rest)) h)
    c.in_err-found.ensures p.1 p.2

pub negation-returns : goal.negation-returns
negation-returns t c =
    let inner = spec.expression c.args.depth in
    let count = c.count_of-count.result in
    negation-counted inner c.args.self.now c.count_of-count.new.self count c.count_of-count.ensures.count c.count_of-count.ensures.after
    ∙ ap (λ (o : Parsed Tree). o >>= λ a rest. Some (wrapped tree.Not count a, rest)) c.in_ok-found.ensures
    ∙ ap (λ (a : Tree). Some (a, c.comparison.new.self)) (sym c.in_ok-with_negations.ensures)

pub signed-returns-then-count-eq0 : goal.signed-returns-then-count-eq0
signed-returns-then-count-eq0 t c =
    let none : 0 ≡ c.count_of-count.result = omega (arith, c.if-count-eq0.true) in
    parses-along tree_of _ _ _ _
    (signed-counted (spec.expression c.args.depth) c.args.self.now c.count_of-count.new.self c.count_of-count.result 0 c.count_of-count.ensures.count c.count_of-count.ensures.after none) c.primary.ensures

pub signed-returns : goal.signed-returns
signed-returns t c =
    let some : c.count_of-count.result - 1 + 1 ≡ c.count_of-count.result = omega (arith, c.if-count-eq0.false) in
    parses-along tree_of _ _ _ _
    (signed-counted (spec.expression c.args.depth) c.args.self.now c.count_of-count.new.self c.count_of-count.result (c.count_of-count.result - 1 + 1) c.count_of-count.ensures.count c.count_of-count.ensures.after some) c.behind_minuses.ensures

pub comparison-returns-in_default : goal.comparison-returns-in_default
unfolding spec.comparison
comparison-returns-in_default t c = grind (arith, common_steps)

pub comparison-returns : goal.comparison-returns
unfolding spec.comparison
comparison-returns t c = grind (arith, common_steps)

pub expression-returns-then-depth-eq0 : goal.expression-returns-then-depth-eq0
unfolding spec.expression
expression-returns-then-depth-eq0 t c = grind (arith, common_steps)

pub primary-returns-in_default : goal.primary-returns-in_default
unfolding spec.primary
primary-returns-in_default t c = grind (arith, common_steps)

pub primary-returns-in-Number : goal.primary-returns-in-Number
unfolding spec.primary
primary-returns-in-Number t c = grind (arith, common_steps)

pub primary-returns-in_ok-of-in-Quoted : goal.primary-returns-in_ok-of-in-Quoted
unfolding spec.primary
primary-returns-in_ok-of-in-Quoted t c = grind (arith, common_steps)

pub primary-returns-in_ok-column-in-Name : goal.primary-returns-in_ok-column-in-Name
unfolding spec.primary
primary-returns-in_ok-column-in-Name t c = grind (arith, common_steps)

pub primary-returns-in-Fixed : goal.primary-returns-in-Fixed
unfolding spec.primary
primary-returns-in-Fixed t c = grind (arith, common_steps)

pub behind_minuses-returns-in-Some-Number : goal.behind_minuses-returns-in-Some-Number
behind_minuses-returns-in-Some-Number t c = grind (arith, common_steps)
