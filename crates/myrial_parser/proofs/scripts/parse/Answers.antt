use Rattle.std.proofs.Common.{◌≡◌, ◌+◌, List, [], length, length-append, length-drop, take, true, Err, None, ◌<◌, ◌∷◌, All, sym, ap, subst, ◌∙◌, arith}
use Rattle.std.specs.List.{position}
use Rattle.std.proofs.lemmas.Bool.Decides.{nat_tests}
use Rattle.std.proofs.lemmas.List.{nil_from_length, take_rest}
use Rattle.std.proofs.lemmas.List.Elements.{All-take, All-drop}
use Rattle.myrial_ast.specs.Trees.{statement_tree_of, trees_of}
use Rattle.myrial_lexer.specs.declared.kinds.Token.{Token}
use Rattle.myrial_lexer.specs.Slices.{IsCut}
use Rattle.myrial_parser.specs.Pieces.{IsFirstFault, told}
use Rattle.myrial_parser.proofs.FaultLemmas.{told-same, read-number}
use Rattle.myrial_parser.proofs.PieceLemmas.{ends, ReadSoFar, so_far-none, so_far-pushed, so_far-fault, so_far-all, so_far-last}
use Rattle.myrial_parser.proofs.scripts.parse.Goals as goal

pub loop-len-init : goal.loop-len-init
loop-len-init c =
    let text = c.args.bytes.now in
    let tokens = c.args.tokens.now in
    let all = c.as_slice-rest.ensures.value in
    let none : trees_of c.new-script.result ≡ [] = ap trees_of c.new-script.ensures in
    record {
      read = subst (λ (ts : List Token). ReadSoFar text tokens ts 1 (trees_of c.new-script.result)) (sym all)
          (subst (ReadSoFar text tokens tokens 1) (sym none) (so_far-none text tokens));
      cut = subst (All (IsCut text)) (sym all) c.tokens_are_slices.ensures;
      counted = ap (λ n. n + 1) (ap length c.new-script.ensures);
      few = omega arith;
      room = omega (arith, ap length all);
    }

pub piece-requires : goal.piece-requires
piece-requires c = All-take (IsCut c.args.bytes.now) c.in-Some.len c.loop-len.rest.now c.loop-len.invariant.cut

pub returns-in-Err-clause-fault : goal.returns-in-Err-clause-fault
returns-in-Err-clause-fault c number fault e =
    let text = c.args.bytes.now in
    let tokens = c.args.tokens.now in
    let ahead = c.loop-len.rest.now in
    let same : c.in-Err.fault ≡ told number fault = cc in
    let is = c.in-Err.ensures.fault number fault (ap Err same) in
    subst (λ n. IsFirstFault text tokens n fault) (sym is.0)
    (so_far-fault text tokens ahead c.loop-len.number c.in-Some.len (trees_of c.loop-len.script) fault c.loop-len.invariant.read (sym c.in-Some.ensures.value) is.1)

pub loop-len-preserved : goal.loop-len-preserved
loop-len-preserved c =
    let text = c.args.bytes.now in
    let tokens = c.args.tokens.now in
    let ahead = c.loop-len.rest.now in
    let len = c.in-Some.len in
    let s = statement_tree_of c.in-Ok.statement in
    let behind = take_rest ahead (len + 1) in
    let pushed = c.in_ok-push.ensures.ok in
    let longer = ap length pushed ∙ length-append c.loop-len.script (c.in-Ok.statement ∷ []) in
    let numbered = read-number text c.loop-len.number (record { tokens = take len ahead; ended = true }) s c.in-Ok.ensures.ok in
    record {
      read = so_far-pushed text tokens ahead _ c.loop-len.number len c.loop-len.script c.push.new.self c.in-Ok.statement c.loop-len.invariant.read (sym c.in-Some.ensures.value) c.in-Ok.ensures.ok behind pushed;
      cut = subst (All (IsCut text)) (sym behind) (All-drop (IsCut text) (len + 1) ahead c.loop-len.invariant.cut);
      counted = omega (arith, longer, c.loop-len.invariant.counted);
      few = omega arith;
      room = omega (arith, ap length behind, length-drop (len + 1) ahead);
    }

pub returns-else-is_empty-clause-fault : goal.returns-else-is_empty-clause-fault
returns-else-is_empty-clause-fault c number fault e =
    let text = c.args.bytes.now in
    let tokens = c.args.tokens.now in
    let ahead = c.loop-len.rest.now in
    let last = c.fault_of_last.ensures text in
    let told_so : told c.loop-len.number last.0 ≡ told number fault = cc in
    let same = told-same c.loop-len.number number last.0 fault told_so in
    let none : position ends ahead ≡ None = cc in
    let some : 0 < length ahead = grind (arith, nat_tests) in
    subst (λ n. IsFirstFault text tokens n fault) (sym same.0)
    (subst (IsFirstFault text tokens c.loop-len.number) (sym same.1)
    (so_far-last text tokens ahead c.loop-len.number (trees_of c.loop-len.script) last.0 c.loop-len.invariant.read none some last.2))

pub returns-then-is_empty-clause-ok : goal.returns-then-is_empty-clause-ok
returns-then-is_empty-clause-ok c =
    let ahead = c.loop-len.rest.now in
    let nil : length ahead ≡ 0 = grind (arith, nat_tests, c.is_empty.ensures, c.if-is_empty.true) in
    so_far-all c.args.bytes.now c.args.tokens.now ahead c.loop-len.number
    (trees_of c.loop-len.script) c.loop-len.invariant.read (nil_from_length ahead nil)
