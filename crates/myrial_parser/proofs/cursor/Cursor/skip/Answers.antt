use Rattle.std.proofs.Common.{List, length, length-drop, All, sym, ap, subst, arith}
use Rattle.std.proofs.lemmas.List.{take_rest}
use Rattle.std.proofs.lemmas.List.Elements.{All-drop}
use Rattle.myrial_lexer.specs.declared.kinds.Token.{Token}
use Rattle.myrial_lexer.specs.Slices.{IsCut}
use Rattle.myrial_parser.proofs.cursor.Cursor.skip.Goals as goal

pub invariant_of-self : goal.invariant_of-self
invariant_of-self c =
    let bytes = c.self.inside.bytes.now in
    let tokens = c.self.inside.tokens.now in
    let ahead = take_rest tokens 1 in (
      subst (λ (ts : List Token). All (IsCut bytes) ts) (sym ahead) (All-drop (IsCut bytes) 1 tokens c.self.invariant.0),
      omega (arith, ap length ahead, length-drop 1 tokens, c.self.invariant.1),
    )
