use Rattle.std.proofs.Common.{◌≡◌, ℕ, ◌+◌, ◌≤◌, List, length, drop, length-drop, length-append, Err, sym, ap, subst, ◌∙◌, arith, rules}
use Rattle.std.proofs.lemmas.List.{take_rest}
use Rattle.myrial_lexer.specs.declared.front.Front.TheVariants.{Gap, Piece}
use Rattle.myrial_lexer.specs.declared.faults.LexWhat.{LexWhat}
use Rattle.myrial_lexer.specs.declared.kinds.Token.{Token}
use Rattle.myrial_lexer.specs.Tokens.{front_of, tokens_from, tokens_of}
use Rattle.myrial_lexer.specs.inner.Sizes.{IsWithin}
use Rattle.myrial_lexer.proofs.CutLemmas.{with_all, turn-gap, turn-piece, turn-fault}
use Rattle.myrial_lexer.proofs.cutting.lex.Goals as goal

pub loop-place-preserved-in-Gap : goal.loop-place-preserved-in-Gap
loop-place-preserved-in-Gap c =
    let text = c.args.bytes.now in
    let ahead = take_rest text c.loop-place.place in
    let within = subst (λ (t : List ℕ). IsWithin (Gap c.in-Gap.size) t) ahead c.in-Gap.ensures.within in
    let is = c.in-Gap.ensures.value ∙ ap front_of ahead in
    let size : c.in-Gap.size ≤ length (drop c.loop-place.place text) = within.1 in
    let len = length-drop c.loop-place.place text in
    record {
      all = turn-gap text c.loop-place.tokens c.loop-place.place c.in-Gap.size _ (omega arith) is within c.loop-place.invariant.all;
      within = omega arith;
      few = omega arith;
    }

pub loop-place-preserved : goal.loop-place-preserved
loop-place-preserved c =
    let text = c.args.bytes.now in
    let ahead = take_rest text c.loop-place.place in
    let within = subst (λ (t : List ℕ). IsWithin (Piece c.in-Piece.kind c.in-Piece.size) t) ahead c.in-Piece.ensures.within in
    let is = c.in-Piece.ensures.value ∙ ap front_of ahead in
    let size : c.in-Piece.size ≤ length (drop c.loop-place.place text) = within.1 in
    let len = length-drop c.loop-place.place text in
    let pushed = c.in_ok-push-in-Piece.ensures.ok in
    let longer = ap length pushed ∙ length-append c.loop-place.tokens _ in
    record {
      all = subst (λ (tokens : List Token). with_all tokens (tokens_from (c.loop-place.place + c.in-Piece.size) 0 (drop (c.loop-place.place + c.in-Piece.size) text)) ≡ tokens_of text) (sym pushed)
          (turn-piece text c.loop-place.tokens c.loop-place.place c.in-Piece.size c.in-Piece.kind _ (omega arith) is within c.loop-place.invariant.all);
      within = omega arith;
      few = omega (arith, longer);
    }

pub returns-in-Fault-clause-at : goal.returns-in-Fault-clause-at
returns-in-Fault-clause-at c line what e =
    let text = c.args.bytes.now in
    let is = c.in-Fault.ensures.value ∙ ap front_of (take_rest text c.loop-place.place) in
    let first = turn-fault text c.loop-place.tokens c.loop-place.place c.in-Fault.what _ (omega arith) is c.loop-place.invariant.all in
    let same_line : c.line_at.result ≡ line = cc in
    let same_what : c.in-Fault.what ≡ what = cc in
    record {
      is_text = search rules;
      place = c.loop-place.place;
      first = first ∙ ap (λ (w : LexWhat). Err (c.loop-place.place, w)) same_what;
      on_line = sym same_line ∙ c.line_at.ensures;
    }
