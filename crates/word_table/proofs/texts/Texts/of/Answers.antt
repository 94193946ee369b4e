use Rattle.std.proofs.Common.{◌≡◌, ◌+◌, ◌++◌, ◌∷◌, [], get_or, take, string_bytes, subst, sym, ap, ◌∙◌, arith}
use Rattle.std.proofs.lemmas.Grind.{common_steps}
use Rattle.std.proofs.lemmas.List.{get_or_default, take_more}
use Rattle.word_table.specs.inner.TextKeys.{AreKeysOf}
use Rattle.word_table.proofs.TextLemmas.{AreCopies-next}
use Rattle.word_table.proofs.texts.Texts.of.Goals as goal

pub loop-string-preserved : goal.loop-string-preserved
loop-string-preserved c =
    let done = c.loop-string.string-index in
    let strings = c.args.strings.now in
    let s = c.as_str.result.now in
    let item : s ≡ get_or strings done [] =
    c.as_str.ensures ∙ c.string-item.is
    ∙ get_or_default strings done c.string-item.result [] (omega arith) in
    let keyed : AreKeysOf s c.keys.result =
    subst (λ t. AreKeysOf t c.keys.result) (sym c.as_str.ensures) c.keys.ensures in
    AreCopies-next (take done strings) (string_bytes c.loop-string.letters)
    c.loop-string.starts.items c.loop-string.keys.items c.loop-string.invariant
    s c.as_str.utf8 c.keys.result keyed
    (take (done + 1) strings) (string_bytes c.push_str.new.self)
    c.push-in-loop-string.new.self.items c.push-in-loop-string-2.new.self.items c.len.result
    (take_more strings done [] (omega arith)
    ∙ ap (λ t. take done strings ++ t ∷ []) (sym item))
    c.in_ok-push_str.ensures.bytes
    (c.len.ensures ∙ c.push_str.new.self.bytes.ok.0)
    c.in_ok-push-2.ensures.items
    c.in_ok-push-3.ensures.items

pub returns : goal.returns
returns c = grind (arith, common_steps)
