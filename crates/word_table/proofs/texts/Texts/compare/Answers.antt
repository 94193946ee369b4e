use Rattle.std.proofs.Common.{[], get_or, string_bytes, subst, sym, arith}
use Rattle.word_table.specs.inner.TextKeys.{AreKeysOf}
use Rattle.word_table.proofs.TextLemmas.{count_is, keys_are}
use Rattle.word_table.proofs.texts.Texts.compare.Goals as goal

pub index-requires : goal.index-requires
index-requires c =
    let own = c.self.inside in
    let count =
    count_is (string_bytes own.letters) own.starts.items own.keys.items c.args.self.now c.self.view_is
    c.self.invariant in
    omega (arith, own.keys.ok.0)

pub returns-in-Some : goal.returns-in-Some
returns-in-Some c =
    let own = c.self.inside in
    let text = get_or c.args.self.now c.args.place [] in
    let keyed =
    keys_are (string_bytes own.letters) own.starts.items own.keys.items c.args.self.now c.self.view_is
    c.self.invariant c.args.place [] c.index.result.now c.requires in
    let read : AreKeysOf text c.index.result.now =
    subst (AreKeysOf text) (sym c.index.ensures) keyed in
    c.in-Some.ensures text c.args.other.now read c.keys.ensures
