use Rattle.std.proofs.Common.{◌≡◌, ◌∙◌, ◌∷◌, [], false, cond, sym, ap}
use Rattle.std.specs.Prelude.{nat_eq}
use Rattle.std.specs.Cmp.Lexicographic.{pointwise}
use Rattle.indexmap.specs.IndexSet.{insert_all, insert_key}
use Rattle.rel_base.specs.Keys.{same_key}
use Rattle.rel_base.specs.declared.names.Key.{Key}
use Rattle.rel_base.specs.contracts.names.KeyPartialEq.TheImpl.{eq-value}
use Rattle.myrial_meaning.specs.Fetches.{has_key, keys_needed}
use Rattle.myrial_types.proofs.FetchingLemmas.{and_assoc, insert_key-same}
use Rattle.myrial_types.proofs.fetching.insert_key.Goals as goal

-- the `==` of keys tells what the definition tells
eq-same : (a b : Key) → eq-value.it a b ≡ same_key a b
eq-same a b = and_assoc (pointwise nat_eq a.user b.user) (pointwise nat_eq a.program b.program) (pointwise nat_eq a.name b.name)

pub returns-in_ok-insert-in-Scan : goal.returns-in_ok-insert-in-Scan
returns-in_ok-insert-in-Scan c =
    let stored = c.args.stored.now in
    let keys = c.args.keys.now.keys in
    let key = c.in-Scan.key in
    let none : has_key stored key ≡ false = ap (λ ks. has_key ks key) (sym c.as_slice.ensures.value) ∙ (sym c.is_among.ensures ∙ c.if-not-is_among.true) in
    let needed : insert_all same_key keys (keys_needed stored c.args.operand.now) ≡ insert_key same_key keys key =
    ap (λ o. insert_all same_key keys (keys_needed stored o)) c.in-Scan.is ∙ ap (λ b. insert_all same_key keys (cond b [] (key ∷ []))) none in
    c.in_ok-insert-in-Scan.ensures.keys
    ∙ (insert_key-same eq-value.it eq-same keys c.in_ok-copy-in-Scan.field-0 ∙ (ap (insert_key same_key keys) c.in_ok-copy-in-Scan.ensures ∙ sym needed))

pub returns-in_ok-insert-in-Load : goal.returns-in_ok-insert-in-Load
returns-in_ok-insert-in-Load c =
    let keys = c.args.keys.now.keys in
    c.in_ok-insert-in-Load.ensures.keys
    ∙ (insert_key-same eq-value.it eq-same keys c.in_ok-load_key-in-Load.field-0
    ∙ (ap (insert_key same_key keys) c.in_ok-load_key-in-Load.ensures ∙ sym (ap (λ o. insert_all same_key keys (keys_needed c.args.stored.now o)) c.in-Load.is)))
