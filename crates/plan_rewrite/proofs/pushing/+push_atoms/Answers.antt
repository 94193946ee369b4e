use Rattle.std.proofs.Common.{◌≡◌, ◌∙◌, ◌-◌, ◌++◌, ◌∷◌, [], append_assoc, length, map, drop, take, ap}
use Rattle.std.specs.Prelude.{OnOk, Result, Ok, Err}
use Rattle.std.proofs.lemmas.List.{map-append}
use Rattle.myrial_ast.specs.KeptRows.{Span}
use Rattle.myrial_ast.specs.ScalarTrees.{scalar_tree_of}
use Rattle.algebra.specs.Trees.{atom_tree_of}
use Rattle.plan_rewrite.specs.inner.Pushing.{pushed_from}
use Rattle.plan_rewrite.proofs.PushingLemmas.{pushed-first}
use Rattle.plan_rewrite.proofs.pushing.+push_atoms.Goals as goal

-- what is promised of a value follows from what is known of it
on-ok : {T E P Q : Type 0} (r : Result T E) → OnOk r P → (P → Q) → OnOk r Q
on-ok (Ok v) p f = f p
on-ok (Err e) p f = tt

pub returns-in_ok-push-in-len1-up : goal.returns-in_ok-push-in-len1-up
returns-in_ok-push-in-len1-up t c =
    let tests = map scalar_tree_of c.args.tests.now in
    let variables = c.args.variables.now in
    let atoms = c.args.atoms.now in
    let old = map atom_tree_of c.args.into.now in
    let made = c.in_ok-pushed_atom-in-len1-up.field-0 in
    let others = take (length atoms - 1) (drop 1 atoms) in
    let known : OnOk c.push_atoms.result (map atom_tree_of c.push_atoms.new.into ≡ map atom_tree_of c.push.new.self
    ++ pushed_from tests variables c.span.inside.to (map atom_tree_of others)) = c.push_atoms.ensures in
    let more : map atom_tree_of c.push.new.self ≡ old ++ atom_tree_of made ∷ [] =
    ap (map atom_tree_of) c.in_ok-push-in-len1-up.ensures.ok ∙ map-append atom_tree_of c.args.into.now (made ∷ []) in
    let first = pushed-first tests variables c.args.column atoms c.atom-item.result c.atom-item.is c.in-len1-up.len_at_least made c.in_ok-span-in-len1-up.span
    c.in_ok-pushed_atom-in-len1-up.ensures c.in_ok-span-in-len1-up.ensures in
    on-ok c.push_atoms.result known
    (λ e. e ∙ ap (λ front. front ++ pushed_from tests variables c.span.inside.to (map atom_tree_of others)) more
    ∙ ap (λ (s : Span). (old ++ atom_tree_of made ∷ []) ++ pushed_from tests variables s.to (map atom_tree_of others)) c.span.view_is
    ∙ append_assoc old (atom_tree_of made ∷ []) (pushed_from tests variables c.in_ok-span-in-len1-up.span.to (map atom_tree_of others))
    ∙ ap (λ rest. old ++ rest) first)
