use Rattle.std.proofs.Common.{◌≡◌, ◌∙◌, ◌≤◌, ◌++◌, [], ◌∷◌, length, slice_index_or, sym, ap, subst}
use Rattle.myrial_ast.specs.Trees.{trees_of}
use Rattle.myrial_meaning.specs.declared.needed_files.Fetch.{Fetch}
use Rattle.rel_base.specs.declared.names.Key.{Key}
use Rattle.engine_tests.proofs.FileLemmas.{only-formed}
use Rattle.engine_tests.proofs.scripts.files_of.Goals as goal

pub returns-clause-formed : goal.returns-clause-formed
returns-clause-formed c =
    let needed = c.in_ok-needed.needed in
    let fetch : Fetch = c.fetch-item.result in
    let same = c.as_slice.ensures.value in
    let some : 1 ≤ length needed = subst (λ l. 1 ≤ length l) same c.in-len1.len_at_least in
    let is : fetch ≡ slice_index_or needed 0 fetch = subst (λ l. fetch ≡ slice_index_or l 0 fetch) same c.fetch-item.is in
    let only = c.in_ok-push.ensures.ok ∙ ap (λ l. l ++ (c.in_ok-copy.field-0, c.args.relation) ∷ []) c.new-files.ensures
    ∙ ap (λ (k : Key). (k, c.args.relation) ∷ []) c.in_ok-copy.ensures in
    only-formed (trees_of c.args.script.now) needed fetch c.push.new.self c.args.relation c.in_ok-needed.ensures some is
    (sym c.is_some.ensures ∙ c.if-is_some.false) only
