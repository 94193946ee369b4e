-- The only file of a script, which no statement loads.
use Rattle.std.proofs.Common.{◌≡◌, ◌∙◌, ◌≤◌, true, false, List, [], ◌∷◌, length, map, slice_index_or, refl, sym, ap, subst, arith}
use Rattle.std.specs.Prelude.{Option, None, Some, ◌&&◌}
use Rattle.std.specs.Option.{is_some}
use Rattle.rel_base.specs.Keys.{File}
use Rattle.rel_base.specs.Relations.{RelationState}
use Rattle.rel_base.specs.declared.names.Key.{Key}
use Rattle.myrial_ast.specs.declared.relations.LoadForm.{LoadForm}
use Rattle.myrial_ast.specs.Trees.{StatementTree}
use Rattle.myrial_meaning.specs.declared.needed_files.Fetch.{Fetch}
use Rattle.myrial_meaning.specs.Fetches.{fetched_keys, fetches, form_in}
use Rattle.myrial_types.specs.Fetching.{has_form, have_forms}

unformed : (form : Option LoadForm) (relation : RelationState) → is_some form ≡ false → has_form form relation ≡ true
unformed None relation is = refl
unformed (Some form) relation is = cc is

module _ (script : List StatementTree) where
  abbrev fetch_of : Key → Fetch
  fetch_of key = record { key = key; form = form_in script key }

  form-read : (keys : List Key) (fetch : Fetch) → 1 ≤ length (map fetch_of keys) → fetch ≡ slice_index_or (map fetch_of keys) 0 fetch → fetch.form ≡ form_in script fetch.key
  form-read [] fetch some is = absurd (omega (arith, some))
  form-read (key ∷ keys) fetch some is = subst (λ (f : Fetch). f.form ≡ form_in script f.key) (sym is) refl

  pub only-formed : (needed : List Fetch) (fetch : Fetch) (files : List File) (relation : RelationState) → needed ≡ fetches script → 1 ≤ length needed
      → fetch ≡ slice_index_or needed 0 fetch → is_some fetch.form ≡ false → files ≡ (fetch.key, relation) ∷ [] → have_forms files script ≡ true
  only-formed needed fetch files relation all some is none only =
      let some_fetched : 1 ≤ length (fetches script) = subst (λ (l : List Fetch). 1 ≤ length l) all some in
      let is_fetched : fetch ≡ slice_index_or (fetches script) 0 fetch = subst (λ (l : List Fetch). fetch ≡ slice_index_or l 0 fetch) all is in
      let form : fetch.form ≡ form_in script fetch.key = form-read (fetched_keys script) fetch some_fetched is_fetched in
      let formed : has_form (form_in script fetch.key) relation ≡ true = unformed (form_in script fetch.key) relation (ap is_some (sym form) ∙ none) in
      ap (λ (l : List File). have_forms l script) only ∙ ap (λ b. b && true) formed
