-- What a key and an item stand for.
use Rattle.std.proofs.Common.{◌≡◌, ◌∙◌, Option, Some, None, option_map, List, find, refl, sym, ap}
use Rattle.std.proofs.lemmas.List.Folds.{find-append}
use Rattle.std.specs.Option.{option_or}
use Rattle.rel_base.specs.declared.names.Key.{Key}
use Rattle.rel_base.specs.Keys.{File, same_key}
use Rattle.rel_base.specs.Relations.{RelationState}
use Rattle.myrial_meaning.specs.Environments.{kept_under}
use Rattle.myrial_meaning.specs.Meaning.{RelationEnvironment}

module _ (files : List File) (env : RelationEnvironment) (key : Key) where
  -- the relation that was stored under the key, and that of its file
  stored_there : Option RelationState
  stored_there = option_map (λ (p : File). p.1) (find (λ (p : File). same_key p.0 key) env.stored)

  file_there : Option RelationState
  file_there = option_map (λ (p : File). p.1) (find (λ (p : File). same_key p.0 key) files)

  kept-cases : kept_under files env key ≡ option_or stored_there file_there
  unfolding stored_there file_there
  kept-cases = rw (find-append (λ (p : File). same_key p.0 key) env.stored files) (by (find (λ (p : File). same_key p.0 key) env.stored))
    where
      by : (found : Option File) → option_map (λ (p : File). p.1) (option_or found (find (λ (p : File). same_key p.0 key) files))
          ≡ option_or (option_map (λ (p : File). p.1) found) (option_map (λ (p : File). p.1) (find (λ (p : File). same_key p.0 key) files))
      by None = refl
      by (Some file) = refl

  pub kept_under-stored : (t : RelationState) → Some t ≡ option_map (λ (p : File). p.1) (find (λ (p : File). same_key p.0 key) env.stored)
      → Some t ≡ kept_under files env key
  unfolding stored_there file_there
  kept_under-stored t e = sym (kept-cases ∙ ap (λ found. option_or found file_there) (sym e))

  pub kept_under-file : None ≡ option_map (λ (p : File). p.1) (find (λ (p : File). same_key p.0 key) env.stored)
      → option_map (λ (p : File). p.1) (find (λ (p : File). same_key p.0 key) files) ≡ kept_under files env key
  unfolding stored_there file_there
  kept_under-file e = sym (kept-cases ∙ ap (λ found. option_or found file_there) (sym e))
