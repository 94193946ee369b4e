-- What a key stands for, and files by their places.
use Rattle.std.proofs.Common.{◌≡◌, ◌∙◌, ℕ, ◌+◌, ◌<◌, ◌≤◌, Bool, true, false, cond, Option, Some, None, option_map, List, ◌∷◌, drop, find, get_or, length, map, refl, sym, ap}
use Rattle.std.proofs.lemmas.List.{drop_all, drop_more}
use Rattle.std.proofs.lemmas.List.Folds.{find-append}
use Rattle.std.specs.List.{enumerate_from}
use Rattle.std.specs.Option.{option_or}
use Rattle.rel_base.specs.declared.names.Key.{Key}
use Rattle.rel_base.specs.Keys.{File, same_key}
use Rattle.myrial_meaning.specs.Environments.{Environment, kept_under}
use Rattle.myrial_types.specs.Resolving.{Meant, file_meant}

module _ {X : Type 0} (files : List (Key × X)) (env : Environment X) (key : Key) where
  -- what was stored under the key, and its file
  abbrev stored_there : Option X
  stored_there = option_map (λ (p : Key × X). p.1) (find (λ (p : Key × X). same_key p.0 key) env.stored)

  abbrev file_there : Option X
  file_there = option_map (λ (p : Key × X). p.1) (find (λ (p : Key × X). same_key p.0 key) files)

  kept-cases : kept_under files env key ≡ option_or stored_there file_there
  kept-cases = ap (option_map (λ (p : Key × X). p.1)) (find-append (λ (p : Key × X). same_key p.0 key) env.stored files) ∙ by (find (λ (p : Key × X). same_key p.0 key) env.stored)
    where
      by : (found : Option (Key × X)) → option_map (λ (p : Key × X). p.1) (option_or found (find (λ (p : Key × X). same_key p.0 key) files))
          ≡ option_or (option_map (λ (p : Key × X). p.1) found) (option_map (λ (p : Key × X). p.1) (find (λ (p : Key × X). same_key p.0 key) files))
      by None = refl
      by (Some file) = refl

  pub kept_under-stored : (x : X) → Some x ≡ option_map (λ (p : Key × X). p.1) (find (λ (p : Key × X). same_key p.0 key) env.stored) → Some x ≡ kept_under files env key
  kept_under-stored x e = sym (kept-cases ∙ ap (λ found. option_or found file_there) (sym e))

  pub kept_under-file : None ≡ option_map (λ (p : Key × X). p.1) (find (λ (p : Key × X). same_key p.0 key) env.stored)
      → option_map (λ (p : Key × X). p.1) (find (λ (p : Key × X). same_key p.0 key) files) ≡ kept_under files env key
  kept_under-file e = sym (kept-cases ∙ ap (λ found. option_or found file_there) (sym e))

-- the files from one on, by their places
pub files-at : (files : List File) (i : ℕ) (x : File) → i < length files → x ≡ get_or files i x
    → map file_meant (enumerate_from i (drop i files)) ≡ file_meant (i, x) ∷ map file_meant (enumerate_from (i + 1) (drop (i + 1) files))
files-at files i x low at = ap (λ rest. map file_meant (enumerate_from i rest)) (drop_more files i x low) ∙ ap (λ y. file_meant (i, y) ∷ map file_meant (enumerate_from (i + 1) (drop (i + 1) files))) (sym at)

module _ (test : Key → Bool) (files : List File) (i : ℕ) where
  -- a file that passes is found, and behind one that doesn't the search goes on
  pub found-here : (x : File) → i < length files → x ≡ get_or files i x → test x.0 ≡ true
      → find (λ (p : Key × Meant). test p.0) (map file_meant (enumerate_from i (drop i files))) ≡ Some (file_meant (i, x))
  found-here x low at passes =
      ap (find (λ (p : Key × Meant). test p.0)) (files-at files i x low at)
      ∙ ap (λ b. cond b (Some (file_meant (i, x))) (find (λ (p : Key × Meant). test p.0) (map file_meant (enumerate_from (i + 1) (drop (i + 1) files))))) passes

  pub found-later : (x : File) → i < length files → x ≡ get_or files i x → test x.0 ≡ false
      → find (λ (p : Key × Meant). test p.0) (map file_meant (enumerate_from i (drop i files)))
      ≡ find (λ (p : Key × Meant). test p.0) (map file_meant (enumerate_from (i + 1) (drop (i + 1) files)))
  found-later x low at fails =
      ap (find (λ (p : Key × Meant). test p.0)) (files-at files i x low at)
      ∙ ap (λ b. cond b (Some (file_meant (i, x))) (find (λ (p : Key × Meant). test p.0) (map file_meant (enumerate_from (i + 1) (drop (i + 1) files))))) fails

  pub found-nowhere : length files ≤ i → find (λ (p : Key × Meant). test p.0) (map file_meant (enumerate_from i (drop i files))) ≡ None
  found-nowhere past = ap (λ rest. find (λ (p : Key × Meant). test p.0) (map file_meant (enumerate_from i rest))) (drop_all i files past)
