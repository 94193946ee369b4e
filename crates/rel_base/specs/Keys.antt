-- Keys and files.
--
--   key_text k            the full text of a key
--   shelf_name_of k       the name of the file that holds the relation of a key
--   holds_key files k     whether a file of this key is among the files
--   HasDistinctKeys       no two files have one key
use Rattle.std.specs.Prelude.{◌≡◌, ℕ, Bool, true, ◌&&◌, not, List, [], ◌∷◌, ◌++◌, codes, nat_eq}
use Rattle.std.specs.List.{list_any}
use Rattle.std.specs.Cmp.Lexicographic.{pointwise}
use Rattle.rel_base.specs.declared.names.Key.{Key}
use Rattle.rel_base.specs.Relations.{RelationState}

-- user, program and name, with a colon between them
abbrev pub key_text : Key → List ℕ
key_text k = k.user ++ codes ":" ++ k.program ++ codes ":" ++ k.name

-- the key's full text and `.csv`
abbrev pub shelf_name_of : Key → List ℕ
shelf_name_of k = key_text k ++ codes ".csv"

-- whether two keys are one
abbrev pub same_key : Key → Key → Bool
same_key j k = pointwise nat_eq j.user k.user && pointwise nat_eq j.program k.program
    && pointwise nat_eq j.name k.name

-- a relation under its key
abbrev pub File : Type 0
File = Key × RelationState

-- whether one of the files has this key
abbrev pub holds_key : List File → Key → Bool
holds_key files k = list_any (λ file. same_key file.0 k) files

-- whether no two files have one key
abbrev pub distinct_keys : List File → Bool
distinct_keys [] = true
distinct_keys (file ∷ files) = not (holds_key files file.0) && distinct_keys files

-- no two files have one key
abbrev pub HasDistinctKeys : List File → Type 0
HasDistinctKeys files = distinct_keys files ≡ true
