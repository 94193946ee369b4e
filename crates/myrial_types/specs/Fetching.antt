-- The loads of a script, and the files that typing is given.
--
--   contradicts l m                 two loads give one file two forms
--   has_conflict earlier loads      a load gives a file another form than an earlier one
--   have_forms files script         each loaded file has the columns of its first load
--   are_fetched files script        the files are those that the script needs, with 1 to 16 columns, and a loaded one has those
--                                   of its first load
use Rattle.std.specs.Prelude.{Bool, true, false, ◌&&◌, ◌||◌, not, ◌==◌, nat_lt, nat_le, List, [], ◌∷◌, ◌++◌, length, Option, Some, None}
use Rattle.std.specs.List.{list_any, list_all}
use Rattle.std.specs.Cmp.Lexicographic.{pointwise}
use Rattle.rel_base.specs.Keys.{File, same_key, holds_key}
use Rattle.rel_base.specs.Limits.{most_columns}
use Rattle.rel_base.specs.Relations.{RelationState, same_type}
use Rattle.rel_base.specs.declared.names.Key.{Key}
use Rattle.rel_base.specs.declared.relations.Column.{Column}
use Rattle.myrial_ast.specs.declared.relations.LoadForm.{LoadForm}
use Rattle.myrial_ast.specs.Trees.{StatementTree}
use Rattle.myrial_scopes.specs.Scopes.{same_name}
use Rattle.myrial_meaning.specs.declared.needed_files.Fetch.{Fetch}
use Rattle.myrial_meaning.specs.Fetches.{Load, fetches, form_in}

-- ---- conflicts

-- whether two lists of columns have the same names and types, in the same order
abbrev pub same_columns : List Column → List Column → Bool
same_columns = pointwise (λ c d. same_name c.name d.name && same_type c.kind d.kind)

-- whether two forms are one
abbrev pub same_form : LoadForm → LoadForm → Bool
same_form a b = same_columns a.schema b.schema && a.skip == b.skip

-- whether two loads give one file two forms
abbrev pub contradicts : Load → Load → Bool
contradicts l m = same_name l.0 m.0 && not (same_form l.1 m.1)

-- whether a load gives a file another form than an earlier one, be that before these or among them
abbrev pub has_conflict : List Load → List Load → Bool
has_conflict earlier [] = false
has_conflict earlier (l ∷ loads) =
    list_any (contradicts l) earlier || has_conflict (earlier ++ l ∷ []) loads

-- ---- the files of a script

-- whether a relation has the columns of a form, where there is one
abbrev pub has_form : Option LoadForm → RelationState → Bool
has_form None relation = true
has_form (Some form) relation = same_columns relation.schema form.schema

-- whether a relation has 1 to 16 columns
abbrev pub has_columns : RelationState → Bool
has_columns relation =
    nat_lt 0 (length relation.schema) && nat_le (length relation.schema) most_columns

-- whether one of these fetches is of this key
abbrev pub is_fetched : List Fetch → Key → Bool
is_fetched wanted key = list_any (λ (f : Fetch). same_key f.key key) wanted

-- whether each loaded file has the columns of its first load
abbrev pub have_forms : List File → List StatementTree → Bool
have_forms files script = list_all (λ (file : File). has_form (form_in script file.0) file.1) files

-- whether the files are those that the script needs and no others, each with 1 to 16 columns, and a loaded one with those of
-- its first load
abbrev pub are_fetched : List File → List StatementTree → Bool
are_fetched files script =
    list_all (λ (f : Fetch). holds_key files f.key) (fetches script)
    && list_all (λ (file : File). is_fetched (fetches script) file.0) files
    && list_all (λ (file : File). has_columns file.1) files
    && have_forms files script
