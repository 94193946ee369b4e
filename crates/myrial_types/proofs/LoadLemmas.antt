-- In a typed script the file of each load has the columns that the load writes.
use Rattle.std.proofs.Common.{◌≡◌, ◌∙◌, ℕ, ◌+◌, ◌==◌, Bool, true, false, not, ◌&&◌, ◌||◌, cond, find, List, [], ◌∷◌, ◌++◌, length, map, refl, sym, ap, subst, Option, Some}
use Rattle.std.specs.Prelude.{option_map, ⊤}
use Rattle.std.specs.List.{enumerate_from, list_any, list_all}
use Rattle.std.proofs.lemmas.List.{append_assoc}
use Rattle.std.proofs.lemmas.Bool.{and_from, and_parts, or_parts}
use Rattle.rel_base.specs.Keys.{File}
use Rattle.rel_base.specs.Relations.{same_type}
use Rattle.rel_base.specs.declared.names.Key.{Key}
use Rattle.rel_base.specs.declared.relations.Column.{Column}
use Rattle.myrial_ast.specs.Loads.{is_load_key}
use Rattle.myrial_ast.specs.Trees.{Name}
use Rattle.myrial_scopes.specs.Scopes.{same_name}
use Rattle.myrial_meaning.specs.Fetches.{Load, form_among}
use Rattle.myrial_meaning.proofs.AgreementLemmas.{same_name-itself, same_name-equal}
use Rattle.algebra.specs.declared.terms.Source.TheVariants as source
use Rattle.algebra.proofs.TypeLemmas.{same_type-equal, same_type-itself}
use Rattle.myrial_types.specs.Fetching.{same_columns, same_form, contradicts, has_conflict, has_form}
use Rattle.myrial_types.specs.Resolving.{Meant, file_meant}

-- ---- columns

same_columns-equal : (xs ys : List Column) → same_columns xs ys ≡ true → xs ≡ ys
same_columns-equal [] [] e = refl
same_columns-equal [] (y ∷ ys) e = cc
same_columns-equal (x ∷ xs) [] e = cc
same_columns-equal (x ∷ xs) (y ∷ ys) e =
    let parts = and_parts (same_name x.name y.name && same_type x.kind y.kind) (same_columns xs ys) e in
    let one = and_parts (same_name x.name y.name) (same_type x.kind y.kind) parts.0 in
    ap (λ n. let c : Column = record { name = n; kind = x.kind } in c ∷ xs) (same_name-equal x.name y.name one.0)
    ∙ ap (λ k. let c : Column = record { name = y.name; kind = k } in c ∷ xs) (same_type-equal x.kind y.kind one.1)
    ∙ ap (λ rest. y ∷ rest) (same_columns-equal xs ys parts.1)

pub same_columns-itself : (xs : List Column) → same_columns xs xs ≡ true
same_columns-itself [] = refl
same_columns-itself (x ∷ xs) =
    and_from (same_name x.name x.name && same_type x.kind x.kind) (same_columns xs xs)
    (and_from (same_name x.name x.name) (same_type x.kind x.kind) (same_name-itself x.name) (same_type-itself x.kind)) (same_columns-itself xs)

-- ---- keys

load-name : (name : Name) (key : Key) → is_load_key name key ≡ true → key.name ≡ name
load-name name key e =
    same_name-equal key.name name (and_parts (length key.user == 0 && length key.program == 0) (same_name key.name name) e).1

one-name : (a b : Name) (key : Key) → is_load_key a key ≡ true → is_load_key b key ≡ true → same_name a b ≡ true
one-name a b key e f =
    ap (λ n. same_name n b) (sym (load-name a key e)) ∙ ap (λ n. same_name key.name n) (sym (load-name b key f)) ∙ same_name-itself key.name

-- ---- the file of a load

-- whether a file is another than the load's, or has the columns that the load writes
abbrev pub fits : Load → File → Bool
fits l file = not (is_load_key l.0 file.0) || same_columns file.1.schema l.1.schema

module _ (files : List File) where
  abbrev pub Fits : Load → Type 0
  Fits l = list_all (fits l) files ≡ true

  abbrev pub AllFit : List Load → Type 0
  AllFit [] = ⊤
  AllFit (l ∷ loads) = Fits l × AllFit loads

  pub fit-append : (xs ys : List Load) → AllFit xs → AllFit ys → AllFit (xs ++ ys)
  fit-append [] ys h k = k
  fit-append (x ∷ xs) ys h k = (h.0, fit-append xs ys h.1 k)

  pub fit-apart : (xs ys : List Load) → AllFit (xs ++ ys) → AllFit xs × AllFit ys
  fit-apart [] ys h = (tt, h)
  fit-apart (x ∷ xs) ys h = let rest = fit-apart xs ys h.1 in ((h.0, rest.0), rest.1)

-- the first load of a name is found
find-first : (pre : List Load) (l : Load) (rest : List Load) (key : Key) → is_load_key l.0 key ≡ true → list_any (λ (m : Load). same_name l.0 m.0) pre ≡ false
    → find (λ (m : Load). is_load_key m.0 key) (pre ++ l ∷ rest) ≡ Some l
find-first [] l rest key e none = ap (λ t. cond t (Some l) (find (λ (m : Load). is_load_key m.0 key) rest)) e
find-first (m ∷ pre) l rest key e none =
    let apart = or_parts (same_name l.0 m.0) (list_any (λ (m : Load). same_name l.0 m.0) pre) none in
    by (is_load_key m.0 key) refl apart.0 (find-first pre l rest key e apart.1)
  where
    by : (t : Bool) → is_load_key m.0 key ≡ t → same_name l.0 m.0 ≡ false → find (λ (m : Load). is_load_key m.0 key) (pre ++ l ∷ rest) ≡ Some l
        → cond t (Some m) (find (λ (m : Load). is_load_key m.0 key) (pre ++ l ∷ rest)) ≡ Some l
    by true f g h = let both : true ≡ false = sym (one-name l.0 m.0 key e f) ∙ g in cc
    by false f g h = h

first-fits : (files : List File) (all pre : List Load) (l : Load) (rest : List Load) → all ≡ pre ++ l ∷ rest → list_any (λ (m : Load). same_name l.0 m.0) pre ≡ false
    → list_all (λ (file : File). has_form (form_among all file.0) file.1) files ≡ true → Fits files l
first-fits [] all pre l rest e none h = refl
first-fits (file ∷ files) all pre l rest e none h =
    let parts = and_parts (has_form (form_among all file.0) file.1) (list_all (λ (file : File). has_form (form_among all file.0) file.1) files) h in
    and_from (fits l file) (list_all (fits l) files) (by (is_load_key l.0 file.0) refl parts.0) (first-fits files all pre l rest e none parts.1)
  where
    by : (t : Bool) → is_load_key l.0 file.0 ≡ t → has_form (form_among all file.0) file.1 ≡ true → (not t || same_columns file.1.schema l.1.schema) ≡ true
    by true f g =
        sym (ap (λ (o : Option Load). has_form (option_map (λ (m : Load). m.1) o) file.1)
        (ap (find (λ (m : Load). is_load_key m.0 file.0)) e ∙ find-first pre l rest file.0 f none)) ∙ g
    by false f g = refl

-- one that an earlier load of the name doesn't contradict
later-fits : (files : List File) (pre : List Load) (l : Load) → AllFit files pre → list_any (contradicts l) pre ≡ false → list_any (λ (m : Load). same_name l.0 m.0) pre ≡ true → Fits files l
later-fits files [] l h none some = cc
later-fits files (m ∷ pre) l h none some =
    let apart = or_parts (contradicts l m) (list_any (contradicts l) pre) none in
    by (same_name l.0 m.0) refl apart.0 some (later-fits files pre l h.1 apart.1)
  where
    agreed : (b : Bool) → (true && not b) ≡ false → b ≡ true
    agreed true e = refl
    agreed false e = cc

    by : (t : Bool) → same_name l.0 m.0 ≡ t → (t && not (same_form l.1 m.1)) ≡ false → (t || list_any (λ (m : Load). same_name l.0 m.0) pre) ≡ true
        → (list_any (λ (m : Load). same_name l.0 m.0) pre ≡ true → Fits files l) → Fits files l
    by true e f g rest =
        let columns : l.1.schema ≡ m.1.schema = same_columns-equal l.1.schema m.1.schema (and_parts (same_columns l.1.schema m.1.schema) (l.1.skip == m.1.skip) (agreed (same_form l.1 m.1) f)).0 in
        subst (λ n. list_all (λ (file : File). not (is_load_key n file.0) || same_columns file.1.schema l.1.schema) files ≡ true) (sym (same_name-equal l.0 m.0 e))
        (subst (λ cs. list_all (λ (file : File). not (is_load_key m.0 file.0) || same_columns file.1.schema cs) files ≡ true) (sym columns) h.0)
    by false e f g rest = rest g

-- each file that one of the loads is of has the columns of the first of them
abbrev pub Forms : List File → List Load → Type 0
Forms files all = list_all (λ (file : File). has_form (form_among all file.0) file.1) files ≡ true

-- without conflicts all do
pub loads-fit : (files : List File) (all : List Load) → Forms files all
    → (loads pre rest : List Load) → all ≡ pre ++ (loads ++ rest) → AllFit files pre → has_conflict pre loads ≡ false → AllFit files loads
loads-fit files all forms [] pre rest e h none = tt
loads-fit files all forms (l ∷ loads) pre rest e h none =
    let apart = or_parts (list_any (contradicts l) pre) (has_conflict (pre ++ l ∷ []) loads) none in
    let own : Fits files l = by (list_any (λ (m : Load). same_name l.0 m.0) pre) refl apart.0 in
    (own, loads-fit files all forms loads (pre ++ l ∷ []) rest (e ∙ sym (append_assoc pre (l ∷ []) (loads ++ rest))) (fit-append files pre (l ∷ []) h (own, tt)) apart.1)
  where
    by : (t : Bool) → list_any (λ (m : Load). same_name l.0 m.0) pre ≡ t → list_any (contradicts l) pre ≡ false → Fits files l
    by true f g = later-fits files pre l h g f
    by false f g = first-fits files all pre l (loads ++ rest) e f forms

-- ---- what is written is what the files have

pub written-columns : (name : Name) (schema : List Column) (skip i : ℕ) (fs : List File) → list_all (fits (name, record { schema = schema; skip = skip })) fs ≡ true
    → let found : Option Meant = option_map (λ (p : Key × Meant). p.1) (find (λ (p : Key × Meant). is_load_key name p.0) (map file_meant (enumerate_from i fs))) in
    option_map (λ (m : Meant). let w : Meant = record { source = m.source; schema = schema } in w) found ≡ found
written-columns name schema skip i [] h = refl
written-columns name schema skip i (f ∷ fs) h =
    let parts = and_parts (fits (name, record { schema = schema; skip = skip }) f) (list_all (fits (name, record { schema = schema; skip = skip })) fs) h in
    by (find (λ (p : Key × Meant). is_load_key name p.0) (map file_meant (enumerate_from (i + 1) fs)))
    (is_load_key name f.0) parts.0 (written-columns name schema skip (i + 1) fs parts.1)
  where
    by : (others : Option (Key × Meant)) (t : Bool) → (not t || same_columns f.1.schema schema) ≡ true
        → option_map (λ (m : Meant). let w : Meant = record { source = m.source; schema = schema } in w) (option_map (λ (p : Key × Meant). p.1) others) ≡ option_map (λ (p : Key × Meant). p.1) others
        → option_map (λ (m : Meant). let w : Meant = record { source = m.source; schema = schema } in w) (option_map (λ (p : Key × Meant). p.1) (cond t (Some (file_meant (i, f))) others))
        ≡ option_map (λ (p : Key × Meant). p.1) (cond t (Some (file_meant (i, f))) others)
    by others true e rest = ap (λ cs. let m : Meant = record { source = source.File i; schema = cs } in Some m) (sym (same_columns-equal f.1.schema schema e))
    by others false e rest = rest
