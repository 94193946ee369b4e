-- What the first bytes of a file show of what the file comes to.
use Rattle.std.proofs.Common.{◌≡◌, ◌⊎◌, inl, inr, ℕ, ◌+◌, ◌<◌, ◌≤◌, min, Bool, true, false, cond, List, [], ◌∷◌, length, take, refl, sym, ◌∙◌, ap, subst, arith, nat_lt}
use Rattle.std.proofs.lemmas.Bool.{lt-ltb, false_from_ne_true, ltb-true}
use Rattle.std.proofs.lemmas.List.{take_all, length-take}
use Rattle.std.specs.Prelude.{All, Option, Some, None, Result, Ok, Err, drop}
use Rattle.rel_base.specs.Relations.{HasTypes, RelationState}
use Rattle.rel_base.specs.declared.relations.Column.{Column}
use Rattle.rel_base.specs.declared.values.Value.{Value}
use Rattle.relation_csv.specs.declared.faults.RelFault.{RelFault}
use Rattle.relation_csv.specs.Files.{Record, records_of_bytes, relation_of_bytes, relation_of_records, relation_of_rows, relation_under, relation_with, rows_of_records, schema_of_record}
use Rattle.relation_csv.proofs.TypeLemmas.{HasTypes-rows_of_records}
use Rattle.myrial_ast.specs.declared.relations.LoadForm.{LoadForm}
use Rattle.myrial_types.specs.Fetching.{has_form, same_columns}
use Rattle.myrial_types.proofs.LoadLemmas.{same_columns-itself}
use Rattle.rel_io.specs.Outside.{Content, IsGiven}
use Rattle.rel_io.specs.Outside as outside
use Rattle.myria_top.specs.declared.outcomes.Outcome.{Outcome}
use Rattle.myria_top.specs.declared.outcomes.Outcome.TheVariants as outcome
use Rattle.myria_top.specs.Reading.{file_verdict}
use Rattle.myria_top.specs.Runs.{relation_read}
use Rattle.myria_top.specs.Verdicts.{Verdict, refused, passes, IfTold}

-- an answer, or want of memory in its place
pub in_place : (P : Outcome → Type 0) (r answer : Outcome) → (r ≡ answer) ⊎ (r ≡ outcome.Memory) → P answer → P outcome.Memory → P r
in_place P r answer (inl e) h m = subst P (sym e) h
in_place P r answer (inr e) h m = subst P (sym e) m

-- the same, where the answer comes under a condition
pub in_place_if : (P : Outcome → Type 0) (r answer : Outcome) (Q : Type 0) → (Q × (r ≡ answer)) ⊎ (r ≡ outcome.Memory)
    → (Q → P answer) → P outcome.Memory → P r
in_place_if P r answer Q (inl h) f m = subst P (sym h.1) (f h.0)
in_place_if P r answer Q (inr e) f m = subst P (sym e) m

not_less : (a b : ℕ) → b ≤ a → nat_lt a b ≡ false
not_less a b h = false_from_ne_true (nat_lt a b) (λ e. let less : a < b = ltb-true a b e in absurd (omega arith))

module _ {X : Type 0} (most : ℕ) (if_missing if_long : Outcome) (read : List ℕ → Verdict X) where
  abbrev step : Content → Verdict X
  step = file_verdict most if_missing if_long read

  -- more than `most` bytes came, so the file is too long
  pub too_long : (content : Content) (bytes : List ℕ) → IsGiven content (most + 1) bytes → most < length bytes → IfTold (step content) (λ s. s ≡ refused if_long)
  too_long outside.untold bytes given long = tt
  too_long outside.missing bytes given long = absurd given
  too_long (outside.there file) bytes given long =
      let size : length bytes ≡ min (most + 1) (length file) = ap length given ∙ length-take (most + 1) file in
      let more : most < length file = omega arith in
      let is : step (outside.there file) ≡ refused if_long = ap (λ (t : Bool). cond t (refused if_long) (read file)) (lt-ltb most (length file) more) in
      subst (λ (s : Verdict X). IfTold s (λ t. t ≡ refused if_long)) (sym is) refl

  -- no more came, so the bytes are the whole file
  pub whole : (file bytes : List ℕ) → bytes ≡ take (most + 1) file → length bytes ≤ most → step (outside.there file) ≡ read bytes
  whole file bytes given short =
      let size : length bytes ≡ min (most + 1) (length file) = ap length given ∙ length-take (most + 1) file in
      let fits : length file ≤ most = omega arith in
      let same : bytes ≡ file = given ∙ take_all (most + 1) file (omega arith) in
      ap (λ (t : Bool). cond t (refused if_long) (read file)) (not_less most (length file) fits) ∙ ap read (sym same)

  pub read_goes : (content : Content) (bytes : List ℕ) (x : X) → IsGiven content (most + 1) bytes → length bytes ≤ most → read bytes ≡ passes x → IfTold (step content) (λ s. s ≡ passes x)
  read_goes outside.untold bytes x given short e = tt
  read_goes outside.missing bytes x given short e = absurd given
  read_goes (outside.there file) bytes x given short e =
      subst (λ (s : Verdict X). IfTold s (λ t. t ≡ passes x)) (sym (whole file bytes given short ∙ e)) refl

  pub read_refuses : (content : Content) (bytes : List ℕ) (answer : Outcome) → IsGiven content (most + 1) bytes → length bytes ≤ most → read bytes ≡ refused answer → IfTold (step content) (λ s. s ≡ refused answer)
  read_refuses outside.untold bytes answer given short e = tt
  read_refuses outside.missing bytes answer given short e = absurd given
  read_refuses (outside.there file) bytes answer given short e =
      subst (λ (s : Verdict X). IfTold s (λ t. t ≡ refused answer)) (sym (whole file bytes given short ∙ e)) refl

-- a loaded file has the columns of its form
pub read-formed : (form : Option LoadForm) (bytes : List ℕ) (relation : RelationState) → relation_read form bytes ≡ Ok relation → has_form form relation ≡ true
unfolding relation_with
read-formed None bytes relation e = refl
read-formed (Some form) bytes relation e = by (rows_of_records form.schema (drop form.skip (records_of_bytes bytes))) e
  where
    by : (rows : Result (List (List Value)) RelFault) → relation_of_rows form.schema rows ≡ Ok relation → same_columns relation.schema form.schema ≡ true
    by (Err why) e = cc
    by (Ok rows) e =
        let made : RelationState = record { schema = form.schema; rows = rows } in
        let same : made ≡ relation = cc in
        ap (λ (t : RelationState). same_columns t.schema form.schema) (sym same) ∙ same_columns-itself form.schema

-- ---- the rows of a relation that is read have its columns' types

typed-rows : (schema : List Column) (records : List Record) (relation : RelationState)
    → relation_of_rows schema (rows_of_records schema records) ≡ Ok relation → All (HasTypes relation.schema) relation.rows
typed-rows schema records relation e = by (rows_of_records schema records) refl e
  where
    by : (rows : Result (List (List Value)) RelFault) → rows_of_records schema records ≡ rows
        → relation_of_rows schema rows ≡ Ok relation → All (HasTypes relation.schema) relation.rows
    by (Err why) is e = cc
    by (Ok rows) is e =
        let made : RelationState = record { schema = schema; rows = rows } in
        let same : made ≡ relation = cc in
        subst (λ (t : RelationState). All (HasTypes t.schema) t.rows) same (HasTypes-rows_of_records schema records rows is)

typed-under : (records : List Record) (schema : Result (List Column) RelFault) (relation : RelationState)
    → relation_under records schema ≡ Ok relation → All (HasTypes relation.schema) relation.rows
typed-under records (Ok schema) relation e = typed-rows schema records relation e
typed-under records (Err why) relation e = cc

typed-records : (records : List Record) (relation : RelationState) → relation_of_records records ≡ Ok relation
    → All (HasTypes relation.schema) relation.rows
typed-records [] relation e = cc
typed-records (header ∷ others) relation e = typed-under others (schema_of_record header) relation e

pub read-typed : (form : Option LoadForm) (bytes : List ℕ) (relation : RelationState) → relation_read form bytes ≡ Ok relation
    → All (HasTypes relation.schema) relation.rows
unfolding relation_with relation_of_bytes
read-typed None bytes relation e = typed-records (records_of_bytes bytes) relation e
read-typed (Some form) bytes relation e = typed-under (drop form.skip (records_of_bytes bytes)) (Ok form.schema) relation e
