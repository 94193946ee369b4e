-- What names stand for, by the results of the statements so far.
use Rattle.std.proofs.Common.{◌≡◌, ◌∙◌, ℕ, ◌+◌, ◌<◌, ◌==◌, Bool, true, false, cond, find, List, [], ◌∷◌, ◌++◌, length, map, refl, sym, ap, subst, arith, Option, Some, None}
use Rattle.std.specs.Prelude.{All, option_map, option_and_then, unwrap_or, slice_index_or, ⊤}
use Rattle.std.specs.List.{enumerate_from, flat_map}
use Rattle.std.proofs.lemmas.Bool.{eqb-true}
use Rattle.std.proofs.lemmas.Bool.Decides.{nat_tests}
use Rattle.std.proofs.lemmas.List.{append_assoc, map-append}
use Rattle.std.proofs.lemmas.List.Elements.{All-nil, All-cons, All-head, All-tail, All-weaker}
use Rattle.rel_base.specs.Each.{each_or_none, put_before}
use Rattle.rel_base.specs.Keys.{File, same_key}
use Rattle.rel_base.specs.Relations.{RelationState}
use Rattle.rel_base.specs.declared.names.Key.{Key}
use Rattle.myrial_ast.specs.declared.relations.FromItem.{FromItem}
use Rattle.myrial_ast.specs.declared.relations.Operand.{Operand}
use Rattle.myrial_ast.specs.declared.relations.Operand.TheVariants as operand
use Rattle.myrial_ast.specs.Loads.{is_load_key}
use Rattle.myrial_ast.specs.Operands.{operands_of}
use Rattle.myrial_ast.specs.Trees.{Name, Tree, EmitTree, RelTree}
use Rattle.myrial_ast.specs.Trees as tree
use Rattle.myrial_ast.specs.Bags.{union_all, distinct, difference}
use Rattle.myrial_ast.specs.Groups.{groups, has_aggregate}
use Rattle.myrial_ast.specs.Combinations.{Rows, listed_rows}
use Rattle.myrial_scopes.specs.Scopes.{scope_of, same_name}
use Rattle.myrial_scopes.specs.Emits.{Resolved, resolved}
use Rattle.myrial_meaning.specs.Environments.{nothing_yet, assigned_to, operand_of, with_name, with_key}
use Rattle.myrial_meaning.specs.Fetches.{loads_of}
use Rattle.myrial_meaning.specs.Meaning as meaning
use Rattle.myrial_meaning.specs.Meaning.{RelationEnvironment, ItemRelation, item_relation, items_of, tables_of, comprehension_rows, comprehension_over, relation_of}
use Rattle.algebra.specs.declared.terms.Source.{Source}
use Rattle.algebra.specs.declared.terms.Source.TheVariants as source
use Rattle.algebra.specs.Trees.{TermTree, Same, UnionAll, Diff, Distinct, Join, Group}
use Rattle.algebra.specs.Shapes.{shape_of}
use Rattle.algebra.specs.Meanings.{found, term_rows, no_relation, relations_of}
use Rattle.algebra.proofs.ShapeLemmas.{shape_of-listed}
use Rattle.myrial_types.specs.Resolving.{Meant, MeantItem, Names, Typed, comprehension_term, file_meant, files_meant, item_meant, join_term, kinds_of_items, meant, of_one, of_two, schemas_of, sources_of, term_of}
use Rattle.myrial_types.specs.Checking.{with_result}
use Rattle.myrial_types.proofs.LoadLemmas.{AllFit, fit-apart, written-columns}

abbrev pub Results : Type 0
Results = List (ℕ × RelationState)

-- what a source stands for
abbrev pub value_of : List File → Results → Source → RelationState
value_of files results o = found no_relation (relations_of files) results o

-- the relation of what a name stands for
abbrev pub table_of : List File → Results → Meant → RelationState
table_of files results m = record { schema = m.schema; rows = (value_of files results m.source).rows }

-- under the same name or key
abbrev pub named : {K : Type 0} → List File → Results → K × Meant → K × RelationState
named files results p = (p.0, table_of files results p.1)

-- the relation of a term
abbrev pub typed_table : List File → Results → Typed → RelationState
typed_table files results t = record { schema = t.schema; rows = term_rows (λ o. (value_of files results o).rows) t.term }

-- an item of a comprehension with its relation
abbrev pub relation_in : List File → Results → MeantItem → ItemRelation
relation_in files results g = record { alias = g.alias; table = table_of files results g.meant }

-- ---- looking up

pub find-map : {K : Type 0} (test : K → Bool) (f : Meant → RelationState) (xs : List (K × Meant))
    → option_map (λ (p : K × RelationState). p.1) (find (λ p. test p.0) (map (λ (p : K × Meant). (p.0, f p.1)) xs))
    ≡ option_map f (option_map (λ (p : K × Meant). p.1) (find (λ p. test p.0) xs))
find-map test f [] = refl
find-map {K} test f (x ∷ xs) = by (test x.0) (find-map test f xs)
  where
    by : (t : Bool)
        → option_map (λ (p : K × RelationState). p.1) (find (λ p. test p.0) (map (λ (p : K × Meant). (p.0, f p.1)) xs)) ≡ option_map f (option_map (λ (p : K × Meant). p.1) (find (λ p. test p.0) xs))
        → option_map (λ (p : K × RelationState). p.1) (cond t (Some (x.0, f x.1)) (find (λ p. test p.0) (map (λ (p : K × Meant). (p.0, f p.1)) xs)))
        ≡ option_map f (option_map (λ (p : K × Meant). p.1) (cond t (Some x) (find (λ p. test p.0) xs)))
    by true rest = refl
    by false rest = rest

-- what is in the option, if something is, has the property
abbrev pub IfAny : {X : Type 0} → (X → Type 0) → Option X → Type 0
IfAny P None = ⊤
IfAny P (Some x) = P x

pub meant-All : {K : Type 0} (P : Meant → Type 0) (test : K → Bool) (xs : List (K × Meant)) → All (λ (p : K × Meant). P p.1) xs
    → IfAny P (option_map (λ (p : K × Meant). p.1) (find (λ p. test p.0) xs))
meant-All P test [] all = tt
meant-All {K} P test (x ∷ xs) all = by (test x.0) (meant-All P test xs (All-tail (λ (p : K × Meant). P p.1) x xs all))
  where
    by : (t : Bool) → IfAny P (option_map (λ (p : K × Meant). p.1) (find (λ p. test p.0) xs))
        → IfAny P (option_map (λ (p : K × Meant). p.1) (cond t (Some x) (find (λ p. test p.0) xs)))
    by true rest = All-head (λ (p : K × Meant). P p.1) x xs all
    by false rest = rest

-- ---- files

-- the file at a place, behind others
behind : (front : List File) (f : File) (rest : List File) → slice_index_or (relations_of (front ++ f ∷ rest)) (length front) no_relation ≡ f.1
behind [] f rest = refl
behind (g ∷ front) f rest = behind front f rest

length-pushed : (xs : List File) (x : File) → length (xs ++ x ∷ []) ≡ length xs + 1
length-pushed [] x = refl
length-pushed (y ∷ xs) x = omega (arith, length-pushed xs x)

files-named : (results : Results) (files front rest : List File) → files ≡ front ++ rest
    → map (named files results) (map file_meant (enumerate_from (length front) rest)) ≡ rest
files-named results files front [] e = refl
files-named results files front (f ∷ rest) e =
    let here : slice_index_or (relations_of files) (length front) no_relation ≡ f.1 = ap (λ fs. slice_index_or (relations_of fs) (length front) no_relation) e ∙ behind front f rest in
    let first : ◌≡◌ {A = File} (f.0, record { schema = f.1.schema; rows = (slice_index_or (relations_of files) (length front) no_relation).rows }) f =
    ap (λ (t : RelationState). (f.0, record { schema = f.1.schema; rows = t.rows })) here in
    let longer : length (front ++ f ∷ []) ≡ length front + 1 = length-pushed front f in
    let later = files-named results files (front ++ f ∷ []) rest (e ∙ sym (append_assoc front (f ∷ []) rest)) in
    ap (λ g. g ∷ map (named files results) (map file_meant (enumerate_from (length front + 1) rest))) first
    ∙ ap (λ gs. f ∷ gs) (subst (λ n. map (named files results) (map file_meant (enumerate_from n rest)) ≡ rest) longer later)

-- ---- an environment and the names

-- the source is not one that is still to come
abbrev pub IsBefore : ℕ → Source → Type 0
IsBefore number (source.File place) = ⊤
IsBefore number (source.Result other) = other < number

-- what it stands for is known, with its columns
abbrev pub IsEarlier : List File → ℕ → Results → Meant → Type 0
IsEarlier files number results m = IsBefore number m.source × ((value_of files results m.source).schema ≡ m.schema)

-- the names stand for what the environment gives them, so far
pub record Agrees (files : List File) (number : ℕ) (results : Results) (env : RelationEnvironment) (names : Names) : Type 0 where
  pub assigned : env.assigned ≡ map (named files results) names.assigned
  pub stored : env.stored ≡ map (named files results) names.stored
  pub earlier : All (λ (p : Name × Meant). IsEarlier files number results p.1) names.assigned
  pub earlier_stored : All (λ (p : Key × Meant). IsEarlier files number results p.1) names.stored

same-option : (o : Option Meant) → option_map (λ m. m) o ≡ o
same-option None = refl
same-option (Some m) = refl

-- a load has the columns of its file, where these are the ones that it writes
pub written-same : (files : List File) (names : Names) (o : Operand) → AllFit files (loads_of o) → meant files names o ≡ operand_of (files_meant files) names o
written-same files names (operand.Named name) h = same-option (operand_of (files_meant files) names (operand.Named name))
written-same files names (operand.Scan key) h = same-option (operand_of (files_meant files) names (operand.Scan key))
written-same files names (operand.Load name schema skip) h = written-columns name schema skip 0 files h.0

module _ (files : List File) (results : Results) (env : RelationEnvironment) (names : Names)
    (assigned : env.assigned ≡ map (named files results) names.assigned) (stored : env.stored ≡ map (named files results) names.stored) where
  pub assigned-means : (name : Name) → assigned_to env name ≡ option_map (table_of files results) (assigned_to names name)
  assigned-means name =
      ap (λ xs. option_map (λ (p : Name × RelationState). p.1) (find (λ p. same_name p.0 name) xs)) assigned
      ∙ find-map (λ n. same_name n name) (table_of files results) names.assigned

  all_files : map (named files results) (files_meant files) ≡ files
  all_files = files-named results files [] files refl

  pub known-means : (o : Operand) → operand_of files env o ≡ option_map (table_of files results) (operand_of (files_meant files) names o)
  known-means (operand.Named name) = assigned-means name
  known-means (operand.Scan key) =
      let all : env.stored ++ files ≡ map (named files results) (names.stored ++ files_meant files) =
      ap (λ xs. xs ++ files) stored ∙ ap (λ xs. map (named files results) names.stored ++ xs) (sym all_files)
      ∙ sym (map-append (named files results) names.stored (files_meant files)) in
      ap (λ xs. option_map (λ (p : Key × RelationState). p.1) (find (λ p. same_key p.0 key) xs)) all
      ∙ find-map (λ k. same_key k key) (table_of files results) (names.stored ++ files_meant files)
  known-means (operand.Load name schema skip) =
      ap (λ xs. option_map (λ (p : File). p.1) (find (λ p. is_load_key name p.0) xs)) (sym all_files)
      ∙ find-map (is_load_key name) (table_of files results) (files_meant files)

  pub operand-means : (o : Operand) → AllFit files (loads_of o) → operand_of files env o ≡ option_map (table_of files results) (meant files names o)
  operand-means o h = known-means o ∙ ap (option_map (table_of files results)) (sym (written-same files names o h))

  -- ---- items

  item-means : (item : FromItem) → AllFit files (loads_of item.source) → item_relation files env item ≡ option_map (relation_in files results) (item_meant files names item)
  item-means item h =
      ap (λ o. option_map (λ (t : RelationState). let s : ItemRelation = record { alias = item.alias; table = t } in s) o) (operand-means item.source h) ∙ by (meant files names item.source)
    where
      by : (o : Option Meant) → option_map (λ (t : RelationState). let s : ItemRelation = record { alias = item.alias; table = t } in s) (option_map (table_of files results) o)
          ≡ option_map (λ (g : MeantItem). let s : ItemRelation = record { alias = g.alias; table = table_of files results g.meant } in s) (option_map (λ m. let g : MeantItem = record { alias = item.alias; meant = m } in g) o)
      by None = refl
      by (Some m) = refl

  pub items-mean : (items : List FromItem) → AllFit files (flat_map loads_of (map (λ (item : FromItem). item.source) items))
      → each_or_none (item_relation files env) items ≡ option_map (map (relation_in files results)) (each_or_none (item_meant files names) items)
  items-mean [] h = refl
  items-mean (item ∷ items) h =
      let parts = fit-apart files (loads_of item.source) (flat_map loads_of (map (λ (item : FromItem). item.source) items)) h in
      ap (λ o. put_before o (each_or_none (item_relation files env) items)) (item-means item parts.0)
      ∙ ap (λ o. put_before (option_map (relation_in files results) (item_meant files names item)) o) (items-mean items parts.1)
      ∙ by (item_meant files names item) (each_or_none (item_meant files names) items)
    where
      by : (first : Option MeantItem) (rest : Option (List MeantItem))
          → put_before (option_map (λ (g : MeantItem). let s : ItemRelation = record { alias = g.alias; table = table_of files results g.meant } in s) first) (option_map (map (λ (g : MeantItem). let s : ItemRelation = record { alias = g.alias; table = table_of files results g.meant } in s)) rest)
          ≡ option_map (map (λ (g : MeantItem). let s : ItemRelation = record { alias = g.alias; table = table_of files results g.meant } in s)) (put_before first rest)
      by None rest = refl
      by (Some g) None = refl
      by (Some g) (Some gs) = refl

  pub items-same : (given : List MeantItem) → items_of (map (relation_in files results) given) ≡ schemas_of given
  items-same [] = refl
  items-same (g ∷ given) = ap (λ rest. record { alias = g.alias; schema = g.meant.schema } ∷ rest) (items-same given)

  pub tables-same : (given : List MeantItem) → tables_of (map (relation_in files results) given) ≡ map (λ o. (value_of files results o).rows) (sources_of given)
  tables-same [] = refl
  tables-same (g ∷ given) = ap (λ rest. (value_of files results g.meant.source).rows ∷ rest) (tables-same given)

  -- ---- relation expressions

  join-means : (given : List MeantItem) (b : Resolved)
      → comprehension_rows b (tables_of (map (relation_in files results) given)) ≡ term_rows (λ o. (value_of files results o).rows) (join_term (kinds_of_items given) (sources_of given) b.comprehension)
  join-means given b = ap (comprehension_rows b) (tables-same given) ∙ by (map (λ o. (value_of files results o).rows) (sources_of given)) refl (has_aggregate b.comprehension.aggregates)
    where
      by : (rows : List Rows) → rows ≡ map (λ o. (value_of files results o).rows) (sources_of given) → (t : Bool)
          → cond t (groups b.comprehension.aggregates (listed_rows b.comprehension (map (λ o. (value_of files results o).rows) (sources_of given)))) (listed_rows b.comprehension (map (λ o. (value_of files results o).rows) (sources_of given)))
          ≡ term_rows (λ o. (value_of files results o).rows) (cond t (Group (shape_of (kinds_of_items given) b.comprehension) (sources_of given) b.comprehension.aggregates) (Join (shape_of (kinds_of_items given) b.comprehension) (sources_of given)))
      by rows e true = ap (groups b.comprehension.aggregates) (sym (shape_of-listed (kinds_of_items given) b.comprehension (map (λ o. (value_of files results o).rows) (sources_of given))))
      by rows e false = sym (shape_of-listed (kinds_of_items given) b.comprehension (map (λ o. (value_of files results o).rows) (sources_of given)))

  comprehension-means : (given : List MeantItem) (condition : Option Tree) (emits : List EmitTree)
      → comprehension_over (map (relation_in files results) given) condition emits ≡ option_map (typed_table files results) (comprehension_term given condition emits)
  comprehension-means given condition emits =
      ap (λ items. option_map (λ (b : Resolved). let t : RelationState = record { schema = b.schema; rows = comprehension_rows b (tables_of (map (relation_in files results) given)) } in t) (resolved (scope_of items) condition emits)) (items-same given)
      ∙ by (resolved (scope_of (schemas_of given)) condition emits) (join-means given)
    where
      by : (o : Option Resolved)
          → ((b : Resolved) → comprehension_rows b (tables_of (map (λ (g : MeantItem). let s : ItemRelation = record { alias = g.alias; table = table_of files results g.meant } in s) given)) ≡ term_rows (λ o. (value_of files results o).rows) (join_term (kinds_of_items given) (sources_of given) b.comprehension))
          → option_map (λ (b : Resolved). let t : RelationState = record { schema = b.schema; rows = comprehension_rows b (tables_of (map (λ (g : MeantItem). let s : ItemRelation = record { alias = g.alias; table = table_of files results g.meant } in s) given)) } in t) o
          ≡ option_map (typed_table files results) (option_map (λ (b : Resolved). let t : Typed = record { term = join_term (kinds_of_items given) (sources_of given) b.comprehension; schema = b.schema } in t) o)
      by None same = refl
      by (Some b) same = ap (λ rows. let t : RelationState = record { schema = b.schema; rows = rows } in Some t) (same b)

  one-means : (f : Rows → Rows) (g : Source → TermTree) → ((o : Source) → term_rows (λ o. (value_of files results o).rows) (g o) ≡ f (value_of files results o).rows)
      → (m : Option Meant) → meaning.of_one f (option_map (table_of files results) m) ≡ option_map (typed_table files results) (of_one g m)
  one-means f g h None = refl
  one-means f g h (Some m) = ap (λ rows. let t : RelationState = record { schema = m.schema; rows = rows } in Some t) (sym (h m.source))

  two-means : (f : Rows → Rows → Rows) (g : Source → Source → TermTree)
      → ((o p : Source) → term_rows (λ o. (value_of files results o).rows) (g o p) ≡ f (value_of files results o).rows (value_of files results p).rows)
      → (m n : Option Meant) → meaning.of_two f (option_map (table_of files results) m) (option_map (table_of files results) n) ≡ option_map (typed_table files results) (of_two g m n)
  two-means f g h None n = refl
  two-means f g h (Some m) None = refl
  two-means f g h (Some m) (Some n) = ap (λ rows. let t : RelationState = record { schema = m.schema; rows = rows } in Some t) (sym (h m.source n.source))

  same-means : (m : Option Meant) → option_map (table_of files results) m ≡ option_map (typed_table files results) (of_one Same m)
  same-means None = refl
  same-means (Some m) = refl

  pub term-means : (r : RelTree) → AllFit files (flat_map loads_of (operands_of r)) → relation_of files env r ≡ option_map (typed_table files results) (term_of files names r)
  term-means (tree.Copy o) h = operand-means o (fit-apart files (loads_of o) [] h).0 ∙ same-means (meant files names o)
  term-means (tree.Empty schema) h = refl
  term-means (tree.Distinct o) h =
      ap (meaning.of_one distinct) (operand-means o (fit-apart files (loads_of o) [] h).0) ∙ one-means distinct Distinct (λ p. refl) (meant files names o)
  term-means (tree.UnionAll o p) h =
      let parts = fit-apart files (loads_of o) (loads_of p ++ []) h in
      ap (λ x. meaning.of_two union_all x (operand_of files env p)) (operand-means o parts.0)
      ∙ ap (λ x. meaning.of_two union_all (option_map (table_of files results) (meant files names o)) x) (operand-means p (fit-apart files (loads_of p) [] parts.1).0)
      ∙ two-means union_all UnionAll (λ a b. refl) (meant files names o) (meant files names p)
  term-means (tree.Diff o p) h =
      let parts = fit-apart files (loads_of o) (loads_of p ++ []) h in
      ap (λ x. meaning.of_two difference x (operand_of files env p)) (operand-means o parts.0)
      ∙ ap (λ x. meaning.of_two difference (option_map (table_of files results) (meant files names o)) x) (operand-means p (fit-apart files (loads_of p) [] parts.1).0)
      ∙ two-means difference Diff (λ a b. refl) (meant files names o) (meant files names p)
  term-means (tree.From items condition emits) h =
      ap (λ o. option_and_then (λ given. comprehension_over given condition emits) o) (items-mean items h)
      ∙ by (each_or_none (item_meant files names) items) (λ given. comprehension-means given condition emits)
    where
      by : (o : Option (List MeantItem))
          → ((given : List MeantItem) → comprehension_over (map (λ (g : MeantItem). let s : ItemRelation = record { alias = g.alias; table = table_of files results g.meant } in s) given) condition emits ≡ option_map (typed_table files results) (comprehension_term given condition emits))
          → option_and_then (λ given. comprehension_over given condition emits) (option_map (map (λ (g : MeantItem). let s : ItemRelation = record { alias = g.alias; table = table_of files results g.meant } in s)) o)
          ≡ option_map (typed_table files results) (option_and_then (λ given. comprehension_term given condition emits) o)
      by None means = refl
      by (Some given) means = means given

-- ---- statements

-- a result more leaves what is earlier as it was
pub unchanged : (files : List File) (number : ℕ) (results : Results) (t : RelationState) (o : Source) → IsBefore number o
    → value_of files ((number, t) ∷ results) o ≡ value_of files results o
unchanged files number results t (source.File place) h = refl
unchanged files number results t (source.Result other) h = by (number == other) refl
  where
    by : (b : Bool) → (number == other) ≡ b
        → unwrap_or (option_map (λ (r : ℕ × RelationState). r.1) (cond b (Some (number, t)) (find (λ r. r.0 == other) results))) no_relation
        ≡ unwrap_or (option_map (λ (r : ℕ × RelationState). r.1) (find (λ r. r.0 == other) results)) no_relation
    by true e = absurd (omega (arith, eqb-true number other e, h))
    by false e = refl

pub weaker : (number : ℕ) (o : Source) → IsBefore number o → IsBefore (number + 1) o
weaker number (source.File place) h = tt
weaker number (source.Result other) h = omega (arith, h)

still-earlier : (files : List File) (number : ℕ) (results : Results) (t : RelationState) (m : Meant) → IsEarlier files number results m
    → IsEarlier files (number + 1) ((number, t) ∷ results) m
still-earlier files number results t m h =
    (weaker number m.source h.0, ap (λ (x : RelationState). x.schema) (unchanged files number results t m.source h.0) ∙ h.1)

named-same : {K : Type 0} (files : List File) (number : ℕ) (results : Results) (t : RelationState) (xs : List (K × Meant))
    → All (λ (p : K × Meant). IsEarlier files number results p.1) xs → map (named files results) xs ≡ map (named files ((number, t) ∷ results)) xs
named-same files number results t [] all = refl
named-same {K} files number results t (x ∷ xs) all =
    let P : K × Meant → Type 0 = λ p. IsEarlier files number results p.1 in
    let rest = named-same files number results t xs (All-tail P x xs all) in
    let here = unchanged files number results t x.1.source (All-head P x xs all).0 in
    ap (λ (v : RelationState). (x.0, record { schema = x.1.schema; rows = v.rows }) ∷ map (named files results) xs) (sym here)
    ∙ ap (λ ys. named files ((number, t) ∷ results) x ∷ ys) rest

-- nothing is assigned
pub with_nothing : (files : List File) (number : ℕ) (results : Results) (env : RelationEnvironment) (names : Names)
    → Agrees files number results env names → Agrees files (number + 1) results env names
with_nothing files number results env names a = record {
  assigned = a.assigned;
  stored = a.stored;
  earlier = All-weaker (λ (p : Name × Meant). IsEarlier files number results p.1) (λ (p : Name × Meant). IsEarlier files (number + 1) results p.1) (λ p h. (weaker number p.1.source h.0, h.1)) names.assigned a.earlier;
  earlier_stored = All-weaker (λ (p : Key × Meant). IsEarlier files number results p.1) (λ (p : Key × Meant). IsEarlier files (number + 1) results p.1) (λ p h. (weaker number p.1.source h.0, h.1)) names.stored a.earlier_stored;
}

newest : (files : List File) (number : ℕ) (results : Results) (t : RelationState) → value_of files ((number, t) ∷ results) (source.Result number) ≡ t
newest files number results t = by (number == number) (grind (arith, nat_tests))
  where
    by : (b : Bool) → b ≡ true → unwrap_or (option_map (λ (r : ℕ × RelationState). r.1) (cond b (Some (number, t)) (find (λ r. r.0 == number) results))) no_relation ≡ t
    by true e = refl
    by false e = cc

module _ (files : List File) (number : ℕ) (results : Results) (env : RelationEnvironment) (names : Names) (a : Agrees files number results env names) where
  -- a name more, for a statement's result
  pub assigned-agrees : (name : Name) (t : Typed) → let made : RelationState = typed_table files results t in
      Agrees files (number + 1) ((number, made) ∷ results) (with_name env name made) (with_result number names name t)
  assigned-agrees name t =
      let made : RelationState = typed_table files results t in
      let new = newest files number results made in
      let m : Meant = record { source = source.Result number; schema = t.schema } in
      record {
        assigned =
            ap (λ (v : RelationState). (name, record { schema = t.schema; rows = v.rows }) ∷ env.assigned) (sym new)
            ∙ ap (λ xs. named files ((number, made) ∷ results) (name, m) ∷ xs) (a.assigned ∙ named-same files number results made names.assigned a.earlier);
        stored = a.stored ∙ named-same files number results made names.stored a.earlier_stored;
        earlier =
            All-cons (λ (p : Name × Meant). IsEarlier files (number + 1) ((number, made) ∷ results) p.1) (name, m) names.assigned
            (omega arith, ap (λ (v : RelationState). v.schema) new)
            (All-weaker (λ (p : Name × Meant). IsEarlier files number results p.1) (λ (p : Name × Meant). IsEarlier files (number + 1) ((number, made) ∷ results) p.1)
            (λ p h. still-earlier files number results made p.1 h) names.assigned a.earlier);
        earlier_stored =
            All-weaker (λ (p : Key × Meant). IsEarlier files number results p.1) (λ (p : Key × Meant). IsEarlier files (number + 1) ((number, made) ∷ results) p.1)
            (λ p h. still-earlier files number results made p.1 h) names.stored a.earlier_stored;
      }

  -- a stored key more
  pub stored-agrees : (key : Key) (m : Meant) → IsEarlier files number results m
      → Agrees files (number + 1) results (with_key env key (table_of files results m)) (with_key names key m)
  stored-agrees key m h =
      let next = with_nothing files number results env names a in
      record {
        assigned = a.assigned;
        stored = ap (λ xs. named files results (key, m) ∷ xs) a.stored;
        earlier = next.earlier;
        earlier_stored = All-cons (λ (p : Key × Meant). IsEarlier files (number + 1) results p.1) (key, m) names.stored (weaker number m.source h.0, h.1) next.earlier_stored;
      }

-- before the first statement
pub none-agree : (files : List File) → Agrees files 1 [] nothing_yet nothing_yet
none-agree files = record {
  assigned = refl;
  stored = refl;
  earlier = All-nil (λ (p : Name × Meant). IsEarlier files 1 [] p.1);
  earlier_stored = All-nil (λ (p : Key × Meant). IsEarlier files 1 [] p.1);
}
