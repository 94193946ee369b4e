-- What a script stands for, where the rows of its files stand in another order.
use Rattle.std.proofs.Common.{◌≡◌, Bool, true, false, cond, Option, Some, None, option_map, option_and_then, List, [], ◌∷◌, ◌++◌, find, fold, reverse, refl, subst}
use Rattle.std.proofs.lemmas.List.{reverse-append}
use Rattle.std.proofs.lemmas.List.Sorted.{IsPermutation-refl}
use Rattle.std.specs.Option.{option_map_or}
use Rattle.rel_base.specs.Bags.{SameBag}
use Rattle.rel_base.specs.Each.{each_or_none}
use Rattle.rel_base.specs.Keys.{File, same_key}
use Rattle.rel_base.specs.Relations.{RelationState}
use Rattle.rel_base.specs.declared.names.Key.{Key}
use Rattle.myrial_ast.specs.declared.relations.FromItem.{FromItem}
use Rattle.myrial_ast.specs.declared.relations.Operand.{Operand}
use Rattle.myrial_ast.specs.declared.relations.Operand.TheVariants as operand
use Rattle.myrial_ast.specs.Loads.{is_load_key}
use Rattle.myrial_ast.specs.Trees.{Tree, EmitTree, RelTree, StatementTree}
use Rattle.myrial_ast.specs.Trees as tree
use Rattle.myrial_ast.specs.Bags.{union_all, distinct, difference}
use Rattle.myrial_ast.specs.Combinations.{Rows, listed_rows}
use Rattle.myrial_scopes.specs.Scopes.{scope_of, same_name}
use Rattle.myrial_scopes.specs.Emits.{Resolved, resolved}
use Rattle.myrial_meaning.specs.Environments.{nothing_yet, operand_of, with_key, with_name}
use Rattle.myrial_meaning.specs.Meaning.{RelationEnvironment, ItemRelation, after, comprehension_over, comprehension_rows, items_of, of_one, of_two, relation_of, item_relation, stored_relations, tables_of}
use Rattle.bag_laws.proofs.GroupPermutations.{result_rows-same}
use Rattle.bag_laws.proofs.RowPermutations.{listed_rows-same, union_all-same, distinct-same, difference-same}
use Rattle.bag_laws.specs.Permuted.{SameTables, a_table, no_table}
use Rattle.myrial_meaning.specs.Permuted.{SameFiles, SameTable, a_file, no_file, Alike, no_more, one_more, Matched, neither, both, SameEntry, SameEnvironment}

-- ---- lists and options whose items are alike

module _ {X : Type 0} (R : X → X → Type 0) where
  Alike-append : {xs ys us vs : List X} → Alike R xs ys → Alike R us vs → Alike R (xs ++ us) (ys ++ vs)
  Alike-append no_more others = others
  Alike-append (one_more x y xs ys same rest) others = one_more x y _ _ same (Alike-append rest others)

  pub Alike-reverse : {xs ys : List X} → Alike R xs ys → Alike R (reverse xs) (reverse ys)
  Alike-reverse no_more = no_more
  Alike-reverse (one_more x y xs ys same rest) =
      rw (reverse-append (x ∷ []) xs, reverse-append (y ∷ []) ys)
      (Alike-append (Alike-reverse rest) (one_more x y [] [] same no_more))

  module _ {Y : Type 0} (S : Y → Y → Type 0) where
    pub Matched-map : (f g : X → Y) → ((x y : X) → R x y → S (f x) (g y))
        → {a b : Option X} → Matched R a b → Matched S (option_map f a) (option_map g b)
    Matched-map f g step neither = neither
    Matched-map f g step (both x y same) = both (f x) (g y) (step x y same)

    pub Matched-and_then : (f g : X → Option Y) → ((x y : X) → R x y → Matched S (f x) (g y))
        → {a b : Option X} → Matched R a b → Matched S (option_and_then f a) (option_and_then g b)
    Matched-and_then f g step neither = neither
    Matched-and_then f g step (both x y same) = step x y same

    pub Matched-map_or : (f g : X → Y) (d e : Y) → ((x y : X) → R x y → S (f x) (g y)) → S d e
        → {a b : Option X} → Matched R a b → S (option_map_or f a d) (option_map_or g b e)
    Matched-map_or f g d e step default neither = default
    Matched-map_or f g d e step default (both x y same) = step x y same

-- what is made of each item
pub Matched-each : {X Y : Type 0} (R : Y → Y → Type 0) (f g : X → Option Y) → ((x : X) → Matched R (f x) (g x))
    → (xs : List X) → Matched (Alike R) (each_or_none f xs) (each_or_none g xs)
Matched-each R f g step [] = both [] [] no_more
Matched-each R f g step (x ∷ xs) =
    Matched-and_then R (Alike R)
    (λ y. option_map (λ ys. y ∷ ys) (each_or_none f xs))
    (λ z. option_map (λ zs. z ∷ zs) (each_or_none g xs))
    (λ y z same. Matched-map (Alike R) (Alike R) (λ ys. y ∷ ys) (λ zs. z ∷ zs) (λ ys zs others. one_more y z ys zs same others) (Matched-each R f g step xs))
    (step x)

-- ---- relations under names and keys

pub entries-of_files : {files others : List File} → SameFiles files others → Alike (SameEntry {K = Key}) files others
entries-of_files no_file = no_more
entries-of_files (a_file key t u files rest same others) =
    one_more (key, t) (key, u) files rest (record { name = refl; table = same }) (entries-of_files others)

pub files-of_entries : {files others : List File} → Alike (SameEntry {K = Key}) files others → SameFiles files others
files-of_entries no_more = no_file
files-of_entries (one_more p q files rest same others) =
    subst (λ (key : Key). SameFiles (p ∷ files) ((key, q.1) ∷ rest)) same.name
    (a_file p.0 p.1 q.1 files rest same.table (files-of_entries others))

-- the first relation under a name or key that passes
module _ {K : Type 0} (test : K → Bool) where
  abbrev found_in : List (K × RelationState) → Option RelationState
  found_in entries = option_map (λ (p : K × RelationState). p.1) (find (λ (p : K × RelationState). test p.0) entries)

  found-first : (passes : Bool) (p q : K × RelationState) (ps qs : List (K × RelationState)) → SameTable p.1 q.1 → Matched SameTable (found_in ps) (found_in qs)
      → Matched SameTable
      (option_map (λ (e : K × RelationState). e.1) (cond passes (Some p) (find (λ (e : K × RelationState). test e.0) ps)))
      (option_map (λ (e : K × RelationState). e.1) (cond passes (Some q) (find (λ (e : K × RelationState). test e.0) qs)))
  found-first true p q ps qs same others = both p.1 q.1 same
  found-first false p q ps qs same others = others

  pub found-same : {ps qs : List (K × RelationState)} → Alike SameEntry ps qs → Matched SameTable (found_in ps) (found_in qs)
  found-same no_more = neither
  found-same (one_more p q ps qs same others) =
      rw same.name (found-first (test q.0) (q.0, p.1) q ps qs same.table (found-same others))

-- ---- the items of a comprehension

-- one alias, with one relation in another order
pub record SameSource (s r : ItemRelation) : Type 0 where
  pub alias : s.alias ≡ r.alias
  pub table : SameTable s.table r.table

pub items-same : {sources others : List ItemRelation} → Alike SameSource sources others → items_of sources ≡ items_of others
items-same no_more = refl
items-same (one_more s r sources others same rest) = let t = items-same rest in cc (same.table.schema)

pub tables-same : {sources others : List ItemRelation} → Alike SameSource sources others → SameTables (tables_of sources) (tables_of others)
tables-same no_more = no_table
tables-same (one_more s r sources others same rest) =
    a_table s.table.rows r.table.rows (tables_of sources) (tables_of others) same.table.rows (tables-same rest)

-- ---- what relation expressions, statements and scripts stand for

pub comprehension-same : {sources others : List ItemRelation} → Alike SameSource sources others → (condition : Option Tree) (emits : List EmitTree)
    → Matched SameTable (comprehension_over sources condition emits) (comprehension_over others condition emits)
comprehension-same {sources} {others} same condition emits =
    rw (items-same same) (by (resolved (scope_of (items_of others)) condition emits))
  where
    by : (found : Option Resolved)
        → Matched SameTable
        (option_map (λ (b : Resolved). record { schema = b.schema; rows = comprehension_rows b (tables_of sources) }) found)
        (option_map (λ (b : Resolved). record { schema = b.schema; rows = comprehension_rows b (tables_of others) }) found)
    by None = neither
    by (Some b) = both _ _ (record {
      schema = refl;
      rows = result_rows-same b.comprehension.aggregates
          (listed_rows b.comprehension (tables_of sources)) (listed_rows b.comprehension (tables_of others))
          (listed_rows-same b.comprehension (tables_of sources) (tables_of others) (tables-same same));
    })

module _ (files others : List File) (there here : RelationEnvironment) (files-same : Alike (SameEntry {K = Key}) files others) (same : SameEnvironment there here) where
  pub operand-same : (o : Operand) → Matched SameTable (operand_of files there o) (operand_of others here o)
  operand-same (operand.Named name) = found-same (λ n. same_name n name) same.assigned
  operand-same (operand.Scan key) = found-same (λ k. same_key k key) (Alike-append SameEntry same.stored files-same)
  operand-same (operand.Load name schema skip) = found-same (is_load_key name) files-same

  pub source-same : (item : FromItem) → Matched SameSource (item_relation files there item) (item_relation others here item)
  source-same item =
      Matched-map SameTable SameSource
      (λ table. record { alias = item.alias; table = table }) (λ table. record { alias = item.alias; table = table })
      (λ t u tables. record { alias = refl; table = tables })
      (operand-same item.source)

  pub of_one-same : (f : Rows → Rows) → ((a b : Rows) → SameBag a b → SameBag (f a) (f b)) → (o : Operand)
      → Matched SameTable (of_one f (operand_of files there o)) (of_one f (operand_of others here o))
  of_one-same f step o =
      Matched-map SameTable SameTable
      (λ (t : RelationState). record { schema = t.schema; rows = f t.rows }) (λ (t : RelationState). record { schema = t.schema; rows = f t.rows })
      (λ t u tables. record { schema = tables.schema; rows = step t.rows u.rows tables.rows })
      (operand-same o)

  pub of_two-same : (f : Rows → Rows → Rows) → ((a b x y : Rows) → SameBag a b → SameBag x y → SameBag (f a x) (f b y)) → (o p : Operand)
      → Matched SameTable (of_two f (operand_of files there o) (operand_of files there p)) (of_two f (operand_of others here o) (operand_of others here p))
  of_two-same f step o p =
      Matched-and_then SameTable SameTable
      (λ (t : RelationState). option_map (λ (u : RelationState). record { schema = t.schema; rows = f t.rows u.rows }) (operand_of files there p))
      (λ (t : RelationState). option_map (λ (u : RelationState). record { schema = t.schema; rows = f t.rows u.rows }) (operand_of others here p))
      (λ t u lefts. Matched-map SameTable SameTable
      (λ (v : RelationState). record { schema = t.schema; rows = f t.rows v.rows }) (λ (v : RelationState). record { schema = u.schema; rows = f u.rows v.rows })
      (λ v w rights. record { schema = lefts.schema; rows = step t.rows u.rows v.rows w.rows lefts.rows rights.rows })
      (operand-same p))
      (operand-same o)

  pub relation-same : (r : RelTree) → Matched SameTable (relation_of files there r) (relation_of others here r)
  relation-same (tree.Copy o) = operand-same o
  relation-same (tree.Empty schema) = both _ _ (record { schema = refl; rows = IsPermutation-refl [] })
  relation-same (tree.Distinct o) = of_one-same distinct distinct-same o
  relation-same (tree.UnionAll o p) = of_two-same union_all union_all-same o p
  relation-same (tree.Diff o p) = of_two-same difference difference-same o p
  relation-same (tree.From items condition emits) =
      Matched-and_then (Alike SameSource) SameTable
      (λ sources. comprehension_over sources condition emits) (λ sources. comprehension_over sources condition emits)
      (λ sources rest alike. comprehension-same alike condition emits)
      (Matched-each SameSource (item_relation files there) (item_relation others here) source-same items)

  pub after-same : (s : StatementTree) → SameEnvironment (after files there s) (after others here s)
  after-same tree.Nothing = same
  after-same (tree.Assign name r) =
      Matched-map_or SameTable SameEnvironment (with_name there name) (with_name here name) there here
      (λ t u tables. record {
        assigned = one_more (name, t) (name, u) there.assigned here.assigned (record { name = refl; table = tables }) same.assigned;
        stored = same.stored;
      })
      same (relation-same r)
  after-same (tree.Store name key) =
      Matched-map_or SameTable SameEnvironment (with_key there key) (with_key here key) there here
      (λ t u tables. record {
        assigned = same.assigned;
        stored = one_more (key, t) (key, u) there.stored here.stored (record { name = refl; table = tables }) same.stored;
      })
      same (found-same (λ n. same_name n name) same.assigned)

all-same : (files others : List File) → Alike (SameEntry {K = Key}) files others → (script : List StatementTree) (there here : RelationEnvironment)
    → SameEnvironment there here → SameEnvironment (fold (after files) there script) (fold (after others) here script)
all-same files others files-same [] there here same = same
all-same files others files-same (s ∷ script) there here same =
    all-same files others files-same script (after files there s) (after others here s) (after-same files others there here files-same same s)

pub stored-same : (script : List StatementTree) (files others : List File) → SameFiles files others
    → SameFiles (stored_relations files script) (stored_relations others script)
stored-same script files others same =
    files-of_entries (Alike-reverse SameEntry
    (all-same files others (entries-of_files same) script nothing_yet nothing_yet (record { assigned = no_more; stored = no_more })).stored)
