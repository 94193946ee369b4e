-- Whether a script has a meaning depends on columns alone.
use Rattle.std.proofs.Common.{◌≡◌, ◌∙◌, Bool, true, false, ◌&&◌, cond, Option, Some, None, option_map, option_and_then, List, [], ◌∷◌, ◌++◌, map, find, is_some, refl, sym, ap}
use Rattle.std.proofs.lemmas.List.{map-append}
use Rattle.std.specs.Option.{option_map_or}
use Rattle.rel_base.specs.Each.{each_or_none, put_before}
use Rattle.rel_base.specs.Keys.{File, same_key}
use Rattle.rel_base.specs.Relations.{RelationState}
use Rattle.rel_base.specs.declared.names.Key.{Key}
use Rattle.myrial_ast.specs.declared.relations.FromItem.{FromItem}
use Rattle.myrial_ast.specs.declared.relations.Operand.{Operand}
use Rattle.myrial_ast.specs.declared.relations.Operand.TheVariants as operand
use Rattle.myrial_ast.specs.Trees.{Name, Tree, EmitTree, RelTree, StatementTree}
use Rattle.myrial_ast.specs.Trees as tree
use Rattle.myrial_ast.specs.Bags.{union_all, distinct, difference}
use Rattle.myrial_ast.specs.Combinations.{Rows}
use Rattle.algebra.specs.Conditions.{same_kinds}
use Rattle.myrial_scopes.specs.Scopes.{ItemSchema, same_name, scope_of}
use Rattle.myrial_scopes.specs.Emits.{Resolved, resolved}
use Rattle.myrial_meaning.specs.Environments.{assigned_to, kept_under, nothing_yet, operand_of, with_key, with_name}
use Rattle.myrial_meaning.specs.Meaning.{RelationEnvironment, ItemRelation, after, comprehension_over, comprehension_rows, items_of, of_one, of_two, relation_of, item_relation, tables_of}
use Rattle.myrial_meaning.specs.Permuted.{Alike, SameEntry, SameEnvironment, no_more, one_more}
use Rattle.myrial_meaning.specs.Runnable.{all_defined, has_meaning, is_defined, kinds_of_relation, operands_fit}
use Rattle.myrial_meaning.specs.inner.Columns.{all_declared, bare, columns_of_two, declared}

-- ---- without rows

bare_name : Name × RelationState → Name × RelationState
bare_name p = (p.0, bare p.1)

bare_file : File → File
bare_file p = (p.0, bare p.1)

-- the columns of what names and stored keys stand for
columns_of : RelationEnvironment → RelationEnvironment
columns_of env = record { assigned = map bare_name env.assigned; stored = map bare_file env.stored }

bare_source : ItemRelation → ItemRelation
bare_source s = record { alias = s.alias; table = bare s.table }

is_some-mapped : {X Y : Type 0} (f : X → Y) (o : Option X) → is_some (option_map f o) ≡ is_some o
is_some-mapped f None = refl
is_some-mapped f (Some x) = refl

is_some-same : {X Y : Type 0} (f : X → Y) (o p : Option X) → option_map f o ≡ option_map f p → is_some o ≡ is_some p
is_some-same f o p e = sym (is_some-mapped f o) ∙ (ap is_some e ∙ is_some-mapped f p)

-- ---- what a name and a key stand for

found-name : (name : Name) (ps : List (Name × RelationState))
    → option_map bare (option_map (λ (p : Name × RelationState). p.1) (find (λ (p : Name × RelationState). same_name p.0 name) ps))
    ≡ option_map (λ (p : Name × RelationState). p.1) (find (λ (p : Name × RelationState). same_name p.0 name) (map bare_name ps))
unfolding bare_name
found-name name [] = refl
found-name name (p ∷ ps) = by (same_name p.0 name) (found-name name ps)
  where
    by : (same : Bool) → option_map bare (option_map (λ (p : Name × RelationState). p.1) (find (λ (p : Name × RelationState). same_name p.0 name) ps))
        ≡ option_map (λ (p : Name × RelationState). p.1) (find (λ (p : Name × RelationState). same_name p.0 name) (map (λ q. (q.0, bare q.1)) ps))
        → option_map bare (option_map (λ (p : Name × RelationState). p.1) (cond same (Some p) (find (λ (p : Name × RelationState). same_name p.0 name) ps)))
        ≡ option_map (λ (p : Name × RelationState). p.1) (cond same (Some (p.0, bare p.1)) (find (λ (p : Name × RelationState). same_name p.0 name) (map (λ q. (q.0, bare q.1)) ps)))
    by true e = refl
    by false e = e

found-key : (key : Key) (ps : List File)
    → option_map bare (option_map (λ (p : File). p.1) (find (λ (p : File). same_key p.0 key) ps))
    ≡ option_map (λ (p : File). p.1) (find (λ (p : File). same_key p.0 key) (map bare_file ps))
unfolding bare_file
found-key key [] = refl
found-key key (p ∷ ps) = by (same_key p.0 key) (found-key key ps)
  where
    by : (same : Bool) → option_map bare (option_map (λ (p : File). p.1) (find (λ (p : File). same_key p.0 key) ps))
        ≡ option_map (λ (p : File). p.1) (find (λ (p : File). same_key p.0 key) (map (λ q. (q.0, bare q.1)) ps))
        → option_map bare (option_map (λ (p : File). p.1) (cond same (Some p) (find (λ (p : File). same_key p.0 key) ps)))
        ≡ option_map (λ (p : File). p.1) (cond same (Some (p.0, bare p.1)) (find (λ (p : File). same_key p.0 key) (map (λ q. (q.0, bare q.1)) ps)))
    by true e = refl
    by false e = e

kinds-bare : (found : Option RelationState) → kinds_of_relation (option_map bare found) ≡ kinds_of_relation found
kinds-bare None = refl
kinds-bare (Some t) = refl

-- ---- environments with the same columns

names-bare : {ps qs : List (Name × RelationState)} → Alike (SameEntry {K = Name}) ps qs → map bare_name ps ≡ map bare_name qs
unfolding bare_name
names-bare no_more = refl
names-bare (one_more p q ps qs same rest) =
    λ i. (same.name i, record { schema = same.table.schema i; rows = [] }) ∷ names-bare rest i

files-bare : {ps qs : List File} → Alike (SameEntry {K = Key}) ps qs → map bare_file ps ≡ map bare_file qs
unfolding bare_file
files-bare no_more = refl
files-bare (one_more p q ps qs same rest) =
    λ i. (same.name i, record { schema = same.table.schema i; rows = [] }) ∷ files-bare rest i

-- relations with their rows in another order have the same columns
same-columns : (there here : RelationEnvironment) → SameEnvironment there here → columns_of there ≡ columns_of here
unfolding columns_of
same-columns there here same = λ i. record { assigned = names-bare same.assigned i; stored = files-bare same.stored i }

module _ (files : List File) (there here : RelationEnvironment) (same : columns_of there ≡ columns_of here) where
  name-columns : (name : Name) → option_map bare (assigned_to there name) ≡ option_map bare (assigned_to here name)
  unfolding columns_of
  name-columns name =
      found-name name there.assigned
      ∙ (ap (λ (env : RelationEnvironment). option_map (λ (p : Name × RelationState). p.1) (find (λ (p : Name × RelationState). same_name p.0 name) env.assigned)) same
      ∙ sym (found-name name here.assigned))

  key-columns : (key : Key) → option_map bare (kept_under files there key) ≡ option_map bare (kept_under files here key)
  unfolding columns_of
  key-columns key =
      found-key key (there.stored ++ files)
      ∙ (ap (λ (ps : List File). option_map (λ (p : File). p.1) (find (λ (p : File). same_key p.0 key) ps))
      (map-append bare_file there.stored files
      ∙ (ap (λ (env : RelationEnvironment). env.stored ++ map bare_file files) same ∙ sym (map-append bare_file here.stored files)))
      ∙ sym (found-key key (here.stored ++ files)))

  operand-columns : (o : Operand) → option_map bare (operand_of files there o) ≡ option_map bare (operand_of files here o)
  operand-columns (operand.Named name) = name-columns name
  operand-columns (operand.Scan key) = key-columns key
  operand-columns (operand.Load name schema skip) = refl

  source-columns : (item : FromItem) → option_map bare_source (item_relation files there item) ≡ option_map bare_source (item_relation files here item)
  unfolding bare_source
  source-columns item = by (operand_of files there item.source) (operand_of files here item.source) (operand-columns item.source)
    where
      by : (o p : Option RelationState) → option_map bare o ≡ option_map bare p
          → option_map (λ (s : ItemRelation). let b : ItemRelation = record { alias = s.alias; table = bare s.table } in b) (option_map (λ (t : RelationState). let s : ItemRelation = record { alias = item.alias; table = t } in s) o)
          ≡ option_map (λ (s : ItemRelation). let b : ItemRelation = record { alias = s.alias; table = bare s.table } in b) (option_map (λ (t : RelationState). let s : ItemRelation = record { alias = item.alias; table = t } in s) p)
      by None None e = refl
      by None (Some t) e = cc
      by (Some t) None e = cc
      by (Some t) (Some u) e = ap (option_map (λ (t : RelationState). let s : ItemRelation = record { alias = item.alias; table = t } in s)) e

  both-mapped : (o p : Option ItemRelation) (ss ts : Option (List ItemRelation)) → option_map bare_source o ≡ option_map bare_source p
      → option_map (map bare_source) ss ≡ option_map (map bare_source) ts
      → option_map (map bare_source) (put_before o ss) ≡ option_map (map bare_source) (put_before p ts)
  both-mapped None None ss ts e f = refl
  both-mapped None (Some p) ss ts e f = cc
  both-mapped (Some o) None ss ts e f = cc
  both-mapped (Some o) (Some p) None None e f = refl
  both-mapped (Some o) (Some p) None (Some ts) e f = cc
  both-mapped (Some o) (Some p) (Some ss) None e f = cc
  both-mapped (Some o) (Some p) (Some ss) (Some ts) e f =
      let first : bare_source o ≡ bare_source p = cc in
      let others : map bare_source ss ≡ map bare_source ts = cc in
      rw (first, others) refl

  sources-columns : (items : List FromItem)
      → option_map (map bare_source) (each_or_none (item_relation files there) items) ≡ option_map (map bare_source) (each_or_none (item_relation files here) items)
  sources-columns [] = refl
  sources-columns (item ∷ items) =
      both-mapped (item_relation files there item) (item_relation files here item) (each_or_none (item_relation files there) items) (each_or_none (item_relation files here) items)
      (source-columns item) (sources-columns items)

  items-bare : (sources : List ItemRelation) → items_of (map bare_source sources) ≡ items_of sources
  unfolding bare_source
  items-bare [] = refl
  items-bare (s ∷ sources) = ap (λ (rest : List ItemSchema). record { alias = s.alias; schema = s.table.schema } ∷ rest) (items-bare sources)

  over-columns : (condition : Option Tree) (emits : List EmitTree) (sources : List ItemRelation)
      → option_map bare (comprehension_over sources condition emits)
      ≡ option_map (λ (b : Resolved). let t : RelationState = record { schema = b.schema; rows = [] } in t) (resolved (scope_of (items_of sources)) condition emits)
  over-columns condition emits sources = by (resolved (scope_of (items_of sources)) condition emits)
    where
      by : (bound : Option Resolved) → option_map bare (option_map (λ (b : Resolved). let t : RelationState = record { schema = b.schema; rows = comprehension_rows b (tables_of sources) } in t) bound)
          ≡ option_map (λ (b : Resolved). let t : RelationState = record { schema = b.schema; rows = [] } in t) bound
      by None = refl
      by (Some b) = refl

  comprehension-columns : (condition : Option Tree) (emits : List EmitTree) (ss ts : Option (List ItemRelation))
      → option_map (map bare_source) ss ≡ option_map (map bare_source) ts
      → option_map bare (option_and_then (λ sources. comprehension_over sources condition emits) ss)
      ≡ option_map bare (option_and_then (λ sources. comprehension_over sources condition emits) ts)
  comprehension-columns condition emits None None e = refl
  comprehension-columns condition emits None (Some ts) e = cc
  comprehension-columns condition emits (Some ss) None e = cc
  comprehension-columns condition emits (Some ss) (Some ts) e =
      let alike : map bare_source ss ≡ map bare_source ts = cc in
      let items : items_of ss ≡ items_of ts = sym (items-bare ss) ∙ (ap items_of alike ∙ items-bare ts) in
      over-columns condition emits ss
      ∙ (ap (λ (its : List ItemSchema). option_map (λ (b : Resolved). let t : RelationState = record { schema = b.schema; rows = [] } in t) (resolved (scope_of its) condition emits)) items
      ∙ sym (over-columns condition emits ts))

  one-columns : (f : Rows → Rows) (o p : Option RelationState) → option_map bare o ≡ option_map bare p → option_map bare (of_one f o) ≡ option_map bare (of_one f p)
  one-columns f None None e = refl
  one-columns f None (Some p) e = cc
  one-columns f (Some o) None e = cc
  one-columns f (Some o) (Some p) e = e

  two-columns : (f : Rows → Rows → Rows) (o p q r : Option RelationState) → option_map bare o ≡ option_map bare p → option_map bare q ≡ option_map bare r
      → option_map bare (of_two f o q) ≡ option_map bare (of_two f p r)
  two-columns f None None q r e g = refl
  two-columns f None (Some p) q r e g = cc
  two-columns f (Some o) None q r e g = cc
  two-columns f (Some o) (Some p) None None e g = refl
  two-columns f (Some o) (Some p) None (Some r) e g = cc
  two-columns f (Some o) (Some p) (Some q) None e g = cc
  two-columns f (Some o) (Some p) (Some q) (Some r) e g = e

  relation-columns : (r : RelTree) → option_map bare (relation_of files there r) ≡ option_map bare (relation_of files here r)
  relation-columns (tree.Copy o) = operand-columns o
  relation-columns (tree.Empty schema) = refl
  relation-columns (tree.Distinct o) = one-columns distinct (operand_of files there o) (operand_of files here o) (operand-columns o)
  relation-columns (tree.UnionAll o p) =
      two-columns union_all (operand_of files there o) (operand_of files here o) (operand_of files there p) (operand_of files here p) (operand-columns o) (operand-columns p)
  relation-columns (tree.Diff o p) =
      two-columns difference (operand_of files there o) (operand_of files here o) (operand_of files there p) (operand_of files here p) (operand-columns o) (operand-columns p)
  relation-columns (tree.From items condition emits) =
      comprehension-columns condition emits (each_or_none (item_relation files there) items) (each_or_none (item_relation files here) items) (sources-columns items)

  kinds-columns : (o : Operand) → kinds_of_relation (operand_of files there o) ≡ kinds_of_relation (operand_of files here o)
  kinds-columns o =
      sym (kinds-bare (operand_of files there o)) ∙ (ap kinds_of_relation (operand-columns o) ∙ kinds-bare (operand_of files here o))

  operands_fit-columns : (r : RelTree) → operands_fit files there r ≡ operands_fit files here r
  operands_fit-columns (tree.Copy o) = refl
  operands_fit-columns (tree.Empty schema) = refl
  operands_fit-columns (tree.Distinct o) = refl
  operands_fit-columns (tree.UnionAll o p) = λ i. same_kinds (kinds-columns o i) (kinds-columns p i)
  operands_fit-columns (tree.Diff o p) = λ i. same_kinds (kinds-columns o i) (kinds-columns p i)
  operands_fit-columns (tree.From items condition emits) = refl

  is_defined-columns : (s : StatementTree) → is_defined files there s ≡ is_defined files here s
  is_defined-columns tree.Nothing = refl
  is_defined-columns (tree.Assign name r) =
      λ i. is_some-same bare (relation_of files there r) (relation_of files here r) (relation-columns r) i && operands_fit-columns r i
  is_defined-columns (tree.Store name key) = is_some-same bare (assigned_to there name) (assigned_to here name) (name-columns name)

  named-columns : (name : Name) (o p : Option RelationState) → option_map bare o ≡ option_map bare p
      → columns_of (option_map_or (with_name there name) o there) ≡ columns_of (option_map_or (λ (t : RelationState). with_name here name (bare t)) p here)
  unfolding columns_of bare_name
  named-columns name None None e = same
  named-columns name None (Some p) e = cc
  named-columns name (Some o) None e = cc
  named-columns name (Some o) (Some p) e =
      let alike : bare o ≡ bare p = cc in
      let assigned : map bare_name there.assigned ≡ map bare_name here.assigned = ap (λ (env : RelationEnvironment). env.assigned) same in
      let stored : map bare_file there.stored ≡ map bare_file here.stored = ap (λ (env : RelationEnvironment). env.stored) same in
      λ i. record { assigned = (name, alike i) ∷ assigned i; stored = stored i }

  keyed-columns : (key : Key) (o p : Option RelationState) → option_map bare o ≡ option_map bare p
      → columns_of (option_map_or (with_key there key) o there) ≡ columns_of (option_map_or (λ (t : RelationState). with_key here key (bare t)) p here)
  unfolding columns_of bare_file
  keyed-columns key None None e = same
  keyed-columns key None (Some p) e = cc
  keyed-columns key (Some o) None e = cc
  keyed-columns key (Some o) (Some p) e =
      let alike : bare o ≡ bare p = cc in
      let assigned : map bare_name there.assigned ≡ map bare_name here.assigned = ap (λ (env : RelationEnvironment). env.assigned) same in
      let stored : map bare_file there.stored ≡ map bare_file here.stored = ap (λ (env : RelationEnvironment). env.stored) same in
      λ i. record { assigned = assigned i; stored = (key, alike i) ∷ stored i }

  after-columns : (s : StatementTree) → columns_of (after files there s) ≡ columns_of (declared files here s)
  after-columns tree.Nothing = same
  after-columns (tree.Assign name r) = named-columns name (relation_of files there r) (relation_of files here r) (relation-columns r)
  after-columns (tree.Store name key) = keyed-columns key (assigned_to there name) (assigned_to here name) (name-columns name)

-- whether a statement stands for something doesn't depend on the order of rows
pub is_defined-same : (files : List File) (there here : RelationEnvironment) → SameEnvironment there here → (s : StatementTree)
    → is_defined files there s ≡ is_defined files here s
is_defined-same files there here same = is_defined-columns files there here (same-columns there here same)

-- the rest stands for something, told from the columns alone
all-columns : (files : List File) (rest : List StatementTree) (there here : RelationEnvironment) → columns_of there ≡ columns_of here
    → all_defined files there rest ≡ all_declared files here rest
all-columns files [] there here same = refl
all-columns files (s ∷ rest) there here same =
    rw (is_defined-columns files there here same s, all-columns files rest (after files there s) (declared files here s) (after-columns files there here same s)) refl

pub has_meaning-declared : (files : List File) (script : List StatementTree) → has_meaning files script ≡ all_declared files nothing_yet script
has_meaning-declared files script = all-columns files script nothing_yet nothing_yet refl

pub all_declared-first : (files : List File) (env : RelationEnvironment) (s : StatementTree) (rest : List StatementTree) → is_defined files env s ≡ false
    → all_declared files env (s ∷ rest) ≡ false
all_declared-first files env s rest e = rw e refl

pub all_declared-here : (files : List File) (env : RelationEnvironment) (s : StatementTree) (rest : List StatementTree) → is_defined files env s ≡ true
    → all_declared files env (s ∷ rest) ≡ all_declared files (declared files env s) rest
all_declared-here files env s rest e = rw e refl

-- the columns of what is made of one relation, and of two
pub columns-of_one : (f : Rows → Rows) (a : Option RelationState) → option_map (λ (t : RelationState). t.schema) a ≡ option_map (λ (t : RelationState). t.schema) (of_one f a)
columns-of_one f None = refl
columns-of_one f (Some t) = refl

pub columns-of_two : (f : Rows → Rows → Rows) (a b : Option RelationState) → columns_of_two a b ≡ option_map (λ (t : RelationState). t.schema) (of_two f a b)
columns-of_two f None b = refl
columns-of_two f (Some t) None = refl
columns-of_two f (Some t) (Some u) = refl
