-- Faults, where the rows of relations stand in another order.
use Rattle.std.proofs.Common.{◌≡◌, ◌∙◌, ℕ, suc, nat_lt, Option, Some, None, option_and_then, List, [], ◌∷◌, length, map, refl, sym, ap}
use Rattle.std.specs.Prelude.{if◌then◌else◌}
use Rattle.std.specs.List.{list_all, list_any, zip}
use Rattle.std.proofs.lemmas.List.Sorted.{IsPermutation-refl, IsPermutation-trans, IsPermutation-sym, length_permutation, list_any-IsPermutation}
use Rattle.rel_base.specs.Bags.{SameBag, sorted}
use Rattle.rel_base.specs.Values.{row_order}
use Rattle.rel_base.specs.ValueLaws.{row_order_total, row_order-IsAntisymmetric}
use Rattle.rel_base.proofs.SortedLemmas.{Ascending-sorted_by, IsSorted-Ascending, IsPermutation-sorted_by, sorted_by-unique}
use Rattle.rel_base.specs.Limits.{most_rows}
use Rattle.rel_base.specs.Keys.{File}
use Rattle.rel_base.specs.Relations.{RelationState}
use Rattle.rel_base.specs.declared.faults.RunFault.TheVariants as fault
use Rattle.rel_base.specs.declared.names.Key.{Key}
use Rattle.myrial_ast.specs.Trees.{Tree, EmitTree, RelTree, StatementTree}
use Rattle.myrial_ast.specs.Trees as tree
use Rattle.myrial_ast.specs.Scalars.{plain_of, arithmetic_of}
use Rattle.myrial_ast.specs.Combinations.{Rows, Comprehension, candidates, listed_from}
use Rattle.myrial_ast.specs.Groups.{groups, sum_fits, sums_fit}
use Rattle.myrial_ast.specs.CandidateFaults.{joins_alone, comprehension_fault, overflows_on, too_many}
use Rattle.myrial_scopes.specs.Scopes.{ItemSchema, scope_of}
use Rattle.myrial_scopes.specs.Emits.{Resolved, resolved}
use Rattle.bag_laws.specs.Permuted.{SameTables}
use Rattle.bag_laws.proofs.GroupPermutations.{groups-same}
use Rattle.aggregate_ops.proofs.StepLemmas.{list_all-same}
use Rattle.bag_laws.proofs.RowPermutations.{candidates-same, listed_from-same}
use Rattle.myrial_meaning.specs.Meaning.{RelationEnvironment, ItemRelation, item_relation, items_of, tables_of}
use Rattle.myrial_meaning.specs.Faults.{relation_fault, statement_fault, widths_of}
use Rattle.myrial_meaning.specs.SortedFiles.{sorted_file}
use Rattle.myrial_meaning.specs.Permuted.{SameTable, Alike, no_more, one_more, Matched, neither, both, SameEntry, SameEnvironment}
use Rattle.myrial_meaning.proofs.MeaningPermutations.{Matched-each, relation-same, source-same, items-same, tables-same, SameSource}
use Rattle.myrial_meaning.proofs.ComprehensionLemmas.{whole_fault}

-- ---- comprehensions

comprehension_fault-same : (number : ℕ) (widths : List ℕ) (c : Comprehension) (tables others : List Rows) → SameTables tables others
    → comprehension_fault joins_alone number widths c tables ≡ comprehension_fault joins_alone number widths c others
comprehension_fault-same number widths c tables others same =
    λ i. whole_fault number (many i) (over i) (sums i)
  where
    cands : SameBag (candidates (plain_of c.conjuncts) tables) (candidates (plain_of c.conjuncts) others)
    cands = candidates-same (plain_of c.conjuncts) tables others same

    many : too_many (candidates (plain_of c.conjuncts) tables) ≡ too_many (candidates (plain_of c.conjuncts) others)
    many = ap (λ n. nat_lt most_rows n) (sym (length_permutation (candidates (plain_of c.conjuncts) tables) (candidates (plain_of c.conjuncts) others) cands))

    over : list_any (overflows_on (arithmetic_of c.conjuncts) c.emits) (candidates (plain_of c.conjuncts) tables)
        ≡ list_any (overflows_on (arithmetic_of c.conjuncts) c.emits) (candidates (plain_of c.conjuncts) others)
    over = list_any-IsPermutation (overflows_on (arithmetic_of c.conjuncts) c.emits) (candidates (plain_of c.conjuncts) tables) (candidates (plain_of c.conjuncts) others) cands

    sums : sums_fit c.aggregates (listed_from (arithmetic_of c.conjuncts) c.emits (candidates (plain_of c.conjuncts) tables))
        ≡ sums_fit c.aggregates (listed_from (arithmetic_of c.conjuncts) c.emits (candidates (plain_of c.conjuncts) others))
    sums =
        list_all-same (λ row. list_all (λ p. sum_fits p.0 p.1) (zip c.aggregates row))
        (groups c.aggregates (listed_from (arithmetic_of c.conjuncts) c.emits (candidates (plain_of c.conjuncts) tables)))
        (groups c.aggregates (listed_from (arithmetic_of c.conjuncts) c.emits (candidates (plain_of c.conjuncts) others)))
        (groups-same c.aggregates (listed_from (arithmetic_of c.conjuncts) c.emits (candidates (plain_of c.conjuncts) tables))
        (listed_from (arithmetic_of c.conjuncts) c.emits (candidates (plain_of c.conjuncts) others))
        (listed_from-same (arithmetic_of c.conjuncts) c.emits (candidates (plain_of c.conjuncts) tables) (candidates (plain_of c.conjuncts) others) cands))

widths-items : (sources : List ItemRelation) → widths_of sources ≡ map (λ (s : ItemSchema). length s.schema) (items_of sources)
widths-items [] = refl
widths-items (s ∷ sources) = ap (λ (ns : List ℕ). length s.table.schema ∷ ns) (widths-items sources)

over-same : (number : ℕ) (condition : Option Tree) (emits : List EmitTree) (sources others : List ItemRelation) → Alike SameSource sources others
    → option_and_then (λ (b : Resolved). comprehension_fault joins_alone number (widths_of sources) b.comprehension (tables_of sources)) (resolved (scope_of (items_of sources)) condition emits)
    ≡ option_and_then (λ (b : Resolved). comprehension_fault joins_alone number (widths_of others) b.comprehension (tables_of others)) (resolved (scope_of (items_of others)) condition emits)
over-same number condition emits sources others same =
    (λ i. option_and_then (λ (b : Resolved). comprehension_fault joins_alone number (widths i) b.comprehension (tables_of sources)) (resolved (scope_of (items-same same i)) condition emits))
    ∙ by (resolved (scope_of (items_of others)) condition emits)
  where
    widths : widths_of sources ≡ widths_of others
    widths = widths-items sources ∙ ap (map (λ (s : ItemSchema). length s.schema)) (items-same same) ∙ sym (widths-items others)

    by : (found : Option Resolved)
        → option_and_then (λ (b : Resolved). comprehension_fault joins_alone number (widths_of others) b.comprehension (tables_of sources)) found
        ≡ option_and_then (λ (b : Resolved). comprehension_fault joins_alone number (widths_of others) b.comprehension (tables_of others)) found
    by None = refl
    by (Some b) = comprehension_fault-same number (widths_of others) b.comprehension (tables_of sources) (tables_of others) (tables-same same)

matched-and_then : {X Y : Type 0} (R : X → X → Type 0) (f g : X → Option Y) → ((x y : X) → R x y → f x ≡ g y) → {a b : Option X} → Matched R a b
    → option_and_then f a ≡ option_and_then g b
matched-and_then R f g step neither = refl
matched-and_then R f g step (both x y same) = step x y same

-- ---- statements

module _ (files : List File) (files-same : Alike (SameEntry {K = Key}) files files) (there here : RelationEnvironment) (same : SameEnvironment there here) where
  relation_fault-same : (number : ℕ) (r : RelTree) → relation_fault joins_alone number files there r ≡ relation_fault joins_alone number files here r
  relation_fault-same number (tree.Copy o) = refl
  relation_fault-same number (tree.Empty schema) = refl
  relation_fault-same number (tree.Distinct o) = refl
  relation_fault-same number (tree.Diff o p) = refl
  relation_fault-same number (tree.UnionAll o p) =
      matched-and_then SameTable (λ (t : RelationState). if too_many t.rows then Some (fault.TooManyRows number) else None)
      (λ (t : RelationState). if too_many t.rows then Some (fault.TooManyRows number) else None)
      (λ t u tables. ap (λ n. if nat_lt most_rows n then Some (fault.TooManyRows number) else None) (sym (length_permutation t.rows u.rows tables.rows)))
      (relation-same files files there here files-same same (tree.UnionAll o p))
  relation_fault-same number (tree.From items condition emits) =
      matched-and_then (Alike SameSource)
      (λ sources. option_and_then (λ (b : Resolved). comprehension_fault joins_alone number (widths_of sources) b.comprehension (tables_of sources)) (resolved (scope_of (items_of sources)) condition emits))
      (λ sources. option_and_then (λ (b : Resolved). comprehension_fault joins_alone number (widths_of sources) b.comprehension (tables_of sources)) (resolved (scope_of (items_of sources)) condition emits))
      (λ sources others alike. over-same number condition emits sources others alike)
      (Matched-each SameSource (item_relation files there) (item_relation files here) (source-same files files there here files-same same) items)

  pub statement_fault-permuted : (number : ℕ) (s : StatementTree) → statement_fault joins_alone number files there s ≡ statement_fault joins_alone number files here s
  statement_fault-permuted number tree.Nothing = refl
  statement_fault-permuted number (tree.Store name key) = refl
  statement_fault-permuted number (tree.Assign name r) = relation_fault-same number r

-- ---- relations that are the same bags

pub SameTable-itself : (t : RelationState) → SameTable t t
SameTable-itself t = record { schema = refl; rows = IsPermutation-refl t.rows }

SameTable-trans : (t u v : RelationState) → SameTable t u → SameTable u v → SameTable t v
SameTable-trans t u v a b = record { schema = a.schema ∙ b.schema; rows = IsPermutation-trans t.rows u.rows v.rows a.rows b.rows }

module _ {K : Type 0} where
  pub entries-itself : (entries : List (K × RelationState)) → Alike SameEntry entries entries
  entries-itself [] = no_more
  entries-itself (p ∷ ps) = one_more p p ps ps (record { name = refl; table = SameTable-itself p.1 }) (entries-itself ps)

  pub entries-trans : {ps qs rs : List (K × RelationState)} → Alike SameEntry ps qs → Alike SameEntry qs rs → Alike SameEntry ps rs
  entries-trans no_more no_more = no_more
  entries-trans (one_more p q ps qs a more) (one_more _ r _ rs b others) =
      one_more p r ps rs (record { name = a.name ∙ b.name; table = SameTable-trans p.1 q.1 r.1 a.table b.table }) (entries-trans more others)

  pub entries-long : {ps qs : List (K × RelationState)} → Alike SameEntry ps qs → length ps ≡ length qs
  entries-long no_more = refl
  entries-long (one_more p q ps qs a more) = ap suc (entries-long more)

pub SameEnvironment-itself : (env : RelationEnvironment) → SameEnvironment env env
SameEnvironment-itself env = record { assigned = entries-itself env.assigned; stored = entries-itself env.stored }

pub SameEnvironment-trans : (a b c : RelationEnvironment) → SameEnvironment a b → SameEnvironment b c → SameEnvironment a c
SameEnvironment-trans a b c p q = record { assigned = entries-trans p.assigned q.assigned; stored = entries-trans p.stored q.stored }

-- in ascending order they are one
sorted-same : (rows others : Rows) → SameBag rows others → sorted rows ≡ sorted others
sorted-same rows others h =
    sorted_by-unique row_order row_order_total row_order-IsAntisymmetric others (sorted rows)
    (IsPermutation-trans others rows (sorted rows) (IsPermutation-sym rows others h) (IsPermutation-sorted_by row_order rows))
    (IsSorted-Ascending row_order row_order_total row_order-IsAntisymmetric (sorted rows)
    (Ascending-sorted_by row_order row_order_total row_order-IsAntisymmetric rows))

pub files-sorted : {files others : List File} → Alike SameEntry files others → map sorted_file files ≡ map sorted_file others
files-sorted no_more = refl
files-sorted (one_more p q ps qs same rest) =
    let name = same.name in
    let schema = same.table.schema in
    let rows = sorted-same p.1.rows q.1.rows same.table.rows in
    let others = files-sorted rest in
    λ i. (name i, record { schema = schema i; rows = rows i }) ∷ others i
