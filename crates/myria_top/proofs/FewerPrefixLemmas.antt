-- Reduced rows have no more candidates of any prefix, so the flag to reduce adds no fault.
use Rattle.std.proofs.Common.{◌≡◌, ℕ, zero, suc, ◌+◌, ◌-◌, ◌≤◌, Bool, true, false, cond, List, [], ◌∷◌, map, take, length, refl, sym, ◌∙◌, ap, subst, arith, Option, Some, None, if◌then◌else◌}
use Rattle.std.specs.Prelude.{filter, is_some, option_and_then, ◌&&◌, ◌||◌}
use Rattle.std.specs.List.{list_any, enumerate_from, range_with_len}
use Rattle.std.proofs.lemmas.Bool.Decides.{nat_tests}
use Rattle.rel_base.specs.Each.{each_or_none}
use Rattle.rel_base.specs.Keys.{File}
use Rattle.rel_base.specs.declared.faults.RunFault.{RunFault}
use Rattle.rel_base.specs.declared.faults.RunFault.TheVariants as fault
use Rattle.myrial_ast.specs.Trees.{RelTree, StatementTree}
use Rattle.myrial_ast.specs.Trees as tree
use Rattle.myrial_ast.specs.Scalars.{Scalar, plain_of, arithmetic_of}
use Rattle.myrial_ast.specs.Combinations.{Row, Rows, Comprehension, combinations, combined_row, candidates}
use Rattle.myrial_ast.specs.Classes.{equalities, variables}
use Rattle.myrial_ast.specs.Groups.{Kinds}
use Rattle.myrial_ast.specs.JoinTrees.{is_acyclic, all_items}
use Rattle.myrial_ast.specs.KeptRows.{passes_within, span_of_item, span_of_prefix, put_at, prefix_candidates}
use Rattle.myrial_ast.specs.ReducedRows.{takes_part, kept_each, reduced_rows, reduced_each, joined_each}
use Rattle.myrial_ast.specs.CandidateFaults.{too_many, PrefixRule, Counted, Uncounted, FaultRule, prefix_too_long, join_fault, comprehension_fault}
use Rattle.myrial_meaning.specs.Environments.{nothing_yet}
use Rattle.myrial_meaning.specs.Meaning.{RelationEnvironment, item_relation, tables_of, after}
use Rattle.myrial_meaning.specs.Needed.{is_needed}
use Rattle.myrial_meaning.specs.Faults.{widths_of, relation_fault, statement_fault, in_each, fault_from}
use Rattle.placement.proofs.CellLemmas.{each, combinations-filter}
use Rattle.placement.proofs.MemberLemmas.{filter-twice}
use Rattle.myria_top.specs.Reducing.{ReducingAddsNoFault}

-- ---- fewer of some are fewer that pass

filtered-fewer : (p : Row → Bool) (test : List Row → Bool) (combos : List (List Row))
    → length (filter p (map combined_row (filter test combos))) ≤ length (filter p (map combined_row combos))
filtered-fewer p test [] = omega arith
filtered-fewer p test (combo ∷ combos) = by (test combo) (filtered-fewer p test combos)
  where
    few : Rows
    few = filter p (map combined_row (filter test combos))

    more : Rows
    more = filter p (map combined_row combos)

    same : (b : Bool) → length few ≤ length more → length (cond b (combined_row combo ∷ few) few) ≤ length (cond b (combined_row combo ∷ more) more)
    same true less = omega (arith, less)
    same false less = less

    skipped : (b : Bool) → length few ≤ length more → length few ≤ length (cond b (combined_row combo ∷ more) more)
    skipped true less = omega (arith, less)
    skipped false less = less

    by : (t : Bool) → length few ≤ length more
        → length (filter p (map combined_row (cond t (combo ∷ filter test combos) (filter test combos)))) ≤ length (filter p (map combined_row (combo ∷ combos)))
    by true = same (p (combined_row combo))
    by false = skipped (p (combined_row combo))

few-of : (few more : Rows) → length few ≤ length more → too_many more ≡ false → too_many few ≡ false
few-of few more less h = grind (arith, nat_tests)

both-false : (a b : Bool) → (a || b) ≡ false → (a ≡ false) × (b ≡ false)
both-false false b h = (refl, h)
both-false true b h = cc

none-of : (p q : ℕ → Bool) → ((n : ℕ) → p n ≡ false → q n ≡ false) → (ns : List ℕ) → list_any p ns ≡ false → list_any q ns ≡ false
none-of p q h [] none = refl
none-of p q h (n ∷ ns) none =
    let parts = both-false (p n) (list_any p ns) none in
    ap (λ b. b || list_any q ns) (h n parts.0) ∙ none-of p q h ns parts.1

-- ---- the reduced rows of each item

module _ (widths : List ℕ) (vs : List (List ℕ)) (tests : List Scalar) (ties : List (ℕ × ℕ)) (tables : List Rows) where
  is_reduced : ℕ → Row → Bool
  is_reduced j row =
      let span = span_of_item widths j in
      passes_within tests ties span (put_at span.from row) && takes_part vs (kept_each widths tests ties tables) j row

  abbrev reduced_from : ℕ → List Rows → List Rows
  reduced_from i rest = map (λ (e : ℕ × Rows). reduced_rows widths vs tests ties tables e.0 e.1) (enumerate_from i rest)

  reduced-length : (i : ℕ) (rest : List Rows) → length (reduced_from i rest) ≡ length rest
  reduced-length i [] = refl
  reduced-length i (rows ∷ rest) = ap suc (reduced-length (i + 1) rest)

  -- the first n, as one test of each row
  reduced-front : (n i : ℕ) (rest : List Rows)
      → take n (reduced_from i rest) ≡ map (λ (e : ℕ × Rows). filter (is_reduced e.0) e.1) (enumerate_from i (take n rest))
  unfolding is_reduced
  reduced-front zero i rest = refl
  reduced-front (suc n) i [] = refl
  reduced-front (suc n) i (rows ∷ rest) =
      let span = span_of_item widths i in
      let kept : Row → Bool = λ row. passes_within tests ties span (put_at span.from row) in
      let part : Row → Bool = λ row. takes_part vs (kept_each widths tests ties tables) i row in
      ap (λ (xs : Rows). xs ∷ take n (reduced_from (i + 1) rest)) (filter-twice part kept rows)
      ∙ ap (λ (xs : List Rows). filter (λ row. kept row && part row) rows ∷ xs) (reduced-front n (i + 1) rest)

  prefix-fewer : (n : ℕ)
      → length (prefix_candidates widths tests ties n (reduced_each widths vs tests ties tables)) ≤ length (prefix_candidates widths tests ties n tables)
  prefix-fewer n =
      let passes : Row → Bool = passes_within tests ties (span_of_prefix widths n) in
      subst (λ (combos : List (List Row)). length (filter passes (map combined_row combos)) ≤ length (prefix_candidates widths tests ties n tables))
      (sym (ap combinations (reduced-front n 0 tables) ∙ combinations-filter is_reduced 0 (take n tables)))
      (filtered-fewer passes (each is_reduced 0) (combinations (take n tables)))

  reduced-short : (prefixes : PrefixRule) → prefix_too_long prefixes widths tests ties tables ≡ false
      → prefix_too_long prefixes widths tests ties (reduced_each widths vs tests ties tables) ≡ false
  reduced-short Uncounted h = refl
  reduced-short Counted h =
      let all = reduced_each widths vs tests ties tables in
      ap (λ n. list_any (λ i. too_many (prefix_candidates widths tests ties i all)) (range_with_len 1 (n - 1))) (reduced-length 0 tables)
      ∙ none-of (λ i. too_many (prefix_candidates widths tests ties i tables)) (λ i. too_many (prefix_candidates widths tests ties i all))
      (λ i few. few-of (prefix_candidates widths tests ties i all) (prefix_candidates widths tests ties i tables) (prefix-fewer i) few)
      (range_with_len 1 (length tables - 1)) h

  joined-short : (prefixes : PrefixRule) → prefix_too_long prefixes widths tests ties tables ≡ false
      → prefix_too_long prefixes widths tests ties (joined_each true widths vs tests ties tables) ≡ false
  joined-short prefixes h = by (is_acyclic widths vs (all_items widths))
    where
      by : (b : Bool) → prefix_too_long prefixes widths tests ties (if b then reduced_each widths vs tests ties tables else tables) ≡ false
      by true = reduced-short prefixes h
      by false = h

-- ---- faults

none-behind : {X : Type 0} (f g : X → Option RunFault) → ((x : X) → f x ≡ None → g x ≡ None)
    → (found : Option X) → option_and_then f found ≡ None → option_and_then g found ≡ None
none-behind f g h None own = refl
none-behind f g h (Some x) own = h x own

join-none : (number : ℕ) (long longer : Bool) → (longer ≡ false → long ≡ false)
    → (arithmetic emits : List Scalar) (kinds : Kinds) (rows : Rows)
    → join_fault number longer arithmetic emits kinds rows ≡ None → join_fault number long arithmetic emits kinds rows ≡ None
join-none number long longer h arithmetic emits kinds rows none = by longer refl none
  where
    by : (b : Bool) → longer ≡ b → join_fault number b arithmetic emits kinds rows ≡ None → join_fault number long arithmetic emits kinds rows ≡ None
    by false e own = ap (λ b. join_fault number b arithmetic emits kinds rows) (h e) ∙ own
    by true e own = absurd (too_long (too_many rows) _ own)
      where
        too_long : (many : Bool) (other : Option RunFault) → (if many || true then Some (fault.TooManyRows number) else other) ≡ None → ⊥
        too_long true other k = cc
        too_long false other k = cc

module _ (prefixes : PrefixRule) (files : List File) where
  abbrev rule : Bool → FaultRule
  rule reduce = record { prefixes = prefixes; reduce = reduce }

  comprehension-none : (number : ℕ) (widths : List ℕ) (c : Comprehension) (tables : List Rows)
      → comprehension_fault (rule false) number widths c tables ≡ None → comprehension_fault (rule true) number widths c tables ≡ None
  comprehension-none number widths c tables =
      let tests = plain_of c.conjuncts in
      let ties = equalities c.conjuncts in
      let vs = variables widths ties in
      join-none number (prefix_too_long prefixes widths tests ties (joined_each true widths vs tests ties tables)) (prefix_too_long prefixes widths tests ties tables)
      (joined-short widths vs tests ties tables prefixes) (arithmetic_of c.conjuncts) c.emits c.aggregates (candidates tests tables)

  relation-none : (number : ℕ) (env : RelationEnvironment) (r : RelTree)
      → relation_fault (rule false) number files env r ≡ None → relation_fault (rule true) number files env r ≡ None
  relation-none number env (tree.From items condition emits) none =
      none-behind _ _
      (λ sources. none-behind _ _ (λ b. comprehension-none number (widths_of sources) b.comprehension (tables_of sources)) _)
      (each_or_none (item_relation files env) items) none
  relation-none number env (tree.UnionAll o p) none = none
  relation-none number env _ none = refl

  statement-none : (number : ℕ) (env : RelationEnvironment) (s : StatementTree)
      → statement_fault (rule false) number files env s ≡ None → statement_fault (rule true) number files env s ≡ None
  statement-none number env (tree.Assign name r) none = relation-none number env r none
  statement-none number env _ none = refl

  abbrev own_fault : Bool → ℕ → RelationEnvironment → StatementTree → List StatementTree → Option RunFault
  own_fault reduce number env s rest = if is_needed s rest then statement_fault (rule reduce) number files env s else None

  own-none : (number : ℕ) (env : RelationEnvironment) (s : StatementTree) (rest : List StatementTree)
      → own_fault false number env s rest ≡ None → own_fault true number env s rest ≡ None
  own-none number env s rest none = by (is_needed s rest) none
    where
      by : (b : Bool) → (if b then statement_fault (rule false) number files env s else None) ≡ None
          → (if b then statement_fault (rule true) number files env s else None) ≡ None
      by true own = statement-none number env s own
      by false own = refl

  abbrev or_later : Option RunFault → Option RunFault → Option RunFault
  or_later own later = if is_some own then own else later

  both-none : (own later : Option RunFault) → or_later own later ≡ None → (own ≡ None) × (later ≡ None)
  both-none None later h = (refl, h)
  both-none (Some f) later h = absurd (cc)

  first-none : (number : ℕ) (env : RelationEnvironment) (script : List StatementTree)
      → fault_from (in_each (rule false)) files number env script ≡ None → fault_from (in_each (rule true)) files number env script ≡ None
  first-none number env [] none = refl
  first-none number env (s ∷ rest) none =
      let next = after files env s in
      let parts = both-none (own_fault false number env s rest) (fault_from (in_each (rule false)) files (suc number) next rest) none in
      ap (λ own. or_later own (fault_from (in_each (rule true)) files (suc number) next rest)) (own-none number env s rest parts.0)
      ∙ first-none (suc number) next rest parts.1

pub reducing_adds_no_fault : ReducingAddsNoFault
reducing_adds_no_fault prefixes files script = first-none prefixes files 1 nothing_yet script
