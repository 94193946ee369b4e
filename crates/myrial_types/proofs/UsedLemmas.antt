-- The result of a statement is used by a needed step or a store exactly where its name is live.
use Rattle.std.proofs.Common.{◌≡◌, ◌∙◌, ℕ, ◌+◌, ◌<◌, ◌≤◌, ◌==◌, Bool, true, false, not, ◌&&◌, ◌||◌, cond, find, List, [], ◌∷◌, ◌++◌, map, refl, sym, ap, subst, arith, Option, Some, None}
use Rattle.std.specs.Prelude.{All, option_map, option_and_then}
use Rattle.std.specs.Option.{option_map_or}
use Rattle.std.specs.List.{enumerate_from, list_any}
use Rattle.std.proofs.lemmas.Bool.{eqb-true}
use Rattle.std.proofs.lemmas.Bool.Decides.{nat_tests}
use Rattle.std.proofs.lemmas.Cmp.{nat_list_eq_equiv}
use Rattle.std.proofs.lemmas.List.Elements.{All-nil, All-cons, All-head, All-tail, All-weaker, All-append}
use Rattle.rel_base.specs.Each.{each_or_none, put_before}
use Rattle.rel_base.specs.Keys.{File, same_key}
use Rattle.rel_base.specs.declared.names.Key.{Key}
use Rattle.rel_base.specs.declared.values.ColType.{ColType}
use Rattle.myrial_ast.specs.declared.relations.FromItem.{FromItem}
use Rattle.myrial_ast.specs.declared.relations.Operand.{Operand}
use Rattle.myrial_ast.specs.declared.relations.Operand.TheVariants as operand
use Rattle.myrial_ast.specs.Loads.{is_load_key}
use Rattle.myrial_ast.specs.Trees.{Name, RelTree, StatementTree}
use Rattle.myrial_ast.specs.Trees as tree
use Rattle.myrial_ast.specs.Groups.{has_aggregate}
use Rattle.myrial_ast.specs.Combinations.{Comprehension}
use Rattle.myrial_scopes.specs.Scopes.{same_name, scope_of}
use Rattle.myrial_scopes.specs.Emits.{Resolved, resolved}
use Rattle.myrial_meaning.specs.Environments.{assigned_to, operand_of, with_key, with_name}
use Rattle.myrial_meaning.specs.Needed.{is_live, is_name, mentions}
use Rattle.myrial_meaning.proofs.AgreementLemmas.{same_name-equal}
use Rattle.algebra.specs.declared.terms.Source.{Source}
use Rattle.algebra.specs.declared.terms.Source.TheVariants as source
use Rattle.algebra.specs.declared.terms.StoreStep.{StoreStep}
use Rattle.algebra.specs.Trees.{TermTree, Same, UnionAll, Diff, Distinct, Join, Group, StepTree, CheckedTree}
use Rattle.algebra.specs.Shapes.{shape_of}
use Rattle.algebra.specs.Meanings.{is_result, is_used, needed_steps, sources_of, uses}
use Rattle.myrial_types.specs.Checking.{step_of, store_of, with_result}
use Rattle.myrial_types.specs.Resolving.{Meant, MeantItem, Names, Typed, as_written, comprehension_term, file_meant, files_meant, item_meant, join_term, kinds_of_items, meant, of_one, of_two, schemas_of, term_of}
use Rattle.myrial_types.specs.Resolving as resolving
use Rattle.myrial_types.proofs.FollowLemmas.{Follows, at_end, a_nothing, an_assignment, a_store, later-steps}
use Rattle.myrial_types.proofs.ValueLemmas.{IfAny, IsBefore, meant-All, weaker}

-- ---- truths

and-false : (v : Bool) → false ≡ (v && false)
and-false true = refl
and-false false = refl

or-means : (v a b x y : Bool) → a ≡ (v && x) → b ≡ (v && y) → (a || b) ≡ (v && (x || y))
or-means v a b x y e f = ap (λ t. t || b) e ∙ ap (λ t. (v && x) || t) f ∙ by v x y
  where
    by : (v x y : Bool) → ((v && x) || (v && y)) ≡ (v && (x || y))
    by true x y = refl
    by false x y = refl

-- ---- a store of something earlier makes no later step needed

pub used-without : (k : ℕ) (s : StoreStep) (stores : List StoreStep) (steps : List StepTree) → is_result k s.source ≡ false
    → is_used k (s ∷ stores) steps ≡ is_used k stores steps
used-without k s stores steps e = ap (λ b. (b || list_any (λ (t : StoreStep). is_result k t.source) stores) || list_any (uses k) steps) e

pub not-result : (number k : ℕ) (o : Source) → IsBefore number o → number ≤ k → is_result k o ≡ false
not-result number k (source.File place) h l = refl
not-result number k (source.Result other) h l = by (other == k) refl
  where
    by : (b : Bool) → (other == k) ≡ b → b ≡ false
    by true e = absurd (omega (arith, eqb-true other k e, h, l))
    by false e = refl

pub needed-without : (number : ℕ) (s : StoreStep) (stores : List StoreStep) → IsBefore number s.source → (steps : List StepTree)
    → All (λ (s : StepTree). number ≤ s.statement) steps → needed_steps (s ∷ stores) steps ≡ needed_steps stores steps
needed-without number s stores h [] later = refl
needed-without number s stores h (t ∷ steps) later =
    let rest = needed-without number s stores h steps (All-tail (λ (s : StepTree). number ≤ s.statement) t steps later) in
    ap (λ others. cond (is_used t.statement (s ∷ stores) others) (t ∷ others) others) rest
    ∙ ap (λ b. cond b (t ∷ needed_steps stores steps) (needed_steps stores steps))
    (used-without t.statement s stores (needed_steps stores steps)
    (not-result number t.statement s.source h (All-head (λ (s : StepTree). number ≤ s.statement) t steps later)))

-- ---- what stands for a result

-- whether it is the result of statement k
abbrev is_of : ℕ → Option Meant → Bool
is_of k o = option_map_or (λ (m : Meant). is_result k m.source) o false

files-not : (k i : ℕ) (files : List File) → All (λ (p : Key × Meant). is_result k p.1.source ≡ false) (map file_meant (enumerate_from i files))
files-not k i [] = All-nil (λ (p : Key × Meant). is_result k p.1.source ≡ false)
files-not k i (f ∷ files) =
    All-cons (λ (p : Key × Meant). is_result k p.1.source ≡ false) (file_meant (i, f)) (map file_meant (enumerate_from (i + 1) files)) refl
    (files-not k (i + 1) files)

not-any : (k : ℕ) (o : Option Meant) → IfAny (λ m. is_result k m.source ≡ false) o → is_of k o ≡ false
not-any k None h = refl
not-any k (Some m) h = h

-- the result of statement k is what one name stands for, if v, or none; no key stands for it
pub record Seen (files : List File) (names : Names) (k : ℕ) (v : Bool) (n : Name) : Type 0 where
  pub named : (name : Name) → is_of k (assigned_to names name) ≡ (v && same_name name n)
  pub scanned : (key : Key) → is_of k (operand_of (files_meant files) names (operand.Scan key)) ≡ false

-- a load has the file's source
written-source : (k : ℕ) (o : Operand) (m : Option Meant) → is_of k (option_map (as_written o) m) ≡ is_of k m
written-source k o None = refl
written-source k (operand.Named name) (Some m) = refl
written-source k (operand.Scan key) (Some m) = refl
written-source k (operand.Load name schema skip) (Some m) = refl

module _ (files : List File) (names : Names) (k : ℕ) (v : Bool) (n : Name) (seen : Seen files names k v n) where
  load-not : (name : Name) → is_of k (option_map (λ (p : Key × Meant). p.1) (find (λ (p : Key × Meant). is_load_key name p.0) (files_meant files))) ≡ false
  load-not name =
      not-any k (option_map (λ (p : Key × Meant). p.1) (find (λ (p : Key × Meant). is_load_key name p.0) (files_meant files)))
      (meant-All (λ m. is_result k m.source ≡ false) (is_load_key name) (files_meant files) (files-not k 0 files))

  known-seen : (o : Operand) → is_of k (operand_of (files_meant files) names o) ≡ (v && is_name n o)
  known-seen (operand.Named name) = seen.named name
  known-seen (operand.Scan key) = seen.scanned key ∙ and-false v
  known-seen (operand.Load name schema skip) = load-not name ∙ and-false v

  operand-seen : (o : Operand) → is_of k (meant files names o) ≡ (v && is_name n o)
  operand-seen o = written-source k o (operand_of (files_meant files) names o) ∙ known-seen o

  items-seen : (items : List FromItem)
      → IfAny (λ (given : List MeantItem). list_any (is_result k) (resolving.sources_of given) ≡ (v && list_any (is_name n) (map (λ (item : FromItem). item.source) items)))
      (each_or_none (item_meant files names) items)
  items-seen [] = and-false v
  items-seen (item ∷ items) = by (meant files names item.source) (each_or_none (item_meant files names) items) (operand-seen item.source) (items-seen items)
    where
      by : (o : Option Meant) (rest : Option (List MeantItem)) → is_of k o ≡ (v && is_name n item.source)
          → IfAny (λ (given : List MeantItem). list_any (is_result k) (resolving.sources_of given) ≡ (v && list_any (is_name n) (map (λ (item : FromItem). item.source) items))) rest
          → IfAny (λ (given : List MeantItem). list_any (is_result k) (resolving.sources_of given) ≡ (v && list_any (is_name n) (map (λ (item : FromItem). item.source) (item ∷ items))))
          (put_before (option_map (λ m. let i : MeantItem = record { alias = item.alias; meant = m } in i) o) rest)
      by None rest e h = tt
      by (Some m) None e h = tt
      by (Some m) (Some given) e h =
          or-means v (is_result k m.source) (list_any (is_result k) (resolving.sources_of given)) (is_name n item.source)
          (list_any (is_name n) (map (λ (item : FromItem). item.source) items)) e h

  join-sources : (kinds : List (List ColType)) (sources : List Source) (c : Comprehension) → sources_of (join_term kinds sources c) ≡ sources
  join-sources kinds sources c = by (has_aggregate c.aggregates)
    where
      by : (b : Bool) → sources_of (cond b (Group (shape_of kinds c) sources c.aggregates) (Join (shape_of kinds c) sources)) ≡ sources
      by true = refl
      by false = refl

  one-seen : (f : Source → TermTree) → ((o : Source) → sources_of (f o) ≡ o ∷ []) → (o : Operand)
      → IfAny (λ (t : Typed). list_any (is_result k) (sources_of t.term) ≡ (v && list_any (is_name n) (o ∷ []))) (of_one f (meant files names o))
  one-seen f h o = by (meant files names o) (operand-seen o)
    where
      by : (m : Option Meant) → is_of k m ≡ (v && is_name n o)
          → IfAny (λ (t : Typed). list_any (is_result k) (sources_of t.term) ≡ (v && list_any (is_name n) (o ∷ []))) (of_one f m)
      by None e = tt
      by (Some m) e = ap (list_any (is_result k)) (h m.source) ∙ or-means v (is_result k m.source) false (is_name n o) false e (and-false v)

  two-seen : (f : Source → Source → TermTree) → ((o p : Source) → sources_of (f o p) ≡ o ∷ p ∷ []) → (o p : Operand)
      → IfAny (λ (t : Typed). list_any (is_result k) (sources_of t.term) ≡ (v && list_any (is_name n) (o ∷ p ∷ []))) (of_two f (meant files names o) (meant files names p))
  two-seen f h o p = by (meant files names o) (meant files names p) (operand-seen o) (operand-seen p)
    where
      by : (a b : Option Meant) → is_of k a ≡ (v && is_name n o) → is_of k b ≡ (v && is_name n p)
          → IfAny (λ (t : Typed). list_any (is_result k) (sources_of t.term) ≡ (v && list_any (is_name n) (o ∷ p ∷ []))) (of_two f a b)
      by None b e g = tt
      by (Some a) None e g = tt
      by (Some a) (Some b) e g =
          ap (list_any (is_result k)) (h a.source b.source)
          ∙ or-means v (is_result k a.source) (is_result k b.source || false) (is_name n o) (is_name n p || false) e
          (or-means v (is_result k b.source) false (is_name n p) false g (and-false v))

  -- a term has the result as a source exactly where its relation expression mentions the name
  term-seen : (r : RelTree) → IfAny (λ (t : Typed). list_any (is_result k) (sources_of t.term) ≡ (v && mentions n r)) (term_of files names r)
  term-seen (tree.Copy o) = one-seen Same (λ s. refl) o
  term-seen (tree.Empty schema) = and-false v
  term-seen (tree.Distinct o) = one-seen Distinct (λ s. refl) o
  term-seen (tree.UnionAll o p) = two-seen UnionAll (λ s t. refl) o p
  term-seen (tree.Diff o p) = two-seen Diff (λ s t. refl) o p
  term-seen (tree.From items condition emits) = by (each_or_none (item_meant files names) items) (items-seen items)
    where
      found : (given : List MeantItem) → list_any (is_result k) (resolving.sources_of given) ≡ (v && list_any (is_name n) (map (λ (item : FromItem). item.source) items))
          → (o : Option Resolved) → IfAny (λ (t : Typed). list_any (is_result k) (sources_of t.term) ≡ (v && list_any (is_name n) (map (λ (item : FromItem). item.source) items)))
          (option_map (λ (b : Resolved). let t : Typed = record { term = join_term (kinds_of_items given) (resolving.sources_of given) b.comprehension; schema = b.schema } in t) o)
      found given h None = tt
      found given h (Some b) = ap (list_any (is_result k)) (join-sources (kinds_of_items given) (resolving.sources_of given) b.comprehension) ∙ h

      by : (o : Option (List MeantItem))
          → IfAny (λ (given : List MeantItem). list_any (is_result k) (resolving.sources_of given) ≡ (v && list_any (is_name n) (map (λ (item : FromItem). item.source) items))) o
          → IfAny (λ (t : Typed). list_any (is_result k) (sources_of t.term) ≡ (v && list_any (is_name n) (map (λ (item : FromItem). item.source) items)))
          (option_and_then (λ given. comprehension_term given condition emits) o)
      by None h = tt
      by (Some given) h = found given h (resolved (scope_of (schemas_of given)) condition emits)

-- ---- names that stand for earlier results alone

pub record AllBefore (number : ℕ) (names : Names) : Type 0 where
  pub assigned : All (λ (p : Name × Meant). IsBefore number p.1.source) names.assigned
  pub stored : All (λ (p : Key × Meant). IsBefore number p.1.source) names.stored

module _ (files : List File) (names : Names) (number : ℕ) (before : AllBefore number names) where
  name-not : (name : Name) → is_of number (assigned_to names name) ≡ false
  name-not name =
      not-any number (assigned_to names name)
      (meant-All (λ m. is_result number m.source ≡ false) (λ n. same_name n name) names.assigned
      (All-weaker (λ (p : Name × Meant). IsBefore number p.1.source) (λ (p : Name × Meant). is_result number p.1.source ≡ false)
      (λ p h. not-result number number p.1.source h (omega arith)) names.assigned before.assigned))

  key-not : (key : Key) → is_of number (operand_of (files_meant files) names (operand.Scan key)) ≡ false
  key-not key =
      not-any number (operand_of (files_meant files) names (operand.Scan key))
      (meant-All (λ m. is_result number m.source ≡ false) (λ other. same_key other key) (names.stored ++ files_meant files)
      (All-append (λ (p : Key × Meant). is_result number p.1.source ≡ false) names.stored (files_meant files)
      (All-weaker (λ (p : Key × Meant). IsBefore number p.1.source) (λ (p : Key × Meant). is_result number p.1.source ≡ false)
      (λ p h. not-result number number p.1.source h (omega arith)) names.stored before.stored)
      (files-not number 0 files)))

  pub later-before : AllBefore (number + 1) names
  later-before = record {
    assigned = All-weaker (λ (p : Name × Meant). IsBefore number p.1.source) (λ (p : Name × Meant). IsBefore (number + 1) p.1.source) (λ p g. weaker number p.1.source g) names.assigned before.assigned;
    stored = All-weaker (λ (p : Key × Meant). IsBefore number p.1.source) (λ (p : Key × Meant). IsBefore (number + 1) p.1.source) (λ p g. weaker number p.1.source g) names.stored before.stored;
  }

  pub assigned-before : (name : Name) (t : Typed) → AllBefore (number + 1) (with_result number names name t)
  assigned-before name t =
      let m : Meant = record { source = source.Result number; schema = t.schema } in
      record {
        assigned = All-cons (λ (p : Name × Meant). IsBefore (number + 1) p.1.source) (name, m) names.assigned (omega arith) later-before.assigned;
        stored = later-before.stored;
      }

  pub stored-before : (key : Key) (m : Meant) → IsBefore number m.source → AllBefore (number + 1) (with_key names key m)
  stored-before key m h = record {
    assigned = later-before.assigned;
    stored = All-cons (λ (p : Key × Meant). IsBefore (number + 1) p.1.source) (key, m) names.stored (weaker number m.source h) later-before.stored;
  }

-- what a name stands for once another one, or it, was assigned
newly : (names : Names) (name x : Name) (m : Meant) (k : ℕ)
    → is_of k (assigned_to (with_name names name m) x) ≡ cond (same_name name x) (is_result k m.source) (is_of k (assigned_to names x))
newly names name x m k = by (same_name name x)
  where
    by : (b : Bool) → is_of k (option_map (λ (p : Name × Meant). p.1) (cond b (Some (name, m)) (find (λ p. same_name p.0 x) names.assigned)))
        ≡ cond b (is_result k m.source) (is_of k (assigned_to names x))
    by true = refl
    by false = refl

-- an earlier result, once a name is assigned: hidden where it is that name's
still-seen : (files : List File) (names : Names) (number k : ℕ) (v : Bool) (n name : Name) (t : Typed) → k < number → Seen files names k v n
    → Seen files (with_result number names name t) k (v && not (same_name name n)) n
still-seen files names number k v n name t l seen = record {
  named = λ x. newly names name x (record { source = source.Result number; schema = t.schema }) k ∙ by x (same_name name x) refl (number == k) refl;
  scanned = seen.scanned;
}
  where
    none : (b : Bool) → false ≡ (b && false)
    none true = refl
    none false = refl

    hidden : (x : Name) (s : Bool) → same_name name x ≡ true → same_name x n ≡ s → false ≡ ((v && not (same_name name n)) && s)
    hidden x true e f =
        let one : same_name name n ≡ true = ap (λ y. same_name y n) (same_name-equal name x e) ∙ f in
        sym (flat v) ∙ ap (λ b. (v && not b) && true) (sym one)
      where
        flat : (v : Bool) → ((v && not true) && true) ≡ false
        flat true = refl
        flat false = refl
    hidden x false e f = none (v && not (same_name name n))

    other : (x : Name) (s : Bool) → same_name name x ≡ false → same_name x n ≡ s → (v && s) ≡ ((v && not (same_name name n)) && s)
    other x true e f =
        let one : same_name name n ≡ false = ap (λ y. same_name name y) (sym (same_name-equal x n f)) ∙ e in
        flat v ∙ ap (λ b. (v && not b) && true) (sym one)
      where
        flat : (v : Bool) → (v && true) ≡ ((v && not false) && true)
        flat true = refl
        flat false = refl
    other x false e f = sym (none v) ∙ none (v && not (same_name name n))

    by : (x : Name) (b : Bool) → same_name name x ≡ b → (same : Bool) → (number == k) ≡ same
        → cond b same (is_of k (assigned_to names x)) ≡ ((v && not (same_name name n)) && same_name x n)
    by x true e true f = absurd (omega (arith, eqb-true number k f, l))
    by x true e false f = hidden x (same_name x n) e refl
    by x false e same f = seen.named x ∙ other x (same_name x n) e refl

-- the newest result is what its name stands for
pub newly-seen : (files : List File) (names : Names) (number : ℕ) (name : Name) (t : Typed) → AllBefore number names
    → Seen files (with_result number names name t) number true name
newly-seen files names number name t before = record {
  named = λ x. newly names name x (record { source = source.Result number; schema = t.schema }) number ∙ by x (same_name name x) refl;
  scanned = key-not files names number before;
}
  where
    itself : (n : ℕ) → (n == n) ≡ true
    itself n = grind (arith, nat_tests)

    by : (x : Name) (b : Bool) → same_name name x ≡ b → cond b (number == number) (is_of number (assigned_to names x)) ≡ (true && same_name x name)
    by x true e = itself number ∙ sym e ∙ nat_list_eq_equiv.symm name x
    by x false e = name-not files names number before x ∙ sym e ∙ nat_list_eq_equiv.symm name x

-- a store of something else leaves what is seen
stored-seen : (files : List File) (names : Names) (k : ℕ) (v : Bool) (n : Name) (key : Key) (m : Meant) → is_result k m.source ≡ false
    → Seen files names k v n → Seen files (with_key names key m) k v n
stored-seen files names k v n key m e seen = record {
  named = seen.named;
  scanned = λ other. by other (same_key key other);
}
  where
    by : (other : Key) (b : Bool)
        → is_of k (option_map (λ (p : Key × Meant). p.1) (cond b (Some (key, m)) (find (λ p. same_key p.0 other) (names.stored ++ files_meant files)))) ≡ false
    by other true = e
    by other false = seen.scanned other

-- ---- a result is used exactly where its name is live

-- a step more: used by it, where it is needed itself, or by the others
step-used : (k : ℕ) (s : StepTree) (stores : List StoreStep) (others : List StepTree) (u : Bool)
    → is_used k stores (cond u (s ∷ others) others) ≡ ((u && uses k s) || is_used k stores others)
step-used k s stores others true = by (list_any (λ (t : StoreStep). is_result k t.source) stores) (uses k s) (list_any (uses k) others)
  where
    by : (a b c : Bool) → (a || (b || c)) ≡ (b || (a || c))
    by true true c = refl
    by true false c = refl
    by false b c = refl
step-used k s stores others false = refl

live-step : (v same mentioned live_new live : Bool)
    → ((live_new && (v && mentioned)) || ((v && not same) && live)) ≡ (v && ((mentioned && live_new) || (not same && live)))
live-step true same true true live = refl
live-step true same true false live = refl
live-step true same false true live = refl
live-step true same false false live = refl
live-step false same mentioned true live = refl
live-step false same mentioned false live = refl

stored-live : (v s live : Bool) → true ≡ (v && s) → true ≡ (v && (s || live))
stored-live true true live e = refl
stored-live true false live e = cc
stored-live false s live e = cc

unstored-live : (v s live : Bool) → false ≡ (v && s) → (v && live) ≡ (v && (s || live))
unstored-live true true live e = cc
unstored-live true false live e = refl
unstored-live false s live e = refl

pub used-live : (files : List File) (number : ℕ) (names : Names) (script : List StatementTree) (c : CheckedTree) → Follows files number names script c
    → (k : ℕ) (v : Bool) (n : Name) → k < number → AllBefore number names → Seen files names k v n
    → is_used k c.stores (needed_steps c.stores c.steps) ≡ (v && is_live n script)
used-live files _ _ _ _ (at_end number names) k v n l before seen = and-false v
used-live files _ _ _ _ (a_nothing number names rest c f) k v n l before seen =
    used-live files (number + 1) names rest c f k v n (omega (arith, l)) (later-before files names number before) seen
used-live files _ _ _ _ (an_assignment number names name r rest t c typed fit e f) k v n l before seen =
    let s = step_of number t in
    let next = assigned-before files names number before name t in
    let own = used-live files (number + 1) (with_result number names name t) rest c f number true name (omega arith) next (newly-seen files names number name t before) in
    let old = used-live files (number + 1) (with_result number names name t) rest c f k (v && not (same_name name n)) n (omega (arith, l)) next
    (still-seen files names number k v n name t l seen) in
    let mentioned : list_any (is_result k) (sources_of t.term) ≡ (v && mentions n r) =
    subst (IfAny (λ (t : Typed). list_any (is_result k) (sources_of t.term) ≡ (v && mentions n r))) e (term-seen files names k v n seen r) in
    step-used k s c.stores (needed_steps c.stores c.steps) (is_used number c.stores (needed_steps c.stores c.steps))
    ∙ ap (λ b. (b && uses k s) || is_used k c.stores (needed_steps c.stores c.steps)) own
    ∙ ap (λ b. (is_live name rest && b) || is_used k c.stores (needed_steps c.stores c.steps)) mentioned
    ∙ ap (λ b. (is_live name rest && (v && mentions n r)) || b) old
    ∙ live-step v (same_name name n) (mentions n r) (is_live name rest) (is_live n rest)
used-live files _ _ _ _ (a_store number names name key rest m c e f) k v n l before seen =
    by (is_result k m.source) refl
    (λ apart. used-live files (number + 1) (with_key names key m) rest c f k v n (omega (arith, l)) (stored-before files names number before key m early)
    (stored-seen files names k v n key m apart seen))
  where
    early : IsBefore number m.source
    early =
        subst (IfAny (λ (m : Meant). IsBefore number m.source)) e (meant-All (λ m. IsBefore number m.source) (λ x. same_name x name) names.assigned before.assigned)

    here : is_result k m.source ≡ (v && same_name name n)
    here = sym (ap (is_of k) e) ∙ seen.named name

    by : (b : Bool) → is_result k m.source ≡ b
        → (is_result k m.source ≡ false → is_used k c.stores (needed_steps c.stores c.steps) ≡ (v && is_live n rest))
        → is_used k (store_of number key m ∷ c.stores) (needed_steps (store_of number key m ∷ c.stores) c.steps) ≡ (v && (same_name name n || is_live n rest))
    by true g old =
        ap (λ x. (x || list_any (λ (t : StoreStep). is_result k t.source) c.stores) || list_any (uses k) (needed_steps (store_of number key m ∷ c.stores) c.steps)) g
        ∙ stored-live v (same_name name n) (is_live n rest) (sym g ∙ here)
    by false g old =
        ap (is_used k (store_of number key m ∷ c.stores))
        (needed-without (number + 1) (store_of number key m) c.stores (weaker number m.source early) c.steps (later-steps files (number + 1) (with_key names key m) rest c f))
        ∙ used-without k (store_of number key m) c.stores (needed_steps c.stores c.steps) g
        ∙ old g ∙ unstored-live v (same_name name n) (is_live n rest) (sym g ∙ here)
