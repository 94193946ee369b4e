-- What a loop over the steps of a rewritten script knows of each.
use Rattle.std.proofs.Common.{◌≡◌, ℕ, zero, suc, ◌<◌, ◌≤◌, ◌==◌, Bool, true, false, cond, List, [], ◌∷◌, ◌++◌, length, drop, get_or, refl, sym, ◌∙◌, ap, subst, arith, Some, inl, inr}
use Rattle.std.specs.Prelude.{All, Contains, IsTrue, ⊤, find, take}
use Rattle.std.proofs.lemmas.Bool.{eq-eqb, eqb-true}
use Rattle.std.proofs.lemmas.List.Elements.{All-nil, All-cons, All-weaker, Contains-get_or}
use Rattle.rel_base.specs.Keys.{File}
use Rattle.algebra.specs.declared.terms.Source.{Source}
use Rattle.algebra.specs.declared.terms.Source.TheVariants as source
use Rattle.algebra.specs.declared.terms.StoreStep.{StoreStep}
use Rattle.algebra.specs.Trees.{TermTree, Same, Empty, UnionAll, Diff, Distinct, Join, Group, StepTree, CheckedTree}
use Rattle.algebra.specs.Conditions.{is_of}
use Rattle.algebra.specs.Meanings.{sources_of, is_used, needed_steps}
use Rattle.algebra.specs.Rewriting.{IsSameTerm, IsSameStep, AreSameSteps, no_step, a_step}
use Rattle.algebra.proofs.MemberLemmas.{first_or_behind, nothing_in_none}
use Rattle.algebra.proofs.NeededLemmas.{needed-among}
use Rattle.run_laws.specs.Values.{IsKnown}
use Rattle.run_laws.specs.Rewritten.{needed, numbers_of, StepsByPlace, NumbersRise, RewrittenAreKept}
use Rattle.run_laws.proofs.MeantLemmas.{AreInOrder, checked-order}
use Rattle.run_laws.proofs.NeededLemmas.{needed_are_over_needed, stores_are_over_needed}

-- ---- numbers rise

abbrev AreRising : ℕ → List StepTree → Type 0
AreRising last [] = ⊤
AreRising last (s ∷ rest) = (last < s.statement) × AreRising s.statement rest

order-rises : (steps : List StepTree) (last : ℕ) → AreInOrder last steps → AreRising last steps
order-rises [] last order = tt
order-rises (s ∷ rest) last order = (order.0, order-rises rest s.statement order.2)

rising-from : (steps : List StepTree) (last low : ℕ) → low ≤ last → AreRising last steps → AreRising low steps
rising-from [] last low l rising = tt
rising-from (s ∷ rest) last low l rising = (omega (arith, l, rising.0), rising.1)

rising-at : (steps : List StepTree) (last : ℕ) → AreRising last steps → (i : ℕ) (a : StepTree) → i < length steps
    → last < (get_or steps i a).statement
rising-at [] last rising i a l = absurd (omega arith)
rising-at (s ∷ rest) last rising zero a l = rising.0
rising-at (s ∷ rest) last rising (suc i) a l = omega (arith, rising.0, rising-at rest s.statement rising.1 i a (omega arith))

rising-pair : (steps : List StepTree) (last : ℕ) → AreRising last steps → (i j : ℕ) (a b : StepTree) → i < j → j < length steps
    → (get_or steps i a).statement < (get_or steps j b).statement
rising-pair [] last rising i j a b k l = absurd (omega arith)
rising-pair (s ∷ rest) last rising i zero a b k l = absurd (omega arith)
rising-pair (s ∷ rest) last rising zero (suc j) a b k l = rising-at rest s.statement rising.1 j b (omega arith)
rising-pair (s ∷ rest) last rising (suc i) (suc j) a b k l =
    rising-pair rest s.statement rising.1 i j a b (omega arith) (omega arith)

-- those before a place have lower numbers
before-lower : (steps : List StepTree) (last : ℕ) → AreRising last steps → (i : ℕ) (a : StepTree) → i < length steps
    → All (λ (s : StepTree). s.statement < (get_or steps i a).statement) (take i steps)
before-lower [] last rising i a l = absurd (omega arith)
before-lower (s ∷ rest) last rising zero a l = All-nil (λ (t : StepTree). t.statement < s.statement)
before-lower (s ∷ rest) last rising (suc i) a l =
    All-cons (λ (t : StepTree). t.statement < (get_or rest i a).statement) s (take i rest)
    (rising-at rest s.statement rising.1 i a (omega arith)) (before-lower rest s.statement rising.1 i a (omega arith))

rising-has : (steps : List StepTree) (last : ℕ) (x : StepTree) → AreRising last steps → Contains steps x → last < x.statement
rising-has [] last x rising h = absurd (nothing_in_none x h)
rising-has (s ∷ rest) last x rising h = elim (first_or_behind s rest x h) [
  | inl same ↦ subst (λ (y : StepTree). last < y.statement) same rising.0
  | inr others ↦ omega (arith, rising.0, rising-has rest s.statement x rising.1 others)
]

-- a step is found by its number
found-own : (steps : List StepTree) (last : ℕ) (x : StepTree) → AreRising last steps → Contains steps x
    → find (λ (s : StepTree). s.statement == x.statement) steps ≡ Some x
found-own [] last x rising h = absurd (nothing_in_none x h)
found-own (s ∷ rest) last x rising h = elim (first_or_behind s rest x h) [
  | inl same ↦
      ap (λ b. cond b (Some s) (find (λ (t : StepTree). t.statement == x.statement) rest))
      (eq-eqb s.statement x.statement (ap (λ (y : StepTree). y.statement) same))
      ∙ ap Some same
  | inr others ↦ past (s.statement == x.statement) refl (rising-has rest s.statement x rising.1 others)
      (found-own rest s.statement x rising.1 others)
]
  where
    past : (b : Bool) → (s.statement == x.statement) ≡ b → s.statement < x.statement
        → find (λ (t : StepTree). t.statement == x.statement) rest ≡ Some x
        → cond b (Some s) (find (λ (t : StepTree). t.statement == x.statement) rest) ≡ Some x
    past true e l found = absurd (omega (arith, l, eqb-true s.statement x.statement e))
    past false e l found = found

-- ---- needed steps

module _ (stores : List StoreStep) where
  needed-rising : (steps : List StepTree) (last : ℕ) → AreRising last steps → AreRising last (needed_steps stores steps)
  needed-rising [] last rising = tt
  needed-rising (s ∷ rest) last rising =
      by (is_used s.statement stores (needed_steps stores rest)) (needed-rising rest s.statement rising.1)
    where
      by : (b : Bool) → AreRising s.statement (needed_steps stores rest)
          → AreRising last (cond b (s ∷ needed_steps stores rest) (needed_steps stores rest))
      by true later = (rising.0, later)
      by false later = rising-from (needed_steps stores rest) s.statement last (omega (arith, rising.0)) later

  needed-few : (steps : List StepTree) → length (needed_steps stores steps) ≤ length steps
  needed-few [] = omega arith
  needed-few (s ∷ rest) = by (is_used s.statement stores (needed_steps stores rest)) (needed-few rest)
    where
      by : (t : Bool) → length (needed_steps stores rest) ≤ length rest
          → length (cond t (s ∷ needed_steps stores rest) (needed_steps stores rest)) ≤ length (s ∷ rest)
      by true few = omega (arith, few)
      by false few = omega (arith, few)

pub checked-rising : (files : List File) (c : CheckedTree) → IsTrue (is_of files c) → AreRising 0 c.steps
checked-rising files c h = order-rises c.steps 0 (checked-order files c h)

pub needed-own : (c : CheckedTree) (x : StepTree) → Contains (needed c) x → Contains c.steps x
needed-own c x h = needed-among c.stores c.steps x h

pub split-at : {X : Type 0} (xs : List X) (i : ℕ) (a : X) → i < length xs → xs ≡ take i xs ++ get_or xs i a ∷ drop (suc i) xs
split-at [] i a l = absurd (omega arith)
split-at (x ∷ xs) zero a l = refl
split-at (x ∷ xs) (suc i) a l = ap (λ ys. x ∷ ys) (split-at xs i a (omega arith))

-- those before a place have lower numbers
pub needed-lower : (files : List File) (c : CheckedTree) → IsTrue (is_of files c) → (i : ℕ) (a : StepTree) → i < length (needed c)
    → All (λ (s : StepTree). s.statement < (get_or (needed c) i a).statement) (take i (needed c))
needed-lower files c h i a l = before-lower (needed c) 0 (needed-rising c.stores c.steps 0 (checked-rising files c h)) i a l

pub numbers_rise : NumbersRise
numbers_rise files c h i j a b k l =
    rising-pair (needed c) 0 (needed-rising c.stores c.steps 0 (checked-rising files c h)) i j a b k l

-- ---- the same steps

sources-same : (s t : TermTree) → IsSameTerm s t → sources_of s ≡ sources_of t
sources-same (Join s sources) (Join t others) h = h.1
sources-same (Join s sources) (Same o) h = ap sources_of h
sources-same (Join s sources) Empty h = ap sources_of h
sources-same (Join s sources) (UnionAll o q) h = ap sources_of h
sources-same (Join s sources) (Diff o q) h = ap sources_of h
sources-same (Join s sources) (Distinct o) h = ap sources_of h
sources-same (Join s sources) (Group t others own) h = ap sources_of h
sources-same (Group s sources kinds) (Group t others own) h = h.1
sources-same (Group s sources kinds) (Join t others) h = ap sources_of h
sources-same (Group s sources kinds) (Same o) h = ap sources_of h
sources-same (Group s sources kinds) Empty h = ap sources_of h
sources-same (Group s sources kinds) (UnionAll o q) h = ap sources_of h
sources-same (Group s sources kinds) (Diff o q) h = ap sources_of h
sources-same (Group s sources kinds) (Distinct o) h = ap sources_of h
sources-same (Same o) t h = ap sources_of h
sources-same Empty t h = ap sources_of h
sources-same (UnionAll o q) t h = ap sources_of h
sources-same (Diff o q) t h = ap sources_of h
sources-same (Distinct o) t h = ap sources_of h

same-many : (xs ys : List StepTree) → AreSameSteps xs ys → length ys ≡ length xs
same-many _ _ no_step = refl
same-many _ _ (a_step s t xs ys h rest) = ap suc (same-many xs ys rest)

same-numbers : (xs ys : List StepTree) → AreSameSteps xs ys → numbers_of ys ≡ numbers_of xs
same-numbers _ _ no_step = refl
same-numbers _ _ (a_step s t xs ys h rest) = λ i. sym h.statement i ∷ same-numbers xs ys rest i

same-at : (xs ys : List StepTree) → AreSameSteps xs ys → (i : ℕ) (a b : StepTree) → i < length ys
    → IsSameStep (get_or xs i a) (get_or ys i b)
same-at _ _ no_step i a b l = absurd (omega arith)
same-at _ _ (a_step s t xs ys h rest) zero a b l = h
same-at _ _ (a_step s t xs ys h rest) (suc i) a b l = same-at xs ys rest i a b (omega arith)

pub steps_by_place : StepsByPlace
steps_by_place files c d of_files rewritten i a b l =
    let within : i < length (needed c) = omega (arith, l, same-many (needed c) d.steps rewritten.steps) in
    let x = get_or (needed c) i a in
    let y = get_or d.steps i b in
    let same = same-at (needed c) d.steps rewritten.steps i a b l in
    let rising = checked-rising files c of_files in
    let own = needed-own c x (Contains-get_or (needed c) i a within) in
    record {
      same = same;
      own = own;
      found =
          subst (λ n. find (λ (s : StepTree). s.statement == n) c.steps ≡ Some x) same.statement (found-own c.steps 0 x rising own);
      sources = sources-same x.term y.term same.term;
      known =
          needed_are_over_needed files c of_files (take i (needed c)) x (drop (suc i) (needed c)) (split-at (needed c) i a within);
      later = needed-lower files c of_files i a within;
    }

known-by-numbers : (files : List File) (xs ys : List StepTree) → numbers_of xs ≡ numbers_of ys → (o : Source) → IsKnown files xs o
    → IsKnown files ys o
known-by-numbers files xs ys e (source.File place) h = h
known-by-numbers files xs ys e (source.Result number) h = subst (λ ns. Contains ns number) e h

pub rewritten_are_kept : RewrittenAreKept
rewritten_are_kept files c d of_files rewritten = record {
  many = many;
  few = omega (arith, many, needed-few c.stores c.steps);
  numbers = numbers;
  stores = sym rewritten.stores;
  known =
      subst (λ stores. All (λ (t : StoreStep). IsKnown files d.steps t.source) stores) rewritten.stores
      (All-weaker (λ (t : StoreStep). IsKnown files (needed c) t.source) (λ (t : StoreStep). IsKnown files d.steps t.source)
      (λ t k. known-by-numbers files (needed c) d.steps (sym numbers) t.source k) c.stores
      (stores_are_over_needed files c of_files));
}
  where
    many : length d.steps ≡ length (needed c)
    many = same-many (needed c) d.steps rewritten.steps

    numbers : numbers_of d.steps ≡ numbers_of (needed c)
    numbers = same-numbers (needed c) d.steps rewritten.steps
