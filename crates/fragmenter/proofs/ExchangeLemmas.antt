-- The stages of the steps that a run is done by end with its exchanges.
use Rattle.std.proofs.Common.{◌≡◌, ◌∙◌, ℕ, zero, suc, ◌+◌, ◌-◌, ◌≤◌, cond, List, [], ◌∷◌, ◌++◌, map, length, Option, Some, None, refl, sym, ap, ap₂, arith}
use Rattle.std.specs.List.{enumerate_from, flat_map, list_all, range_with_len}
use Rattle.std.specs.Option.{option_to_list}
use Rattle.std.proofs.lemmas.Bool.{ne_eqb}
use Rattle.std.proofs.lemmas.List.{length-map}
use Rattle.std.proofs.lemmas.List.Concat.{flat_map-append}
use Rattle.algebra.specs.declared.notes.Exchange.{Exchange}
use Rattle.algebra.specs.declared.notes.Exchange.TheVariants as exchange
use Rattle.algebra.specs.declared.settings.Settings.{Settings}
use Rattle.algebra.specs.declared.settings.ShuffleKind.{ShuffleKind}
use Rattle.algebra.specs.declared.settings.ShuffleKind.TheVariants as shuffle_kind
use Rattle.algebra.specs.declared.terms.Source.{Source}
use Rattle.algebra.specs.Trees.{AtomTree, Shape, TermTree, Same, Empty, UnionAll, Diff, Distinct, Join, Group, StepTree}
use Rattle.algebra.specs.Conditions.{are_steps, is_store}
use Rattle.algebra.specs.Meanings.{needed_steps}
use Rattle.algebra.specs.Rewriting.{AreSameSteps, no_step, a_step, IsPushed, IsSameTerm}
use Rattle.algebra.proofs.ShapeLemmas.{both}
use Rattle.placement.specs.Exchanges.{PlacedExchange, join_exchanges, term_exchanges}
use Rattle.placement.specs.Layouts.{PlacedRelation, Placing, joined_items, placed_source, placed_steps}
use Rattle.placement.specs.Plans.{placing_by, ruled_shuffle, usual_rule, usual_rules}
use Rattle.placement.proofs.JoinedLemmas.{joined_are_joined}
use Rattle.fragmenter.specs.Laws.{exchange_at, StagesAreExchanges}
use Rattle.fragmenter.specs.Stages.{join_ends, shuffles, stages_at, term_ends}
use Rattle.fragmenter.proofs.NotedLemmas.{IsSizedJoin, IsSized, AreSized, sized_steps, needed_sized}

-- ---- what ends stand for

-- the exchanges among ends
abbrev ended : List (Option Exchange) → List Exchange
ended ends = flat_map option_to_list ends

all-ended : (exchanges : List Exchange) → ended (map Some exchanges) ≡ exchanges
all-ended [] = refl
all-ended (e ∷ exchanges) = ap (λ rest. e ∷ rest) (all-ended exchanges)

abbrev numbered : ℕ → Exchange → ℕ × Exchange
numbered k e = (k, e)

staged : (k place : ℕ) (ends : List (Option Exchange)) → flat_map exchange_at (stages_at k place ends) ≡ map (numbered k) (ended ends)
staged k place [] = refl
staged k place (None ∷ ends) = staged k place ends
staged k place (Some e ∷ ends) = ap (λ rest. (k, e) ∷ rest) (staged k place ends)

-- of several items each stage ends with an exchange
several-ended : (kind : ShuffleKind) (n : ℕ) → 2 ≤ n → ended (join_ends kind n) ≡ shuffles kind n
several-ended kind n many =
    ap (λ b. ended (cond b (None ∷ []) (map Some (shuffles kind n)))) (ne_eqb n 1 (λ e. omega (arith, e, many))) ∙ all-ended (shuffles kind n)

-- the steps of a join two at a time are numbered from 2
steps-numbered : (a b m : ℕ) → suc a ≡ b → map (λ i. exchange.Rs (suc i)) (range_with_len a m) ≡ map exchange.Rs (range_with_len b m)
steps-numbered a b zero e = refl
steps-numbered a b (suc m) e =
    ap₂ (λ i (rest : List Exchange). exchange.Rs i ∷ rest) e (steps-numbered (a + 1) (b + 1) m (omega (arith, e)))

map-twice : {X Y Z : Type 0} (f : Y → Z) (g : X → Y) (xs : List X) → map f (map g xs) ≡ map (λ x. f (g x)) xs
map-twice f g [] = refl
map-twice f g (x ∷ xs) = ap (λ rest. f (g x) ∷ rest) (map-twice f g xs)

-- ---- one term

module _ (s : Settings) where
  -- by the usual rule of a kind
  abbrev placing : ShuffleKind → Placing
  placing kind = record {
    workers = s.workers;
    seed = s.seed;
    reduce = s.reduce;
    shuffle = λ number. ruled_shuffle (usual_rule kind) s.workers;
  }

  abbrev kind_of : PlacedExchange → Exchange
  kind_of e = e.kind

  join-ends : (kind : ShuffleKind) (number : ℕ) (shape : Shape) (given : List PlacedRelation) → 1 ≤ length given
      → map kind_of (join_exchanges (placing kind) number shape given) ≡ ended (join_ends kind (length given))
  join-ends kind number shape [] some = absurd (omega (arith, some))
  join-ends kind number shape (one ∷ []) some = refl
  join-ends shuffle_kind.Hc number shape (one ∷ two ∷ given) some = sym (several-ended shuffle_kind.Hc (length (one ∷ two ∷ given)) (omega arith))
  join-ends shuffle_kind.Br number shape (one ∷ two ∷ given) some = sym (several-ended shuffle_kind.Br (length (one ∷ two ∷ given)) (omega arith))
  join-ends shuffle_kind.Rs number shape (one ∷ two ∷ given) some =
      let all = one ∷ two ∷ given in
      let long = (joined_are_joined s.workers s.reduce shape all).as_many in
      map-twice kind_of _ (range_with_len 1 (length (joined_items s.reduce shape all) - 1))
      ∙ ap (λ n. map (λ i. exchange.Rs (suc i)) (range_with_len 1 (n - 1))) long
      ∙ steps-numbered 1 2 (length all - 1) refl
      ∙ sym (several-ended shuffle_kind.Rs (length all) (omega arith))

  both-ends : (xs ys : List (Option Exchange)) → ended (xs ++ ys) ≡ ended xs ++ ended ys
  both-ends xs ys = flat_map-append option_to_list xs ys

  map-both : {X Y : Type 0} (f : X → Y) (xs ys : List X) → map f (xs ++ ys) ≡ map f xs ++ map f ys
  map-both f [] ys = refl
  map-both f (x ∷ xs) ys = ap (λ rest. f x ∷ rest) (map-both f xs ys)

  sized-ends : (kind : ShuffleKind) (number : ℕ) (shape : Shape) (sources : List Source) (value : Source → PlacedRelation)
      → IsSizedJoin shape sources
      → map kind_of (join_exchanges (placing kind) number shape (map value sources)) ≡ ended (join_ends kind (length shape.atoms))
  sized-ends kind number shape sources value sized =
      let long = length-map sources value ∙ sized.one_each in
      join-ends kind number shape (map value sources) (omega (arith, long, sized.some)) ∙ ap (λ n. ended (join_ends kind n)) long

  term-ends : (kind : ShuffleKind) (number : ℕ) (value : Source → PlacedRelation) (t : TermTree) → IsSized t
      → map kind_of (term_exchanges (placing kind) number value t) ≡ ended (term_ends kind t)
  term-ends kind number value (Same o) sized = refl
  term-ends kind number value Empty sized = refl
  term-ends kind number value (UnionAll o q) sized = refl
  term-ends kind number value (Diff o q) sized = refl
  term-ends kind number value (Distinct o) sized = refl
  term-ends kind number value (Join shape sources) sized = sized-ends kind number shape sources value sized
  term-ends kind number value (Group shape sources kinds) sized =
      map-both kind_of (join_exchanges (placing kind) number shape (map value sources)) _
      ∙ ap (λ own. own ++ exchange.Group ∷ []) (sized-ends kind number shape sources value sized)
      ∙ sym (both-ends (join_ends kind (length shape.atoms)) (Some exchange.Group ∷ []))

-- ---- steps, and what they are rewritten to

same-atoms : (s t : Shape) → IsPushed s t → length s.atoms ≡ length t.atoms
same-atoms s t pushed =
    sym (length-map s.atoms (λ (a : AtomTree). a.kinds)) ∙ ap length pushed.same.kinds ∙ length-map t.atoms (λ (a : AtomTree). a.kinds)

same-ends : (kind : ShuffleKind) (s t : TermTree) → IsSameTerm s t → term_ends kind s ≡ term_ends kind t
same-ends kind (Join s sources) (Join t others) same = ap (join_ends kind) (same-atoms s t same.0)
same-ends kind (Group s sources kinds) (Group t others own) same =
    ap (λ n. join_ends kind n ++ Some exchange.Group ∷ []) (same-atoms s t same.0)
same-ends kind s t same = ap (term_ends kind) same

abbrev of_step : Settings → (Source → PlacedRelation) → StepTree → List (ℕ × PlacedExchange)
of_step s value step =
    map (λ e. (step.statement, e)) (term_exchanges (placing_by s (usual_rules s)) step.statement value step.term)

abbrev told : ℕ × PlacedExchange → ℕ × Exchange
told e = (e.0, e.1.kind)

one-step : (s : Settings) (value : Source → PlacedRelation) (x y : StepTree) (place : ℕ) → IsSized x.term → x.statement ≡ y.statement
    → IsSameTerm x.term y.term
    → flat_map exchange_at (stages_at y.statement place (term_ends s.shuffle y.term)) ≡ map told (of_step s value x)
one-step s value x y place sized number same =
    staged y.statement place (term_ends s.shuffle y.term)
    ∙ (λ i. map (numbered (sym number i)) (ended (sym (same-ends s.shuffle x.term y.term same) i)))
    ∙ ap (map (numbered x.statement)) (sym (term-ends s s.shuffle x.statement value x.term sized))
    ∙ map-twice (numbered x.statement) (λ (e : PlacedExchange). e.kind) (term_exchanges (placing_by s (usual_rules s)) x.statement value x.term)
    ∙ sym (map-twice told (λ e. (x.statement, e)) (term_exchanges (placing_by s (usual_rules s)) x.statement value x.term))

flat-map-both : {X Y : Type 0} (f : X → List Y) (xs ys : List X) → flat_map f (xs ++ ys) ≡ flat_map f xs ++ flat_map f ys
flat-map-both f xs ys = flat_map-append f xs ys

steps-end : (s : Settings) (value : Source → PlacedRelation) (n : ℕ) (steps others : List StepTree) → AreSized steps → AreSameSteps steps others
    → flat_map exchange_at (flat_map (λ (e : ℕ × StepTree). stages_at e.1.statement e.0 (term_ends s.shuffle e.1.term)) (enumerate_from n others))
    ≡ map told (flat_map (of_step s value) steps)
steps-end s value n _ _ sized no_step = refl
steps-end s value n _ _ sized (a_step x y steps others same more) =
    let rest = flat_map (λ (e : ℕ × StepTree). stages_at e.1.statement e.0 (term_ends s.shuffle e.1.term)) (enumerate_from (n + 1) others) in
    flat-map-both exchange_at (stages_at y.statement n (term_ends s.shuffle y.term)) rest
    ∙ ap₂ (λ (a b : List (ℕ × Exchange)). a ++ b) (one-step s value x y n sized.0 same.statement same.term)
    (steps-end s value (n + 1) steps others sized.1 more)
    ∙ sym (map-both s told (of_step s value x) (flat_map (of_step s value) steps))

pub stages_are_exchanges : StagesAreExchanges
stages_are_exchanges s files c d of_files rewritten =
    let p = placing_by s (usual_rules s) in
    let value = placed_source p files (placed_steps p files c.steps) in
    let sized = needed_sized c.stores c.steps (sized_steps files 0 [] c.steps (both (are_steps files 0 [] c.steps) (list_all (is_store files c.steps) c.stores) of_files).0) in
    steps-end s value 0 (needed_steps c.stores c.steps) d.steps sized rewritten.steps
