-- What is exported is read as the plan that it is, and fits.
use Rattle.std.proofs.Common.{◌≡◌, ◌∙◌, ℕ, zero, suc, ◌+◌, ◌*◌, ◌<◌, ◌≤◌, ◌==◌, ◌&&◌, Bool, true, false, cond, List, [], ◌∷◌, ◌++◌, length, length-append, All, Option, Some, None, option_map, refl, sym, ap, subst, arith}
use Rattle.std.specs.Prelude.{⊤}
use Rattle.std.specs.Option.{option_to_list}
use Rattle.std.proofs.lemmas.Bool.{eqb-true}
use Rattle.std.proofs.lemmas.List.{length-take}
use Rattle.std.proofs.lemmas.List.Elements.{All-nil, All-cons, All-head, All-tail, All-weaker, All-append}
use Rattle.rel_base.specs.Keys.{File}
use Rattle.rel_base.specs.Limits.{most_pieces, most_variables, most_workers}
use Rattle.myrial_ast.specs.Trees.{StatementTree}
use Rattle.algebra.specs.declared.notes.PlanNote.{PlanNote}
use Rattle.algebra.specs.declared.notes.PlanNote.TheVariants as note
use Rattle.algebra.specs.declared.terms.StoreStep.{StoreStep}
use Rattle.algebra.specs.Meanings.{is_used, needed_steps}
use Rattle.algebra.specs.Trees.{StepTree, CheckedTree}
use Rattle.myrial_types.specs.Resolving.{Names}
use Rattle.myrial_types.specs.Checking.{step_of, with_result}
use Rattle.myrial_types.specs.Laws.{StepsAreOfTheFiles}
use Rattle.myrial_meaning.specs.Environments.{nothing_yet, with_key}
use Rattle.myrial_types.proofs.FollowLemmas.{Follows, at_end, a_nothing, an_assignment, a_store, typed-follows}
use Rattle.share_chooser.specs.Load.{product, are_shares}
use Rattle.share_chooser.proofs.LoadLemmas.{product-cons, product_positive}
use Rattle.share_chooser.proofs.VectorLemmas.{vector-of-passed}
use Rattle.placement.specs.Layouts.{Shuffle, ByCells, ByKeys, Broadcast}
use Rattle.placement.specs.Plans.{placing_by, usual_rules, plan_of}
use Rattle.placement.proofs.RuleLemmas.{ruled_is_placing}
use Rattle.fragmenter.specs.Plans.{ChoiceTree, first_misfit, is_choice_for, is_shuffle_for, join_of, joins_of, variables_of}
use Rattle.fragmenter.specs.NotedPlans.{choice_noted, choices_behind, shares_behind, shuffle_noted, statement_behind}
use Rattle.fragmenter.specs.declared.plans.Misfit.TheVariants as unfit
use Rattle.fragmenter.proofs.NotedLemmas.{noted_plan_fits, same_joins}
use Rattle.plan_json.specs.PlanTexts.{written}
use Rattle.plan_json.proofs.ReadBackLemmas.{written_is_read}
use Rattle.plan_json.specs.Laws.{IsUpTo, IsShuffleWithin, IsChoiceWithin}
use Rattle.myria_top.specs.Exports.{export_of, ExportsAreRead}
use Rattle.myria_top.proofs.ReplayLemmas.{plan_step}

-- ---- shares

le_times : (x p : ℕ) → 1 ≤ x → p ≤ x * p
le_times zero p some = absurd (omega arith)
le_times (suc x) p some = omega arith

times_le : (x p : ℕ) → 1 ≤ p → x ≤ x * p
times_le zero p some = omega arith
times_le (suc x) p some = omega (arith, times_le x p some)

-- a share is at most the number of cells
shares-low : (shares : List ℕ) → All (λ share. 1 ≤ share) shares → All (λ share. share ≤ product shares) shares
shares-low [] h = All-nil (λ share. share ≤ product [])
shares-low (x ∷ shares) h =
    let first = All-head (λ share. 1 ≤ share) x shares h in
    let others = All-tail (λ share. 1 ≤ share) x shares h in
    let whole = product-cons x shares in
    All-cons (λ share. share ≤ product (x ∷ shares)) x shares (omega (arith, whole, times_le x (product shares) (product_positive shares others)))
    (All-weaker (λ share. share ≤ product shares) (λ share. share ≤ product (x ∷ shares))
    (λ share low. omega (arith, low, whole, le_times x (product shares) first)) shares (shares-low shares others))

shares-within : (variables workers : ℕ) (shares : List ℕ) → workers ≤ most_workers → length shares ≤ most_variables
    → are_shares variables workers shares ≡ true → IsShuffleWithin (ByCells shares)
shares-within variables workers shares few short passes =
    let vector = vector-of-passed variables workers shares passes in
    let low = shares-low shares vector.positive in
    (short, λ k d inside. (vector.positive k d inside, omega (arith, low k d inside, vector.cells, few)))

-- ---- what notes tell

-- no more shares than a join may have variables
abbrev HasFewShares : Shuffle → Type 0
HasFewShares (ByCells shares) = length shares ≤ most_variables
HasFewShares ByKeys = ⊤
HasFewShares Broadcast = ⊤

abbrev IsFew : ChoiceTree → Type 0
IsFew c = HasFewShares c.shuffle

few-noted : (n : ℕ) (shares : List ℕ) (x : PlanNote) → length shares ≤ most_variables → All IsFew (choice_noted n (shuffle_noted shares x))
few-noted n shares (note.Hc local cells num den) short =
    All-cons IsFew (record { statement = n; shuffle = ByCells shares }) [] short (All-nil IsFew)
few-noted n shares (note.Rs local) short = All-cons IsFew (record { statement = n; shuffle = ByKeys }) [] tt (All-nil IsFew)
few-noted n shares (note.Br local stays) short = All-cons IsFew (record { statement = n; shuffle = Broadcast }) [] tt (All-nil IsFew)
few-noted n shares _ short = All-nil IsFew

few-behind : (shares : List ℕ) (x : PlanNote) → length shares ≤ most_variables → length (shares_behind shares x) ≤ most_variables
few-behind shares (note.Statement number kind rows) short = omega arith
few-behind shares (note.Variable number places (Some share)) short = omega (arith, length-take most_variables (shares ++ share ∷ []))
few-behind shares _ short = short

all-few : (notes : List PlanNote) (n : ℕ) (shares : List ℕ) → length shares ≤ most_variables → All IsFew (choices_behind n shares notes)
all-few [] n shares short = All-nil IsFew
all-few (x ∷ notes) n shares short =
    All-append IsFew (choice_noted n (shuffle_noted shares x)) (choices_behind (statement_behind n x) (shares_behind shares x) notes)
    (few-noted n shares x short) (all-few notes (statement_behind n x) (shares_behind shares x) (few-behind shares x short))

-- ---- what fits

both-of : (a b : Bool) → (a && b) ≡ true → (a ≡ true) × (b ≡ true)
both-of true b h = (refl, h)
both-of false b h = absurd (cc)

shuffle-within : (variables workers : ℕ) (shuffle : Shuffle) → workers ≤ most_workers → HasFewShares shuffle
    → is_shuffle_for variables workers shuffle ≡ true → IsShuffleWithin shuffle
shuffle-within variables workers (ByCells shares) few short passes = shares-within variables workers shares few short passes
shuffle-within variables workers ByKeys few short passes = tt
shuffle-within variables workers Broadcast few short passes = tt

abbrev IsJoinWithin : ℕ × ℕ → Type 0
IsJoinWithin join = IsUpTo most_pieces join.0

-- where joins and choices match, each choice is within the limits, and there are as many
fit-within : (workers : ℕ) (joins : List (ℕ × ℕ)) (choices : List ChoiceTree) → workers ≤ most_workers → All IsJoinWithin joins
    → All IsFew choices → first_misfit workers joins choices ≡ None → All IsChoiceWithin choices × (length choices ≡ length joins)
fit-within workers [] [] few js cs none = (All-nil IsChoiceWithin, refl)
fit-within workers [] (c ∷ choices) few js cs none = absurd (cc)
fit-within workers (j ∷ joins) [] few js cs none = absurd (cc)
fit-within workers (j ∷ joins) (c ∷ choices) few js cs none =
    either (fit-within workers joins choices few (All-tail IsJoinWithin j joins js) (All-tail IsFew c choices cs)) (is_choice_for workers j c) refl none
  where
    either : (first_misfit workers joins choices ≡ None → All IsChoiceWithin choices × (length choices ≡ length joins))
        → (b : Bool) → is_choice_for workers j c ≡ b → cond b (first_misfit workers joins choices) (Some j.0) ≡ None
        → All IsChoiceWithin (c ∷ choices) × (length (c ∷ choices) ≡ length (j ∷ joins))
    either further true passes h =
        let parts = both-of (c.statement == j.0) (is_shuffle_for j.1 workers c.shuffle) passes in
        let number = eqb-true c.statement j.0 parts.0 in
        let own : IsChoiceWithin c = record {
          statement = subst (IsUpTo most_pieces) (sym number) (All-head IsJoinWithin j joins js);
          shuffle = shuffle-within j.1 workers c.shuffle few (All-head IsFew c choices cs) parts.1;
        } in
        let rest = further h in
        (All-cons IsChoiceWithin c choices own rest.0, ap suc rest.1)
    either further false fails h = absurd (cc)

-- ---- the joins of a typed script

abbrev IsNumbered : StepTree → Type 0
IsNumbered s = IsUpTo most_pieces s.statement

abbrev joined_at : ℕ → Option ℕ → List (ℕ × ℕ)
joined_at k variables = option_to_list (option_map (λ n. (k, n)) variables)

one-join : (k : ℕ) (variables : Option ℕ) → IsUpTo most_pieces k
    → All IsJoinWithin (joined_at k variables) × (length (joined_at k variables) ≤ 1)
one-join k None within = (All-nil IsJoinWithin, omega arith)
one-join k (Some n) within = (All-cons IsJoinWithin (k, n) [] within (All-nil IsJoinWithin), omega arith)

joins-within : (steps : List StepTree) → All IsNumbered steps → All IsJoinWithin (joins_of steps) × (length (joins_of steps) ≤ length steps)
joins-within [] h = (All-nil IsJoinWithin, omega arith)
joins-within (s ∷ steps) h =
    let own = one-join s.statement (variables_of s.term) (All-head IsNumbered s steps h) in
    let rest = joins-within steps (All-tail IsNumbered s steps h) in
    (All-append IsJoinWithin (join_of s) (joins_of steps) own.0 rest.0, omega (arith, length-append (join_of s) (joins_of steps), own.1, rest.1))

needed-within : (stores : List StoreStep) (steps : List StepTree) → All IsNumbered steps
    → All IsNumbered (needed_steps stores steps) × (length (needed_steps stores steps) ≤ length steps)
needed-within stores [] h = (All-nil IsNumbered, omega arith)
needed-within stores (s ∷ steps) h = either (is_used s.statement stores (needed_steps stores steps)) (needed-within stores steps (All-tail IsNumbered s steps h))
  where
    later : List StepTree
    later = needed_steps stores steps

    either : (b : Bool) → All IsNumbered (needed_steps stores steps) × (length (needed_steps stores steps) ≤ length steps)
        → All IsNumbered (cond b (s ∷ needed_steps stores steps) (needed_steps stores steps))
        × (length (cond b (s ∷ needed_steps stores steps) (needed_steps stores steps)) ≤ length (s ∷ steps))
    either true rest = (All-cons IsNumbered s (needed_steps stores steps) (All-head IsNumbered s steps h) rest.0, omega (arith, rest.1))
    either false rest = (rest.0, omega (arith, rest.1))

-- the steps of a script are no more than its statements, and have their numbers
follow-within : (files : List File) (number : ℕ) (names : Names) (script : List StatementTree) (c : CheckedTree) → Follows files number names script c
    → All (λ (s : StepTree). (number ≤ s.statement) × (s.statement < number + length script)) c.steps × (length c.steps ≤ length script)
follow-within files _ _ _ _ (at_end number names) = (All-nil (λ (s : StepTree). (number ≤ s.statement) × (s.statement < number + 0)), omega arith)
follow-within files _ _ _ _ (a_nothing number names rest c f) =
    let more = follow-within files (number + 1) names rest c f in (
      All-weaker (λ (s : StepTree). (number + 1 ≤ s.statement) × (s.statement < number + 1 + length rest))
          (λ (s : StepTree). (number ≤ s.statement) × (s.statement < number + suc (length rest)))
          (λ s l. (omega (arith, l.0), omega (arith, l.1))) c.steps more.0,
      omega (arith, more.1),
    )
follow-within files _ _ _ _ (an_assignment number names name r rest t c typed fit e f) =
    let more = follow-within files (number + 1) (with_result number names name t) rest c f in (
      All-cons (λ (s : StepTree). (number ≤ s.statement) × (s.statement < number + suc (length rest))) (step_of number t) c.steps (omega arith, omega arith)
          (All-weaker (λ (s : StepTree). (number + 1 ≤ s.statement) × (s.statement < number + 1 + length rest))
          (λ (s : StepTree). (number ≤ s.statement) × (s.statement < number + suc (length rest)))
          (λ s l. (omega (arith, l.0), omega (arith, l.1))) c.steps more.0),
      omega (arith, more.1),
    )
follow-within files _ _ _ _ (a_store number names name key rest m c e f) =
    let more = follow-within files (number + 1) (with_key names key m) rest c f in (
      All-weaker (λ (s : StepTree). (number + 1 ≤ s.statement) × (s.statement < number + 1 + length rest))
          (λ (s : StepTree). (number ≤ s.statement) × (s.statement < number + suc (length rest)))
          (λ s l. (omega (arith, l.0), omega (arith, l.1))) c.steps more.0,
      omega (arith, more.1),
    )

-- ---- the law

misfit-none : (b : Bool) (o : Option ℕ) → cond b (option_map unfit.Statement o) (Some unfit.Workers) ≡ None → o ≡ None
misfit-none true None h = refl
misfit-none true (Some n) h = absurd (cc)
misfit-none false o h = absurd (cc)

pub exports_are_read : StepsAreOfTheFiles → ExportsAreRead
exports_are_read formed r files script c d forms typed short rewritten =
    let s = r.settings in
    let p = placing_by s (usual_rules s) in
    let plan = export_of r files c in
    let needed = needed_steps c.stores c.steps in
    let follows = follow-within files 1 nothing_yet script c (typed-follows files script c forms typed) in
    let numbered : All IsNumbered c.steps =
    All-weaker (λ (x : StepTree). (1 ≤ x.statement) × (x.statement < 1 + length script)) IsNumbered (λ x l. (l.0, omega (arith, l.1, short))) c.steps follows.0 in
    let steps = needed-within c.stores c.steps numbered in
    let joins = joins-within needed steps.0 in
    let fits = noted_plan_fits p s.local files c d (ruled_is_placing s (usual_rules s) s.workers_in_range.0) (formed files script c forms typed) rewritten in
    let none : first_misfit s.workers (joins_of needed) plan.choices ≡ None =
    ap (λ js. first_misfit s.workers js plan.choices) (same_joins needed d.steps rewritten.steps)
    ∙ misfit-none (plan.workers == s.workers) (first_misfit s.workers (joins_of d.steps) plan.choices) fits in
    let within = fit-within s.workers (joins_of needed) plan.choices s.workers_in_range.1 joins.0 (all-few (plan_of p s.local files c) 0 [] (omega arith)) none in
    let read = written_is_read plan (record {
      workers = s.workers_in_range;
      count = omega (arith, within.1, joins.1, steps.1, follows.1, short);
      choices = within.0;
    }) in
    plan_step s.workers (joins_of d.steps) (written plan) plan read None fits
