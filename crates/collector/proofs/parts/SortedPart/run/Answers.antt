use Rattle.std.proofs.Common.{◌≡◌, ◌∙◌, ℕ, ◌-◌, List, take, drop, sym, ap, subst}
use Rattle.std.proofs.lemmas.List.{drop-map, take-map}
use Rattle.std.specs.Prelude.{IsSorted, slice_range}
use Rattle.std.specs.Borrow.{Bor}
use Rattle.rel_base.specs.declared.values.Value.{Value}
use Rattle.rel_base.specs.Values.{row_order}
use Rattle.collector.specs.inner.Sorted.{rows_at, rows_in}
use Rattle.collector.proofs.CutLemmas.{sorted-part}
use Rattle.collector.proofs.parts.SortedPart.run.Goals as goal
use Rattle.collector.proofs.parts.SortedPart.run.Goals.{After-deref, In-None}

-- the part is in order as it stands
standing : (c : In-None) → c.self.inside.part.now ≡ c.args.self.now
standing c = ap (rows_in c.self.inside.part.now) (sym c.in-None.is) ∙ c.self.view_is

-- the part is in order as it is listed
listed : (c : After-deref) → rows_at c.deref.result.now ≡ c.args.self.now
listed c =
    ap rows_at c.deref.ensures.value
    ∙ ap (rows_in c.self.inside.part.now) (sym c.in-Some.is) ∙ c.self.view_is

-- references to rows that stand side by side
side_by_side : (rows : List (Bor (List Value))) (from to : ℕ) → rows_at (slice_range rows from to) ≡ slice_range (rows_at rows) from to
side_by_side rows from to =
    sym (take-map (λ (row : Bor (List Value)). row.now) (to - from) (drop from rows))
    ∙ ap (take (to - from)) (sym (drop-map (λ (row : Bor (List Value)). row.now) from rows))

pub of_rows-requires : goal.of_rows-requires
of_rows-requires c =
    let is = standing (goal.at.of_rows-requires c).In-None in
    let rising : IsSorted row_order (rows_in c.self.inside.part.now c.self.inside.listed) = c.self.invariant.0 in
    subst (IsSorted row_order) (ap (λ rows. slice_range rows c.args.from c.args.to) (sym is) ∙ sym c.in_ok-slice-in-None.ensures)
    (sorted-part c.args.self.now c.args.from c.args.to c.requires.order c.requires.within (subst (IsSorted row_order) c.self.view_is rising))

pub of_list-requires : goal.of_list-requires
of_list-requires c =
    let is = listed (goal.at.of_list-requires c).After-deref in
    let rising : IsSorted row_order (rows_in c.self.inside.part.now c.self.inside.listed) = c.self.invariant.0 in
    subst (IsSorted row_order)
    (ap (λ rows. slice_range rows c.args.from c.args.to) (sym is) ∙ sym (side_by_side c.deref.result.now c.args.from c.args.to))
    (sorted-part c.args.self.now c.args.from c.args.to c.requires.order c.requires.within (subst (IsSorted row_order) c.self.view_is rising))

pub returns-in-Some : goal.returns-in-Some
returns-in-Some c =
    c.of_list.ensures ∙ side_by_side c.deref.result.now c.args.from c.args.to
    ∙ ap (λ rows. slice_range rows c.args.from c.args.to) (listed (goal.at.returns-in-Some c).After-deref)
