use Rattle.std.proofs.Common.{◌≡◌, ◌+◌, ◌^◌, ◌<◌, [], get_or, slice_range, string_bytes, subst, sym, ◌∙◌, arith}
use Rattle.std.specs.Str.{IsCharBoundary}
use Rattle.std.proofs.lemmas.List.{get_or_default}
use Rattle.word_table.proofs.TextLemmas.{count_is, text_is}
use Rattle.word_table.proofs.texts.Texts.at.Goals as goal

pub index-requires : goal.index-requires
index-requires c =
    let bytes = string_bytes c.self.inside.letters in
    let starts = c.self.inside.starts.items in
    let place = c.args.place in
    let count =
    count_is bytes starts c.self.inside.keys.items c.args.self.now c.self.view_is c.self.invariant in
    let many = c.self.invariant.many in
    omega (arith, c.self.inside.starts.ok.0)

pub overflow_add-place : goal.overflow_add-place
overflow_add-place c =
    let bytes = string_bytes c.self.inside.letters in
    let starts = c.self.inside.starts.items in
    let place = c.args.place in
    let count =
    count_is bytes starts c.self.inside.keys.items c.args.self.now c.self.view_is c.self.invariant in
    let many = c.self.invariant.many in
    let room = c.self.inside.starts in
    let small : place + 1 < 2 ^ 64 = omega (arith, room.ok.0, room.ok.1, room.small) in
    omega arith

pub index-requires-2 : goal.index-requires-2
index-requires-2 c =
    let bytes = string_bytes c.self.inside.letters in
    let starts = c.self.inside.starts.items in
    let place = c.args.place in
    let count =
    count_is bytes starts c.self.inside.keys.items c.args.self.now c.self.view_is c.self.invariant in
    let many = c.self.invariant.many in
    omega (arith, c.self.inside.starts.ok.0)

pub range-requires-clause-start_le_end : goal.range-requires-clause-start_le_end
range-requires-clause-start_le_end c =
    let bytes = string_bytes c.self.inside.letters in
    let starts = c.self.inside.starts.items in
    let place = c.args.place in
    let count =
    count_is bytes starts c.self.inside.keys.items c.args.self.now c.self.view_is c.self.invariant in
    let many = c.self.invariant.many in
    let start : c.index.result.now ≡ get_or starts place 0 =
    c.index.ensures ∙ get_or_default starts place c.index.result.now 0 (omega arith) in
    let end : c.index-2.result.now ≡ get_or starts (place + 1) 0 =
    c.index-2.ensures ∙ get_or_default starts (place + 1) c.index-2.result.now 0 (omega arith) in
    let up = c.self.invariant.in_turn place (omega arith) in
    omega arith

-- a place where the bytes may be cut, as a read of it gives it
pub range-requires-clause-start_boundary : goal.range-requires-clause-start_boundary
range-requires-clause-start_boundary c _ =
    let bytes = string_bytes c.self.inside.letters in
    let starts = c.self.inside.starts.items in
    let place = c.args.place in
    let count =
    count_is bytes starts c.self.inside.keys.items c.args.self.now c.self.view_is c.self.invariant in
    let many = c.self.invariant.many in
    let read : IsCharBoundary bytes c.index.result.now =
    subst (IsCharBoundary bytes) (sym c.index.ensures)
    (c.self.invariant.cut place c.index.result.now (omega arith)) in
    subst (λ s. IsCharBoundary s c.index.result.now) (sym c.as_str.ensures.value) read

pub range-requires-clause-end_boundary : goal.range-requires-clause-end_boundary
range-requires-clause-end_boundary c =
    let bytes = string_bytes c.self.inside.letters in
    let starts = c.self.inside.starts.items in
    let place = c.args.place in
    let count =
    count_is bytes starts c.self.inside.keys.items c.args.self.now c.self.view_is c.self.invariant in
    let many = c.self.invariant.many in
    let read : IsCharBoundary bytes c.index-2.result.now =
    subst (IsCharBoundary bytes) (sym c.index-2.ensures)
    (c.self.invariant.cut (place + 1) c.index-2.result.now (omega arith)) in
    subst (λ s. IsCharBoundary s c.index-2.result.now) (sym c.as_str.ensures.value) read

pub returns : goal.returns
returns c =
    let bytes = string_bytes c.self.inside.letters in
    let starts = c.self.inside.starts.items in
    let place = c.args.place in
    let count =
    count_is bytes starts c.self.inside.keys.items c.args.self.now c.self.view_is c.self.invariant in
    let many = c.self.invariant.many in
    let start : c.index.result.now ≡ get_or starts place 0 =
    c.index.ensures ∙ get_or_default starts place c.index.result.now 0 (omega arith) in
    let end : c.index-2.result.now ≡ get_or starts (place + 1) 0 =
    c.index-2.ensures ∙ get_or_default starts (place + 1) c.index-2.result.now 0 (omega arith) in
    c.range.ensures.value ∙ (λ i. slice_range (c.as_str.ensures.value i) (start i) (end i))
    ∙ text_is bytes starts c.self.inside.keys.items c.args.self.now c.self.view_is c.self.invariant
    place [] c.requires
