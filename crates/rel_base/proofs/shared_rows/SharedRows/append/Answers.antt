use Rattle.std.proofs.Common.{◌≡◌, ap, arith, rules, ◌<◌, ◌+◌, ◌++◌, ◌^◌, length, length-append, take, map, List}
use Rattle.std.proofs.lemmas.Grind.{common_steps}
use Rattle.std.proofs.lemmas.List.{length-take-le}
use Rattle.std.proofs.lemmas.List.Concat.{flat_map-append}
use Rattle.std.proofs.lemmas.List.Elements.{All-append}
use Rattle.rel_base.specs.declared.values.Value.{Value}
use Rattle.rel_base.specs.Picks.{joined}
use Rattle.rel_base.proofs.StartLemmas.{AreStarts-append, AreStarts-take, starts_below}
use Rattle.rel_base.proofs.shared_rows.SharedRows.append.Goals as goal

pub push_later-requires : goal.push_later-requires
push_later-requires c =
    let xss = c.self.inside.stretches.items in
    let yss = c.other.inside.stretches.items in
    let many : c.len-2.result ≡ length yss = search rules in
    let room : c.self.inside.len + length (joined yss) < 2 ^ 32 =
    omega (arith, c.requires, c.self.invariant.0, ap length c.self.view_is, ap length c.other.view_is) in
    rw (many, c.deref.ensures.value) (starts_below yss c.other.inside.starts.items c.self.inside.len c.other.invariant.1 room)

pub invariant_of-self-2 : goal.invariant_of-self-2
invariant_of-self-2 c =
    let xss = c.self.inside.stretches.items in
    let yss = c.other.inside.stretches.items in
    let starts = c.self.inside.starts.items in
    let others = c.other.inside.starts.items in
    let kept = AreStarts-take xss starts c.self.invariant.1 in
    let many : length (take (length xss) starts) ≡ length xss = length-take-le (length xss) starts (c.self.invariant.1).as_many in
    let both = AreStarts-append xss yss (take (length xss) starts) others kept many c.other.invariant.1 in
    let lists : c.append.new.self.items ≡ xss ++ yss = search rules in
    let count : c.len-2.result ≡ length yss = search rules in
    let front : c.truncate.new.self.items ≡ take (length xss) starts = search rules in
    let moved : c.push_later.new.starts.items ≡ c.truncate.new.self.items ++ map (λ s. c.self.inside.len + s) (take c.len-2.result c.deref.result.now) = search rules in
    let sum : c.self.inside.len + c.other.inside.len ≡ length (joined c.append.new.self.items) =
    rw (lists, flat_map-append (λ (xs : List (List Value)). xs) xss yss) (omega (arith, c.self.invariant.0, c.other.invariant.0, length-append (joined xss) (joined yss))) in
    (sum, rw (lists, moved, front, count, c.deref.ensures.value, c.self.invariant.0) both, rw lists (All-append (λ (s : List (List Value)). 0 < length s) xss yss c.self.invariant.2 c.other.invariant.2))

pub returns-clause-ok : goal.returns-clause-ok
returns-clause-ok c = grind (arith, common_steps)

pub invariant_of-self : goal.invariant_of-self
invariant_of-self c = grind (arith, common_steps)

pub invariant_of-self-in_err-append : goal.invariant_of-self-in_err-append
invariant_of-self-in_err-append c = grind (arith, common_steps)

pub overflow_add-self : goal.overflow_add-self
overflow_add-self c = grind (arith, common_steps)
