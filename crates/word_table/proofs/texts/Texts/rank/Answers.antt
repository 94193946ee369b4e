use Rattle.std.proofs.Common.{◌≡◌, ◌+◌, ◌-◌, ◌/◌, ◌<◌, [], length, get_or, string_bytes, subst, sym, ap, ◌∙◌, arith, Less, Equal, Greater}
use Rattle.std.specs.Prelude.{Contains}
use Rattle.std.proofs.lemmas.List.{get_or_default}
use Rattle.word_table.specs.Words.{text_order}
use Rattle.word_table.proofs.TextLemmas.{count_is}
use Rattle.word_table.proofs.WordLemmas.{above_front, below_rest, met_at, not_met}
use Rattle.word_table.proofs.texts.Texts.rank.Goals as goal

pub loop-low-init : goal.loop-low-init
loop-low-init c =
    let own = c.self.inside in
    let count =
    count_is (string_bytes own.letters) own.starts.items own.keys.items c.args.self.now c.self.view_is
    c.self.invariant in
    let long : c.len-high.result ≡ length c.args.self.now =
    omega (arith, c.len-high.ensures, own.keys.ok.0) in
    record {
      span = omega arith;
      inside = omega arith;
      front = λ k d h. absurd (omega arith);
      rest = λ k d h l. absurd (omega arith);
    }

pub loop-low-preserved-in-Less : goal.loop-low-preserved-in-Less
loop-low-preserved-in-Less c =
    let had = c.loop-low.invariant in
    let middle = c.loop-low.low + (c.loop-low.high - c.loop-low.low) / 2 in
    let within : middle < length c.args.self.now = omega (arith, had.inside) in
    let less : text_order (get_or c.args.self.now middle []) c.of-sought.result ≡ Less =
    sym c.compare.ensures ∙ c.in-Less.is in
    record {
      span = omega arith;
      inside = had.inside;
      front = above_front c.args.self.now c.of-sought.result middle c.requires within less;
      rest = had.rest;
    }

pub loop-low-preserved : goal.loop-low-preserved
loop-low-preserved c =
    let had = c.loop-low.invariant in
    let middle = c.loop-low.low + (c.loop-low.high - c.loop-low.low) / 2 in
    let within : middle < length c.args.self.now = omega (arith, had.inside) in
    let greater : text_order (get_or c.args.self.now middle []) c.of-sought.result ≡ Greater =
    sym c.compare.ensures ∙ c.in-Greater.is in
    record {
      span = omega arith;
      inside = omega arith;
      front = had.front;
      rest = below_rest c.args.self.now c.of-sought.result middle c.requires within greater;
    }

pub returns-in-Equal : goal.returns-in-Equal
returns-in-Equal c =
    let middle = c.loop-low.low + (c.loop-low.high - c.loop-low.low) / 2 in
    let within : middle < length c.args.self.now = omega (arith, c.loop-low.invariant.inside) in
    let tied : text_order (get_or c.args.self.now middle []) c.args.text.now ≡ Equal =
    ap (text_order (get_or c.args.self.now middle [])) (sym c.of-sought.ensures)
    ∙ sym c.compare.ensures ∙ c.in-Equal.is in
    met_at c.args.self.now c.args.text.now middle c.requires within
    (λ d. ap (λ t. text_order t c.args.text.now)
    (get_or_default c.args.self.now middle d [] within) ∙ tied)

pub returns : goal.returns
returns c held =
    let had = c.loop-low.invariant in
    not_met c.args.self.now c.of-sought.result c.loop-low.low had.front
    (λ k d low inside. had.rest k d (omega arith) inside)
    (subst (Contains c.args.self.now) (sym c.of-sought.ensures) held)
