use Rattle.std.proofs.Common.{◌≡◌, ◌+◌, ◌-◌, ◌<◌, true, refl, ◌++◌, ◌∷◌, [], length, get_or, ap, ◌∙◌, sym, subst, arith}
use Rattle.std.proofs.Math.ListN.{set}
use Rattle.word_table.specs.declared.numbering.Occurrence.{Occurrence}
use Rattle.word_table.specs.inner.Gathered.{IsLast, IsRanked}
use Rattle.word_table.proofs.RankLemmas.{IsRanked-again, IsRanked-next}
use Rattle.word_table.proofs.ranking.ranked.Goals as goal
use Rattle.word_table.proofs.ranking.ranked.Goals.{then-not-is_last+in_ok-push, else-not-is_last}

pub loop-occurrence-preserved : goal.loop-occurrence-preserved
loop-occurrence-preserved c =
    let found = c.args.found.now in
    let done = c.loop-occurrence.occurrence-index in
    let o = c.occurrence-item.result in
    let is : get_or found done o ≡ o = sym c.occurrence-item.is in
    let there : done < length found = omega arith in
    let old = c.args.words.now.items in
    let mid = c.loop-occurrence.words.items in
    let strings = c.loop-occurrence.strings.items in
    let more = c.if-not-is_last.strings.items in
    let had = c.loop-occurrence.invariant in
    let inside : o.place < length old = subst (λ (x : Occurrence). x.place < length old) is (c.requires.places done o there) in
    let place : o.place < length mid = omega (arith, had.long) in
    let long : c.len.result ≡ length more = omega (arith, c.len.ensures, c.if-not-is_last.strings.ok.0) in
    let written : set mid o.place (c.len.result - 1) ≡ set mid o.place (length more - 1) = ap (λ n. set mid o.place (n - 1)) long in
    elim c.if-not-is_last.branch [
      | then-not-is_last+in_ok-push w ↦
          let added : more ≡ strings ++ o.string ∷ [] = rw w.strings-is (w.in_ok-push.ensures.items ∙ ap (λ s. strings ++ s ∷ []) w.again.ensures) in
          let beyond : IsLast strings o.string → ⊥ =
          λ last. let yes : c.is_last.result ≡ true = c.is_last.ensures.1 (rw c.as_slice.ensures.value last) in let no = w.if-not-is_last.true in cc in
          IsRanked-next found done strings old mid o had c.requires.rise there is place beyond more added (set mid o.place (c.len.result - 1)) written
      | else-not-is_last w ↦
          let last : IsLast strings o.string = rw c.as_slice.ensures.value at (c.is_last.ensures.0 w.if-not-is_last.false) in
          let same : more ≡ strings = rw w.strings-is refl in
          let kept : set mid o.place (c.len.result - 1) ≡ set mid o.place (length strings - 1) = written ∙ ap (λ xs. set mid o.place (length xs - 1)) same in
          subst (λ xs. IsRanked found (done + 1) xs old (set mid o.place (c.len.result - 1))) (sym same)
          (IsRanked-again found done strings old mid o had c.requires.rise there is place last (set mid o.place (c.len.result - 1)) kept)
    ]
