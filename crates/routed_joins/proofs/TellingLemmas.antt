-- Taps that are told, worker by worker, how many rows each lists.
use Rattle.std.proofs.Common.{◌≡◌, ◌≢◌, ℕ, ◌+◌, ◌*◌, ◌<◌, ◌≤◌, ◌^◌, List, length, get_or, refl, sym, ap, ◌∙◌, subst, arith, get_or-set_other, get_or-set_same}
use Rattle.std.proofs.Common.{◌⊎◌, ⊎_elim, inl, inr}
use Rattle.std.specs.Prelude.{All, set}
use Rattle.std.proofs.Math.ListN.{length-set}
use Rattle.std.proofs.lemmas.Bool.{cases_lt}
use Rattle.rel_io.specs.declared.taps.Totals.{Totals}
use Rattle.rel_io.specs.Taps.{with_listed}
use Rattle.myrial_ast.specs.Combinations.{Rows}
use Rattle.row_exchange.specs.Exchanges.{with_more, nothing}
use Rattle.row_exchange.proofs.TapLemmas.{sums-stay, nothing-told, told-same}
use Rattle.routed_joins.specs.Listings.{IsLow, count_at, IsListedAt}
use Rattle.routed_joins.proofs.ListingLemmas.{listed-more}

module _ {T : Type 0} (totals : T → Totals) (tag : T → ℕ) where
  pub none-told : (parts : List Rows) (taps : List T) → IsListedAt totals tag 0 (count_at parts) taps taps
  none-told parts taps = record {
    told = told-same totals tag 0 nothing nothing nothing nothing nothing (count_at parts) taps taps (λ u below. refl) (λ w below. refl) (λ w below. absurd (omega (arith, below)))
        (nothing-told totals tag 0 taps);
    firsts = λ u d below. refl;
  }

  -- one worker more
  pub one-told : (w : ℕ) (parts : List Rows) (before after : List T) (n : ℕ) (tap now : T) → IsListedAt totals tag w (count_at parts) before after
      → 2 * w + 1 < length after → ((d : T) → get_or after (2 * w + 1) d ≡ tap)
      → n ≡ count_at parts w → n < 2 ^ 32 → All (λ t. IsLow (totals t)) before
      → totals now ≡ with_listed (totals tap) n → tag now ≡ tag tap
      → IsListedAt totals tag (w + 1) (count_at parts) before (set after (2 * w + 1) now)
  one-told w parts before after n tap now so here at many few low told same = record {
    told = record {
      count = length-set after (2 * w + 1) now ∙ so.told.count;
      tags = tags;
      firsts = λ u d below. ap totals (still u d) ∙ sums-stay (totals (get_or before (2 * u) d));
      seconds = seconds;
      others = λ k d past. (let ne : k ≢ 2 * w + 1 = λ e. omega (arith, e, past) in rw get_or-set_other (so.told.others k d (omega (arith, past))));
    };
    firsts = λ u d below. still u d;
  }
    where
      mine : (d : T) → get_or (set after (2 * w + 1) now) (2 * w + 1) d ≡ now
      mine d = rw get_or-set_same refl

      was : (d : T) → tap ≡ get_or before (2 * w + 1) d
      was d = sym (at d) ∙ so.told.others (2 * w + 1) d (omega arith)

      still : (u : ℕ) (d : T) → get_or (set after (2 * w + 1) now) (2 * u) d ≡ get_or before (2 * u) d
      still u d =
          let ne : 2 * u ≢ 2 * w + 1 = λ e. omega (arith, e) in
          rw get_or-set_other (⊎_elim (λ (h : u < w). so.firsts u d h) (λ (h : w ≤ u). so.told.others (2 * u) d (omega (arith, h))) (cases_lt u w))

      tags : (k : ℕ) (d : T) → k < length before → tag (get_or (set after (2 * w + 1) now) k d) ≡ tag (get_or before k d)
      tags k d below =
          ⊎_elim
          (λ (e : k ≡ 2 * w + 1). subst (λ (j : ℕ). tag (get_or (set after (2 * w + 1) now) j d) ≡ tag (get_or before j d)) (sym e)
          (ap tag (mine d) ∙ same ∙ ap tag (was d)))
          (λ (ne : k ≢ 2 * w + 1). rw get_or-set_other (so.told.tags k d below))
          (same-or k (2 * w + 1))
        where
          same-or : (a b : ℕ) → (a ≡ b) ⊎ (a ≢ b)
          same-or a b =
              ⊎_elim (λ (h : a < b). inr (λ e. omega (arith, e, h)))
              (λ (h : b ≤ a). ⊎_elim (λ (g : b < a). inr (λ e. omega (arith, e, g))) (λ (g : a ≤ b). inl (omega (arith, g, h))) (cases_lt b a)) (cases_lt a b)

      seconds : (v : ℕ) (d : T) → v < w + 1
          → totals (get_or (set after (2 * w + 1) now) (2 * v + 1) d) ≡ with_more (totals (get_or before (2 * v + 1) d)) 0 0 (count_at parts v)
      seconds v d below =
          ⊎_elim
          (λ (h : v < w). let ne : 2 * v + 1 ≢ 2 * w + 1 = λ e. omega (arith, e, h) in rw get_or-set_other (so.told.seconds v d h))
          (λ (h : w ≤ v). let e : v ≡ w = omega (arith, h, below) in
          subst (λ (j : ℕ). totals (get_or (set after (2 * w + 1) now) (2 * j + 1) d) ≡ with_more (totals (get_or before (2 * j + 1) d)) 0 0 (count_at parts j)) (sym e)
          (ap totals (mine d) ∙ told ∙ listed-more (totals tap) n (subst (λ (t : T). IsLow (totals t)) (sym (was d)) (low (2 * w + 1) d (omega (arith, here, so.told.count)))) few
          ∙ (λ i. with_more (totals (was d i)) 0 0 (many i))))
          (cases_lt v w)
