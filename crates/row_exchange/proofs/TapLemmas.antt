-- Laws of what taps are told.
use Rattle.std.proofs.Common.{◌≡◌, ℕ, ◌+◌, ◌*◌, ◌<◌, ◌≤◌, List, get_or, All, refl, sym, ap, ◌∙◌, subst, arith}
use Rattle.std.proofs.Common.{◌⊎◌, ⊎_elim, inl, inr}
use Rattle.std.proofs.lemmas.Bool.{cases_lt}
use Rattle.rel_io.specs.declared.taps.Totals.{Totals}
use Rattle.row_exchange.specs.Exchanges.{with_more, nothing, of_all, AreTold}
use Rattle.row_exchange.proofs.MessageLemmas.{parity}
use Rattle.row_exchange.proofs.SumLemmas.{sum_by-range_add}

sums-rose : (t : Totals) (a b c x y z : ℕ) → with_more (with_more t a b c) x y z ≡ with_more t (a + x) (b + y) (c + z)
sums-rose t a b c x y z =
    let s : t.sent + a + x ≡ t.sent + (a + x) = omega arith in
    let r : t.got + b + y ≡ t.got + (b + y) = omega arith in
    let l : t.listed + c + z ≡ t.listed + (c + z) = omega arith in
    λ i. record { sent = s i; got = r i; listed = l i }

pub sums-stay : (t : Totals) → t ≡ with_more t 0 0 0
sums-stay t =
    let s : t.sent ≡ t.sent + 0 = omega arith in
    let r : t.got ≡ t.got + 0 = omega arith in
    let l : t.listed ≡ t.listed + 0 = omega arith in
    λ i. record { sent = s i; got = r i; listed = l i }

-- as many rows are sent as received where they are of each part
pub even-both : (n : ℕ) (s x g y : ℕ → ℕ) → of_all n s ≡ of_all n g → of_all n x ≡ of_all n y → of_all n (λ u. s u + x u) ≡ of_all n (λ w. g w + y w)
even-both n s x g y one two = sum_by-range_add s x n ∙ (λ i. one i + two i) ∙ sym (sum_by-range_add g y n)

module _ {T : Type 0} (totals : T → Totals) (tag : T → ℕ) (n : ℕ) where
  -- taps that are as before were told nothing
  pub nothing-told : (taps : List T) → AreTold totals tag n nothing nothing nothing taps taps
  nothing-told taps = record {
    count = refl;
    tags = λ k d below. refl;
    firsts = λ u d below. sums-stay (totals (get_or taps (2 * u) d));
    seconds = λ w d below. sums-stay (totals (get_or taps (2 * w + 1) d));
    others = λ k d past. refl;
  }

  -- of the same numbers
  pub told-same : (s g l x y z : ℕ → ℕ) (before after : List T) → ((u : ℕ) → u < n → s u ≡ x u) → ((w : ℕ) → w < n → g w ≡ y w) → ((w : ℕ) → w < n → l w ≡ z w)
      → AreTold totals tag n s g l before after → AreTold totals tag n x y z before after
  told-same s g l x y z before after same_s same_g same_l one = record {
    count = one.count;
    tags = one.tags;
    firsts = λ u d below. one.firsts u d below ∙ (λ i. with_more (totals (get_or before (2 * u) d)) (same_s u below i) 0 0);
    seconds = λ w d below. one.seconds w d below ∙ (λ i. with_more (totals (get_or before (2 * w + 1) d)) 0 (same_g w below i) (same_l w below i));
    others = one.others;
  }

  -- of some numbers and then of others
  pub told-both : (s g l x y z : ℕ → ℕ) (before middle after : List T) → AreTold totals tag n s g l before middle → AreTold totals tag n x y z middle after
      → AreTold totals tag n (λ u. s u + x u) (λ w. g w + y w) (λ w. l w + z w) before after
  told-both s g l x y z before middle after one two = record {
    count = two.count ∙ one.count;
    tags = λ k d below. two.tags k d (omega (arith, below, one.count)) ∙ one.tags k d below;
    firsts = λ u d below.
        two.firsts u d below ∙ ap (λ (t : Totals). with_more t (x u) 0 0) (one.firsts u d below)
        ∙ sums-rose (totals (get_or before (2 * u) d)) (s u) 0 0 (x u) 0 0;
    seconds = λ w d below.
        two.seconds w d below ∙ ap (λ (t : Totals). with_more t 0 (y w) (z w)) (one.seconds w d below)
        ∙ sums-rose (totals (get_or before (2 * w + 1) d)) 0 (g w) (l w) 0 (y w) (z w);
    others = λ k d past. two.others k d past ∙ one.others k d past;
  }

  -- of an exchange and then of the rows listed behind it
  pub told-listed : (s g l : ℕ → ℕ) (before middle after : List T) → AreTold totals tag n s g nothing before middle → AreTold totals tag n nothing nothing l middle after
      → AreTold totals tag n s g l before after
  told-listed s g l before middle after one two =
      told-same (λ u. s u + 0) (λ w. g w + 0) (λ w. 0 + l w) s g l before after (λ u below. omega arith) (λ w below. omega arith) (λ w below. omega arith)
      (told-both s g nothing nothing nothing l before middle after one two)

  -- what the sums of each tap come to
  pub told-each : (P Q : Totals → Type 0) (s g l : ℕ → ℕ) (before after : List T) → AreTold totals tag n s g l before after
      → ((t : Totals) (u : ℕ) → u < n → P t → Q (with_more t (s u) 0 0)) → ((t : Totals) (w : ℕ) → w < n → P t → Q (with_more t 0 (g w) (l w))) → ((t : Totals) → P t → Q t)
      → All (λ t. P (totals t)) before → All (λ t. Q (totals t)) after
  told-each P Q s g l before after x first second other was k d below = by (parity k)
    where
      here : P (totals (get_or before k d))
      here = was k d (omega (arith, below, x.count))

      by : ((u : ℕ) × ((k ≡ 2 * u) ⊎ (k ≡ 2 * u + 1))) → Q (totals (get_or after k d))
      by (u, inl e) =
          ⊎_elim
          (λ (h : u < n). subst (λ (j : ℕ). Q (totals (get_or after j d))) (sym e)
          (subst Q (sym (x.firsts u d h)) (first (totals (get_or before (2 * u) d)) u h (subst (λ (j : ℕ). P (totals (get_or before j d))) e here))))
          (λ (h : n ≤ u). subst (λ (t : T). Q (totals t)) (sym (x.others k d (omega (arith, h, e)))) (other (totals (get_or before k d)) here))
          (cases_lt u n)
      by (u, inr e) =
          ⊎_elim
          (λ (h : u < n). subst (λ (j : ℕ). Q (totals (get_or after j d))) (sym e)
          (subst Q (sym (x.seconds u d h)) (second (totals (get_or before (2 * u + 1) d)) u h (subst (λ (j : ℕ). P (totals (get_or before j d))) e here))))
          (λ (h : n ≤ u). subst (λ (t : T). Q (totals t)) (sym (x.others k d (omega (arith, h, e)))) (other (totals (get_or before k d)) here))
          (cases_lt u n)
