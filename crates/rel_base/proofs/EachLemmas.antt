-- `each_or_none`, item by item.
use Rattle.std.proofs.Common.{◌≡◌, ◌∙◌, ℕ, zero, suc, ◌+◌, ◌<◌, Option, Some, None, List, [], ◌∷◌, ◌++◌, length, get_or, take, refl, sym, ap, arith}
use Rattle.std.proofs.lemmas.List.{take_more}
use Rattle.rel_base.specs.Each.{each_or_none, put_before}

module _ {X Y : Type 0} (f : X → Option Y) where
  -- one more item, of which something is made
  pub each_or_none-push : (xs : List X) (x : X) (ys : List Y) (y : Y) → each_or_none f xs ≡ Some ys → f x ≡ Some y
      → each_or_none f (xs ++ x ∷ []) ≡ Some (ys ++ y ∷ [])
  each_or_none-push [] x ys y e g = let none : [] ≡ ys = cc in rw (g, ← none) refl
  each_or_none-push (z ∷ zs) x ys y e g = by (f z) (each_or_none f zs) refl refl (λ ws q. each_or_none-push zs x ws y q g)
    where
      by : (a : Option Y) (b : Option (List Y)) → f z ≡ a → each_or_none f zs ≡ b
          → ((ws : List Y) → each_or_none f zs ≡ Some ws → each_or_none f (zs ++ x ∷ []) ≡ Some (ws ++ y ∷ []))
          → put_before (f z) (each_or_none f (zs ++ x ∷ [])) ≡ Some (ys ++ y ∷ [])
      by None b p q more = let k = rw p at e in cc
      by (Some w) None p q more = let k = rw (p, q) at e in cc
      by (Some w) (Some ws) p q more =
          let k = rw (p, q) at e in
          let same : w ∷ ws ≡ ys = cc in
          rw (p, more ws q, ← same) refl

  -- an item of which nothing is made
  pub each_or_none-fault : (xs : List X) (x : X) (rest : List X) → f x ≡ None → each_or_none f (xs ++ x ∷ rest) ≡ None
  each_or_none-fault [] x rest e = rw e refl
  each_or_none-fault (z ∷ zs) x rest e = rw (each_or_none-fault zs x rest e) (by (f z))
    where
      by : (a : Option Y) → put_before a None ≡ None
      by None = refl
      by (Some w) = refl

  -- as many are made as there are items
  pub length-each_or_none : (xs : List X) (ys : List Y) → each_or_none f xs ≡ Some ys → length ys ≡ length xs
  length-each_or_none [] ys e = let none : [] ≡ ys = cc in ap length (sym none)
  length-each_or_none (x ∷ xs) ys e = by (f x) (each_or_none f xs) refl refl (length-each_or_none xs)
    where
      by : (a : Option Y) (b : Option (List Y)) → f x ≡ a → each_or_none f xs ≡ b
          → ((zs : List Y) → each_or_none f xs ≡ Some zs → length zs ≡ length xs)
          → length ys ≡ suc (length xs)
      by None b p q more = let k = rw p at e in cc
      by (Some w) None p q more = let k = rw (p, q) at e in cc
      by (Some w) (Some ws) p q more =
          let k = rw (p, q) at e in
          let same : w ∷ ws ≡ ys = cc in
          ap length (sym same) ∙ ap suc (more ws q)

  -- the next item of a list, of which something is made
  pub each_or_none-next : (xs : List X) (i : ℕ) (x : X) (ys : List Y) (y : Y) → i < length xs → x ≡ get_or xs i x
      → each_or_none f (take i xs) ≡ Some ys → f x ≡ Some y
      → each_or_none f (take (i + 1) xs) ≡ Some (ys ++ y ∷ [])
  each_or_none-next xs i x ys y low at e g =
      let longer = take_more xs i x low in
      rw (longer, ← at) (each_or_none-push (take i xs) x ys y e g)

  -- an item of a list, of which nothing is made
  pub each_or_none-fault_at : (xs : List X) (i : ℕ) (x : X) → i < length xs → x ≡ get_or xs i x → f x ≡ None
      → each_or_none f xs ≡ None
  each_or_none-fault_at [] i x low at e = absurd (omega arith)
  each_or_none-fault_at (z ∷ zs) zero x low at e = rw (← at, e) refl
  each_or_none-fault_at (z ∷ zs) (suc i) x low at e = rw (each_or_none-fault_at zs i x (omega arith) at e) (by (f z))
    where
      by : (a : Option Y) → put_before a None ≡ None
      by None = refl
      by (Some w) = refl
