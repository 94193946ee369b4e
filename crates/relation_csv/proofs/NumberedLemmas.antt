-- `each_numbered`, item by item.
use Rattle.std.proofs.Common.{◌≡◌, ◌∙◌, ℕ, zero, suc, ◌+◌, ◌<◌, Result, Ok, Err, List, [], ◌∷◌, ◌++◌, length, get_or, take, refl, sym, ap, arith}
use Rattle.std.proofs.lemmas.List.{take_more}
use Rattle.relation_csv.specs.Numbered.{each_numbered, put_first}

module _ {X Y E : Type 0} (f : ℕ → X → Result Y E) where
  -- where something is made of each item, something is made of the first and of the others
  pub each_numbered-split : (n : ℕ) (x : X) (xs : List X) (zs : List Y) → each_numbered f n (x ∷ xs) ≡ Ok zs
      → (y : Y) × (ys : List Y) × (f n x ≡ Ok y) × (each_numbered f (n + 1) xs ≡ Ok ys) × (zs ≡ y ∷ ys)
  each_numbered-split n x xs zs e = by (f n x) (each_numbered f (n + 1) xs) refl refl
    where
      by : (a : Result Y E) (b : Result (List Y) E) → f n x ≡ a → each_numbered f (n + 1) xs ≡ b
          → (y : Y) × (ys : List Y) × (f n x ≡ Ok y) × (each_numbered f (n + 1) xs ≡ Ok ys) × (zs ≡ y ∷ ys)
      by (Err a) b p q = let k = rw p at e in cc
      by (Ok y) (Err b) p q = let k = rw (p, q) at e in cc
      by (Ok y) (Ok ys) p q = let k = rw (p, q) at e in (y, ys, p, q, cc)

  -- one more item, of which something is made
  pub each_numbered-push : (n : ℕ) (xs : List X) (x : X) (ys : List Y) (y : Y) (k : ℕ) → k ≡ n + length xs
      → each_numbered f n xs ≡ Ok ys → f k x ≡ Ok y → each_numbered f n (xs ++ x ∷ []) ≡ Ok (ys ++ y ∷ [])
  each_numbered-push n [] x ys y k at e g =
      let none : [] ≡ ys = cc in
      let same : n ≡ k = omega arith in
      rw (same, g, ← none) refl
  each_numbered-push n (z ∷ zs) x ys y k at e g =
      let (w, ws, p, q, is) = each_numbered-split n z zs ys e in
      let more = each_numbered-push (n + 1) zs x ws y k (omega arith) q g in
      let step : put_first (f n z) (each_numbered f (n + 1) (zs ++ x ∷ [])) ≡ Ok (w ∷ (ws ++ y ∷ [])) = rw (p, more) refl in
      step ∙ ap (λ (l : List Y). Ok (l ++ y ∷ [])) (sym is)

  -- an item with a fault, behind items of which something is made
  pub each_numbered-fault : (n : ℕ) (xs : List X) (x : X) (rest : List X) (ys : List Y) (fault : E) (k : ℕ)
      → k ≡ n + length xs → each_numbered f n xs ≡ Ok ys → f k x ≡ Err fault
      → each_numbered f n (xs ++ x ∷ rest) ≡ Err fault
  each_numbered-fault n [] x rest ys fault k at e g =
      let same : n ≡ k = omega arith in
      rw (same, g) refl
  each_numbered-fault n (z ∷ zs) x rest ys fault k at e g =
      let (w, ws, p, q, is) = each_numbered-split n z zs ys e in
      let more = each_numbered-fault (n + 1) zs x rest ws fault k (omega arith) q g in
      rw (p, more) refl

  -- as many are made as there are items
  pub length-each_numbered : (n : ℕ) (xs : List X) (ys : List Y) → each_numbered f n xs ≡ Ok ys → length ys ≡ length xs
  length-each_numbered n [] ys e = let none : [] ≡ ys = cc in ap length (sym none)
  length-each_numbered n (x ∷ xs) ys e =
      let (w, ws, p, q, is) = each_numbered-split n x xs ys e in
      ap length is ∙ ap suc (length-each_numbered (n + 1) xs ws q)

  -- the next item of a list, of which something is made
  pub each_numbered-next : (n : ℕ) (xs : List X) (i : ℕ) (x : X) (ys : List Y) (y : Y) (k : ℕ) → i < length xs
      → x ≡ get_or xs i x → k ≡ n + length (take i xs)
      → each_numbered f n (take i xs) ≡ Ok ys → f k x ≡ Ok y
      → each_numbered f n (take (i + 1) xs) ≡ Ok (ys ++ y ∷ [])
  each_numbered-next n xs i x ys y k low at number e g =
      let longer = take_more xs i x low in
      rw (longer, ← at) (each_numbered-push n (take i xs) x ys y k number e g)

  -- an item of a list with a fault, behind items of which something is made
  pub each_numbered-fault_at : (n : ℕ) (xs : List X) (i : ℕ) (x : X) (ys : List Y) (fault : E) (k : ℕ) → i < length xs
      → x ≡ get_or xs i x → k ≡ n + i
      → each_numbered f n (take i xs) ≡ Ok ys → f k x ≡ Err fault
      → each_numbered f n xs ≡ Err fault
  each_numbered-fault_at n [] i x ys fault k low at number e g = absurd (omega arith)
  each_numbered-fault_at n (z ∷ zs) zero x ys fault k low at number e g =
      let same : n ≡ k = omega arith in
      rw (same, ← at, g) refl
  each_numbered-fault_at n (z ∷ zs) (suc i) x ys fault k low at number e g =
      let (w, ws, p, q, is) = each_numbered-split n z (take i zs) ys e in
      rw (p, each_numbered-fault_at (n + 1) zs i x ws fault k (omega arith) at (omega arith) q g) refl
