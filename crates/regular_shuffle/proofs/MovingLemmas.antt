-- Lists that are taken apart from behind.
use Rattle.std.proofs.Common.{◌≡◌, ℕ, zero, suc, ◌+◌, ◌-◌, ◌<◌, ◌≤◌, ◌==◌, Bool, true, false, cond, List, [], ◌∷◌, ◌++◌, map, length, get_or, reverse, refl, sym, ap, ◌∙◌, arith, append_assoc}
use Rattle.std.specs.Prelude.{set}
use Rattle.std.specs.List.{range_with_len}
use Rattle.std.proofs.lemmas.Bool.Decides.{nat_tests}
use Rattle.std.proofs.lemmas.List.{map-append, reverse-append, length-append, get_or_append_left, get_or-append_right, get_or_default}
use Rattle.std.proofs.lemmas.List.FromFn.{fill_by_all, get_or-map-range_with_len, length-map-range_with_len, map-range_with_len_more}
use Rattle.myrial_ast.specs.Combinations.{Rows}
use Rattle.regular_shuffle.specs.inner.Broadcasts.{own_in}

-- what stood last in front stands first behind
pub turned : {X : Type 0} (front back target : List X) (x : X) → front ++ reverse (back ++ x ∷ []) ≡ target → (front ++ x ∷ []) ++ reverse back ≡ target
turned front back target x e =
    append_assoc front (x ∷ []) (reverse back) ∙ ap (λ l. front ++ l) (sym (reverse-append back (x ∷ []))) ∙ e

-- and the other way round
pub turned-back : {X : Type 0} (front back target : List X) (x : X) → (front ++ x ∷ []) ++ reverse back ≡ target → front ++ reverse (back ++ x ∷ []) ≡ target
turned-back front back target x e =
    ap (λ l. front ++ l) (reverse-append back (x ∷ [])) ∙ sym (append_assoc front (x ∷ []) (reverse back)) ∙ e

-- an item taken from a list that is mapped
pub mapped-back : {X Y : Type 0} (f : X → Y) (all left : List X) (back back' : List Y) (target : List Y) (x : X) (y : Y) → all ≡ left ++ x ∷ [] → back' ≡ back ++ y ∷ [] → y ≡ f x
    → map f all ++ reverse back ≡ target → map f left ++ reverse back' ≡ target
mapped-back f all left back back' target x y taken pushed is e =
    ap (λ l. map f left ++ reverse l) (pushed ∙ ap (λ z. back ++ z ∷ []) is)
    ∙ turned-back (map f left) back target (f x)
    (ap (λ l. l ++ reverse back) (sym (ap (map f) taken ∙ map-append f left (x ∷ []))) ∙ e)

-- an item taken from a list of which one is another
set-none : {X : Type 0} (j : ℕ) (v : X) → set [] j v ≡ []
set-none zero v = refl
set-none (suc j) v = refl

same-next : (a b : ℕ) → (a == b) ≡ (suc a == suc b)
same-next a b = by (a == b) refl
  where
    by : (t : Bool) → (a == b) ≡ t → t ≡ (suc a == suc b)
    by true e = grind (arith, nat_tests, e)
    by false e = grind (arith, nat_tests, e)

set-last : {X : Type 0} (left : List X) (j : ℕ) (v x : X) → set (left ++ x ∷ []) j v ≡ set left j v ++ cond (length left == j) v x ∷ []
set-last [] zero v x = refl
set-last [] (suc j) v x =
    let no : (0 == suc j) ≡ false = grind (arith, nat_tests) in
    ap (λ l. x ∷ l) (set-none j v) ∙ sym (λ i. set-none (suc j) v i ++ cond (no i) v x ∷ [])
set-last (y ∷ left) zero v x =
    let no : (suc (length left) == 0) ≡ false = grind (arith, nat_tests) in
    sym (λ i. v ∷ (left ++ cond (no i) v x ∷ []))
set-last (y ∷ left) (suc j) v x =
    let same : (length left == j) ≡ (suc (length left) == suc j) = same-next (length left) j in
    ap (λ l. y ∷ l) (set-last left j v x) ∙ ap (λ b. y ∷ (set left j v ++ cond b v x ∷ [])) same

pub set-back : {X : Type 0} (all left back back' target : List X) (j : ℕ) (v x y : X) → all ≡ left ++ x ∷ [] → back' ≡ back ++ y ∷ [] → y ≡ cond (length left == j) v x
    → set all j v ++ reverse back ≡ target → set left j v ++ reverse back' ≡ target
set-back all left back back' target j v x y taken pushed is e =
    ap (λ l. set left j v ++ reverse l) (pushed ∙ ap (λ z. back ++ z ∷ []) is)
    ∙ turned-back (set left j v) back target (cond (length left == j) v x)
    (ap (λ l. l ++ reverse back) (sym (ap (λ l. set l j v) taken ∙ set-last left j v x)) ∙ e)

-- what a worker was given, taken from what all were
own-last : (spread : List Rows) (stays : ℕ) (left : List (List Rows)) (x : List Rows)
    → own_in spread stays (left ++ x ∷ []) ≡ own_in spread stays left ++ set x stays (get_or spread (length left) []) ∷ []
own-last spread stays left x =
    ap (λ n. map whole (range_with_len 0 n)) (length-append left (x ∷ []))
    ∙ map-range_with_len_more whole 0 (length left) (length left) (omega arith)
    ∙ (λ i. fill_by_all front (map whole (range_with_len 0 (length left))) (length left) [] (length-map-range_with_len whole 0 (length left)) same i ++ last i ∷ [])
  where
    whole : ℕ → List Rows
    whole w = set (get_or (left ++ x ∷ []) w []) stays (get_or spread w [])

    front : ℕ → List Rows
    front w = set (get_or left w []) stays (get_or spread w [])

    same : (k : ℕ) → k < length left → get_or (map whole (range_with_len 0 (length left))) k [] ≡ front k
    same k below =
        get_or-map-range_with_len whole 0 (length left) k k [] below (omega arith)
        ∙ ap (λ (l : List Rows). set l stays (get_or spread k [])) (get_or_append_left left (x ∷ []) [] k below)

    last : whole (length left) ≡ set x stays (get_or spread (length left) [])
    last = ap (λ (l : List Rows). set l stays (get_or spread (length left) [])) (get_or-append_right left (x ∷ []) (length left) (length left) [] refl (omega arith) ∙ at)
      where
        at : get_or (x ∷ []) (length left - length left) [] ≡ x
        at = let none : length left - length left ≡ 0 = omega arith in ap (λ k. get_or (x ∷ []) k []) none

pub own-back : (spread : List Rows) (stays : ℕ) (all left back back' target : List (List Rows)) (x y : List Rows) (own : Rows) → all ≡ left ++ x ∷ [] → back' ≡ back ++ y ∷ []
    → y ≡ set x stays own → own ≡ get_or spread (length left) own → length all ≤ length spread
    → own_in spread stays all ++ reverse back ≡ target → own_in spread stays left ++ reverse back' ≡ target
own-back spread stays all left back back' target x y own taken pushed is at long e =
    let within : length left < length spread = omega (arith, long, ap length taken, length-append left (x ∷ [])) in
    let own_is : own ≡ get_or spread (length left) [] = at ∙ get_or_default spread (length left) own [] within in
    ap (λ l. own_in spread stays left ++ reverse l) (pushed ∙ ap (λ z. back ++ z ∷ []) (is ∙ ap (set x stays) own_is))
    ∙ turned-back (own_in spread stays left) back target (set x stays (get_or spread (length left) []))
    (ap (λ l. l ++ reverse back) (sym (ap (own_in spread stays) taken ∙ own-last spread stays left x)) ∙ e)

-- the rows of the worker whose parts were taken
pub own-at : (spread : List Rows) (left : List (List Rows)) (at : ℕ) (own : Rows) → at ≡ length left → own ≡ get_or spread at own → own ≡ get_or spread (length left) own
own-at spread left at own is e = e ∙ ap (λ k. get_or spread k own) is

-- one less is left
pub fewer : {X : Type 0} (all left : List X) (x : X) → all ≡ left ++ x ∷ [] → length left + 1 ≡ length all
fewer all left x taken = omega (arith, ap length taken, length-append left (x ∷ []))
