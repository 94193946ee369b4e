-- All workers' parts together are the rows.
use Rattle.std.proofs.Common.{◌≡◌, ℕ, zero, suc, ◌+◌, ◌<◌, ◌≤◌, ◌==◌, Bool, true, false, cond, List, [], ◌∷◌, ◌++◌, map, refl, sym, ◌∙◌, ap, subst, arith}
use Rattle.std.specs.Prelude.{IsPermutation, filter}
use Rattle.std.specs.List.{flat_map, range_with_len}
use Rattle.std.proofs.lemmas.Bool.{eqb-true, eqb-false}
use Rattle.std.proofs.lemmas.List.{map-append}
use Rattle.std.proofs.lemmas.List.Elements.{filter-append}
use Rattle.std.proofs.lemmas.List.Folds.{flat_map-map}
use Rattle.std.proofs.lemmas.List.Sorted.{IsPermutation-refl, IsPermutation-sym, IsPermutation-trans, IsPermutation-cons, IsPermutation-append, IsPermutation-append_right, IsPermutation-middle}
use Rattle.rel_base.specs.Bags.{SameBag}
use Rattle.myrial_ast.specs.Scalars.{Scalar}
use Rattle.myrial_ast.specs.Combinations.{Row, Rows, all_hold, emitted, listed_from}
use Rattle.bag_laws.specs.Permuted.{SameTables, no_table, a_table}
use Rattle.bag_laws.proofs.RowPermutations.{listed_from-same}
use Rattle.placement.specs.Layouts.{parts_by_home, together}

-- rows put into a list past which h lies change nothing
past : {X : Type 0} (r : X) (f : ℕ → List X) (h a n : ℕ) → h < a
    → flat_map (λ w. cond (h == w) (r ∷ f w) (f w)) (range_with_len a n) ≡ flat_map f (range_with_len a n)
past r f h a zero l = refl
past r f h a (suc n) l = by (h == a) refl (past r f h (a + 1) n (omega arith))
  where
    by : (b : Bool) → (h == a) ≡ b
        → flat_map (λ w. cond (h == w) (r ∷ f w) (f w)) (range_with_len (a + 1) n) ≡ flat_map f (range_with_len (a + 1) n)
        → cond b (r ∷ f a) (f a) ++ flat_map (λ w. cond (h == w) (r ∷ f w) (f w)) (range_with_len (a + 1) n) ≡ f a ++ flat_map f (range_with_len (a + 1) n)
    by true e rest = absurd (omega (arith, eqb-true h a e))
    by false e rest = ap (λ xs. f a ++ xs) rest

-- a row put into one of the lists
inserted : {X : Type 0} (r : X) (f : ℕ → List X) (h a n : ℕ) → a ≤ h → h < a + n
    → IsPermutation (r ∷ flat_map f (range_with_len a n)) (flat_map (λ w. cond (h == w) (r ∷ f w) (f w)) (range_with_len a n))
inserted r f h a zero l m = absurd (omega arith)
inserted {X} r f h a (suc n) l m = by (h == a) refl (λ k. inserted r f h (a + 1) n k (omega arith))
  where
    all : List X
    all = flat_map f (range_with_len (a + 1) n)

    more : List X
    more = flat_map (λ w. cond (h == w) (r ∷ f w) (f w)) (range_with_len (a + 1) n)

    by : (b : Bool) → (h == a) ≡ b → (a + 1 ≤ h → IsPermutation (r ∷ all) more)
        → IsPermutation (r ∷ (f a ++ all)) (cond b (r ∷ f a) (f a) ++ more)
    by true e rest =
        subst (λ xs. IsPermutation (r ∷ (f a ++ all)) (r ∷ (f a ++ xs))) (sym (past r f h (a + 1) n (omega (arith, eqb-true h a e))))
        (IsPermutation-refl (r ∷ (f a ++ all)))
    by false e rest =
        let no : h ≡ a → ⊥ = eqb-false h a e in
        IsPermutation-trans (r ∷ (f a ++ all)) (f a ++ r ∷ all) (f a ++ more)
        (IsPermutation-sym (f a ++ r ∷ all) (r ∷ (f a ++ all)) (IsPermutation-middle (f a) r all))
        (IsPermutation-append_right (f a) (r ∷ all) more (rest (omega (arith, no))))

none : {X : Type 0} (ws : List ℕ) → flat_map {A = X} (λ w. []) ws ≡ []
none [] = refl
none (w ∷ ws) = none ws

-- items that each have a home below n
pub homes-together : {X : Type 0} (home : X → ℕ) (n : ℕ) → ((x : X) → home x < n) → (xs : List X)
    → IsPermutation xs (flat_map (λ w. filter (λ x. home x == w) xs) (range_with_len 0 n))
homes-together {X} home n low [] = subst (λ xs. IsPermutation [] xs) (sym (none {X = X} (range_with_len 0 n))) (IsPermutation-refl [])
homes-together {X} home n low (x ∷ xs) =
    let at : ℕ → List X = λ w. filter (λ r. home r == w) xs in
    IsPermutation-trans (x ∷ xs) (x ∷ flat_map at (range_with_len 0 n))
    (flat_map (λ w. filter (λ r. home r == w) (x ∷ xs)) (range_with_len 0 n))
    (IsPermutation-cons x xs (flat_map at (range_with_len 0 n)) (homes-together home n low xs))
    (inserted x at (home x) 0 n (omega arith) (omega (arith, low x)))

pub dealt-together : (n : ℕ) (home : Row → ℕ) → ((row : Row) → home row < n) → (rows : Rows) → SameBag rows (together (parts_by_home n home rows))
dealt-together n home low rows =
    subst (λ xs. SameBag rows xs) (sym (flat_map-map (λ (r : Rows). r) (λ w. filter (λ row. home row == w) rows) (range_with_len 0 n)))
    (homes-together home n low rows)

pub together-filter : (p : Row → Bool) (parts : List Rows) → together (map (filter p) parts) ≡ filter p (together parts)
together-filter p [] = refl
together-filter p (rows ∷ parts) = ap (λ rs. filter p rows ++ rs) (together-filter p parts) ∙ sym (filter-append p rows (together parts))

-- what is made of each of many lists is made of all of them
pub same_list : {X : Type 0} (xs ys : List X) → xs ≡ ys → IsPermutation xs ys
same_list xs ys e = subst (λ zs. IsPermutation xs zs) e (IsPermutation-refl xs)

-- ---- what is listed of parts

pub listed_from-append : (arithmetic emits : List Scalar) (a b : Rows)
    → listed_from arithmetic emits (a ++ b) ≡ listed_from arithmetic emits a ++ listed_from arithmetic emits b
listed_from-append arithmetic emits a b =
    ap (map (emitted emits)) (filter-append (all_hold arithmetic) a b)
    ∙ map-append (emitted emits) (filter (all_hold arithmetic) a) (filter (all_hold arithmetic) b)

pub listed_from-together : (arithmetic emits : List Scalar) (parts : List Rows)
    → listed_from arithmetic emits (together parts) ≡ together (map (listed_from arithmetic emits) parts)
listed_from-together arithmetic emits [] = refl
listed_from-together arithmetic emits (part ∷ parts) =
    listed_from-append arithmetic emits part (together parts)
    ∙ ap (λ xs. listed_from arithmetic emits part ++ xs) (listed_from-together arithmetic emits parts)

-- the candidates of all workers list, at all workers together, what they list
pub listed_dealt : (arithmetic emits : List Scalar) (n : ℕ) (home : Row → ℕ) → ((row : Row) → home row < n) → (candidates : Rows)
    → SameBag (listed_from arithmetic emits candidates) (together (map (listed_from arithmetic emits) (parts_by_home n home candidates)))
listed_dealt arithmetic emits n home low candidates =
    subst (λ xs. SameBag (listed_from arithmetic emits candidates) xs) (listed_from-together arithmetic emits (parts_by_home n home candidates))
    (listed_from-same arithmetic emits candidates (together (parts_by_home n home candidates)) (dealt-together n home low candidates))

-- lists with the same bags, one by one, are one bag together
pub together-same : (ts us : List Rows) → SameTables ts us → SameBag (together ts) (together us)
together-same _ _ no_table = IsPermutation-refl []
together-same _ _ (a_table rows others tables rest h hs) =
    IsPermutation-append rows others (together tables) (together rest) h (together-same tables rest hs)
