-- Counting the keys of a run, one by one.
use Rattle.std.proofs.Common.{◌≡◌, ℕ, ◌<◌, Bool, true, false, not, List, [], ◌∷◌, length, map, get_or, refl, sym, ◌∙◌, ap, arith}
use Rattle.std.specs.Prelude.{IsPermutation, ◌&&◌, ◌||◌, pos}
use Rattle.rel_base.specs.declared.values.Value.TheVariants as value
use Rattle.std.specs.List.{list_all, list_any}
use Rattle.std.proofs.lemmas.List.Sorted.{list_any-IsPermutation}
use Rattle.std.proofs.lemmas.List.{get_or-map}
use Rattle.myrial_ast.specs.Combinations.{Row, Rows}
use Rattle.myrial_ast.specs.Bags.{same_row}
use Rattle.bag_laws.proofs.PartialLemmas.{tied}
use Rattle.myrial_ast.specs.Scalars.{value_at}
use Rattle.packed_rows.specs.declared.columns.PackedColumn.{PackedColumn}
use Rattle.packed_rows.specs.Unpacked.{unpacked_row}
use Rattle.packed_rows.specs.Words.{unpacked}
use Rattle.aggregate_ops.specs.Columns.{key_at}

module _ (places : List ℕ) (rows : Rows) where
  -- the key of a row at a place
  pub key-item : (k : ℕ) (one : Row) (d : Row) → k < length rows → one ≡ get_or rows k [] → get_or (map (key_at places) rows) k d ≡ key_at places one
  key-item k one d low is = get_or-map (key_at places) rows k [] d low ∙ ap (key_at places) (sym is)

  -- a key that is the first one
  pub key-same : (k : ℕ) (first one : Row) → k < length rows → 0 < length rows → first ≡ get_or rows 0 [] → one ≡ get_or rows k []
      → same_row (key_at places first) (key_at places one) ≡ true
      → get_or (map (key_at places) rows) k [] ≡ get_or (map (key_at places) rows) 0 []
  key-same k first one low some is at same =
      key-item k one [] low at ∙ sym (tied (key_at places first) (key_at places one) same) ∙ sym (key-item 0 first [] some is)

  -- a key that isn't
  pub key-other : (k : ℕ) (first one : Row) → k < length rows → 0 < length rows → first ≡ get_or rows 0 [] → one ≡ get_or rows k []
      → same_row (key_at places first) (key_at places one) ≡ false
      → same_row (get_or (map (key_at places) rows) 0 []) (get_or (map (key_at places) rows) k []) ≡ false
  key-other k first one low some is at other = (λ i. same_row (key-item 0 first [] some is i) (key-item k one [] low at i)) ∙ other

-- a test of all, whatever the order
list_all-not : {X : Type 0} (p : X → Bool) (xs : List X) → list_all p xs ≡ not (list_any (λ x. not (p x)) xs)
list_all-not p [] = refl
list_all-not p (x ∷ xs) = by (p x) (list_all-not p xs)
  where
    by : (b : Bool) → list_all p xs ≡ not (list_any (λ x. not (p x)) xs) → (b && list_all p xs) ≡ not (not b || list_any (λ x. not (p x)) xs)
    by true e = e
    by false e = refl

pub list_all-same : {X : Type 0} (p : X → Bool) (xs ys : List X) → IsPermutation xs ys → list_all p xs ≡ list_all p ys
list_all-same p xs ys h =
    list_all-not p xs ∙ ap not (list_any-IsPermutation (λ x. not (p x)) xs ys h) ∙ sym (list_all-not p ys)

pub list_all-true : {X : Type 0} (xs : List X) → list_all (λ x. true) xs ≡ true
list_all-true [] = refl
list_all-true (x ∷ xs) = list_all-true xs

-- ---- keys of words

-- the key of a word's row in columns that it has
module _ (columns : List PackedColumn) where
  value-of : (place : ℕ) (c : PackedColumn) (word : ℕ) → place < length columns → c ≡ get_or columns place c
      → value_at (unpacked_row columns word) place ≡ unpacked c.shift c.mask c.least c.is_truth word
  value-of place c word low is =
      let tell = λ (o : PackedColumn). unpacked o.shift o.mask o.least o.is_truth word in
      get_or-map tell columns place c (value.Int (pos 0)) low ∙ ap tell (sym is)

  keys-of-one : (place : ℕ) (c : PackedColumn) (words : List ℕ) → place < length columns → c ≡ get_or columns place c
      → map (key_at (place ∷ [])) (map (unpacked_row columns) words) ≡ map (unpacked_row (c ∷ [])) words
  keys-of-one place c [] low is = refl
  keys-of-one place c (word ∷ words) low is = λ i. (value-of place c word low is i ∷ []) ∷ keys-of-one place c words low is i

  keys-of-two : (place other : ℕ) (c d : PackedColumn) (words : List ℕ) → place < length columns → c ≡ get_or columns place c
      → other < length columns → d ≡ get_or columns other d
      → map (key_at (place ∷ other ∷ [])) (map (unpacked_row columns) words) ≡ map (unpacked_row (c ∷ d ∷ [])) words
  keys-of-two place other c d [] low is low2 is2 = refl
  keys-of-two place other c d (word ∷ words) low is low2 is2 =
      λ i. (value-of place c word low is i ∷ value-of other d word low2 is2 i ∷ []) ∷ keys-of-two place other c d words low is low2 is2 i

  -- the keys by one place are told by its column, and by two by both
  pub keys-by-one : (places : List ℕ) (c : PackedColumn) (words : List ℕ) → length places ≡ 1 → get_or places 0 0 < length columns
      → c ≡ get_or columns (get_or places 0 0) c → map (key_at places) (map (unpacked_row columns) words) ≡ map (unpacked_row (c ∷ [])) words
  keys-by-one [] c words long low is = absurd (omega (arith, long))
  keys-by-one (place ∷ []) c words long low is = keys-of-one place c words low is
  keys-by-one (place ∷ more ∷ places) c words long low is = absurd (omega (arith, long))

  pub keys-by-two : (places : List ℕ) (c d : PackedColumn) (words : List ℕ) → length places ≡ 2 → get_or places 0 0 < length columns
      → c ≡ get_or columns (get_or places 0 0) c → get_or places 1 0 < length columns → d ≡ get_or columns (get_or places 1 0) d
      → map (key_at places) (map (unpacked_row columns) words) ≡ map (unpacked_row (c ∷ d ∷ [])) words
  keys-by-two [] c d words long low is low2 is2 = absurd (omega (arith, long))
  keys-by-two (place ∷ []) c d words long low is low2 is2 = absurd (omega (arith, long))
  keys-by-two (place ∷ other ∷ []) c d words long low is low2 is2 = keys-of-two place other c d words low is low2 is2
  keys-by-two (place ∷ other ∷ more ∷ places) c d words long low is low2 is2 = absurd (omega (arith, long))
