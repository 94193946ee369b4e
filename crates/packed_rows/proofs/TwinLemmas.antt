-- Columns that tell others: what is packed in them alone is packed in all, and one more tells no less.
use Rattle.std.proofs.Common.{◌≡◌, ℕ, false, suc, ◌+◌, ◌<◌, List, [], ◌∷◌, ◌++◌, length, map, get_or, drop, refl, sym, ◌∙◌, ap, subst, arith, length-append}
use Rattle.std.proofs.lemmas.List.{ext_get_or, get_or-map, length-map, get_or_append_left, get_or-append-add}
use Rattle.rel_base.specs.declared.values.Value.{Value}
use Rattle.rel_base.specs.declared.values.Value.TheVariants as value
use Rattle.myrial_ast.specs.declared.scalars.Scalar.{Scalar}
use Rattle.myrial_ast.specs.ScalarTrees.{scalar_tree_of}
use Rattle.myrial_ast.specs.Scalars.{exact_value}
use Rattle.myrial_ast.specs.Combinations.{Row, Rows, emitted}
use Rattle.packed_rows.specs.declared.columns.PackedColumn.{PackedColumn}
use Rattle.packed_rows.specs.Unpacked.{unpacked_row, value_told}
use Rattle.packed_rows.specs.inner.Twins.{IsTold, AreTold}

-- where what one function gives decides what another gives, lists that are mapped alike are mapped alike by both
pub maps-follow : {X Y Z : Type 0} (f g : X → Z) (h k : Y → Z) → ((x : X) (y : Y) → f x ≡ h y → g x ≡ k y) → (d : Z) (xs : List X) (ys : List Y) → map f xs ≡ map h ys → map g xs ≡ map k ys
maps-follow f g h k follows d [] [] e = refl
maps-follow f g h k follows d [] (y ∷ ys) e = let none : 0 ≡ suc (length (map h ys)) = ap length e in absurd (omega (arith, none))
maps-follow f g h k follows d (x ∷ xs) [] e = let none : suc (length (map f xs)) ≡ 0 = ap length e in absurd (omega (arith, none))
maps-follow f g h k follows d (x ∷ xs) (y ∷ ys) e =
    let head : g x ≡ k y = follows x y (ap (λ zs. get_or zs 0 d) e) in
    let rest : map g xs ≡ map k ys = maps-follow f g h k follows d xs ys (ap (drop 1) e) in
    λ i. head i ∷ rest i

module _ (columns : List PackedColumn) (picks : List Scalar) (others : List PackedColumn) (emits : List Scalar) (are : AreTold columns picks others emits) (word : ℕ) (row : Row) (is : unpacked_row columns word ≡ emitted (map scalar_tree_of picks) row) where
  abbrev none : Value
  none = value.Bool false

  -- the value of one column
  told-at : (d : PackedColumn) (e : Scalar) (k : ℕ) → length emits ≡ length others → k < length others → get_or (unpacked_row others word) k none ≡ get_or (emitted (map scalar_tree_of emits) row) k none
  told-at d e k many h =
      let t = are.each k d e h in
      let low : t.place < length picks = rw are.long t.there in
      let own : k < length emits = rw many h in
      get_or-map (λ c. value_told c word) others k d none h
      ∙ sym (t.column_is word d)
      ∙ sym (get_or-map (λ c. value_told c word) columns t.place d none t.there)
      ∙ ap (λ r. get_or r t.place none) is
      ∙ emitted-at picks t.place low
      ∙ ap (λ x. exact_value x row) (t.pick_is e)
      ∙ sym (emitted-at emits k own)
    where
      emitted-at : (es : List Scalar) (i : ℕ) → i < length es → get_or (emitted (map scalar_tree_of es) row) i none ≡ exact_value (scalar_tree_of (get_or es i e)) row
      emitted-at es i low =
          get_or-map (λ x. exact_value x row) (map scalar_tree_of es) i (scalar_tree_of e) none (omega (arith, low, length-map es scalar_tree_of))
          ∙ ap (λ x. exact_value x row) (get_or-map scalar_tree_of es i e (scalar_tree_of e) low)

-- a word that gives the values of the columns back gives those of the others back
pub told-row : (columns : List PackedColumn) (picks : List Scalar) (others : List PackedColumn) (emits : List Scalar) → length emits ≡ length others → AreTold columns picks others emits → (word : ℕ) (row : Row)
    → unpacked_row columns word ≡ emitted (map scalar_tree_of picks) row → unpacked_row others word ≡ emitted (map scalar_tree_of emits) row
told-row columns picks [] [] many are word row is = refl
told-row columns picks [] (e ∷ emits) many are word row is = absurd (omega (arith, many))
told-row columns picks (c ∷ others) [] many are word row is = absurd (omega (arith, many))
told-row columns picks (c ∷ others) (e ∷ emits) many are word row is =
    ext_get_or (value.Bool false) (unpacked_row (c ∷ others) word) (emitted (map scalar_tree_of (e ∷ emits)) row) long
    (λ k h. told-at columns picks (c ∷ others) (e ∷ emits) are word row is c e k many (omega (arith, h, length-map (c ∷ others) (λ x. value_told x word))))
  where
    long : length (unpacked_row (c ∷ others) word) ≡ length (emitted (map scalar_tree_of (e ∷ emits)) row)
    long =
        length-map (c ∷ others) (λ x. value_told x word) ∙ sym many
        ∙ sym (length-map (e ∷ emits) scalar_tree_of)
        ∙ sym (length-map (map scalar_tree_of (e ∷ emits)) (λ x. exact_value x row))

-- and so of all words
pub told-rows : (columns : List PackedColumn) (picks : List Scalar) (others : List PackedColumn) (emits : List Scalar) → length emits ≡ length others → AreTold columns picks others emits → (words : List ℕ) (rows : Rows)
    → map (unpacked_row columns) words ≡ map (emitted (map scalar_tree_of picks)) rows → map (unpacked_row others) words ≡ map (emitted (map scalar_tree_of emits)) rows
told-rows columns picks others emits many are words rows e =
    maps-follow (unpacked_row columns) (unpacked_row others) (emitted (map scalar_tree_of picks)) (emitted (map scalar_tree_of emits)) (told-row columns picks others emits many are) [] words rows e

-- a column more tells no less
module _ (columns : List PackedColumn) (picks : List Scalar) (long : length picks ≡ length columns) (column : PackedColumn) (pick made : Scalar) where
  pub IsTold-more : (c : PackedColumn) (p : Scalar) → IsTold columns picks c p → IsTold (columns ++ column ∷ []) (picks ++ made ∷ []) c p
  IsTold-more c p t =
      let low : t.place < length picks = rw long t.there in
      record {
        place = t.place;
        there = rw (length-append columns (column ∷ [])) (omega (arith, t.there));
        column_is = λ word d. ap (λ x. value_told x word) (get_or_append_left columns (column ∷ []) d t.place t.there) ∙ t.column_is word d;
        pick_is = λ d. ap scalar_tree_of (get_or_append_left picks (made ∷ []) d t.place low) ∙ t.pick_is d;
      }

  pub IsTold-last : scalar_tree_of made ≡ scalar_tree_of pick → IsTold (columns ++ column ∷ []) (picks ++ made ∷ []) column pick
  IsTold-last same = record {
    place = length columns;
    there = rw (length-append columns (column ∷ [])) (omega arith);
    column_is = λ word d. ap (λ x. value_told x word) (last columns column d);
    pick_is = λ d. ap scalar_tree_of (subst (λ (n : ℕ). get_or (picks ++ made ∷ []) n d ≡ made) long (last picks made d)) ∙ same;
  }
    where
      last : {X : Type 0} (xs : List X) (x d : X) → get_or (xs ++ x ∷ []) (length xs) d ≡ x
      last xs x d = let place : length xs ≡ length xs + 0 = omega arith in ap (λ n. get_or (xs ++ x ∷ []) n d) place ∙ get_or-append-add xs (x ∷ []) 0 d
