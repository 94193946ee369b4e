-- Packed rows: numbers compare as the rows that they tell do.
use Rattle.std.proofs.Common.{◌≡◌, ◌∙◌, ℕ, suc, ◌+◌, ◌*◌, ◌/◌, ◌%◌, ◌^◌, ◌<◌, ◌≤◌, ℤ, ◌-ℤ◌, ◌≤ℤ◌, ◌<ℤ◌, is_lt, false, List, [], ◌∷◌, ◌++◌, All, get_or, length, map, take, drop, refl, sym, ap, subst, arith, drop-cons, length-append, append_assoc}
use Rattle.std.specs.Prelude.{IsPermutation, IsSorted, unsigned_abs, vec_len}
use Rattle.std.specs.Global.{Vec}
use Rattle.std.specs.Borrow.{Bor}
use Rattle.std.specs.declared.cmp.Ordering.{Ordering}
use Rattle.std.specs.declared.cmp.Ordering.TheVariants.{Less, Equal, Greater}
use Rattle.std.specs.Ordering.{nat_cmp, int_cmp, ordering_then}
use Rattle.std.specs.Cmp.{nat_cmp_is, int_cmp_is}
use Rattle.std.proofs.lemmas.Int.{ints, by_lt_z}
use Rattle.std.proofs.lemmas.List.{drop_all, get_or_default, get_or-map, length-map, map-append, take_more}
use Rattle.std.proofs.lemmas.List.Elements.{All-append}
use Rattle.std.proofs.lemmas.List.Sorted.{All-permutation, IsPermutation-map}
use Rattle.std.proofs.Math.Seq.{get_or-append_seam}
use Rattle.std.proofs.lemmas.Nat.{pow_pos, pow-add, div-mul-add, mod-mul-add, div-add-mod', mul-le, mod_below}
use Rattle.std.proofs.Math.Nat.{pow-le-pow_right}
use Rattle.rel_base.specs.declared.values.Value.{Value}
use Rattle.rel_base.specs.Values.{number_of, value_order, row_order}
use Rattle.rel_base.specs.Bags.{SameBag}
use Rattle.rel_base.proofs.SortLemmas.{All-one, IsSortedBy-part, not_less-first}
use Rattle.packed_numbers.proofs.NumberLemmas.{nat_cmp-parts}
use Rattle.collector.proofs.SortingLemmas.{then_Equal, in_order_as_rows}
use Rattle.collector.specs.declared.fields.Field.{Field}
use Rattle.collector.specs.inner.Packing.{all_digits, distance, HasRoom, IsPacked, row_told, TellsRow, TellRows}
use Rattle.collector.specs.inner.Sorted.{rows_at, IsSortedPart}

-- ---- ints compare as their distances from a least one

distances-order : (l n m : ℤ) → l ≤ℤ n → l ≤ℤ m → nat_cmp (unsigned_abs (n -ℤ l)) (unsigned_abs (m -ℤ l)) ≡ int_cmp n m
distances-order l n m above others =
    let near = unsigned_abs (n -ℤ l) in
    let far = unsigned_abs (m -ℤ l) in
    by_lt_z n m
    (λ (less : n <ℤ m). let low : near < far = omega (arith, ints) in sym (nat_cmp_is near far Less low) ∙ int_cmp_is n m Less less)
    (λ (most : m ≤ℤ n). by_lt_z m n
    (λ (over : m <ℤ n). let high : far < near = omega (arith, ints) in sym (nat_cmp_is near far Greater high) ∙ int_cmp_is n m Greater over)
    (λ (least : n ≤ℤ m). let same : n ≡ m = omega (arith, ints) in
    sym (nat_cmp_is near far Equal (ap (λ k. unsigned_abs (k -ℤ l)) same)) ∙ int_cmp_is n m Equal same))

-- values for which a field has room
values-order : (f : Field) (v w : Value) → HasRoom f v → HasRoom f w → nat_cmp (distance f v) (distance f w) ≡ value_order v w
values-order f v w room other =
    distances-order f.least (number_of v) (number_of w) room.above other.above
    ∙ sym (then_Equal (int_cmp (number_of v) (number_of w)))
    ∙ (λ i. value_order (sym room.is_int i) (sym other.is_int i))

-- ---- packed rows

-- numbers compare as the rows that are packed in them
pub packed-order : (fields : List Field) (row other : List Value) (n m : ℕ) → IsPacked fields row n → IsPacked fields other m
    → nat_cmp n m ≡ row_order row other
packed-order [] [] [] n m one two = rw (one, two) refl
packed-order [] [] (w ∷ other) n m one two = absurd two
packed-order [] (v ∷ row) other n m one two = absurd one
packed-order (f ∷ fields) [] other n m one two = absurd one
packed-order (f ∷ fields) (v ∷ row) [] n m one two = absurd two
packed-order (f ∷ fields) (v ∷ row) (w ∷ other) n m one two =
    let d = 2 ^ all_digits fields in
    let first : nat_cmp (n / d) (m / d) ≡ value_order v w =
    (λ i. nat_cmp (one.1 i) (two.1 i)) ∙ values-order f v w one.0 two.0 in
    nat_cmp-parts n m d (pow_pos (all_digits fields))
    ∙ (λ i. ordering_then (first i) (packed-order fields row other (n % d) (m % d) one.2 two.2 i))

-- a packed row has no more digits than the fields
pub packed-below : (fields : List Field) (row : List Value) (n : ℕ) → IsPacked fields row n → n < 2 ^ all_digits fields
packed-below [] [] n packed = omega (arith, packed)
packed-below [] (v ∷ row) n packed = absurd packed
packed-below (f ∷ fields) [] n packed = absurd packed
packed-below (f ∷ fields) (v ∷ row) n packed =
    let d = 2 ^ all_digits fields in
    let some : 0 < d = pow_pos (all_digits fields) in
    let whole : n / d * d + n % d ≡ n = div-add-mod' n d in
    let low : n % d < d = mod_below n d some in
    let below : distance f v < 2 ^ f.digits = packed.0.below in
    let front : n / d ≡ distance f v = packed.1 in
    let less : n / d + 1 ≤ 2 ^ f.digits = omega arith in
    let most : (n / d + 1) * d ≤ 2 ^ f.digits * d = mul-le (n / d + 1) d (2 ^ f.digits) d less (omega arith) in
    rw (pow-add 2 f.digits (all_digits fields)) (omega arith)

-- a row's first int stands in front of the others
packed-more : (f : Field) (fields : List Field) (v : Value) (row : List Value) (n : ℕ) → HasRoom f v → IsPacked fields row n
    → IsPacked (f ∷ fields) (v ∷ row) (distance f v * 2 ^ all_digits fields + n)
packed-more f fields v row n room packed =
    let d = 2 ^ all_digits fields in
    let low : n < d = packed-below fields row n packed in
    (room, div-mul-add (distance f v) d n low, rw (mod-mul-add (distance f v) d n low) packed)

-- what the first fields have stands in front of the others
abbrev pub IsFront : List Field → List Value → ℕ → ℕ → Type 0
IsFront fields row k number =
    (n : ℕ) → IsPacked (drop k fields) (drop k row) n → IsPacked fields row (number * 2 ^ all_digits (drop k fields) + n)

-- and leaves room for them
abbrev pub LeavesRoom : List Field → ℕ → ℕ → Type 0
LeavesRoom fields k number = (number + 1) * 2 ^ all_digits (drop k fields) ≤ 2 ^ all_digits fields

-- the item at a place stands in front of those behind it
item_dropped : {T : Type 0} (xs : List T) (k : ℕ) (x : T) → k < length xs → x ≡ get_or xs k x → drop k xs ≡ x ∷ drop (suc k) xs
item_dropped xs k x there is = drop-cons xs k x there ∙ ap (λ y. y ∷ drop (suc k) xs) (sym is)

module _ (fields : List Field) (row : List Value) (k number low : ℕ) (f : Field) (v : Value)
    (as_long : length row ≡ length fields) (there : k < length fields) (own : f ≡ get_or fields k f) (read : v ≡ get_or row k v)
    (is : low ≡ distance f v) (room : HasRoom f v) where
  field : drop k fields ≡ f ∷ drop (suc k) fields
  field = item_dropped fields k f there own

  value : drop k row ≡ v ∷ drop (suc k) row
  value = item_dropped row k v (omega arith) read

  digits : 2 ^ all_digits (drop k fields) ≡ 2 ^ f.digits * 2 ^ all_digits (drop (suc k) fields)
  digits = ap (λ fs. 2 ^ all_digits fs) field ∙ pow-add 2 f.digits (all_digits (drop (suc k) fields))

  products : (a b c l n : ℕ) → a * (b * c) + (l * c + n) ≡ (a * b + l) * c + n
  products a b c l n = omega arith

  pub IsFront-more : IsFront fields row k number → IsFront fields row (suc k) (number * 2 ^ f.digits + low)
  IsFront-more front n packed =
      let rest = all_digits (drop (suc k) fields) in
      let own : IsPacked (f ∷ drop (suc k) fields) (v ∷ drop (suc k) row) (low * 2 ^ rest + n) =
      rw is (packed-more f (drop (suc k) fields) v (drop (suc k) row) n room packed) in
      let here : IsPacked (drop k fields) (drop k row) (low * 2 ^ rest + n) = rw (field, value) own in
      let all = front (low * 2 ^ rest + n) here in
      subst (IsPacked fields row) (ap (λ d. number * d + (low * 2 ^ rest + n)) digits ∙ products number (2 ^ f.digits) (2 ^ rest) low n) all

  pub LeavesRoom-more : LeavesRoom fields k number → LeavesRoom fields (suc k) (number * 2 ^ f.digits + low)
  LeavesRoom-more left =
      let rest = 2 ^ all_digits (drop (suc k) fields) in
      let below : low + 1 ≤ 2 ^ f.digits = omega (arith, room.below, is) in
      let most : (number * 2 ^ f.digits + low + 1) * rest ≤ ((number + 1) * 2 ^ f.digits) * rest =
      mul-le (number * 2 ^ f.digits + low + 1) rest ((number + 1) * 2 ^ f.digits) rest (omega arith) (omega arith) in
      let all : (number + 1) * (2 ^ f.digits * rest) ≤ 2 ^ all_digits fields = rw digits at left in
      omega arith

  -- so that it fits
  pub next-fits : LeavesRoom fields k number → (size : ℕ) → all_digits fields ≤ size → number * 2 ^ f.digits + low < 2 ^ size
  next-fits left size few =
      let rest = 2 ^ all_digits (drop (suc k) fields) in
      let more : (number * 2 ^ f.digits + low + 1) * rest ≤ 2 ^ all_digits fields = LeavesRoom-more left in
      let some : 1 ≤ rest = pow_pos (all_digits (drop (suc k) fields)) in
      let most : 2 ^ all_digits fields ≤ 2 ^ size = pow-le-pow_right (omega arith) few in
      let one : (number * 2 ^ f.digits + low + 1) * 1 ≤ (number * 2 ^ f.digits + low + 1) * rest =
      mul-le (number * 2 ^ f.digits + low + 1) 1 (number * 2 ^ f.digits + low + 1) rest (omega arith) some in
      omega arith

-- all ints are packed
pub IsPacked-all : (fields : List Field) (row : List Value) (k number : ℕ) → length row ≡ length fields → length fields ≤ k
    → IsFront fields row k number → IsPacked fields row number
IsPacked-all fields row k number as_long all_read front =
    let none : drop k fields ≡ [] = drop_all k fields all_read in
    let over : drop k row ≡ [] = drop_all k row (omega arith) in
    let last : IsPacked (drop k fields) (drop k row) 0 = rw (none, over) refl in
    let all = front 0 last in
    subst (IsPacked fields row) (ap (λ fs. number * 2 ^ all_digits fs + 0) none ∙ omega arith) all

-- ---- rows in front of their places

-- a packed row and its place fit
pub place_fits : (fields : List Field) (row : List Value) (n digits place size : ℕ) → IsPacked fields row n → place < 2 ^ digits
    → all_digits fields + digits ≤ size → n * 2 ^ digits + place < 2 ^ size
place_fits fields row n digits place size packed low few =
    let below : n + 1 ≤ 2 ^ all_digits fields = omega (arith, packed-below fields row n packed) in
    let most : (n + 1) * 2 ^ digits ≤ 2 ^ all_digits fields * 2 ^ digits = mul-le (n + 1) (2 ^ digits) (2 ^ all_digits fields) (2 ^ digits) below (omega arith) in
    let all : 2 ^ (all_digits fields + digits) ≤ 2 ^ size = pow-le-pow_right (omega arith) few in
    omega (arith, pow-add 2 (all_digits fields) digits)

module _ (part : List (List Value)) (fields : List Field) (digits : ℕ) where
  abbrev told : ℕ → List Value
  told n = row_told part digits n

  -- the number of the row behind those before it tells that row
  pub next_told : (done : List (List Value)) (row : List Value) (left : List (List Value)) (n : ℕ) → done ++ (row ∷ left) ≡ part
      → n % 2 ^ digits ≡ length done → told n ≡ row
  next_told done row left n whole place =
      rw (place, ← whole) (get_or-append_seam done row left [])

  pub next_TellsRow : (done : List (List Value)) (row : List Value) (left : List (List Value)) (n : ℕ) → done ++ (row ∷ left) ≡ part
      → n % 2 ^ digits ≡ length done → IsPacked fields row (n / 2 ^ digits) → TellsRow part fields digits n
  next_TellsRow done row left n whole place packed = record {
    within = omega (arith, ap length whole, length-append done (row ∷ left), place);
    packed = rw (next_told done row left n whole place) packed;
  }

  -- what is not less as a number is not less as a row
  told-not_less : (n m : ℕ) → TellsRow part fields digits n → TellsRow part fields digits m → is_lt (nat_cmp n m) ≡ false
      → is_lt (row_order (told n) (told m)) ≡ false
  told-not_less n m one other e =
      let d = 2 ^ digits in
      let rows : nat_cmp (n / d) (m / d) ≡ row_order (told n) (told m) =
      packed-order fields (told n) (told m) (n / d) (m / d) one.packed other.packed in
      not_less-first (row_order (told n) (told m)) (nat_cmp (n % d) (m % d))
      (rw (nat_cmp-parts n m d (pow_pos digits), rows) at e)

  module _ {X : Type 0} (value : X → ℕ) (numbers ascending : List X) (moved : IsPermutation numbers ascending)
      (tell : TellRows part fields digits (map value numbers)) where
    each_moved : All (TellsRow part fields digits) (map value ascending)
    each_moved =
        All-permutation (TellsRow part fields digits) (map value numbers) (map value ascending)
        (IsPermutation-map value numbers ascending moved) tell.each

    -- sorted numbers tell places of the part
    pub places_within : All (λ n. n % 2 ^ digits < length part) (map value ascending)
    places_within k d low = (each_moved k d low).within

    -- and the rows there are those of the part in ascending order
    pub sorted_told : (R : X → X → Ordering) → ((x y : X) → R x y ≡ nat_cmp (value x) (value y)) → IsSorted R ascending
        → (rows : Vec (Bor (List Value))) → rows_at rows.items ≡ map told (map value ascending) → vec_len rows ≡ length rows.items
        → IsSortedPart part rows
    sorted_told R compares sorted rows made long =
        let numbers_sorted : IsSorted nat_cmp (map value ascending) =
        IsSortedBy-part (λ (x : X). Unit {0}) value (λ n m. is_lt (nat_cmp n m)) (λ x y. is_lt (R x y))
        (λ x y one other e. ap is_lt (sym (compares x y)) ∙ e) ascending (λ k d low. tt) sorted in
        let rows_sorted : IsSorted row_order (map told (map value ascending)) =
        IsSortedBy-part (TellsRow part fields digits) told (λ r s. is_lt (row_order r s)) (λ n m. is_lt (nat_cmp n m))
        told-not_less (map value ascending) each_moved numbers_sorted in
        let same : SameBag (map told (map value numbers)) (map told (map value ascending)) =
        IsPermutation-map told _ _ (IsPermutation-map value numbers ascending moved) in
        record {
          same_rows = rw made (rw tell.rows at same);
          ascending = record { in_order = in_order_as_rows rows.items (rw made rows_sorted); long = long };
        }

-- the rows of a part that numbers tell
abbrev pub told_by : {X : Type 0} → List (List Value) → ℕ → (X → ℕ) → List X → List (List Value)
told_by part digits value numbers = map (row_told part digits) (map value numbers)

-- the numbers so far tell the rows so far, and one row more comes
module _ {X : Type 0} (value : X → ℕ) (part : List (List Value)) (fields : List Field) (digits : ℕ) (numbers : List X)
    (row : List Value) (left : List (List Value)) (place : ℕ) (count : place ≡ length numbers)
    (whole : told_by part digits value numbers ++ (row ∷ left) ≡ part) where
  abbrev done : List (List Value)
  done = told_by part digits value numbers

  long : place ≡ length done
  long = count ∙ sym (length-map numbers value) ∙ sym (length-map (map value numbers) (row_told part digits))

  pub next_place : place < length part
  next_place = omega (arith, long, ap length whole, length-append done (row ∷ left))

  module _ (number : X) (at : value number % 2 ^ digits ≡ place) where
    pub more_told : told_by part digits value (numbers ++ number ∷ []) ++ left ≡ part
    more_told =
        let here : row_told part digits (value number) ≡ row =
        next_told part fields digits done row left (value number) whole (at ∙ long) in
        rw (map-append value numbers (number ∷ []), map-append (row_told part digits) (map value numbers) (value number ∷ []), here, append_assoc) whole

    pub more_TellsRow : IsPacked fields row (value number / 2 ^ digits) → All (TellsRow part fields digits) (map value numbers)
        → All (TellsRow part fields digits) (map value (numbers ++ number ∷ []))
    more_TellsRow packed all =
        rw (map-append value numbers (number ∷ []))
        (All-append (TellsRow part fields digits) (map value numbers) (value number ∷ []) all
        (All-one (TellsRow part fields digits) (value number)
        (next_TellsRow part fields digits done row left (value number) whole (at ∙ long) packed)))

-- a number tells a place of the part, and the row there
module _ {X : Type 0} (value : X → ℕ) (part : List (List Value)) (digits : ℕ) (numbers : List X) (k : ℕ) (number : X)
    (there : k < length numbers) (own : number ≡ get_or numbers k number) where
  pub told_within : All (λ n. n % 2 ^ digits < length part) (map value numbers) → value number % 2 ^ digits < length part
  told_within all =
      let read : get_or (map value numbers) k 0 ≡ value number = get_or-map value numbers k number 0 there ∙ ap value (sym own) in
      subst (λ n. n % 2 ^ digits < length part) read (all k 0 (omega (arith, there, length-map numbers value)))

  pub told_more : (rows : List (Bor (List Value))) (row : Bor (List Value)) → value number % 2 ^ digits < length part
      → row.now ≡ get_or part (value number % 2 ^ digits) row.now → rows_at rows ≡ told_by part digits value (take k numbers)
      → rows_at (rows ++ row ∷ []) ≡ told_by part digits value (take (k + 1) numbers)
  told_more rows row within is so_far =
      let here : row.now ≡ row_told part digits (value number) =
      is ∙ get_or_default part (value number % 2 ^ digits) row.now [] within in
      let more : take (k + 1) numbers ≡ take k numbers ++ number ∷ [] =
      take_more numbers k number there ∙ ap (λ x. take k numbers ++ x ∷ []) (sym own) in
      rw (more, map-append value (take k numbers) (number ∷ []), map-append (row_told part digits) (map value (take k numbers)) (value number ∷ []))
      (map-append (λ (r : Bor (List Value)). r.now) rows (row ∷ []) ∙ (λ i. so_far i ++ here i ∷ []))
