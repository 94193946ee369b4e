-- Sorted, and with equal neighbours dropped, the strings of parts are a dictionary.
use Rattle.std.proofs.Common.{◌≡◌, ℕ, zero, suc, ◌<◌, List, [], ◌∷◌, All, length, get_or, refl, sym, subst, arith}
use Rattle.std.specs.Prelude.{Contains, IsPermutation, IsSorted}
use Rattle.std.specs.List.{dedup, flat_map}
use Rattle.std.specs.List.Retain.{IsFiltered, DiffersFromLast}
use Rattle.std.specs.Ordering.{eq_by_cmp, is_eq}
use Rattle.std.specs.declared.cmp.Ordering.{Ordering}
use Rattle.std.specs.declared.cmp.Ordering.TheVariants.{Less, Equal, Greater}
use Rattle.std.specs.Prelude.{true}
use Rattle.std.proofs.lemmas.Cmp.{eq_by_cmp_equiv, nat_list_cmp_total}
use Rattle.std.proofs.lemmas.List.Concat.{flat_map-cons}
use Rattle.std.proofs.lemmas.List.Elements.{Contains-append_left, Contains-append_right}
use Rattle.std.proofs.lemmas.List.Filters.{dedup_is}
use Rattle.std.proofs.lemmas.List.Kept.{IsStrictlySortedBy-dedup, Contains-dedup, Contains-from_dedup}
use Rattle.std.proofs.lemmas.List.Sorted.{Contains-permutation, IsPermutation-sym}
use Rattle.std.proofs.lemmas.Map.Keys.{Less-from_sorted}
use Rattle.rel_base.specs.declared.values.Value.{Value}
use Rattle.rel_base.specs.declared.values.Value.TheVariants as variant
use Rattle.word_table.specs.Words.{text_order, strings_of_value, strings_of_row, strings_of_rows, strings_in, IsDictionaryOf, IsHeld}
use Rattle.word_table.proofs.WordLemmas.{same_text}

-- an order that is tested to be `Equal` is so
pub equal_from_test : (r : Ordering) → is_eq r ≡ true → r ≡ Equal
equal_from_test Less e = cc
equal_from_test Equal e = refl
equal_from_test Greater e = cc

pub dictionary_from_sort : (parts : List (List (List Value))) (found ordered kept : List (List ℕ)) → found ≡ strings_in parts → IsPermutation found ordered → IsSorted text_order ordered → IsFiltered (DiffersFromLast (eq_by_cmp text_order)) [] ordered kept → IsDictionaryOf parts kept
dictionary_from_sort parts found ordered kept all moved up filtered =
    let is : kept ≡ dedup (eq_by_cmp text_order) ordered = dedup_is _ _ _ filtered in
    record {
      ascending = λ i j d below within.
          Less-from_sorted text_order kept i j d (rw is (IsStrictlySortedBy-dedup nat_list_cmp_total (λ s t. refl) ordered up)) below within;
      whole = λ s. (
        (λ (in_kept : Contains kept s).
            subst (λ l. Contains l s) all
            (Contains-permutation ordered found s (IsPermutation-sym found ordered moved)
            (Contains-from_dedup (eq_by_cmp text_order) ordered s (subst (λ l. Contains l s) is in_kept)))),
        (λ (in_parts : Contains (strings_in parts) s).
            subst (λ l. Contains l s) (sym is)
            (Contains-dedup (eq_by_cmp_equiv nat_list_cmp_total) (λ x y e. same_text x y (equal_from_test (text_order x y) e)) ordered s
            (Contains-permutation found ordered s moved (subst (λ l. Contains l s) (sym all) in_parts)))),
      );
    }

-- what an item gives stands in what all items give
pub Contains-flat_map : {X : Type 0} (f : X → List (List ℕ)) (xs : List X) (i : ℕ) (e : X) (s : List ℕ) → i < length xs → Contains (f (get_or xs i e)) s → Contains (flat_map f xs) s
Contains-flat_map f [] i e s below held = absurd (omega arith)
Contains-flat_map f (x ∷ xs) zero e s below held = rw (flat_map-cons f x xs) (Contains-append_left (f x) (flat_map f xs) s held)
Contains-flat_map f (x ∷ xs) (suc i) e s below held =
    rw (flat_map-cons f x xs) (Contains-append_right (f x) (flat_map f xs) s (Contains-flat_map f xs i e s (omega arith) held))

-- a value is held where its strings are
held_from_strings : (strings : List (List ℕ)) (v : Value) → ((s : List ℕ) → Contains (strings_of_value v) s → Contains strings s) → IsHeld strings v
held_from_strings strings (variant.Int n) all = tt
held_from_strings strings (variant.Str s) all = all s (0, omega arith, refl)
held_from_strings strings (variant.Bool b) all = tt

-- a dictionary holds each string of its parts
pub held_by_dictionary : (parts : List (List (List Value))) (strings : List (List ℕ)) → IsDictionaryOf parts strings → All (All (All (IsHeld strings))) parts
held_by_dictionary parts strings is i rows below j row within k v inside =
    held_from_strings strings (get_or (get_or (get_or parts i rows) j row) k v)
    (λ s in_value. (is.whole s).1
    (Contains-flat_map strings_of_rows parts i rows s below
    (Contains-flat_map strings_of_row (get_or parts i rows) j row s within
    (Contains-flat_map strings_of_value (get_or (get_or parts i rows) j row) k v s inside in_value))))
