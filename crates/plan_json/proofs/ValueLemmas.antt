-- What values are, one after another.
use Rattle.std.proofs.Common.{◌≡◌, ◌∙◌, ℕ, ◌+◌, Bool, true, false, cond, nat_le, List, [], ◌∷◌, ◌++◌, map, length, take, drop, Option, Some, None, option_map, option_and_then, IsUtf8, refl, sym, ap, append_assoc, take-append-drop}
use Rattle.std.specs.Str.{is_utf8}
use Rattle.std.proofs.lemmas.List.{map-append, length-map}
use Rattle.std.proofs.lemmas.Str.{IsUtf8-from_is_utf8}
use Rattle.serde_json.specs.Data.{Data}
use Rattle.serde_json.specs.Find.{as_array}
use Rattle.serde_json.specs.Read.{read}
use Rattle.serde_json.specs.View.{view, items_of, items_view}
use Rattle.serde_json.specs.declared.value.Value.{Value}
use Rattle.plan_json.specs.PlanTexts.{each_of, items_within, list_of, value_in}

-- the list of items is that of their data
pub list_of-items_of : (ds : List Data) → list_of (items_of ds) ≡ ds
list_of-items_of [] = refl
list_of-items_of (d ∷ ds) = ap (λ more. d ∷ more) (list_of-items_of ds)

-- the items of an array of values, where they are within a number
pub items_told : (most : ℕ) (vs : List Value) (d : Data) → Some (items_view vs) ≡ as_array d
    → items_within most d ≡ (cond (nat_le (length vs) most) (Some (map view vs)) None)
items_told most vs d is = rw (sym is, list_of-items_of (map view vs), length-map vs view) refl

-- what values are, one list behind another
each_append : {X : Type 0} (f : Data → Option X) (ds es : List Data)
    → each_of f (ds ++ es) ≡ option_and_then (λ xs. option_map (λ ys. xs ++ ys) (each_of f es)) (each_of f ds)
each_append f [] es = same (each_of f es)
  where
    same : {X : Type 0} (o : Option (List X)) → o ≡ option_map (λ ys. [] ++ ys) o
    same None = refl
    same (Some ys) = refl
each_append f (d ∷ ds) es =
    ap (λ r. option_and_then (λ x. option_map (λ xs. x ∷ xs) r) (f d)) (each_append f ds es)
    ∙ regroup (f d) (each_of f ds) (each_of f es)
  where
    regroup : {X : Type 0} (o : Option X) (a b : Option (List X))
        → option_and_then (λ x. option_map (λ xs. x ∷ xs) (option_and_then (λ xs. option_map (λ ys. xs ++ ys) b) a)) o
        ≡ option_and_then (λ xs. option_map (λ ys. xs ++ ys) b) (option_and_then (λ x. option_map (λ xs. x ∷ xs) a) o)
    regroup None a b = refl
    regroup (Some x) None b = refl
    regroup (Some x) (Some xs) None = refl
    regroup (Some x) (Some xs) (Some ys) = refl

-- one value more is one thing more
pub each_more : {X : Type 0} (f : Data → Option X) (vs : List Value) (k : ℕ) (v : Value) {xs : List X} {x : X}
    → take (k + 1) vs ≡ take k vs ++ v ∷ [] → each_of f (map view (take k vs)) ≡ Some xs → f (view v) ≡ Some x
    → each_of f (map view (take (k + 1) vs)) ≡ Some (xs ++ x ∷ [])
each_more f vs k v more so_far next =
    ap (λ all. each_of f (map view all)) more ∙ ap (each_of f) (map-append view (take k vs) (v ∷ []))
    ∙ each_append f (map view (take k vs)) (view v ∷ [])
    ∙ rw (so_far, next) refl

-- where a value is nothing, all of them are
pub each_none : {X : Type 0} (f : Data → Option X) (vs : List Value) (k : ℕ) (v : Value)
    → take (k + 1) vs ≡ take k vs ++ v ∷ [] → f (view v) ≡ None → each_of f (map view vs) ≡ None
each_none f vs k v more none =
    let parts : vs ≡ take k vs ++ (v ∷ drop (k + 1) vs) =
    sym (take-append-drop (k + 1) vs) ∙ ap (λ front. front ++ drop (k + 1) vs) more
    ∙ append_assoc (take k vs) (v ∷ []) (drop (k + 1) vs) in
    ap (λ all. each_of f (map view all)) parts
    ∙ ap (each_of f) (map-append view (take k vs) (v ∷ drop (k + 1) vs))
    ∙ each_append f (map view (take k vs)) (view v ∷ map view (drop (k + 1) vs))
    ∙ rw none (nothing (each_of f (map view (take k vs))))
  where
    nothing : {X : Type 0} (o : Option (List X)) → option_and_then (λ xs. option_map (λ (ys : List X). xs ++ ys) None) o ≡ None
    nothing None = refl
    nothing (Some x) = refl

-- bytes that aren't UTF-8, or that are the text of no value
pub no_value : (bytes : List ℕ) → (IsUtf8 bytes → read bytes ≡ None) → value_in bytes ≡ None
no_value bytes none = either (is_utf8 bytes) (read bytes) (λ yes. none (IsUtf8-from_is_utf8 bytes yes))
  where
    either : (b : Bool) (o : Option Data) → (b ≡ true → o ≡ None) → cond b o None ≡ None
    either true o h = h refl
    either false o h = refl
