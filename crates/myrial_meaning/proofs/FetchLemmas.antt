-- Keys that stand once.
use Rattle.std.proofs.Common.{◌≡◌, ◌∙◌, Bool, true, false, not, ◌&&◌, ◌||◌, cond, List, [], ◌∷◌, ◌++◌, get_or, filter, sym, ap, refl}
use Rattle.std.specs.Prelude.{AllPairs}
use Rattle.std.proofs.lemmas.Bool.{false_from_ne_true}
use Rattle.std.proofs.lemmas.List.Elements.{filter-append}
use Rattle.std.proofs.lemmas.List.Folds.{list_any_at}
use Rattle.std.proofs.lemmas.List.Quantifiers.{all_pairs_push}
use Rattle.std.specs.Cmp.{first_so, second_so}
use Rattle.std.specs.Cmp.Lexicographic.{nat_list_eq_equiv}
use Rattle.rel_base.specs.Keys.{same_key}
use Rattle.rel_base.specs.declared.names.Key.{Key}
use Rattle.myrial_meaning.specs.Fetches.{each_once, has_key}

-- ---- each key where it stands first

same_key-congr : (x y z : Key) → same_key x y ≡ true → same_key x z ≡ same_key y z
same_key-congr x y z e =
    let names = second_so _ _ e in
    let front = first_so _ _ e in
    let users = first_so _ _ front in
    let programs = second_so _ _ front in
    λ i. nat_list_eq_equiv.congr x.user y.user z.user users i && nat_list_eq_equiv.congr x.program y.program z.program programs i && nat_list_eq_equiv.congr x.name y.name z.name names i

without : (x y : Key) (keys : List Key) (k : Key) (b : Bool) → same_key x y ≡ b → same_key x k ≡ false → has_key (filter (λ other. not (same_key x other)) keys) k ≡ has_key keys k
    → has_key (cond (not b) (y ∷ filter (λ other. not (same_key x other)) keys) (filter (λ other. not (same_key x other)) keys)) k ≡ has_key (y ∷ keys) k
without x y keys k true e h rest =
    let other : same_key y k ≡ false = sym (same_key-congr x y k e) ∙ h in
    rest ∙ ap (λ b. b || has_key keys k) (sym other)
without x y keys k false e h rest = ap (λ b. same_key y k || b) rest

-- what is left where one key is taken out has another key as before
has_key-without : (x : Key) (keys : List Key) (k : Key) → same_key x k ≡ false → has_key (filter (λ other. not (same_key x other)) keys) k ≡ has_key keys k
has_key-without x [] k h = refl
has_key-without x (y ∷ keys) k h = without x y keys k (same_key x y) refl h (has_key-without x keys k h)

filter-cond : (p : Key → Bool) (c : Bool) (k : Key) → filter p (cond c (k ∷ []) []) ≡ cond c (filter p (k ∷ [])) []
filter-cond p true k = refl
filter-cond p false k = refl

kept : (s a b : Bool) (k : Key) → (s ≡ false → a ≡ b) → cond (not b) (cond (not s) (k ∷ []) []) [] ≡ cond (not (s || a)) (k ∷ []) []
kept true a true k h = refl
kept true a false k h = refl
kept false a b k h = ap (λ c. cond (not c) (k ∷ []) []) (sym (h refl))

pub each_once-push : (keys : List Key) (k : Key) → each_once (keys ++ k ∷ []) ≡ each_once keys ++ filter (λ key. not (has_key (each_once keys) key)) (k ∷ [])
each_once-push [] k = refl
each_once-push (x ∷ keys) k =
    let so_far = each_once keys in
    let apart : Key → Bool = λ other. not (same_key x other) in
    let one : filter apart (filter (λ key. not (has_key so_far key)) (k ∷ [])) ≡ filter (λ key. not (has_key (x ∷ filter apart so_far) key)) (k ∷ []) =
    filter-cond apart (not (has_key so_far k)) k ∙ kept (same_key x k) (has_key (filter apart so_far) k) (has_key so_far k) k (has_key-without x so_far k) in
    ap (λ ks. x ∷ filter apart ks) (each_once-push keys k)
    ∙ ap (λ ks. x ∷ ks) (filter-append apart so_far (filter (λ key. not (has_key so_far key)) (k ∷ [])))
    ∙ ap (λ ks. x ∷ filter apart so_far ++ ks) one

-- a key that isn't there yet leaves the keys distinct
pub distinct-push : (keys : List Key) (key : Key) → AllPairs (λ j k. same_key j k ≡ false) keys → has_key keys key ≡ false
    → AllPairs (λ j k. same_key j k ≡ false) (keys ++ key ∷ [])
distinct-push keys key distinct none =
    all_pairs_push (λ j k. same_key j k ≡ false) keys key distinct (λ k d inside.
    false_from_ne_true (same_key (get_or keys k d) key) (λ e.
    let there = list_any_at (λ j. same_key j key) keys k d inside e in
    let both : true ≡ false = sym there ∙ none in cc))
