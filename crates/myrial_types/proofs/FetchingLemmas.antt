-- Keys that are put into a set in order stand there each once.
use Rattle.std.proofs.Common.{◌≡◌, ◌∙◌, Bool, true, false, cond, not, ◌&&◌, ◌||◌, List, [], ◌∷◌, ◌++◌, filter, sym, ap, refl}
use Rattle.std.specs.List.{list_any}
use Rattle.std.proofs.lemmas.List.{append_assoc, append-nil}
use Rattle.indexmap.specs.IndexSet.{insert_key, insert_all}
use Rattle.rel_base.specs.Keys.{same_key}
use Rattle.rel_base.proofs.KeyLemmas.{same_key-sym}
use Rattle.rel_base.specs.declared.names.Key.{Key}
use Rattle.myrial_meaning.specs.Fetches.{each_once, has_key}
use Rattle.myrial_meaning.proofs.FetchLemmas.{each_once-push}

any-has : (keys : List Key) (k : Key) → list_any (same_key k) keys ≡ has_key keys k
any-has [] k = refl
any-has (x ∷ keys) k = λ i. same_key-sym k x i || any-has keys k i

-- a key goes last unless it is there
inserted : (keys : List Key) (k : Key) → insert_key same_key keys k ≡ keys ++ filter (λ key. not (has_key keys key)) (k ∷ [])
inserted keys k = ap (λ b. cond b keys (keys ++ k ∷ [])) (any-has keys k) ∙ by (has_key keys k)
  where
    by : (b : Bool) → cond b keys (keys ++ k ∷ []) ≡ keys ++ cond (not b) (k ∷ []) []
    by true = sym (append-nil keys)
    by false = refl

insert_all-behind : (front back : List Key) → insert_all same_key (each_once front) back ≡ each_once (front ++ back)
insert_all-behind front [] = ap each_once (sym (append-nil front))
insert_all-behind front (k ∷ back) =
    ap (λ keys. insert_all same_key keys back) (inserted (each_once front) k ∙ sym (each_once-push front k))
    ∙ insert_all-behind (front ++ k ∷ []) back ∙ ap each_once (append_assoc front (k ∷ []) back)

-- all keys, put in one after another
pub insert_all-none : (keys : List Key) → insert_all same_key [] keys ≡ each_once keys
insert_all-none keys = insert_all-behind [] keys

-- first these, and then those
pub insert_all-append : (keys front back : List Key) → insert_all same_key keys (front ++ back) ≡ insert_all same_key (insert_all same_key keys front) back
insert_all-append keys [] back = refl
insert_all-append keys (k ∷ front) back = insert_all-append (insert_key same_key keys k) front back

-- ---- a set that tells keys apart by another test with the same answers

pub and_assoc : (a b c : Bool) → (a && (b && c)) ≡ (a && b && c)
and_assoc true b c = refl
and_assoc false b c = refl

module _ (eq : Key → Key → Bool) (same : (a b : Key) → eq a b ≡ same_key a b) where
  any-same : (keys : List Key) (k : Key) → list_any (eq k) keys ≡ list_any (same_key k) keys
  any-same [] k = refl
  any-same (x ∷ keys) k = λ i. same k x i || any-same keys k i

  pub insert_key-same : (keys : List Key) (k : Key) → insert_key eq keys k ≡ insert_key same_key keys k
  insert_key-same keys k = ap (λ b. cond b keys (keys ++ k ∷ [])) (any-same keys k)
