-- Distinct keys stay distinct where a new one comes at the end, and where the last goes.
use Rattle.std.proofs.Common.{◌≡◌, Bool, true, false, not, ◌&&◌, ◌||◌, List, [], ◌∷◌, ◌++◌, refl, sym, ◌∙◌}
use Rattle.std.specs.Cmp.{first_so, second_so}
use Rattle.std.specs.Cmp.Lexicographic.{nat_list_eq_equiv}
use Rattle.std.proofs.lemmas.Bool.{not-true}
use Rattle.std.proofs.lemmas.List.Folds.{list_any-append}
use Rattle.rel_base.specs.declared.names.Key.{Key}
use Rattle.rel_base.specs.Keys.{File, same_key, holds_key, distinct_keys}

pub same_key-sym : (j k : Key) → same_key j k ≡ same_key k j
same_key-sym j k =
    λ i. nat_list_eq_equiv.symm j.user k.user i && nat_list_eq_equiv.symm j.program k.program i && nat_list_eq_equiv.symm j.name k.name i

neither : (a b : Bool) → a || b ≡ false → (a ≡ false) × (b ≡ false)
neither false b e = (refl, e)
neither true b e = cc

-- a file under a new key comes at the end
pub distinct_keys-push : (files : List File) (new : File) → distinct_keys files ≡ true → holds_key files new.0 ≡ false → distinct_keys (files ++ new ∷ []) ≡ true
distinct_keys-push [] new d h = refl
distinct_keys-push (file ∷ files) new d h =
    let apart = neither (same_key file.0 new.0) (holds_key files new.0) h in
    let mine : holds_key files file.0 ≡ false = not-true _ (first_so (not (holds_key files file.0)) (distinct_keys files) d) in
    let other : same_key new.0 file.0 ≡ false = same_key-sym new.0 file.0 ∙ apart.0 in
    let none : holds_key (files ++ new ∷ []) file.0 ≡ false =
    list_any-append (λ (f : File). same_key f.0 file.0) files (new ∷ []) ∙ (λ i. mine i || (other i || false)) in
    λ i. not (none i) && distinct_keys-push files new (second_so (not (holds_key files file.0)) (distinct_keys files) d) apart.1 i

-- the files in front stay distinct where the ones behind go
pub distinct_keys-front : (files others : List File) → distinct_keys (files ++ others) ≡ true → distinct_keys files ≡ true
distinct_keys-front [] others d = refl
distinct_keys-front (file ∷ files) others d =
    let all : not (holds_key (files ++ others) file.0) ≡ true = first_so (not (holds_key (files ++ others) file.0)) (distinct_keys (files ++ others)) d in
    let rest : distinct_keys (files ++ others) ≡ true = second_so (not (holds_key (files ++ others) file.0)) (distinct_keys (files ++ others)) d in
    let none = sym (list_any-append (λ (f : File). same_key f.0 file.0) files others) ∙ not-true _ all in
    let mine = (neither (holds_key files file.0) (holds_key others file.0) none).0 in
    λ i. not (mine i) && distinct_keys-front files others rest i
