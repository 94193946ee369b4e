-- A loop over the fields of a record has them in turn.
use Rattle.std.proofs.Common.{◌≡◌, ◌∙◌, ℕ, zero, suc, ◌+◌, Option, Some, None, option_map, List, [], ◌∷◌, length, drop, refl, sym, ap, arith, Bor}
use Rattle.std.specs.declared.iter.Zip.{Zip}
use Rattle.std.specs.declared.slice.Iter.{Iter}
use Rattle.std.specs.Iterator.Adapters.{zip_first, zip_second}
use Rattle.std.specs.Slice.Iter.{iter_rest}
use Rattle.std.specs.List.{zip}
use Rattle.std.proofs.iter.Yields.{fronts}
use Rattle.rel_base.specs.declared.relations.Column.{Column}
use Rattle.std.specs.Option.{IfSome}
use Rattle.std.proofs.lemmas.Iterator.{YieldsList, YieldsList-from_slice, YieldsList-from_zip, zips}
use Rattle.std.proofs.lemmas.Iterator.Consumers.{YieldsList-from_shown}
use Rattle.csv.specs.Records.{field_at, fields_of}
use Rattle.csv.specs.declared.record.StringRecordIter.{StringRecordIter}

-- what a step of the iterator gives
abbrev pub field_steps : StringRecordIter → Option (Bor (List ℕ)) → StringRecordIter → Type 0
field_steps a r b =
    (b.row ≡ a.row) × (option_map (λ s. s.now) r ≡ field_at (fields_of a.row.now) a.at)
    × IfSome r (λ _. b.at ≡ a.at + 1)

-- the fields that an iterator has yet to give
abbrev pub fields_ahead : StringRecordIter → List (List ℕ)
fields_ahead s = drop s.at (fields_of s.row.now)

drop-field_at : (fields : List (List ℕ)) (i : ℕ) (x : List ℕ) → Some x ≡ field_at fields i
    → drop i fields ≡ x ∷ drop (i + 1) fields
unfolding field_at
drop-field_at [] i x e = cc
drop-field_at (f ∷ fs) zero x e = let same : x ≡ f = cc in ap (λ y. y ∷ fs) (sym same)
drop-field_at (f ∷ fs) (suc i) x e = let next : suc i + 1 ≡ suc (i + 1) = omega arith in rw next (drop-field_at fs i x e)

drop-no_field : (fields : List (List ℕ)) (i : ℕ) → None ≡ field_at fields i → length (drop i fields) ≡ 0
unfolding field_at
drop-no_field [] zero e = refl
drop-no_field [] (suc i) e = refl
drop-no_field (f ∷ fs) zero e = cc
drop-no_field (f ∷ fs) (suc i) e = drop-no_field fs i e

-- an iterator gives the fields that are ahead of it
YieldsList-ahead : (s : StringRecordIter) → YieldsList field_steps (λ (f : Bor (List ℕ)). f.now) s (fields_ahead s)
YieldsList-ahead s =
    YieldsList-from_shown field_steps (λ f. f.now) fields_ahead
    (λ a b step. drop-no_field (fields_of a.row.now) a.at step.1)
    (λ a f b step. drop-field_at (fields_of a.row.now) a.at f.now step.1
    ∙ ap (λ fs. f.now ∷ fs) (sym (rw (step.0, step.2) refl)))
    s

-- an iterator at its start gives all fields
pub YieldsList-from_record : (s : StringRecordIter) (fields : List (List ℕ)) → s.at ≡ 0 → fields_of s.row.now ≡ fields
    → YieldsList field_steps (λ (f : Bor (List ℕ)). f.now) s fields
YieldsList-from_record s fields at is =
    let all : fields_ahead s ≡ fields = rw at is in
    rw all at (YieldsList-ahead s)

-- a loop over columns and fields has them in pairs
pub YieldsList-from_pairs : (z : Zip (Iter Column) StringRecordIter) (schema : List Column) (fields : List (List ℕ))
    → iter_rest (zip_first z) ≡ schema
    → (zip_second z).at ≡ 0 → fields_of (zip_second z).row.now ≡ fields
    → YieldsList (zips fronts field_steps) (λ (p : Bor Column × Bor (List ℕ)). (p.0.now, p.1.now)) z (zip schema fields)
YieldsList-from_pairs z schema fields columns at is =
    YieldsList-from_zip {s = z} (YieldsList-from_slice {s = zip_first z} schema columns)
    (YieldsList-from_record (zip_second z) fields at is)
