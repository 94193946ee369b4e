-- The text of a record, piece by piece.
use Rattle.std.proofs.Common.{◌≡◌, ◌≢◌, ◌∙◌, ℕ, ◌+◌, ◌<◌, eqb, Bool, true, false, cond, List, [], ◌∷◌, ◌++◌, Result, Ok, Err, OnErr, length, get_or, drop, map, take, refl, sym, ap, append_assoc, arith, length-append}
use Rattle.std.proofs.lemmas.Bool.{eq-eqb, ne_eqb}
use Rattle.std.proofs.lemmas.Bool.Decides.{nat_tests}
use Rattle.std.proofs.Math.Seq.{take-append_seam}
use Rattle.std.proofs.lemmas.List.{append-nil, map-append, take-append-drop, take_more}
use Rattle.relation_csv.specs.RecordTexts.{Extends}
use Rattle.csv.specs.Writing.{default_writer, escaped, field_text, fields_text, is_blank, row_body, row_text}

-- the bytes between quotes, one more at the end
escaped-push : (xs : List ℕ) (b : ℕ) → escaped default_writer (xs ++ b ∷ []) ≡ escaped default_writer xs ++
    (cond (eqb b 34) (34 ∷ []) [] ++ b ∷ [])
unfolding escaped
escaped-push [] b = by (eqb b 34)
  where
    by : (t : Bool) → cond t (34 ∷ b ∷ []) (b ∷ []) ≡ cond t (34 ∷ []) [] ++ b ∷ []
    by true = refl
    by false = refl
escaped-push (x ∷ xs) b = rw (escaped-push xs b) (by (eqb x 34))
  where
    by : (t : Bool) → cond t (34 ∷ x ∷ (escaped default_writer xs ++ (cond (eqb b 34) (34 ∷ []) [] ++ b ∷ [])))
        (x ∷ (escaped default_writer xs ++ (cond (eqb b 34) (34 ∷ []) [] ++ b ∷ [])))
        ≡ cond t (34 ∷ x ∷ escaped default_writer xs) (x ∷ escaped default_writer xs) ++
        (cond (eqb b 34) (34 ∷ []) [] ++ b ∷ [])
    by true = refl
    by false = refl

escaped-more : (field : List ℕ) (i : ℕ) → i < length field
    → escaped default_writer (take (i + 1) field) ≡ escaped default_writer (take i field) ++
    (cond (eqb (get_or field i 0) 34) (34 ∷ []) [] ++ get_or field i 0 ∷ [])
escaped-more field i low = rw (take_more field i 0 low) (escaped-push (take i field) (get_or field i 0))

-- the turn of a loop at a quote, which is written twice
pub escaped-quote : (start so_far quoted whole field : List ℕ) (i : ℕ) → i < length field → get_or field i 0 ≡ 34
    → so_far ≡ start ++ escaped default_writer (take i field) → quoted ≡ so_far ++ 34 ∷ []
    → whole ≡ quoted ++ get_or field i 0 ∷ []
    → whole ≡ start ++ escaped default_writer (take (i + 1) field)
escaped-quote start so_far quoted whole field i low quote so_far_is quoted_is whole_is =
    let more = escaped-more field i low in
    let test = eq-eqb (get_or field i 0) 34 quote in
    rw (more, test, whole_is, quoted_is, so_far_is)
    (append_assoc (start ++ escaped default_writer (take i field)) (34 ∷ []) (get_or field i 0 ∷ [])
    ∙ append_assoc start (escaped default_writer (take i field)) (34 ∷ get_or field i 0 ∷ []))

-- the turn at another byte
pub escaped-other : (start so_far whole field : List ℕ) (i : ℕ) → i < length field → get_or field i 0 ≢ 34
    → so_far ≡ start ++ escaped default_writer (take i field) → whole ≡ so_far ++ get_or field i 0 ∷ []
    → whole ≡ start ++ escaped default_writer (take (i + 1) field)
escaped-other start so_far whole field i low other so_far_is whole_is =
    let more = escaped-more field i low in
    let test = ne_eqb (get_or field i 0) 34 other in
    rw (more, test, whole_is, so_far_is) (append_assoc start (escaped default_writer (take i field))
    (get_or field i 0 ∷ []))

-- the fields after the first, one more at the end
fields_text-push : (fields : List (List ℕ)) (field : List ℕ)
    → fields_text default_writer (fields ++ field ∷ []) ≡ fields_text default_writer fields ++
    (44 ∷ field_text default_writer field)
unfolding fields_text
fields_text-push [] field = ap (λ (t : List ℕ). 44 ∷ t) (append-nil (field_text default_writer field))
fields_text-push (f ∷ fs) field =
    ap (λ (t : List ℕ). 44 ∷ t) (ap (λ (t : List ℕ). field_text default_writer f ++ t) (fields_text-push fs field)
    ∙ sym (append_assoc (field_text default_writer f) (fields_text default_writer fs)
    (44 ∷ field_text default_writer field)))

-- the turn of a loop that writes a comma and a field
pub fields_text-next : {X : Type 0} (bytes : X → List ℕ) (items : List X) (i : ℕ) (x : X)
    (start so_far with_comma whole : List ℕ) → i < length items → x ≡ get_or items i x
    → so_far ≡ start ++ fields_text default_writer (map bytes (take i items)) → with_comma ≡ so_far ++ 44 ∷ []
    → whole ≡ with_comma ++ field_text default_writer (bytes x)
    → whole ≡ start ++ fields_text default_writer (map bytes (take (i + 1) items))
fields_text-next bytes items i x start so_far with_comma whole low at so_far_is comma_is whole_is =
    let more = take_more items i x low in
    let pushed = map-append bytes (take i items) (x ∷ []) in
    rw (more, ← at, pushed, fields_text-push, whole_is, comma_is, so_far_is)
    (append_assoc (start ++ fields_text default_writer (map bytes (take i items))) (44 ∷ [])
    (field_text default_writer (bytes x))
    ∙ append_assoc start (fields_text default_writer (map bytes (take i items)))
    (44 ∷ field_text default_writer (bytes x)))

-- a sum is its first part where the second is nothing
eqb-add : (a b n : ℕ) → a ≡ b + n → eqb a b ≡ eqb n 0
eqb-add a b n e = grind (arith, nat_tests)

-- a record shows nothing exactly where it has no byte before its end
is_blank-row_body : (fields : List (List ℕ)) → is_blank default_writer fields ≡ eqb
    (length (row_body default_writer fields)) 0
unfolding is_blank fields_text
is_blank-row_body [] = refl
is_blank-row_body (f ∷ []) = rw (append-nil (field_text default_writer f)) refl
is_blank-row_body (f ∷ g ∷ fs) =
    let rest = 44 ∷ (field_text default_writer g ++ fields_text default_writer fs) in
    let size = length-append (field_text default_writer f) rest in
    sym (ne_eqb (length (field_text default_writer f ++ rest)) 0 (λ e. omega arith))

-- the end of a record whose fields are written
pub row_text-end : (fields : List (List ℕ)) (start so_far whole : List ℕ) (before : ℕ) → before ≡ length start
    → so_far ≡ start ++ row_body default_writer fields
    → whole ≡ so_far ++ (cond (eqb (length so_far) before) (34 ∷ 34 ∷ []) [] ++ 10 ∷ [])
    → whole ≡ start ++ row_text default_writer fields
row_text-end fields start so_far whole before before_is so_far_is whole_is =
    let body = row_body default_writer fields in
    let size = length-append start body in
    let grown : length so_far ≡ before + length body = ap length so_far_is ∙ size
    ∙ ap (λ n. n + length body) (sym before_is) in
    let shows : eqb (length so_far) before ≡ is_blank default_writer fields = eqb-add (length so_far) before
    (length body) grown ∙ sym (is_blank-row_body fields) in
    whole_is ∙ rw (shows, so_far_is) (append_assoc start body
    (cond (is_blank default_writer fields) (34 ∷ 34 ∷ []) [] ++ 10 ∷ []))

-- what extends longer bytes extends the shorter
Extends-append : (old more new : List ℕ) → Extends (old ++ more) new → Extends old new
Extends-append old more new e =
    let k = length (old ++ more) in
    let whole : new ≡ old ++ (more ++ drop k new) = sym (take-append-drop k new)
    ∙ ap (λ (front : List ℕ). front ++ drop k new) e ∙ append_assoc old more (drop k new) in
    ap (λ (bytes : List ℕ). take (length old) bytes) whole ∙ take-append_seam old (more ++ drop k new)

-- a fault in a loop leaves what was there before: the bytes of before, of the first field, of the fields so far and a comma come first
pub Extends-loop : (old first fields start so_far with_comma new : List ℕ) → start ≡ old ++ first
    → so_far ≡ start ++ fields → with_comma ≡ so_far ++ 44 ∷ [] → Extends with_comma new → Extends old new
Extends-loop old first fields start so_far with_comma new start_is so_far_is comma_is e =
    let grown : with_comma ≡ old ++ (first ++ (fields ++ 44 ∷ [])) =
    comma_is ∙ ap (λ (bytes : List ℕ). bytes ++ 44 ∷ []) (so_far_is ∙ ap (λ (bytes : List ℕ). bytes ++ fields) start_is)
    ∙ append_assoc (old ++ first) fields (44 ∷ []) ∙ append_assoc old first (fields ++ 44 ∷ []) in
    Extends-append old (first ++ (fields ++ 44 ∷ [])) new (rw grown at e)

-- what holds anyway holds after an error
pub OnErr-from : {T E P : Type 0} (r : Result T E) → P → OnErr r P
OnErr-from (Ok x) p = tt
OnErr-from (Err e) p = p
