-- std's `rsplit_once` at a colon gives the two parts of a header field.
use Rattle.std.proofs.Common.{◌≡◌, ◌≢◌, ◌∙◌, ℕ, suc, ◌+◌, ◌-◌, ◌<◌, true, false, not, eqb, Some, None, option_map, Ok, Err, List, ◌∷◌, ◌++◌, length, get_or, take, drop, reverse, refl, sym, ap, arith, length-append, length-drop}
use Rattle.std.specs.List.{after_last, before_last, list_any, suffix_len}
use Rattle.std.specs.Option.{ok_or}
use Rattle.std.specs.Str.Pattern.{RFindsChar, SplitsAroundMatch}
use Rattle.std.proofs.lemmas.Bool.{eq-eqb, false≢true, ne_eqb}
use Rattle.std.proofs.Math.Seq.{drop-append-add, get_or-append-add, get_or-append_seam, take-append_seam}
use Rattle.std.proofs.lemmas.List.{get_or-drop, get_or-reverse, get_or_default, length-reverse}
use Rattle.std.proofs.lemmas.List.Folds.{list_any_at, list_any_none}
use Rattle.std.proofs.lemmas.List.Sums.{prefix_len_is}
use Rattle.std.proofs.lemmas.Str.Pattern.{NoCharPasses-char}
use Rattle.rel_base.specs.declared.values.ColType.{ColType}
use Rattle.rel_base.specs.declared.values.ColType.TheVariants as kind
use Rattle.relation_csv.specs.declared.faults.RelFault.TheVariants as fault
use Rattle.relation_csv.specs.Fields.{column_of, column_of_field, is_colon, type_of_name}

-- behind the last colon stands as much as there is behind its place
suffix_len-last : (s : List ℕ) (i : ℕ) → i < length s → get_or s i 0 ≡ 58
    → ((k : ℕ) → i < k → k < length s → get_or s k 0 ≢ 58)
    → suffix_len (λ b. not (is_colon b)) s ≡ length s - 1 - i
suffix_len-last s i low at behind =
    let size = length-reverse s in
    prefix_len_is (λ b. not (is_colon b)) (reverse s) (length s - 1 - i) 0 (omega arith)
    (λ k before.
    let from_front = get_or-reverse s k 0 (omega arith) in
    let other = ne_eqb (get_or s (length s - 1 - k) 0) 58 (behind (length s - 1 - k) (omega arith) (omega arith)) in
    ap (λ (b : ℕ). not (eqb b 58)) from_front ∙ ap not other)
    (λ within.
    let from_front = get_or-reverse s (length s - 1 - i) 0 (omega arith) in
    let place : length s - 1 - (length s - 1 - i) ≡ i = omega arith in
    let colon = eq-eqb (get_or s i 0) 58 at in
    ap (λ (b : ℕ). not (eqb b 58)) (from_front ∙ ap (λ (k : ℕ). get_or s k 0) place) ∙ ap not colon)

-- the parts round the last colon, by its place
before_last-last : (s : List ℕ) (i : ℕ) → i < length s → suffix_len (λ b. not (is_colon b)) s ≡ length s - 1 - i
    → before_last is_colon s ≡ take i s
before_last-last s i low e =
    let place : length s - suffix_len (λ b. not (is_colon b)) s - 1 ≡ i = omega arith in ap (λ (k : ℕ). take k s) place

after_last-last : (s : List ℕ) (i : ℕ) → i < length s → suffix_len (λ b. not (is_colon b)) s ≡ length s - 1 - i
    → after_last is_colon s ≡ drop (i + 1) s
after_last-last s i low e =
    let place : length s - suffix_len (λ b. not (is_colon b)) s ≡ i + 1 = omega arith in ap (λ (k : ℕ). drop k s) place

-- what a split at the last colon gives
pub record SplitsAtLastColon (s name type_name : List ℕ) : Type 0 where
  pub colon : list_any is_colon s ≡ true
  pub before : before_last is_colon s ≡ name
  pub after : after_last is_colon s ≡ type_name

-- where std finds the last colon, the parts are these
pub SplitsAroundMatch-colon : (s front back : List ℕ) → SplitsAroundMatch (RFindsChar 58) s front back
    → SplitsAtLastColon s front back
SplitsAroundMatch-colon s front back m =
    let (i, j, found, is_front, is_back, order, front_size, back_size) = m in
    let (clear, at) = found in
    let next : j ≡ i + 1 = at.ends in
    let colon : get_or s i 0 ≡ 58 = at.byte (omega arith) in
    let behind : (k : ℕ) → i < k → k < length s → get_or s k 0 ≢ 58 = λ k above below e.
    let size = length-drop j s in
    let shifted = get_or-drop j s (k - j) 0 in
    let place : j + (k - j) ≡ k = omega arith in
    NoCharPasses-char 58 (drop j s) (k - j) clear (omega arith) (omega arith)
    (shifted ∙ ap (λ (n : ℕ). get_or s n 0) place ∙ e) in
    let low : i < length s = omega arith in
    let suffix = suffix_len-last s i low colon behind in
    record {
      colon = list_any_at is_colon s i 0 low (eq-eqb (get_or s i 0) 58 colon);
      before = before_last-last s i low suffix ∙ sym is_front;
      after = after_last-last s i low suffix ∙ ap (λ (k : ℕ). drop k s) (sym next) ∙ sym is_back;
    }

-- where std finds no colon, there is none
list_any-no_colon : (s : List ℕ) → RFindsChar 58 s None → list_any is_colon s ≡ false
list_any-no_colon s clear =
    list_any_none is_colon s
    (λ k d low. ne_eqb (get_or s k d) 58
    (λ e. NoCharPasses-char 58 s k clear (omega arith) low (get_or_default s k 0 d low ∙ e)))

-- the column of a field whose last colon is known
column_of_field-split : (number : ℕ) (s name type_name : List ℕ) → SplitsAtLastColon s name type_name
    → column_of_field number s
    ≡ ok_or (option_map (column_of name) (type_of_name type_name)) (fault.BadHeader number)
column_of_field-split number s name type_name sp = rw (sp.colon, sp.before, sp.after) refl

-- the three answers: a column, a type without a name of one, and no colon
pub column_of_field-Ok : (number : ℕ) (s name type_name : List ℕ) (t : ColType) → SplitsAtLastColon s name type_name
    → Some t ≡ type_of_name type_name
    → column_of_field number s ≡ Ok (record { name = name; kind = t })
column_of_field-Ok number s name type_name t sp e = column_of_field-split number s name type_name sp ∙ rw (← e) refl

pub column_of_field-no_type : (number : ℕ) (s name type_name : List ℕ) → SplitsAtLastColon s name type_name
    → None ≡ type_of_name type_name → column_of_field number s ≡ Err (fault.BadHeader number)
column_of_field-no_type number s name type_name sp e = column_of_field-split number s name type_name sp ∙ rw (← e) refl

pub column_of_field-no_colon : (number : ℕ) (s : List ℕ) → RFindsChar 58 s None
    → column_of_field number s ≡ Ok (record { name = s; kind = kind.Str })
column_of_field-no_colon number s clear = rw (list_any-no_colon s clear) refl

-- a name, a colon and a name of a type without one
pub SplitsAtLastColon-written : (name type_name : List ℕ) → list_any is_colon type_name ≡ false
    → SplitsAtLastColon (name ++ 58 ∷ type_name) name type_name
SplitsAtLastColon-written name type_name clear =
    let s = name ++ 58 ∷ type_name in
    let size = length-append name (58 ∷ type_name) in
    let low : length name < length s = omega arith in
    let colon = get_or-append_seam name 58 type_name 0 in
    let behind : (k : ℕ) → length name < k → k < length s → get_or s k 0 ≢ 58 = λ k above below e.
    let place : length name + suc (k - length name - 1) ≡ k = omega arith in
    let there = get_or-append-add name (58 ∷ type_name) (suc (k - length name - 1)) 0 in
    let found = sym there ∙ ap (λ (n : ℕ). get_or s n 0) place ∙ e in
    let yes = list_any_at is_colon type_name (k - length name - 1) 0 (omega arith) (eq-eqb _ 58 found) in
    false≢true (sym clear ∙ yes) in
    let suffix = suffix_len-last s (length name) low colon behind in
    record {
      colon = list_any_at is_colon s (length name) 0 low (eq-eqb (get_or s (length name) 0) 58 colon);
      before = before_last-last s (length name) low suffix ∙ take-append_seam name (58 ∷ type_name);
      after = after_last-last s (length name) low suffix ∙ drop-append-add name (58 ∷ type_name) 1;
    }
