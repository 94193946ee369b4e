-- What is written of a plan is read as that plan.
use Rattle.std.proofs.Common.{◌≡◌, ◌∙◌, ℕ, suc, ◌^◌, ◌<◌, ◌≤◌, Bool, true, false, cond, List, [], ◌∷◌, ◌++◌, map, length, codes, Some, None, option_map, option_and_then, decimal, IsUtf8, All, refl, sym, ap, ap₂, subst, arith, append-nil}
use Rattle.std.specs.Prelude.{⊤}
use Rattle.std.proofs.lemmas.Bool.{le-leb}
use Rattle.std.proofs.lemmas.Fmt.{IsAscii-decimal}
use Rattle.std.proofs.lemmas.List.{length-map}
use Rattle.std.proofs.lemmas.Str.{IsUtf8-append, IsUtf8-from_ascii, IsUtf8-nil, is_utf8-from_IsUtf8}
use Rattle.json.specs.Json as syntax
use Rattle.json.specs.Lex.{tokens}
use Rattle.json.specs.Print.{quoted}
use Rattle.json.specs.Tree as tree
use Rattle.json.specs.Tree.{HasNumbers, ItemsHaveNumbers, json_tokens}
use Rattle.json.proofs.Printed.Decimals.{IsNumber-decimal}
use Rattle.json.proofs.Printed.Tokens.{tokens-print}
use Rattle.json.proofs.Printed.Trees.{ArePrintable-json_tokens, value-json_tokens}
use Rattle.json.proofs.Printed.Utf8.{IsUtf8-are_ascii, IsUtf8-quoted}
use Rattle.serde_json.specs.Data.{Data, Members, object, array, string, member, no_members, put}
use Rattle.serde_json.specs.Read.{max_depth, of_items, of_json, read}
use Rattle.serde_json.specs.View.{items_of}
use Rattle.serde_json.specs.Written.{comma_if, compact_text, items_outline, items_text, members_text, outline}
use Rattle.serde_json.proofs.Numbers.{number_of-decimal}
use Rattle.serde_json.proofs.Texts.{print-outline}
use Rattle.placement.specs.Layouts.{Shuffle, ByCells, ByKeys, Broadcast}
use Rattle.fragmenter.specs.Plans.{ChoiceTree, PlanTree}
use Rattle.rel_base.specs.Limits.{most_workers, most_variables, most_pieces}
use Rattle.plan_json.specs.PlanTexts.{choice_data, choice_in, each_of, items_within, number_in, plan_data, plan_in, shuffle_in, statement_in, step_data, whole, written}
use Rattle.plan_json.specs.Laws.{IsChoiceWithin, IsPlanWithin, IsShuffleWithin, IsUpTo, WrittenIsRead}
use Rattle.plan_json.proofs.LineFeeds.{tokens-line_feed}
use Rattle.plan_json.proofs.ValueLemmas.{list_of-items_of}

-- ---- values that are read back

-- a value is read back from what is written of it, which is UTF-8 and nests at most n deep
record IsReadBack (n : ℕ) (d : Data) : Type 0 where
  pub same : of_json (outline d) ≡ Some d
  pub numbers : HasNumbers (outline d)
  pub shallow : tree.depth (outline d) ≤ n
  pub utf8 : IsUtf8 (compact_text d)

-- and so is the text behind a line feed
read_behind : (n : ℕ) (d : Data) → n ≤ max_depth → IsReadBack n d → read (compact_text d ++ 10 ∷ []) ≡ Some d
read_behind n d within h =
    let ts = json_tokens (outline d) in
    let printable = ArePrintable-json_tokens (outline d) h.numbers in
    let lexed : tokens (compact_text d ++ 10 ∷ []) ≡ ts ++ [] =
    subst (λ text. tokens (text ++ 10 ∷ []) ≡ ts ++ []) (print-outline d)
    (tokens-line_feed ts printable ∙ tokens-print ts printable ∙ sym (append-nil ts)) in
    let shallow : tree.depth (outline d) ≤ max_depth = omega (arith, h.shallow, within) in
    ap (λ us. option_and_then of_json (option_and_then (λ p. syntax.if_last p.0 p.1) (syntax.value max_depth us))) lexed
    ∙ ap (λ o. option_and_then of_json (option_and_then (λ p. syntax.if_last p.0 p.1) o)) (value-json_tokens (outline d) max_depth [] shallow)
    ∙ h.same

-- a whole number
whole_back : (n : ℕ) → n < 2 ^ 64 → IsReadBack 0 (whole n)
whole_back n small = record {
  same = rw (number_of-decimal n small) refl;
  numbers = IsNumber-decimal n small;
  shallow = omega arith;
  utf8 = IsUtf8-from_ascii (decimal n) (IsAscii-decimal n small);
}

-- a string of UTF-8
string_back : (s : List ℕ) → IsUtf8 s → IsReadBack 0 (string s)
string_back s u = record { same = refl; numbers = tt; shallow = omega arith; utf8 = IsUtf8-quoted s u }

-- each of these values
abbrev AreReadBack : ℕ → List Data → Type 0
AreReadBack n [] = ⊤
AreReadBack n (d ∷ ds) = IsReadBack n d × AreReadBack n ds

items_same : (n : ℕ) (ds : List Data) → AreReadBack n ds → of_items (items_outline (items_of ds)) ≡ Some (items_of ds)
items_same n [] h = refl
items_same n (d ∷ ds) h = rw (h.0.same, items_same n ds h.1) refl

items_numbers : (n : ℕ) (ds : List Data) → AreReadBack n ds → ItemsHaveNumbers (items_outline (items_of ds))
items_numbers n [] h = tt
items_numbers n (d ∷ ds) h = (h.0.numbers, items_numbers n ds h.1)

items_shallow : (n : ℕ) (ds : List Data) → AreReadBack n ds → tree.items_depth (items_outline (items_of ds)) ≤ n
items_shallow n [] h = omega arith
items_shallow n (d ∷ ds) h = omega (arith, h.0.shallow, items_shallow n ds h.1)

comma_utf8 : (later : Bool) → IsUtf8 (comma_if later)
comma_utf8 true = IsUtf8-are_ascii _ refl
comma_utf8 false = IsUtf8-nil

items_utf8 : (n : ℕ) (later : Bool) (ds : List Data) → AreReadBack n ds → IsUtf8 (items_text later (items_of ds))
items_utf8 n later [] h = IsUtf8-are_ascii (93 ∷ []) refl
items_utf8 n later (d ∷ ds) h =
    IsUtf8-append (comma_if later) _ (comma_utf8 later)
    (IsUtf8-append (compact_text d) _ h.0.utf8 (items_utf8 n true ds h.1))

-- an array of such values
array_back : (n : ℕ) (ds : List Data) → AreReadBack n ds → IsReadBack (suc n) (array (items_of ds))
array_back n ds h = record {
  same = rw (items_same n ds h) refl;
  numbers = items_numbers n ds h;
  shallow = omega (arith, items_shallow n ds h);
  utf8 = IsUtf8-append (91 ∷ []) _ (IsUtf8-are_ascii (91 ∷ []) refl) (items_utf8 n false ds h);
}

member_utf8 : (later : Bool) (k : List ℕ) (d : Data) (ms : Members) → IsUtf8 k → IsUtf8 (compact_text d) → IsUtf8 (members_text true ms)
    → IsUtf8 (members_text later (member k d ms))
member_utf8 later k d ms key value rest =
    IsUtf8-append (comma_if later) _ (comma_utf8 later)
    (IsUtf8-append (quoted k) _ (IsUtf8-quoted k key)
    (IsUtf8-append (58 ∷ []) _ (IsUtf8-are_ascii (58 ∷ []) refl) (IsUtf8-append (compact_text d) _ value rest)))

end_utf8 : IsUtf8 (members_text true no_members)
end_utf8 = IsUtf8-are_ascii (125 ∷ []) refl

-- an object of two members, in the order of their names
two_back : (n : ℕ) (k l : List ℕ) (d e : Data) → put l e (member k d no_members) ≡ member k d (member l e no_members)
    → IsUtf8 k → IsUtf8 l → IsReadBack n d → IsReadBack n e
    → IsReadBack (suc n) (object (member k d (member l e no_members)))
two_back n k l d e order first second h i = record {
  same = rw (h.same, i.same, order) refl;
  numbers = (h.numbers, (i.numbers, tt));
  shallow = omega (arith, h.shallow, i.shallow);
  utf8 = IsUtf8-append (123 ∷ []) _ (IsUtf8-are_ascii (123 ∷ []) refl)
      (member_utf8 false k d (member l e no_members) first h.utf8 (member_utf8 true l e no_members second i.utf8 end_utf8));
}

-- an object of three members, in the order of their names
three_back : (n : ℕ) (k l m : List ℕ) (d e f : Data) → put l e (member k d no_members) ≡ member k d (member l e no_members)
    → put m f (member k d (member l e no_members)) ≡ member k d (member l e (member m f no_members))
    → IsUtf8 k → IsUtf8 l → IsUtf8 m → IsReadBack n d → IsReadBack n e → IsReadBack n f
    → IsReadBack (suc n) (object (member k d (member l e (member m f no_members))))
three_back n k l m d e f order last first second third h i j = record {
  same = rw (h.same, i.same, order, j.same, last) refl;
  numbers = (h.numbers, (i.numbers, (j.numbers, tt)));
  shallow = omega (arith, h.shallow, i.shallow, j.shallow);
  utf8 = IsUtf8-append (123 ∷ []) _ (IsUtf8-are_ascii (123 ∷ []) refl)
      (member_utf8 false k d (member l e (member m f no_members)) first h.utf8
      (member_utf8 true l e (member m f no_members) second i.utf8 (member_utf8 true m f no_members third j.utf8 end_utf8)));
}

-- what nests less deep
deeper : (n m : ℕ) (d : Data) → n ≤ m → IsReadBack n d → IsReadBack m d
deeper n m d less h = record { same = h.same; numbers = h.numbers; shallow = omega (arith, h.shallow, less); utf8 = h.utf8 }

-- ---- the value of a plan is read back

first_of : {X : Type 0} (P : X → Type 0) (x : X) (xs : List X) → All P (x ∷ xs) → P x
first_of P x xs h = h 0 x (omega arith)

others_of : {X : Type 0} (P : X → Type 0) (x : X) (xs : List X) → All P (x ∷ xs) → All P xs
others_of P x xs h k d low = h (suc k) d (omega (arith, low))

shares_back : (shares : List ℕ) → All (IsUpTo most_workers) shares → AreReadBack 0 (map whole shares)
shares_back [] h = tt
shares_back (share ∷ shares) h =
    let within = (first_of (IsUpTo most_workers) share shares h).1 in
    (whole_back share (omega (arith, within)), shares_back shares (others_of (IsUpTo most_workers) share shares h))

name : (s : List ℕ) → IsUtf8 s → IsReadBack 1 (string s)
name s u = deeper 0 1 (string s) (omega arith) (string_back s u)

number : (most n : ℕ) → most ≤ 256 → IsUpTo most n → IsReadBack 1 (whole n)
number most n small h = deeper 0 1 (whole n) (omega arith) (whole_back n (omega (arith, small, h.1)))

step_back : (n : ℕ) (shuffle : Shuffle) → IsUpTo most_pieces n → IsShuffleWithin shuffle → IsReadBack 2 (step_data n shuffle)
step_back n (ByCells shares) within h =
    three_back 1 (codes "shares") (codes "shuffle") (codes "statement") (array (items_of (map whole shares))) (string (codes "hc")) (whole n) refl refl
    (IsUtf8-are_ascii _ refl) (IsUtf8-are_ascii _ refl) (IsUtf8-are_ascii _ refl)
    (array_back 0 (map whole shares) (shares_back shares h.1)) (name (codes "hc") (IsUtf8-are_ascii _ refl)) (number most_pieces n (omega arith) within)
step_back n ByKeys within h =
    two_back 1 (codes "shuffle") (codes "statement") (string (codes "rs")) (whole n) refl (IsUtf8-are_ascii _ refl) (IsUtf8-are_ascii _ refl)
    (name (codes "rs") (IsUtf8-are_ascii _ refl)) (number most_pieces n (omega arith) within)
step_back n Broadcast within h =
    two_back 1 (codes "shuffle") (codes "statement") (string (codes "br")) (whole n) refl (IsUtf8-are_ascii _ refl) (IsUtf8-are_ascii _ refl)
    (name (codes "br") (IsUtf8-are_ascii _ refl)) (number most_pieces n (omega arith) within)

choices_back : (choices : List ChoiceTree) → All IsChoiceWithin choices → AreReadBack 2 (map choice_data choices)
choices_back [] h = tt
choices_back (c ∷ choices) h =
    let within = first_of IsChoiceWithin c choices h in
    (step_back c.statement c.shuffle within.statement within.shuffle, choices_back choices (others_of IsChoiceWithin c choices h))

plan_back : (plan : PlanTree) → IsPlanWithin plan → IsReadBack 4 (plan_data plan)
plan_back plan h =
    two_back 3 (codes "steps") (codes "workers") (array (items_of (map choice_data plan.choices))) (whole plan.workers) refl
    (IsUtf8-are_ascii _ refl) (IsUtf8-are_ascii _ refl)
    (array_back 2 (map choice_data plan.choices) (choices_back plan.choices h.choices))
    (deeper 1 3 (whole plan.workers) (omega arith) (number most_workers plan.workers (omega arith) h.workers))

-- ---- and is that plan

number_is : (most n : ℕ) → IsUpTo most n → number_in 1 most (whole n) ≡ Some n
number_is most n h = rw (le-leb 1 n h.0, le-leb n most h.1) refl

numbers_are : (shares : List ℕ) → All (IsUpTo most_workers) shares → each_of (number_in 1 most_workers) (map whole shares) ≡ Some shares
numbers_are [] h = refl
numbers_are (share ∷ shares) h =
    ap₂ (λ x xs. option_and_then (λ y. option_map (λ ys. y ∷ ys) xs) x)
    (number_is most_workers share (first_of (IsUpTo most_workers) share shares h))
    (numbers_are shares (others_of (IsUpTo most_workers) share shares h))

items_are : (most : ℕ) (ds : List Data) → length ds ≤ most → items_within most (array (items_of ds)) ≡ Some ds
items_are most ds few = rw (list_of-items_of ds, le-leb (length ds) most few) refl

statement_is : (n : ℕ) (shuffle : Shuffle) → IsUpTo most_pieces n → statement_in (step_data n shuffle) ≡ Some n
statement_is n (ByCells shares) h = number_is most_pieces n h
statement_is n ByKeys h = number_is most_pieces n h
statement_is n Broadcast h = number_is most_pieces n h

shuffle_is : (n : ℕ) (shuffle : Shuffle) → IsShuffleWithin shuffle → shuffle_in (step_data n shuffle) ≡ Some shuffle
shuffle_is n (ByCells shares) h =
    let few : length (map whole shares) ≤ most_variables = omega (arith, length-map shares whole, h.0) in
    ap (λ o. option_map ByCells (option_and_then (each_of (number_in 1 most_workers)) o)) (items_are most_variables (map whole shares) few)
    ∙ ap (option_map ByCells) (numbers_are shares h.1)
shuffle_is n ByKeys h = refl
shuffle_is n Broadcast h = refl

choice_is : (c : ChoiceTree) → IsChoiceWithin c → choice_in (choice_data c) ≡ Some c
choice_is c h =
    ap₂ (λ n o. option_and_then (λ statement. option_map (λ shuffle. record { statement = statement; shuffle = shuffle }) o) n)
    (statement_is c.statement c.shuffle h.statement) (shuffle_is c.statement c.shuffle h.shuffle)

choices_are : (choices : List ChoiceTree) → All IsChoiceWithin choices → each_of choice_in (map choice_data choices) ≡ Some choices
choices_are [] h = refl
choices_are (c ∷ choices) h =
    ap₂ (λ x xs. option_and_then (λ y. option_map (λ ys. y ∷ ys) xs) x)
    (choice_is c (first_of IsChoiceWithin c choices h)) (choices_are choices (others_of IsChoiceWithin c choices h))

plan_is : (plan : PlanTree) → IsPlanWithin plan → plan_in (plan_data plan) ≡ Some plan
plan_is plan h =
    let few : length (map choice_data plan.choices) ≤ most_pieces = omega (arith, length-map plan.choices choice_data, h.count) in
    ap₂ (λ n o. option_and_then (λ workers. option_map (λ choices. record { workers = workers; choices = choices }) o) n)
    (number_is most_workers plan.workers h.workers)
    (ap (option_and_then (each_of choice_in)) (items_are most_pieces (map choice_data plan.choices) few) ∙ choices_are plan.choices h.choices)

pub written_is_read : WrittenIsRead
written_is_read plan h =
    let back = plan_back plan h in
    let text = IsUtf8-append (compact_text (plan_data plan)) (10 ∷ []) back.utf8 (IsUtf8-are_ascii (10 ∷ []) refl) in
    ap₂ (λ b o. option_and_then plan_in (cond b o None)) (is_utf8-from_IsUtf8 (written plan) text) (read_behind 4 (plan_data plan) (omega arith) back)
    ∙ plan_is plan h
