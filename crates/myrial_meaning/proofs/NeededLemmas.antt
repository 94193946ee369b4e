-- Which statements are needed, statement by statement.
use Rattle.std.proofs.Common.{◌≡◌, ℕ, zero, suc, ◌+◌, ◌<◌, Bool, List, [], ◌∷◌, length, get_or, drop, map, refl, ap}
use Rattle.std.proofs.lemmas.List.{drop_more, drop-map}
use Rattle.std.proofs.Common.{true, false, not, ◌&&◌, ◌||◌, ◌++◌, arith}
use Rattle.std.proofs.lemmas.List.Elements.{All-nil, All-cons, All-head, All-tail}
use Rattle.std.specs.Prelude.{◌↔◌, All, IsTrue}
use Rattle.std.specs.List.{list_any, list_all}
use Rattle.rel_base.specs.declared.names.Key.{Key}
use Rattle.myrial_ast.specs.Trees as tree
use Rattle.myrial_scopes.specs.Scopes.{same_name}
use Rattle.myrial_ast.specs.declared.statements.Stmt.{Stmt}
use Rattle.myrial_ast.specs.declared.relations.FromItem.{FromItem}
use Rattle.myrial_ast.specs.Trees.{Name, RelTree, StatementTree, statement_tree_of, trees_of}
use Rattle.myrial_meaning.specs.Needed.{IsNeeded, assigns, is_live, is_name, is_needed, mentions, store, used, uses}
use Rattle.myrial_meaning.proofs.BoolLemmas.{and-both, or-first, or-second}
use Rattle.myrial_meaning.specs.inner.NeededFlags.{needed_flags}

pub length-needed_flags : (trees : List StatementTree) → length (needed_flags trees) ≡ length trees
length-needed_flags [] = refl
length-needed_flags (s ∷ rest) = ap suc (length-needed_flags rest)

pub drop-needed_flags : (i : ℕ) (trees : List StatementTree) → drop i (needed_flags trees) ≡ needed_flags (drop i trees)
drop-needed_flags zero trees = refl
drop-needed_flags (suc i) [] = refl
drop-needed_flags (suc i) (s ∷ rest) = drop-needed_flags i rest

-- the trees of a script from one statement on
pub trees-at : (script : List Stmt) (i : ℕ) (s : Stmt) → i < length script → s ≡ get_or script i s
    → drop i (trees_of script) ≡ statement_tree_of s ∷ drop (i + 1) (trees_of script)
trees-at script i s low at =
    rw (drop-map statement_tree_of i script, drop-map statement_tree_of (i + 1) script, drop_more script i s low, ← at) refl

-- a flag says whether its statement is needed
flag_of_first : (trees rest : List StatementTree) (s : StatementTree) (i : ℕ) → drop i trees ≡ s ∷ rest → (d : Bool) → get_or (needed_flags trees) i d ≡ is_needed s rest
flag_of_first [] rest s zero e d = cc
flag_of_first [] rest s (suc i) e d = cc
flag_of_first (t ∷ trees) rest s zero e d = let same : t ≡ s = cc in let behind : trees ≡ rest = cc in rw (same, behind) refl
flag_of_first (t ∷ trees) rest s (suc i) e d = flag_of_first trees rest s i e d

pub flag-at : (script : List Stmt) (i : ℕ) (s : Stmt) → i < length script → s ≡ get_or script i s → (d : Bool)
    → get_or (needed_flags (trees_of script)) i d ≡ is_needed (statement_tree_of s) (drop (i + 1) (trees_of script))
flag-at script i s low at d =
    flag_of_first (trees_of script) (drop (i + 1) (trees_of script)) (statement_tree_of s) i (trees-at script i s low at) d

-- some item goes over the name exactly where some operand is the name
pub any-sources : (name : Name) (items : List FromItem)
    → list_any (is_name name) (map (λ (item : FromItem). item.source) items) ≡ list_any (λ (item : FromItem). is_name name item.source) items
any-sources name [] = refl
any-sources name (item ∷ items) = rw (any-sources name items) refl

-- ---- the rule and the test

-- what the rest uses behind some statements that don't assign the name
live-behind : (name : Name) (between rest : List StatementTree) → All (λ s. assigns s name ≡ false) between → is_live name rest ≡ true → is_live name (between ++ rest) ≡ true
live-behind name [] rest none live = live
live-behind name (tree.Nothing ∷ between) rest none live =
    live-behind name between rest (All-tail (λ s. assigns s name ≡ false) tree.Nothing between none) live
live-behind name (tree.Store n key ∷ between) rest none live =
    or-second (same_name n name) (is_live name (between ++ rest))
    (live-behind name between rest (All-tail (λ s. assigns s name ≡ false) (tree.Store n key) between none) live)
live-behind name (tree.Assign n r ∷ between) rest none live =
    let apart : same_name n name ≡ false = All-head (λ s. assigns s name ≡ false) (tree.Assign n r) between none in
    let behind = live-behind name between rest (All-tail (λ s. assigns s name ≡ false) (tree.Assign n r) between none) live in
    or-second (mentions name r && is_live n (between ++ rest)) (not (same_name n name) && is_live name (between ++ rest)) (rw (apart, behind) refl)

live-used : (name : Name) (member : StatementTree) (others : List StatementTree) → uses member name ≡ true → is_needed member others ≡ true → is_live name (member ∷ others) ≡ true
live-used name tree.Nothing others uses' needed = cc
live-used name (tree.Store n key) others uses' needed = or-first (same_name n name) (is_live name others) uses'
live-used name (tree.Assign n r) others uses' needed =
    or-first (mentions name r && is_live n others) (not (same_name n name) && is_live name others) (and-both (mentions name r) (is_live n others) uses' needed)

to-test : (s : StatementTree) (rest : List StatementTree) → IsNeeded s rest → is_needed s rest ≡ true
to-test s rest (store name key others) = refl
to-test s rest (used name r others between member behind split none uses' needed) =
    rw split (live-behind name between (member ∷ behind) none (live-used name member behind uses' (to-test member behind needed)))

-- a needed statement that uses a live name, with no assignment to the name before it
record Member (name : Name) (rest : List StatementTree) : Type 0 where
  between : List StatementTree
  member : StatementTree
  others : List StatementTree
  split : rest ≡ between ++ member ∷ others
  none : All (λ s. assigns s name ≡ false) between
  uses_it : uses member name ≡ true
  is_member : IsNeeded member others

further : (name : Name) (s : StatementTree) (rest : List StatementTree) → assigns s name ≡ false → Member name rest → Member name (s ∷ rest)
further name s rest apart m = record {
  between = s ∷ m.between;
  member = m.member;
  others = m.others;
  split = ap (λ (rest : List StatementTree). s ∷ rest) m.split;
  none = All-cons (λ s. assigns s name ≡ false) s m.between apart m.none;
  uses_it = m.uses_it;
  is_member = m.is_member;
}

here : (name : Name) (s : StatementTree) (rest : List StatementTree) → uses s name ≡ true → IsNeeded s rest → Member name (s ∷ rest)
here name s rest uses' needed = record {
  between = [];
  member = s;
  others = rest;
  split = refl;
  none = All-nil (λ s. assigns s name ≡ false);
  uses_it = uses';
  is_member = needed;
}

by-member : (name : Name) (r : RelTree) (rest : List StatementTree) → Member name rest → IsNeeded (tree.Assign name r) rest
by-member name r rest m = used name r rest m.between m.member m.others m.split m.none m.uses_it m.is_member

stored-or : (name n : Name) (key : Key) (rest : List StatementTree) (same : Bool) → same_name n name ≡ same → (same || is_live name rest) ≡ true
    → (is_live name rest ≡ true → Member name rest) → Member name (tree.Store n key ∷ rest)
stored-or name n key rest true e h again = here name (tree.Store n key) rest e (store n key rest)
stored-or name n key rest false e h again = further name (tree.Store n key) rest refl (again h)

assigned-or : (name n : Name) (r : RelTree) (rest : List StatementTree) (mentioned live same : Bool) → mentions name r ≡ mentioned → is_live n rest ≡ live → same_name n name ≡ same
    → ((mentioned && live) || (not same && is_live name rest)) ≡ true → (is_live n rest ≡ true → Member n rest) → (is_live name rest ≡ true → Member name rest)
    → Member name (tree.Assign n r ∷ rest)
assigned-or name n r rest true true same e f g h own again = here name (tree.Assign n r) rest e (by-member n r rest (own f))
assigned-or name n r rest true false true e f g h own again = cc
assigned-or name n r rest true false false e f g h own again = further name (tree.Assign n r) rest g (again h)
assigned-or name n r rest false live true e f g h own again = cc
assigned-or name n r rest false live false e f g h own again = further name (tree.Assign n r) rest g (again h)

member-of : (name : Name) (rest : List StatementTree) → is_live name rest ≡ true → Member name rest
member-of name [] h = cc
member-of name (tree.Nothing ∷ rest) h = further name tree.Nothing rest refl (member-of name rest h)
member-of name (tree.Store n key ∷ rest) h = stored-or name n key rest (same_name n name) refl h (member-of name rest)
member-of name (tree.Assign n r ∷ rest) h =
    assigned-or name n r rest (mentions name r) (is_live n rest) (same_name n name) refl refl refl h (member-of n rest) (member-of name rest)

from-test : (s : StatementTree) (rest : List StatementTree) → is_needed s rest ≡ true → IsNeeded s rest
from-test tree.Nothing rest h = cc
from-test (tree.Store name key) rest h = store name key rest
from-test (tree.Assign name r) rest h = by-member name r rest (member-of name rest h)

-- the test tells what the rule says
pub needed_by_rule : (s : StatementTree) (rest : List StatementTree) → IsNeeded s rest ↔ IsTrue (is_needed s rest)
needed_by_rule s rest = (to-test s rest, from-test s rest)

-- a test that passes on all trees passes on each
pub passes-at : {X Y : Type 0} (test : Y → Bool) (f : X → Y) (xs : List X) (i : ℕ) (x : X) → list_all test (map f xs) ≡ true
    → i < length xs → x ≡ get_or xs i x → test (f x) ≡ true
passes-at test f [] i x h low at = absurd (omega arith)
passes-at test f (y ∷ ys) zero x h low at = rw at (first (test (f y)) h)
  where
    first : (b : Bool) → (b && list_all test (map f ys)) ≡ true → b ≡ true
    first true e = refl
    first false e = e
passes-at test f (y ∷ ys) (suc i) x h low at = passes-at test f ys i x (others (test (f y)) h) (omega arith) at
  where
    others : (b : Bool) → (b && list_all test (map f ys)) ≡ true → list_all test (map f ys) ≡ true
    others true e = e
    others false e = cc
