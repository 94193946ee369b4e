-- What is counted of an atom's columns, one after another.
use Rattle.std.proofs.Common.{◌≡◌, ◌≢◌, ℕ, suc, ◌+◌, ◌-◌, ◌^◌, ◌<◌, ◌≤◌, Bool, true, false, cond, eqb, List, [], ◌∷◌, ◌++◌, length, length-append, map, get_or, take, drop, filter, refl, sym, ap, ◌∙◌, subst, arith}
use Rattle.std.specs.Prelude.{set, sum_by, nat_lt, Option, Some, None, is_some, is_none}
use Rattle.std.specs.List.{enumerate_from, range_with_len, list_any, zip}
use Rattle.std.proofs.Math.Seq.{drop-cons}
use Rattle.std.proofs.lemmas.List.{take_more, length-take, length-map, append_assoc, map-append, get_or-map, get_or-set_same, get_or-set_other, drop_all}
use Rattle.std.proofs.lemmas.List.FromFn.{length-enumerate_from}
use Rattle.std.proofs.lemmas.Slice.Zip.{length-zip}
use Rattle.std.proofs.lemmas.List.Elements.{filter-append}
use Rattle.std.proofs.lemmas.List.Sums.{sum_by_push, sum_by_more}
use Rattle.std.proofs.lemmas.Bool.{lt-ltb, eqb-true, eqb-false}
use Rattle.myrial_ast.specs.declared.scalars.Scalar as code
use Rattle.myrial_ast.specs.ScalarTrees.{scalar_tree_of}
use Rattle.myrial_ast.specs.Scalars.{Scalar}
use Rattle.myrial_ast.specs.KeptRows.{Span, lies_in}
use Rattle.algebra.specs.declared.notes.PlanNote.{PlanNote}
use Rattle.algebra.specs.declared.notes.PlanNote.TheVariants as note
use Rattle.algebra.specs.declared.shapes.Atom.{Atom}
use Rattle.algebra.specs.Shapes.{keeps_from, shifted, widths_of}
use Rattle.algebra.specs.Trees.{AtomTree, Shape, atom_tree_of}
use Rattle.placement.specs.Layouts.{Shuffle}
use Rattle.placement.specs.Plans.{places_of, share_of, uses_of, bits_of}
use Rattle.join_plans.specs.inner.Counts.{bits_in, ties_within, places_in}
use Rattle.join_plans.proofs.SpanLemmas.{places-are, all-unmoved}

-- a list with numbers goes on with the next number
pub enumerate-push : {X : Type 0} (n : ℕ) (xs : List X) (x : X)
    → enumerate_from n (xs ++ x ∷ []) ≡ enumerate_from n xs ++ (n + length xs, x) ∷ []
enumerate-push n [] x = let same : n ≡ n + 0 = omega arith in (λ i. (same i, x) ∷ [])
enumerate-push n (y ∷ xs) x =
    let on : (n + 1) + length xs ≡ n + suc (length xs) = omega arith in
    ap (λ rest. (n, y) ∷ rest) (enumerate-push (n + 1) xs x ∙ (λ i. enumerate_from (n + 1) xs ++ (on i, x) ∷ []))

-- the bit of one variable more
pub bits-more : (span : Span) (variables : List (List ℕ)) (i : ℕ) (v : List ℕ) → i < length variables → get_or variables i v ≡ v
    → bits_in span (take (i + 1) variables) ≡ bits_in span (take i variables) + cond (list_any (lies_in span) v) (2 ^ i) 0
bits-more span variables i v low at =
    let bit : ℕ × List ℕ → ℕ = λ e. cond (list_any (lies_in span) e.1) (2 ^ e.0) 0 in
    let long : 0 + length (take i variables) ≡ i = omega (arith, length-take i variables) in
    ap (λ vs. sum_by bit (enumerate_from 0 vs)) (take_more variables i v low)
    ∙ ap (sum_by bit) (enumerate-push 0 (take i variables) (get_or variables i v))
    ∙ sum_by_push bit (enumerate_from 0 (take i variables)) (0 + length (take i variables), get_or variables i v)
    ∙ (λ k. bits_in span (take i variables) + cond (list_any (lies_in span) (at k)) (2 ^ long k) 0)

-- what one atom's keeps add to those of the atoms before it
pub keeps-split : (p : Scalar → Bool) (column : ℕ) (a : AtomTree) (atoms : List AtomTree)
    → length (filter p (keeps_from column (a ∷ atoms))) ≡ length (filter p (map (shifted column) a.keeps)) + length
    (filter p (keeps_from (column + length a.kinds) atoms))
keeps-split p column a atoms =
    ap length (filter-append p (map (shifted column) a.keeps) (keeps_from (column + length a.kinds) atoms))
    ∙ length-append (filter p (map (shifted column) a.keeps)) (filter p (keeps_from (column + length a.kinds) atoms))

-- some pass exactly where there is one that passes
pub some-pass : {X : Type 0} (p : X → Bool) (xs : List X) → list_any p xs ≡ nat_lt 0 (length (filter p xs))
some-pass p [] = refl
some-pass p (x ∷ xs) = by (p x) refl (some-pass p xs)
  where
    by : (b : Bool) → p x ≡ b → list_any p xs ≡ nat_lt 0 (length (filter p xs))
        → list_any p (x ∷ xs) ≡ nat_lt 0 (length (filter p (x ∷ xs)))
    by true e rest = rw e (sym (lt-ltb 0 (suc (length (filter p xs))) (omega arith)))
    by false e rest = rw e rest

-- the ties of one variable more
pub ties-more : (span : Span) (variables : List (List ℕ)) (i : ℕ) (v : List ℕ) → i < length variables → get_or variables i v ≡ v
    → ties_within span (take (i + 1) variables) ≡ ties_within span (take i variables) + (length (filter (lies_in span) v) - 1)
ties-more span variables i v low at =
    sum_by_more (λ v. length (filter (lies_in span) v) - 1) variables i v low
    ∙ (λ k. ties_within span (take i variables) + (length (filter (lies_in span) (at k)) - 1))

-- each column is a key or has an aggregate
pub keys-rest : {X : Type 0} (kinds : List (Option X))
    → length (filter (λ k. is_none k) kinds) + length (filter (λ k. is_some k) kinds) ≡ length kinds
keys-rest [] = refl
keys-rest (Some x ∷ kinds) = let rest = keys-rest kinds in omega (arith, rest)
keys-rest (None ∷ kinds) = let rest = keys-rest kinds in omega (arith, rest)

-- the line of a variable, by its number and its columns
abbrev pub variable_line : Shuffle → List ℕ → ℕ × List ℕ → PlanNote
variable_line shuffle widths e = note.Variable (suc e.0) (places_in widths e.1) (share_of shuffle e.0)

pub variable-lines : (shuffle : Shuffle) (shape : Shape) (n : ℕ) (variables : List (List ℕ))
    → map (variable_line shuffle (widths_of shape)) (enumerate_from n variables)
    ≡ map (λ (e : ℕ × List ℕ). note.Variable (suc e.0) (places_of shape e.1) (share_of shuffle e.0)) (enumerate_from n variables)
variable-lines shuffle shape n [] = refl
variable-lines shuffle shape n (v ∷ variables) =
    (λ i. note.Variable (suc n) (places-are shape v i) (share_of shuffle n) ∷ variable-lines shuffle shape (n + 1) variables i)

-- ---- lines

-- one line more
pub line-more : {X : Type 0} (line_of : ℕ × X → PlanNote) (xs : List X) (i : ℕ) (x : X) (start old new : List PlanNote)
    (line : PlanNote)
    → i < length xs → x ≡ get_or xs i x → line ≡ line_of (i, x)
    → old ≡ start ++ map line_of (enumerate_from 0 (take i xs)) → new ≡ old ++ line ∷ []
    → new ≡ start ++ map line_of (enumerate_from 0 (take (i + 1) xs))
line-more line_of xs i x start old new line low at is so_far added =
    let long : 0 + length (take i xs) ≡ i = omega (arith, length-take i xs) in
    let lines = map line_of (enumerate_from 0 (take i xs)) in
    let more = ap (λ ys. map line_of (enumerate_from 0 ys)) (take_more xs i x low ∙ (λ k. take i xs ++ sym at k ∷ []))
    ∙ ap (map line_of) (enumerate-push 0 (take i xs) x)
    ∙ map-append line_of (enumerate_from 0 (take i xs)) ((0 + length (take i xs), x) ∷ [])
    ∙ (λ k. map line_of (enumerate_from 0 (take i xs)) ++ line_of (long k, x) ∷ []) in
    added ∙ (λ k. so_far k ++ is k ∷ []) ∙ append_assoc start lines (line_of (i, x) ∷ []) ∙ ap (λ l. start ++ l) (sym more)

pub zip-long : (xs ys : List ℕ) → length xs ≡ length ys → length (zip xs ys) ≡ length xs
zip-long xs ys same = omega (arith, length-zip xs ys, same)

-- ---- widths and keeps

pub widths-long : (atoms : List Atom) → length (map (λ (t : AtomTree). length t.kinds) (map atom_tree_of atoms)) ≡ length atoms
widths-long atoms = length-map (map atom_tree_of atoms) (λ (t : AtomTree). length t.kinds) ∙ length-map atoms atom_tree_of

tree-at : (atoms : List Atom) (j : ℕ) (a : Atom) → j < length atoms → a ≡ get_or atoms j a
    → get_or (map atom_tree_of atoms) j (atom_tree_of a) ≡ atom_tree_of a
tree-at atoms j a low at = get_or-map atom_tree_of atoms j a (atom_tree_of a) low ∙ ap atom_tree_of (sym at)

pub width-at : (atoms : List Atom) (j : ℕ) (a : Atom) → j < length atoms → a ≡ get_or atoms j a
    → get_or (map (λ (t : AtomTree). length t.kinds) (map atom_tree_of atoms)) j 0 ≡ length a.kinds
width-at atoms j a low at =
    get_or-map (λ (t : AtomTree). length t.kinds) (map atom_tree_of atoms) j (atom_tree_of a) 0
    (omega (arith, low, length-map atoms atom_tree_of))
    ∙ ap (λ (t : AtomTree). length t.kinds) (tree-at atoms j a low at)

fused : (start : ℕ) (ts : List code.Scalar)
    → map (shifted start) (map scalar_tree_of ts) ≡ map (λ t. shifted start (scalar_tree_of t)) ts
fused start [] = refl
fused start (t ∷ ts) = ap (λ l. shifted start (scalar_tree_of t) ∷ l) (fused start ts)

-- what the keeps of the next atom add
pub keeps-next : (p : Scalar → Bool) (atoms : List Atom) (j start width : ℕ) (a : Atom) → j < length atoms → a ≡ get_or atoms j a
    → width ≡ length a.kinds
    → length (filter p (keeps_from start (drop j (map atom_tree_of atoms))))
    ≡ length (filter p (map (λ t. shifted start (scalar_tree_of t)) a.keeps)) + length
    (filter p (keeps_from (start + width) (drop (j + 1) (map atom_tree_of atoms))))
keeps-next p atoms j start width a low at is =
    let trees = map atom_tree_of atoms in
    let one : suc j ≡ j + 1 = omega arith in
    let first = drop-cons trees j (atom_tree_of a) (omega (arith, low, length-map atoms atom_tree_of))
    ∙ (λ k. tree-at atoms j a low at k ∷ drop (one k) trees) in
    ap (λ ts. length (filter p (keeps_from start ts))) first
    ∙ keeps-split p start (atom_tree_of a) (drop (j + 1) trees)
    ∙ (λ k. length (filter p (fused start a.keeps k)) + length (filter p (keeps_from (start + sym is k) (drop (j + 1) trees))))

-- all tests are counted
pub tests-done : (p : Scalar → Bool) (atoms : List Atom) (plain : List code.Scalar) (j start count more : ℕ) → length atoms ≤ j
    → count + length (filter p (keeps_from start (drop j (map atom_tree_of atoms))))
    ≡ length (filter p (keeps_from 0 (map atom_tree_of atoms)))
    → more ≡ length (filter p (map (λ t. shifted 0 (scalar_tree_of t)) plain))
    → count + more ≡ length (filter p (keeps_from 0 (map atom_tree_of atoms) ++ map scalar_tree_of plain))
tests-done p atoms plain j start count more over so_far is =
    let trees = map atom_tree_of atoms in
    let none : length (filter p (keeps_from start (drop j (map atom_tree_of atoms)))) ≡ 0 =
    ap (λ ts. length (filter p (keeps_from start ts))) (drop_all j trees (omega (arith, over, length-map atoms atom_tree_of))) in
    let rest = is ∙ ap (λ ts. length (filter p ts)) (sym (fused 0 plain) ∙ all-unmoved (map scalar_tree_of plain)) in
    let both = ap length (filter-append p (keeps_from 0 trees) (map scalar_tree_of plain))
    ∙ length-append (filter p (keeps_from 0 trees)) (filter p (map scalar_tree_of plain)) in
    omega (arith, so_far, none, rest, both)

-- ---- uses

pub uses-long : (shape : Shape) → length (uses_of shape) ≡ length shape.atoms
uses-long shape = length-map (enumerate_from 0 shape.atoms) (λ (e : ℕ × AtomTree). bits_of shape e.0)
    ∙ length-enumerate_from 0 shape.atoms

-- by number is with its number
pub numbered : {X : Type 0} (f : ℕ → ℕ) (n : ℕ) (xs : List X)
    → map f (range_with_len n (length xs)) ≡ map (λ (e : ℕ × X). f e.0) (enumerate_from n xs)
numbered f n [] = refl
numbered f n (x ∷ xs) = ap (λ (l : List ℕ). f n ∷ l) (numbered f (n + 1) xs)

-- numbers that are below, and one more
pub all-below : (xs : List ℕ) (j x top : ℕ) → j < length xs → x < top → ((k : ℕ) → k < j → get_or xs k 0 < top) → (k : ℕ)
    → k < j + 1 → get_or (set xs j x) k 0 < top
all-below xs j x top room low before k below = by (eqb k j) refl
  where
    by : (b : Bool) → eqb k j ≡ b → get_or (set xs j x) k 0 < top
    by true e =
        let same : k ≡ j = eqb-true k j e in
        subst (λ (i : ℕ). get_or (set xs j x) i 0 < top) (sym same)
        (subst (λ (y : ℕ). y < top) (sym (get_or-set_same xs j x 0 room)) low)
    by false e =
        let other : k ≢ j = eqb-false k j e in
        let earlier : k < j = omega (arith, below, other) in
        subst (λ (y : ℕ). y < top) (sym (get_or-set_other xs j k x 0 other)) (before k earlier)
