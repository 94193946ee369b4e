-- The keys of the files that a script needs stand once, and the files have the columns that its loads write.
use Rattle.std.proofs.Common.{◌≡◌, ℕ, zero, suc, ◌<◌, Bool, true, false, not, ◌||◌, List, [], ◌∷◌, ◌++◌, get_or, length, map, filter, take, drop, refl, sym, ◌∙◌, ap, subst, arith, add-one, ◌+◌}
use Rattle.std.specs.Prelude.{All, AllPairs, Any, Contains}
use Rattle.std.specs.List.{list_any}
use Rattle.std.proofs.Math.Seq.{drop-cons, take-suc}
use Rattle.std.proofs.lemmas.Bool.{and_from, false_from_ne_true}
use Rattle.std.proofs.lemmas.List.{append_assoc, append-nil, map-append, get_or-take, get_or_read, length-map, length-take, take-append-drop}
use Rattle.std.proofs.lemmas.List.Elements.{All-append, All-cons, All-head, All-nil, All-tail}
use Rattle.std.proofs.lemmas.List.Folds.{Any-from_list_any}
use Rattle.rel_base.specs.Keys.{File, same_key, holds_key}
use Rattle.rel_base.specs.declared.names.Key.{Key}
use Rattle.myrial_ast.specs.Trees.{StatementTree}
use Rattle.myrial_meaning.specs.declared.needed_files.Fetch.{Fetch}
use Rattle.myrial_meaning.specs.Fetches.{each_once, fetched_keys, fetches, form_in, has_key, needed_from}
use Rattle.myrial_types.specs.Fetching.{has_form, have_forms}
use Rattle.algebra.specs.Rewriting.{AreTyped}
use Rattle.rel_base.specs.Relations.{RelationState}
use Rattle.rel_io.specs.Outside.{Content}
use Rattle.myria_top.specs.FileNames.{file_name_of}
use Rattle.myria_top.specs.Reading.{Meets}
use Rattle.myria_top.specs.Runs.{IsFetchedBy, files_verdict, relation_verdict}
use Rattle.myria_top.specs.Verdicts.{passes, IfTold}
use Rattle.myria_top.proofs.VerdictLemmas.{files_more, step_met}
use Rattle.myrial_meaning.proofs.FetchLemmas.{distinct-push, each_once-push}

-- what stands before a place, at it, and behind it
pub split_at : {X : Type 0} (xs : List X) (i : ℕ) (x : X) → i < length xs → x ≡ get_or xs i x → xs ≡ take i xs ++ x ∷ drop (suc i) xs
split_at xs i x h is =
    sym (take-append-drop i xs) ∙ ap (λ ys. take i xs ++ ys) (drop-cons xs i x h ∙ ap (λ y. y ∷ drop (suc i) xs) (sym is))

-- a test of the keys of files is one of the keys
list_any-keys : (p : Key → Bool) (files : List File) → list_any (λ (file : File). p file.0) files ≡ list_any p (map (λ (file : File). file.0) files)
list_any-keys p [] = refl
list_any-keys p (file ∷ files) = ap (λ b. p file.0 || b) (list_any-keys p files)

list_any-fetched : (p : Key → Bool) (fetches : List Fetch) → list_any p (map (λ (f : Fetch). f.key) fetches) ≡ list_any (λ (f : Fetch). p f.key) fetches
list_any-fetched p [] = refl
list_any-fetched p (f ∷ fetches) = ap (λ b. p f.key || b) (list_any-fetched p fetches)

-- a key of distinct ones isn't among those before it
earlier_keys_differ : (fetches : List Fetch) (i : ℕ) (fetch : Fetch) → AllPairs (λ f g. same_key f.key g.key ≡ false) fetches → i < length fetches → fetch ≡ get_or fetches i fetch
    → list_any (λ (f : Fetch). same_key f.key fetch.key) (take i fetches) ≡ true → ⊥
earlier_keys_differ fetches i fetch distinct h is found =
    let any : Any (λ (f : Fetch). same_key f.key fetch.key ≡ true) (take i fetches) = Any-from_list_any (λ (f : Fetch). same_key f.key fetch.key) (take i fetches) found in
    let size = length-take i fetches in
    let shorter : any.0 < length (take i fetches) = any.2 in
    let before : any.0 < i = omega arith in
    let first : get_or fetches any.0 any.1 ≡ any.1 = sym (get_or-take i fetches any.0 any.1 before) ∙ any.3 in
    let second : fetch ≡ get_or fetches i any.1 = get_or_read fetches i fetch h is any.1 in
    let apart : same_key (get_or fetches any.0 any.1).key (get_or fetches i any.1).key ≡ false = distinct any.0 i any.1 before h in
    let alike : same_key any.1.key fetch.key ≡ false =
    subst (λ (f : Fetch). same_key f.key fetch.key ≡ false) first (subst (λ (g : Fetch). same_key (get_or fetches any.0 any.1).key g.key ≡ false) (sym second) apart) in
    cc any.4

pub new_key : (fetches : List Fetch) (i : ℕ) (fetch : Fetch) (files : List File) → AllPairs (λ f g. same_key f.key g.key ≡ false) fetches → i < length fetches → fetch ≡ get_or fetches i fetch
    → map (λ (file : File). file.0) files ≡ map (λ (f : Fetch). f.key) (take i fetches) → holds_key files fetch.key ≡ false
new_key fetches i fetch files distinct h is read =
    false_from_ne_true (holds_key files fetch.key) (λ found.
    earlier_keys_differ fetches i fetch distinct h is
    (sym (list_any-fetched (λ j. same_key j fetch.key) (take i fetches))
    ∙ (subst (λ ks. list_any (λ j. same_key j fetch.key) ks ≡ true) read (sym (list_any-keys (λ j. same_key j fetch.key) files) ∙ found))))

-- ---- each key where it stands first

abbrev AreDistinct : List Key → Type 0
AreDistinct = AllPairs (λ j k. same_key j k ≡ false)

one_more : (keys : List Key) (k : Key) → AreDistinct (each_once keys) → AreDistinct (each_once (keys ++ k ∷ []))
one_more keys k distinct = subst AreDistinct (sym (each_once-push keys k)) (by (has_key (each_once keys) k) refl)
  where
    by : (there : Bool) → has_key (each_once keys) k ≡ there → AreDistinct (each_once keys ++ filter (λ key. not (has_key (each_once keys) key)) (k ∷ []))
    by true e = rw e (subst AreDistinct (sym (append-nil (each_once keys))) distinct)
    by false e = rw e (distinct-push (each_once keys) k distinct e)

all_more : (keys others : List Key) → AreDistinct (each_once keys) → AreDistinct (each_once (keys ++ others))
all_more keys [] distinct = subst (λ ks. AreDistinct (each_once ks)) (sym (append-nil keys)) distinct
all_more keys (k ∷ others) distinct =
    subst (λ ks. AreDistinct (each_once ks)) (append_assoc keys (k ∷ []) others) (all_more (keys ++ k ∷ []) others (one_more keys k distinct))

each_once-distinct : (keys : List Key) → AreDistinct (each_once keys)
each_once-distinct keys = all_more [] keys (λ i j d low within. absurd (omega arith))

-- a fetch of each key
module _ (script : List StatementTree) where
  abbrev fetch_of : Key → Fetch
  fetch_of key = record { key = key; form = form_in script key }

  key_at : (keys : List Key) (i : ℕ) (d : Fetch) → i < length keys → (get_or (map fetch_of keys) i d).key ≡ get_or keys i d.key
  key_at [] i d low = absurd (omega arith)
  key_at (k ∷ keys) zero d low = refl
  key_at (k ∷ keys) (suc i) d low = key_at keys i d (omega (arith, low))

  pub fetches-distinct : AllPairs (λ f g. same_key f.key g.key ≡ false) (fetches script)
  fetches-distinct i j d low within =
      let keys = fetched_keys script in
      let size : length (map fetch_of keys) ≡ length keys = length-map keys fetch_of in
      rw (key_at keys i d (omega arith), key_at keys j d (omega arith)) (each_once-distinct (needed_from [] script) i j d.key low (omega arith))

  -- each fetch has the form of the first load of its key
  form_at : (keys : List Key) (i : ℕ) (d : Fetch) → i < length keys → (get_or (map fetch_of keys) i d).form ≡ form_in script (get_or (map fetch_of keys) i d).key
  form_at [] i d low = absurd (omega arith)
  form_at (k ∷ keys) zero d low = refl
  form_at (k ∷ keys) (suc i) d low = form_at keys i d (omega (arith, low))

  fetch-formed : (f : Fetch) → Contains (fetches script) f → f.form ≡ form_in script f.key
  fetch-formed f is_one =
      let size : length (map fetch_of (fetched_keys script)) ≡ length (fetched_keys script) = length-map (fetched_keys script) fetch_of in
      let low : is_one.0 < length (map fetch_of (fetched_keys script)) = is_one.1 in
      subst (λ (g : Fetch). g.form ≡ form_in script g.key) is_one.2 (form_at (fetched_keys script) is_one.0 f (omega arith))

  -- files that were read by the fetches of a script have the forms of its loads
  pub forms-fetched : (files : List File) → All (IsFetchedBy (fetches script)) files → have_forms files script ≡ true
  forms-fetched [] all = refl
  forms-fetched (file ∷ files) all =
      let one = All-head (IsFetchedBy (fetches script)) file files all in
      and_from (has_form (form_in script file.0) file.1) (have_forms files script)
      (ap (λ key. has_form (form_in script key) file.1) one.key ∙ ap (λ form. has_form form file.1) (sym (fetch-formed one.fetch one.is_one)) ∙ one.formed)
      (forms-fetched files (All-tail (IsFetchedBy (fetches script)) file files all))

-- the rows of the files have their columns' types
pub types-fetched : (fetches : List Fetch) (files : List File) → All (IsFetchedBy fetches) files → AreTyped files
types-fetched fetches files all = λ k d less. (all k d less).typed

-- ---- one file more

-- the items before the next place, and the item there
pub take_more : {X : Type 0} (xs : List X) (i : ℕ) (x : X) → i < length xs → x ≡ get_or xs i x → take (i + 1) xs ≡ take i xs ++ x ∷ []
take_more xs i x h is = (rw add-one (take-suc xs i x h)) ∙ ap (λ y. take i xs ++ y ∷ []) (sym is)

pub one_more_read : (content same : List ℕ → Content) (fetches : List Fetch) (i : ℕ) (fetch : Fetch) (files more : List File)
    (relation : RelationState) → i < length fetches → fetch ≡ get_or fetches i fetch → same ≡ content
    → IfTold (files_verdict content (take i fetches)) (λ s. s ≡ passes files)
    → Meets (λ s. s ≡ relation_verdict fetch (same (file_name_of fetch.key))) (passes relation)
    → more ≡ files ++ (fetch.key, relation) ∷ []
    → IfTold (files_verdict content (take (i + 1) fetches)) (λ s. s ≡ passes more)
one_more_read content same fetches i fetch files more relation h is alike read met grown =
    let found : IfTold (relation_verdict fetch (content (file_name_of fetch.key))) (λ s. s ≡ passes relation) =
    step_met _ (passes relation)
    (subst (λ (con : List ℕ → Content). Meets (λ s. s ≡ relation_verdict fetch (con (file_name_of fetch.key))) (passes relation)) alike met) in
    let both = files_more content (take i fetches) fetch files relation read found in
    subst (λ (fs : List Fetch). IfTold (files_verdict content fs) (λ s. s ≡ passes more)) (sym (take_more fetches i fetch h is))
    (subst (λ (fs : List File). IfTold (files_verdict content (take i fetches ++ fetch ∷ [])) (λ s. s ≡ passes fs)) (sym grown) both)

pub one_more_key : (fetches : List Fetch) (i : ℕ) (fetch : Fetch) (files more : List File) (relation : RelationState)
    → i < length fetches → fetch ≡ get_or fetches i fetch
    → map (λ (file : File). file.0) files ≡ map (λ (f : Fetch). f.key) (take i fetches)
    → more ≡ files ++ (fetch.key, relation) ∷ []
    → map (λ (file : File). file.0) more ≡ map (λ (f : Fetch). f.key) (take (i + 1) fetches)
one_more_key fetches i fetch files more relation h is keys grown =
    ap (map (λ (file : File). file.0)) grown ∙ map-append (λ (file : File). file.0) files ((fetch.key, relation) ∷ [])
    ∙ ap (λ (ks : List Key). ks ++ fetch.key ∷ []) keys
    ∙ sym (map-append (λ (f : Fetch). f.key) (take i fetches) (fetch ∷ []))
    ∙ ap (map (λ (f : Fetch). f.key)) (sym (take_more fetches i fetch h is))

pub one_more_fetched : (fetches : List Fetch) (files more : List File) (file : File) → All (IsFetchedBy fetches) files
    → IsFetchedBy fetches file → more ≡ files ++ file ∷ [] → All (IsFetchedBy fetches) more
one_more_fetched fetches files more file all one grown =
    subst (All (IsFetchedBy fetches)) (sym grown)
    (All-append (IsFetchedBy fetches) files (file ∷ []) all
    (All-cons (IsFetchedBy fetches) file [] one (All-nil (IsFetchedBy fetches))))
