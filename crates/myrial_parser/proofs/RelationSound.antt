-- Relation expressions: what the descent reads is such a phrase.
use Rattle.std.proofs.Common.{◌≡◌, ℕ, ◌+◌, Bool, true, false, cond, ◌&&◌, List, [], ◌∷◌, ◌++◌, drop, length, Option, Some, None, unwrap_or, codes, refl, sym, ap, subst, ◌∙◌, append_assoc, append-nil}
use Rattle.std.specs.Prelude.{nat_lt}
use Rattle.rel_base.specs.declared.values.ColType.{ColType}
use Rattle.rel_base.specs.declared.names.Key.{Key}
use Rattle.myrial_ast.specs.declared.relations.Operand.{Operand}
use Rattle.myrial_ast.specs.declared.relations.Operand.TheVariants as source
use Rattle.myrial_ast.specs.Trees as tree
use Rattle.myrial_ast.specs.Trees.{Tree, EmitTree, RelTree}
use Rattle.myrial_lexer.specs.declared.kinds.Sign.TheVariants as sign
use Rattle.myrial_parser.specs.declared.terminals.Keyword.{Keyword}
use Rattle.myrial_parser.specs.declared.terminals.Keyword.TheVariants as keyword
use Rattle.myrial_parser.specs.declared.terminals.Symbol.{Symbol}
use Rattle.myrial_parser.specs.declared.terminals.Symbol.TheVariants.{Keyword as Word, Sign}
use Rattle.myrial_parser.specs.Symbols as s
use Rattle.myrial_parser.specs.Terminals.{Fixed, Name, Number, Quoted}
use Rattle.myrial_parser.specs.Phrases.{Separated, is_word}
use Rattle.myrial_parser.specs.Grammar as g
use Rattle.myrial_parser.specs.Grammar.{IsKey, own_key, program_key, user_key, IsSkip, no_skip, a_skip, IsForm, formed, IsLoad, loaded, operand_of, IsSource, named_source, scanned_source, loaded_source, IsColumnDefinition, typed, IsItem, unaliased, aliased, IsCondition, absent, present, IsEmit, all_columns, columns_of, unnamed, named, IsExpression, IsArgument, IsRelation, type_of, own_name}
use Rattle.myrial_parser.specs.inner.Descent as d
use Rattle.myrial_parser.specs.inner.Descent.{Input, Parsed, ◌>>=◌, sees, expect, name, in_parens, key_behind_two, key_behind, kind_of, name_behind_as, separated, symbol_ahead}
use Rattle.myrial_parser.proofs.ParserLemmas.{Reading, Sound, steps, same_value, same_rest, finish, sees-is, symbol_ahead-is, expect-then, name-then, number-is, quoted-is, word-then, called-sound, in_parens-sound, word-reads}
use Rattle.myrial_parser.proofs.SeparatedLemmas.{separated-sound}
use Rattle.myrial_parser.proofs.LevelLemmas.{expression-sound}

-- ---- keys and operands

key_behind_two-reads : (u p : List ℕ) (i : Input) (k : Key) (rest : Input) → key_behind_two u p i ≡ Some (k, rest) → Reading (λ ts k. IsKey (Name u ∷ Fixed s.Colon ∷ Name p ∷ ts) k) i k rest
key_behind_two-reads u p i k rest e = by (sees s.Colon i) refl e
  where
    by : (t : Bool) → sees s.Colon i ≡ t
        → ◌≡◌ {A = Parsed Key} (cond t (name (drop 1 i) >>= λ n rest. Some (record { user = u; program = p; name = n }, rest)) (Some (record { user = codes "public"; program = u; name = p }, i))) (Some (k, rest))
        → Reading (λ ts k. IsKey (Name u ∷ Fixed s.Colon ∷ Name p ∷ ts) k) i k rest
    by false is e = finish (λ ts k. IsKey (Name u ∷ Fixed s.Colon ∷ Name p ∷ ts) k) i [] i _ k rest refl (program_key u p) e
    by true is e =
        let n = name-then (λ n rest. Some (record { user = u; program = p; name = n }, rest)) (drop 1 i) k rest e in
        finish (λ ts k. IsKey (Name u ∷ Fixed s.Colon ∷ Name p ∷ ts) k) i (Fixed s.Colon ∷ Name n.text ∷ []) n.behind _ k rest
        (sees-is s.Colon i is ∙ ap (λ (ts : Input). Fixed s.Colon ∷ ts) n.split) (user_key u p n.text) n.on

key_behind-reads : (u : List ℕ) (i : Input) (k : Key) (rest : Input) → key_behind u i ≡ Some (k, rest) → Reading (λ ts k. IsKey (Name u ∷ ts) k) i k rest
key_behind-reads u i k rest e = by (sees s.Colon i) refl e
  where
    by : (t : Bool) → sees s.Colon i ≡ t
        → ◌≡◌ {A = Parsed Key} (cond t (name (drop 1 i) >>= λ n rest. key_behind_two u n rest) (Some (record { user = codes "public"; program = codes "adhoc"; name = u }, i))) (Some (k, rest))
        → Reading (λ ts k. IsKey (Name u ∷ ts) k) i k rest
    by false is e = finish (λ ts k. IsKey (Name u ∷ ts) k) i [] i _ k rest refl (own_key u) e
    by true is e =
        let n = name-then (λ n rest. key_behind_two u n rest) (drop 1 i) k rest e in
        let r = key_behind_two-reads u n.text n.behind k rest n.on in
        record {
          front = Fixed s.Colon ∷ Name n.text ∷ r.front;
          split = sees-is s.Colon i is ∙ ap (λ (ts : Input). Fixed s.Colon ∷ ts) (n.split ∙ ap (λ (ts : Input). Name n.text ∷ ts) r.split);
          is = r.is;
        }

pub key-sound : Sound d.key IsKey
unfolding d.key
key-sound = record {
  reads = λ i k rest e.
      let n = name-then (λ n rest. key_behind n rest) i k rest e in
      let r = key_behind-reads n.text n.behind k rest n.on in
      record { front = Name n.text ∷ r.front; split = n.split ∙ ap (λ (ts : Input). Name n.text ∷ ts) r.split; is = r.is };
}

-- ---- columns of `empty`

kind_of-is : (o : Option ColType) (i : Input) (k : ColType) (rest : Input) → kind_of o i ≡ Some (k, rest) → (o ≡ Some k) × (i ≡ rest)
kind_of-is None i k rest e = absurd (cc)
kind_of-is (Some kind) i k rest e = (ap Some (same_value kind k i rest e), same_rest kind k i rest e)

-- the word of a type, and the terminals behind it
record Typed (i : Input) (k : ColType) (rest : Input) : Type 0 where
  word : List ℕ
  split : i ≡ Name word ∷ rest
  is : type_of word ≡ Some k

kind-reads : (i : Input) (k : ColType) (rest : Input) → d.kind i ≡ Some (k, rest) → Typed i k rest
kind-reads [] k rest e = absurd (cc)
kind-reads (Name word ∷ i) k rest e = let p = kind_of-is (type_of word) i k rest e in record { word = word; split = ap (λ (ts : Input). Name word ∷ ts) p.1; is = p.0 }
kind-reads (Number n ∷ i) k rest e = absurd (cc)
kind-reads (Quoted n ∷ i) k rest e = absurd (cc)
kind-reads (Fixed n ∷ i) k rest e = absurd (cc)

pub column_definition-sound : Sound d.column_definition IsColumnDefinition
unfolding d.column_definition
column_definition-sound = record {
  reads = λ i c rest e.
      let n = name-then (λ n rest. expect s.Colon rest >>= λ _ behind. d.kind behind >>= λ k end. Some (record { name = n; kind = k }, end)) i c rest e in
      let colon = expect-then s.Colon (λ behind. d.kind behind >>= λ k end. Some (record { name = n.text; kind = k }, end)) n.behind c rest n.on in
      let k = steps (d.kind colon.behind) (λ k end. Some (record { name = n.text; kind = k }, end)) c rest colon.on in
      let w = kind-reads colon.behind k.value k.middle k.start in
      let split = n.split ∙ ap (λ (ts : Input). Name n.text ∷ ts) (colon.split ∙ ap (λ (ts : Input). Fixed s.Colon ∷ ts) w.split) in
      finish IsColumnDefinition i (Name n.text ∷ Fixed s.Colon ∷ Name w.word ∷ []) k.middle _ c rest split (typed n.text w.word k.value w.is) k.end;
}

columns-sound : Sound (separated d.column_definition) (Separated IsColumnDefinition)
columns-sound = separated-sound d.column_definition IsColumnDefinition column_definition-sound

-- ---- loads

skip-sound : Sound d.skip IsSkip
unfolding d.skip
skip-sound = record { reads = λ i n rest e. by i n rest (sees s.Comma i) refl e }
  where
    by : (i : Input) (n : ℕ) (rest : Input) (t : Bool) → sees s.Comma i ≡ t
        → ◌≡◌ {A = Parsed ℕ} (cond t (d.word (codes "skip") (drop 1 i) >>= λ _ rest. expect s.Eq rest >>= λ _ rest. d.number rest) (Some (0, i))) (Some (n, rest)) → Reading IsSkip i n rest
    by i n rest false is e = finish IsSkip i [] i 0 n rest refl no_skip e
    by i n rest true is e =
        let w = word-then (codes "skip") (λ rest. expect s.Eq rest >>= λ _ rest. d.number rest) (drop 1 i) n rest e in
        let eq = expect-then s.Eq (λ rest. d.number rest) w.behind n rest w.on in
        let split = sees-is s.Comma i is ∙ ap (λ (ts : Input). Fixed s.Comma ∷ ts) (w.split ∙ ap (λ (ts : Input). Name w.text ∷ ts) (eq.split ∙ ap (λ (ts : Input). Fixed s.Eq ∷ ts) (number-is eq.behind n rest eq.on))) in
        record { front = Fixed s.Comma ∷ Name w.text ∷ Fixed s.Eq ∷ Number n ∷ []; split = split; is = a_skip w.text n w.is }

form-sound : Sound d.form IsForm
unfolding d.form
form-sound = record {
  reads = λ i f rest e.
      let two = steps (d.called (codes "schema") (separated d.column_definition) i) (λ columns rest. d.skip rest >>= λ n end. Some (record { schema = columns; skip = n }, end)) f rest e in
      let more = steps (d.skip two.middle) (λ n end. Some (record { schema = two.value; skip = n }, end)) f rest two.end in
      let left = (called-sound (codes "schema") (separated d.column_definition) (Separated IsColumnDefinition) columns-sound).reads i two.value two.middle two.start in
      let right = skip-sound.reads two.middle more.value more.middle more.start in
      finish IsForm i (left.front ++ right.front) more.middle _ f rest (left.split ∙ ap (λ (ts : Input). left.front ++ ts) right.split ∙ sym (append_assoc left.front right.front more.middle))
      (formed left.front right.front two.value more.value left.is right.is) more.end;
}

load-sound : Sound d.load IsLoad
unfolding d.load
load-sound = record {
  reads = λ i l rest e.
      let two = steps (d.quoted i) (λ file rest. expect s.Comma rest >>= λ _ rest. d.called (codes "csv") d.form rest >>= λ f end. Some (record { file = file; form = f }, end)) l rest e in
      let comma = expect-then s.Comma (λ rest. d.called (codes "csv") d.form rest >>= λ f end. Some (record { file = two.value; form = f }, end)) two.middle l rest two.end in
      let more = steps (d.called (codes "csv") d.form comma.behind) (λ f end. Some (record { file = two.value; form = f }, end)) l rest comma.on in
      let r = (called-sound (codes "csv") d.form IsForm form-sound).reads comma.behind more.value more.middle more.start in
      finish IsLoad i (Quoted two.value ∷ Fixed s.Comma ∷ r.front) more.middle _ l rest
      (quoted-is i two.value two.middle two.start ∙ ap (λ (ts : Input). Quoted two.value ∷ ts) (comma.split ∙ ap (λ (ts : Input). Fixed s.Comma ∷ ts) r.split)) (loaded two.value r.front more.value r.is) more.end;
}

-- ---- operands

source-reads : (i : Input) (o : Operand) (rest : Input) → d.source i ≡ Some (o, rest) → Reading IsSource i o rest
unfolding d.source
source-reads i o rest e = by (sees s.Scan i) refl e
  where
    on : (t : Bool) → ◌≡◌ {A = Parsed Operand} (cond t (d.called (codes "load") d.load i >>= λ l rest. Some (operand_of l, rest)) (name i >>= λ n rest. Some (source.Named n, rest))) (Some (o, rest)) → Reading IsSource i o rest
    on false e =
        let n = name-then (λ n rest. Some (source.Named n, rest)) i o rest e in
        finish IsSource i (Name n.text ∷ []) n.behind _ o rest n.split (named_source n.text) n.on
    on true e =
        let two = steps (d.called (codes "load") d.load i) (λ l rest. Some (operand_of l, rest)) o rest e in
        let r = (called-sound (codes "load") d.load IsLoad load-sound).reads i two.value two.middle two.start in
        finish IsSource i r.front two.middle _ o rest r.split (loaded_source r.front two.value r.is) two.end

    by : (t : Bool) → sees s.Scan i ≡ t
        → ◌≡◌ {A = Parsed Operand} (cond t (in_parens d.key (drop 1 i) >>= λ k rest. Some (source.Scan k, rest))
        (cond (d.sees_load i) (d.called (codes "load") d.load i >>= λ l rest. Some (operand_of l, rest)) (name i >>= λ n rest. Some (source.Named n, rest)))) (Some (o, rest)) → Reading IsSource i o rest
    by false is e = on (d.sees_load i) e
    by true is e =
        let two = steps (in_parens d.key (drop 1 i)) (λ k rest. Some (source.Scan k, rest)) o rest e in
        let k = (in_parens-sound d.key IsKey key-sound).reads (drop 1 i) two.value two.middle two.start in
        let r = word-reads s.Scan IsKey source.Scan IsSource scanned_source (drop 1 i) two.value two.middle k in
        finish IsSource i r.front two.middle _ o rest (sees-is s.Scan i is ∙ r.split) r.is two.end

pub source-sound : Sound d.source IsSource
source-sound = record { reads = source-reads }

-- two operands with a comma between them
pub data IsTwo : Input → Operand × Operand → Type 0 where
  both_sources : (ts us : Input) (o p : Operand) → IsSource ts o → IsSource us p → IsTwo (ts ++ Fixed s.Comma ∷ us) (o, p)

pub two_sources-sound : Sound d.two_sources IsTwo
unfolding d.two_sources
two_sources-sound = record {
  reads = λ i b rest e.
      let l = steps (d.source i) (λ left rest. expect s.Comma rest >>= λ _ behind. d.source behind >>= λ right end. Some ((left, right), end)) b rest e in
      let left = source-reads i l.value l.middle l.start in
      let comma = expect-then s.Comma (λ behind. d.source behind >>= λ right end. Some ((l.value, right), end)) l.middle b rest l.end in
      let r = steps (d.source comma.behind) (λ right end. Some ((l.value, right), end)) b rest comma.on in
      let right = source-reads comma.behind r.value r.middle r.start in
      let split = left.split ∙ ap (λ (ts : Input). left.front ++ ts) (comma.split ∙ ap (λ (ts : Input). Fixed s.Comma ∷ ts) right.split) ∙ sym (append_assoc left.front (Fixed s.Comma ∷ right.front) r.middle) in
      finish IsTwo i (left.front ++ Fixed s.Comma ∷ right.front) r.middle (l.value, r.value) b rest split (both_sources left.front right.front l.value r.value left.is right.is) r.end;
}

-- ---- items

-- a name behind `as`, or nothing
pub data IsAlias : Input → Option (List ℕ) → Type 0 where
  no_alias : IsAlias [] None
  an_alias : (n : List ℕ) → IsAlias (Fixed s.As ∷ Name n ∷ []) (Some n)

pub name_behind_as-sound : Sound name_behind_as IsAlias
name_behind_as-sound = record { reads = λ i o rest e. by i o rest (sees s.As i) refl e }
  where
    by : (i : Input) (o : Option (List ℕ)) (rest : Input) (t : Bool) → sees s.As i ≡ t
        → ◌≡◌ {A = Parsed (Option (List ℕ))} (cond t (name (drop 1 i) >>= λ n rest. Some (Some n, rest)) (Some (None, i))) (Some (o, rest)) → Reading IsAlias i o rest
    by i o rest false is e = finish IsAlias i [] i None o rest refl no_alias e
    by i o rest true is e =
        let n = name-then (λ n rest. Some (Some n, rest)) (drop 1 i) o rest e in
        finish IsAlias i (Fixed s.As ∷ Name n.text ∷ []) n.behind (Some n.text) o rest (sees-is s.As i is ∙ ap (λ (ts : Input). Fixed s.As ∷ ts) n.split) (an_alias n.text) n.on

item-is : (ts us : Input) (o : Operand) (alias : Option (List ℕ)) → IsSource ts o → IsAlias us alias → IsItem (ts ++ us) (record { source = o; alias = unwrap_or alias (own_name o) })
item-is ts _ o _ h no_alias = subst (λ (us : Input). IsItem us (record { source = o; alias = own_name o })) (sym (append-nil ts)) (unaliased ts o h)
item-is ts _ o _ h (an_alias n) = aliased ts o n h

pub item-sound : Sound d.item IsItem
unfolding d.item
item-sound = record {
  reads = λ i b rest e.
      let two = steps (d.source i) (λ o rest. name_behind_as rest >>= λ alias end. Some (record { source = o; alias = unwrap_or alias (own_name o) }, end)) b rest e in
      let left = source-reads i two.value two.middle two.start in
      let more = steps (name_behind_as two.middle) (λ alias end. Some (record { source = two.value; alias = unwrap_or alias (own_name two.value) }, end)) b rest two.end in
      let right = name_behind_as-sound.reads two.middle more.value more.middle more.start in
      let split = left.split ∙ ap (λ (ts : Input). left.front ++ ts) right.split ∙ sym (append_assoc left.front right.front more.middle) in
      finish IsItem i (left.front ++ right.front) more.middle _ b rest split (item-is left.front right.front two.value more.value left.is right.is) more.end;
}

-- ---- conditions and emit items

pub whole_expression-sound : Sound d.whole_expression IsExpression
unfolding d.whole_expression
whole_expression-sound = record {
  reads = λ i a rest e.
      let r = (expression-sound (length i + 1)).reads i a rest e in
      record { front = r.front; split = r.split; is = (length i + 1, r.is) };
}

pub condition-sound : Sound d.condition IsCondition
unfolding d.condition
condition-sound = record { reads = λ i o rest e. by i o rest (sees s.Where i) refl e }
  where
    by : (i : Input) (o : Option Tree) (rest : Input) (t : Bool) → sees s.Where i ≡ t
        → ◌≡◌ {A = Parsed (Option Tree)} (cond t (d.whole_expression (drop 1 i) >>= λ a rest. Some (Some a, rest)) (Some (None, i))) (Some (o, rest)) → Reading IsCondition i o rest
    by i o rest false is e = finish IsCondition i [] i None o rest refl absent e
    by i o rest true is e =
        let two = steps (d.whole_expression (drop 1 i)) (λ a rest. Some (Some a, rest)) o rest e in
        let r = whole_expression-sound.reads (drop 1 i) two.value two.middle two.start in
        finish IsCondition i (Fixed s.Where ∷ r.front) two.middle (Some two.value) o rest (sees-is s.Where i is ∙ ap (λ (ts : Input). Fixed s.Where ∷ ts) r.split) (present r.front two.value r.is) two.end

emit-is : (ts us : Input) (a : Tree) (n : Option (List ℕ)) → IsExpression ts a → IsAlias us n → IsEmit (ts ++ us) (tree.One a n)
emit-is ts _ a _ h no_alias = subst (λ (us : Input). IsEmit us (tree.One a None)) (sym (append-nil ts)) (unnamed ts a h)
emit-is ts _ a _ h (an_alias n) = named ts a n h

emitted-reads : (i : Input) (b : EmitTree) (rest : Input) → d.emitted i ≡ Some (b, rest) → Reading IsEmit i b rest
unfolding d.emitted
emitted-reads i b rest e =
    let two = steps (d.whole_expression i) (λ a rest. name_behind_as rest >>= λ n end. Some (tree.One a n, end)) b rest e in
    let left = whole_expression-sound.reads i two.value two.middle two.start in
    let more = steps (name_behind_as two.middle) (λ n end. Some (tree.One two.value n, end)) b rest two.end in
    let right = name_behind_as-sound.reads two.middle more.value more.middle more.start in
    let split = left.split ∙ ap (λ (ts : Input). left.front ++ ts) right.split ∙ sym (append_assoc left.front right.front more.middle) in
    finish IsEmit i (left.front ++ right.front) more.middle _ b rest split (emit-is left.front right.front two.value more.value left.is right.is) more.end

and-both : (a b : Bool) → (a && b) ≡ true → (a ≡ true) × (b ≡ true)
and-both true true e = (refl, refl)
and-both true false e = absurd (cc)
and-both false b e = absurd (cc)

emitted_alias-reads : (i : Input) (b : EmitTree) (rest : Input) → (sees s.Dot (drop 1 i) && sees s.Star (drop 2 i)) ≡ true → d.emitted_alias i ≡ Some (b, rest) → Reading IsEmit i b rest
unfolding d.emitted_alias
emitted_alias-reads [] b rest is e = absurd (cc)
emitted_alias-reads (Number n ∷ i) b rest is e = absurd (cc)
emitted_alias-reads (Quoted n ∷ i) b rest is e = absurd (cc)
emitted_alias-reads (Fixed n ∷ i) b rest is e = absurd (cc)
emitted_alias-reads (Name n ∷ i) b rest is e =
    let seen = and-both (sees s.Dot i) (sees s.Star (drop 1 i)) is in
    let split = ap (λ (ts : Input). Name n ∷ ts) (sees-is s.Dot i seen.0 ∙ ap (λ (ts : Input). Fixed s.Dot ∷ ts) (sees-is s.Star (drop 1 i) seen.1)) in
    finish IsEmit (Name n ∷ i) (Name n ∷ Fixed s.Dot ∷ Fixed s.Star ∷ []) (drop 1 (drop 1 i)) (tree.AllOf n) b rest split (columns_of n) e

pub emit-sound : Sound d.emit IsEmit
unfolding d.emit
emit-sound = record { reads = λ i b rest e. by i b rest (sees s.Star i) refl e }
  where
    on : (i : Input) (b : EmitTree) (rest : Input) (t : Bool) → (sees s.Dot (drop 1 i) && sees s.Star (drop 2 i)) ≡ t → cond t (d.emitted_alias i) (d.emitted i) ≡ Some (b, rest) → Reading IsEmit i b rest
    on i b rest true is e = emitted_alias-reads i b rest is e
    on i b rest false is e = emitted-reads i b rest e

    by : (i : Input) (b : EmitTree) (rest : Input) (t : Bool) → sees s.Star i ≡ t
        → ◌≡◌ {A = Parsed EmitTree} (cond t (Some (tree.All, drop 1 i)) (cond (sees s.Dot (drop 1 i) && sees s.Star (drop 2 i)) (d.emitted_alias i) (d.emitted i))) (Some (b, rest)) → Reading IsEmit i b rest
    by i b rest true is e = finish IsEmit i (Fixed s.Star ∷ []) (drop 1 i) tree.All b rest (sees-is s.Star i is) all_columns e
    by i b rest false is e = on i b rest (sees s.Dot (drop 1 i) && sees s.Star (drop 2 i)) refl e

-- ---- relation expressions

comprehension-reads : (i : Input) (b : RelTree) (rest : Input) → d.comprehension i ≡ Some (b, rest) → Reading (λ ts r. IsRelation (Fixed s.OpenBracket ∷ ts) r) i b rest
unfolding d.comprehension d.bracketed_emits
comprehension-reads i b rest e =
    let from = expect-then s.From (λ rest. separated d.item rest >>= λ from rest. d.condition rest >>= λ where_ rest. d.bracketed_emits rest >>= λ all end. Some (tree.From from where_ all, end)) i b rest e in
    let items = steps (separated d.item from.behind) (λ from rest. d.condition rest >>= λ where_ rest. d.bracketed_emits rest >>= λ all end. Some (tree.From from where_ all, end)) b rest from.on in
    let condition = steps (d.condition items.middle) (λ where_ rest. d.bracketed_emits rest >>= λ all end. Some (tree.From items.value where_ all, end)) b rest items.end in
    let part = steps (d.bracketed_emits condition.middle) (λ all end. Some (tree.From items.value condition.value all, end)) b rest condition.end in
    let emit = expect-then s.Emit (λ rest. separated d.emit rest >>= λ all rest. expect s.CloseBracket rest >>= λ _ end. Some (all, end)) condition.middle part.value part.middle part.start in
    let emits = steps (separated d.emit emit.behind) (λ all rest. expect s.CloseBracket rest >>= λ _ end. Some (all, end)) part.value part.middle emit.on in
    let close = expect-then s.CloseBracket (λ end. Some (emits.value, end)) emits.middle part.value part.middle emits.end in
    let p = (separated-sound d.item IsItem item-sound).reads from.behind items.value items.middle items.start in
    let q = condition-sound.reads items.middle condition.value condition.middle condition.start in
    let r = (separated-sound d.emit IsEmit emit-sound).reads emit.behind emits.value emits.middle emits.start in
    finish (λ ts r. IsRelation (Fixed s.OpenBracket ∷ ts) r) i (Fixed s.From ∷ p.front ++ q.front ++ Fixed s.Emit ∷ r.front ++ Fixed s.CloseBracket ∷ []) close.behind _ b rest
    (from.split ∙ ap (λ (ts : Input). Fixed s.From ∷ ts)
    (p.split ∙ ap (λ (ts : Input). p.front ++ ts) (q.split ∙ ap (λ (ts : Input). q.front ++ ts) (emit.split ∙ ap (λ (ts : Input). Fixed s.Emit ∷ ts) (r.split ∙ ap (λ (ts : Input). r.front ++ ts) close.split)))
    ∙ joined p.front q.front r.front close.behind))
    (g.comprehension p.front q.front r.front items.value condition.value emits.value p.is q.is r.is)
    (ap (λ (o : Parsed (List EmitTree)). o >>= λ all end. Some (tree.From items.value condition.value all, end)) close.on ∙ part.end)
  where
    joined : (ts us vs rest : Input) → ts ++ (us ++ (Fixed s.Emit ∷ (vs ++ (Fixed s.CloseBracket ∷ rest)))) ≡ (((ts ++ us) ++ (Fixed s.Emit ∷ vs)) ++ (Fixed s.CloseBracket ∷ [])) ++ rest
    joined ts us vs rest = simp append_assoc

copied-reads : (i : Input) (b : RelTree) (rest : Input) → d.copied i ≡ Some (b, rest) → Reading IsRelation i b rest
copied-reads i b rest e =
    let o = steps (d.source i) (λ o rest. Some (tree.Copy o, rest)) b rest e in
    let r = source-reads i o.value o.middle o.start in
    finish IsRelation i r.front o.middle _ b rest r.split (g.copied r.front o.value r.is) o.end

selection-reads : (word : List ℕ) → is_word (codes "select") word ≡ true → (i : Input) (b : RelTree) (rest : Input) → d.selection i ≡ Some (b, rest) → Reading (λ ts r. IsRelation (Name word ∷ ts) r) i b rest
unfolding d.selection
selection-reads word is i b rest e =
    let emits = steps (separated d.emit i) (λ all rest. expect s.From rest >>= λ _ rest. separated d.item rest >>= λ from rest. d.condition rest >>= λ where_ end. Some (tree.From from where_ all, end)) b rest e in
    let from = expect-then s.From (λ rest. separated d.item rest >>= λ from rest. d.condition rest >>= λ where_ end. Some (tree.From from where_ emits.value, end)) emits.middle b rest emits.end in
    let items = steps (separated d.item from.behind) (λ from rest. d.condition rest >>= λ where_ end. Some (tree.From from where_ emits.value, end)) b rest from.on in
    let condition = steps (d.condition items.middle) (λ where_ end. Some (tree.From items.value where_ emits.value, end)) b rest items.end in
    let p = (separated-sound d.emit IsEmit emit-sound).reads i emits.value emits.middle emits.start in
    let q = (separated-sound d.item IsItem item-sound).reads from.behind items.value items.middle items.start in
    let r = condition-sound.reads items.middle condition.value condition.middle condition.start in
    finish (λ ts r. IsRelation (Name word ∷ ts) r) i (p.front ++ (Fixed s.From ∷ (q.front ++ r.front))) condition.middle _ b rest
    (p.split ∙ ap (λ (ts : Input). p.front ++ ts) (from.split ∙ ap (λ (ts : Input). Fixed s.From ∷ ts) (q.split ∙ ap (λ (ts : Input). q.front ++ ts) r.split)) ∙ joined p.front q.front r.front condition.middle)
    (g.selected word p.front q.front r.front emits.value items.value condition.value is p.is q.is r.is) condition.end
  where
    joined : (ts us vs rest : Input) → ts ++ (Fixed s.From ∷ (us ++ (vs ++ rest))) ≡ (ts ++ (Fixed s.From ∷ (us ++ vs))) ++ rest
    joined ts us vs rest = simp append_assoc

unmarked-reads : (i : Input) (b : RelTree) (rest : Input) → d.unmarked i ≡ Some (b, rest) → Reading IsRelation i b rest
unfolding d.sees_select
unmarked-reads i b rest e = by i (d.sees_select i) refl e
  where
    by : (i : Input) (t : Bool) → d.sees_select i ≡ t → cond t (d.selection (drop 1 i)) (d.copied i) ≡ Some (b, rest) → Reading IsRelation i b rest
    by i false is e = copied-reads i b rest e
    by [] true is e = absurd (cc)
    by (Number n ∷ i) true is e = absurd (cc)
    by (Quoted n ∷ i) true is e = absurd (cc)
    by (Fixed n ∷ i) true is e = absurd (cc)
    by (Name word ∷ i) true is e =
        let seen = and-both (is_word (codes "select") word) (nat_lt 1 (length (Name word ∷ i))) is in
        let r = selection-reads word seen.0 i b rest e in
        record { front = Name word ∷ r.front; split = ap (λ (ts : Input). Name word ∷ ts) r.split; is = r.is }

both-is : (ts : Input) (p : Operand × Operand) → IsTwo ts p → IsArgument keyword.UnionAll ts (tree.UnionAll p.0 p.1)
both-is _ _ (both_sources ts us o p h k) = g.of_both ts us o p h k

difference-is : (ts : Input) (p : Operand × Operand) → IsTwo ts p → IsArgument keyword.Diff ts (tree.Diff p.0 p.1)
difference-is _ _ (both_sources ts us o p h k) = g.of_difference ts us o p h k

argument-reads : (word : Keyword) (i : Input) (b : RelTree) (rest : Input) → d.argument word i ≡ Some (b, rest) → Reading (IsArgument word) i b rest
unfolding d.argument
argument-reads keyword.Empty i b rest e =
    let two = steps (separated d.column_definition i) (λ columns rest. Some (tree.Empty columns, rest)) b rest e in
    let r = columns-sound.reads i two.value two.middle two.start in
    finish (IsArgument keyword.Empty) i r.front two.middle _ b rest r.split (g.of_columns r.front two.value r.is) two.end
argument-reads keyword.Distinct i b rest e =
    let two = steps (d.source i) (λ o rest. Some (tree.Distinct o, rest)) b rest e in
    let r = source-reads i two.value two.middle two.start in
    finish (IsArgument keyword.Distinct) i r.front two.middle _ b rest r.split (g.of_one r.front two.value r.is) two.end
argument-reads keyword.UnionAll i b rest e =
    let two = steps (d.two_sources i) (λ p rest. Some (tree.UnionAll p.0 p.1, rest)) b rest e in
    let r = two_sources-sound.reads i two.value two.middle two.start in
    finish (IsArgument keyword.UnionAll) i r.front two.middle _ b rest r.split (both-is r.front two.value r.is) two.end
argument-reads keyword.Diff i b rest e =
    let two = steps (d.two_sources i) (λ p rest. Some (tree.Diff p.0 p.1, rest)) b rest e in
    let r = two_sources-sound.reads i two.value two.middle two.start in
    finish (IsArgument keyword.Diff) i r.front two.middle _ b rest r.split (difference-is r.front two.value r.is) two.end
argument-reads _ i b rest e = absurd (cc)

call-reads : (word : Keyword) (i : Input) (b : RelTree) (rest : Input) → in_parens (d.argument word) i ≡ Some (b, rest) → Reading IsRelation (Fixed (Word word) ∷ i) b rest
call-reads word i b rest e =
    word-reads (Word word) (IsArgument word) (λ r. r) IsRelation (g.called word) i b rest ((in_parens-sound (d.argument word) (IsArgument word) (record { reads = argument-reads word })).reads i b rest e)

-- a phrase of the terminals is one of equal terminals
along : (i j : Input) (b : RelTree) (rest : Input) → i ≡ j → Reading IsRelation j b rest → Reading IsRelation i b rest
along i j b rest same r = record { front = r.front; split = same ∙ r.split; is = r.is }

pub relation-sound : Sound d.relation IsRelation
unfolding d.relation
relation-sound = record { reads = λ i b rest e. by i b rest (symbol_ahead i) refl e }
  where
    by-word : (i : Input) (b : RelTree) (rest : Input) (word : Keyword) → symbol_ahead i ≡ Some (Word word) → d.relation_by (Some (Word word)) i ≡ Some (b, rest) → Reading IsRelation i b rest
    by-word i b rest keyword.Scan is e = copied-reads i b rest e
    by-word i b rest word is e = along i (Fixed (Word word) ∷ drop 1 i) b rest (symbol_ahead-is (Word word) i is) (call-reads word (drop 1 i) b rest e)

    by : (i : Input) (b : RelTree) (rest : Input) (o : Option Symbol) → symbol_ahead i ≡ o → d.relation_by o i ≡ Some (b, rest) → Reading IsRelation i b rest
    by i b rest None is e = unmarked-reads i b rest e
    by i b rest (Some (Word word)) is e = by-word i b rest word is e
    by i b rest (Some (Sign sign.OpenBracket)) is e =
        let r = comprehension-reads (drop 1 i) b rest e in
        record { front = Fixed s.OpenBracket ∷ r.front; split = symbol_ahead-is s.OpenBracket i is ∙ ap (λ (ts : Input). Fixed s.OpenBracket ∷ ts) r.split; is = r.is }
    by i b rest (Some (Sign _)) is e = unmarked-reads i b rest e
