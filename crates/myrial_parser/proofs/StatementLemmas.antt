-- Statements: what the descent reads is a statement, and each statement is read.
use Rattle.std.proofs.Common.{◌≡◌, Bool, true, false, cond, [], ◌∷◌, ◌++◌, drop, Some, Err, refl, sym, ap, subst, ◌∙◌, append-nil}
use Rattle.rel_base.specs.declared.names.Key.{Key}
use Rattle.myrial_ast.specs.Trees as tree
use Rattle.myrial_ast.specs.Trees.{RelTree, StatementTree}
use Rattle.myrial_parser.specs.declared.faults.Refusal.{Refusal}
use Rattle.myrial_parser.specs.declared.faults.Refusal.TheVariants as refusal
use Rattle.myrial_parser.specs.Symbols as s
use Rattle.myrial_parser.specs.Terminals.{Fixed, Name}
use Rattle.myrial_parser.specs.Grammar.{Reads, nothing, assigned, stored}
use Rattle.myrial_parser.specs.inner.Descent as d
use Rattle.myrial_parser.specs.inner.Descent.{Input, Parsed, Parses, ◌>>=◌, sees, expect, name}
use Rattle.myrial_parser.proofs.ParserLemmas.{Reading, steps, same_value, finish, sees-is, expect-then, name-then}
use Rattle.myrial_parser.proofs.RelationSound.{key-sound, relation-sound}
use Rattle.myrial_parser.proofs.RelationComplete.{key-complete, relation-complete}

-- ---- what is read is a statement

assignment-reads : (i : Input) (b : StatementTree) (rest : Input) → d.assignment i ≡ Some (b, rest) → Reading Reads i b rest
unfolding d.assignment
assignment-reads i b rest e =
    let n = name-then (λ n rest. expect s.Eq rest >>= λ _ behind. d.relation behind >>= λ r end. Some (tree.Assign n r, end)) i b rest e in
    let eq = expect-then s.Eq (λ behind. d.relation behind >>= λ r end. Some (tree.Assign n.text r, end)) n.behind b rest n.on in
    let two = steps (d.relation eq.behind) (λ r end. Some (tree.Assign n.text r, end)) b rest eq.on in
    let r = relation-sound.reads eq.behind two.value two.middle two.start in
    finish Reads i (Name n.text ∷ Fixed s.Eq ∷ r.front) two.middle _ b rest
    (n.split ∙ ap (λ (ts : Input). Name n.text ∷ ts) (eq.split ∙ ap (λ (ts : Input). Fixed s.Eq ∷ ts) r.split)) (assigned n.text r.front two.value r.is) two.end

store-reads : (i : Input) (b : StatementTree) (rest : Input) → d.store i ≡ Some (b, rest) → Reading (λ ts b. Reads (Fixed s.Store ∷ ts) b) i b rest
unfolding d.store
store-reads i b rest e =
    let open_ = expect-then s.OpenParen (λ rest. name rest >>= λ n rest. expect s.Comma rest >>= λ _ rest. d.key rest >>= λ k rest. expect s.CloseParen rest >>= λ _ end. Some (tree.Store n k, end)) i b rest e in
    let n = name-then (λ n rest. expect s.Comma rest >>= λ _ rest. d.key rest >>= λ k rest. expect s.CloseParen rest >>= λ _ end. Some (tree.Store n k, end)) open_.behind b rest open_.on in
    let comma = expect-then s.Comma (λ rest. d.key rest >>= λ k rest. expect s.CloseParen rest >>= λ _ end. Some (tree.Store n.text k, end)) n.behind b rest n.on in
    let two = steps (d.key comma.behind) (λ k rest. expect s.CloseParen rest >>= λ _ end. Some (tree.Store n.text k, end)) b rest comma.on in
    let r = key-sound.reads comma.behind two.value two.middle two.start in
    let close = expect-then s.CloseParen (λ end. Some (tree.Store n.text two.value, end)) two.middle b rest two.end in
    finish (λ ts b. Reads (Fixed s.Store ∷ ts) b) i (Fixed s.OpenParen ∷ Name n.text ∷ Fixed s.Comma ∷ r.front ++ Fixed s.CloseParen ∷ []) close.behind _ b rest
    (open_.split ∙ ap (λ (ts : Input). Fixed s.OpenParen ∷ ts) (n.split ∙ ap (λ (ts : Input). Name n.text ∷ ts) (comma.split ∙ ap (λ (ts : Input). Fixed s.Comma ∷ ts)
    (r.split ∙ ap (λ (ts : Input). r.front ++ ts) close.split ∙ joined r.front close.behind))))
    (stored n.text r.front two.value r.is) close.on
  where
    joined : (ts rest : Input) → ts ++ Fixed s.CloseParen ∷ rest ≡ (ts ++ Fixed s.CloseParen ∷ []) ++ rest
    joined ts rest = simp Rattle.std.proofs.Common.append_assoc

action-reads : (i : Input) (b : StatementTree) (rest : Input) → d.action i ≡ Some (b, rest) → Reading Reads i b rest
action-reads i b rest e = by (sees s.Store i) refl e
  where
    by : (t : Bool) → sees s.Store i ≡ t → cond t (d.store (drop 1 i)) (d.assignment i) ≡ Some (b, rest) → Reading Reads i b rest
    by true is e =
        let r = store-reads (drop 1 i) b rest e in
        record { front = Fixed s.Store ∷ r.front; split = sees-is s.Store i is ∙ ap (λ (ts : Input). Fixed s.Store ∷ ts) r.split; is = r.is }
    by false is e = assignment-reads i b rest e

end-is : (i : Input) (u : Unit {0}) (rest : Input) → d.end i ≡ Some (u, rest) → i ≡ []
end-is [] u rest e = refl
end-is (x ∷ i) u rest e = absurd (cc)

-- what the descent reads to the end is a statement
pub statement-sound : (i : Input) (b : StatementTree) (rest : Input) → d.statement i ≡ Some (b, rest) → Reads i b
unfolding d.statement
statement-sound [] b rest e = subst (λ (t : StatementTree). Reads [] t) (same_value tree.Nothing b [] rest e) nothing
statement-sound (x ∷ i) b rest e =
    let two = steps (d.action (x ∷ i)) (λ a rest. d.end rest >>= λ _ behind. Some (a, behind)) b rest e in
    let last = steps (d.end two.middle) (λ _ behind. Some (two.value, behind)) b rest two.end in
    let r = action-reads (x ∷ i) two.value two.middle two.start in
    let all = r.split ∙ ap (λ (ts : Input). r.front ++ ts) (end-is two.middle last.value last.middle last.start) ∙ append-nil r.front in
    subst (λ (ts : Input). Reads ts b) (sym all) (subst (λ (t : StatementTree). Reads r.front t) (same_value two.value b last.middle rest last.end) r.is)

-- ---- each statement is read

-- each statement is read to the end
pub statement-complete : (ts : Input) (b : StatementTree) → Reads ts b → d.statement ts ≡ Some (b, [])
unfolding d.statement d.assignment d.store Rattle.myrial_parser.specs.inner.Descent.same_symbol
statement-complete _ _ nothing = refl
statement-complete _ _ (assigned n ts r h) =
    ap (λ (o : Parsed RelTree). (o >>= λ r end. Some (tree.Assign n r, end)) >>= λ a rest. d.end rest >>= λ _ behind. Some (a, behind))
    (ap d.relation (sym (append-nil ts)) ∙ relation-complete.reads ts r [] h refl)
statement-complete _ _ (stored n ts k h) =
    ap (λ (o : Parsed Key). (o >>= λ k rest. expect s.CloseParen rest >>= λ _ end. Some (tree.Store n k, end)) >>= λ a rest. d.end rest >>= λ _ behind. Some (a, behind))
    (key-complete.reads ts k (Fixed s.CloseParen ∷ []) h refl)

-- terminals read as at most one statement
pub statement-unique : (ts : Input) (a b : StatementTree) → Reads ts a → Reads ts b → a ≡ b
statement-unique ts a b h k = same_value a b [] [] (sym (statement-complete ts a h) ∙ statement-complete ts b k)

-- terminals at which the descent refuses for their syntax are no statement
pub refused-unread : {X : Type 0} (view : X → StatementTree) (i : Input) (e : Refusal) (rest : Input) → Parses view (d.statement i) (Err e) rest → e ≡ refusal.Syntax → (b : StatementTree) → Reads i b → ⊥
refused-unread view i refusal.Syntax rest none is b h = let some = statement-complete i b h in cc
refused-unread view i refusal.Memory rest none is b h = cc
