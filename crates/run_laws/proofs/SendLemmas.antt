-- Rows that lie in another order and go to the same workers: exchanges that tell the same.
use Rattle.std.proofs.Common.{◌≡◌, ℕ, ◌+◌, Bool, List, [], ◌∷◌, ◌++◌, refl, sym, ◌∙◌, ap, subst}
use Rattle.std.specs.Prelude.{IsPermutation, filter, ◌&&◌, ◌==◌}
use Rattle.std.specs.List.{flat_map, enumerate_from}
use Rattle.std.proofs.lemmas.List.Elements.{filter-append}
use Rattle.std.proofs.lemmas.List.Sorted.{IsPermutation-refl, IsPermutation-map, IsPermutation-append, length_permutation}
use Rattle.rel_base.specs.Bags.{SameBag}
use Rattle.myrial_ast.specs.Combinations.{Row, Rows}
use Rattle.bag_laws.specs.Permuted.{SameTables, no_table, a_table}
use Rattle.algebra.specs.declared.notes.Exchange.{Exchange}
use Rattle.placement.specs.Exchanges.{PlacedExchange}
use Rattle.row_exchange.specs.Moves.{Move, Sending, moves_of_row, moves_of_atom, moves_of}
use Rattle.run_laws.specs.SameExchanges.{IsSameExchange, AreSameExchanges, no_exchange, an_exchange}
use Rattle.run_laws.proofs.TableLemmas.{rows-make}

-- one after another, rows in another order that go to the same workers
pub data AreSameSendings : List Sending → List Sending → Type 0 where
  no_sending : AreSameSendings [] []
  a_sending : (s t : Sending) (ss ts : List Sending) → s.goes_to ≡ t.goes_to → SameTables s.parts t.parts → AreSameSendings ss ts
      → AreSameSendings (s ∷ ss) (t ∷ ts)

filter-flat_map : {X Y : Type 0} (p : Y → Bool) (f : X → List Y) (xs : List X)
    → filter p (flat_map f xs) ≡ flat_map (λ x. filter p (f x)) xs
filter-flat_map p f [] = refl
filter-flat_map p f (x ∷ xs) = filter-append p (f x) (flat_map f xs) ∙ ap (λ ys. filter p (f x) ++ ys) (filter-flat_map p f xs)

module _ (q : Move → Bool) where
  both-sift : (a b c d : List Move) → IsPermutation (filter q a) (filter q b) → IsPermutation (filter q c) (filter q d)
      → IsPermutation (filter q (a ++ c)) (filter q (b ++ d))
  both-sift a b c d k l =
      subst (λ ms. IsPermutation ms (filter q (b ++ d))) (sym (filter-append q a c))
      (subst (IsPermutation (filter q a ++ filter q c)) (sym (filter-append q b d))
      (IsPermutation-append (filter q a) (filter q b) (filter q c) (filter q d) k l))

  rows-sift : (f : Row → List Move) (xs ys : Rows) → SameBag xs ys
      → IsPermutation (filter q (flat_map f xs)) (filter q (flat_map f ys))
  rows-sift f xs ys h =
      subst (λ ms. IsPermutation ms (filter q (flat_map f ys))) (sym (filter-flat_map q f xs))
      (subst (IsPermutation (flat_map (λ row. filter q (f row)) xs)) (sym (filter-flat_map q f ys))
      (rows-make (λ row. filter q (f row)) xs ys h))

  parts-sift : (f : ℕ → Row → List Move) (u : ℕ) (ts us : List Rows) → SameTables ts us
      → IsPermutation (filter q (flat_map (λ (e : ℕ × Rows). flat_map (f e.0) e.1) (enumerate_from u ts)))
      (filter q (flat_map (λ (e : ℕ × Rows). flat_map (f e.0) e.1) (enumerate_from u us)))
  parts-sift f u _ _ no_table = IsPermutation-refl []
  parts-sift f u _ _ (a_table rows others ts us h hs) =
      both-sift (flat_map (f u) rows) (flat_map (f u) others) (after ts) (after us) (rows-sift (f u) rows others h)
      (parts-sift f (u + 1) ts us hs)
    where
      after : List Rows → List Move
      after some = flat_map (λ (e : ℕ × Rows). flat_map (f e.0) e.1) (enumerate_from (u + 1) some)

  atom-sift : (atom : ℕ) (s t : Sending) → s.goes_to ≡ t.goes_to → SameTables s.parts t.parts
      → IsPermutation (filter q (moves_of_atom atom s)) (filter q (moves_of_atom atom t))
  atom-sift atom s t e h =
      subst (λ goes. IsPermutation (filter q (moves_of_atom atom s))
      (filter q (moves_of_atom atom (record { parts = t.parts; goes_to = goes })))) e
      (parts-sift (λ u row. moves_of_row atom u s row) 0 s.parts t.parts h)

  sendings-sift : (atom : ℕ) (ss ts : List Sending) → AreSameSendings ss ts
      → IsPermutation (filter q (flat_map (λ (e : ℕ × Sending). moves_of_atom e.0 e.1) (enumerate_from atom ss)))
      (filter q (flat_map (λ (e : ℕ × Sending). moves_of_atom e.0 e.1) (enumerate_from atom ts)))
  sendings-sift atom _ _ no_sending = IsPermutation-refl []
  sendings-sift atom _ _ (a_sending s t ss ts e h hs) =
      both-sift (moves_of_atom atom s) (moves_of_atom atom t) (after ss) (after ts) (atom-sift atom s t e h)
      (sendings-sift (atom + 1) ss ts hs)
    where
      after : List Sending → List Move
      after some = flat_map (λ (e : ℕ × Sending). moves_of_atom e.0 e.1) (enumerate_from (atom + 1) some)

-- their exchanges tell the same
pub sendings-tell : (n : ℕ) (kind : Exchange) (ss ts : List Sending) (listed counts : List ℕ) → AreSameSendings ss ts
    → listed ≡ counts
    → IsSameExchange n (record { kind = kind; moves = moves_of ss; listed = listed })
    (record { kind = kind; moves = moves_of ts; listed = counts })
sendings-tell n kind ss ts listed counts h e = record {
  kind = refl;
  listed = e;
  sent = λ u low. sym (length_permutation _ _ (sendings-sift (λ m. m.from == u) 0 ss ts h));
  received = λ w low. sym (length_permutation _ _ (sendings-sift (λ m. m.to == w) 0 ss ts h));
  between = λ atom u w low lower.
      IsPermutation-map (λ (m : Move). m.row) _ _ (sendings-sift (λ m. (m.atom == atom) && (m.from == u) && (m.to == w)) 0 ss ts h);
}

-- one after another
pub exchanges-before : (n : ℕ) (as_many others es fs : List PlacedExchange) → AreSameExchanges n as_many others
    → AreSameExchanges n es fs
    → AreSameExchanges n (as_many ++ es) (others ++ fs)
exchanges-before n _ _ es fs no_exchange hs = hs
exchanges-before n _ _ es fs (an_exchange e f as_many others h more) hs =
    an_exchange e f (as_many ++ es) (others ++ fs) h (exchanges-before n as_many others es fs more hs)
