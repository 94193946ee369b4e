-- What a receipt that shows moves shows in other words.
use Rattle.std.proofs.Common.{◌≡◌, ◌≢◌, ℕ, ◌≤◌, Bool, cond, List, [], ◌∷◌, ◌++◌, All, refl, ap, ◌∙◌, subst, arith, ne_eqb}
use Rattle.std.proofs.lemmas.List.Elements.{All-head, All-tail, All-weaker}
use Rattle.std.proofs.lemmas.List.Sorted.{IsPermutation-refl}
use Rattle.rel_base.specs.Bags.{SameBag}
use Rattle.exchange_channels.specs.declared.messages.Batch.{Batch}
use Rattle.exchange_channels.specs.Messages.{batch_rows, rows_of_atom}
use Rattle.exchange_channels.specs.Wirings.{ReceiptState}
use Rattle.row_exchange.specs.Routes.{Rows}
use Rattle.row_exchange.specs.Moves.{Move, rows_between}
use Rattle.row_exchange.specs.Exchanges.{IsBatch, InOrder, batches_between, Shows}
use Rattle.row_exchange.specs.declared.routes.Size.{Size}

-- no batch is of an atom that there isn't
pub no-batches : (atoms most atom : ℕ) (batches : List Batch) → atoms ≤ atom → All (IsBatch atoms most) batches → rows_of_atom atom batches ≡ []
no-batches atoms most atom [] past all = refl
no-batches atoms most atom (b ∷ batches) past all =
    let below = (All-head (IsBatch atoms most) b batches all).one_atom in
    let rest = no-batches atoms most atom batches past (All-tail (IsBatch atoms most) b batches all) in
    let other : b.atom ≢ atom = λ e. omega (arith, below, past, e) in
    let none : batch_rows atom b ≡ [] = ap (λ (t : Bool). cond t b.rows []) (ne_eqb b.atom atom other) in
    ap (λ (rows : Rows). rows ++ rows_of_atom atom batches) none ∙ rest

-- the same with more atoms, and with rows that are the same in another way
pub shown-as : (Same Other : Rows → Rows → Type 0) (atoms more : ℕ) (size : Size) (moves others : List Move) (receipt : ReceiptState) → atoms ≤ more
    → ((u w atom : ℕ) (rows : Rows) → Same (rows_between moves atom u w) rows → Other (rows_between others atom u w) rows)
    → Shows Same atoms size moves receipt → Shows Other more size others receipt
shown-as Same Other atoms more size moves others receipt few weaker x = record {
  capacity = x.capacity;
  cells = x.cells;
  senders = x.senders;
  sized = λ u w from to.
      All-weaker (IsBatch atoms size.batch) (IsBatch more size.batch)
      (λ b is. record { one_atom = omega (arith, is.one_atom, few); some_row = is.some_row; few = is.few }) (batches_between receipt u w) (x.sized u w from to);
  rows_are = λ u w atom from to. weaker u w atom (rows_of_atom atom (batches_between receipt u w)) (x.rows_are u w atom from to);
}

-- in order is as bags
pub bags-shown : (atoms more : ℕ) (size : Size) (moves : List Move) (receipt : ReceiptState) → atoms ≤ more → Shows InOrder atoms size moves receipt → Shows SameBag more size moves receipt
bags-shown atoms more size moves receipt few x =
    shown-as InOrder SameBag atoms more size moves moves receipt few
    (λ u w atom rows same. subst (SameBag (rows_between moves atom u w)) same (IsPermutation-refl (rows_between moves atom u w))) x
