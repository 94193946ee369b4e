-- The rows that an exchange moves: one list, off which all that is said of an exchange is read.
--
--   Move                           a row of an atom goes from one worker to another, or stays at the
--                                  same one
--   Sending                        the rows of an atom where they lie, and the workers that each row
--                                  goes to
--   sendings_of goes parts         those of each atom, by a route
--   moves_of sendings              the moves of some atoms
--   sent moves u                   how many moves are from worker u
--   received moves w               how many moves are to worker w
--   rows_between moves atom u w    the rows of an atom that go from u to w: what a receipt shows
--   rows_given moves atom w        the rows of an atom that go to w
--   all_given moves atoms w        what worker w is given, atom by atom
use Rattle.std.specs.Prelude.{ℕ, ◌&&◌, ◌==◌, List, [], map, filter, length}
use Rattle.std.specs.List.{flat_map, enumerate_from, range_with_len}
use Rattle.row_exchange.specs.Routes.{Row, Rows}

-- a row of an atom goes from one worker to another, or to the one at which it lies
pub record Move : Type 0 where
  pub atom : ℕ
  pub from : ℕ
  pub to : ℕ
  pub row : Row

-- the rows of an atom where they lie, and the workers that each row goes to
pub record Sending : Type 0 where
  pub parts : List Rows
  pub goes_to : Row → List ℕ

-- nothing, where there is no atom
abbrev pub no_sending : Sending
no_sending = record { parts = []; goes_to = λ row. [] }

-- the rows of each atom where they lie, and the workers that a route names for each row
abbrev pub sendings_of : (ℕ → Row → List ℕ) → List (List Rows) → List Sending
sendings_of goes parts = map (λ (e : ℕ × List Rows). record { parts = e.1; goes_to = goes e.0 })
    (enumerate_from 0 parts)

-- a row that lies at worker u goes to each of its workers
abbrev pub moves_of_row : ℕ → ℕ → Sending → Row → List Move
moves_of_row atom u s row =
    map (λ w. record { atom = atom; from = u; to = w; row = row }) (s.goes_to row)

-- each row of an atom goes from where it lies to each of its workers
abbrev pub moves_of_atom : ℕ → Sending → List Move
moves_of_atom atom s = flat_map (λ (e : ℕ × Rows). flat_map (moves_of_row atom e.0 s) e.1)
    (enumerate_from 0 s.parts)

-- the moves of the first atom, then those of the next, and so on
abbrev pub moves_of : List Sending → List Move
moves_of sendings = flat_map (λ (e : ℕ × Sending). moves_of_atom e.0 e.1)
    (enumerate_from 0 sendings)

-- the number of pairs of a row that lies at u and a worker that it goes to
abbrev pub sent : List Move → ℕ → ℕ
sent moves u = length (filter (λ (m : Move). m.from == u) moves)

-- the number of pairs of a row and worker w, to which it goes
abbrev pub received : List Move → ℕ → ℕ
received moves w = length (filter (λ (m : Move). m.to == w) moves)

-- the rows of an atom that lie at u and go to w
abbrev pub rows_between : List Move → ℕ → ℕ → ℕ → Rows
rows_between moves atom u w = map (λ (m : Move). m.row)
    (filter (λ (m : Move). (m.atom == atom) && (m.from == u) && (m.to == w)) moves)

-- the rows of an atom that go to w
abbrev pub rows_given : List Move → ℕ → ℕ → Rows
rows_given moves atom w =
    map (λ (m : Move). m.row) (filter (λ (m : Move). (m.atom == atom) && (m.to == w)) moves)

-- what worker w is given, atom by atom
abbrev pub all_given : List Move → ℕ → ℕ → List Rows
all_given moves atoms w = map (λ atom. rows_given moves atom w) (range_with_len 0 atoms)
