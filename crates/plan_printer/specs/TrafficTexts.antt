-- The text of the traffic of exchanges.
--
--   exchange_words exchange           what an exchange was for
--   title statement exchange          the title of an exchange
--   worker_line w received listed     the line of a worker
--   workers_text received listed      a line for each worker
--   exchange_text traffic             the title of an exchange and the lines of its workers
--   traffic_text notes                the texts of all exchanges, in order
--   IsWhole traffic                   each worker has both numbers
use Rattle.std.specs.Prelude.{◌≡◌, ℕ, List, [], ◌∷◌, ◌++◌, map, codes, length, slice_index_or}
use Rattle.std.specs.List.{flat_map, range_with_len}
use Rattle.std.specs.Fmt.{decimal}
use Rattle.rel_base.specs.Picks.{joined}
use Rattle.algebra.specs.declared.notes.Exchange.{Exchange}
use Rattle.algebra.specs.declared.notes.Exchange.TheVariants as exchange
use Rattle.algebra.specs.declared.notes.Traffic.{Traffic}

-- what an exchange was for
abbrev pub exchange_words : Exchange → List ℕ
exchange_words exchange.Hc = codes "join hc"
exchange_words (exchange.Rs step) = codes "join rs step " ++ decimal step
exchange_words exchange.Br = codes "join br"
exchange_words exchange.Group = codes "group"
exchange_words exchange.Distinct = codes "distinct"
exchange_words exchange.Diff = codes "diff"

-- the title of an exchange: the number of the statement, and what it was for
abbrev pub title : ℕ → Exchange → List ℕ
title statement kind =
    joined (codes "-- traffic " ∷ decimal statement ∷ codes " " ∷ exchange_words kind ∷ codes "\n"
    ∷ [])

-- the line of a worker: its number, the rows that it received, and those that it listed
abbrev pub worker_line : ℕ → ℕ → ℕ → List ℕ
worker_line worker received listed =
    joined (codes "-- worker " ∷ decimal worker ∷ codes " received " ∷ decimal received
    ∷ codes " listed " ∷ decimal listed
    ∷ codes "\n" ∷ [])

-- a line for each worker, from 0
abbrev pub workers_text : List ℕ → List ℕ → List ℕ
workers_text received listed =
    joined (map (λ w. worker_line w (slice_index_or received w 0) (slice_index_or listed w 0))
    (range_with_len 0 (length received)))

-- the title of an exchange, and a line for each worker
abbrev pub exchange_text : Traffic → List ℕ
exchange_text t = title t.statement t.exchange ++ workers_text t.received t.listed

-- the texts of all exchanges, in order
abbrev pub traffic_text : List Traffic → List ℕ
traffic_text notes = flat_map exchange_text notes

-- whether a traffic note has both numbers of each worker
abbrev pub IsWhole : Traffic → Type 0
IsWhole t = length t.received ≡ length t.listed
