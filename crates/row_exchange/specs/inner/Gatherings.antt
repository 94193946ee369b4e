-- The stations of all workers before and after they ran, in the order of their workers: the last
-- one is the first worker's.
--
--   taps_of, out_of, ..      what a station has
--   AreManned ..             the stations of all workers, with these outlets, intakes and taps
--   IsTakenApart ..          what the stations gave back
use Rattle.std.specs.Prelude.{◌≡◌, ℕ, ◌≤◌, List, [], ◌∷◌, ◌++◌, length, map, reverse, All, Option, Some, IsSome, Result, Ok, Err, IfOk}
use Rattle.std.specs.List.{flat_map, range_with_len}
use Rattle.std.specs.Vec.{vec_capacity}
use Rattle.rel_base.specs.declared.failure.Memory.{Memory}
use Rattle.exchange_channels.specs.Wirings.{OutletState, IntakeState, IsWired}
use Rattle.row_exchange.specs.declared.exchanging.Room.{Room}
use Rattle.row_exchange.specs.Routes.{Rows}
use Rattle.row_exchange.specs.declared.routes.Size.{Size}
use Rattle.row_exchange.specs.declared.stations.Outgoing.{Outgoing}
use Rattle.row_exchange.specs.declared.stations.Incoming.{Incoming}
use Rattle.row_exchange.specs.declared.stations.Halves.{Halves}
use Rattle.row_exchange.specs.inner.Stations.{Station}

module _ {W T : Type 0} where
  -- the two taps of a station, in order
  abbrev pub taps_of : Station W T → List T
  taps_of s = s.outgoing.tap ∷ s.incoming.tap ∷ []

  -- the outlet and the intake of a station, and their ends
  abbrev pub opened : Station W T → Option OutletState
  opened s = s.outgoing.outlet

  abbrev pub awaiting : Station W T → Option IntakeState
  awaiting s = s.incoming.intake

  abbrev pub out_of : Station W T → Option OutletState
  out_of s = s.outgoing.end

  abbrev pub taken_of : Station W T → Option IntakeState
  taken_of s = s.incoming.end

  -- the worker of a station
  abbrev pub worker_of : Station W T → ℕ
  worker_of s = s.outgoing.worker

  -- sending and receiving halves, side by side
  abbrev pub stations_of : List (Outgoing W T) → List (Incoming T) → List (Station W T)
  stations_of [] is = []
  stations_of (o ∷ os) [] = []
  stations_of (o ∷ os) (i ∷ is) = record { outgoing = o; incoming = i } ∷ stations_of os is

  -- the stations of halves of which the last ones are the first worker's
  abbrev pub the_stations : Halves W T → List (Station W T)
  the_stations halves = stations_of (reverse halves.senders.items) (reverse halves.receivers.items)

  -- there is a receiving half for each sending half
  abbrev pub ArePaired : Halves W T → Type 0
  ArePaired halves = length halves.receivers.items ≡ length halves.senders.items

  -- no half so far, and room for those of so many workers
  pub record HaveRoom (workers : ℕ) (halves : Halves W T) : Type 0 where
    pub senders : halves.senders.items ≡ []
    pub senders_room : workers ≤ vec_capacity halves.senders
    pub receivers : halves.receivers.items ≡ []
    pub receivers_room : workers ≤ vec_capacity halves.receivers

-- what was received, where all was sent
abbrev pub both : {X Y : Type 0} → Result X Memory → Result Y Memory → Result Y Memory
both (Ok x) r = r
both (Err e) r = Err e

-- a sending half works with this
pub record WorksWith {W T : Type 0} (route : W) (parts : List (List Rows)) (size : Size)
    (worker : ℕ) (half : Outgoing W T) : Type 0 where
  pub route_is : half.route.now ≡ route
  pub parts_are : half.parts.now ≡ parts
  pub size_is : half.size ≡ size
  pub worker_is : half.worker ≡ worker

module _ {W T : Type 0} where
  -- what a station received, where it sent all of its own
  abbrev pub outcome_of : Station W T → Result (List Rows) Memory
  outcome_of s = both s.outgoing.sent s.incoming.received

  -- both ends are there
  pub record HasEnds (s : Station W T) : Type 0 where
    pub out : IsSome (out_of s)
    pub taken : IsSome (taken_of s)

  -- a station works with this
  pub record IsOfWork (route : W) (parts : List (List Rows)) (size : Size)
      (s : Station W T) : Type 0 where
    pub out : WorksWith route parts size (worker_of s) s.outgoing
    pub atoms : s.incoming.atoms ≡ length parts

  -- stations with the last of these outlets, intakes and taps; the first ones are left
  pub record AreMannedBut (route : W) (parts : List (List Rows)) (size : Size)
      (outlets left_outlets : List OutletState) (intakes left_intakes : List IntakeState)
      (taps left_taps : List T) (stations : List (Station W T)) : Type 0 where
    pub outlets_are : map Some outlets ≡ map Some left_outlets ++ map opened stations
    pub intakes_are : map Some intakes ≡ map Some left_intakes ++ map awaiting stations
    pub taps_are : taps ≡ left_taps ++ flat_map taps_of stations
    pub workers_are : range_with_len 0 (length outlets)
        ≡ range_with_len 0 (length left_outlets) ++ map worker_of stations
    pub same_work : All (IsOfWork route parts size) stations

  -- the stations of all workers
  abbrev pub AreManned : W → List (List Rows) → Size → List OutletState → List IntakeState → List T
      → List (Station W T) → Type 0
  AreManned route parts size outlets intakes taps stations = AreMannedBut route parts size outlets
      [] intakes [] taps [] stations

  -- what some of the stations gave back, while others are left
  pub record IsTakenApartBut (stations left : List (Station W T)) (taps taps' : List T)
      (outs outs' : List OutletState) (ins ins' : List IntakeState)
      (given : List (List Rows)) (given' : Result (List (List Rows)) Memory) : Type 0 where
    pub taps_are : taps' ++ flat_map taps_of left ≡ taps ++ flat_map taps_of stations
    pub outs_are : map Some outs' ++ map out_of left ≡ map Some outs ++ map out_of stations
    pub ins_are : map Some ins' ++ map taken_of left ≡ map Some ins ++ map taken_of stations
    pub given_is : IfOk given' (λ now. map Ok now ++ map outcome_of left
        ≡ map Ok given ++ map outcome_of stations)

  -- what all stations gave back
  abbrev pub IsTakenApart : List (Station W T) → List T → List T → List OutletState
      → List OutletState → List IntakeState → List IntakeState
      → List (List Rows) → Result (List (List Rows)) Memory → Type 0
  IsTakenApart stations taps taps' outs outs' ins ins' given given' = IsTakenApartBut stations []
      taps taps' outs outs' ins ins' given given'

-- all that an exchange needs before the first batch is sent
pub record IsRoom (size : Size) (room : Room) : Type 0 where
  pub wired : IsWired room.wiring.keep room.wiring.outlets room.wiring.intakes size.workers
      size.workers size.capacity
  pub outs : room.outs.items ≡ []
  pub outs_room : size.workers ≤ room.outs.spare
  pub ins : room.ins.items ≡ []
  pub ins_room : size.workers ≤ room.ins.spare
  pub given : room.given ≡ []
