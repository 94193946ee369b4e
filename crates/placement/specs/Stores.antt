-- What stores hold, worker by worker.
--
--   IsStoredAt stored placed     a store holds what is placed
--   AreStoredAt stores placed    store by store
use Rattle.std.specs.Prelude.{◌≡◌, List, [], ◌∷◌}
use Rattle.rel_base.specs.declared.names.Key.{Key}
use Rattle.bag_laws.specs.Permuted.{SameTables}
use Rattle.placement.specs.declared.stores.SpreadStore.{SpreadStore}
use Rattle.placement.specs.Layouts.{PlacedRelation}

-- the key and the columns of what is stored, and at each worker its rows, as a bag
pub record IsStoredAt (stored : SpreadStore) (placed : Key × PlacedRelation) : Type 0 where
  pub key : stored.key ≡ placed.0
  pub schema : stored.schema ≡ placed.1.relation.schema
  pub parts : SameTables placed.1.parts stored.parts

-- store by store
pub data AreStoredAt : List SpreadStore → List (Key × PlacedRelation) → Type 0 where
  no_store : AreStoredAt [] []
  a_store : (stored : SpreadStore) (placed : Key × PlacedRelation) (rest : List SpreadStore)
      (others : List (Key × PlacedRelation)) → IsStoredAt stored placed → AreStoredAt rest others
      → AreStoredAt (stored ∷ rest) (placed ∷ others)
