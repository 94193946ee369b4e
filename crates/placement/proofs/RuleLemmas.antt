-- Whatever the rules say, no join has more cells than there are workers, and a statement looks at its own rule alone.
use Rattle.std.proofs.Common.{◌≡◌, ℕ, ◌≤◌, Bool, true, false, cond, List, [], ◌∷◌, ◌++◌, map, length, refl, ap}
use Rattle.myrial_ast.specs.Combinations.{Rows}
use Rattle.algebra.specs.declared.settings.JoinKind.{JoinKind}
use Rattle.algebra.specs.declared.settings.Settings.{Settings}
use Rattle.algebra.specs.declared.terms.Source.{Source}
use Rattle.algebra.specs.Trees.{Shape, TermTree, Same, Empty, UnionAll, Diff, Distinct, Join, Group}
use Rattle.share_chooser.specs.Load.{are_shares}
use Rattle.share_chooser.proofs.BestLemmas.{best_is_least}
use Rattle.share_chooser.proofs.VectorLemmas.{vector-of-passed}
use Rattle.placement.specs.Layouts.{PlacedRelation, Shuffle, ByCells, ByKeys, Broadcast, listed_parts, term_parts}
use Rattle.placement.specs.Exchanges.{join_exchanges, group_exchange, term_exchanges}
use Rattle.placement.specs.Plans.{ShuffleRule, LeastLoad, Fixed, fitting_shuffle, ruled_shuffle, uses_of, kept_sizes, placing_by, ruled_placing, join_notes, group_note, term_notes}
use Rattle.placement.specs.Laws.{IsSharing, RuledIsPlacing}

pub fitting-sharing : (n : ℕ) (shape : Shape) (shuffle : Shuffle) → IsSharing n shape (fitting_shuffle (length shape.variables) n shuffle)
fitting-sharing n shape (ByCells shares) = either (are_shares (length shape.variables) n shares) refl
  where
    either : (b : Bool) → are_shares (length shape.variables) n shares ≡ b → IsSharing n shape (cond b (ByCells shares) Broadcast)
    either true passes = vector-of-passed (length shape.variables) n shares passes
    either false fails = tt
fitting-sharing n shape ByKeys = tt
fitting-sharing n shape Broadcast = tt

pub ruled-sharing : (rule : ShuffleRule) (n : ℕ) (shape : Shape) (given : List Rows) → 1 ≤ n → IsSharing n shape (ruled_shuffle rule n shape given)
ruled-sharing LeastLoad n shape given some =
    (best_is_least (uses_of shape) (kept_sizes shape given) (length shape.variables) n some).0.vector
ruled-sharing (Fixed shuffle) n shape given some = fitting-sharing n shape shuffle

pub ruled_is_placing : RuledIsPlacing
ruled_is_placing s rules some = record {
  some_worker = some;
  sharing = λ number shape given. ruled-sharing (rules number) s.workers shape given some;
}

-- ---- a statement looks at its own rule alone

module _ (s : Settings) (rules : ℕ → ShuffleRule) (number : ℕ) where
  listed-by_own : (shape : Shape) (given : List PlacedRelation)
      → listed_parts (placing_by s rules) number shape given ≡ listed_parts (ruled_placing s (rules number)) number shape given
  listed-by_own shape [] = refl
  listed-by_own shape (one ∷ []) = refl
  listed-by_own shape (one ∷ two ∷ given) = refl

  joined-by_own : (shape : Shape) (given : List PlacedRelation)
      → join_exchanges (placing_by s rules) number shape given ≡ join_exchanges (ruled_placing s (rules number)) number shape given
  joined-by_own shape [] = refl
  joined-by_own shape (one ∷ []) = refl
  joined-by_own shape (one ∷ two ∷ given) = refl

  noted-by_own : (local : JoinKind) (shape : Shape) (given : List PlacedRelation)
      → join_notes (placing_by s rules) local number shape given ≡ join_notes (ruled_placing s (rules number)) local number shape given
  noted-by_own local shape [] = refl
  noted-by_own local shape (one ∷ []) = refl
  noted-by_own local shape (one ∷ two ∷ given) = refl

  module _ (value : Source → PlacedRelation) where
    pub parts-by_own : (t : TermTree) → term_parts (placing_by s rules) number value t ≡ term_parts (ruled_placing s (rules number)) number value t
    parts-by_own (Same o) = refl
    parts-by_own Empty = refl
    parts-by_own (UnionAll o q) = refl
    parts-by_own (Diff o q) = refl
    parts-by_own (Distinct o) = refl
    parts-by_own (Join shape sources) = listed-by_own shape (map value sources)
    parts-by_own (Group shape sources kinds) = refl

    pub exchanges-by_own : (t : TermTree)
        → term_exchanges (placing_by s rules) number value t ≡ term_exchanges (ruled_placing s (rules number)) number value t
    exchanges-by_own (Same o) = refl
    exchanges-by_own Empty = refl
    exchanges-by_own (UnionAll o q) = refl
    exchanges-by_own (Diff o q) = refl
    exchanges-by_own (Distinct o) = refl
    exchanges-by_own (Join shape sources) = joined-by_own shape (map value sources)
    exchanges-by_own (Group shape sources kinds) =
        let joined = joined-by_own shape (map value sources) in
        let listed = listed-by_own shape (map value sources) in
        λ i. joined i ++ group_exchange (placing_by s rules) kinds (listed i)
        (term_parts (placing_by s rules) number value (Group shape sources kinds)) ∷ []

    pub notes-by_own : (local : JoinKind) (t : TermTree)
        → term_notes (placing_by s rules) local number value t ≡ term_notes (ruled_placing s (rules number)) local number value t
    notes-by_own local (Same o) = refl
    notes-by_own local Empty = refl
    notes-by_own local (UnionAll o q) = refl
    notes-by_own local (Diff o q) = refl
    notes-by_own local (Distinct o) = refl
    notes-by_own local (Join shape sources) = noted-by_own local shape (map value sources)
    notes-by_own local (Group shape sources kinds) = ap (λ notes. notes ++ group_note kinds ∷ []) (noted-by_own local shape (map value sources))
