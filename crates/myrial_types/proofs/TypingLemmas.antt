-- The first kind of a comprehension by what its items stand for.
use Rattle.std.proofs.Common.{◌≡◌, ◌∙◌, cond, ◌||◌, List, [], ◌∷◌, map, Option, Some, None, refl, ap}
use Rattle.std.specs.Prelude.{is_none, option_map, option_and_then}
use Rattle.std.specs.List.{list_any}
use Rattle.std.specs.Option.{option_map_or, option_or}
use Rattle.rel_base.specs.Each.{each_or_none, put_before}
use Rattle.rel_base.specs.Keys.{File}
use Rattle.myrial_ast.specs.declared.relations.FromItem.{FromItem}
use Rattle.myrial_ast.specs.Trees.{Tree, EmitTree}
use Rattle.myrial_ast.specs.Trees as tree
use Rattle.myrial_types.specs.declared.faults.TypeKind.TheVariants as fault
use Rattle.myrial_types.specs.Resolving.{Meant, MeantItem, Names, comprehension_term, item_meant, meant, schemas_of, term_of}
use Rattle.myrial_types.specs.Kinds.{comprehension_kind, is_unknown, limit_kind, relation_kind, typing_kind}
use Rattle.myrial_types.specs.inner.Terms.{items_kind}

module _ (files : List File) (names : Names) where
  pub any-unknown : (items : List FromItem) → list_any (is_unknown files names) (map (λ (item : FromItem). item.source) items) ≡ is_none (each_or_none (item_meant files names) items)
  any-unknown [] = refl
  any-unknown (item ∷ items) = by (meant files names item.source) (each_or_none (item_meant files names) items) (any-unknown items)
    where
      by : (o : Option Meant) (r : Option (List MeantItem)) → list_any (is_unknown files names) (map (λ (item : FromItem). item.source) items) ≡ is_none r
          → (is_none o || list_any (is_unknown files names) (map (λ (item : FromItem). item.source) items))
          ≡ is_none (put_before (option_map (λ m. let i : MeantItem = record { alias = item.alias; meant = m } in i) o) r)
      by None r h = refl
      by (Some m) None h = h
      by (Some m) (Some xs) h = h

  module _ (items : List FromItem) (condition : Option Tree) (emits : List EmitTree) where
    pub typing-unknown : each_or_none (item_meant files names) items ≡ None → typing_kind files names (tree.From items condition emits) ≡ Some fault.UnknownRelation
    typing-unknown e =
        ap (λ b. cond b (Some fault.UnknownRelation)
        (option_or (relation_kind files names (tree.From items condition emits)) (limit_kind (term_of files names (tree.From items condition emits))))) (any-unknown items ∙ ap is_none e)

    pub typing-known : (given : List MeantItem) → each_or_none (item_meant files names) items ≡ Some given
        → typing_kind files names (tree.From items condition emits) ≡ items_kind given condition emits
    typing-known given e =
        ap (λ b. cond b (Some fault.UnknownRelation)
        (option_or (relation_kind files names (tree.From items condition emits)) (limit_kind (term_of files names (tree.From items condition emits))))) (any-unknown items ∙ ap is_none e)
        ∙ ap (λ (o : Option (List MeantItem)). option_or (option_map_or (λ given. comprehension_kind (schemas_of given) condition emits) o None)
        (limit_kind (option_and_then (λ given. comprehension_term given condition emits) o))) e

    pub term-known : (given : List MeantItem) → each_or_none (item_meant files names) items ≡ Some given
        → term_of files names (tree.From items condition emits) ≡ comprehension_term given condition emits
    term-known given e = ap (option_and_then (λ given. comprehension_term given condition emits)) e
