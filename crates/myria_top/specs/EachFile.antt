-- What each file says of an answer by itself, whatever the shelf tells of the others.
--
--   MayBeGood content fetch                the file of a relation is not told to be refused
--   IsFirstBad content key answer fetches  the first of these files that isn't good is refused so
--   MayNeed content name P                 the script may need files of which this holds
--   Allows content name answer             each file by itself allows the answer
use Rattle.std.specs.Prelude.{◌≡◌, ℕ, List, ◌∷◌, ◌++◌, All, ⊤}
use Rattle.rel_base.specs.Relations.{RelationState}
use Rattle.rel_base.specs.declared.names.Key.{Key}
use Rattle.rel_io.specs.Outside.{Content}
use Rattle.myrial_ast.specs.Trees.{StatementTree}
use Rattle.myrial_meaning.specs.declared.needed_files.Fetch.{Fetch}
use Rattle.myrial_meaning.specs.Fetches.{fetches}
use Rattle.myria_top.specs.FileNames.{file_name_of}
use Rattle.myria_top.specs.declared.outcomes.Outcome.{Outcome}
use Rattle.myria_top.specs.declared.outcomes.Outcome.TheVariants as outcome
use Rattle.myria_top.specs.Reading.{Meets}
use Rattle.myria_top.specs.Runs.{relation_verdict}
use Rattle.myria_top.specs.Scripts.{ScriptComesTo}
use Rattle.myria_top.specs.Verdicts.{refused, passes, IfTold}

-- the file of a relation is good, where the shelf tells it
abbrev pub MayBeGood : (List ℕ → Content) → Fetch → Type 0
MayBeGood content fetch =
    IfTold (relation_verdict fetch (content (file_name_of fetch.key)))
    (λ s. (relation : RelationState) × (s ≡ passes relation))

-- one of these files has this key and, where the shelf tells it, is refused with this answer; and each
-- file before it is good, where the shelf tells it
pub record IsFirstBad (content : List ℕ → Content) (key : Key) (answer : Outcome)
    (fetches : List Fetch) : Type 0 where
  pub before : List Fetch
  pub fetch : Fetch
  pub behind : List Fetch
  pub are : fetches ≡ before ++ fetch ∷ behind
  pub good : All (MayBeGood content) before
  pub of_key : fetch.key ≡ key
  pub is_refused :
      IfTold (relation_verdict fetch (content (file_name_of fetch.key))) (λ s. s ≡ refused answer)

-- this holds of the files that a script needs, which is the script of this name, where the shelf
-- tells it
pub record MayNeed (content : List ℕ → Content) (name : List ℕ)
    (P : List Fetch → Type 0) : Type 0 where
  pub script : List StatementTree
  pub comes : Meets (ScriptComesTo (content name)) (passes script)
  pub holds : P (fetches script)

-- Each file by itself allows the answer: a refusal of the script is what the script comes to; the file
-- of a relation that is refused is the first that isn't good; and where a run comes behind the files,
-- all that the script needs are good. Want of memory and a fault of reading may come whatever they are.
abbrev pub Allows : (List ℕ → Content) → List ℕ → Outcome → Type 0
Allows content name outcome.Memory = ⊤
Allows content name (outcome.ReadFault file) = ⊤
Allows content name outcome.NoScript =
    Meets (ScriptComesTo (content name)) (refused outcome.NoScript)
Allows content name outcome.ScriptTooLong =
    Meets (ScriptComesTo (content name)) (refused outcome.ScriptTooLong)
Allows content name outcome.ScriptNotText =
    Meets (ScriptComesTo (content name)) (refused outcome.ScriptNotText)
Allows content name (outcome.Lex line what) =
    Meets (ScriptComesTo (content name)) (refused (outcome.Lex line what))
Allows content name (outcome.Syntax statement) =
    Meets (ScriptComesTo (content name)) (refused (outcome.Syntax statement))
Allows content name (outcome.TooMany statement what) =
    Meets (ScriptComesTo (content name)) (refused (outcome.TooMany statement what))
Allows content name (outcome.NoRelation key) =
    MayNeed content name (IsFirstBad content key (outcome.NoRelation key))
Allows content name (outcome.RelTooLong key) =
    MayNeed content name (IsFirstBad content key (outcome.RelTooLong key))
Allows content name (outcome.BadRelation key fault) =
    MayNeed content name (IsFirstBad content key (outcome.BadRelation key fault))
Allows content name answer = MayNeed content name (All (MayBeGood content))
