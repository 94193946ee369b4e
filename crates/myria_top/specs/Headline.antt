-- What one run of the program promises.
--
--   Run                     what a run was handed, and what it left behind
--   Explains run answer     why the answer came, and what the output then holds
--   Headline run err answer  the promises
use Rattle.std.specs.Prelude.{◌≡◌, ℕ, ◌⊎◌, ⊤, List, Option, Some, None, Contains}
use Rattle.rel_io.specs.Outside.{Content}
use Rattle.rel_io.specs.Shelves.{CallCounts}
use Rattle.rel_io.specs.Sinks.{FaultsRose, TookAll, TookNothing, TookPart, WantsRose, Written}
use Rattle.rel_io.specs.Outside as outside
use Rattle.myrial_ast.specs.Trees.{StatementTree}
use Rattle.myrial_meaning.specs.declared.needed_files.Fetch.{Fetch}
use Rattle.myrial_meaning.specs.Fetches.{fetches}
use Rattle.command_words.specs.Requests.{Asked}
use Rattle.myria_top.specs.EachFile.{Allows}
use Rattle.myria_top.specs.FileNames.{file_name_of}
use Rattle.myria_top.specs.declared.outcomes.Outcome.{Outcome}
use Rattle.myria_top.specs.declared.outcomes.Outcome.TheVariants as outcome
use Rattle.myria_top.specs.Outcomes.{line_of}
use Rattle.myria_top.specs.Reading.{HasCause, RefusesBy}
use Rattle.myria_top.specs.Requests.{name_given, plan_asked, script_asked}
use Rattle.myria_top.specs.Scripts.{ScriptComesTo}
use Rattle.myria_top.specs.Verdicts.{Verdict, untold, refused, passes, IfTold}
use Rattle.myria_top.specs.Runs.{ComesTo}

-- what the words of a run ask for, what it was handed, and what it left in the shelf and the output
pub record Run : Type 0 where
  pub asked : Option Asked
  pub content : List ℕ → Content
  pub shelf : CallCounts
  pub out : Written

-- the words and the files come to a text, where the shelf tells enough, and this holds of it
pub record OfText (run : Run) (P : List ℕ → Type 0) : Type 0 where
  pub step : Verdict (List ℕ)
  pub comes : ComesTo run.asked run.content step
  pub holds : IfTold step (λ s. (text : List ℕ) × (s ≡ passes text) × P text)

-- a file that a run reads: the script that is asked for, one that the script scans or loads, or the plan of a replay
pub data IsAskedOf (asked : Option Asked) (content : List ℕ → Content) : List ℕ → Type 0 where
  the_script : (name : List ℕ) → script_asked asked ≡ Some name → IsAskedOf asked content name
  of_untold : (name file : List ℕ) → script_asked asked ≡ Some name
      → content name ≡ outside.untold → IsAskedOf asked content file
  a_relation : (name : List ℕ) (trees : List StatementTree) (fetch : Fetch)
      → script_asked asked ≡ Some name → ScriptComesTo (content name) (passes trees)
      → Contains (fetches trees) fetch → IsAskedOf asked content (file_name_of fetch.key)
  the_plan : (name : List ℕ) → plan_asked asked ≡ Some name → IsAskedOf asked content name

-- a refusal before the output: it is what the words and the files come to, a count shows its cause, and nothing is printed
pub record ExplainsRefusal (run : Run) (answer : Outcome) : Type 0 where
  pub agrees : RefusesBy (ComesTo run.asked run.content) answer
  pub cause : HasCause run.shelf (IsAskedOf run.asked run.content) answer
  pub silent : TookNothing run.out

-- Why each answer came, and what the output then holds: after `Done` exactly the text of the mode, which
-- is one of the script's meaning; where writing was refused, a beginning of that text; else nothing.
abbrev pub Explains : Run → Outcome → Type 0
Explains run (outcome.Done receipts) = OfText run (TookAll run.out)
Explains run outcome.WriteFault = FaultsRose run.out × OfText run (TookPart run.out)
Explains run outcome.Memory =
    TookNothing run.out ⊎ (WantsRose run.out × OfText run (TookPart run.out))
Explains run answer = ExplainsRefusal run answer

-- the line on standard error is whole, or it stopped at a fault or a want of standard error itself
abbrev pub TellsLine : Written → List ℕ → Type 0
TellsLine err line = TookAll err line ⊎ ((FaultsRose err ⊎ WantsRose err) × TookPart err line)

-- an answer that may come in place of any other before the output: want of memory, and a fault of reading
abbrev pub IsInPlace : Outcome → Type 0
IsInPlace outcome.Memory = ⊤
IsInPlace (outcome.ReadFault name) = ⊤
IsInPlace answer = ⊥

-- the answer to a run whose text is printed, whatever its receipts are
abbrev pub IsDone : Outcome → Type 0
IsDone (outcome.Done receipts) = ⊤
IsDone answer = ⊥

-- what the words and the files come to decides the answer
abbrev pub Decides : Verdict (List ℕ) → Outcome → Type 0
Decides untold answer = ⊤
Decides (refused refusal) answer = (answer ≡ refusal) ⊎ IsInPlace answer
Decides (passes text) answer = IsDone answer ⊎ (answer ≡ outcome.WriteFault) ⊎ IsInPlace answer

-- The promises of one run.
pub record Headline (run : Run) (err : Written) (answer : Outcome) : Type 0 where
  -- Each answer has its cause. After `Done` the output took exactly the text of the mode: of the script's
  -- meaning for each store its line, its header, and the rows of the bag in ascending order, and then
  -- the plan and the traffic that are asked for; or the plan alone, as lines or as JSON; or what a trial counts. After any
  -- other answer it took nothing, or, where writing itself was refused, a beginning of that text.
  pub explained : Explains run answer
  -- Words that aren't read are refused so, unless there is no memory for them, and no others are.
  pub words_exactly : (answer ≡ outcome.Usage → run.asked ≡ None)
      × (run.asked ≡ None → (answer ≡ outcome.Usage) ⊎ (answer ≡ outcome.Memory))
  -- The words and the files decide the answer: the one refusal that they come to, or that the text is
  -- printed or could not be written. Want of memory and a fault of reading may come in its place.
  pub decided : (step : Verdict (List ℕ)) → ComesTo run.asked run.content step → Decides step answer
  -- Where a script is asked for, each file by itself allows the answer, whatever the shelf tells of the
  -- others: the script, and then each relation that it needs.
  pub each_file : (name : List ℕ) → script_asked run.asked ≡ Some name
      → Allows run.content name answer
  -- Standard error took the line of the answer.
  pub told : TellsLine err (line_of (name_given run.asked answer) answer)
