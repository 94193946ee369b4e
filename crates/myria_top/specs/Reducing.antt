-- What the flag to reduce changes.
--
--   reducing r reduce          the request, with the flag or without it
--   StoresAlone r              a run that prints what it stores, and neither plan nor traffic
--   ReducingKeepsFaults        where no prefix counts, a script has the same fault with the flag and without
--   ReducingKeepsAnswers       and the words and the files come to the same
--   ReducingAddsNoFault        whatever prefixes count, a script that has no fault without the flag has none with it
use Rattle.std.specs.Prelude.{◌≡◌, ℕ, Bool, true, false, List, None}
use Rattle.rel_base.specs.Keys.{File}
use Rattle.rel_io.specs.Outside.{Content}
use Rattle.myrial_ast.specs.Trees.{StatementTree}
use Rattle.myrial_ast.specs.CandidateFaults.{PrefixRule, Uncounted, joins_alone}
use Rattle.myrial_meaning.specs.Faults.{in_each, run_fault}
use Rattle.placement.specs.Plans.{usual_rule}
use Rattle.placement.specs.Runs.{prefixes_of}
use Rattle.command_words.specs.declared.requests.Mode.TheVariants as mode
use Rattle.command_words.specs.declared.requests.Request.{Request}
use Rattle.myria_top.specs.Runs.{printed_verdict}

-- the request, with the flag or without it
abbrev pub reducing : Request → Bool → Request
reducing r reduce = record r { settings = record r.settings { reduce = reduce } }

-- a run that prints what it stores, and neither plan nor traffic
abbrev pub StoresAlone : Request → Type 0
StoresAlone r = (r.mode ≡ mode.Run) × (r.plan ≡ false) × (r.traffic ≡ false)

-- where no prefix counts, a script has the same fault with the flag and without
abbrev pub ReducingKeepsFaults : Type 0
ReducingKeepsFaults =
    (reduce : Bool) (files : List File) (script : List StatementTree)
    → run_fault (in_each (record { prefixes = Uncounted; reduce = reduce })) files script
    ≡ run_fault (in_each joins_alone) files script

-- and the words and the files come to the same
abbrev pub ReducingKeepsAnswers : Type 0
ReducingKeepsAnswers =
    (r : Request) (reduce : Bool) → StoresAlone r → prefixes_of (usual_rule r.settings.shuffle) ≡ Uncounted
    → (content : List ℕ → Content) (script : List StatementTree)
    → printed_verdict (reducing r reduce) content script ≡ printed_verdict r content script

-- whatever prefixes count, a script that has no fault without the flag has none with it
abbrev pub ReducingAddsNoFault : Type 0
ReducingAddsNoFault =
    (prefixes : PrefixRule) (files : List File) (script : List StatementTree)
    → run_fault (in_each (record { prefixes = prefixes; reduce = false })) files script ≡ None
    → run_fault (in_each (record { prefixes = prefixes; reduce = true })) files script ≡ None
