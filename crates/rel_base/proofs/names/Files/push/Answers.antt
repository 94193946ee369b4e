use Rattle.std.proofs.Common.{◌≡◌, ◌∙◌, ap, true, false, List, [], ◌∷◌, ◌++◌, Result, Ok, Err, OnOk, OnErr}
use Rattle.rel_base.specs.declared.failure.Memory.{Memory}
use Rattle.rel_base.specs.Keys.{File, distinct_keys, holds_key}
use Rattle.rel_base.proofs.KeyLemmas.{distinct_keys-push}
use Rattle.rel_base.proofs.names.Files.push.Goals as goal

-- the keys stay distinct on both answers
stays : (r : Result (Unit {0}) Memory) (files now : List File) (file : File) → OnOk r (now ≡ files ++ file ∷ []) → OnErr r (now ≡ files) → distinct_keys files ≡ true → holds_key files file.0 ≡ false → distinct_keys now ≡ true
stays (Ok u) files now file ok err d h = ap distinct_keys ok ∙ distinct_keys-push files file d h
stays (Err e) files now file ok err d h = ap distinct_keys err ∙ d

pub invariant_of-self : goal.invariant_of-self
invariant_of-self c =
    stays c.push.result c.self.inside.files _ c.args.file c.push.ensures.ok c.push.ensures.err c.self.invariant
    (ap (λ (fs : List File). holds_key fs c.args.file.0) c.self.view_is ∙ c.requires.new_key)
