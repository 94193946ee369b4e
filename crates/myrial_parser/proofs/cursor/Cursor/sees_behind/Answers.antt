use Rattle.std.proofs.Common.{◌∙◌, ap, sym, drop, arith}
use Rattle.std.proofs.lemmas.Grind.{common_steps}
use Rattle.std.proofs.lemmas.List.{take_rest, drop-map}
use Rattle.myrial_parser.specs.inner.Descent.{Input, sees}
use Rattle.myrial_parser.specs.Terminals.{terminal_of, terminals_of}
use Rattle.myrial_parser.proofs.cursor.Cursor.sees_behind.Goals as goal

pub returns-then-count-self : goal.returns-then-count-self
returns-then-count-self c =
    let tokens = c.self.inside.tokens.now in
    let bytes = c.self.inside.bytes.now in
    c.sees.ensures
    ∙ ap (sees c.args.symbol) (c.new.ensures ∙ ap (terminals_of bytes) (take_rest tokens c.args.count) ∙ sym (drop-map (terminal_of bytes) c.args.count tokens)
    ∙ ap (λ (i : Input). drop c.args.count i) c.self.view_is)

pub returns-else-count-self : goal.returns-else-count-self
returns-else-count-self c = grind (arith, common_steps)
