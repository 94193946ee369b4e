-- what is read is what was found and what is read from here on, with the turns that are left
use Rattle.std.proofs.Common.{◌≡◌, ◌-◌, ◌<◌, ◌≤◌, ◌^◌, length, map}
use Rattle.myrial_parser.specs.inner.Descent.{separated, separated_from}
use Rattle.myrial_parser.proofs.TurnLemmas.{with_items}
use Rattle.myrial_parser.proofs.cursor.Cursor.separated.Given as goal

abbrev pub invariant-loop-turn : goal.invariant-loop-turn
invariant-loop-turn g l =
    record {
      rest : separated g.P.Phrase.parser l.fn.self ≡ with_items (map g.P.Phrase.tree_of l.items) (separated_from g.P.Phrase.parser (l._turn-end - l._turn) l.self);
      few : length l.items ≤ l._turn;
      bound : l._turn-end < 2 ^ 32 - 1;
    }
