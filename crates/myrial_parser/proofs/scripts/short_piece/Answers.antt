use Rattle.std.proofs.Common.{List, true, refl, sym, subst, arith}
use Rattle.myrial_ast.specs.Trees.{statement_tree_of}
use Rattle.myrial_parser.specs.declared.faults.What.TheVariants.{FromItems, Columns}
use Rattle.myrial_parser.specs.Terminals.{Terminal}
use Rattle.myrial_parser.specs.Grammar.{Reads}
use Rattle.myrial_parser.specs.Pieces as spec
use Rattle.myrial_parser.specs.Pieces.{Syntax, TooMany}
use Rattle.myrial_parser.proofs.StatementLemmas.{statement-sound, refused-unread}
use Rattle.myrial_parser.proofs.FaultLemmas.{short-length, told-IsFaulty, syntax-IsFaulty, items-IsFaulty, columns-IsFaulty, sound-IsRead}
use Rattle.myrial_parser.proofs.scripts.short_piece.Goals as goal

pub new-requires-clause-few : goal.new-requires-clause-few
new-requires-clause-few c =
    let short = short-length c.args.bytes.now c.args.number (record { tokens = c.args.tokens.now; ended = true }) c.requires.within in
    omega arith

pub returns-then-items_of-gt-MOST_ITEMS-clause-fault : goal.returns-then-items_of-gt-MOST_ITEMS-clause-fault
returns-then-items_of-gt-MOST_ITEMS-clause-fault c n fault e =
    let text = c.args.bytes.now in
    let number = c.args.number in
    let piece : spec.Piece = record { tokens = c.args.tokens.now; ended = true } in
    let s = statement_tree_of c.in-Ok.statement in
    let is : spec.IsStatement text piece s = record { ended = refl; reads = subst (λ (ts : List Terminal). Reads ts s) c.new.ensures (statement-sound c.new.result s _ c.in-Ok.ensures) } in
    told-IsFaulty text number piece c.too_many.result (TooMany FromItems) c.too_many.ensures
    (items-IsFaulty text number piece c.a_piece_has_one_statement.ensures s is c.requires.within (omega (arith, c.items_of.ensures, c.if-items_of-gt-MOST_ITEMS.true))) n fault (cc)

pub returns-then-columns_of-gt-MOST_COLUMNS-clause-fault : goal.returns-then-columns_of-gt-MOST_COLUMNS-clause-fault
returns-then-columns_of-gt-MOST_COLUMNS-clause-fault c n fault e =
    let text = c.args.bytes.now in
    let number = c.args.number in
    let piece : spec.Piece = record { tokens = c.args.tokens.now; ended = true } in
    let s = statement_tree_of c.in-Ok.statement in
    let is : spec.IsStatement text piece s = record { ended = refl; reads = subst (λ (ts : List Terminal). Reads ts s) c.new.ensures (statement-sound c.new.result s _ c.in-Ok.ensures) } in
    told-IsFaulty text number piece c.too_many-then-columns_of-gt-MOST_COLUMNS.result (TooMany Columns) c.too_many-then-columns_of-gt-MOST_COLUMNS.ensures
    (columns-IsFaulty text number piece c.a_piece_has_one_statement.ensures s is c.requires.within (omega (arith, c.items_of.ensures, c.if-items_of-gt-MOST_ITEMS.false)) (omega (arith, c.columns_of.ensures, c.if-columns_of-gt-MOST_COLUMNS.true))) n fault (cc)

pub returns-else-columns_of-gt-MOST_COLUMNS-clause-ok : goal.returns-else-columns_of-gt-MOST_COLUMNS-clause-ok
returns-else-columns_of-gt-MOST_COLUMNS-clause-ok c =
    let text = c.args.bytes.now in
    let number = c.args.number in
    let piece : spec.Piece = record { tokens = c.args.tokens.now; ended = true } in
    let s = statement_tree_of c.in-Ok.statement in
    let is : spec.IsStatement text piece s = record { ended = refl; reads = subst (λ (ts : List Terminal). Reads ts s) c.new.ensures (statement-sound c.new.result s _ c.in-Ok.ensures) } in
    sound-IsRead text number piece c.a_piece_has_one_statement.ensures s is c.requires.within (omega (arith, c.items_of.ensures, c.if-items_of-gt-MOST_ITEMS.false)) (omega (arith, c.columns_of.ensures, c.if-columns_of-gt-MOST_COLUMNS.false))

pub returns-in-Err-Syntax-clause-fault : goal.returns-in-Err-Syntax-clause-fault
returns-in-Err-Syntax-clause-fault c n fault e =
    let text = c.args.bytes.now in
    let number = c.args.number in
    let piece : spec.Piece = record { tokens = c.args.tokens.now; ended = true } in
    told-IsFaulty text number piece (spec.told number Syntax) Syntax refl (syntax-IsFaulty text number piece c.requires.within (λ s is. refused-unread statement_tree_of c.new.result _ _ c.in-Err-Syntax.ensures c.in-Err-Syntax.field-0-is s (subst (λ (ts : List Terminal). Reads ts s) (sym c.new.ensures) is.reads))) n fault (cc)
