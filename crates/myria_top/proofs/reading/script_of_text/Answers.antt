use Rattle.std.proofs.Common.{◌≡◌, ◌∙◌, refl, sym, ap, List, ℕ, Err}
use Rattle.myrial_ast.specs.Trees.{trees_of}
use Rattle.myrial_lexer.specs.Tokens.{HasFault}
use Rattle.myrial_lexer.specs.declared.faults.LexWhat.{LexWhat}
use Rattle.myrial_parser.specs.Pieces.{Syntax, TooMany}
use Rattle.myria_top.specs.declared.outcomes.Outcome.TheVariants as outcome
use Rattle.myria_top.specs.Reading.{Meets}
use Rattle.myria_top.specs.Scripts.{TextComesTo, not_text, bad_token, bad_piece, a_script}
use Rattle.myria_top.specs.Verdicts.{refused, passes}
use Rattle.myria_top.proofs.reading.script_of_text.Goals as goal

bad_line : (bytes : List ℕ) (line other : ℕ) (what kind : LexWhat) → other ≡ line → kind ≡ what → HasFault bytes line what → Meets (TextComesTo bytes) (refused (outcome.Lex other kind))
bad_line bytes line other what kind e d h = record {
  step = refused (outcome.Lex line what);
  comes = bad_token line what h;
  is = λ i. refused (outcome.Lex (sym e i) (sym d i));
}

pub returns-in-Err-NotText-clause-agrees : goal.returns-in-Err-NotText-clause-agrees
returns-in-Err-NotText-clause-agrees c = record {
  step = refused outcome.ScriptNotText;
  comes = not_text (c.lex.ensures.not_text.0 (c.in-Err-NotText.is ∙ ap Err c.in-Err-NotText.field-0-is));
  is = refl;
}

pub returns-in-Err-At-clause-agrees : goal.returns-in-Err-At-clause-agrees
returns-in-Err-At-clause-agrees c =
    bad_line c.args.bytes.now c.in-Err-At.line _ c.in-Err-At.what _ c.in-Err-At.line-is c.in-Err-At.what-is
    (c.lex.ensures.at c.in-Err-At.line c.in-Err-At.what (c.in-Err-At.is ∙ ap Err c.in-Err-At.field-0-is))

pub returns-in-Err-Syntax-clause-agrees : goal.returns-in-Err-Syntax-clause-agrees
returns-in-Err-Syntax-clause-agrees c = record {
  step = refused (outcome.Syntax c.in-Err-Syntax.statement);
  comes =
      bad_piece c.in-Ok.tokens c.in-Err-Syntax.statement Syntax c.in-Ok.ensures.ok
      (c.parse.ensures.fault c.in-Err-Syntax.statement Syntax (c.in-Err-Syntax.is ∙ ap Err c.in-Err-Syntax.field-0-is));
  is = refl;
}

pub returns-in-Err-TooMany-clause-agrees : goal.returns-in-Err-TooMany-clause-agrees
returns-in-Err-TooMany-clause-agrees c = record {
  step = refused (outcome.TooMany c.in-Err-TooMany.statement c.in-Err-TooMany.what);
  comes =
      bad_piece c.in-Ok.tokens c.in-Err-TooMany.statement (TooMany c.in-Err-TooMany.what) c.in-Ok.ensures.ok
      (c.parse.ensures.fault c.in-Err-TooMany.statement (TooMany c.in-Err-TooMany.what) (c.in-Err-TooMany.is ∙ ap Err c.in-Err-TooMany.field-0-is));
  is = refl;
}

pub returns-in-Ok-parse-clause-agrees : goal.returns-in-Ok-parse-clause-agrees
returns-in-Ok-parse-clause-agrees c = record {
  step = passes (trees_of c.in-Ok-parse.script);
  comes = a_script c.in-Ok.tokens (trees_of c.in-Ok-parse.script) c.in-Ok.ensures.ok c.in-Ok-parse.ensures.ok;
  is = refl;
}
