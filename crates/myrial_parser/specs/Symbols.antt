-- Each symbol by its own name.
use Rattle.myrial_lexer.specs.declared.kinds.Sign.TheVariants as sign
use Rattle.myrial_parser.specs.declared.terminals.Keyword.TheVariants as keyword
use Rattle.myrial_parser.specs.declared.terminals.Symbol.{Symbol}
use Rattle.myrial_parser.specs.declared.terminals.Symbol.TheVariants as symbol

abbrev pub From : Symbol
From = symbol.Keyword keyword.From

abbrev pub Where : Symbol
Where = symbol.Keyword keyword.Where

abbrev pub Emit : Symbol
Emit = symbol.Keyword keyword.Emit

abbrev pub As : Symbol
As = symbol.Keyword keyword.As

abbrev pub And : Symbol
And = symbol.Keyword keyword.And

abbrev pub Or : Symbol
Or = symbol.Keyword keyword.Or

abbrev pub Not : Symbol
Not = symbol.Keyword keyword.Not

abbrev pub True : Symbol
True = symbol.Keyword keyword.True

abbrev pub False : Symbol
False = symbol.Keyword keyword.False

abbrev pub Scan : Symbol
Scan = symbol.Keyword keyword.Scan

abbrev pub Store : Symbol
Store = symbol.Keyword keyword.Store

abbrev pub Empty : Symbol
Empty = symbol.Keyword keyword.Empty

abbrev pub Distinct : Symbol
Distinct = symbol.Keyword keyword.Distinct

abbrev pub UnionAll : Symbol
UnionAll = symbol.Keyword keyword.UnionAll

abbrev pub Diff : Symbol
Diff = symbol.Keyword keyword.Diff

abbrev pub Count : Symbol
Count = symbol.Keyword keyword.Count

abbrev pub CountAll : Symbol
CountAll = symbol.Keyword keyword.CountAll

abbrev pub Sum : Symbol
Sum = symbol.Keyword keyword.Sum

abbrev pub Min : Symbol
Min = symbol.Keyword keyword.Min

abbrev pub Max : Symbol
Max = symbol.Keyword keyword.Max

abbrev pub Eq : Symbol
Eq = symbol.Sign sign.Eq

abbrev pub Ne : Symbol
Ne = symbol.Sign sign.Ne

abbrev pub Le : Symbol
Le = symbol.Sign sign.Le

abbrev pub Lt : Symbol
Lt = symbol.Sign sign.Lt

abbrev pub Ge : Symbol
Ge = symbol.Sign sign.Ge

abbrev pub Gt : Symbol
Gt = symbol.Sign sign.Gt

abbrev pub Plus : Symbol
Plus = symbol.Sign sign.Plus

abbrev pub Minus : Symbol
Minus = symbol.Sign sign.Minus

abbrev pub Star : Symbol
Star = symbol.Sign sign.Star

abbrev pub OpenParen : Symbol
OpenParen = symbol.Sign sign.OpenParen

abbrev pub CloseParen : Symbol
CloseParen = symbol.Sign sign.CloseParen

abbrev pub OpenBracket : Symbol
OpenBracket = symbol.Sign sign.OpenBracket

abbrev pub CloseBracket : Symbol
CloseBracket = symbol.Sign sign.CloseBracket

abbrev pub Comma : Symbol
Comma = symbol.Sign sign.Comma

abbrev pub Dot : Symbol
Dot = symbol.Sign sign.Dot

abbrev pub Colon : Symbol
Colon = symbol.Sign sign.Colon

abbrev pub Semicolon : Symbol
Semicolon = symbol.Sign sign.Semicolon

abbrev pub Dollar : Symbol
Dollar = symbol.Sign sign.Dollar
