-- Bridge: bytes as the code names them, and as the definition does.
use Rattle.std.specs.Prelude.{ℕ, Bool}
use Rattle.std.specs.Char.{is_ascii_digit}
use Rattle.explorer_model.specs.Items.{is_white, is_of_name, begins_symbol, continues_symbol}
use Rattle.explorer_model.specs.Items as items
use Rattle.pgn_lex.specs.declared.bytes.Class.{Class}
use Rattle.pgn_lex.specs.declared.bytes.Class.TheVariants.{White, Name, SymbolStart, Symbol, Digit}
use Rattle.pgn_lex.specs.declared.bytes.Lead.{Lead}
use Rattle.pgn_lex.specs.declared.bytes.Lead.TheVariants as leads

abbrev pub is_of : Class → ℕ → Bool
is_of White b = is_white b
is_of Name b = is_of_name b
is_of SymbolStart b = begins_symbol b
is_of Symbol b = continues_symbol b
is_of Digit b = is_ascii_digit b

abbrev pub lead_as : Lead → items.Lead
lead_as leads.White = items.White
lead_as leads.Comment = items.Comment
lead_as leads.Remark = items.Remark
lead_as leads.Bracket = items.Bracket
lead_as leads.Symbol = items.Symbol
lead_as leads.Star = items.Star
lead_as leads.Mark = items.Mark
lead_as leads.Dollar = items.Dollar
lead_as leads.Opening = items.Opening
lead_as leads.Closing = items.Closing
lead_as leads.Other = items.Other
