use Rattle.std.proofs.Common.{sym, ◌∙◌}
use Rattle.pgn_lex.proofs.Meaning.{white_passed}
use Rattle.pgn_lex.proofs.reading.past_white.Goals as goal

pub returns-then-is_white-clause-read : goal.returns-then-is_white-clause-read
returns-then-is_white-clause-read c = λ section front so_far.
    white_passed c.args.text.now c.args.at section front so_far c.if-at-text.true (sym c.is_white.ensures ∙ c.if-is_white.true)
