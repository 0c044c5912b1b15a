use Rattle.std.proofs.Common.{◌+◌, sym, subst}
use Rattle.pgn_lex.specs.declared.reading.Section.{Section}
use Rattle.pgn_lex.specs.Reading.{Front, IsReadUpTo, section_as}
use Rattle.pgn_lex.proofs.Meaning.{period_passed}
use Rattle.pgn_lex.proofs.reading.past_period.Goals as goal

pub returns-then-text-at-eq46-clause-read : goal.returns-then-text-at-eq46-clause-read
returns-then-text-at-eq46-clause-read c =
    subst (λ (section : Section). (front : Front) → IsReadUpTo c.args.text.now c.args.at (section_as section) front → IsReadUpTo c.args.text.now (c.args.at + 1) (section_as section) front)
    (sym c.in-Moves.is) (λ front so_far. period_passed c.args.text.now c.args.at front so_far c.if-at-text.true c.if-text-at-eq46.true)
