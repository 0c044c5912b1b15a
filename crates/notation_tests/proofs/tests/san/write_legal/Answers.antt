use Rattle.std.proofs.Common.{refl, subst, sym, ap, ◌∙◌}
use Rattle.explorer_model.specs.declared.chess.Position.{Position}
use Rattle.explorer_model.specs.Chess.{after}
use Rattle.explorer_model.specs.San.{IsMarked}
use Rattle.legal_moves.proofs.Lists.{lists-same}
use Rattle.notation_tests.proofs.tests.san.write_legal.Goals as goal

pub write-requires-clause-each : goal.write-requires-clause-each
write-requires-clause-each c =
    lists-same c.args.board.now c.position.result c.args.legal.now c.args.legal.now c.position.ensures.same refl c.requires.each

pub write-requires-clause-listed : goal.write-requires-clause-listed
write-requires-clause-listed c = (c.requires.each c.args.m).1 c.requires.legal

pub write-requires-clause-mark : goal.write-requires-clause-mark
write-requires-clause-mark c =
    let M : Position → Type 0 = λ p. IsMarked p c.mark_of.result in
    subst M (c.play.ensures ∙ ap (λ p. after p c.args.m) (sym c.position.ensures.same)) c.mark_of.ensures
