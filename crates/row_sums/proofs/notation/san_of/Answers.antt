use Rattle.std.proofs.Common.{◌↔◌, ℕ, List, subst, sym, ap, ◌∙◌}
use Rattle.std.specs.List.{Contains}
use Rattle.explorer_model.specs.declared.chess.Move.{Move}
use Rattle.explorer_model.specs.declared.chess.Position.{Position}
use Rattle.explorer_model.specs.Chess.{Legal, after}
use Rattle.explorer_model.specs.San.{IsMarked, SanText}
use Rattle.row_sums.proofs.notation.san_of.Goals as goal

pub write-text-requires-clause-each : goal.write-text-requires-clause-each
write-text-requires-clause-each c =
    let E : Position → Type 0 = λ p. (m : Move) → Contains c.args.legal.now m ↔ Legal p m in subst E (sym c.position.ensures.same) c.requires.each

pub write-text-requires-clause-listed : goal.write-text-requires-clause-listed
write-text-requires-clause-listed c = (c.requires.each c.args.step).1 c.requires.legal

pub write-text-requires-clause-mark : goal.write-text-requires-clause-mark
write-text-requires-clause-mark c =
    let M : Position → Type 0 = λ p. IsMarked p c.mark_of.result in
    subst M (c.play.ensures ∙ ap (λ p. after p c.args.step) (sym c.position.ensures.same)) c.mark_of.ensures

pub returns : goal.returns
returns c =
    let S : Position → Type 0 = λ p. SanText p c.args.step c.write-text.result.items in
    let T : List ℕ → Type 0 = λ text. SanText c.args.board.now c.args.step text in
    subst T (sym (c.from_vec.ensures ∙ c.in_ok-from_slice.ensures.items ∙ c.as_slice.ensures.value)) (subst S c.position.ensures.same c.write-text.ensures)
