use Rattle.std.proofs.Common.{◌≡◌, sym, ap, subst, ◌∙◌}
use Rattle.explorer_model.specs.declared.chess.Position.{Position}
use Rattle.explorer_model.specs.Tidy.{IsTidied}
use Rattle.legal_moves.specs.Tidy.{with_en_passant}
use Rattle.player_lookup.proofs.visit.has_tidy_form.Goals as goal

pub returns : goal.returns
returns c =
    let board : Position = c.args.board.now in
    let tidy : Position = c.args.tidy.now in
    let read = c.as_position.ensures in
    let same = c.has_same_pieces.ensures.0 c.if-not-has_same_pieces.false in
    let squares : board.squares ≡ tidy.squares = sym (ap (λ p. p.squares) read) ∙ same.0 in
    let turn : board.turn ≡ tidy.turn = sym (ap (λ p. p.turn) read) ∙ same.1 in
    let rights : board.rights ≡ tidy.rights = sym (ap (λ p. p.rights) read) ∙ same.2 in (
      λ e.
          (let square = c.is_same_square.ensures.0 e in
          let whole : with_en_passant board c.tidy_en_passant.result ≡ tidy =
          (λ k. record { squares = squares k; turn = turn k; rights = rights k; en_passant = square k }) in
          subst (IsTidied board) whole c.tidy_en_passant.ensures),
      λ tidied. c.is_same_square.ensures.1
          (sym (ap (λ p. p.en_passant) (c.tidy_is_determined.ensures board tidy (with_en_passant board c.tidy_en_passant.result) tidied c.tidy_en_passant.ensures))),
    )
