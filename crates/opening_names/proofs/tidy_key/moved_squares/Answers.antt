use Rattle.std.proofs.Common.{None, set, ap, ◌∙◌}
use Rattle.explorer_model.specs.Chess.{arriving}
use Rattle.explorer_model.specs.Keys.{packed}
use Rattle.legal_moves.proofs.Writes.{length-set_64, plain_writes}
use Rattle.opening_names.proofs.tidy_key.moved_squares.Goals as goal

pub returns : goal.returns
returns c =
    let p = c.args.position.now in
    let m = c.args.m in
    let left = set p.squares m.from.index None in
    c.write_square-2.ensures left (length-set_64 p.squares m.from.index None c.requires.packed.whole) (c.write_square.ensures p.squares c.requires.packed.whole c.requires.packed.packed_squares)
    ∙ ap (λ o. packed (set left m.to.index o)) c.arriving_piece-arrives.ensures
    ∙ ap (λ o. packed (set left m.to.index (arriving o m.promotion))) c.piece_at.ensures
    ∙ ap (λ s. packed s) (plain_writes p m c.requires.packed.whole c.requires.no_taking c.requires.no_castling)
