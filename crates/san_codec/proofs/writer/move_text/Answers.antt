use Rattle.std.proofs.Common.{arith, length, sym, subst, ◌≤◌}
use Rattle.san_codec.proofs.Moves.{role_there}
use Rattle.san_codec.proofs.Room.{named_room}
use Rattle.explorer_model.specs.Board.{piece_at}
use Rattle.san_codec.proofs.writer.move_text.Goals as goal

pub named_text-requires : goal.named_text-requires
named_text-requires c =
    let p = c.args.position.now in
    let there = role_there (piece_at p.squares c.args.m.from.index) c.in-Some.piece c.in-Some.ensures in
    omega (arith, named_room p c.args.m c.in-Some.piece.role c.start_of-start.result ((c.requires.each c.args.m).0 c.requires.listed) there c.start_of-start.ensures)

pub returns-clause-room : goal.returns-clause-room
returns-clause-room c =
    let p = c.args.position.now in
    let there = role_there (piece_at p.squares c.args.m.from.index) c.in-Some.piece c.in-Some.ensures in
    subst (λ text. length text ≤ 7) (sym c.named_text.ensures)
    (named_room p c.args.m c.in-Some.piece.role c.start_of-start.result ((c.requires.each c.args.m).0 c.requires.listed) there c.start_of-start.ensures)
