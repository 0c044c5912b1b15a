use Rattle.std.proofs.Common.{rules, ◌≡◌, ◌∷◌, [], sym, subst, Err}
use Rattle.std.specs.Option.{option_copied}
use Rattle.explorer_model.specs.declared.query.BadParameter.{BadParameter}
use Rattle.explorer_model.specs.Query.{pieces_of, MovesRead}
use Rattle.query_params.specs.Given.{pieces_left}
use Rattle.query_params.proofs.Played.{goes_on, fails, ends}
use Rattle.query_params.proofs.position.read_moves.Goals as goal

pub returns-in_default-read_uci : goal.returns-in_default-read_uci
returns-in_default-read_uci c =
    let here : pieces_left (option_copied c.loop-rest.rest) ≡ c.split_piece.result.0.now ∷ pieces_left (option_copied c.split_piece.result.1) = search rules in
    let read = fails c.args.root.now (pieces_of c.args.text.now) c.loop-rest.board c.loop-rest.moves.items
    (pieces_left (option_copied c.loop-rest.rest)) (pieces_left (option_copied c.split_piece.result.1)) c.split_piece.result.0.now c.in_default-read_uci.field-0
    c.loop-rest.invariant here (rw c.as_bytes.ensures.value at c.in_default-read_uci.ensures.reads) in
    let P : BadParameter → Type 0 = λ fault. MovesRead c.args.root.now (pieces_of c.args.text.now) (Err fault) in
    subst P (sym c.bad.ensures) read

pub loop-rest-preserved : goal.loop-rest-preserved
loop-rest-preserved c =
    let here : pieces_left (option_copied c.loop-rest.rest) ≡ c.split_piece.result.0.now ∷ pieces_left (option_copied c.split_piece.result.1) = search rules in
    goes_on c.args.root.now (pieces_of c.args.text.now) c.loop-rest.board c.play-board.result c.loop-rest.moves.items c.push.new.self.items
    (pieces_left (option_copied c.loop-rest.rest)) (pieces_left (option_copied c.split_piece.result.1)) c.split_piece.result.0.now c.in-Ok.step
    c.loop-rest.invariant here (rw c.as_bytes.ensures.value at c.in-Ok.ensures.reads) c.play-board.ensures c.in_ok-push.ensures.items

pub returns : goal.returns
returns c =
    let none : pieces_left (option_copied c.loop-rest.rest) ≡ [] = search rules in
    let all = ends c.args.root.now (pieces_of c.args.text.now) c.loop-rest.board c.loop-rest.moves.items (pieces_left (option_copied c.loop-rest.rest)) c.loop-rest.invariant none in
    rw c.from_vec.ensures all
