use Rattle.std.proofs.Common.{◌+◌, List, sym, subst, lit<}
use Rattle.explorer_model.specs.declared.chess.Move.{Move}
use Rattle.explorer_model.specs.Chess.{Legal}
use Rattle.legal_moves.specs.Listing.{place_of, ListsBelow}
use Rattle.legal_moves.proofs.Lists.{lists-push, lists-pass, lists-room, some-true, none-false}
use Rattle.legal_moves.proofs.generate.list_move.Goals as goal

pub push-requires : goal.push-requires
push-requires c =
    let legal : Legal c.args.position.now c.args.m = some-true c.is_legal.result _ c.is_legal.ensures c.if-is_legal.true in
    (lit< tt, lists-room c.args.position.now c.args.m c.args.moves.now.items c.requires.masked.informed.valid c.requires.before legal)

pub returns-then-is_legal : goal.returns-then-is_legal
returns-then-is_legal c =
    let legal : Legal c.args.position.now c.args.m = some-true c.is_legal.result _ c.is_legal.ensures c.if-is_legal.true in
    let P : List Move → Type 0 = λ moves. ListsBelow c.args.position.now (place_of c.args.m + 1) moves in
    subst P (sym c.push.ensures.items) (lists-push c.args.position.now c.args.m c.args.moves.now.items c.requires.before legal)

pub returns-else-is_legal : goal.returns-else-is_legal
returns-else-is_legal c =
    lists-pass c.args.position.now c.args.m c.args.moves.now.items c.requires.before (none-false c.is_legal.result _ c.is_legal.ensures c.if-is_legal.false)
