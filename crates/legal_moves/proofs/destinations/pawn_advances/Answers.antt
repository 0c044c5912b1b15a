use Rattle.std.proofs.Common.{sym, ◌∙◌}
use Rattle.legal_moves.proofs.DestinationLemmas.{IsAhead, AreAhead, advances-none, advances-one, advances-both, not_first, double_steps_to, occupied-not_empty, unoccupied-empty}
use Rattle.legal_moves.proofs.Lists.{some-true, none-false}
use Rattle.legal_moves.proofs.destinations.pawn_advances.Goals as goal

pub returns-then-contains : goal.returns-then-contains
returns-then-contains c = λ m here.
    let next : IsAhead c.args.position.now.turn c.args.from c.ahead-next.result =
    record { on_board = c.ahead-next.ensures.on_board; file = c.ahead-next.ensures.file; rank = c.ahead-next.ensures.rank } in
    advances-none c.args.position.now m c.args.from c.ahead-next.result here next
    (occupied-not_empty c.args.position.now.squares c.args.info.now.enemy_sets.occupied c.ahead-next.result c.requires.informed.enemy_sets.occupied
    c.ahead-next.ensures.on_board (some-true c.contains.result _ c.contains.ensures c.if-contains.true))

pub returns-then-rank_of-pawn_rank : goal.returns-then-rank_of-pawn_rank
returns-then-rank_of-pawn_rank c = λ m here.
    let next : IsAhead c.args.position.now.turn c.args.from c.ahead-next.result =
    record { on_board = c.ahead-next.ensures.on_board; file = c.ahead-next.ensures.file; rank = c.ahead-next.ensures.rank } in
    advances-one c.args.position.now m c.args.from c.ahead-next.result c.only.result here next
    (unoccupied-empty c.args.position.now.squares c.args.info.now.enemy_sets.occupied c.ahead-next.result c.requires.informed.enemy_sets.occupied
    c.ahead-next.ensures.on_board (none-false c.contains.result _ c.contains.ensures c.if-contains.false))
    c.only.ensures
    (not_first c.args.position.now m c.args.from c.ahead-next.result here next
    (λ first. c.if-rank_of-pawn_rank.true (c.rank_of.ensures ∙ first ∙ sym c.pawn_rank.ensures)))

pub returns-then-contains-2 : goal.returns-then-contains-2
returns-then-contains-2 c = λ m here.
    let ahead : AreAhead c.args.position.now.turn c.args.from c.ahead-next.result c.ahead-second.result = record {
      first = sym c.rank_of.ensures ∙ c.if-rank_of-pawn_rank.false ∙ c.pawn_rank.ensures;
      one = record { on_board = c.ahead-next.ensures.on_board; file = c.ahead-next.ensures.file; rank = c.ahead-next.ensures.rank };
      two = record { on_board = c.ahead-second.ensures.on_board; file = c.ahead-second.ensures.file; rank = c.ahead-second.ensures.rank };
    } in
    advances-one c.args.position.now m c.args.from c.ahead-next.result c.only-then-contains-2.result here ahead.one
    (unoccupied-empty c.args.position.now.squares c.args.info.now.enemy_sets.occupied c.ahead-next.result c.requires.informed.enemy_sets.occupied
    c.ahead-next.ensures.on_board (none-false c.contains.result _ c.contains.ensures c.if-contains.false))
    c.only-then-contains-2.ensures
    (λ s. occupied-not_empty c.args.position.now.squares c.args.info.now.enemy_sets.occupied c.ahead-second.result c.requires.informed.enemy_sets.occupied
    c.ahead-second.ensures.on_board (some-true c.contains-2.result _ c.contains-2.ensures c.if-contains-2.true)
    (double_steps_to c.args.position.now m c.args.from c.ahead-next.result c.ahead-second.result here ahead s).2)

pub returns : goal.returns
returns c = λ m here.
    let ahead : AreAhead c.args.position.now.turn c.args.from c.ahead-next.result c.ahead-second.result = record {
      first = sym c.rank_of.ensures ∙ c.if-rank_of-pawn_rank.false ∙ c.pawn_rank.ensures;
      one = record { on_board = c.ahead-next.ensures.on_board; file = c.ahead-next.ensures.file; rank = c.ahead-next.ensures.rank };
      two = record { on_board = c.ahead-second.ensures.on_board; file = c.ahead-second.ensures.file; rank = c.ahead-second.ensures.rank };
    } in
    advances-both c.args.position.now m c.args.from c.ahead-next.result c.ahead-second.result c.only-2.result c.only-3.result here ahead
    (unoccupied-empty c.args.position.now.squares c.args.info.now.enemy_sets.occupied c.ahead-next.result c.requires.informed.enemy_sets.occupied
    c.ahead-next.ensures.on_board (none-false c.contains.result _ c.contains.ensures c.if-contains.false))
    (unoccupied-empty c.args.position.now.squares c.args.info.now.enemy_sets.occupied c.ahead-second.result c.requires.informed.enemy_sets.occupied
    c.ahead-second.ensures.on_board (none-false c.contains-2.result _ c.contains-2.ensures c.if-contains-2.false))
    c.only-2.ensures c.only-3.ensures
