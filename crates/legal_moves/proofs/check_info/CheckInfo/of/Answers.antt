use Rattle.std.proofs.Common.{ℕ, subst}
use Rattle.step_tables.specs.Bitboard.{Holds}
use Rattle.step_tables.proofs.BitboardLemmas.{Holds-zero}
use Rattle.explorer_model.specs.declared.chess.Color.{Color}
use Rattle.explorer_model.specs.Board.{opponent, IsOfColor}
use Rattle.legal_moves.specs.EnemySets.{IsBitboardOf, Describes}
use Rattle.legal_moves.proofs.PieceBitboards.{sets-place, king_among, pawns_among}
use Rattle.legal_moves.proofs.OneKing.{king_somewhere}
use Rattle.legal_moves.proofs.check_info.CheckInfo.of.Goals as goal

pub lowest-king-requires : goal.lowest-king-requires
lowest-king-requires c = λ none.
    let k = king_somewhere c.args.position.now c.args.position.now.turn c.requires.valid in
    let own = c.of_color-own.ensures c.args.position.now.squares c.requires.told in
    let kings = king_among c.args.position.now.squares c.args.sets.now c.args.position.now.turn c.of_color-own.result
    (sets-place c.args.position.now.squares c.args.sets.now c.requires.told) own in
    Holds-zero k.0 (let P : ℕ → Type 0 = λ bitboard. Holds bitboard k.0 in subst P none ((kings k.0 k.1).1 k.2))

pub returns : goal.returns
returns c =
    let squares = c.args.position.now.squares in
    let turn = c.args.position.now.turn in
    let places = sets-place squares c.args.sets.now c.requires.told in
    let own = c.of_color-own.ensures squares c.requires.told in
    let Theirs : Color → Type 0 = λ color. IsBitboardOf (IsOfColor color) squares c.of_color.result in
    let Described : Color → Type 0 = λ color. Describes squares color c.of-enemy_sets.result in
    let enemy_sets : Describes squares (opponent turn) c.of-enemy_sets.result = subst Described c.opponent-enemy.ensures (c.of-enemy_sets.ensures squares c.requires.told) in
    let king = (king_among squares c.args.sets.now turn c.of_color-own.result places own c.lowest-king.result c.lowest-king.ensures.on_board).0
    c.lowest-king.ensures.within in
    record {
      valid = c.requires.valid;
      enemy_sets = enemy_sets;
      own = own;
      own_pawns = pawns_among squares c.args.sets.now turn c.of_color-own.result places own;
      enemies = subst Theirs c.opponent-enemy.ensures (c.of_color.ensures squares c.requires.told);
      on_board = c.lowest-king.ensures.on_board;
      king = king;
    }
