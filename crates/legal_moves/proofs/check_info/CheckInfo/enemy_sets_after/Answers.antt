use Rattle.std.proofs.Common.{ℕ, sym, ◌∙◌, ap, subst}
use Rattle.explorer_model.specs.Chess.{rook_home}
use Rattle.legal_moves.specs.EnemySets.{IsEmptied, IsFilled}
use Rattle.legal_moves.proofs.Facts.{mover}
use Rattle.legal_moves.proofs.WrittenSets.{describes-plain, describes-taking, describes-castling}
use Rattle.legal_moves.proofs.check_info.CheckInfo.enemy_sets_after.Goals as goal

pub returns-then-takes_en_passant : goal.returns-then-takes_en_passant
returns-then-takes_en_passant c =
    let Gone : ℕ → Type 0 = λ s. IsEmptied c.args.self.now.enemy_sets s c.clear_square.result in
    describes-taking c.args.position.now c.args.m c.args.self.now.enemy_sets c.clear_square.result c.clear_square-then-takes_en_passant.result c.fill_square.result
    (mover c.args.position.now c.args.m c.requires.pseudo_legal) c.requires.informed.valid.board
    (sym c.takes_en_passant.ensures ∙ c.if-takes_en_passant.true)
    c.requires.informed.enemy_sets (subst Gone c.captured_en_passant.ensures c.clear_square.ensures) c.clear_square-then-takes_en_passant.ensures c.fill_square.ensures

pub returns-then-is_castling : goal.returns-then-is_castling
returns-then-is_castling c =
    let Put : ℕ → Type 0 = λ s. IsFilled c.args.self.now.enemy_sets s c.fill_square-then-is_castling.result in
    let Gone : ℕ → Type 0 = λ s. IsEmptied c.fill_square-then-is_castling.result s c.clear_square-then-is_castling.result in
    describes-castling c.args.position.now c.args.m c.args.self.now.enemy_sets c.fill_square-then-is_castling.result c.clear_square-then-is_castling.result
    c.clear_square-then-is_castling-2.result c.fill_square-then-is_castling-2.result
    (mover c.args.position.now c.args.m c.requires.pseudo_legal) c.requires.informed.valid.board
    (sym c.takes_en_passant.ensures ∙ c.if-takes_en_passant.false) (sym c.is_castling.ensures ∙ c.if-is_castling.true)
    c.requires.informed.enemy_sets (subst Put c.halfway.ensures c.fill_square-then-is_castling.ensures)
    (subst Gone (c.rook_home-home.ensures ∙ ap (rook_home c.args.position.now.turn) c.castling_side.ensures) c.clear_square-then-is_castling.ensures)
    c.clear_square-then-is_castling-2.ensures c.fill_square-then-is_castling-2.ensures

pub returns : goal.returns
returns c =
    describes-plain c.args.position.now c.args.m c.args.self.now.enemy_sets c.clear_square-2.result c.fill_square-2.result
    (mover c.args.position.now c.args.m c.requires.pseudo_legal) c.requires.informed.valid.board
    (sym c.takes_en_passant.ensures ∙ c.if-takes_en_passant.false) (sym c.is_castling.ensures ∙ c.if-is_castling.false)
    c.requires.informed.enemy_sets c.clear_square-2.ensures c.fill_square-2.ensures
