use Rattle.std.proofs.Common.{◌≡◌, ◌↔◌, ℕ, IsTrue, true, false, sym, ◌∙◌, subst}
use Rattle.explorer_model.specs.Chess.{king_home, rook_home}
use Rattle.legal_moves.specs.EnemySets.{IsClear}
use Rattle.legal_moves.proofs.AttackSets.{clear-open}
use Rattle.legal_moves.proofs.Lists.{some-true, none-false}
use Rattle.legal_moves.proofs.BitboardFacts.{both-ways}
use Rattle.legal_moves.proofs.DestinationLemmas.{castling-none, castling-one}
use Rattle.legal_moves.proofs.destinations.castling.Goals as goal

pub returns-then-not-has : goal.returns-then-not-has
returns-then-not-has c = λ m here.
    castling-none c.args.position.now m c.args.side
    (λ castles. let no_way : true ≡ false = sym castles.0 ∙ sym c.has.ensures ∙ c.if-not-has.true in cc)

pub returns-then-not-is_clear : goal.returns-then-not-is_clear
returns-then-not-is_clear c = λ m here.
    let From : ℕ → Type 0 = λ a. IsTrue c.is_clear.result ↔ IsClear c.args.info.now.enemy_sets.occupied a c.rook_home.result in
    let To : ℕ → Type 0 = λ b. IsTrue c.is_clear.result ↔ IsClear c.args.info.now.enemy_sets.occupied (king_home c.args.position.now.turn) b in
    let says = both-ways (subst To c.rook_home.ensures (subst From c.king_home.ensures c.is_clear.ensures))
    (clear-open c.args.position.now.squares c.args.info.now.enemy_sets.occupied (king_home c.args.position.now.turn)
    (rook_home c.args.position.now.turn c.args.side) c.requires.enemy_sets.occupied) in
    castling-none c.args.position.now m c.args.side (λ castles. none-false c.is_clear.result _ says c.if-not-is_clear.true castles.4)

pub returns : goal.returns
returns c = λ m here.
    let From : ℕ → Type 0 = λ a. IsTrue c.is_clear.result ↔ IsClear c.args.info.now.enemy_sets.occupied a c.rook_home.result in
    let To : ℕ → Type 0 = λ b. IsTrue c.is_clear.result ↔ IsClear c.args.info.now.enemy_sets.occupied (king_home c.args.position.now.turn) b in
    let says = both-ways (subst To c.rook_home.ensures (subst From c.king_home.ensures c.is_clear.ensures))
    (clear-open c.args.position.now.squares c.args.info.now.enemy_sets.occupied (king_home c.args.position.now.turn)
    (rook_home c.args.position.now.turn c.args.side) c.requires.enemy_sets.occupied) in
    castling-one c.args.position.now c.args.info.now m c.args.side c.only.result c.king_target.result c.requires here
    (sym c.has.ensures ∙ c.if-not-has.false) (some-true c.is_clear.result _ says c.if-not-is_clear.false) c.king_target.ensures c.only.ensures
