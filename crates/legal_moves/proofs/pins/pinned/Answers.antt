use Rattle.std.proofs.Common.{inl, inr}
use Rattle.step_tables.proofs.BitboardLemmas.{Holds-or, Holds-and}
use Rattle.explorer_model.specs.Board.{RookLine, BishopLine}
use Rattle.legal_moves.specs.Pins.{IsAlone}
use Rattle.legal_moves.proofs.AttackSets.{rook_back, bishop_back}
use Rattle.legal_moves.proofs.BitboardFacts.{line-by}
use Rattle.legal_moves.proofs.PinLemmas.{pinned_of, of_pinned}
use Rattle.legal_moves.proofs.pins.pinned.Goals as goal

pub returns : goal.returns
returns c = λ s on.
    let p = c.args.position.now in
    let info = c.args.info.now in
    let informed = c.requires in
    let straight = line-by info.enemy_sets.straights c.rook_targets.result (λ a. RookLine info.king a) (λ a. RookLine a info.king)
    (λ a. IsAlone info.enemy_sets.occupied a s info.king) c.rook_targets.ensures (λ a. rook_back info.king a) in
    let diagonal = line-by info.enemy_sets.diagonals c.bishop_targets.result (λ a. BishopLine info.king a) (λ a. BishopLine a info.king)
    (λ a. IsAlone info.enemy_sets.occupied a s info.king) c.bishop_targets.ensures (λ a. bishop_back info.king a) in (
      λ bit.
          let h = (Holds-and _ _ s).0 bit in
          pinned_of p info informed s 0 0 on ((informed.own s on).0 h.0) (elim ((Holds-or _ _ s).0 h.1) [
            | inl x ↦ inl (straight.0 ((c.alone_between-straight.ensures s on).0 x))
            | inr y ↦ inr (diagonal.0 ((c.alone_between-diagonal.ensures s on).0 y))
          ]),
      λ pin. (Holds-and _ _ s).1 (
        (informed.own s on).1 pin.0,
        (Holds-or _ _ s).1 (elim (of_pinned p info informed s on pin) [
          | inl x ↦ inl ((c.alone_between-straight.ensures s on).1 (straight.1 x))
          | inr y ↦ inr ((c.alone_between-diagonal.ensures s on).1 (diagonal.1 y))
        ]),
      ),
    )
