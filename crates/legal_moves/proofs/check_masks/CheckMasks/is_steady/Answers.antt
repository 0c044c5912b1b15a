use Rattle.std.proofs.Common.{false, sym, ◌∙◌}
use Rattle.std.proofs.lemmas.Bool.{not-true}
use Rattle.legal_moves.proofs.Lists.{none-false}
use Rattle.legal_moves.proofs.check_masks.CheckMasks.is_steady.Goals as goal

pub returns : goal.returns
returns c = λ quiet. record {
  king_stays = c.if-m-self.false;
  free = λ pin. none-false c.contains.result _ c.contains.ensures c.if-contains.false ((c.requires.pinned c.args.m.from.index c.args.m.from.on_board).1 pin);
  no_taking = sym c.takes_en_passant.ensures ∙ not-true c.takes_en_passant.result quiet;
}
