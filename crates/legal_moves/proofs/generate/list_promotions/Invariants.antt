use Rattle.std.proofs.Common.{◌+◌, ◌*◌}
use Rattle.legal_moves.specs.Listing.{ListsBelow}
use Rattle.legal_moves.proofs.generate.list_promotions.Given as goal

abbrev pub invariant-loop-promotion : goal.invariant-loop-promotion
invariant-loop-promotion l = ListsBelow l.position (512 * l.from.index + 8 * l.to.index + 1 + l.promotion-index) l.moves.items
