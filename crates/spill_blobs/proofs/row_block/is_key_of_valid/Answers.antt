use Rattle.std.proofs.Common.{subst, sym, true≢false}
use Rattle.explorer_model.specs.Chess.{IsValid}
use Rattle.spill_blobs.proofs.row_block.is_key_of_valid.Goals as goal

pub returns-in-Some : goal.returns-in-Some
returns-in-Some c = (
  λ t. record { position = c.in-Some.position; valid = c.is_valid.ensures.0 t; has_key = c.in-Some.ensures.some },
  λ k. c.is_valid.ensures.1 (subst IsValid
      (c.unpacked_is_determined.ensures c.args.key.now k.position c.in-Some.position k.has_key c.in-Some.ensures.some) k.valid),
)

pub returns-in-None : goal.returns-in-None
returns-in-None c = (λ t. absurd (true≢false (sym t)), λ k. absurd (c.in-None.ensures.none (k.position, k.has_key)))
