use Rattle.std.proofs.Common.{◌∷◌, refl, sym, ap, ◌∙◌, arith, true≢false}
use Rattle.spill_blobs.proofs.BlockLemmas.{key-long, no-key, no-move, no-speed, row_key-is}
use Rattle.spill_blobs.proofs.row_block.take_row_key.Goals as goal

pub returns-then-not-is_key_of_valid-clause-none : goal.returns-then-not-is_key_of_valid-clause-none
returns-then-not-is_key_of_valid-clause-none c =
    no-key c.args.bytes.now c.take_key.result.0 c.take_key.result.1.now (key-long c.args.bytes.now _ _ c.take_key.ensures.is c.take_key.ensures.left)
    c.take_key.ensures.is
    (λ valid. true≢false (sym (c.is_key_of_valid.ensures.1 valid) ∙ c.if-not-is_key_of_valid.true))

pub returns-in_err-next-clause-none : goal.returns-in_err-next-clause-none
returns-in_err-next-clause-none c =
    rw c.from_residual.ensures
    (no-move c.args.bytes.now c.take_key.result.0 c.take_key.result.1.now (key-long c.args.bytes.now _ _ c.take_key.ensures.is c.take_key.ensures.left)
    c.take_key.ensures.is c.take_byte-from.result.0 c.take_byte-to.result.0
    c.take_byte-promotion.result.0 c.take_byte-promotion.result.1.now
    (c.take_byte-from.ensures.is ∙ ap (λ l. c.take_byte-from.result.0 ∷ l) (c.take_byte-to.ensures.is ∙ ap (λ l. c.take_byte-to.result.0 ∷ l) c.take_byte-promotion.ensures.is))
    c.in_err-next.ensures.none)

pub returns-in_err-speed-clause-none : goal.returns-in_err-speed-clause-none
returns-in_err-speed-clause-none c =
    rw c.from_residual-in_err-speed.ensures
    (no-speed c.args.bytes.now c.take_key.result.0 c.take_key.result.1.now (key-long c.args.bytes.now _ _ c.take_key.ensures.is c.take_key.ensures.left)
    c.take_key.ensures.is c.take_byte-from.result.0 c.take_byte-to.result.0
    c.take_byte-promotion.result.0 c.take_byte-promotion.result.1.now
    (c.take_byte-from.ensures.is ∙ ap (λ l. c.take_byte-from.result.0 ∷ l) (c.take_byte-to.ensures.is ∙ ap (λ l. c.take_byte-to.result.0 ∷ l) c.take_byte-promotion.ensures.is))
    c.take_u16-year.result.0 c.take_byte-month.result.0 c.take_byte-place.result.0 c.take_u16-year.result.1.now c.take_byte-place.result.1.now c.take_u16-year.ensures.is
    (c.take_byte-month.ensures.is ∙ ap (λ l. c.take_byte-month.result.0 ∷ l) c.take_byte-place.ensures.is) c.in_err-speed.ensures.none)

pub returns-clause-some : goal.returns-clause-some
returns-clause-some c =
    let long = key-long c.args.bytes.now _ _ c.take_key.ensures.is c.take_key.ensures.left in (
      record { key = long; next = c.in_ok-next.ensures.some.0; year = omega arith; group = omega arith },
      c.is_key_of_valid.ensures.0 c.if-not-is_key_of_valid.false,
      row_key-is c.args.bytes.now c.take_key.result.0 c.take_key.result.1.now long c.take_key.ensures.is c.take_byte-from.result.0 c.take_byte-to.result.0
          c.take_byte-promotion.result.0 c.take_byte-promotion.result.1.now
          (c.take_byte-from.ensures.is ∙ ap (λ l. c.take_byte-from.result.0 ∷ l) (c.take_byte-to.ensures.is ∙ ap (λ l. c.take_byte-to.result.0 ∷ l) c.take_byte-promotion.ensures.is))
          c.take_u16-year.result.0 c.take_byte-month.result.0 c.take_byte-place.result.0 c.take_u16-year.result.1.now c.take_byte-place.result.1.now c.take_u16-year.ensures.is
          (c.take_byte-month.ensures.is ∙ ap (λ l. c.take_byte-month.result.0 ∷ l) c.take_byte-place.ensures.is) _ c.take_u16-value.result.0 c.take_u16-value.result.1.now
          refl c.in_ok-next.ensures.some.1 refl refl c.in_ok-speed.ensures.some refl c.take_u16-value.ensures.is,
      omega arith,
    )
