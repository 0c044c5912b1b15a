use Rattle.std.proofs.Common.{refl, arith}
use Rattle.spill_blobs.proofs.BlockLemmas.{broken-key, broken-lists, row-is}
use Rattle.spill_blobs.proofs.row_block.row_of.Goals as goal

pub returns-in_err-row_key-clause-none : goal.returns-in_err-row_key-clause-none
returns-in_err-row_key-clause-none c = rw c.from_residual.ensures (broken-key c.args.block.now c.in_err-row_key.ensures.none)

pub returns-in_err-top-clause-none : goal.returns-in_err-top-clause-none
returns-in_err-top-clause-none c =
    let key = c.in_ok-row_key.ensures.some in
    rw c.from_residual-in_err-top.ensures
    (broken-lists c.args.block.now c.in_ok-row_key.rest.now c.take_u32-white.result.1.now c.take_u32-draws.result.1.now c.take_u32-black.result.1.now
    c.take_u64-ratings.result.1.now c.in_ok-row_key.row_key c.take_u32-white.result.0 c.take_u32-draws.result.0 c.take_u32-black.result.0
    c.take_u64-ratings.result.0 key.0 key.2 c.take_u32-white.ensures.is c.take_u32-draws.ensures.is c.take_u32-black.ensures.is c.take_u64-ratings.ensures.is
    c.in_err-top.ensures.none)

pub returns-clause-some : goal.returns-clause-some
returns-clause-some c =
    let key = c.in_ok-row_key.ensures.some in
    let lists = c.in_ok-top.ensures.some in
    row-is c.args.block.now c.in_ok-row_key.rest.now c.take_u32-white.result.1.now c.take_u32-draws.result.1.now c.take_u32-black.result.1.now
    c.take_u64-ratings.result.1.now c.in_ok-row_key.row_key c.take_u32-white.result.0 c.take_u32-draws.result.0 c.take_u32-black.result.0
    c.take_u64-ratings.result.0 key.0 key.2 c.take_u32-white.ensures.is c.take_u32-draws.ensures.is c.take_u32-black.ensures.is c.take_u64-ratings.ensures.is _
    key.1 refl refl refl refl refl (omega arith) (omega arith) (omega arith) (omega arith) lists.0 lists.1 lists.2
