use Rattle.std.proofs.Common.{◌≡◌, length, sym, ◌∙◌, arith, true≢false}
use Rattle.spill_blobs.proofs.ListLemmas.{block-is, block-none, count-none, taking-more}
use Rattle.spill_blobs.proofs.lists.entries_of.Goals as goal

pub returns-then-count-gt4-clause-none : goal.returns-then-count-gt4-clause-none
returns-then-count-gt4-clause-none c =
    count-none c.args.block.now c.take_byte-count.result.1.now c.take_byte-count.result.0 c.take_byte-count.ensures.is c.if-count-gt4.true

pub loop-rest-preserved : goal.loop-rest-preserved
loop-rest-preserved c =
    let l = c.loop-rest in
    taking-more c.take_byte-count.result.1.now l.rest.now c.take_entry.result.1.now c.take_byte-count.result.0 l.entries.items _ c.take_entry.result.0 l.invariant
    (omega (arith, c.loop-rest-test.true)) c.take_entry.ensures.is c.take_entry.ensures.fits c.take_entry.ensures.left c.push.ensures.items

pub returns-then-are_zeros-clause-some : goal.returns-then-are_zeros-clause-some
returns-then-are_zeros-clause-some c =
    let l = c.loop-rest in
    let size : length l.entries.items ≡ c.take_byte-count.result.0 = omega (arith, c.loop-rest-test.false, l.invariant.few) in (
      record { few = omega (arith, size, c.if-count-gt4.false); fit = l.invariant.fit },
      block-is c.args.block.now c.take_byte-count.result.1.now l.rest.now c.take_byte-count.result.0 l.entries.items c.take_byte-count.ensures.is l.invariant.bytes size
          l.invariant.left (c.are_zeros.ensures.0 c.if-are_zeros.true),
    )

pub returns-else-are_zeros-clause-none : goal.returns-else-are_zeros-clause-none
returns-else-are_zeros-clause-none c =
    let l = c.loop-rest in
    let size : length l.entries.items ≡ c.take_byte-count.result.0 = omega (arith, c.loop-rest-test.false, l.invariant.few) in
    block-none c.args.block.now c.take_byte-count.result.1.now l.rest.now c.take_byte-count.result.0 l.entries.items c.take_byte-count.ensures.is l.invariant.bytes size
    l.invariant.left (λ zeros. true≢false (sym (c.are_zeros.ensures.1 zeros) ∙ c.if-are_zeros.false))
