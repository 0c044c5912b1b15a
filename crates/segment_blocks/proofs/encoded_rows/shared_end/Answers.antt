use Rattle.std.proofs.Common.{◌≡◌, take, sym, arith}
use Rattle.std.proofs.lemmas.List.{take_more_same}
use Rattle.segment_blocks.proofs.PrefixLemmas.{common-is, common-all}
use Rattle.segment_blocks.proofs.encoded_rows.shared_end.Goals as goal

pub returns-then-a-b : goal.returns-then-a-b
returns-then-a-b c =
    sym (common-is 32 c.args.a.now c.args.b.now (omega (arith, c.told-a)) (omega (arith, c.told-b)) c.requires c.if-a-b.true)

pub returns-then-a-b-2 : goal.returns-then-a-b-2
returns-then-a-b-2 c =
    let a = c.args.a.now in
    let b = c.args.b.now in
    let same : take 33 a ≡ take 33 b = take_more_same a b 32 0 (omega (arith, c.told-a)) (omega (arith, c.told-b)) c.requires c.if-a-b.false in
    sym (common-is 33 a b (omega (arith, c.told-a)) (omega (arith, c.told-b)) same c.if-a-b-2.true)

pub returns : goal.returns
returns c =
    let a = c.args.a.now in
    let b = c.args.b.now in
    let same : take 33 a ≡ take 33 b = take_more_same a b 32 0 (omega (arith, c.told-a)) (omega (arith, c.told-b)) c.requires c.if-a-b.false in
    let all : take 34 a ≡ take 34 b = take_more_same a b 33 0 (omega (arith, c.told-a)) (omega (arith, c.told-b)) same c.if-a-b-2.false in
    sym (common-all 34 a b c.told-a c.told-b all)
