use Rattle.std.proofs.Common.{◌≡◌, ◌<◌, length, arith}
use Rattle.std.proofs.lemmas.Bool.Decides.{nat_tests}
use Rattle.manifest.proofs.ReadingLemmas.{no-label-at-all, label-cut-off-in, no-label-in, label-found-in}
use Rattle.manifest.proofs.decoding.label_of.Goals as goal

pub returns-then-is_empty : goal.returns-then-is_empty
returns-then-is_empty c =
    let none : length c.args.bytes.now ≡ 0 = grind (arith, nat_tests) in
    no-label-at-all c.args.bytes.now none

pub returns-then-rest-count : goal.returns-then-rest-count
returns-then-rest-count c =
    let some : 0 < length c.args.bytes.now = grind (arith, nat_tests) in
    label-cut-off-in c.args.bytes.now some c.if-rest-count.true

pub returns-in-Some : goal.returns-in-Some
returns-in-Some c =
    let some : 0 < length c.args.bytes.now = grind (arith, nat_tests) in
    label-found-in c.args.bytes.now c.split_at.result.0.now c.split_at.result.1.now c.in-Some.label some c.if-rest-count.false
    c.split_at.ensures.front c.split_at.ensures.back c.in-Some.ensures.some.1 c.in-Some.ensures.some.0

pub returns-in-None : goal.returns-in-None
returns-in-None c =
    let some : 0 < length c.args.bytes.now = grind (arith, nat_tests) in
    no-label-in c.args.bytes.now c.split_at.result.0.now some c.if-rest-count.false
    c.split_at.ensures.front c.in-None.ensures.none
