use Rattle.std.proofs.Common.{◌≡◌, ◌<◌, length, arith}
use Rattle.std.proofs.lemmas.Bool.Decides.{nat_tests}
use Rattle.explorer_model.specs.StoreFile.{texts_in}
use Rattle.manifest.proofs.ReadingLemmas.{goes_on, stops, ends-badly, ends_well}
use Rattle.manifest.proofs.decoding.texts_of.Goals as goal

pub returns-in_default : goal.returns-in_default
returns-in_default c =
    stops c.loop.texts.items c.args.count c.loop.counter c.loop.rest.now (texts_in c.args.count c.args.bytes.now) c.loop.invariant
    c.loop-test.true (rw c.in_default.is at c.in_ok-text.ensures)

pub loop-preserved : goal.loop-preserved
loop-preserved c =
    rw c.in_ok-push.ensures.items
    (goes_on c.loop.texts.items c.args.count c.loop.counter c.loop.rest.now (texts_in c.args.count c.args.bytes.now) c.loop.invariant
    c.in-Some.text c.in-Some.behind.now c.loop-test.true (rw c.in-Some.is at c.in_ok-text.ensures))

pub returns-then-not-is_empty : goal.returns-then-not-is_empty
returns-then-not-is_empty c =
    let some : 0 < length c.loop.rest.now = grind (arith, nat_tests) in
    ends-badly c.loop.texts.items c.args.count c.loop.counter c.loop.rest.now (texts_in c.args.count c.args.bytes.now) c.loop.invariant
    c.loop-test.false some

pub returns : goal.returns
returns c =
    let none : length c.loop.rest.now ≡ 0 = grind (arith, nat_tests) in
    rw c.from_vec.ensures
    (ends_well c.loop.texts.items c.args.count c.loop.counter c.loop.rest.now (texts_in c.args.count c.args.bytes.now) c.loop.invariant
    c.loop-test.false none)
