use Rattle.std.proofs.Common.{◌≡◌, arith, sym, subst, length, Err, ◌+◌, refl}
use Rattle.std.specs.Option.{ok_or}
use Rattle.explorer_model.specs.declared.fault.SanFault.TheVariants.{NoSuchMove, Ambiguous}
use Rattle.explorer_model.specs.San.{SanReads}
use Rattle.san_codec.proofs.Reading.{Narrows, narrows-skip, narrows-take, narrows-clash, narrows-end, reads}
use Rattle.san_codec.proofs.Rivals.{not_false}
use Rattle.san_codec.proofs.reader.read.Goals as goal
use Rattle.san_codec.proofs.reader.read.Goals.{then-agrees+else-is_some, else-agrees}

pub returns-then-is_some : goal.returns-then-is_some
returns-then-is_some c =
    reads c.args.position.now c.args.text.now c.in-Some.form (Err Ambiguous) c.in-Some.ensures
    (narrows-clash c.args.position.now c.in-Some.form c.args.legal.now c.loop-m.m-index c.loop-m.found c.m-item.result c.loop-m-test.true c.m-item.is
    (c.if-agrees.ensures.0 refl) (sym c.if-is_some.ensures) c.loop-m.invariant c.requires.each c.requires.once)

pub loop-m-preserved : goal.loop-m-preserved
loop-m-preserved c = elim c.if-agrees.branch [
  | then-agrees+else-is_some w ↦
      subst (λ o. Narrows c.args.position.now c.in-Some.form c.args.legal.now (c.loop-m.m-index + 1) o) (sym w.found-is)
      (narrows-take c.args.position.now c.in-Some.form c.args.legal.now c.loop-m.m-index c.loop-m.found c.m-item.result c.loop-m-test.true c.m-item.is
      (w.if-agrees.ensures.0 refl) (sym w.if-is_some.ensures) c.loop-m.invariant)
  | else-agrees w ↦
      subst (λ o. Narrows c.args.position.now c.in-Some.form c.args.legal.now (c.loop-m.m-index + 1) o) (sym w.found-is)
      (narrows-skip c.args.position.now c.in-Some.form c.args.legal.now c.loop-m.m-index c.loop-m.found c.m-item.result c.loop-m-test.true c.m-item.is
      (λ agrees. not_false (w.if-agrees.ensures.1 agrees)) c.loop-m.invariant)
]

pub returns : goal.returns
returns c =
    let last : c.loop-m.m-index ≡ length c.args.legal.now = omega (arith, c.loop-m-test.false, c.loop-m.auto.m-index-end) in
    subst (λ r. SanReads c.args.position.now c.args.text.now r) (sym c.ok_or.ensures.value)
    (reads c.args.position.now c.args.text.now c.in-Some.form (ok_or c.loop-m.found NoSuchMove) c.in-Some.ensures
    (narrows-end c.args.position.now c.in-Some.form c.args.legal.now c.loop-m.found (subst (λ n. Narrows c.args.position.now c.in-Some.form c.args.legal.now n c.loop-m.found) last c.loop-m.invariant) c.requires.each))
