use Rattle.std.proofs.Common.{◌+◌, List, map, sym, ap, subst, ◌∙◌, arith}
use Rattle.std.specs.Option.{option_copied}
use Rattle.explorer_model.specs.declared.fault.Stop.{Stop}
use Rattle.explorer_model.specs.declared.opening.BookCause.{BookCause}
use Rattle.explorer_model.specs.Openings.{BookLineReads}
use Rattle.explorer_model.specs.Stop.{Answers}
use Rattle.std.specs.Prelude.{Err}
use Rattle.opening_names.specs.declared.line.NamedLine.{NamedLine}
use Rattle.opening_names.specs.Held.{AreKeyed, named_line}
use Rattle.opening_names.specs.Reading.{size_left}
use Rattle.opening_names.proofs.LineLemmas.{ReadsOn, keyed-pushed, pushed, reads-all, reads-fault, reads-passed, reads-pushed}
use Rattle.opening_names.proofs.book.read_lines.Goals as goal
use Rattle.opening_names.proofs.book.read_lines.Goals.{then-not-is_passed+in-Ok+else-is_err, else-not-is_passed}

pub returns-in-Err-Fault-clause-reads : goal.returns-in-Err-Fault-clause-reads
returns-in-Err-Fault-clause-reads c =
    let l = c.loop-rest in
    let text = c.args.text.now in
    let line = c.split_line.result.0.now in
    let held = map named_line l.lines.items in
    let reads = subst (λ o. ReadsOn text l.number (option_copied o) held) c.in-Some.is l.invariant.reads in
    let A : Stop BookCause → Type 0 = λ s. Answers (Err s) (BookLineReads line) in
    rw c.in-Err-Fault.field-0-is
    (reads-fault text l.number c.in-Some.text.now line (option_copied c.split_line.result.1) held c.split_line.ensures.lines reads
    _ (sym c.is_passed.ensures ∙ c.if-not-is_passed.true) (subst A c.in-Err-Fault.field-0-is c.in-Err-Fault.ensures.reads))

pub loop-rest-preserved : goal.loop-rest-preserved
loop-rest-preserved c =
    let l = c.loop-rest in
    let text = c.args.text.now in
    let line = c.split_line.result.0.now in
    let left = option_copied c.split_line.result.1 in
    let held = map named_line l.lines.items in
    let reads = subst (λ o. ReadsOn text l.number (option_copied o) held) c.in-Some.is l.invariant.reads in
    let size = ap (λ o. size_left (option_copied o)) c.in-Some.is in
    elim c.if-not-is_passed.branch [
      | then-not-is_passed+in-Ok+else-is_err w ↦
          let more = ap (λ v. v.items) w.lines-is ∙ pushed l.lines.items w.push.new.self.items w.in-Ok.named _ w.push.ensures.items w.if-is_err.ensures.negation in
          record {
            reads = reads-pushed text l.number c.in-Some.text.now line left l.lines.items c.if-not-is_passed.lines.items w.in-Ok.named
                c.split_line.ensures.lines reads more (sym c.is_passed.ensures ∙ w.if-not-is_passed.true) w.in-Ok.ensures.reads;
            keyed = keyed-pushed l.lines.items c.if-not-is_passed.lines.items w.in-Ok.named more l.invariant.keyed w.in-Ok.ensures.keyed;
            room = omega (arith, size, c.split_line.ensures.shorter, l.invariant.room);
          }
      | else-not-is_passed w ↦
          let same = ap (λ v. v.items) w.lines-is in
          let R : List NamedLine → Type 0 = λ lines. ReadsOn text (l.number + 1) left (map named_line lines) in
          let K : List NamedLine → Type 0 = λ lines. AreKeyed lines in
          record {
            reads = subst R (sym same)
                (reads-passed text l.number c.in-Some.text.now line left held c.split_line.ensures.lines reads (sym c.is_passed.ensures ∙ w.if-not-is_passed.false));
            keyed = subst K (sym same) l.invariant.keyed;
            room = omega (arith, size, c.split_line.ensures.shorter, l.invariant.room);
          }
    ]

pub returns-clause-reads : goal.returns-clause-reads
returns-clause-reads c =
    let l = c.loop-rest in
    let text = c.args.text.now in
    let held = map named_line l.lines.items in
    reads-all text l.number held (subst (λ o. ReadsOn text l.number (option_copied o) held) c.in_default.is l.invariant.reads)
