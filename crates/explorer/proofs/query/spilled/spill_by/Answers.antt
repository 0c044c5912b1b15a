use Rattle.std.proofs.Common.{ℕ, List, inl, inr, refl, sym, subst, string_bytes}
use Rattle.outside.specs.Stream.{FailsToTake, Takes}
use Rattle.explorer.specs.declared.fault.Fault.{Fault}
use Rattle.explorer.specs.Lines.{Stopped}
use Rattle.explorer.specs.Query.Spilled.{SpillsBy}
use Rattle.explorer.specs.World.{world}
use Rattle.explorer.proofs.QueryLemmas.Spilled.{answered_spilled, just_none, out_over_no_port, out_over_port, out_over_port_back, unanswered_spilled}
use Rattle.explorer.proofs.query.spilled.spill_by.Goals as goal

pub returns-in_default : goal.returns-in_default
returns-in_default g c = λ input errors.
    let refuses = rw c.as_str.ensures.value at c.in_default.ensures.refuses in
    (inl (refl, refuses), refl)

pub returns-in_default-port : goal.returns-in_default-port
returns-in_default-port g c = λ input errors.
    let hands = rw c.as_str.ensures.value at c.in-Ok.ensures.hands in
    let refuses = rw c.as_str-2.ensures.value at c.in_default-port.ensures.refuses in
    let takes = rw c.as_str-in_default-port.ensures.value at c.close.ensures in (
      inr (
        refl,
        record {
          disk = _;
          opened = _;
          hands = hands;
          refused = _;
          refuses = refuses;
          takes = takes;
        },
      ),
      refl,
    )

pub returns-in-Ok-write : goal.returns-in-Ok-write
returns-in-Ok-write g c = λ input errors.
    let store = string_bytes c.args.order.store in
    let name = string_bytes c.args.order.spill in
    let old = g.O.Sink.sink c.args.output.now in
    let hands_disk = rw c.as_str.ensures.value at c.in-Ok.ensures.hands in
    let hands_port = rw c.as_str-2.ensures.value at c.in-Ok-port.ensures.hands in
    let takes_port = rw c.as_str-3.ensures.value at c.close_port.ensures in
    let takes_disk = rw c.as_str-4.ensures.value at c.close-2.ensures in
    let new = g.O.Sink.sink c.write.new.self in
    let spills = rw c.in-Ok-line.is at c.spill_at-disk.ensures.spills in
    let wrote = rw c.as_slice.ensures.value at c.in-Ok-write.ensures.takes in
    answered_spilled store name c.args.query.now c.args.book.now input old errors _ _ _ _ _ _ _ _ _ c.spill_at-disk.ensures.sized hands_disk hands_port takes_port takes_disk
    (λ (line : List ℕ). Takes line old new) new c.in-Ok-line.line spills wrote

pub returns-in-Ok-line : goal.returns-in-Ok-line
returns-in-Ok-line g c = λ input errors.
    let store = string_bytes c.args.order.store in
    let name = string_bytes c.args.order.spill in
    let old = g.O.Sink.sink c.args.output.now in
    let hands_disk = rw c.as_str.ensures.value at c.in-Ok.ensures.hands in
    let hands_port = rw c.as_str-2.ensures.value at c.in-Ok-port.ensures.hands in
    let takes_port = rw c.as_str-3.ensures.value at c.close_port.ensures in
    let takes_disk = rw c.as_str-4.ensures.value at c.close-2.ensures in
    let new = g.O.Sink.sink c.write.new.self in
    let spills = rw c.in-Ok-line.is at c.spill_at-disk.ensures.spills in
    let wrote = rw c.as_slice.ensures.value at c.in-Err-write.ensures.fails in
    answered_spilled store name c.args.query.now c.args.book.now input old errors _ _ _ _ _ _ _ _ _ c.spill_at-disk.ensures.sized hands_disk hands_port takes_port takes_disk
    (λ (line : List ℕ). FailsToTake line old new) new c.in-Ok-line.line spills wrote

pub returns : goal.returns
returns g c = λ input errors.
    let store = string_bytes c.args.order.store in
    let name = string_bytes c.args.order.spill in
    let old = g.O.Sink.sink c.args.output.now in
    let before = g.H.Host.host c.args.host.now in
    let after = g.H.Host.host c.close-2.new.self in
    let hands_disk = rw c.as_str.ensures.value at c.in-Ok.ensures.hands in
    let hands_port = rw c.as_str-2.ensures.value at c.in-Ok-port.ensures.hands in
    let takes_port = rw c.as_str-3.ensures.value at c.close_port.ensures in
    let takes_disk = rw c.as_str-4.ensures.value at c.close-2.ensures in
    let spills = rw c.in-Err.is at c.spill_at-disk.ensures.spills in
    subst (λ (f : Fault). SpillsBy store name c.args.query.now c.args.book.now (world input old errors before) (world input old errors after) (Stopped f)) (sym c.fault_of_spilling.ensures)
    (unanswered_spilled store name c.args.query.now c.args.book.now input old errors before _ _ _ after _ _ _ _ c.spill_at-disk.ensures.sized hands_disk hands_port takes_port takes_disk c.in-Err.fault spills)
