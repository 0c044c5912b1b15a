use Rattle.std.proofs.Common.{ℕ, List, refl, sym, subst, string_bytes}
use Rattle.outside.specs.Stream.{FailsToTake, Takes}
use Rattle.explorer.specs.declared.fault.Fault.{Fault}
use Rattle.explorer.specs.Lines.{Stopped}
use Rattle.explorer.specs.Query.Store.{AsksBy}
use Rattle.explorer.specs.World.{world}
use Rattle.explorer.proofs.QueryLemmas.{answered, unanswered}
use Rattle.explorer.proofs.query.store.query_by.Goals as goal

pub returns-in_default : goal.returns-in_default
returns-in_default g c = λ input errors.
    let refuses = rw c.as_str.ensures.value at c.in_default.ensures.refuses in
    (refl, refuses, refl)

pub returns-in-Ok-write : goal.returns-in-Ok-write
returns-in-Ok-write g c = λ input errors.
    let store = string_bytes c.args.store in
    let old = g.O.Sink.sink c.args.output.now in
    let before = g.H.Host.host c.args.host.now in
    let middle = g.H.Host.host c.disk.new.self in
    let after = g.H.Host.host c.close.new.self in
    let hands = rw c.as_str.ensures.value at c.in-Ok.ensures.hands in
    let takes = rw c.as_str-2.ensures.value at c.close.ensures in
    let new = g.O.Sink.sink c.write.new.self in
    let looks = rw c.in-Ok-line.is at c.look_at-disk.ensures.looks in
    let wrote = rw c.as_slice.ensures.value at c.in-Ok-write.ensures.takes in
    answered store c.args.query.now c.args.book.now input old errors before middle after _ _ c.look_at-disk.ensures.sized hands takes (λ (line : List ℕ). Takes line old new) new c.in-Ok-line.line looks wrote

pub returns-in-Ok-line : goal.returns-in-Ok-line
returns-in-Ok-line g c = λ input errors.
    let store = string_bytes c.args.store in
    let old = g.O.Sink.sink c.args.output.now in
    let before = g.H.Host.host c.args.host.now in
    let middle = g.H.Host.host c.disk.new.self in
    let after = g.H.Host.host c.close.new.self in
    let hands = rw c.as_str.ensures.value at c.in-Ok.ensures.hands in
    let takes = rw c.as_str-2.ensures.value at c.close.ensures in
    let new = g.O.Sink.sink c.write.new.self in
    let looks = rw c.in-Ok-line.is at c.look_at-disk.ensures.looks in
    let wrote = rw c.as_slice.ensures.value at c.in-Err-write.ensures.fails in
    answered store c.args.query.now c.args.book.now input old errors before middle after _ _ c.look_at-disk.ensures.sized hands takes (λ (line : List ℕ). FailsToTake line old new) new c.in-Ok-line.line looks wrote

pub returns : goal.returns
returns g c = λ input errors.
    let store = string_bytes c.args.store in
    let old = g.O.Sink.sink c.args.output.now in
    let before = g.H.Host.host c.args.host.now in
    let middle = g.H.Host.host c.disk.new.self in
    let after = g.H.Host.host c.close.new.self in
    let hands = rw c.as_str.ensures.value at c.in-Ok.ensures.hands in
    let takes = rw c.as_str-2.ensures.value at c.close.ensures in
    let looks = rw c.in-Err.is at c.look_at-disk.ensures.looks in
    subst (λ (f : Fault). AsksBy store c.args.query.now c.args.book.now (world input old errors before) (world input old errors after) (Stopped f)) (sym c.fault_of_opening.ensures)
    (unanswered store c.args.query.now c.args.book.now input old errors before middle after _ _ c.look_at-disk.ensures.sized hands takes c.in-Err.fault looks)
