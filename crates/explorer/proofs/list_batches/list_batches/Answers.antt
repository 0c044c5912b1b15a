use Rattle.std.proofs.Common.{ℕ, List, refl, sym, subst, string_bytes}
use Rattle.outside.specs.Stream.{FailsToTake, Takes}
use Rattle.explorer.specs.declared.fault.Fault.{Fault}
use Rattle.explorer.specs.Lines.{Stopped}
use Rattle.explorer.specs.ListBatches.{ListsBy}
use Rattle.explorer.specs.World.{world}
use Rattle.explorer.proofs.ListLemmas.{listed, unlisted}
use Rattle.explorer.proofs.list_batches.list_batches.Goals as goal

pub returns-in_default : goal.returns-in_default
returns-in_default g c = λ input errors.
    let refuses = rw c.as_str.ensures.value at c.in_default.ensures.refuses in
    (refl, refuses, refl)

pub returns-in-Ok-write_lines : goal.returns-in-Ok-write_lines
returns-in-Ok-write_lines g c = λ input errors.
    let old = g.O.Sink.sink c.args.output.now in
    let new = g.O.Sink.sink c.write_lines.new.sink in
    let hands = rw c.as_str.ensures.value at c.in-Ok.ensures.hands in
    let takes = rw c.as_str-2.ensures.value at c.close.ensures in
    let lists = rw c.in-Ok-lines.is at c.list_at-disk.ensures.lists in
    let wrote = rw c.as_slice.ensures.value at c.in-Ok-write_lines.ensures.takes in
    listed (string_bytes c.args.store) input old errors (g.H.Host.host c.args.host.now) (g.H.Host.host c.disk.new.self) (g.H.Host.host c.close.new.self) _ _ c.list_at-disk.ensures.sized hands takes
    (λ (lines : List ℕ). Takes lines old new) new c.in-Ok-lines.lines lists wrote

pub returns-in-Ok-lines : goal.returns-in-Ok-lines
returns-in-Ok-lines g c = λ input errors.
    let old = g.O.Sink.sink c.args.output.now in
    let new = g.O.Sink.sink c.write_lines.new.sink in
    let hands = rw c.as_str.ensures.value at c.in-Ok.ensures.hands in
    let takes = rw c.as_str-2.ensures.value at c.close.ensures in
    let lists = rw c.in-Ok-lines.is at c.list_at-disk.ensures.lists in
    let wrote = rw c.as_slice.ensures.value at c.in-Err-write_lines.ensures.fails in
    listed (string_bytes c.args.store) input old errors (g.H.Host.host c.args.host.now) (g.H.Host.host c.disk.new.self) (g.H.Host.host c.close.new.self) _ _ c.list_at-disk.ensures.sized hands takes
    (λ (lines : List ℕ). FailsToTake lines old new) new c.in-Ok-lines.lines lists wrote

pub returns : goal.returns
returns g c = λ input errors.
    let store = string_bytes c.args.store in
    let old = g.O.Sink.sink c.args.output.now in
    let before = g.H.Host.host c.args.host.now in
    let after = g.H.Host.host c.close.new.self in
    let hands = rw c.as_str.ensures.value at c.in-Ok.ensures.hands in
    let takes = rw c.as_str-2.ensures.value at c.close.ensures in
    let lists = rw c.in-Err.is at c.list_at-disk.ensures.lists in
    subst (λ (f : Fault). ListsBy store (world input old errors before) (world input old errors after) (Stopped f)) (sym c.fault_of_opening.ensures)
    (unlisted store input old errors before (g.H.Host.host c.disk.new.self) after _ _ c.list_at-disk.ensures.sized hands takes c.in-Err.fault lists)
