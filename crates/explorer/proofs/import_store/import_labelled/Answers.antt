use Rattle.std.proofs.Common.{⊎_elim, inr, refl, sym, ap, subst, string_bytes}
use Rattle.explorer.specs.declared.fault.Fault.{Fault}
use Rattle.explorer.specs.ImportStore.{ImportsLabelled}
use Rattle.explorer.specs.Lines.{Ending, Stopped, ending_of}
use Rattle.explorer.specs.Opened.{NotOpened}
use Rattle.explorer.specs.World.{World, world}
use Rattle.explorer.proofs.ImportEndLemmas.{imports_by, imports_into, imports_to, in_vain, not_opened, only_host, untold, uses_both}
use Rattle.explorer.proofs.StoreLemmas.{uses}
use Rattle.explorer.proofs.import_store.import_labelled.Goals as goal

pub returns-in-Err : goal.returns-in-Err
returns-in-Err g c = λ input.
    let hands = rw c.as_str.ensures.value at c.in-Ok.ensures.hands in
    let takes = rw c.as_str-in-Err.ensures.value at c.close.ensures in
    let before : World = world input (g.O.Sink.sink c.args.output.now) (g.E.Sink.sink c.args.errors.now) (g.H.Host.host c.args.host.now) in
    let after : World = world input (g.O.Sink.sink c.args.output.now) (g.E.Sink.sink c.args.errors.now) (g.H.Host.host c.close.new.self) in
    subst (λ (f : Fault). ImportsLabelled (string_bytes c.args.order.store) (string_bytes c.args.order.file) c.args.label before after (Stopped f)) (sym c.fault_of_opening.ensures)
    (not_opened c.in-Err.back.fault (string_bytes c.args.order.store) (string_bytes c.args.order.file) c.args.label before after
    (uses (string_bytes c.args.order.store) (NotOpened c.in-Err.back.fault) _ _ _ _ _ c.open_store.ensures.sized hands c.in-Err.ensures.refused takes) refl)

pub returns-in_default-file : goal.returns-in_default-file
returns-in_default-file g c = λ input.
    let hands = rw c.as_str.ensures.value at c.in-Ok.ensures.hands in
    let refuses = rw c.as_str-2.ensures.value at c.in_default-file.ensures.refuses in
    let takes = rw c.as_str-in_default-file.ensures.value at c.close-in_default-file.ensures in
    inr (
      refl,
      record {
        disk = _;
        opened = _;
        hands = hands;
        journal = _;
        read = c.in-Ok-open_store.ensures.opened.read;
        sound = c.in-Ok-open_store.ensures.opened.sound;
        refused = _;
        refuses = refuses;
        disk_after = _;
        unchanged = record {
          kept = rw c.into_disk.ensures c.in-Ok-open_store.ensures.opened.kept;
          no_fault = rw c.into_disk.ensures c.in-Ok-open_store.ensures.opened.no_fault;
        };
        takes = takes;
      },
      refl,
    )

pub returns-in-Some : goal.returns-in-Some
returns-in-Some g c = λ input.
    let store = string_bytes c.args.order.store in
    let file = string_bytes c.args.order.file in
    let hands = rw c.as_str.ensures.value at c.in-Ok.ensures.hands in
    let hands_file = rw c.as_str-2.ensures.value at c.in-Ok-file.ensures.hands in
    let takes_file = rw c.as_str-3.ensures.value at c.close_file.ensures in
    let takes = rw c.as_str-4.ensures.value at c.close-2.ensures in
    let before : World = world input (g.O.Sink.sink c.args.output.now) (g.E.Sink.sink c.args.errors.now) (g.H.Host.host c.args.host.now) in
    let after : World = world input (g.O.Sink.sink c.tell.new.output) (g.E.Sink.sink c.tell.new.errors) (g.H.Host.host c.close-2.new.self) in
    let opened = c.in-Ok-open_store.ensures.opened in
    let came = rw c.in-Some.is at c.import_in-disk.ensures in
    let uses = uses_both store file _ _ _ _ _ _ _ _ _ c.open_store.ensures.sized hands hands_file takes_file takes in
    ⊎_elim (λ lacks. subst (λ (e : Ending). ImportsLabelled store file c.args.label before after e) (sym (ap ending_of lacks.0))
    (untold store file c.args.label before after c.in-Some.came.ending (imports_into store file c.args.label before.host after.host _ _ _ _ _ _ c.in-Some.came uses opened came)
    (only_host before after _ _ _ refl lacks.1 lacks.2)))
    (λ told. imports_by store file c.args.label before after c.in-Some.came.ending (ending_of c.tell.result)
    (imports_to store file c.args.label before after _ _ _ _ _ _ c.in-Some.came (ending_of c.tell.result) uses opened came told refl) told.outcome)
    c.tell.ensures

pub returns : goal.returns
returns g c = λ input.
    let store = string_bytes c.args.order.store in
    let file = string_bytes c.args.order.file in
    let hands = rw c.as_str.ensures.value at c.in-Ok.ensures.hands in
    let hands_file = rw c.as_str-2.ensures.value at c.in-Ok-file.ensures.hands in
    let takes_file = rw c.as_str-3.ensures.value at c.close_file.ensures in
    let takes = rw c.as_str-4.ensures.value at c.close-2.ensures in
    let before : World = world input (g.O.Sink.sink c.args.output.now) (g.E.Sink.sink c.args.errors.now) (g.H.Host.host c.args.host.now) in
    let after : World = world input (g.O.Sink.sink c.args.output.now) (g.E.Sink.sink c.args.errors.now) (g.H.Host.host c.close-2.new.self) in
    let came = rw c.in-None.is at c.import_in-disk.ensures in
    let uses = uses_both store file _ _ _ _ _ _ _ _ _ c.open_store.ensures.sized hands hands_file takes_file takes in
    let opened = c.in-Ok-open_store.ensures.opened in
    in_vain store file c.args.label _ _ _ _ before after uses
    (record { kept = rw came.0 opened.kept; no_fault = rw came.0 opened.no_fault })
    came.1 refl
