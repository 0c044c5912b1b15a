use Rattle.std.proofs.Common.{List, IfSome, length, string_bytes, sym, ap, subst, ◌∙◌, arith}
use Rattle.host.specs.Hosts.{ADisk}
use Rattle.explorer_model.specs.declared.archive.Batch.{Batch}
use Rattle.explorer_model.specs.Journal.{IsSound}
use Rattle.manifest.specs.Manifest.{HasJournal}
use Rattle.ingest_desk.specs.Stored.{journal}
use Rattle.published_index.specs.Cover.{journal_of}
use Rattle.published_index.specs.Places.{HasDrawn}
use Rattle.explorer.specs.Lines.{ending_of}
use Rattle.explorer.specs.Serve.{listening_line}
use Rattle.explorer.specs.Serve.Serving.{lines_told, service_of}
use Rattle.explorer.proofs.ServeLemmas.{all-watching, content-of, faults-of, files-given-up, files-worked, given-up-so, gives-up-so, is-still-out, journal-named, listens-so, nameless-disk, served-so, silent-so, starves, stored-disk}
use Rattle.explorer.proofs.serve.serve_store.Goals as goal

pub returns-in_default : goal.returns-in_default
returns-in_default g c = λ given earlier input hands read same faultless.
    starves (service_of c.args.order) earlier (g.H.Host.host c.args.host.now) (g.H.Host.host c.close.new.self) given
    (g.H.Disk.Disk.disk c.into_disk.result) hands (rw c.as_str-name.ensures.value at c.close.ensures)
    (content-of g.H.Disk.Disk.disk c.into_disk.result c.args.store.manifest.disk c.into_disk.ensures ∙ same) input _ _
    (faults-of g.H.Disk.Disk.disk c.into_disk.result c.args.store.manifest.disk c.into_disk.ensures ∙ faultless ∙ hands.faultless)

pub returns-in_default-listening_line : goal.returns-in_default-listening_line
returns-in_default-listening_line g c = λ given earlier input hands read same faultless.
    starves (service_of c.args.order) earlier (g.H.Host.host c.args.host.now) (g.H.Host.host c.close-in_default-listening_line.new.self) given
    (g.H.Disk.Disk.disk c.into_disk-in_default-listening_line.result) hands (rw c.as_str-name.ensures.value at c.close-in_default-listening_line.ensures)
    (content-of g.H.Disk.Disk.disk c.into_disk-in_default-listening_line.result c.args.store.manifest.disk c.into_disk-in_default-listening_line.ensures ∙ same) input _ _
    (faults-of g.H.Disk.Disk.disk c.into_disk-in_default-listening_line.result c.args.store.manifest.disk c.into_disk-in_default-listening_line.ensures ∙ faultless ∙ hands.faultless)

pub returns-in-Err : goal.returns-in-Err
returns-in-Err g c = λ given earlier input hands read same faultless.
    starves (service_of c.args.order) earlier (g.H.Host.host c.args.host.now) (g.H.Host.host c.close-in-Err.new.self) given
    (g.H.Disk.Disk.disk c.into_disk-in-Err.result) hands (rw c.as_str-name.ensures.value at c.close-in-Err.ensures)
    (content-of g.H.Disk.Disk.disk c.into_disk-in-Err.result c.args.store.manifest.disk
    (c.into_disk-in-Err.ensures ∙ nameless-disk c.in-Err.store c.args.store c.in-Err.ensures.back) ∙ same) input _ _
    (faults-of g.H.Disk.Disk.disk c.into_disk-in-Err.result c.args.store.manifest.disk
    (c.into_disk-in-Err.ensures ∙ nameless-disk c.in-Err.store c.args.store c.in-Err.ensures.back) ∙ faultless ∙ hands.faultless)

pub serve_files-cabinet-requires-clause-opening : goal.serve_files-cabinet-requires-clause-opening
serve_files-cabinet-requires-clause-opening g c κs within =
    all-watching c.in-Ok-named.named.1.items _ _ (journal c.in-Ok-named.named.0) c.in-Ok-named.ensures.passes
    (journal-named c.in-Ok-named.named.0 c.args.store c.in-Ok-named.ensures.ingest)

pub close-requires-2 : goal.close-requires-2
close-requires-2 g c =
    rw c.as_str-name.ensures.value
    (is-still-out (ADisk (string_bytes c.args.order.store)) (g.H.Host.host c.args.host.now) (g.H.Host.host c.serve_files-cabinet.new.host)
    c.serve_files-cabinet.ensures.gives_back c.requires.out)

pub unserved_fault-requires : goal.unserved_fault-requires
unserved_fault-requires g c =
    (files-given-up (service_of c.args.order) (journal c.in-Ok-named.named.0) (journal c.serve_files-cabinet.result.0.ingest)
    c.serve_files-cabinet.result.1 c.in-GivenUp.why (g.H.Host.host c.args.host.now) (g.H.Host.host c.serve_files-cabinet.new.host)
    c.in-GivenUp.is c.serve_files-cabinet.ensures.served).placed

pub returns-in-GivenUp : goal.returns-in-GivenUp
returns-in-GivenUp g c = λ given earlier input hands read same faultless.
    let kept = c.serve_files-cabinet.ensures.kept (given-up-so c.serve_files-cabinet.result.1 c.in-GivenUp.why c.in-GivenUp.is) in
    let back = c.disk_of-disk.ensures.disk ∙ (stored-disk c.serve_files-cabinet.result.0.ingest c.in-Ok-named.named.0 kept
    ∙ stored-disk c.in-Ok-named.named.0 _ c.in-Ok-named.ensures.ingest) in
    let h = files-given-up (service_of c.args.order) (journal c.in-Ok-named.named.0) (journal c.serve_files-cabinet.result.0.ingest)
    c.serve_files-cabinet.result.1 c.in-GivenUp.why (g.H.Host.host c.args.host.now) (g.H.Host.host c.serve_files-cabinet.new.host)
    c.in-GivenUp.is c.serve_files-cabinet.ensures.served in
    gives-up-so (service_of c.args.order) earlier (g.H.Host.host c.args.host.now) (g.H.Host.host c.serve_files-cabinet.new.host)
    (g.H.Host.host c.close-2.new.self) given (g.H.Disk.Disk.disk c.disk_of-disk.result) hands (rw c.as_str-name.ensures.value at c.close-2.ensures) input
    (g.O.Sink.sink c.args.output.now) (g.O.Sink.sink c.serve_files-cabinet.new.output) (g.E.Sink.sink c.args.errors.now)
    (journal_of c.args.store.index.list) c.in-GivenUp.why c.unserved_fault.result read c.requires.sound h
    (content-of g.H.Disk.Disk.disk c.disk_of-disk.result c.args.store.manifest.disk back ∙ same)
    (faults-of g.H.Disk.Disk.disk c.disk_of-disk.result c.args.store.manifest.disk back ∙ faultless ∙ hands.faultless)
    c.unserved_fault.ensures c.serve_files-cabinet.ensures.gives_back
    (silent-so _ c.serve_files-cabinet.result.1 c.in-GivenUp.why (g.O.Sink.sink c.args.output.now) (g.O.Sink.sink c.serve_files-cabinet.new.output)
    c.in-GivenUp.is c.serve_files-cabinet.ensures.written)

pub returns-in-Worked : goal.returns-in-Worked
returns-in-Worked g c = λ given earlier input hands read same faultless.
    let w = files-worked (service_of c.args.order) (journal c.in-Ok-named.named.0) (journal c.serve_files-cabinet.result.0.ingest)
    c.serve_files-cabinet.result.1 c.in-Worked.done (g.H.Host.host c.args.host.now) (g.H.Host.host c.serve_files-cabinet.new.host)
    c.in-Worked.is c.serve_files-cabinet.ensures.served in
    served-so (service_of c.args.order) earlier (g.H.Host.host c.args.host.now) (g.H.Host.host c.serve_files-cabinet.new.host)
    (g.H.Host.host c.close-2.new.self) given (g.H.Disk.Disk.disk c.disk_of-disk.result) hands (rw c.as_str-name.ensures.value at c.close-2.ensures)
    (journal c.in-Ok-named.named.0) (journal c.serve_files-cabinet.result.0.ingest) c.in-Worked.done.first (lines_told c.in-Worked.done.lines) w
    (subst (λ (j : List Batch). IfSome given.content (HasJournal j)) (sym (journal-named c.in-Ok-named.named.0 c.args.store c.in-Ok-named.ensures.ingest)) read)
    (subst IsSound (sym (journal-named c.in-Ok-named.named.0 c.args.store c.in-Ok-named.ensures.ingest)) c.requires.sound)
    c.args.order.some_readers
    c.disk_of-disk.ensures.tells
    c.serve_files-cabinet.ensures.gives_back c.has_failed-failed.result c.has_failed-failed.ensures.yes c.has_failed-failed.ensures.no
    input (g.O.Sink.sink c.args.output.now) (g.O.Sink.sink c.serve_files-cabinet.new.output) (g.E.Sink.sink c.args.errors.now)
    (g.E.Sink.sink c.conclude.new.errors) c.in-Worked.done.listens
    (listens-so _ (listening_line (string_bytes c.args.order.address)) c.serve_files-cabinet.result.1 c.in-Worked.done
    (g.O.Sink.sink c.args.output.now) (g.O.Sink.sink c.serve_files-cabinet.new.output) c.in-Worked.is
    (c.in-Ok-listening_line.ensures ∙ ap listening_line c.as_str.ensures.value) c.serve_files-cabinet.ensures.written)
    (ending_of c.conclude.result) c.conclude.ensures

pub serve_files-cabinet-requires-clause-drawn : goal.serve_files-cabinet-requires-clause-drawn
serve_files-cabinet-requires-clause-drawn g c = λ κs within.
    subst (λ (j : List Batch). HasDrawn (length j) c.in-Ok-named.named.2)
    (sym (journal-named c.in-Ok-named.named.0 c.args.store c.in-Ok-named.ensures.ingest)) c.in-Ok-named.ensures.drawer

pub serve_files-cabinet-requires-clause-parts : goal.serve_files-cabinet-requires-clause-parts
serve_files-cabinet-requires-clause-parts g c = λ κs within.
    omega (arith, c.in-Ok.ensures.few, c.in-Ok-named.ensures.drawer.parts)
