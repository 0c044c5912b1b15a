use Rattle.std.proofs.Common.{◌≡◌, List, ℕ, IfOk, map, length, string_bytes, refl, sym, ap, subst, ◌∙◌, arith}
use Rattle.std.proofs.lemmas.List.{length-map}
use Rattle.std.specs.List.{AllByRecursion}
use Rattle.ingest_desk.specs.Stored.{Stored, journal}
use Rattle.explorer.specs.declared.serve.workers.Worker.{Worker}
use Rattle.explorer.specs.declared.serve.cabinet.Cabinet.{Cabinet}
use Rattle.explorer.specs.Serve.Serving.{AreOut, WorksOver, lines_told}
use Rattle.explorer.specs.Serve.Workers.{GivenBack, IsTold, fault_in, lines_in}
use Rattle.explorer.proofs.ServeLemmas.Drawers.{have-drawers, returned-drawn, returned-parts}
use Rattle.explorer.proofs.ServeLemmas.Served.{Returned, can-return, ok-lines, returned-workers, works-over}
use Rattle.explorer.proofs.serve.serving.serve_doors.Goals as goal
use Rattle.explorer.proofs.serve.serving.serve_doors.Goals.{After-work_all-ingest}
use Rattle.explorer.proofs.serve.serving.serve_doors.Given.{Over}

returned : (g : Over) (c : After-work_all-ingest g)
    → Returned c.args.order.now.book g.H.File.Source.source g.H.Door.Door.door (map string_bytes c.args.order.now.files.items) (g.H.Host.host c.args.host.now)
    (journal c.args.cabinet.ingest) (map g.H.Door.Door.door c.args.doors.items) c.work_all-ingest.result.1.items
returned g c = returned-workers c.args.order.now.book g.H.File.Source.source g.H.Door.Door.door (map string_bytes c.args.order.now.files.items) (g.H.Host.host c.args.host.now)
    (journal c.args.cabinet.ingest) (map g.H.Door.Door.door c.args.doors.items) c.args.list.items c.with_readers-list.result.items c.work_all-ingest.result.1.items
    c.requires.files (c.with_readers-list.ensures.readers (journal c.args.cabinet.ingest) c.requires.opening) c.work_all-ingest.ensures

pub report_lines-lines-requires : goal.report_lines-lines-requires
report_lines-lines-requires g c =
    let r = returned g (goal.at.report_lines-lines-requires g c).After-work_all-ingest in
    omega (
      arith,
      r.long,
      length-map c.args.order.now.files.items string_bytes,
      ap (λ (ws : List (Worker g.row.H-File.Denot g.row.H-Door.Denot g.row.J.Denot)). length ws) c.as_slice-2.ensures.value,
    )

pub give_back-requires-clause-named : goal.give_back-requires-clause-named
give_back-requires-clause-named g c = λ κs within.
    rw c.as_slice-names.ensures.value (returned g (goal.at.give_back-requires-clause-named g c).After-work_all-ingest).named

pub give_back-requires-clause-out : goal.give_back-requires-clause-out
give_back-requires-clause-out g c = λ κs within.
    let r = returned g (goal.at.give_back-requires-clause-out g c).After-work_all-ingest in
    let count : c.args.doors.len ≡ length (map g.H.Door.Door.door c.args.doors.items) = c.args.doors.ok.0 ∙ sym (length-map c.args.doors.items g.H.Door.Door.door) in
    rw c.as_slice-names.ensures.value (can-return c.args.order.now.book g.H.File.Source.source g.H.Door.Door.door (map string_bytes c.args.order.now.files.items) (g.H.Host.host c.args.host.now)
    (journal c.args.cabinet.ingest) (map g.H.Door.Door.door c.args.doors.items) c.work_all-ingest.result.1.items r (g.H.Host.host c.args.host.now)
    (subst (λ (n : ℕ). AreOut (map string_bytes c.args.order.now.files.items) n (g.H.Host.host c.args.host.now)) count c.requires.out))

pub returns-clause-over : goal.returns-clause-over
returns-clause-over g c =
    let r = returned g (goal.at.returns-clause-over g c).After-work_all-ingest in
    let list = c.work_all-ingest.result.1.items in
    let names = map string_bytes c.args.order.now.files.items in
    let first = c.first_fault-first.ensures ∙ ap (λ (ws : List (Worker g.row.H-File.Denot g.row.H-Door.Denot g.row.J.Denot)). fault_in ws) c.as_slice.ensures.value in
    let told-names = map string_bytes c.as_slice-names.result.now in
    let same : told-names ≡ names = rw c.as_slice-names.ensures.value refl in
    let lines = ok-lines c.report_lines-lines.result _
    (subst (λ (ns : List (List ℕ)). IfOk c.report_lines-lines.result (λ l. l.items ≡ lines_in ns list)) same
    (subst (λ (ws : List (Worker g.row.H-File.Denot g.row.H-Door.Denot g.row.J.Denot)). IfOk c.report_lines-lines.result (λ l. l.items ≡ lines_in told-names ws)) c.as_slice-2.ensures.value c.report_lines-lines.ensures)) in
    let same-ingest = λ (i : Stored g.row.H-Disk.Denot). AllByRecursion (IsTold (journal i)) list in
    let doors : length (map g.H.Door.Door.door c.args.doors.items) ≡ c.args.doors.len =
    length-map c.args.doors.items g.H.Door.Door.door ∙ sym c.args.doors.ok.0 in
    let handed = map g.H.Door.Door.door c.args.doors.items in
    let back = c.give_back.new.cabinet in
    let drew = returned-drawn c.args.order.now.book g.H.File.Source.source g.H.Door.Door.door names (g.H.Host.host c.args.host.now) (journal c.args.cabinet.ingest)
    handed list r (journal back.ingest) c.args.cabinet.drawer c.with_readers-list.new.cabinet.drawer back.drawer
    c.requires.drawn c.with_readers-list.ensures.lent.drawn c.give_back.ensures.drawn c.settle.ensures.each in
    subst (λ (b : Cabinet g.row.H-Disk.Denot g.row.J.Denot). WorksOver c.args.order.now.book names (journal c.args.cabinet.ingest) (journal b.ingest) handed
    c.first_fault-first.result (lines_told c.report_lines-lines.result) (g.H.Host.host c.args.host.now) (g.H.Host.host c.give_back.new.host))
    (sym c.settle.ensures.same)
    (works-over c.args.order.now.book g.H.File.Source.source g.H.Door.Door.door names (g.H.Host.host c.args.host.now) (journal c.args.cabinet.ingest)
    handed list r (journal back.ingest) (g.H.Host.host c.give_back.new.host)
    c.first_fault-first.result (lines_told c.report_lines-lines.result) first lines
    (subst same-ingest (sym c.give_back.ensures.same) (c.give_back.ensures.told (r.have (omega (arith, c.requires.some, doors)))))
    drew
    (subst (λ (ns : List (List ℕ)). GivenBack g.H.File.Source.source g.H.Door.Door.door ns 0 list (g.H.Host.host c.args.host.now) (g.H.Host.host c.give_back.new.host)) same
    c.give_back.ensures.back))

pub work_all-ingest-requires-clause-drawers : goal.work_all-ingest-requires-clause-drawers
work_all-ingest-requires-clause-drawers g c = λ κs within.
    have-drawers g.H.File.Source.source g.H.Door.Door.door (map string_bytes c.args.order.now.files.items) (g.H.Host.host c.args.host.now)
    (journal c.args.cabinet.ingest) (map g.H.Door.Door.door c.args.doors.items) c.args.list.items c.with_readers-list.result.items
    c.requires.files (c.with_readers-list.ensures.readers (journal c.args.cabinet.ingest) c.requires.opening)

pub settle-requires : goal.settle-requires
settle-requires g c =
    let r = returned g (goal.at.settle-requires g c).After-work_all-ingest in
    let parts = returned-parts c.args.order.now.book g.H.File.Source.source g.H.Door.Door.door (map string_bytes c.args.order.now.files.items) (g.H.Host.host c.args.host.now)
    (journal c.args.cabinet.ingest) (map g.H.Door.Door.door c.args.doors.items) c.work_all-ingest.result.1.items r in
    omega (
      arith,
      parts,
      c.give_back.ensures.drawn.parts,
      c.with_readers-list.ensures.lent.parts,
      c.requires.parts,
      length-map c.args.order.now.files.items string_bytes,
      length-map c.args.doors.items g.H.Door.Door.door,
      c.args.doors.ok.0,
    )
