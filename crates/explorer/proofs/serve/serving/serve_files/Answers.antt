use Rattle.std.proofs.Common.{◌≡◌, ◌<◌, ℕ, map, length, string_bytes, subst, sym, arith}
use Rattle.std.proofs.lemmas.List.{length-map}
use Rattle.host.specs.Hosts.{GivesBack}
use Rattle.std.specs.List.{AllByRecursion}
use Rattle.ingest_desk.specs.Stored.{Stored, journal}
use Rattle.published_index.specs.Places.{DrewEach}
use Rattle.published_index.specs.States.{watching}
use Rattle.explorer.specs.declared.serve.serving.Unserved.TheVariants.{NoFile, NoAddress, NoMemory}
use Rattle.explorer.specs.Serve.Serving.{AreOut, HasGivenUp, HasWorked, WorksOver, lines_told, service_of}
use Rattle.explorer.proofs.ServeLemmas.Brackets.{doors-files, doors-given-up, doors-out, doors-worked, file-given-up, file-refused-can, file-refused-named, starved, stopped-can, stopped-named}
use Rattle.explorer.proofs.ServeLemmas.Drawers.{drew-same}
use Rattle.explorer.proofs.serve.serving.serve_files.Goals as goal
use Rattle.explorer.proofs.serve.serving.serve_files.Goals.{After-drop-passes, After-drop-passes-in-Fault, After-serve_doors-cabinet, In-OutOfMemory}
use Rattle.explorer.proofs.serve.serving.serve_files.Given.{Over}

pub give_back-requires-clause-named : goal.give_back-requires-clause-named
give_back-requires-clause-named g c = λ κs within.
    rw c.as_slice-names.ensures.value (file-refused-named g.H.File.Source.source g.H.Door.Door.door (service_of c.args.order.now) _ (g.H.Host.host c.args.host.now)
    (g.H.Host.host c.open_files.new.host) (rw c.as_slice-names.ensures.value at (c.open_files.ensures.refused c.if-not-open_files.true)))

pub give_back-requires-clause-out : goal.give_back-requires-clause-out
give_back-requires-clause-out g c = λ κs within.
    rw c.as_slice-names.ensures.value (file-refused-can g.H.File.Source.source g.H.Door.Door.door (service_of c.args.order.now) _ (g.H.Host.host c.args.host.now)
    (g.H.Host.host c.open_files.new.host) (rw c.as_slice-names.ensures.value at (c.open_files.ensures.refused c.if-not-open_files.true)))

pub give_back-requires-2-clause-named : goal.give_back-requires-2-clause-named
give_back-requires-2-clause-named g c = λ κs within.
    rw c.as_slice-names.ensures.value (stopped-named g.H.File.Source.source g.H.Door.Door.door (service_of c.args.order.now) _ (g.H.Host.host c.args.host.now)
    (g.H.Host.host c.doors.new.self) c.in-Err.stop (g.H.Host.host c.open_files.new.host)
    (rw c.as_slice-names.ensures.value at (c.open_files.ensures.opened c.if-not-open_files.false)) (rw c.as_str.ensures.value at c.in-Err.ensures.fails))

pub give_back-requires-2-clause-out : goal.give_back-requires-2-clause-out
give_back-requires-2-clause-out g c = λ κs within.
    rw c.as_slice-names.ensures.value (stopped-can g.H.File.Source.source g.H.Door.Door.door (service_of c.args.order.now) _ (g.H.Host.host c.args.host.now)
    (g.H.Host.host c.doors.new.self) c.in-Err.stop (g.H.Host.host c.open_files.new.host)
    (rw c.as_slice-names.ensures.value at (c.open_files.ensures.opened c.if-not-open_files.false)) (rw c.as_str.ensures.value at c.in-Err.ensures.fails))

given-up : (g : Over) (c : After-drop-passes g)
    → HasGivenUp (service_of c.args.order.now) (NoFile c.len-at.result) (g.H.Host.host c.args.host.now) (g.H.Host.host c.give_back.new.host)
    × GivesBack (g.H.Host.host c.args.host.now) (g.H.Host.host c.give_back.new.host)
given-up g c =
    let r = rw c.as_slice-names.ensures.value at (c.open_files.ensures.refused c.if-not-open_files.true) in
    let list = c.open_files.new.list.items in
    let few : c.len-at.result < length (map string_bytes c.args.order.now.files.items) =
    omega (arith, rw c.as_slice-names.ensures.value at (c.open_files.ensures.few c.if-not-open_files.true), c.len-at.ensures, length-map c.args.order.now.files.items string_bytes) in
    let place : length list ≡ c.len-at.result = omega (arith, c.len-at.ensures, c.open_files.new.list.ok.0) in
    file-given-up g.H.File.Source.source g.H.Door.Door.door (service_of c.args.order.now) list (g.H.Host.host c.args.host.now)
    (g.H.Host.host c.open_files.new.host) (g.H.Host.host c.give_back.new.host) c.len-at.result r (rw c.as_slice-names.ensures.value at c.give_back.ensures.back) few place

pub returns-then-not-open_files-clause-served : goal.returns-then-not-open_files-clause-served
returns-then-not-open_files-clause-served g c = (given-up g (goal.at.returns-then-not-open_files-clause-served g c).After-drop-passes).0

pub returns-then-not-open_files-clause-gives_back : goal.returns-then-not-open_files-clause-gives_back
returns-then-not-open_files-clause-gives_back g c = (given-up g (goal.at.returns-then-not-open_files-clause-gives_back g c).After-drop-passes).1

worked : (g : Over) (c : After-serve_doors-cabinet g)
    → HasWorked (service_of c.args.order.now) (journal c.args.cabinet.ingest) (journal c.serve_doors-cabinet.result.0.ingest) c.serve_doors-cabinet.result.1.first
    (lines_told c.serve_doors-cabinet.result.1.lines) (g.H.Host.host c.args.host.now) (g.H.Host.host c.serve_doors-cabinet.new.host)
    × GivesBack (g.H.Host.host c.args.host.now) (g.H.Host.host c.serve_doors-cabinet.new.host)
worked g c =
    let over = subst (λ (i : Stored g.row.H-Disk.Denot). WorksOver c.args.order.now.book (map string_bytes c.args.order.now.files.items) (journal i)
    (journal c.serve_doors-cabinet.result.0.ingest) (map g.H.Door.Door.door c.in-Ok.doors.items) c.serve_doors-cabinet.result.1.first
    (lines_told c.serve_doors-cabinet.result.1.lines) (g.H.Host.host c.doors.new.self) (g.H.Host.host c.serve_doors-cabinet.new.host))
    c.open_files.ensures.same c.serve_doors-cabinet.ensures.over in
    doors-worked g.H.File.Source.source (service_of c.args.order.now) c.open_files.new.list.items (map g.H.Door.Door.door c.in-Ok.doors.items)
    (g.H.Host.host c.args.host.now) (g.H.Host.host c.open_files.new.host) (g.H.Host.host c.doors.new.self)
    (rw c.as_slice-names.ensures.value at (c.open_files.ensures.opened c.if-not-open_files.false)) (rw c.as_str.ensures.value at c.in-Ok.ensures.hands)
    (journal c.args.cabinet.ingest) (journal c.serve_doors-cabinet.result.0.ingest) c.serve_doors-cabinet.result.1.first (lines_told c.serve_doors-cabinet.result.1.lines)
    (g.H.Host.host c.serve_doors-cabinet.new.host) over

pub returns-in-Ok-clause-served : goal.returns-in-Ok-clause-served
returns-in-Ok-clause-served g c = (worked g (goal.at.returns-in-Ok-clause-served g c).After-serve_doors-cabinet).0

pub returns-in-Ok-clause-gives_back : goal.returns-in-Ok-clause-gives_back
returns-in-Ok-clause-gives_back g c = (worked g (goal.at.returns-in-Ok-clause-gives_back g c).After-serve_doors-cabinet).1

refused : (g : Over) (c : After-drop-passes-in-Fault g)
    → HasGivenUp (service_of c.args.order.now) NoAddress (g.H.Host.host c.args.host.now) (g.H.Host.host c.give_back-2.new.host)
    × GivesBack (g.H.Host.host c.args.host.now) (g.H.Host.host c.give_back-2.new.host)
refused g c =
    doors-given-up g.H.File.Source.source g.H.Door.Door.door (service_of c.args.order.now) c.open_files.new.list.items (g.H.Host.host c.args.host.now)
    (g.H.Host.host c.doors.new.self) (g.H.Host.host c.open_files.new.host) (g.H.Host.host c.give_back-2.new.host)
    (rw c.as_slice-names.ensures.value at (c.open_files.ensures.opened c.if-not-open_files.false)) (rw c.as_str.ensures.value at (rw c.in-Fault.is at c.in-Err.ensures.fails)) (rw c.as_slice-names.ensures.value at c.give_back-2.ensures.back)

pub returns-in-Fault-clause-served : goal.returns-in-Fault-clause-served
returns-in-Fault-clause-served g c = (refused g (goal.at.returns-in-Fault-clause-served g c).After-drop-passes-in-Fault).0

pub returns-in-Fault-clause-gives_back : goal.returns-in-Fault-clause-gives_back
returns-in-Fault-clause-gives_back g c = (refused g (goal.at.returns-in-Fault-clause-gives_back g c).After-drop-passes-in-Fault).1

lacking : (g : Over) (c : In-OutOfMemory g)
    → HasGivenUp (service_of c.args.order.now) NoMemory (g.H.Host.host c.args.host.now) (g.H.Host.host c.give_back-2.new.host)
    × GivesBack (g.H.Host.host c.args.host.now) (g.H.Host.host c.give_back-2.new.host)
lacking g c =
    starved g.H.File.Source.source g.H.Door.Door.door (service_of c.args.order.now) c.open_files.new.list.items (g.H.Host.host c.args.host.now)
    (g.H.Host.host c.doors.new.self) (g.H.Host.host c.open_files.new.host) (g.H.Host.host c.give_back-2.new.host)
    (rw c.as_slice-names.ensures.value at (c.open_files.ensures.opened c.if-not-open_files.false)) (rw c.in-OutOfMemory.is at c.in-Err.ensures.fails) (rw c.as_slice-names.ensures.value at c.give_back-2.ensures.back)

pub returns-clause-served : goal.returns-clause-served
returns-clause-served g c = (lacking g (goal.at.returns-clause-served g c).In-OutOfMemory).0

pub returns-clause-gives_back : goal.returns-clause-gives_back
returns-clause-gives_back g c = (lacking g (goal.at.returns-clause-gives_back g c).In-OutOfMemory).1

pub serve_doors-cabinet-requires-clause-files : goal.serve_doors-cabinet-requires-clause-files
serve_doors-cabinet-requires-clause-files g c = λ κs within.
    doors-files g.H.File.Source.source (service_of c.args.order.now) c.open_files.new.list.items (map g.H.Door.Door.door c.in-Ok.doors.items)
    (g.H.Host.host c.args.host.now) (g.H.Host.host c.open_files.new.host) (g.H.Host.host c.doors.new.self)
    (rw c.as_slice-names.ensures.value at (c.open_files.ensures.opened c.if-not-open_files.false)) (rw c.as_str.ensures.value at c.in-Ok.ensures.hands)

pub serve_doors-cabinet-requires-clause-out : goal.serve_doors-cabinet-requires-clause-out
serve_doors-cabinet-requires-clause-out g c = λ κs within.
    let count : c.args.order.now.readers ≡ c.in-Ok.doors.len =
    omega (arith, c.in-Ok.ensures.hands.fresh.number, length-map c.in-Ok.doors.items g.H.Door.Door.door, c.in-Ok.doors.ok.0) in
    subst (λ (n : ℕ). AreOut (map string_bytes c.args.order.now.files.items) n (g.H.Host.host c.doors.new.self)) count
    (doors-out g.H.File.Source.source (service_of c.args.order.now) c.open_files.new.list.items (map g.H.Door.Door.door c.in-Ok.doors.items)
    (g.H.Host.host c.args.host.now) (g.H.Host.host c.open_files.new.host) (g.H.Host.host c.doors.new.self)
    (rw c.as_slice-names.ensures.value at (c.open_files.ensures.opened c.if-not-open_files.false)) (rw c.as_str.ensures.value at c.in-Ok.ensures.hands))

pub serve_doors-cabinet-requires-clause-opening : goal.serve_doors-cabinet-requires-clause-opening
serve_doors-cabinet-requires-clause-opening g c = λ κs within.
    subst (λ (i : Stored g.row.H-Disk.Denot). AllByRecursion (λ pass. pass ≡ watching (journal i)) c.args.passes.items)
    (sym c.open_files.ensures.same) c.requires.opening

pub serve_doors-cabinet-requires-clause-drawn : goal.serve_doors-cabinet-requires-clause-drawn
serve_doors-cabinet-requires-clause-drawn g c = λ κs within.
    subst (λ (i : Stored g.row.H-Disk.Denot). DrewEach (length (journal i)) c.open_files.new.cabinet.drawer) (sym c.open_files.ensures.same)
    (drew-same (length (journal c.args.cabinet.ingest)) c.args.cabinet.drawer c.open_files.new.cabinet.drawer c.open_files.ensures.lent.drawn
    c.requires.drawn.each)

pub serve_doors-cabinet-requires-clause-parts : goal.serve_doors-cabinet-requires-clause-parts
serve_doors-cabinet-requires-clause-parts g c = λ κs within.
    let all = rw c.as_slice-names.ensures.value at (c.open_files.ensures.all c.if-not-open_files.false) in
    omega (arith, all, c.open_files.ensures.lent.parts, c.requires.drawn.parts)

pub serve_doors-cabinet-requires-clause-more : goal.serve_doors-cabinet-requires-clause-more
serve_doors-cabinet-requires-clause-more g c = λ κs within.
    let all = rw c.as_slice-names.ensures.value at (c.open_files.ensures.all c.if-not-open_files.false) in
    let count : c.args.order.now.readers ≡ c.in-Ok.doors.len =
    omega (arith, c.in-Ok.ensures.hands.fresh.number, length-map c.in-Ok.doors.items g.H.Door.Door.door, c.in-Ok.doors.ok.0) in
    omega (arith, all, count, c.open_files.ensures.lent.parts, c.requires.parts)
