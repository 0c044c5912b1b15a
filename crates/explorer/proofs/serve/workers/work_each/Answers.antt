use denote.Exit.{no}
use denote.Param.{param}
use denote.Param.Send.{arg_send, arg_sync, param_send, param_sync, sendable}
use denote.Param.SendFields.{declared_sync}
use denote.Struct.Field.{shr_ref_field}
use denote.Struct.Tuple.{TupleAt, type_at}
use mir.Syntax.{named}
use Rattle.std.specs.Prelude.{codes}
use Rattle.std.proofs.alloc.Global.TheSendSync as heap
use Rattle.std.specs.contracts.alloc.Global
use Rattle.std.specs.contracts.sync.Mutex
use Rattle.ingest_desk.specs.contracts.ingest.Ingest
use Rattle.explorer.specs.contracts.order.Order
use Rattle.explorer.specs.contracts.serve.workers.Worker
use Rattle.explorer.proofs.ServeLemmas.Send.{desk_sync, order_sync, worker_send}
use Rattle.std.proofs.Common.{rules, sym, [], ◌∷◌}
use Rattle.explorer.specs.Serve.Workers.{Works}
use Rattle.explorer.proofs.ServeLemmas.WorkerLists.{zip_each}
use Rattle.explorer.proofs.serve.workers.work_each.Goals as goal

pub returns : goal.returns
returns g c = zip_each (Works c.args.order.now.book g.F.Source.source g.G.Door.door) c.args.list.now c.for_each_mut.new.s c.for_each_mut.auto.s
    (λ i d below. let k = (c.for_each_mut.ensures i d below).1 in rw (sym k.argument_is, sym k.left) (search rules))

pub for_each_mut-requires-send-T : goal.for_each_mut-requires-send-T
for_each_mut-requires-send-T g c =
    let t = c.type_bounds in
    λ κs within.
    param_send 1 _ (arg_send _ no (Worker.the_row (param 1 g.row.F) (param 2 g.row.G) (param 4 g.row.J) g.J.Index)
    (worker_send (param 4 g.row.J) g.J.Index t.send-J (param 1 g.row.F) (param 2 g.row.G) t.send-F t.send-G))

pub for_each_mut-requires-sync-F : goal.for_each_mut-requires-sync-F
for_each_mut-requires-sync-F g c =
    let t = c.type_bounds in
    let desk = desk_sync (param 3 g.row.D) (param 4 g.row.J) g.D.Disk g.J.Index t.send-D t.send-J in
    λ κs within.
    let captured = (shr_ref_field (record { mir = named 6; lft = κs.1.1.1.1.1.1.0 }) (param 0 g.row.R) tt).row
    ∷ (shr_ref_field (record { mir = named 7; lft = κs.1.1.1.1.1.1.1.0 }) Global.the_row tt).row
    ∷ (shr_ref_field (record { mir = named 8; lft = κs.1.1.1.1.1.1.1.1.0 }) (Mutex.the_row (Ingest.the_row (param 3 g.row.D) (param 4 g.row.J) g.D.Disk g.J.Index)) tt).row
    ∷ (shr_ref_field (record { mir = named 9; lft = κs.1.1.1.1.1.1.1.1.1.0 }) Order.the_row tt).row
    ∷ [] in
    let closure = codes "explorer::serve::workers::fn::work_each::for_each_mut+Self" in
    param_sync 2 _ (arg_sync _ no (TupleAt closure captured) (declared_sync (type_at closure captured)
    (search (t.sync-R, sendable) depth 9, (search (heap.the_sync, sendable) depth 9, (search (desk, sendable) depth 9, (search (order_sync, sendable) depth 9, tt))))))
