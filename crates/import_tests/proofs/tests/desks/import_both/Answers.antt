use denote.Exit.{no}
use denote.Param.{param}
use denote.Param.Send.{arg_send, param_send, sendable}
use denote.Param.SendFields.{as_row_send, declared_send}
use denote.Struct.Field.{mut_ref_field, shr_ref_field, u64-field}
use denote.Struct.Tuple.{Tuple, TupleAt, type_at}
use mir.Syntax.{named}
use Rattle.std.specs.Prelude.{codes}
use Rattle.std.proofs.Common.{[], ◌∷◌}
use Rattle.std.proofs.Crossing.{crosses}
use Rattle.std.proofs.alloc.Global.TheSendSync as heap
use Rattle.std.specs.contracts.alloc.Global
use Rattle.std.specs.contracts.sync.Mutex
use Rattle.ingest_desk.specs.contracts.ingest.Ingest
use Rattle.published_index.specs.contracts.places.Drawer
use Rattle.import_tests.proofs.SendLemmas.{desk_sync, drawer_send}
use Rattle.import_tests.proofs.tests.desks.import_both.Goals as goal

-- The first stream's import goes to the other thread with a drawer that is lent and the games' numbers.
pub join-one-requires-send-F : goal.join-one-requires-send-F
join-one-requires-send-F g c =
    let t = c.type_bounds in
    let desk = desk_sync (param 1 g.row.D) (param 0 g.row.J) g.D.Disk g.J.Index t.send-D t.send-J in
    let drawer = drawer_send (param 0 g.row.J) g.J.Index t.send-J in
    λ κs within.
    let mine = (mut_ref_field (record { mir = named 9; lft = κs.1.1.1.1.1.1.1.1.1.0 }) (Drawer.the_row (param 0 g.row.J) g.J.Index) tt).row
    ∷ Tuple ((u64-field).row ∷ (u64-field).row ∷ []) ∷ [] in
    let captured = (shr_ref_field (record { mir = named 6; lft = κs.1.1.1.1.1.1.0 }) (param 2 g.row.R) tt).row
    ∷ (shr_ref_field (record { mir = named 7; lft = κs.1.1.1.1.1.1.1.0 }) Global.the_row tt).row
    ∷ (shr_ref_field (record { mir = named 8; lft = κs.1.1.1.1.1.1.1.1.0 }) (Mutex.the_row (Ingest.the_row (param 1 g.row.D) (param 0 g.row.J) g.D.Disk g.J.Index)) tt).row
    ∷ Tuple mine
    ∷ [] in
    let closure = codes "import_tests::tests::desks::fn::import_both::join+arg2+Self" in
    param_send 1 _ (arg_send _ no (TupleAt closure captured) (declared_send (type_at closure captured) (
      search (t.sync-R, sendable) depth 9,
      (
        search (heap.the_sync, sendable) depth 9,
        (
          search (desk, sendable) depth 9,
          (search (drawer, sendable, crosses, declared_send, as_row_send) depth 40, tt),
        ),
      ),
    )))
