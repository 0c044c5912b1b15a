use Rattle.std.proofs.Common.{◌≡◌, ◌+◌, ◌∷◌, [], List, length, Some, refl, ap, ◌∙◌, arith}
use Rattle.std.proofs.lemmas.List.{length-append}
use Rattle.published_index.specs.States.{Watching}
use Rattle.explorer.specs.declared.serve.workers.ReaderWork.{ReaderWork}
use Rattle.session.specs.declared.doors.DoorEnd.TheVariants as ends
use Rattle.explorer.proofs.ServeLemmas.Handed.{all-readers, more-readers, no-readers}
use Rattle.explorer.proofs.serve.serving.with_readers.Goals as goal

pub loop-door-init : goal.loop-door-init
loop-door-init g c = record {
  even = c.requires.even;
  room = c.requires.room;
  parts = refl;
  drawn = refl;
  same = refl;
  readers = λ opening are. no-readers g.G.Door.door opening c.args.doors.items c.args.passes.items c.args.list.items are;
}

pub loop-door-preserved : goal.loop-door-preserved
loop-door-preserved g c =
    let fewer : length c.loop-door.doors.items ≡ length c.first_of.new.list.items + 1 =
    omega (arith, ap (λ (ds : List g.row.G.Denot). length ds) c.in-Some.ensures) in
    let passes : length c.loop-door.passes.items ≡ length c.pop.new.self.items + 1 =
    ap (λ (ps : List Watching). length ps) c.in-Some-pop.ensures.items ∙ length-append c.pop.new.self.items (c.in-Some-pop.pass ∷ []) in
    let reader : ReaderWork g.row.G.Denot g.row.J.Denot = record { door = c.in-Some.door; pass = c.in-Some-pop.pass; drawer = Some c.lend.result; end = ends.Whole; told = c.args.told } in
    record {
      even = omega (arith, fewer, passes, c.loop-door.invariant.even, c.loop-door.doors.ok.0, c.loop-door.passes.ok.0, c.first_of.new.list.ok.0, c.pop.new.self.ok.0);
      room = omega (arith, fewer, c.loop-door.invariant.room, c.push_reserved.ensures.len, c.push_reserved.ensures.capacity, c.loop-door.doors.ok.0, c.first_of.new.list.ok.0);
      parts = omega (arith, fewer, c.lend.ensures.left, c.loop-door.invariant.parts, c.loop-door.doors.ok.0, c.first_of.new.list.ok.0);
      drawn = c.lend.ensures.drawn ∙ c.loop-door.invariant.drawn;
      same = c.lend.ensures.same ∙ c.loop-door.invariant.same;
      readers = λ opening are.
          more-readers g.G.Door.door opening c.args.doors.items c.loop-door.doors.items c.first_of.new.list.items
          c.loop-door.passes.items c.pop.new.self.items c.args.list.items c.loop-door.list.items c.push_reserved.new.self.items
          reader c.in-Some.ensures c.in-Some-pop.ensures.items c.push_reserved.ensures.items (ap Some c.lend.ensures.drawer) (c.loop-door.invariant.readers opening are);
    }

pub returns-clause-readers : goal.returns-clause-readers
returns-clause-readers g c = λ opening are.
    all-readers g.G.Door.door opening c.args.doors.items c.loop-door.doors.items c.loop-door.passes.items c.args.list.items
    c.loop-door.list.items c.push_reserved-2.new.self.items c.in_default.ensures.0 c.push_reserved-2.ensures.items (c.loop-door.invariant.readers opening are)

pub lend-requires : goal.lend-requires
lend-requires g c =
    let fewer : length c.loop-door.doors.items ≡ length c.first_of.new.list.items + 1 =
    omega (arith, ap (λ (ds : List g.row.G.Denot). length ds) c.in-Some.ensures) in
    omega (arith, fewer, c.requires.parts, c.loop-door.invariant.parts, c.loop-door.doors.ok.0)

pub returns-clause-lent : goal.returns-clause-lent
returns-clause-lent g c =
    let none : length c.loop-door.doors.items ≡ 0 = ap (λ (ds : List g.row.G.Denot). length ds) c.in_default.ensures.0 in
    record {
      parts = omega (arith, none, c.loop-door.invariant.parts, c.loop-door.doors.ok.0);
      drawn = c.loop-door.invariant.drawn;
    }
