use Rattle.std.proofs.Common.{sym, subst, List}
use Rattle.lookup.specs.declared.part_rows.PartRows.{PartRows}
use Rattle.lookup.specs.Reading.{AreOfKey, AreRead}
use Rattle.std.specs.List.{AllZip}
use Rattle.lookup.proofs.SoundAnswers.{sound-legal}
use Rattle.lookup.proofs.through.look_through.Goals as goal

pub found_through-requires-clause-parts : goal.found_through-requires-clause-parts
found_through-requires-clause-parts g c =
    subst (λ (parts : List PartRows). AreRead c.args.query.now.at 0 c.args.set.now parts) (sym c.as_slice.ensures.value) c.in-Ok.ensures.parts

pub returns-in-Ok-found_through-clause-through : goal.returns-in-Ok-found_through-clause-through
returns-in-Ok-found_through-clause-through g c =
    let key = c.board_and_key-board.result.1 in
    let tidy = c.board_and_key-board.ensures.key in
    let rows = c.in-Ok.ensures in
    let answer = c.in-Ok-found_through.ensures in
    record {
      found = λ holds.
          answer.found key tidy
          (subst (λ (parts : List PartRows). AllZip (AreOfKey key) c.args.set.now parts) (sym c.as_slice.ensures.value) (rows.found key tidy holds));
      sound = answer.sound;
      legal = sound-legal c.args.query.now.at c.in-Ok-found_through.found.moves answer.sound.moves;
      judged = rows.judged;
      kept = rows.kept;
      cost = rows.cost;
    }

pub returns-in-Err-clause-through : goal.returns-in-Err-clause-through
returns-in-Err-clause-through g c =
    let rows = c.in-Err.ensures in
    record {
      whole = rows.whole c.board_and_key-board.result.1 c.board_and_key-board.ensures.key;
      faults = rows.faults;
      part = rows.part;
      stopped = rows.stopped;
    }
