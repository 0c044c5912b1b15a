use Rattle.std.proofs.Common.{bytes_eq, ap, sym, ◌∙◌}
use Rattle.std.specs.HashMap.{get}
use Rattle.opening_names.proofs.HeldLemmas.{put-next, told-next}
use Rattle.opening_names.proofs.places.places_of.Goals as goal
use Rattle.opening_names.proofs.places.places_of.Goals.{then-not-contains_key+in_ok-insert, else-not-contains_key}

pub loop-place-preserved : goal.loop-place-preserved
loop-place-preserved c =
    let l = c.loop-place in
    let lines = c.args.lines.now in
    let line = c.index-lines-place in
    elim c.if-not-contains_key.branch [
      | then-not-contains_key+in_ok-insert w ↦ λ key.
          ap (λ p. get bytes_eq p key) w.places-is
          ∙ put-next l.places lines l.place line.result c.loop-place-test.true line.is l.invariant
          (sym c.contains_key.ensures ∙ w.if-not-contains_key.true) w.insert.new.self w.in_ok-insert.ensures.updates key
      | else-not-contains_key w ↦ λ key.
          ap (λ p. get bytes_eq p key) w.places-is
          ∙ told-next l.places lines l.place line.result c.loop-place-test.true line.is l.invariant
          (sym c.contains_key.ensures ∙ w.if-not-contains_key.false) key
    ]
