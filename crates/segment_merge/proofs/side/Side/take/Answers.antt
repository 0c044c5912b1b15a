use Rattle.std.proofs.Common.{◌≡◌, ◌∷◌, map, sym, ap, subst, ◌∙◌}
use Rattle.std.specs.List.{AllByRecursion}
use Rattle.tally_rows.specs.Row.{shifted_row}
use Rattle.segment_blocks.specs.HeldRow.{row_in}
use Rattle.segment_merge.specs.Room.{HasRoom, IsSmall}
use Rattle.segment_merge.proofs.RoomLemmas.{small-shifted}
use Rattle.segment_merge.proofs.side.Side.take.Goals as goal

pub returns : goal.returns
returns g c =
    let s = c.self.inside in
    let held = row_in c.in_ok-held.held in
    let rest = c.advance.new.self in
    let is : s.rest ≡ held ∷ rest = c.in_ok-held.ensures.rows in
    let room = subst (AllByRecursion (HasRoom s.by)) is c.self.invariant in
    let row : c.shift_row.result ≡ shifted_row s.by held = c.shift_row.ensures ∙ ap (shifted_row s.by) c.to_row.ensures in (
      sym c.self.view_is ∙ ap (map (shifted_row s.by)) is ∙ ap (λ r. r ∷ map (shifted_row s.by) rest) (sym row),
      subst IsSmall (sym row) (small-shifted s.by held room.0),
    )
