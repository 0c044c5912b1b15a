use Rattle.std.proofs.Common.{◌≡◌, ◌+◌, ◌<◌, [], length, drop, get_or, sym, ap, subst, ◌∙◌, arith}
use Rattle.std.specs.List.{items_where_true}
use Rattle.tally_rows.specs.Grid.{no_games, plus, total, chosen, HasRoom}
use Rattle.tally_rows.proofs.Grids.{none-is, plus-assoc, plus-none_left, line-taken, line-passed, lines-end, Fit-next, HasRoom-part}
use Rattle.tally_rows.proofs.grid.Grid.sum_of.Goals as goal
use Rattle.tally_rows.proofs.grid.Grid.sum_of.Goals.{then-speeds-speed, else-speeds-speed}

pub loop-speed-init : goal.loop-speed-init
loop-speed-init g c =
    let none : c.default-sum.result ≡ no_games = none-is c.default-sum.result c.default-sum.ensures in
    rw none (plus-none_left (total (chosen c.args.speeds.now c.args.groups.now c.self.inside.cells)))

pub line_sum-requires : goal.line_sum-requires
line_sum-requires g c =
    let grid = c.self.inside.cells in
    let speeds = c.args.speeds.now in
    let groups = c.args.groups.now in
    let i = c.loop-speed.speed in
    let line = c.index-lines-speed.result in
    let below : i < length speeds = omega (arith, c.told-speeds, c.loop-speed-test.true) in
    let within : i < length grid = omega (arith, c.self.told, c.loop-speed-test.true) in
    let rest = total (chosen (drop (i + 1) speeds) groups (drop (i + 1) grid)) in
    let next = line-taken c.loop-speed.sum (total (chosen speeds groups grid)) speeds i below groups grid line within
    c.loop-speed.invariant c.if-speeds-speed.true in
    let room : HasRoom (chosen speeds groups grid) = subst (λ l. HasRoom (chosen speeds groups l)) (sym c.self.view_is) c.requires in
    subst (λ l. HasRoom (items_where_true groups l)) (sym c.index-lines-speed.is)
    (HasRoom-part (items_where_true groups (get_or grid i line)) (chosen speeds groups grid) c.loop-speed.sum rest room next)

pub plus-sum-requires : goal.plus-sum-requires
plus-sum-requires g c =
    let grid = c.self.inside.cells in
    let speeds = c.args.speeds.now in
    let groups = c.args.groups.now in
    let i = c.loop-speed.speed in
    let line = c.index-lines-speed.result in
    let below : i < length speeds = omega (arith, c.told-speeds, c.loop-speed-test.true) in
    let within : i < length grid = omega (arith, c.self.told, c.loop-speed-test.true) in
    let rest = total (chosen (drop (i + 1) speeds) groups (drop (i + 1) grid)) in
    let next = line-taken c.loop-speed.sum (total (chosen speeds groups grid)) speeds i below groups grid line within
    c.loop-speed.invariant c.if-speeds-speed.true in
    let room : HasRoom (chosen speeds groups grid) = subst (λ l. HasRoom (chosen speeds groups l)) (sym c.self.view_is) c.requires in
    let same : c.line_sum.result ≡ total (items_where_true groups (get_or grid i line)) =
    c.line_sum.ensures ∙ ap (λ l. total (items_where_true groups l)) c.index-lines-speed.is in
    rw same (Fit-next c.loop-speed.sum (total (items_where_true groups (get_or grid i line))) rest (chosen speeds groups grid) room next)

pub loop-speed-preserved : goal.loop-speed-preserved
loop-speed-preserved g c =
    let grid = c.self.inside.cells in
    let speeds = c.args.speeds.now in
    let groups = c.args.groups.now in
    let i = c.loop-speed.speed in
    let sum = c.loop-speed.sum in
    let below : i < length speeds = omega (arith, c.told-speeds, c.loop-speed-test.true) in
    let within : i < length grid = omega (arith, c.self.told, c.loop-speed-test.true) in
    let rest = total (chosen (drop (i + 1) speeds) groups (drop (i + 1) grid)) in
    let whole = total (chosen speeds groups grid) in
    elim c.if-speeds-speed.branch [
      | then-speeds-speed w ↦
          let line = w.index-lines-speed.result in
          let same : w.line_sum.result ≡ total (items_where_true groups (get_or grid i line)) =
          w.line_sum.ensures ∙ ap (λ l. total (items_where_true groups l)) w.index-lines-speed.is in
          ap (λ s. plus s rest) (w.sum-is ∙ w.plus-sum.ensures ∙ ap (plus sum) same)
          ∙ plus-assoc sum (total (items_where_true groups (get_or grid i line))) rest
          ∙ line-taken sum whole speeds i below groups grid line within c.loop-speed.invariant w.if-speeds-speed.true
      | else-speeds-speed w ↦
          ap (λ s. plus s rest) w.sum-is
          ∙ line-passed sum whole speeds i below groups grid [] within c.loop-speed.invariant w.if-speeds-speed.false
    ]

pub returns : goal.returns
returns g c =
    let i = c.loop-speed.speed in
    let grid = c.self.inside.cells in
    let speeds = c.args.speeds.now in
    let groups = c.args.groups.now in
    lines-end c.loop-speed.sum (total (chosen speeds groups grid)) speeds i groups grid (omega (arith, c.told-speeds, c.loop-speed-test.false)) c.loop-speed.invariant
    ∙ ap (λ l. total (chosen speeds groups l)) c.self.view_is
