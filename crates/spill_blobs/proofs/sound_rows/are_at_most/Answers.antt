use Rattle.std.proofs.Common.{◌≡◌, length, take, refl, sym, ap, ◌∙◌, arith, true≢false}
use Rattle.std.specs.List.{sum_by}
use Rattle.std.proofs.Math.Seq.{take-length}
use Rattle.spill_blobs.specs.SoundRows.{games_of}
use Rattle.spill_blobs.proofs.SoundLemmas.{games-next, games-split}
use Rattle.spill_blobs.proofs.sound_rows.are_at_most.Goals as goal

pub loop-row-preserved : goal.loop-row-preserved
loop-row-preserved c =
    let l = c.loop-row in
    omega (
      arith,
      games-next c.args.rows.now l.row-index c.row-item.result c.loop-row-test.true c.row-item.is,
      c.games_in-games.ensures.games,
      c.if-games-left.false,
      l.invariant,
    )

pub returns-then-games-left : goal.returns-then-games-left
returns-then-games-left c =
    let l = c.loop-row in (
      λ h. absurd (true≢false (sym h)),
      λ few. absurd (omega (
        arith,
        games-split c.args.rows.now l.row-index c.row-item.result c.loop-row-test.true c.row-item.is,
        c.games_in-games.ensures.games,
        c.if-games-left.true,
        l.invariant,
        few,
      )),
    )

pub returns : goal.returns
returns c =
    let l = c.loop-row in
    let rows = c.args.rows.now in
    let all : l.row-index ≡ length rows = omega (arith, l.auto.row-index-end, c.loop-row-test.false) in
    let whole = ap (sum_by games_of) (ap (λ k. take k rows) all ∙ take-length rows) in
    (λ h. omega (arith, l.invariant, whole), λ few. refl)
