use Rattle.std.proofs.Common.{refl}
use Rattle.legal_moves.proofs.PieceBitboards.{sets-place, king_among}
use Rattle.legal_moves.proofs.CheckLemmas.{searched-first, searched-more, searched-end, attack-says}
use Rattle.legal_moves.proofs.valid.in_check.Goals as goal

pub loop-rest-init : goal.loop-rest-init
loop-rest-init c =
    let squares = c.args.squares.now in
    searched-first squares c.args.color _
    (king_among squares c.of-sets.result c.args.color c.of_color.result (sets-place squares c.of-sets.result c.of-sets.ensures)
    (c.of_color.ensures squares c.of-sets.ensures))

pub returns-then-is_attacked : goal.returns-then-is_attacked
returns-then-is_attacked c =
    let squares = c.args.squares.now in
    let says = attack-says squares c.args.color c.opponent-enemy.result c.of-enemy_sets.result c.lowest-king.result _ c.opponent-enemy.ensures
    (c.of-enemy_sets.ensures squares c.of-sets.ensures) c.is_attacked.ensures in (
      λ _. (
        c.lowest-king.result,
        c.lowest-king.ensures.on_board,
        c.loop-rest.invariant.kings c.lowest-king.result c.lowest-king.ensures.on_board c.lowest-king.ensures.within,
        says.0 c.if-is_attacked.true,
      ),
      λ _. refl,
    )

pub loop-rest-preserved : goal.loop-rest-preserved
loop-rest-preserved c =
    let squares = c.args.squares.now in
    let says = attack-says squares c.args.color c.opponent-enemy.result c.of-enemy_sets.result c.lowest-king.result _ c.opponent-enemy.ensures
    (c.of-enemy_sets.ensures squares c.of-sets.ensures) c.is_attacked.ensures in
    searched-more squares c.args.color c.loop-rest.rest c.lowest-king.result c.without-rest.result c.loop-rest.invariant
    (λ attacked. let yes = says.1 attacked in let no = c.if-is_attacked.false in cc) c.without-rest.ensures.others

pub returns : goal.returns
returns c = (
  λ no. absurd (let isnt = no in cc),
  λ check. absurd (searched-end c.args.squares.now c.args.color c.loop-rest.rest c.loop-rest.invariant c.loop-rest-test.false check),
)
