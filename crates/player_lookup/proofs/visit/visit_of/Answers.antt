use Rattle.std.proofs.Common.{sym, ◌∙◌, arith, true≢false}
use Rattle.explorer_model.specs.Tidy.{IsTidied}
use Rattle.player_lookup.proofs.Looking.{looking-ended, looking-first, looking-found, looking-legal, looking-next, looking-over}
use Rattle.player_lookup.proofs.visit.visit_of.Goals as goal

pub loop-ply-init : goal.loop-ply-init
loop-ply-init c = looking-first c.args.tidy.now c.args.root.now c.args.moves.now c.of_valid-board.result c.of_valid-board.ensures c.requires.legal

pub returns-then-has_tidy_form : goal.returns-then-has_tidy_form
returns-then-has_tidy_form c =
    looking-found c.args.tidy.now c.args.root.now c.args.moves.now c.loop-ply.board c.loop-ply.ply c.move_at-next.result
    (omega (arith, c.loop-ply-test.true)) (sym c.move_at-next.ensures)
    (c.has_tidy_form.ensures.0 c.if-has_tidy_form.true) c.loop-ply.invariant

pub returns-in-None : goal.returns-in-None
returns-in-None c =
    let other : ¬ IsTidied c.loop-ply.board c.args.tidy.now = λ tidied. true≢false (sym (c.has_tidy_form.ensures.1 tidied) ∙ c.if-has_tidy_form.false) in
    looking-ended c.args.tidy.now c.args.root.now c.args.moves.now c.loop-ply.board c.loop-ply.ply
    (omega (arith, c.loop-ply-test.true)) (sym c.move_at-next.ensures ∙ c.in-None.is) other c.loop-ply.invariant

pub play_on-requires : goal.play_on-requires
play_on-requires c =
    looking-legal c.loop-ply.board c.args.moves.now c.loop-ply.ply c.in-Some.step (sym c.move_at-next.ensures ∙ c.in-Some.is) c.loop-ply.invariant.legal

pub loop-ply-preserved : goal.loop-ply-preserved
loop-ply-preserved c =
    let other : ¬ IsTidied c.loop-ply.board c.args.tidy.now = λ tidied. true≢false (sym (c.has_tidy_form.ensures.1 tidied) ∙ c.if-has_tidy_form.false) in
    looking-next c.args.tidy.now c.args.root.now c.args.moves.now c.loop-ply.board c.play_on.new.self c.loop-ply.ply c.in-Some.step
    (omega (arith, c.loop-ply-test.true)) (sym c.move_at-next.ensures ∙ c.in-Some.is) c.play_on.ensures other c.loop-ply.invariant

pub returns : goal.returns
returns c =
    looking-over c.args.tidy.now c.args.root.now c.args.moves.now c.loop-ply.board c.loop-ply.ply (omega (arith, c.loop-ply-test.false)) c.loop-ply.invariant
