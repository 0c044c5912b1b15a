use Rattle.std.proofs.Common.{map, refl, rules, arith}
use Rattle.std.proofs.lemmas.List.{length-map}
use Rattle.pgn_lex.specs.Span.{token_in}
use Rattle.game_replay.proofs.Steps.{begins, goes_on, fails, ends, here_at, pushed}
use Rattle.game_replay.proofs.moves.moves_of.Goals as goal

pub loop-span-init : goal.loop-span-init
loop-span-init c = begins c.args.root.now (map (token_in c.args.text.now) c.args.spans.now) _ c.in_ok-moves.moves.items refl c.in_ok-moves.ensures.items

pub returns-in-Err : goal.returns-in-Err
returns-in-Err c =
    fails c.args.root.now (map (token_in c.args.text.now) c.args.spans.now) c.loop-span.board c.loop-span.moves.items c.loop-span.ply c.loop-span.span-index _ c.in-Err.fault c.move_fault.result
    c.loop-span.invariant (here_at (token_in c.args.text.now) c.args.spans.now c.loop-span.span-index _ c.loop-span-test.true)
    c.in-Err.ensures.reads c.move_fault.ensures

pub overflow_add-ply : goal.overflow_add-ply
overflow_add-ply c = let counted = c.loop-span.invariant.counted in search (rules, counted)

pub loop-span-preserved : goal.loop-span-preserved
loop-span-preserved c =
    goes_on c.args.root.now (map (token_in c.args.text.now) c.args.spans.now) c.loop-span.board c.play_on.new.self c.loop-span.moves.items c.push.new.self.items c.loop-span.ply c.loop-span.span-index
    _ c.in-Ok.step c.loop-span.invariant
    (here_at (token_in c.args.text.now) c.args.spans.now c.loop-span.span-index _ c.loop-span-test.true)
    c.in-Ok.ensures.reads c.play_on.ensures
    (pushed c.loop-span.moves.items c.push.new.self.items c.in-Ok.step _ c.push.ensures.items c.if-is_err.ensures.negation)

pub returns : goal.returns
returns c =
    ends c.args.root.now (map (token_in c.args.text.now) c.args.spans.now) c.loop-span.board c.loop-span.moves.items c.from_vec.result c.loop-span.ply c.loop-span.span-index
    c.loop-span.invariant (omega (arith, c.loop-span-test.false, length-map c.args.spans.now (token_in c.args.text.now))) c.from_vec.ensures
