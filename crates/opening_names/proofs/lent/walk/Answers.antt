use Rattle.std.proofs.Common.{◌+◌, ◌∷◌, Option, drop, ap, sym, subst, ◌∙◌, arith}
use Rattle.std.specs.Option.{option_copied}
use Rattle.std.proofs.lemmas.List.{drop_all, drop_more}
use Rattle.explorer_model.specs.declared.opening.Opening.{Opening}
use Rattle.opening_names.proofs.Walking.{Walks, begins, copied-or, ends-at, ends-named, first-legal, goes_on}
use Rattle.opening_names.proofs.lent.walk.Goals as goal

pub loop-step-init : goal.loop-step-init
loop-step-init c = begins c.args.book.now c.args.root c.args.plays.now (option_copied c.at-opening.result) c.requires c.at-opening.ensures

pub play_on-requires : goal.play_on-requires
play_on-requires c =
    let l = c.loop-step in
    let plays = c.args.plays.now in
    let step = c.step-item in
    let here = drop_more plays l.step-index step.result c.loop-step-test.true ∙ ap (λ m. m ∷ drop (l.step-index + 1) plays) (sym step.is) in
    first-legal c.args.book.now c.args.root plays l.board step.result (drop l.step-index plays) (drop (l.step-index + 1) plays) (option_copied l.opening)
    l.invariant here

pub loop-step-preserved : goal.loop-step-preserved
loop-step-preserved c =
    let l = c.loop-step in
    let plays = c.args.plays.now in
    let step = c.step-item in
    let here = drop_more plays l.step-index step.result c.loop-step-test.true ∙ ap (λ m. m ∷ drop (l.step-index + 1) plays) (sym step.is) in
    let W : Option Opening → Type 0 = λ o. Walks c.args.book.now c.args.root plays c.play_on.new.self (drop (l.step-index + 1) plays) o in
    let named = ap option_copied c.or-opening.ensures ∙ copied-or c.at.result l.opening in
    subst W (sym named)
    (goes_on c.args.book.now c.args.root plays l.board c.play_on.new.self step.result (drop l.step-index plays) (drop (l.step-index + 1) plays)
    (option_copied l.opening) (option_copied c.at.result) l.invariant here c.play_on.ensures c.at.ensures)

pub returns-clause-opening : goal.returns-clause-opening
returns-clause-opening c =
    let l = c.loop-step in
    let plays = c.args.plays.now in
    ends-named c.args.book.now c.args.root plays l.board (drop l.step-index plays) (option_copied l.opening) l.invariant
    (drop_all l.step-index plays (omega arith))

pub returns-clause-board : goal.returns-clause-board
returns-clause-board c =
    let l = c.loop-step in
    let plays = c.args.plays.now in
    ends-at c.args.book.now c.args.root plays l.board (drop l.step-index plays) (option_copied l.opening) l.invariant
    (drop_all l.step-index plays (omega arith))
