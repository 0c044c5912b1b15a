use Rattle.std.proofs.Common.{◌≡◌, ◌∷◌, ◌++◌, [], List, Option, map, take, ap, sym, subst, ◌∙◌}
use Rattle.std.specs.List.{AllZip}
use Rattle.std.specs.Option.{option_copied}
use Rattle.std.proofs.lemmas.List.{map-append, take_more}
use Rattle.std.proofs.lemmas.Slice.Zip.{all_zipped_more}
use Rattle.explorer_model.specs.declared.chess.Move.{Move}
use Rattle.explorer_model.specs.declared.opening.Opening.{Opening}
use Rattle.explorer_model.specs.Chess.{Legal, after}
use Rattle.explorer_model.specs.Openings.{OpeningOf}
use Rattle.opening_names.proofs.Walking.{each-at}
use Rattle.opening_names.proofs.lent.openings_behind.Goals as goal

pub behind-requires-clause-legal : goal.behind-requires-clause-legal
behind-requires-clause-legal c =
    let l = c.loop-step in
    let step = c.step-item in
    let L : Move → Type 0 = λ m. Legal c.args.board.now m in
    subst L (sym step.is) (each-at L c.args.played.now c.requires l.step-index step.result c.loop-step-test.true)

pub loop-step-preserved : goal.loop-step-preserved
loop-step-preserved c =
    let l = c.loop-step in
    let step = c.step-item in
    let book = c.args.book.now in
    let board = c.args.board.now in
    let played = c.args.played.now in
    let lent = c.behind.result in
    let R : Move → Option Opening → Type 0 = λ m opening. OpeningOf book (after board m) opening in
    let named : R step.result (option_copied lent) = c.behind.ensures in
    let Ms : List Move → Type 0 = λ ms. AllZip R ms (map option_copied c.push.new.self.items) in
    let Os : List (Option Opening) → Type 0 = λ os. AllZip R (take l.step-index played ++ step.result ∷ []) os in
    let more = take_more played l.step-index step.result c.loop-step-test.true ∙ ap (λ m. take l.step-index played ++ m ∷ []) (sym step.is) in
    let pushed : map option_copied c.push.new.self.items ≡ map option_copied l.openings.items ++ option_copied lent ∷ [] =
    ap (map option_copied) c.in_ok-push.ensures.items ∙ map-append option_copied l.openings.items (lent ∷ []) in
    subst Ms (sym more)
    (subst Os (sym pushed)
    (all_zipped_more R (take l.step-index played) (map option_copied l.openings.items) step.result (option_copied lent) l.invariant named))
