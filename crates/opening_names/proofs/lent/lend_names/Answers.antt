use Rattle.std.proofs.Common.{◌≡◌, List, None, ap, map, sym, subst, ◌∙◌}
use Rattle.std.specs.List.{AllByRecursion, AllZip, last_or}
use Rattle.std.specs.Option.{option_copied}
use Rattle.std.proofs.lemmas.Option.{same_Some}
use Rattle.explorer_model.specs.declared.chess.Position.{Position}
use Rattle.explorer_model.specs.Chess.{Legal, after}
use Rattle.explorer_model.specs.Openings.{LastOpening, OpeningOf, positions_on}
use Rattle.opening_names.proofs.lent.lend_names.Goals as goal

pub openings_behind-requires : goal.openings_behind-requires
openings_behind-requires c =
    let query = c.args.query.now in
    let way : positions_on c.board_of.result c.as_slice.result.now ≡ positions_on query.root query.plays =
    λ i. positions_on (c.board_of.ensures i) (c.as_slice.ensures i) in
    let board : c.walk-way.result.board ≡ query.at =
    same_Some c.walk-way.result.board query.at (sym c.walk-way.ensures.board ∙ (ap (λ ps. last_or None ps) way ∙ c.requires.at)) in
    let L : Position → Type 0 = λ p. AllByRecursion (λ m. Legal p m) c.args.played.now in
    subst L (sym board) c.requires.moves

pub returns : goal.returns
returns c =
    let query = c.args.query.now in
    let book = c.args.book.now in
    let way : positions_on c.board_of.result c.as_slice.result.now ≡ positions_on query.root query.plays =
    λ i. positions_on (c.board_of.ensures i) (c.as_slice.ensures i) in
    let board : c.walk-way.result.board ≡ query.at =
    same_Some c.walk-way.result.board query.at (sym c.walk-way.ensures.board ∙ (ap (λ ps. last_or None ps) way ∙ c.requires.at)) in
    let openings = map option_copied c.in_ok-moves.moves.items in
    let L : List Position → Type 0 = λ ps. LastOpening book ps (option_copied c.walk-way.result.opening) in
    let Z : Position → Type 0 = λ p. AllZip (λ m opening. OpeningOf book (after p m) opening) c.args.played.now openings in
    record {
      whole = subst L way c.walk-way.ensures.opening;
      moves = subst Z board c.in_ok-moves.ensures;
    }
