use Rattle.std.proofs.Common.{◌≡◌, List, map, sym, ◌∙◌, subst}
use Rattle.std.specs.Arc.{arc_value}
use Rattle.std.specs.List.{AllByRecursion}
use Rattle.std.proofs.lemmas.Result.{IfOk-weaker}
use Rattle.explorer_model.specs.declared.archive.Classes.{Classes}
use Rattle.explorer_model.specs.declared.chess.Position.{Position}
use Rattle.explorer_model.specs.Chess.{Legal}
use Rattle.explorer_model.specs.Counting.{any_next}
use Rattle.explorer_model.specs.Finds.{IsFound}
use Rattle.row_sums.specs.Hits.{NumberedRow, hit_as, AreSound}
use Rattle.lookup.specs.Hits.{rows_from}
use Rattle.lookup.specs.Lines.{IsPutTogether}
use Rattle.lookup.specs.Parts.{Part, journal_of, parts_in}
use Rattle.row_sums.specs.Listing.{classes_in}
use Rattle.row_sums.specs.Sums.{moves_in}
use Rattle.lookup.proofs.LegalMoves.{moves-legal}
use Rattle.lookup.proofs.Listings.{segment-classes}
use Rattle.lookup.proofs.Looking.{put-together}
use Rattle.lookup.proofs.Numbered.{taken-rows}
use Rattle.tally_rows.specs.Cover.{meets}
use Rattle.lookup.proofs.answer.found_of.Goals as goal

pub found_in-requires-clause-sound : goal.found_in-requires-clause-sound
found_in-requires-clause-sound c =
    let S : List NumberedRow → Type 0 = λ hits. AreSound hits in
    subst S (sym (c.requires.rows ∙ taken-rows c.args.key.now c.args.query.now.filter (parts_in c.args.segments.now)))
    (c.picked_rows_are_sound.ensures (parts_in c.args.segments.now) c.requires.parts c.requires.games c.args.key.now (meets c.args.query.now.filter any_next))

pub found_in-requires-clause-legal : goal.found_in-requires-clause-legal
found_in-requires-clause-legal c =
    let at : Position = c.args.query.now.at in
    let parts : List Part = parts_in c.args.segments.now in
    let L : List NumberedRow → Type 0 = λ hits. AllByRecursion (λ m. Legal at m) (moves_in hits) in
    let AtBoard : Position → Type 0 = λ p. AllByRecursion (λ m. Legal p m) (moves_in (map hit_as c.args.hits.now)) in
    subst AtBoard (sym c.requires.board)
    (subst L (sym (c.requires.rows ∙ taken-rows c.args.key.now c.args.query.now.filter parts))
    (moves-legal at c.args.key.now
    (λ text game track of tracked m is. c.tracks_tell_legal_moves.ensures at c.args.key.now text game track m c.requires.valid c.requires.key of tracked is)
    (meets c.args.query.now.filter any_next) parts c.requires.parts))

pub returns : goal.returns
returns c =
    let parts : List Part = parts_in c.args.segments.now in
    let hits : map hit_as c.args.hits.now ≡ rows_from c.args.key.now (meets c.args.query.now.filter any_next) 0 parts =
    c.requires.rows ∙ taken-rows c.args.key.now c.args.query.now.filter parts in
    let games : List Classes = classes_in (map arc_value c.args.segments.now) in
    IfOk-weaker c.found_in.result (λ found. IsPutTogether c.args.query.now games (map hit_as c.args.hits.now) found)
    (λ found. IsFound (journal_of parts) c.args.query.now found)
    (λ found is.
    c.parts_recount.ensures parts c.requires.parts c.args.query.now c.args.key.now found
    (record { board = c.requires.valid.board; tidy = c.requires.key; top = c.requires.top; recent = c.requires.recent })
    (put-together c.args.query.now c.args.key.now parts c.requires.parts games (map hit_as c.args.hits.now) found
    (segment-classes (map arc_value c.args.segments.now)) hits is))
    c.found_in.ensures
