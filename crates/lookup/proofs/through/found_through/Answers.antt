use Rattle.std.proofs.Common.{◌≡◌, ℕ, List, map, sym, ap, ◌∙◌, subst}
use Rattle.std.specs.List.{AllByRecursion, AllZip}
use Rattle.std.proofs.lemmas.Result.{IfOk-weaker}
use Rattle.explorer_model.specs.Chess.{Legal}
use Rattle.explorer_model.specs.Finds.{IsFound}
use Rattle.explorer_model.specs.Tidy.{IsTidyKey}
use Rattle.explorer_model.specs.declared.archive.Batch.{Batch}
use Rattle.explorer_model.specs.declared.archive.Classes.{Classes}
use Rattle.explorer_model.specs.declared.chess.Position.{Position}
use Rattle.lookup.specs.Lines.{IsPutTogether}
use Rattle.lookup.specs.Parts.{Part, segment_part}
use Rattle.lookup.specs.Reading.{hits_in, AreOfKey}
use Rattle.lookup.specs.Sound.{IsSoundAnswer}
use Rattle.lookup.proofs.Listings.{segment-classes}
use Rattle.lookup.proofs.Looking.{put-together}
use Rattle.lookup.proofs.Numbered.{taken-rows}
use Rattle.lookup.proofs.ReadHits.{read-legal, read-rows, read-sound}
use Rattle.lookup.proofs.SetParts.{set-batches, set-parts, set-sound}
use Rattle.lookup.proofs.SoundAnswers.{sound-answer}
use Rattle.row_sums.specs.Hits.{AreSound, NumberedRow, hit_as}
use Rattle.row_sums.specs.Listing.{classes_in}
use Rattle.row_sums.specs.Sums.{moves_in}
use Rattle.spill_blobs.specs.Sets.{journal_of}
use Rattle.tally_rows.specs.Cover.{passes_row_key}
use Rattle.lookup.proofs.through.found_through.Goals as goal

pub found_in-requires-clause-sound : goal.found_in-requires-clause-sound
found_in-requires-clause-sound c =
    let pick = passes_row_key c.args.query.now.filter in
    let hits : map hit_as c.as_slice.result.now ≡ hits_in pick c.args.parts.now = ap (map hit_as) c.as_slice.ensures.value ∙ c.in_ok-hits.ensures in
    subst AreSound (sym hits) (read-sound c.args.query.now.at pick c.args.set.now c.args.parts.now c.requires.set.few c.requires.parts)

pub found_in-requires-clause-legal : goal.found_in-requires-clause-legal
found_in-requires-clause-legal c =
    let at : Position = c.args.query.now.at in
    let pick = passes_row_key c.args.query.now.filter in
    let hits : map hit_as c.as_slice.result.now ≡ hits_in pick c.args.parts.now = ap (map hit_as) c.as_slice.ensures.value ∙ c.in_ok-hits.ensures in
    let L : List NumberedRow → Type 0 = λ hits. AllByRecursion (λ m. Legal at m) (moves_in hits) in
    let AtBoard : Position → Type 0 = λ p. AllByRecursion (λ m. Legal p m) (moves_in (map hit_as c.as_slice.result.now)) in
    subst AtBoard (sym c.requires.board) (subst L (sym hits) (read-legal at pick c.args.set.now c.args.parts.now c.requires.parts))

pub returns-clause-found : goal.returns-clause-found
returns-clause-found c =
    let set = c.args.set.now in
    let query = c.args.query.now in
    let pick = passes_row_key query.filter in
    let parts : List Part = map segment_part set in
    let games : List Classes = classes_in set in
    let each = set-parts set c.requires.set.each in
    let hits : map hit_as c.as_slice.result.now ≡ hits_in pick c.args.parts.now = ap (map hit_as) c.as_slice.ensures.value ∙ c.in_ok-hits.ensures in
    IfOk-weaker c.found_in.result (λ found. IsPutTogether query games (map hit_as c.as_slice.result.now) found)
    (λ found. (key : List ℕ) → IsTidyKey query.at key → AllZip (AreOfKey key) set c.args.parts.now → IsFound (journal_of set) query found)
    (λ found is. λ key tidy are.
    subst (λ (journal : List Batch). IsFound journal query found) (set-batches set)
    (c.parts_recount.ensures parts each query key found
    (record { board = c.requires.valid.board; tidy = tidy; top = c.requires.top; recent = c.requires.recent })
    (put-together query key parts each games (map hit_as c.as_slice.result.now) found (segment-classes set)
    (hits ∙ read-rows query.at pick key 0 set c.args.parts.now c.requires.parts are ∙ taken-rows key query.filter parts) is)))
    c.found_in.ensures

pub returns-clause-sound : goal.returns-clause-sound
returns-clause-sound c =
    let set = c.args.set.now in
    let query = c.args.query.now in
    let pick = passes_row_key query.filter in
    let games : List Classes = classes_in set in
    let hits : map hit_as c.as_slice.result.now ≡ hits_in pick c.args.parts.now = ap (map hit_as) c.as_slice.ensures.value ∙ c.in_ok-hits.ensures in
    let L : List NumberedRow → Type 0 = λ hits. AllByRecursion (λ m. Legal query.at m) (moves_in hits) in
    let legal : L (map hit_as c.as_slice.result.now) = subst L (sym hits) (read-legal query.at pick set c.args.parts.now c.requires.parts) in
    IfOk-weaker c.found_in.result (λ found. IsPutTogether query games (map hit_as c.as_slice.result.now) found) (λ found. IsSoundAnswer query.at found)
    (λ found is. sound-answer games (set-sound c.classes_of_games_are_sound.ensures set c.requires.set.each) query (map hit_as c.as_slice.result.now) found legal is)
    c.found_in.ensures
