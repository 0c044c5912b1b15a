-- The rows of a segment have keys of valid positions, and moves that can be written.
use Rattle.std.proofs.Common.{◌≡◌, ℕ, zero, suc, ◌+◌, ◌*◌, ◌≤◌, ◌<◌, ◌^◌, Bool, true, false, if◌then◌else◌, List, [], ◌∷◌, take, length, find, bytes_eq, Option, Some, None, inl, inr, refl, sym, ap, ◌∙◌, subst, arith, length-append}
use Rattle.std.specs.Prelude.{option_map, IfSome}
use Rattle.std.specs.List.{Any, AllByRecursion, AllZip, flat_map}
use Rattle.std.proofs.lemmas.Option.{none-some, same_Some}
use Rattle.std.proofs.lemmas.Slice.Eq.{bytes_eq-Decides}
use Rattle.explorer_model.specs.declared.archive.Game.{Game}
use Rattle.explorer_model.specs.declared.chess.Move.{Move}
use Rattle.explorer_model.specs.declared.chess.Piece.{Piece}
use Rattle.explorer_model.specs.declared.chess.Position.{Position}
use Rattle.explorer_model.specs.declared.chess.Role.{Role}
use Rattle.explorer_model.specs.declared.chess.Role.TheVariants.{Pawn, Knight, Bishop, Rook, Queen, King}
use Rattle.explorer_model.specs.Board.{piece_at}
use Rattle.explorer_model.specs.Chess.{after, IsPromotion, IsValid, Legal, PieceMoves, RoleMoves}
use Rattle.explorer_model.specs.Tidy.{IsTidyKey}
use Rattle.explorer_model.specs.Visits.{AreLegalFrom, Stage, stages, stage_limit, counted_stages, IsTextOf, texts_of}
use Rattle.explorer_model.proofs.LegalGames.{game-legal}
use Rattle.legal_moves.proofs.TidyLemmas.{tidied_valid}
use Rattle.segment_blocks.specs.Segment.{CountedSpan, IsSegment}
use Rattle.tally_rows.specs.declared.row.Row.{Row}
use Rattle.tally_rows.specs.declared.row_key.RowKey.{RowKey}
use Rattle.tally_rows.specs.Row.{row_key_of}
use Rattle.tally_rows.specs.Tally.{IsStepOf, IsTrackOf}
use Rattle.tally_rows.specs.Track.{Step, Track, visit, row_keys_at, has}
use Rattle.tally_rows.proofs.Members.{IsIn, Found, All-IsIn, Found-from_Any, recursion-from_IsIn, recursion-IsIn}
use Rattle.tally_rows.proofs.Visits.{has-row_keys_at}
use Rattle.segment_blocks.specs.Kept.{kept_of}
use Rattle.spill_blobs.specs.Marks.{marks}
use Rattle.spill_blobs.specs.RowBlocks.{block_size, promotion_code, row_bytes, CanBeWritten, IsKeyOfValid}
use Rattle.spill_blobs.proofs.RowLemmas.{length-fields}
use Rattle.spill_blobs.specs.Parts.{AreWritten, HasRoom, IsPlayed, IsSpilled, Spilled}

-- ---- legal moves can be written

code-few : (promotion : Option Role) → IsPromotion promotion → promotion_code promotion ≤ 4
code-few None is = absurd is
code-few (Some Pawn) is = absurd is
code-few (Some Knight) is = omega arith
code-few (Some Bishop) is = omega arith
code-few (Some Rook) is = omega arith
code-few (Some Queen) is = omega arith
code-few (Some King) is = absurd is

none-few : (promotion : Option Role) → promotion ≡ None → promotion_code promotion ≤ 4
none-few promotion is = let P : Option Role → Type 0 = λ o. promotion_code o ≤ 4 in subst P (sym is) (omega arith)

role-few : (p : Position) (m : Move) (role : Role) → RoleMoves p role m → promotion_code m.promotion ≤ 4
role-few p m Pawn goes = elim goes.1 [ inl promoted ↦ code-few m.promotion promoted.1 | inr none ↦ none-few m.promotion none.1 ]
role-few p m Knight goes = none-few m.promotion goes.1
role-few p m Bishop goes = none-few m.promotion goes.1
role-few p m Rook goes = none-few m.promotion goes.1
role-few p m Queen goes = none-few m.promotion goes.1
role-few p m King goes = none-few m.promotion goes.1

piece-few : (p : Position) (m : Move) (occupant : Option Piece) → PieceMoves p occupant m → promotion_code m.promotion ≤ 4
piece-few p m None goes = absurd goes
piece-few p m (Some piece) goes = role-few p m piece.role goes

pub legal-few : (p : Position) (m : Move) → Legal p m → promotion_code m.promotion ≤ 4
legal-few p m legal = piece-few p m (piece_at p.squares m.from.index) legal.0.2

-- ---- the positions of games

-- what the lower crates say
pub record Laws : Type 0 where
  pub keeps : (p : Position) (m : Move) → IsValid p → Legal p m → IsValid (after p m)
  pub begins : (text : List ℕ) (game : Game) → IsTextOf text game → IsValid game.root

-- a valid position, and a legal move or none
record IsFine (stage : Stage) : Type 0 where
  valid : IsValid stage.position
  legal : IfSome stage.next (λ m. Legal stage.position m)

fine-stages : Laws → (n : ℕ) (p : Position) (moves : List Move) → IsValid p → AreLegalFrom p moves → AllByRecursion IsFine (take n (stages p moves))
fine-stages laws zero p moves valid played = tt
fine-stages laws (suc n) p [] valid played = (record { valid = valid; legal = tt }, take-none n)
  where
    take-none : (n : ℕ) → AllByRecursion IsFine (take n [])
    take-none zero = tt
    take-none (suc n) = tt
fine-stages laws (suc n) p (m ∷ moves) valid played =
    (record { valid = valid; legal = played.0 }, fine-stages laws n (after p m) moves (laws.keeps p m valid played.0) played.1)

-- the key is that of a valid position, where the move is legal
pub record Comes (bytes : List ℕ) (next : Option Move) : Type 0 where
  pub position : Position
  pub valid : IsValid position
  pub tidy : IsTidyKey position bytes
  pub legal : IfSome next (λ m. Legal position m)

-- the key of a position's tidy form is that of a valid position
pub tidy-valid : (p : Position) (bytes : List ℕ) → IsValid p → IsTidyKey p bytes → IsKeyOfValid bytes
tidy-valid p bytes valid tidy =
    let q = tidy.0 in
    let board : length q.squares ≡ 64 = ap (λ s. length s) tidy.1.squares ∙ valid.board in
    let same : record { squares = p.squares; turn = p.turn; rights = p.rights; en_passant = q.en_passant } ≡ q =
    λ i. record { squares = sym tidy.1.squares i; turn = sym tidy.1.turn i; rights = sym tidy.1.rights i; en_passant = q.en_passant } in
    record {
      position = q;
      valid = subst IsValid same (tidied_valid p q.en_passant valid tidy.1.en_passant);
      has_key = (board, sym tidy.2);
    }

written-next : (p : Position) (next : Option Move) → IfSome next (λ m. Legal p m) → CanBeWritten next
written-next p None legal = tt
written-next p (Some m) legal = legal-few p m legal

-- ---- the steps of tracks

abbrev IsGood : Step → Type 0
IsGood step = Comes step.key step.next

good-steps : (stages : List Stage) (steps : List Step) → AllByRecursion IsFine stages → AllZip IsStepOf stages steps → AllByRecursion IsGood steps
good-steps [] [] fine zip = tt
good-steps [] (step ∷ steps) fine zip = absurd zip
good-steps (stage ∷ stages) [] fine zip = absurd zip
good-steps (stage ∷ stages) (step ∷ steps) fine zip = (
  record {
    position = stage.position;
    valid = fine.0.valid;
    tidy = zip.0.0;
    legal = subst (λ (next : Option Move). IfSome next (λ m. Legal stage.position m)) (sym zip.0.1) fine.0.legal;
  },
  good-steps stages steps fine.1 zip.1,
)

abbrev IsGoodTrack : Track → Type 0
IsGoodTrack track = AllByRecursion IsGood track.steps

good-tracks : Laws → (texts : List (List ℕ)) (games : List Game) (tracks : List Track) → AllZip IsTextOf texts games → AllZip IsTrackOf games tracks
    → AllByRecursion IsGoodTrack tracks
good-tracks laws [] [] [] of tracked = tt
good-tracks laws [] [] (t ∷ tracks) of tracked = absurd tracked
good-tracks laws [] (g ∷ games) tracks of tracked = absurd of
good-tracks laws (x ∷ texts) [] tracks of tracked = absurd of
good-tracks laws (x ∷ texts) (g ∷ games) [] of tracked = absurd tracked
good-tracks laws (x ∷ texts) (g ∷ games) (t ∷ tracks) of tracked = (
  good-steps (counted_stages g) t.steps (fine-stages laws stage_limit g.root g.moves (laws.begins x g of.0) (game-legal x g of.0)) tracked.0.steps,
  good-tracks laws texts games tracks of.1 tracked.1,
)

-- the step that a track has in a position
found-good : (bytes : List ℕ) (steps : List Step) (next : Option Move) → AllByRecursion IsGood steps
    → option_map (λ step. step.next) (find (λ step. bytes_eq step.key bytes) steps) ≡ Some next → Comes bytes next
found-good bytes [] next good is = absurd (none-some next is)
found-good bytes (step ∷ steps) next good is = by (λ h. found-good bytes steps next good.1 h) (bytes_eq step.key bytes) refl is
  where
    by : (option_map (λ s. s.next) (find (λ s. bytes_eq s.key bytes) steps) ≡ Some next → Comes bytes next) → (b : Bool) → bytes_eq step.key bytes ≡ b
        → option_map (λ s. s.next) (if b then Some step else find (λ s. bytes_eq s.key bytes) steps) ≡ Some next
        → Comes bytes next
    by again true here is =
        subst (λ (n : Option Move). Comes bytes n) (same_Some step.next next is)
        (subst (λ (k : List ℕ). Comes k step.next) ((bytes_eq-Decides step.key bytes).0 here) good.0)
    by again false here is = again is

visit-good : (bytes : List ℕ) (track : Track) (next : Option Move) → IsGoodTrack track → visit bytes track ≡ Some next → Comes bytes next
unfolding visit
visit-good bytes track next good is = found-good bytes track.steps next good is

visit-next : (bytes : List ℕ) (t : Track) (row_key : RowKey) → row_keys_at bytes t ≡ Some row_key → visit bytes t ≡ Some row_key.next
unfolding row_keys_at
visit-next bytes t row_key is = by (visit bytes t) refl is
  where
    by : (v : Option (Option Move)) → visit bytes t ≡ v
        → option_map (λ next. record { key = bytes; next = next; month = t.classes.month; speed = t.classes.speed; group = t.classes.group }) v ≡ Some row_key
        → visit bytes t ≡ Some row_key.next
    by None here is = absurd (none-some row_key is)
    by (Some next) here is = here ∙ ap (λ (p : RowKey). Some p.next) (same_Some _ row_key is)

-- a game that has the row's parts plays its move in its position
row-visit : (row : Row) (t : Track) → has (row_key_of row) t ≡ true → visit row.key t ≡ Some row.next
row-visit row t is = visit-next row.key t (row_key_of row) (has-row_keys_at (row_key_of row) t is)

-- ---- the rows of a segment

pub row-comes : Laws → (segment : CountedSpan) → IsSegment segment → (row : Row) → IsIn row segment.rows → Comes row.key row.next
row-comes laws segment is row is_in =
    let tracks = is.tally.tracks in
    let some : Found (λ t. has (row_key_of row) t ≡ true) tracks =
    Found-from_Any _ tracks (All-IsIn (λ x. Any (λ t. has (row_key_of x) t ≡ true) tracks) segment.rows is.tally.tallied.some row is_in) in
    let good = good-tracks laws (texts_of segment.span.batches) is.tally.games tracks is.tally.are_games is.tally.are_tracks in
    visit-good row.key some.value row.next (recursion-IsIn IsGoodTrack tracks good some.value some.is_in) (row-visit row some.value some.holds)

pub played : Laws → (segment : CountedSpan) → IsSegment segment → AllByRecursion IsPlayed segment.rows
played laws segment is =
    recursion-from_IsIn IsPlayed segment.rows (λ row is_in.
    let comes = row-comes laws segment is row is_in in
    (tidy-valid comes.position row.key comes.valid comes.tidy, written-next comes.position row.next comes.legal))

-- ---- rows of their bytes

pub written : (rows : List Row) → AllByRecursion IsPlayed rows → AllByRecursion HasRoom rows → AreWritten rows
written [] played room = tt
written (row ∷ rows) played room = (
  record {
    writable = record {
      row_key = record { key = room.0.key; next = played.0.1; year = room.0.year; group = room.0.group };
      white = room.0.white;
      draws = room.0.draws;
      black = room.0.black;
      ratings = room.0.ratings;
      top = room.0.top;
      recent = room.0.recent;
    };
    bytes = refl;
    valid = played.0.0;
  },
  written rows played.1 room.1,
)

-- what is true of a part of a segment's rows
pub spilled : (part : Spilled) → IsSegment part.segment → AllByRecursion IsPlayed part.segment.rows → AllByRecursion HasRoom part.segment.rows
    → part.count ≡ length part.segment.rows → part.start + block_size * part.count < 2 ^ 64 → part.keys ≡ marks part.segment.rows
    → part.kept ≡ kept_of part.segment → IsSpilled part
spilled part is played room count low keys kept = record {
  is_segment = is;
  written = written part.segment.rows played room;
  count = count;
  low = low;
  index = keys;
  kept = kept;
}

-- the same where the part's segment is told
pub spilled-of : (part : Spilled) (segment : CountedSpan) → part.segment ≡ segment → IsSegment segment → AllByRecursion IsPlayed segment.rows
    → AllByRecursion HasRoom segment.rows → part.count ≡ length segment.rows → part.start + block_size * part.count < 2 ^ 64
    → part.keys ≡ marks segment.rows → part.kept ≡ kept_of segment → IsSpilled part
spilled-of part segment of is played room count low keys kept =
    let back : segment ≡ part.segment = sym of in
    spilled part (subst IsSegment back is) (subst (λ (s : CountedSpan). AllByRecursion IsPlayed s.rows) back played)
    (subst (λ (s : CountedSpan). AllByRecursion HasRoom s.rows) back room) (subst (λ (s : CountedSpan). part.count ≡ length s.rows) back count) low
    (subst (λ (s : CountedSpan). part.keys ≡ marks s.rows) back keys) (subst (λ (s : CountedSpan). part.kept ≡ kept_of s) back kept)

-- the bytes of rows
pub length-rows : (rows : List Row) → AllByRecursion HasRoom rows → length (flat_map row_bytes rows) ≡ block_size * length rows
length-rows [] room = refl
length-rows (row ∷ rows) room =
    omega (arith, length-append (row_bytes row) (flat_map row_bytes rows), length-fields row room.0.key room.0.top.few room.0.recent.few, length-rows rows room.1)
