-- Statement: how a run of the command `trial` ends.
pub mod Bytes
pub mod Segments
pub mod Trying
use Rattle.std.specs.Prelude.{◌≡◌, ℕ, List, [], ◌∷◌, ◌++◌, Ok, length, map, codes}
use Rattle.std.specs.Fmt.{decimal}
use Rattle.outside.specs.Stream.{FailsToTake, Takes}
use Rattle.explorer_model.specs.declared.answer.Found.{Found}
use Rattle.explorer_model.specs.declared.answer.Totals.{Totals}
use Rattle.explorer_model.specs.declared.archive.Batch.{Batch}
use Rattle.explorer_model.specs.declared.archive.Game.{Game}
use Rattle.explorer_model.specs.declared.chess.Move.{Move}
use Rattle.explorer_model.specs.declared.chess.Position.{Position}
use Rattle.explorer_model.specs.declared.query.Query.{Query}
use Rattle.explorer_model.specs.Chess.{after}
use Rattle.explorer_model.specs.Cuts.{cuts}
use Rattle.explorer_model.specs.Fen.{FenReads, fen_text}
use Rattle.explorer_model.specs.Finds.{IsFound}
use Rattle.explorer_model.specs.Labels.{no_label}
use Rattle.explorer_model.specs.Imports.{Accounted, groups}
use Rattle.explorer_model.specs.Query.{QueryReads}
use Rattle.explorer_model.specs.Visits.{IsTextOf, texts_of}
use Rattle.rand_pcg.specs.Lcg.{Lcg}
use Rattle.segment_blocks.specs.Segment.{CountedSpan}
use Rattle.published_index.specs.Cover.{journal_of}
use Rattle.ingest_desk.specs.Picking.{HasNoneDue}
use Rattle.sample_games.specs.Streams.{AreSamples, generator, joined}
use Rattle.explorer.specs.declared.fault.Fault.TheVariants.{OutOfMemory, WriteFault}
use Rattle.explorer.specs.Lines.{Ending, Done, Stopped}
use Rattle.explorer.specs.Trial.Segments.{AreDrained}
use Rattle.explorer.specs.World.{World}

-- ---- what a trial comes to

-- the texts are those of the sample games 0 to `games` - 1, drawn from the seed
pub record AreSamplesOf (games seed : ℕ) (texts : List (List ℕ)) : Type 0 where
  pub behind : Lcg
  pub drawn : AreSamples 0 (generator seed) texts behind
  pub count : length texts ≡ games

-- The texts were imported as one stream into a new store. It has them all, in their order, and
-- nothing was refused.
pub record StoresTexts (texts : List (List ℕ)) (batches : List Batch) : Type 0 where
  pub accounted : Accounted no_label [] (groups (cuts (joined texts))) batches []
  pub texts_are : texts_of batches ≡ texts

-- how many games batches have, and segments
abbrev pub batch_sizes : List Batch → List ℕ
batch_sizes batches = map (λ batch. length batch.texts) batches

abbrev pub segment_sizes : List CountedSpan → List ℕ
segment_sizes segments = map (λ segment. length segment.classes) segments

-- The segments have the batches, and no neighbours among them are to become one. How many games
-- each has is what batches of so many come to, one behind another.
pub record IsDrained (batches : List Batch) (segments : List CountedSpan) : Type 0 where
  pub covers : journal_of segments ≡ batches
  pub none_due : HasNoneDue segments
  pub drained : AreDrained (batch_sizes batches) (segment_sizes segments)

-- what is found over the batches for the query that asks nothing
pub record IsFoundByDefault (batches : List Batch) (found : Found) : Type 0 where
  pub query : Query
  pub asks : QueryReads [] (Ok query)
  pub is_found : IsFound batches query found

-- the position that moves lead to
abbrev pub position_behind : Position → List Move → Position
position_behind p [] = p
position_behind p (m ∷ moves) = position_behind (after p m) moves

-- the text is the written form of the position in which the last of these games ends
pub record TellsLast (texts : List (List ℕ)) (fen : List ℕ) : Type 0 where
  pub earlier : List (List ℕ)
  pub text : List ℕ
  pub texts_are : texts ≡ earlier ++ text ∷ []
  pub game : Game
  pub is_game : IsTextOf text game
  pub fen_is : fen ≡ fen_text (position_behind game.root game.moves)
  pub reads : FenReads fen (Ok (position_behind game.root game.moves))

-- ---- what is printed

-- a name, a space, a value and a line end
abbrev pub line : List ℕ → List ℕ → List ℕ
line name value = name ++ codes " " ++ value ++ codes "\n"

abbrev pub summary : ℕ → ℕ → ℕ → Totals → List ℕ → List ℕ
summary games batches segments totals fen =
    line (codes "games") (decimal games) ++ line (codes "batches") (decimal batches)
    ++ line (codes "segments") (decimal segments) ++ line (codes "white") (decimal totals.white)
    ++ line (codes "draws") (decimal totals.draws) ++ line (codes "black") (decimal totals.black)
    ++ line (codes "last") fen

-- The lines tell of a trial: how many batches and segments the sample games make, the totals of the
-- default query over them, and where the last of them ends.
pub record TellsTrial (games seed : ℕ) (lines : List ℕ) : Type 0 where
  pub texts : List (List ℕ)
  pub are_samples : AreSamplesOf games seed texts
  pub batches : List Batch
  pub stores : StoresTexts texts batches
  pub segments : List CountedSpan
  pub drained : IsDrained batches segments
  pub found : Found
  pub is_found : IsFoundByDefault batches found
  pub fen : List ℕ
  pub tells_last : TellsLast texts fen
  pub lines_are : lines ≡ summary games (length batches) (length segments) found.totals fen

-- ---- the endings

-- it was done, its lines were written so, and nothing else was
pub record Tries (Wrote : List ℕ → Type 0) (games seed : ℕ) (before after : World) : Type 0 where
  pub lines : List ℕ
  pub tells : TellsTrial games seed lines
  pub wrote : Wrote lines
  pub rest : after ≡ record before { output = after.output }

-- a run of `trial` by its ending; no other can be
abbrev pub TriesBy : ℕ → ℕ → World → World → Ending → Type 0
TriesBy games seed before after Done =
    Tries (λ lines. Takes lines before.output after.output) games seed before after
TriesBy games seed before after (Stopped WriteFault) =
    Tries (λ lines. FailsToTake lines before.output after.output) games seed before after
TriesBy games seed before after (Stopped OutOfMemory) = after ≡ before
TriesBy games seed before after (Stopped _) = ⊥
