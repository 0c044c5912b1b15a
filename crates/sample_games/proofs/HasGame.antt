-- Each sample is read as its game.
use Rattle.std.proofs.Common.{◌≡◌, ℕ, zero, suc, ◌+◌, ◌≤◌, true, nat_le, List, [], ◌∷◌, ◌++◌, length, map, slice_get, Contains, Option, Some, None, Result, Ok, codes, decimal, refl, sym, ap, ◌∙◌, subst, arith, inl, inr}
use Rattle.std.proofs.lemmas.Bool.Decides.{nat_tests}
use Rattle.std.proofs.lemmas.List.{append_assoc}
use Rattle.std.proofs.lemmas.Option.{same_Some}
use Rattle.explorer_model.specs.declared.archive.Classes.{Classes}
use Rattle.explorer_model.specs.declared.archive.Ending.{Ending}
use Rattle.explorer_model.specs.declared.archive.Game.{Game}
use Rattle.explorer_model.specs.declared.archive.Outcome.{Outcome}
use Rattle.explorer_model.specs.declared.archive.Tag.{Tag}
use Rattle.explorer_model.specs.declared.archive.Token.{Token}
use Rattle.explorer_model.specs.declared.chess.Move.{Move}
use Rattle.explorer_model.specs.declared.chess.Position.{Position}
use Rattle.explorer_model.specs.declared.fault.GameFault.{GameFault}
use Rattle.explorer_model.specs.Chess.{IsValid, Legal, start, after}
use Rattle.explorer_model.specs.Classes.{classes, start_text}
use Rattle.explorer_model.specs.Games.{Tagged, tagged, Score, score, RootReads, ScoreOfTagged, ScoreOf, ends_with, Plays}
use Rattle.explorer_model.specs.Items.{items, name_at}
use Rattle.explorer_model.specs.Parts.{Section, Heading, parts}
use Rattle.explorer_model.specs.Visits.{AreLegalFrom}
use Rattle.legal_moves.proofs.StartIsValid.{start_is_valid}
use Rattle.rand_pcg.specs.Lcg.{Lcg}
use Rattle.sample_games.specs.Samples.{Header, drawn, later, DrawsMoves, header_drawn, header_text, id_text, player_text, date_text, IsSample, HasGame}
use Rattle.sample_games.proofs.HeaderLines.{grouped}
use Rattle.sample_games.proofs.MovetextLemmas.{AreSan, ReadsAs, WrittenIsRead, reads-moves, plays-san}
use Rattle.sample_games.proofs.Pairs.{reads-tag}
use Rattle.sample_games.proofs.Symbols.{Parted, Reads, IsOpen, heading-open, reads-ending, reads-line, reads-end}
use Rattle.sample_games.proofs.Tags.{IsResult, IsSound, HasClasses, sound, classes-are, tags_of, site-plain, player-plain, decimal-plain}

-- ---- moves that are drawn

picked-contains : (moves : List Move) (k : ℕ) (m : Move) → slice_get moves k ≡ Some m → Contains moves m
picked-contains [] k m e = absurd (grind (arith, e))
picked-contains (o ∷ moves) zero m e = (0, omega arith, same_Some o m e)
picked-contains (o ∷ moves) (suc k) m e =
    let later_on : Contains moves m = picked-contains moves k m e in
    (suc later_on.0, omega (arith, later_on.1), later_on.2)

pub record IsDrawn (plies : ℕ) (p : Position) (moves : List Move) : Type 0 where
  pub legal : AreLegalFrom p moves
  pub few : length moves ≤ plies

no-moves : (plies : ℕ) (p : Position) (moves : List Move) → moves ≡ [] → IsDrawn plies p moves
no-moves plies p moves none = subst (IsDrawn plies p) (sym none) (record { legal = tt; few = omega arith })

pub drawn-legal : (plies : ℕ) (p : Position) (before : Lcg) (moves : List Move) (behind : Lcg) → DrawsMoves plies p before moves behind → IsDrawn plies p moves
drawn-legal zero p before moves behind draws = no-moves zero p moves draws.0
drawn-legal (suc plies) p before moves behind (inl ends) = no-moves (suc plies) p moves ends.1
drawn-legal (suc plies) p before moves behind (inr (legal, m, rest, order, picks, draws, is)) =
    let more : IsDrawn plies (after p m) rest = drawn-legal plies (after p m) (later before) rest behind draws in
    subst (IsDrawn (suc plies) p) (sym is)
    (record { legal = ((order.each m).0 (picked-contains legal _ m picks), more.legal); few = omega (arith, more.few) })

-- ---- what is read

module _ (index : ℕ) (header : Header) (s : IsSound header) (rest : List ℕ) (texts : List (List ℕ)) (ending : Ending) (behind : Reads Heading rest [] texts ending) where
  reads-header : Reads Heading (header_text index header ++ rest) (tags_of index header) texts ending
  unfolding name_at
  reads-header =
      subst (λ (bytes : List ℕ). Reads Heading bytes (tags_of index header) texts ending) (sym (grouped index header rest))
      (reads-tag (codes "Event") (codes "Rated sample game") (λ more. refl) refl _ _ texts ending
      (reads-tag (codes "Site") (codes "https://lichess.org/" ++ id_text index) (λ more. refl) (site-plain index) _ _ texts ending
      (reads-tag (codes "White") (player_text 119 index) (λ more. refl) (player-plain 119 index refl) _ _ texts ending
      (reads-tag (codes "Black") (player_text 98 index) (λ more. refl) (player-plain 98 index refl) _ _ texts ending
      (reads-tag (codes "Result") header.result (λ more. refl) s.result.plain _ _ texts ending
      (reads-tag (codes "UTCDate") (date_text header.month) (λ more. refl) s.date.plain _ _ texts ending
      (reads-tag (codes "WhiteElo") (decimal header.white_rating) (λ more. refl) (decimal-plain header.white_rating (omega (arith, s.white))) _ _ texts ending
      (reads-tag (codes "BlackElo") (decimal header.black_rating) (λ more. refl) (decimal-plain header.black_rating (omega (arith, s.black))) _ _ texts ending
      (reads-tag (codes "TimeControl") header.time_control (λ more. refl) s.control.plain rest [] texts ending behind)))))))))

reads-result : (text : List ℕ) (result : IsResult text) (section : Section) → IsOpen section → Reads section (text ++ codes "\n\n") [] [] result.ending
reads-result text result section is_open =
    subst (λ (bytes : List ℕ). Reads section (bytes ++ codes "\n\n") [] [] result.ending) (sym result.is)
    (reads-ending section is_open result.first result.more 10 (10 ∷ []) result.symbol refl [] [] result.ending result.ending result.kind (reads-end result.ending))

-- ---- the score

same-length : (p : Position) (moves : List Move) (texts : List (List ℕ)) → AreSan p moves texts → length texts ≡ length moves
same-length p [] [] are = refl
same-length p [] (text ∷ texts) are = absurd are
same-length p (m ∷ moves) [] are = absurd are
same-length p (m ∷ moves) (text ∷ texts) are = ap suc (same-length (after p m) moves texts are.1)

tokens-length : (tokens : List Token) → length (map (λ (token : Token). token.text) tokens) ≡ length tokens
tokens-length [] = refl
tokens-length (token ∷ tokens) = ap suc (tokens-length tokens)

-- the score of a text that begins in the starting position
abbrev from_start : Classes → List Token → Score
from_start found tokens = record { classes = found; root = start; tokens = tokens }

score-is : (text : List ℕ) (tags : List Tag) (texts : List (List ℕ)) (ending : Ending) (found : Classes) (parted : Parted (parts text) tags texts ending) → classes tags ≡ Ok found
    → start_text tags ≡ None → ends_with found.outcome ending ≡ true → length parted.found.tokens ≤ 1024 → ScoreOf text (Ok (from_start found parted.found.tokens))
unfolding tagged score
score-is text tags texts ending found parted says none agrees few =
    let told : classes parted.found.tags ≡ Ok found = ap classes parted.tags_are ∙ says in
    let within : nat_le (length parted.found.tokens) 1024 ≡ true = grind (arith, nat_tests, few) in
    let is_tagged : tagged text ≡ Ok (record { parts = parted.found; classes = found }) = rw (parted.is, told) refl in
    let is_scored : Ok (from_start found parted.found.tokens) ≡ score (record { parts = parted.found; classes = found }) start = rw (parted.ends, agrees, within) refl in
    let R : Option (List ℕ) → Type 0 = λ o. RootReads o (Ok start) in
    let begins : R (start_text parted.found.tags) = subst R (sym (ap start_text parted.tags_are ∙ none)) refl in
    let P : Result Tagged GameFault → Type 0 = λ r. ScoreOfTagged r (Ok (from_start found parted.found.tokens)) in
    subst P (sym is_tagged) (Ok start, begins, is_scored)

-- ---- the game

module _ (reads : WrittenIsRead) (stays : (p : Position) (m : Move) → IsValid p → Legal p m → IsValid (after p m)) where
  pub has-game : (index : ℕ) (before behind : Lcg) (text : List ℕ) (sample : IsSample index before text behind) → HasGame index text sample.moves
  unfolding parts items
  has-game index before behind text sample =
      let header : Header = header_drawn sample.played in
      let s : IsSound header = sound sample.played in
      let drawing : IsDrawn (20 + drawn 41 before) start sample.moves = drawn-legal (20 + drawn 41 before) start (later before) sample.moves sample.played sample.draws in
      let few : length sample.moves ≤ 60 = omega (arith, drawing.few) in
      let moves : ReadsAs start sample.moves Heading (sample.movetext ++ (header.result ++ codes "\n\n")) s.result.ending =
      reads-moves start 0 sample.moves sample.movetext (header.result ++ codes "\n\n") s.result.ending sample.writes (omega (arith, few)) (reads-result header.result s.result) Heading heading-open in
      let tail : Reads Heading (10 ∷ (sample.movetext ++ (header.result ++ codes "\n\n"))) [] moves.texts s.result.ending =
      reads-line (sample.movetext ++ (header.result ++ codes "\n\n")) [] moves.texts s.result.ending moves.reads in
      let whole : Reads Heading (header_text index header ++ (10 ∷ (sample.movetext ++ (header.result ++ codes "\n\n")))) (tags_of index header) moves.texts s.result.ending =
      reads-header index header s (10 ∷ (sample.movetext ++ (header.result ++ codes "\n\n"))) moves.texts s.result.ending tail in
      let same : header_text index header ++ (10 ∷ (sample.movetext ++ (header.result ++ codes "\n\n"))) ≡ text =
      sym (sample.text_is
      ∙ (append_assoc (header_text index header ++ codes "\n" ++ sample.movetext) header.result (codes "\n\n")
      ∙ (append_assoc (header_text index header ++ codes "\n") sample.movetext (header.result ++ codes "\n\n")
      ∙ append_assoc (header_text index header) (codes "\n") (sample.movetext ++ (header.result ++ codes "\n\n"))))) in
      let parted : Parted (parts text) (tags_of index header) moves.texts s.result.ending =
      (subst (λ (bytes : List ℕ). Reads Heading bytes (tags_of index header) moves.texts s.result.ending) same whole) true 0 in
      let told : HasClasses index header s.result.outcome = classes-are index header s in
      let agrees : ends_with told.found.outcome s.result.ending ≡ true = ap (λ (o : Outcome). ends_with o s.result.ending) told.outcome_is ∙ s.result.agrees in
      let short : length parted.found.tokens ≤ 1024 =
      omega (arith, few, same-length start sample.moves moves.texts moves.are, ap (λ (ts : List (List ℕ)). length ts) parted.texts_are, tokens-length parted.found.tokens) in
      let are : AreSan start sample.moves (map (λ (token : Token). token.text) parted.found.tokens) = subst (AreSan start sample.moves) (sym parted.texts_are) moves.are in
      let plays : Plays start 1 parted.found.tokens (Ok sample.moves) = plays-san reads stays start 1 sample.moves parted.found.tokens start_is_valid drawing.legal are in
      let game : Game = record { classes = told.found; root = start; moves = sample.moves } in
      let scored = score-is text (tags_of index header) moves.texts s.result.ending told.found parted told.is refl agrees short in
      record {
        game = game;
        of_text = (Ok (from_start told.found parted.found.tokens), scored, (Ok sample.moves, plays, refl));
        root_is = refl;
        moves_are = refl;
        id_is = told.id;
      }
