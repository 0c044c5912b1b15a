-- Statement. Sample games: what is drawn of the game of a number, and how it is written as PGN.
use Rattle.std.specs.Prelude.{◌≡◌, ◌≢◌, ◌↔◌, ◌⊎◌, ℕ, zero, suc, ◌+◌, ◌/◌, ◌%◌, List, [], ◌∷◌, ◌++◌, length, Some, codes, decimal, slice_get, slice_index_or, ◌==◌, if◌then◌else◌, Contains, AllPairs, IsSortedByKey}
use Rattle.std.specs.Cmp.Lexicographic.{slice_cmp}
use Rattle.std.specs.Ordering.{nat_cmp}
use Rattle.std.specs.Str.{byte}
use Rattle.explorer_model.specs.declared.archive.Game.{Game}
use Rattle.explorer_model.specs.declared.chess.Move.{Move}
use Rattle.explorer_model.specs.declared.chess.Position.{Position}
use Rattle.explorer_model.specs.Chess.{start, after, Legal}
use Rattle.explorer_model.specs.San.{SanText}
use Rattle.explorer_model.specs.Uci.{uci_text}
use Rattle.explorer_model.specs.Visits.{IsTextOf}
use Rattle.rand_pcg.specs.Lcg.{Lcg}
use Rattle.rand_pcg.specs.Pcg.{pcg32}

-- ---- draws

-- a draw below n: the generator's next word, modulo n
abbrev pub drawn : ℕ → Lcg → ℕ
drawn n draws = (pcg32 draws).0 % n

-- the generator behind one draw
abbrev pub later : Lcg → Lcg
later draws = (pcg32 draws).1

-- the text that a draw picks from a list
abbrev pub picked : List (List ℕ) → Lcg → List ℕ
picked texts draws = slice_index_or texts (drawn (length texts) draws) []

-- ---- moves

-- the legal moves of the position, each once, in the ascending order of their UCI texts
pub record InUciOrder (p : Position) (moves : List Move) : Type 0 where
  pub each : (m : Move) → Contains moves m ↔ Legal p m
  pub once : AllPairs (λ a b. a ≢ b) moves
  pub ascending : IsSortedByKey uci_text (slice_cmp nat_cmp) moves

-- that many moves are drawn from the position on; they end where there is no legal move, without
-- a draw
abbrev pub DrawsMoves : ℕ → Position → Lcg → List Move → Lcg → Type 0
DrawsMoves zero p before moves behind = (moves ≡ []) × (behind ≡ before)
DrawsMoves (suc plies) p before moves behind =
    (((m : Move) → ¬ Legal p m) × (moves ≡ []) × (behind ≡ before))
    ⊎ ((legal : List Move) × (m : Move) × (rest : List Move) × InUciOrder p legal
    × (slice_get legal (drawn (length legal) before) ≡ Some m)
    × DrawsMoves plies (after p m) (later before) rest behind × (moves ≡ m ∷ rest))

-- the number of a move stands before White's; the first ply is 0
abbrev pub number_text : ℕ → List ℕ
number_text ply = if ply % 2 == 0 then decimal (ply / 2 + 1) ++ codes ". " else []

-- the moves from the position on in SAN, each with a space behind it
abbrev pub WritesMoves : Position → ℕ → List Move → List ℕ → Type 0
WritesMoves p ply [] text = text ≡ []
WritesMoves p ply (m ∷ moves) text =
    (san : List ℕ) × (rest : List ℕ) × SanText p m san
    × WritesMoves (after p m) (ply + 1) moves rest
    × (text ≡ number_text ply ++ san ++ codes " " ++ rest)

-- ---- tags

abbrev pub results : List (List ℕ)
results = codes "1-0" ∷ codes "0-1" ∷ codes "1/2-1/2" ∷ []

abbrev pub time_controls : List (List ℕ)
time_controls =
    codes "15+0" ∷ codes "60+0" ∷ codes "180+2" ∷ codes "600+0" ∷ codes "1800+0" ∷ codes "-" ∷ []

-- what is drawn of a game besides its moves
pub record Header : Type 0 where
  pub result : List ℕ
  pub white_rating : ℕ
  pub black_rating : ℕ
  pub month : ℕ
  pub time_control : List ℕ

abbrev pub rating_drawn : Lcg → ℕ
rating_drawn draws = 800 + drawn 2000 draws

-- the five draws behind the moves
abbrev pub header_drawn : Lcg → Header
header_drawn draws =
    let white = later draws in
    let black = later white in
    let month = later black in
    record {
      result = picked results draws;
      white_rating = rating_drawn white;
      black_rating = rating_drawn black;
      month = 1 + drawn 12 month;
      time_control = picked time_controls (later month);
    }

abbrev pub behind_header : Lcg → Lcg
behind_header draws = later (later (later (later (later draws))))

-- the decimal digit of the number that counts this unit
abbrev pub digit : ℕ → ℕ → ℕ
digit number unit = byte "0" + number / unit % 10

-- `s` and the number in seven digits
abbrev pub id_text : ℕ → List ℕ
id_text index =
    byte "s" ∷ digit index 1000000 ∷ digit index 100000 ∷ digit index 10000 ∷ digit index 1000
    ∷ digit index 100 ∷ digit index 10 ∷ digit index 1 ∷ []

-- a letter for the color, and the number's last two digits without a leading zero
abbrev pub player_text : ℕ → ℕ → List ℕ
player_text letter index = letter ∷ decimal (index % 100)

abbrev pub date_text : ℕ → List ℕ
date_text month = codes "2020." ++ digit month 10 ∷ digit month 1 ∷ codes ".15"

abbrev pub tag_line : List ℕ → List ℕ → List ℕ
tag_line name value = codes "[" ++ name ++ codes " \"" ++ value ++ codes "\"]\n"

abbrev pub header_text : ℕ → Header → List ℕ
header_text index header =
    tag_line (codes "Event") (codes "Rated sample game")
    ++ tag_line (codes "Site") (codes "https://lichess.org/" ++ id_text index)
    ++ tag_line (codes "White") (player_text (byte "w") index)
    ++ tag_line (codes "Black") (player_text (byte "b") index)
    ++ tag_line (codes "Result") header.result
    ++ tag_line (codes "UTCDate") (date_text header.month)
    ++ tag_line (codes "WhiteElo") (decimal header.white_rating)
    ++ tag_line (codes "BlackElo") (decimal header.black_rating)
    ++ tag_line (codes "TimeControl") header.time_control

-- ---- the game

-- The text is that of the game of this number, drawn from the generator as it is before, which is
-- then as behind.
pub record IsSample (index : ℕ) (before : Lcg) (text : List ℕ) (behind : Lcg) : Type 0 where
  pub moves : List Move
  pub movetext : List ℕ
  -- the generator behind the moves
  pub played : Lcg
  pub draws : DrawsMoves (20 + drawn 41 before) start (later before) moves played
  pub writes : WritesMoves start 0 moves movetext
  pub text_is : text ≡ header_text index (header_drawn played) ++ codes "\n"
      ++ movetext ++ (header_drawn played).result ++ codes "\n\n"
  pub behind_is : behind ≡ behind_header played

-- the text has a game: the moves from the starting position, under the id of the number
pub record HasGame (index : ℕ) (text : List ℕ) (moves : List Move) : Type 0 where
  pub game : Game
  pub of_text : IsTextOf text game
  pub root_is : game.root ≡ start
  pub moves_are : game.moves ≡ moves
  pub id_is : game.classes.id.bytes ≡ id_text index
