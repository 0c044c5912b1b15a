-- What is found in a journal is plain: SAN is written in ASCII, and an id is letters and digits.
use Rattle.std.proofs.Common.{◌≡◌, ℕ, zero, suc, ◌+◌, ◌<◌, Bool, true, false, if◌then◌else◌, List, [], ◌∷◌, ◌++◌, map, filter_map, Option, Some, None, IfSome, sym, subst, inl, inr, arith}
use Rattle.std.specs.List.{All, AllByRecursion, AllZip, enumerate_from, cons_option}
use Rattle.std.specs.Str.{IsAscii}
use Rattle.std.proofs.lemmas.List.Elements.{All-from_recursion}
use Rattle.std.proofs.lemmas.Str.{IsAscii-append}
use Rattle.std.proofs.lemmas.Str.Ascii.{IsAscii-nil}
use Rattle.explorer_model.specs.Best.{best, best_one, others, better, worse}
use Rattle.explorer_model.specs.declared.answer.Found.{Found}
use Rattle.explorer_model.specs.declared.answer.Listed.{Listed}
use Rattle.explorer_model.specs.declared.answer.MoveLine.{MoveLine}
use Rattle.explorer_model.specs.declared.archive.Batch.{Batch}
use Rattle.explorer_model.specs.declared.archive.Classes.{Classes}
use Rattle.explorer_model.specs.declared.archive.Game.{Game}
use Rattle.explorer_model.specs.declared.chess.Move.{Move}
use Rattle.explorer_model.specs.declared.chess.Position.{Position}
use Rattle.explorer_model.specs.declared.chess.Role.{Role}
use Rattle.explorer_model.specs.declared.chess.Role.TheVariants.{Pawn, Knight, Bishop, Rook, Queen, King}
use Rattle.explorer_model.specs.declared.chess.Side.{Side}
use Rattle.explorer_model.specs.declared.chess.Side.TheVariants.{Short, Long}
use Rattle.explorer_model.specs.declared.notation.CheckMark.{CheckMark}
use Rattle.explorer_model.specs.declared.notation.CheckMark.TheVariants.{Quiet, Check, Mate}
use Rattle.explorer_model.specs.declared.notation.Start.{Start}
use Rattle.explorer_model.specs.declared.notation.Start.TheVariants as starts
use Rattle.explorer_model.specs.declared.player.PlayerFound.{PlayerFound}
use Rattle.explorer_model.specs.declared.player.PlayerQuery.{PlayerQuery}
use Rattle.explorer_model.specs.declared.query.Query.{Query}
use Rattle.explorer_model.specs.Counting.{NumberedGame, game_of_move, game_with_move, game_with_move_by, games_with_move, listed, the_only, is_same_move, passes}
use Rattle.explorer_model.specs.Finds.{IsLineOf, IsRecount, IsFound}
use Rattle.explorer_model.specs.Letters.{letter_of, file_letter, rank_digit, square_text}
use Rattle.explorer_model.specs.Players.{IsPlayerFound, IsPlayerLineOf, IsPlayerRecount, is_wanted}
use Rattle.explorer_model.specs.San.{role_text, start_text, capture_text, promotion_text, castling_text, mark_text, named_text, captures, MoveText, SanText}
use Rattle.explorer_model.specs.SoundClasses.{AreSoundClasses}
use Rattle.explorer_model.specs.Visits.{GameAt, IsTextOf, IsGameAt, texts_of}
use Rattle.explorer_model.proofs.Lists.{filter-have}
use Rattle.explorer_model.proofs.SoundClasses.{game-sound}
use Rattle.answer_json.specs.Plain.{HasPlainId, IsPlainGame, IsPlainLine, IsPlainFound, IsPlainPlayerFound, IsPlainPlayerLine}

-- ---- SAN

abbrev AreLow : List ℕ → Type 0
AreLow [] = Unit {0}
AreLow (b ∷ bytes) = (b < 128) × AreLow bytes

low-ascii : (bytes : List ℕ) → AreLow bytes → IsAscii bytes
low-ascii [] low i = IsAscii-nil i
low-ascii (b ∷ bytes) low zero = low.0
low-ascii (b ∷ bytes) low (suc i) = low-ascii bytes low.1 i

letter-low : (role : Role) → letter_of role < 128
letter-low Pawn = omega arith
letter-low Knight = omega arith
letter-low Bishop = omega arith
letter-low Rook = omega arith
letter-low Queen = omega arith
letter-low King = omega arith

file-low : (s : ℕ) → file_letter s < 128
file-low s = omega arith

rank-low : (s : ℕ) → s < 64 → rank_digit s < 128
rank-low s on = omega (arith, on)

role-ascii : (role : Role) → IsAscii (role_text role)
role-ascii Pawn = IsAscii-nil
role-ascii Knight = low-ascii (letter_of Knight ∷ []) (letter-low Knight, tt)
role-ascii Bishop = low-ascii (letter_of Bishop ∷ []) (letter-low Bishop, tt)
role-ascii Rook = low-ascii (letter_of Rook ∷ []) (letter-low Rook, tt)
role-ascii Queen = low-ascii (letter_of Queen ∷ []) (letter-low Queen, tt)
role-ascii King = low-ascii (letter_of King ∷ []) (letter-low King, tt)

square-ascii : (s : ℕ) → s < 64 → IsAscii (square_text s)
square-ascii s on = low-ascii (square_text s) (file-low s, (rank-low s on, tt))

start-ascii : (start : Start) (s : ℕ) → s < 64 → IsAscii (start_text start s)
start-ascii starts.Unnamed s on = IsAscii-nil
start-ascii starts.File s on = low-ascii (file_letter s ∷ []) (file-low s, tt)
start-ascii starts.Rank s on = low-ascii (rank_digit s ∷ []) (rank-low s on, tt)
start-ascii starts.Square s on = square-ascii s on

capture-ascii : (takes : Bool) → IsAscii (capture_text takes)
capture-ascii true = low-ascii (120 ∷ []) (omega arith, tt)
capture-ascii false = IsAscii-nil

promotion-ascii : (promotion : Option Role) → IsAscii (promotion_text promotion)
promotion-ascii None = IsAscii-nil
promotion-ascii (Some role) = low-ascii (61 ∷ letter_of role ∷ []) (omega arith, (letter-low role, tt))

castling-ascii : (side : Side) → IsAscii (castling_text side)
castling-ascii Short = low-ascii (79 ∷ 45 ∷ 79 ∷ []) (omega arith, (omega arith, (omega arith, tt)))
castling-ascii Long = low-ascii (79 ∷ 45 ∷ 79 ∷ 45 ∷ 79 ∷ []) (omega arith, (omega arith, (omega arith, (omega arith, (omega arith, tt)))))

mark-ascii : (mark : CheckMark) → IsAscii (mark_text mark)
mark-ascii Quiet = IsAscii-nil
mark-ascii Check = low-ascii (43 ∷ []) (omega arith, tt)
mark-ascii Mate = low-ascii (35 ∷ []) (omega arith, tt)

named-ascii : (p : Position) (m : Move) (role : Role) (start : Start) → IsAscii (named_text p m role start)
named-ascii p m role start =
    let begins : List ℕ = role_text role ++ start_text start m.from.index in
    let takes : List ℕ = begins ++ capture_text (captures p m) in
    let ends : List ℕ = takes ++ square_text m.to.index in
    IsAscii-append ends (promotion_text m.promotion)
    (IsAscii-append takes (square_text m.to.index)
    (IsAscii-append begins (capture_text (captures p m))
    (IsAscii-append (role_text role) (start_text start m.from.index) (role-ascii role) (start-ascii start m.from.index m.from.on_board))
    (capture-ascii (captures p m)))
    (square-ascii m.to.index m.to.on_board))
    (promotion-ascii m.promotion)

move-ascii : (p : Position) (m : Move) (text : List ℕ) → MoveText p m text → IsAscii text
move-ascii p m text (inl castles) = let A : List ℕ → Type 0 = λ t. IsAscii t in subst A (sym castles.1) (castling-ascii _)
move-ascii p m text (inr named) = let A : List ℕ → Type 0 = λ t. IsAscii t in subst A (sym named.1.4) (named-ascii p m named.1.0 named.1.1)

san-ascii : (p : Position) (m : Move) (text : List ℕ) → SanText p m text → IsAscii text
san-ascii p m text san =
    let A : List ℕ → Type 0 = λ t. IsAscii t in
    subst A (sym san.4) (IsAscii-append san.0 (mark_text san.1) (move-ascii p m san.0 san.2) (mark-ascii san.1))

-- ---- the ids of games

abbrev HasPlain : Classes → Type 0
HasPlain found = IsAscii found.id.bytes

game-plain : (text : List ℕ) (game : Game) → IsTextOf text game → HasPlain game.classes
game-plain text game of = (game-sound text game of).id

-- ---- what is seen and listed

abbrev IsPlainGameAt : GameAt → Type 0
IsPlainGameAt games_at = HasPlain games_at.classes

abbrev IsPlainNumberedGame : NumberedGame → Type 0
IsPlainNumberedGame s = HasPlain s.classes

games_at-plain : (at : Position) (texts : List (List ℕ)) (games : List Game) (games_at : List GameAt) → AllZip IsTextOf texts games → AllZip (IsGameAt at) games games_at
    → AllByRecursion IsPlainGameAt games_at
games_at-plain at [] [] [] of is = tt
games_at-plain at [] [] (s ∷ games_at) of is = absurd is
games_at-plain at [] (g ∷ games) games_at of is = absurd of
games_at-plain at (t ∷ texts) [] games_at of is = absurd of
games_at-plain at (t ∷ texts) (g ∷ games) [] of is = absurd is
games_at-plain at (t ∷ texts) (g ∷ games) (s ∷ games_at) of is =
    let P : Classes → Type 0 = λ c. HasPlain c in
    (subst P (sym is.0.0) (game-plain t g of.0), games_at-plain at texts games games_at of.1 is.1)

game_with_move-plain : (passed : Bool) (number : ℕ) (classes : Classes) (visit : Option (Option Move)) → HasPlain classes → IfSome (game_with_move_by passed number classes visit) IsPlainNumberedGame
game_with_move-plain true number classes (Some (Some next)) plain = plain
game_with_move-plain true number classes (Some None) plain = tt
game_with_move-plain true number classes None plain = tt
game_with_move-plain false number classes visit plain = tt

cons-some : (o : Option NumberedGame) (rest : List NumberedGame) → IfSome o IsPlainNumberedGame → AllByRecursion IsPlainNumberedGame rest
    → AllByRecursion IsPlainNumberedGame (cons_option o rest)
cons-some None rest plain each = each
cons-some (Some s) rest plain each = (plain, each)

games_with_move-plain : (wanted : Classes → Bool) (first : ℕ) (games_at : List GameAt) → AllByRecursion IsPlainGameAt games_at
    → AllByRecursion IsPlainNumberedGame (filter_map (game_with_move wanted) (enumerate_from first games_at))
games_with_move-plain wanted first [] each = tt
games_with_move-plain wanted first (s ∷ games_at) each =
    cons-some (game_with_move wanted (first, s)) (filter_map (game_with_move wanted) (enumerate_from (first + 1) games_at))
    (game_with_move-plain (wanted s.classes) first s.classes s.visit each.0) (games_with_move-plain wanted (first + 1) games_at each.1)

wanted-plain : (wanted : Classes → Bool) (games_at : List GameAt) → AllByRecursion IsPlainGameAt games_at
    → AllByRecursion IsPlainNumberedGame (games_with_move wanted games_at)
unfolding games_with_move
wanted-plain wanted games_at plain = games_with_move-plain wanted 0 games_at plain

-- ---- the best of plain sightings

module _ {X : Type 0} (P : X → Type 0) (before : X → X → Bool) where
  better-has : (x y : X) → P x → P y → P (better before x y)
  better-has x y px py = by (before y x)
    where
      by : (b : Bool) → P (if b then y else x)
      by true = py
      by false = px

  worse-has : (x y : X) → P x → P y → P (worse before x y)
  worse-has x y px py = by (before y x)
    where
      by : (b : Bool) → P (if b then x else y)
      by true = px
      by false = py

  one-has : (x : X) (ys : List X) → P x → AllByRecursion P ys → P (best_one before x ys)
  unfolding best_one
  one-has x [] px each = px
  one-has x (y ∷ ys) px each = one-has (better before x y) ys (better-has x y px each.0) each.1

  others-have : (x : X) (ys : List X) → P x → AllByRecursion P ys → AllByRecursion P (others before x ys)
  unfolding others
  others-have x [] px each = tt
  others-have x (y ∷ ys) px each = (worse-has x y px each.0, others-have (better before x y) ys (better-has x y px each.0) each.1)

  best-have : (n : ℕ) (xs : List X) → AllByRecursion P xs → AllByRecursion P (best before n xs)
  unfolding best
  best-have zero xs each = tt
  best-have (suc n) [] each = tt
  best-have (suc n) (x ∷ xs) each = (one-has x xs each.0 each.1, best-have n (others before x xs) (others-have x xs each.0 each.1))

listed-plain : (games_with_move_of : List NumberedGame) → AllByRecursion IsPlainNumberedGame games_with_move_of → AllByRecursion HasPlainId (map listed games_with_move_of)
listed-plain [] each = tt
listed-plain (s ∷ games_with_move_of) each = (each.0, listed-plain games_with_move_of each.1)

only-plain : (games_with_move_of : List NumberedGame) → AllByRecursion IsPlainNumberedGame games_with_move_of → IsPlainGame (the_only games_with_move_of)
only-plain [] each = tt
only-plain (s ∷ []) each = each.0
only-plain (s ∷ t ∷ games_with_move_of) each = tt

-- the game of a move that is one game's is plain
game-of-move-plain : (m : Move) (wanted : Classes → Bool) (games_at : List GameAt) (game : Option Listed)
    → AllByRecursion IsPlainNumberedGame (games_with_move wanted games_at) → game ≡ game_of_move m wanted games_at → IsPlainGame game
game-of-move-plain m wanted games_at game plain is =
    let G : Option Listed → Type 0 = λ game. IsPlainGame game in
    subst G (sym is) (only-plain _ (filter-have IsPlainNumberedGame (λ s. is_same_move m s.next) (games_with_move wanted games_at) plain))

-- lines that are plain each by what they are are plain
lines-plain : {L : Type 0} (IsLine : Move → L → Type 0) (IsPlain : L → Type 0) → ((m : Move) (line : L) → IsLine m line → IsPlain line)
    → (moves : List Move) (lines : List L) → AllZip IsLine moves lines → AllByRecursion IsPlain lines
lines-plain IsLine IsPlain plain [] [] each = tt
lines-plain IsLine IsPlain plain [] (line ∷ lines) each = absurd each
lines-plain IsLine IsPlain plain (m ∷ moves) [] each = absurd each
lines-plain IsLine IsPlain plain (m ∷ moves) (line ∷ lines) each = (plain m line each.0, lines-plain IsLine IsPlain plain moves lines each.1)

games-plain : (before : NumberedGame → NumberedGame → Bool) (n : ℕ) (games_with_move_of : List NumberedGame) (games : List Listed) → AllByRecursion IsPlainNumberedGame games_with_move_of
    → games ≡ map listed (best before n games_with_move_of) → All HasPlainId games
games-plain before n games_with_move_of games plain is =
    let A : List Listed → Type 0 = λ games. All HasPlainId games in
    subst A (sym is) (All-from_recursion _ _ (listed-plain (best before n games_with_move_of) (best-have IsPlainNumberedGame before n games_with_move_of plain)))

recount-plain : (query : Query) (games_at : List GameAt) (found : Found) → AllByRecursion IsPlainGameAt games_at → IsRecount query games_at found → IsPlainFound found
recount-plain query games_at found plain is =
    let wanted : Classes → Bool = passes query.filter in
    let with_move : AllByRecursion IsPlainNumberedGame (games_with_move wanted games_at) = wanted-plain wanted games_at plain in
    record {
      moves = All-from_recursion _ _ (lines-plain (IsLineOf query games_at) IsPlainLine
          (λ m line of. record { san = san-ascii query.at m line.san of.san; game = game-of-move-plain m wanted games_at line.game with_move of.game })
          _ found.moves is.moves);
      top = games-plain _ query.top (games_with_move wanted games_at) found.top with_move is.top;
      recent = games-plain _ query.recent (games_with_move wanted games_at) found.recent with_move is.recent;
    }

pub plain-found : (journal : List Batch) (query : Query) (found : Found) → IsFound journal query found → IsPlainFound found
plain-found journal query found is =
    recount-plain query is.answer.games_at found (games_at-plain query.at (texts_of journal) is.games is.answer.games_at is.are_games is.answer.are_games_at) is.answer.recount

-- ---- an answer of SAN texts and of games whose tags are sound

game-kept : (game : Option Listed) → IfSome game (λ g. AreSoundClasses g.classes) → IsPlainGame game
game-kept None sound = tt
game-kept (Some game) sound = sound.id

lines-kept : (at : Position) (lines : List MoveLine) → AllByRecursion (λ line. SanText at line.next line.san) lines
    → AllByRecursion (λ line. IfSome line.game (λ game. AreSoundClasses game.classes)) lines → AllByRecursion IsPlainLine lines
lines-kept at [] texts games = tt
lines-kept at (line ∷ lines) texts games =
    (record { san = san-ascii at line.next line.san texts.0; game = game-kept line.game games.0 }, lines-kept at lines texts.1 games.1)

games-kept : (games : List Listed) → AllByRecursion (λ game. AreSoundClasses game.classes) games → AllByRecursion HasPlainId games
games-kept [] sound = tt
games-kept (game ∷ games) sound = (sound.0.id, games-kept games sound.1)

pub plain-sound : (at : Position) (found : Found) → AllByRecursion (λ line. SanText at line.next line.san) found.moves
    → AllByRecursion (λ line. IfSome line.game (λ game. AreSoundClasses game.classes)) found.moves
    → AllByRecursion (λ game. AreSoundClasses game.classes) found.top → AllByRecursion (λ game. AreSoundClasses game.classes) found.recent → IsPlainFound found
plain-sound at found texts games top recent = record {
  moves = All-from_recursion IsPlainLine found.moves (lines-kept at found.moves texts games);
  top = All-from_recursion HasPlainId found.top (games-kept found.top top);
  recent = All-from_recursion HasPlainId found.recent (games-kept found.recent recent);
}

-- ---- what is found of a player's games

player-recount-plain : (query : PlayerQuery) (games_at : List GameAt) (found : PlayerFound) → AllByRecursion IsPlainGameAt games_at
    → IsPlayerRecount query games_at found → IsPlainPlayerFound found
player-recount-plain query games_at found plain is =
    let wanted : Classes → Bool = is_wanted query in
    let with_move : AllByRecursion IsPlainNumberedGame (games_with_move wanted games_at) = wanted-plain wanted games_at plain in
    record {
      moves = All-from_recursion _ _ (lines-plain (IsPlayerLineOf query games_at) IsPlainPlayerLine
          (λ m line of. record { san = san-ascii query.query.at m line.san of.san; game = game-of-move-plain m wanted games_at line.game with_move of.game })
          _ found.moves is.moves);
      recent = games-plain _ query.query.recent (games_with_move wanted games_at) found.recent with_move is.recent;
    }

pub plain-player-found : (journal : List Batch) (query : PlayerQuery) (found : PlayerFound) → IsPlayerFound journal query found → IsPlainPlayerFound found
plain-player-found journal query found is =
    player-recount-plain query is.games_at found (games_at-plain query.query.at (texts_of journal) is.games is.games_at is.are_games is.are_games_at) is.recount
