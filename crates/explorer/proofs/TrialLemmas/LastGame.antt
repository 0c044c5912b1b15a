-- Where a game ends.
use Rattle.std.proofs.Common.{◌≡◌, ℕ, ◌+◌, List, [], ◌∷◌, ◌++◌, drop, Result, Ok, Err, refl, sym, ap, subst, ◌∙◌, arith}
use Rattle.explorer_model.specs.declared.archive.Game.{Game}
use Rattle.explorer_model.specs.declared.chess.Move.{Move}
use Rattle.explorer_model.specs.declared.chess.Position.{Position}
use Rattle.explorer_model.specs.declared.fault.GameFault.{GameFault}
use Rattle.explorer_model.specs.declared.fault.Stop.{Stop}
use Rattle.explorer_model.specs.declared.fault.Stop.TheVariants as stops
use Rattle.explorer_model.specs.Chess.{IsValid, Legal, after, start}
use Rattle.explorer_model.specs.Fen.{FenReads, fen_text}
use Rattle.explorer_model.specs.Games.{GameOf}
use Rattle.explorer_model.specs.Stop.{Answers}
use Rattle.explorer_model.specs.Visits.{AreLegalFrom, IsTextOf}
use Rattle.explorer_model.proofs.Readings.{Ok-injective}
use Rattle.rand_pcg.specs.Lcg.{Lcg}
use Rattle.sample_games.specs.Samples as samples
use Rattle.sample_games.specs.Samples.{IsSample, drawn, later}
use Rattle.sample_games.specs.Streams.{AreSamples}
use Rattle.sample_games.proofs.HasGame.{drawn-legal}
use Rattle.sample_games.specs.StreamLaws.{last_sample}
use Rattle.explorer.specs.Trial.{position_behind}
use Rattle.explorer.specs.Trial.Trying.{AreShort, IsReadable}
use Rattle.explorer.proofs.TrialLemmas.Samples.{last_short}

abbrev OneGame : Type 0
OneGame = (text : List ℕ) (game other : Result Game GameFault) → GameOf text game → GameOf text other → game ≡ other

-- a text has one game
pub one_game : OneGame → (text : List ℕ) (game other : Game) → IsTextOf text game → IsTextOf text other → game ≡ other
one_game one text game other is also = Ok-injective game other (one text (Ok game) (Ok other) is also)

-- a text that has a game has no fault
pub no_fault : OneGame → (text : List ℕ) (game : Game) (fault : GameFault) → IsTextOf text game → GameOf text (Err fault) → ⊥
no_fault one text game fault is bad =
    let same : (let r : Result Game GameFault = Ok game in r) ≡ Err fault = one text (Ok game) (Err fault) is bad in
    cc

-- so no fault is answered for it
pub answers_no_fault : OneGame → (text : List ℕ) (game : Game) (answer : Result Game (Stop GameFault)) (stop : Stop GameFault) (fault : GameFault)
    → IsTextOf text game → Answers answer (GameOf text) → answer ≡ Err stop → stop ≡ stops.Fault fault → ⊥
answers_no_fault one text game answer stop fault is answers err told =
    let P : Result Game (Stop GameFault) → Type 0 = λ r. Answers r (GameOf text) in
    let S : Stop GameFault → Type 0 = λ s. P (Err s) in
    no_fault one text game fault is (subst S told (subst P err answers))

-- ---- moves one behind another

-- the board stands where the moves from a place on lead to the same position
pub record Playing (root : Position) (moves : List Move) (board : Position) (i : ℕ) : Type 0 where
  pub legal : AreLegalFrom board (drop i moves)
  pub leads : position_behind board (drop i moves) ≡ position_behind root moves

pub plays_first : (root : Position) (moves : List Move) (board : Position) → board ≡ root → AreLegalFrom root moves → Playing root moves board 0
plays_first root moves board is legal = subst (λ (p : Position). Playing root moves p 0) (sym is) (record { legal = legal; leads = refl })

pub next_legal : (root : Position) (moves : List Move) (board : Position) (i : ℕ) (m : Move) → Playing root moves board i → drop i moves ≡ m ∷ drop (i + 1) moves → Legal board m
next_legal root moves board i m playing next = (subst (λ (l : List Move). AreLegalFrom board l) next playing.legal).0

pub plays_next : (root : Position) (moves : List Move) (board played : Position) (i : ℕ) (m : Move) → Playing root moves board i → drop i moves ≡ m ∷ drop (i + 1) moves → played ≡ after board m → Playing root moves played (i + 1)
plays_next root moves board played i m playing next is =
    subst (λ (p : Position). Playing root moves p (i + 1)) (sym is)
    (record {
      legal = (subst (λ (l : List Move). AreLegalFrom board l) next playing.legal).1;
      leads = sym (ap (position_behind board) next) ∙ playing.leads;
    })

pub plays_all : (root : Position) (moves : List Move) (board : Position) (i : ℕ) → Playing root moves board i → drop i moves ≡ [] → board ≡ position_behind root moves
plays_all root moves board i playing none = sym (ap (position_behind board) none) ∙ playing.leads

-- ---- what is written

-- the text reads as the position behind the moves of each game that the text has
pub tells_end : OneGame → ((p : Position) → IsValid p → FenReads (fen_text p) (Ok p)) → (text fen : List ℕ) (played game : Game) (board : Position) → IsTextOf text played → IsTextOf text game
    → board ≡ position_behind played.root played.moves → IsValid board → fen ≡ fen_text board → FenReads fen (Ok (position_behind game.root game.moves))
tells_end one written text fen played game board is also behind valid fen_is =
    let same = one_game one text played game is also in
    let R : List ℕ → Position → Type 0 = λ t p. FenReads t (Ok p) in
    subst (λ (g : Game). R fen (position_behind g.root g.moves)) same
    (subst (λ (p : Position). R fen p) behind (subst (λ (t : List ℕ). R t board) (sym fen_is) (written board valid)))

-- and it is what is written of that position
pub writes_end : OneGame → (text fen : List ℕ) (played game : Game) (board : Position) → IsTextOf text played → IsTextOf text game → board ≡ position_behind played.root played.moves → fen ≡ fen_text board
    → fen ≡ fen_text (position_behind game.root game.moves)
writes_end one text fen played game board is also behind fen_is =
    fen_is ∙ ap fen_text behind ∙ ap (λ (g : Game). fen_text (position_behind g.root g.moves)) (one_game one text played game is also)

-- ---- the last sample

pub last_readable : ((index : ℕ) (before behind : Lcg) (text : List ℕ) → (sample : IsSample index before text behind) → samples.HasGame index text sample.moves)
    → (first : ℕ) (before behind : Lcg) (texts earlier : List (List ℕ)) (text : List ℕ) → AreSamples first before texts behind → AreShort texts → texts ≡ earlier ++ text ∷ [] → IsReadable text
last_readable has first before behind texts earlier text are short is =
    let last = last_sample first before behind earlier text (subst (λ (l : List (List ℕ)). AreSamples first before l behind) is are) in
    let sample = last.sample in
    let game = has last.index last.before last.behind text sample in
    let drawing = drawn-legal (20 + drawn 41 last.before) start (later last.before) sample.moves sample.played sample.draws in
    record {
      short = omega (arith, last_short earlier text (subst AreShort is short));
      game = game.game;
      is_game = game.of_text;
      legal = subst (λ (root : Position). AreLegalFrom root game.game.moves) (sym game.root_is)
          (subst (λ (moves : List Move). AreLegalFrom start moves) (sym game.moves_are) drawing.legal);
    }
