-- The plays of a query are legal, each in its turn, and lead to its position.
use Rattle.std.proofs.Common.{◌≡◌, ℕ, true, false, List, [], ◌∷◌, Option, Some, None, Result, Ok, Err, IfOk, refl, sym, subst, ◌∙◌, inl, inr}
use Rattle.std.specs.List.{last_or}
use Rattle.explorer_model.specs.declared.chess.Move.{Move}
use Rattle.explorer_model.specs.declared.chess.Position.{Position}
use Rattle.explorer_model.specs.declared.notation.UciForm.{UciForm}
use Rattle.explorer_model.specs.declared.player.BadPlayerParameter.{BadPlayerParameter}
use Rattle.explorer_model.specs.declared.player.PlayerParameter.TheVariants as players
use Rattle.explorer_model.specs.declared.player.PlayerQuery.{PlayerQuery}
use Rattle.explorer_model.specs.declared.query.BadParameter.{BadParameter}
use Rattle.explorer_model.specs.declared.query.Parameter.TheVariants.{Variant, Play, Speeds, Ratings, Since, Until, Moves, TopGames, RecentGames, History}
use Rattle.explorer_model.specs.declared.query.Query.{Query}
use Rattle.explorer_model.specs.Chess.{after, Legal}
use Rattle.explorer_model.specs.Openings.{positions_on}
use Rattle.explorer_model.specs.Players.{PlayerQueryReads, bad_player, color_named, common, demanded, modes_in, player_named, player_query_by}
use Rattle.explorer_model.specs.Query.{Line, MovesRead, PlayReads, LineReads, QueryReads, all_given, asked, bound_named, group_names, most_games, most_moves, names_given, pairs_of, pieces_of, query_from, speed_names, standard_only, switch_named, value_in}
use Rattle.explorer_model.specs.Stop.{◌>>=◌}
use Rattle.explorer_model.specs.Uci.{UciAnswersAs, uci_form}
use Rattle.explorer_model.specs.Visits.{AreLegalFrom}
use Rattle.explorer_model.proofs.Readings.{Err-not-Ok, bind-if, bind-if-given, if-map}

-- the moves are legal, each in its turn, and lead from the position to this one
pub record Leads (root : Position) (plays : List Move) (at : Position) : Type 0 where
  pub legal : AreLegalFrom root plays
  pub ends : last_or None (positions_on root plays) ≡ Some at

named-legal : (p : Position) (form : Option UciForm) (m : Move) → UciAnswersAs p form (Ok m) → Legal p m
named-legal p None m is = absurd (Err-not-Ok _ m (sym is))
named-legal p (Some form) m answer = answer.1

-- what is last of positions does not hang on what would be there without them
last-of : (o : Option Position) (p : Position) (plays : List Move) → last_or o (positions_on p plays) ≡ last_or None (positions_on p plays)
last-of o p [] = refl
last-of o p (m ∷ plays) = refl

leads-more : (p : Position) (m : Move) (line : Line) → Legal p m → Leads (after p m) line.moves line.at → Leads p (m ∷ line.moves) line.at
leads-more p m line legal leads = record {
  legal = (legal, leads.legal);
  ends = last-of (Some p) (after p m) line.moves ∙ leads.ends;
}

abbrev LeadsFrom : Position → Line → Type 0
LeadsFrom p line = Leads p line.moves line.at

moves-lead : (texts : List (List ℕ)) (p : Position) (line : Result Line BadParameter) → MovesRead p texts line → IfOk line (LeadsFrom p)
moves-lead [] p line is =
    let done : Result Line BadParameter = Ok (record { moves = []; at = p }) in
    let P : Result Line BadParameter → Type 0 = λ l. IfOk l (LeadsFrom p) in
    let here : P done = record { legal = tt; ends = refl } in
    subst P (sym is) here
moves-lead (text ∷ texts) p line (inl (m, rest, reads, more, is)) =
    let P : Result Line BadParameter → Type 0 = λ l. IfOk l (LeadsFrom p) in
    subst P (sym is)
    (if-map (LeadsFrom (after p m)) (LeadsFrom p) (λ l. record { moves = m ∷ l.moves; at = l.at }) (λ fault. fault) rest
    (λ l leads. leads-more p m l (named-legal p (uci_form text) m reads) leads)
    (moves-lead texts (after p m) rest more))
moves-lead (text ∷ texts) p line (inr (fault, reads, is)) =
    let P : Result Line BadParameter → Type 0 = λ l. IfOk l (LeadsFrom p) in
    subst P (sym is) tt

play-leads : (value : Option (List ℕ)) (p : Position) (line : Result Line BadParameter) → PlayReads p value line → IfOk line (LeadsFrom p)
play-leads None p line is = let P : Result Line BadParameter → Type 0 = λ l. IfOk l (LeadsFrom p) in subst P (sym is) tt
play-leads (Some []) p line is = moves-lead [] p line is
play-leads (Some (b ∷ bytes)) p line reads = moves-lead (pieces_of (b ∷ bytes)) p line reads

-- ---- the query

abbrev PlaysLegally : Query → Type 0
PlaysLegally query = Leads query.root query.plays query.at

from-line : (pairs : List (List ℕ × List ℕ)) (p : Position) (line : Line) → LeadsFrom p line → IfOk (query_from pairs p line) PlaysLegally
unfolding query_from
from-line pairs p line leads =
    bind-if PlaysLegally (asked (names_given speed_names) (all_given speed_names) Speeds pairs) _ (λ speeds.
    bind-if PlaysLegally (asked (names_given group_names) (all_given group_names) Ratings pairs) _ (λ groups.
    bind-if PlaysLegally (asked bound_named None Since pairs) _ (λ since.
    bind-if PlaysLegally (asked bound_named None Until pairs) _ (λ until.
    bind-if PlaysLegally (asked most_moves 12 Moves pairs) _ (λ moves.
    bind-if PlaysLegally (asked most_games 4 TopGames pairs) _ (λ top.
    bind-if PlaysLegally (asked most_games 4 RecentGames pairs) _ (λ recent.
    bind-if PlaysLegally (asked switch_named false History pairs) _ (λ history. leads))))))))

behind-root : (pairs : List (List ℕ × List ℕ)) (root : Result Position BadParameter) (line : Result Line BadParameter)
    → LineReads root (value_in Play pairs) line → IfOk (root >>= λ p. line >>= λ l. query_from pairs p l) PlaysLegally
behind-root pairs (Err fault) line reads = tt
behind-root pairs (Ok p) line reads =
    bind-if-given (LeadsFrom p) PlaysLegally line (λ l. query_from pairs p l) (play-leads (value_in Play pairs) p line reads) (λ l leads. from-line pairs p l leads)

pub query-plays : (text : List ℕ) (query : Query) → QueryReads text (Ok query) → PlaysLegally query
query-plays text query (root, line, rooted, lined, is) =
    let pairs = pairs_of text in
    let P : Result Query BadParameter → Type 0 = λ r. IfOk r PlaysLegally in
    subst P (sym is) (bind-if PlaysLegally (asked standard_only true Variant pairs) (λ standard. root >>= λ p. line >>= λ l. query_from pairs p l) (λ standard. behind-root pairs root line lined))

-- ---- the query for a player's games

abbrev PlayerPlaysLegally : PlayerQuery → Type 0
PlayerPlaysLegally asked = PlaysLegally asked.query

-- a parameter that queries have in common is what it is in each
common-if : {A : Type 0} (P : A → Type 0) (reading : Result A BadParameter) → IfOk reading P → IfOk (common reading) P
common-if P reading holds = if-map P P (λ value. value) (λ bad. bad_player (players.Common bad.name)) reading (λ value has. has) holds

behind-both : (pairs : List (List ℕ × List ℕ)) (root : Result Position BadParameter) (line : Result Line BadParameter)
    (made : Position → Line → Result PlayerQuery BadPlayerParameter) → LineReads root (value_in Play pairs) line
    → ((p : Position) (l : Line) → LeadsFrom p l → IfOk (made p l) PlayerPlaysLegally)
    → IfOk (common root >>= λ p. common line >>= λ l. made p l) PlayerPlaysLegally
behind-both pairs (Err fault) line made reads each = tt
behind-both pairs (Ok p) line made reads each =
    bind-if-given (LeadsFrom p) PlayerPlaysLegally (common line) (λ l. made p l)
    (common-if (LeadsFrom p) line (play-leads (value_in Play pairs) p line reads)) (λ l leads. each p l leads)

by-parameters : (pairs : List (List ℕ × List ℕ)) (root : Result Position BadParameter) (line : Result Line BadParameter)
    → LineReads root (value_in Play pairs) line → IfOk (player_query_by pairs root line) PlayerPlaysLegally
unfolding player_query_by
by-parameters pairs root line lined =
    bind-if PlayerPlaysLegally (demanded player_named players.Player pairs) _ (λ player.
    bind-if PlayerPlaysLegally (demanded color_named players.Color pairs) _ (λ color.
    bind-if PlayerPlaysLegally (common (asked standard_only true Variant pairs)) _ (λ standard.
    behind-both pairs root line _ lined (λ p l leads.
    bind-if PlayerPlaysLegally (common (asked (names_given speed_names) (all_given speed_names) Speeds pairs)) _ (λ speeds.
    bind-if PlayerPlaysLegally (modes_in pairs) _ (λ modes.
    bind-if PlayerPlaysLegally (common (asked bound_named None Since pairs)) _ (λ since.
    bind-if PlayerPlaysLegally (common (asked bound_named None Until pairs)) _ (λ until.
    bind-if PlayerPlaysLegally (common (asked most_moves 12 Moves pairs)) _ (λ moves.
    bind-if PlayerPlaysLegally (common (asked most_games 4 RecentGames pairs)) _ (λ recent. leads))))))))))

pub player_query-plays : (text : List ℕ) (asked : PlayerQuery) → PlayerQueryReads text (Ok asked) → PlayerPlaysLegally asked
player_query-plays text query (root, line, rooted, lined, is) =
    let P : Result PlayerQuery BadPlayerParameter → Type 0 = λ r. IfOk r PlayerPlaysLegally in
    subst P (sym is) (by-parameters (pairs_of text) root line lined)
