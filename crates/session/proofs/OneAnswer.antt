-- A query string has one answer.
use Rattle.std.proofs.Common.{◌≡◌, ℕ, List, map, Result, Ok, Err, sym, ◌∙◌, ap, subst}
use Rattle.explorer_model.specs.declared.answer.Found.{Found}
use Rattle.explorer_model.specs.declared.archive.Batch.{Batch}
use Rattle.explorer_model.specs.declared.chess.Move.{Move}
use Rattle.explorer_model.specs.declared.opening.Naming.{Naming}
use Rattle.explorer_model.specs.declared.player.BadPlayerParameter.{BadPlayerParameter}
use Rattle.explorer_model.specs.declared.player.PlayerFound.{PlayerFound}
use Rattle.explorer_model.specs.declared.player.PlayerQuery.{PlayerQuery}
use Rattle.explorer_model.specs.declared.query.BadParameter.{BadParameter}
use Rattle.explorer_model.specs.declared.query.Query.{Query}
use Rattle.explorer_model.specs.declared.wire.Reply.{Reply}
use Rattle.explorer_model.specs.declared.wire.Reply.TheVariants as replies
use Rattle.explorer_model.specs.Answer.{named_body}
use Rattle.explorer_model.specs.Finds.{IsFound}
use Rattle.explorer_model.specs.Openings.{IsNaming, NamedPosition}
use Rattle.explorer_model.specs.Players.{IsPlayerAnswerOf, IsPlayerFound, IsPlayerFoundIn, PlayerQueryReads, bad_player, player_body}
use Rattle.explorer_model.specs.Query.{QueryReads}
use Rattle.explorer_model.specs.Replies.{IsNamedAnswerOf, IsNamedFoundIn}
use Rattle.session.specs.Laws.{IsTold}
use Rattle.session.specs.Replies.{AnswersBy, AnswersPlayerQuery, AnswersQuery, Readings}

-- What two namings are is one, and so is what two readings of a query string and two recounts are, of all games and of a
-- player's.
pub record AreDetermined : Type 0 where
  pub namings : (book : List NamedPosition) (query : Query) (played : List Move) (naming other : Naming)
      → IsNaming book query played naming → IsNaming book query played other → naming ≡ other
  pub queries : (text : List ℕ) (r s : Result Query BadParameter) → QueryReads text r → QueryReads text s → r ≡ s
  pub answers : (journal : List Batch) (query : Query) (found other : Found) → IsFound journal query found
      → IsFound journal query other → found ≡ other
  pub player_queries : (text : List ℕ) (r s : Result PlayerQuery BadPlayerParameter) → PlayerQueryReads text r
      → PlayerQueryReads text s → r ≡ s
  pub player_answers : (journal : List Batch) (query : PlayerQuery) (found other : PlayerFound) → IsPlayerFound journal query found
      → IsPlayerFound journal query other → found ≡ other

-- ---- of all games

-- the moves that are found
moves_in : Found → List Move
moves_in found = map (λ line. line.next) found.moves

found-once : AreDetermined → (book : List NamedPosition) (text : List ℕ) (journal : List Batch) (batches batches' : ℕ)
    (body body' : List ℕ) → IsNamedFoundIn book text journal batches body → IsNamedFoundIn book text journal batches' body'
    → replies.Found batches body ≡ replies.Found batches' body'
unfolding moves_in
found-once once book text journal batches batches' body body' a b =
    let queries : Ok a.query ≡ Ok b.query = once.queries text (Ok a.query) (Ok b.query) a.asks b.asks in
    let query : a.query ≡ b.query = cc in
    let others : IsFound journal a.query b.found = subst (λ (q : Query). IsFound journal q b.found) (sym query) b.is_found in
    let found : a.found ≡ b.found = once.answers journal a.query a.found b.found a.is_found others in
    let by_query : IsNaming book a.query (moves_in b.found) b.naming =
    subst (λ (q : Query). IsNaming book q (moves_in b.found) b.naming) (sym query) b.is_naming in
    let by_moves : IsNaming book a.query (moves_in a.found) b.naming =
    subst (λ (f : Found). IsNaming book a.query (moves_in f) b.naming) (sym found) by_query in
    let naming : a.naming ≡ b.naming = once.namings book a.query (moves_in a.found) a.naming b.naming a.is_naming by_moves in
    let number : batches ≡ batches' = a.number ∙ sym b.number in
    let same : named_body a.found a.naming ≡ named_body b.found b.naming =
    ap (λ (f : Found). named_body f a.naming) found ∙ ap (λ (n : Naming). named_body b.found n) naming in
    let bodies : body ≡ body' = a.is_body ∙ (same ∙ sym b.is_body) in
    cc

-- the reply to a query string that reads so, where it is malformed
named : Result Query BadParameter → Reply
named (Ok query) = replies.NoMemory
named (Err bad) = replies.BadParameter bad.name

same-answer : AreDetermined → (book : List NamedPosition) (text : List ℕ) (journal : List Batch) (reply other : Reply)
    → IsNamedAnswerOf book text journal reply → IsNamedAnswerOf book text journal other → reply ≡ other
unfolding named
same-answer once book text journal (replies.Found n body) (replies.Found m text') a b =
    found-once once book text journal n m body text' a b
same-answer once book text journal (replies.BadParameter name) (replies.BadParameter other) a b =
    ap named (once.queries text (Err (record { name = name })) (Err (record { name = other })) a b)
same-answer once book text journal (replies.Found n body) (replies.BadParameter other) a b =
    let same : Ok a.query ≡ Err _ = once.queries text _ _ a.asks b in absurd (cc)
same-answer once book text journal (replies.BadParameter name) (replies.Found m body) a b =
    let same : Ok b.query ≡ Err _ = once.queries text _ _ b.asks a in absurd (cc)
same-answer once book text journal (replies.Found n body) _ a b = absurd b
same-answer once book text journal (replies.BadParameter name) _ a b = absurd b
same-answer once book text journal _ other a b = absurd a

-- ---- of a player's games

player_moves_in : PlayerFound → List Move
player_moves_in found = map (λ line. line.next) found.moves

player-found-once : AreDetermined → (book : List NamedPosition) (text : List ℕ) (journal : List Batch) (batches batches' : ℕ)
    (body body' : List ℕ) → IsPlayerFoundIn book text journal batches body → IsPlayerFoundIn book text journal batches' body'
    → replies.Found batches body ≡ replies.Found batches' body'
unfolding player_moves_in
player-found-once once book text journal batches batches' body body' a b =
    let queries : Ok a.query ≡ Ok b.query = once.player_queries text (Ok a.query) (Ok b.query) a.asks b.asks in
    let query : a.query ≡ b.query = cc in
    let others : IsPlayerFound journal a.query b.found = subst (λ (q : PlayerQuery). IsPlayerFound journal q b.found) (sym query) b.is_found in
    let found : a.found ≡ b.found = once.player_answers journal a.query a.found b.found a.is_found others in
    let by_query : IsNaming book a.query.query (player_moves_in b.found) b.naming =
    subst (λ (q : PlayerQuery). IsNaming book q.query (player_moves_in b.found) b.naming) (sym query) b.is_naming in
    let by_moves : IsNaming book a.query.query (player_moves_in a.found) b.naming =
    subst (λ (f : PlayerFound). IsNaming book a.query.query (player_moves_in f) b.naming) (sym found) by_query in
    let naming : a.naming ≡ b.naming =
    once.namings book a.query.query (player_moves_in a.found) a.naming b.naming a.is_naming by_moves in
    let number : batches ≡ batches' = a.number ∙ sym b.number in
    let same : player_body a.found a.naming ≡ player_body b.found b.naming =
    ap (λ (f : PlayerFound). player_body f a.naming) found ∙ ap (λ (n : Naming). player_body b.found n) naming in
    let bodies : body ≡ body' = a.is_body ∙ (same ∙ sym b.is_body) in
    cc

player_named : Result PlayerQuery BadPlayerParameter → Reply
player_named (Ok query) = replies.NoMemory
player_named (Err bad) = replies.BadPlayerParameter bad.name

same-player-answer : AreDetermined → (book : List NamedPosition) (text : List ℕ) (journal : List Batch) (reply other : Reply)
    → IsPlayerAnswerOf book text journal reply → IsPlayerAnswerOf book text journal other → reply ≡ other
unfolding player_named
same-player-answer once book text journal (replies.Found n body) (replies.Found m text') a b =
    player-found-once once book text journal n m body text' a b
same-player-answer once book text journal (replies.BadPlayerParameter name) (replies.BadPlayerParameter other) a b =
    ap player_named (once.player_queries text (Err (bad_player name)) (Err (bad_player other)) a b)
same-player-answer once book text journal (replies.Found n body) (replies.BadPlayerParameter other) a b =
    let same : Ok a.query ≡ Err _ = once.player_queries text _ _ a.asks b in absurd (cc)
same-player-answer once book text journal (replies.BadPlayerParameter name) (replies.Found m body) a b =
    let same : Ok b.query ≡ Err _ = once.player_queries text _ _ b.asks a in absurd (cc)
same-player-answer once book text journal (replies.Found n body) _ a b = absurd b
same-player-answer once book text journal (replies.BadPlayerParameter name) _ a b = absurd b
same-player-answer once book text journal _ other a b = absurd a

-- ---- what is told

told-is : (IsAnswer : Reply → Type 0) (before after : Readings) (reply : Reply) → IsTold reply → AnswersBy IsAnswer before after reply
    → IsAnswer reply
told-is IsAnswer before after (replies.Found n body) told a = a.0
told-is IsAnswer before after (replies.BadParameter name) told a = a.0
told-is IsAnswer before after (replies.BadPlayerParameter name) told a = a.0
told-is IsAnswer before after _ told a = absurd told

pub one-answer : AreDetermined → (book : List NamedPosition) (text : List ℕ) (journal : List Batch) (before after later : Readings)
    (reply other : Reply) → IsTold reply → IsTold other → AnswersQuery book text journal before after reply
    → AnswersQuery book text journal before later other → reply ≡ other
one-answer once book text journal before after later reply other told told' a b =
    let IsAnswer : Reply → Type 0 = IsNamedAnswerOf book text journal in
    same-answer once book text journal reply other (told-is IsAnswer before after reply told a) (told-is IsAnswer before later other told' b)

pub one-player-answer : AreDetermined → (book : List NamedPosition) (text : List ℕ) (journal : List Batch) (before after later : Readings)
    (reply other : Reply) → IsTold reply → IsTold other → AnswersPlayerQuery book text journal before after reply
    → AnswersPlayerQuery book text journal before later other → reply ≡ other
one-player-answer once book text journal before after later reply other told told' a b =
    let IsAnswer : Reply → Type 0 = IsPlayerAnswerOf book text journal in
    same-player-answer once book text journal reply other (told-is IsAnswer before after reply told a)
    (told-is IsAnswer before later other told' b)
