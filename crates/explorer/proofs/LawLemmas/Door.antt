-- Answers at doors are over fronts of the journal of the disk given back, and so are one over as many batches.
use Rattle.std.proofs.Common.{◌≡◌, inl, inr, ℕ, List, [], ◌∷◌, take, refl, sym, subst, arith}
use Rattle.std.proofs.lemmas.List.Elements.{All-contains, All-from_recursion}
use Rattle.outside.specs.Doors.{Connections}
use Rattle.outside.specs.Stream.{Stream}
use Rattle.explorer_model.specs.declared.archive.Batch.{Batch}
use Rattle.explorer_model.specs.declared.wire.Reply.{Reply}
use Rattle.explorer_model.specs.declared.wire.Reply.TheVariants as replies
use Rattle.explorer_model.specs.Openings.{NamedPosition}
use Rattle.explorer_model.specs.Players.{IsPlayerFoundIn}
use Rattle.explorer_model.specs.Replies.{IsNamedFoundIn}
use Rattle.explorer_model.specs.Timeline.{IsPrefix}
use Rattle.published_index.specs.States.{watching}
use Rattle.session.specs.Doors.{AreServed}
use Rattle.session.specs.Exchanges.{Backend, Exchange, backend, moment_of}
use Rattle.session.specs.Laws.{IsOverFront, IsTold}
use Rattle.session.specs.Replies.{Answer, AnswersPlayerQuery, AnswersQuery, Offer, PlayerAnswer, Readings, Route, with_players, route_of}
use Rattle.session.proofs.FrontLemmas.{prefix-length, take-prefix}
use Rattle.session.proofs.LawLemmas.{all-over-fronts}
use Rattle.explorer.specs.Laws.{IsAnswered, IsExchangedIn}
use Rattle.explorer.specs.Serve.Served.{DoorRun, new_importer}
use Rattle.explorer.proofs.ServeLemmas.Served.{served-grows}

-- what is over a front of a front is over one of the whole
over_longer : (book : List NamedPosition) (front whole : List Batch) (route : Route) (reply : Reply) → IsPrefix front whole
    → IsOverFront book front route reply → IsOverFront book whole route reply
over_longer book front whole (Answer text) (replies.Found batches body) prefix over = (
  omega (arith, over.0, prefix-length front whole prefix),
  subst (λ (l : List Batch). IsNamedFoundIn book text l batches body) (sym (take-prefix batches front whole over.0 prefix)) over.1,
)
over_longer book front whole (PlayerAnswer text) (replies.Found batches body) prefix over = (
  omega (arith, over.0, prefix-length front whole prefix),
  subst (λ (l : List Batch). IsPlayerFoundIn book text l batches body) (sym (take-prefix batches front whole over.0 prefix)) over.1,
)
over_longer book front whole _ _ prefix over = tt

-- each reply to a connection is over a front of what was seen in the end
over_last : (offer : Offer) (exchange : Exchange) (before : Backend) (came went : List Stream) (after : Backend)
    → (served : AreServed offer before came went after) → IsExchangedIn offer exchange before came went after served
    → IsOverFront offer.book after.pass.seen (route_of offer exchange.asked) exchange.reply
over_last offer exchange before [] [] after served among = absurd among
over_last offer exchange before [] (back ∷ went) after served among = absurd among
over_last offer exchange before (link ∷ came) [] after served among = absurd among
over_last offer exchange before (link ∷ came) (back ∷ went) after served (inl here) =
    let middle : Backend = served.1 in
    let P : Exchange → Type 0 = λ x. IsOverFront offer.book middle.pass.seen (route_of offer x.asked) x.reply in
    let all = all-over-fronts offer middle.pass.seen (moment_of before) (moment_of middle) served.2.exchanges served.2.served in
    over_longer offer.book middle.pass.seen after.pass.seen (route_of offer exchange.asked) exchange.reply (served-grows offer middle came went after served.3)
    (All-contains P served.2.exchanges exchange (All-from_recursion P served.2.exchanges all) here)
over_last offer exchange before (link ∷ came) (back ∷ went) after served (inr later) =
    over_last offer exchange served.1 came went after served.3 later

pub over_journal : (book : List NamedPosition) (route : Route) (batches : ℕ) (body : List ℕ) (opening journal : List Batch) (door : Connections) (run : DoorRun)
    → IsAnswered book route batches body opening journal door run
    → IsOverFront book journal route (replies.Found batches body)
over_journal book route batches body opening journal door run answered =
    let from = answered.seen.from in
    let seen : List Batch = from.last.pass.seen in
    let x = answered.exchange in
    let over = over_last (with_players book) x (backend (watching opening) new_importer) from.served.came from.served.went from.last from.served.served answered.among in
    let asked = subst (λ (route : Route). IsOverFront book seen route x.reply) answered.asked over in
    let replied = subst (λ (reply : Reply). IsOverFront book seen route reply) answered.replied asked in
    over_longer book seen journal route (replies.Found batches body) answered.seen.front replied

-- what a lower crate says: a query string has one reply over a journal
abbrev pub OneReply : (List NamedPosition → List ℕ → List Batch → Readings → Readings → Reply → Type 0) → Type 0
OneReply Answers = (book : List NamedPosition) (text : List ℕ) (journal : List Batch) (before after later : Readings) (reply other : Reply)
    → IsTold reply → IsTold other → Answers book text journal before after reply → Answers book text journal before later other → reply ≡ other

pub one_body : (book : List NamedPosition) (text : List ℕ) (batches : ℕ) (body body' : List ℕ) (opening journal opening' journal' : List Batch)
    (door door' : Connections) (run run' : DoorRun) → OneReply AnswersQuery → take batches journal ≡ take batches journal'
    → IsAnswered book (Answer text) batches body opening journal door run
    → IsAnswered book (Answer text) batches body' opening' journal' door' run' → body ≡ body'
one_body book text batches body body' opening journal opening' journal' door door' run run' one same first second =
    let over = over_journal book (Answer text) batches body opening journal door run first in
    let over' = over_journal book (Answer text) batches body' opening' journal' door' run' second in
    let there = subst (λ (l : List Batch). IsNamedFoundIn book text l batches body) same over.1 in
    let none : Readings = record { entered = 0; unread = 0 } in
    let entered : Readings = record { entered = 1; unread = 0 } in
    let replied : replies.Found batches body ≡ replies.Found batches body' =
    one book text (take batches journal') none entered entered (replies.Found batches body) (replies.Found batches body') tt tt
    (there, refl) (over'.1, refl) in
    cc

pub one_player_body : (book : List NamedPosition) (text : List ℕ) (batches : ℕ) (body body' : List ℕ) (opening journal opening' journal' : List Batch)
    (door door' : Connections) (run run' : DoorRun) → OneReply AnswersPlayerQuery → take batches journal ≡ take batches journal'
    → IsAnswered book (PlayerAnswer text) batches body opening journal door run
    → IsAnswered book (PlayerAnswer text) batches body' opening' journal' door' run' → body ≡ body'
one_player_body book text batches body body' opening journal opening' journal' door door' run run' one same first second =
    let over = over_journal book (PlayerAnswer text) batches body opening journal door run first in
    let over' = over_journal book (PlayerAnswer text) batches body' opening' journal' door' run' second in
    let there = subst (λ (l : List Batch). IsPlayerFoundIn book text l batches body) same over.1 in
    let none : Readings = record { entered = 0; unread = 0 } in
    let entered : Readings = record { entered = 1; unread = 0 } in
    let replied : replies.Found batches body ≡ replies.Found batches body' =
    one book text (take batches journal') none entered entered (replies.Found batches body) (replies.Found batches body') tt tt
    (there, refl) (over'.1, refl) in
    cc
