-- What follows of exchanges.
use Rattle.std.proofs.Common.{◌≡◌, ℕ, ◌+◌, ◌≤◌, Bool, true, false, List, [], ◌∷◌, Option, Some, None, length, take, refl, sym, ◌∙◌, ap, subst, inl, inr, arith}
use Rattle.std.specs.List.{AllByRecursion, cons_option}
use Rattle.std.proofs.lemmas.List.{length-take}
use Rattle.explorer_model.specs.declared.archive.Batch.{Batch}
use Rattle.explorer_model.specs.declared.fault.Refusal.{Refusal}
use Rattle.explorer_model.specs.declared.wire.Asked.{Asked}
use Rattle.explorer_model.specs.declared.wire.Asked.TheVariants as asks
use Rattle.explorer_model.specs.declared.wire.Method.{Method}
use Rattle.explorer_model.specs.declared.wire.Method.TheVariants as methods
use Rattle.explorer_model.specs.declared.wire.Path.{Path}
use Rattle.explorer_model.specs.declared.wire.Path.TheVariants as paths
use Rattle.explorer_model.specs.declared.wire.Reply.{Reply}
use Rattle.explorer_model.specs.declared.wire.Reply.TheVariants as replies
use Rattle.explorer_model.specs.declared.wire.RequestFault.TheVariants as faults
use Rattle.explorer_model.specs.Openings.{NamedPosition}
use Rattle.explorer_model.specs.Players.{IsPlayerAnswerOf, IsPlayerFoundIn}
use Rattle.explorer_model.specs.Replies.{IsNamedAnswerOf, IsNamedFoundIn}
use Rattle.ingest_desk.specs.declared.report.ImportCall.{ImportCall}
use Rattle.ingest_desk.specs.declared.report.ImportEnding.{ImportEnding}
use Rattle.ingest_desk.specs.declared.report.ImportEnding.TheVariants as endings
use Rattle.session.specs.Exchanges.{Exchange, Grants, Moment, AreExchanges}
use Rattle.session.specs.Imports.{TellsEnding}
use Rattle.session.specs.Laws.{AscendFrom, IsOverFront, number_of, numbers, unread_in, unread_one}
use Rattle.session.specs.Replies.{AnswersBy, Answer, Fixed, Import, Offer, PlayerAnswer, Readings, Route, Silence, player_route, route_by, route_of}

length-front : (n : ℕ) (xs : List Batch) → n ≤ length xs → length (take n xs) ≡ n
length-front n xs few = omega (arith, length-take n xs)

-- ---- answers are over fronts

over-front : (offer : Offer) (journal : List Batch) (route : Route) (seen : ℕ) (before after : Moment) (call : Option ImportCall)
    (reply : Reply) → seen ≤ length journal → Grants offer route (take seen journal) before after call reply
    → IsOverFront offer.book journal route reply
over-front offer journal (Answer text) seen before after call (replies.Found batches body) few grants =
    let number : batches ≡ seen = grants.answers.0.number ∙ length-front seen journal few in
    (omega (arith, number), subst (λ (n : ℕ). IsNamedFoundIn offer.book text (take n journal) batches body) (sym number) grants.answers.0)
over-front offer journal (PlayerAnswer text) seen before after call (replies.Found batches body) few grants =
    let number : batches ≡ seen = grants.answers.0.number ∙ length-front seen journal few in
    (omega (arith, number), subst (λ (n : ℕ). IsPlayerFoundIn offer.book text (take n journal) batches body) (sym number) grants.answers.0)
over-front offer journal _ seen before after call _ few grants = tt

pub all-over-fronts : (offer : Offer) (journal : List Batch) (before after : Moment) (xs : List Exchange)
    → AreExchanges offer journal before xs after
    → AllByRecursion (λ x. IsOverFront offer.book journal (route_of offer x.asked) x.reply) xs
all-over-fronts offer journal before after [] s = tt
all-over-fronts offer journal before after (x ∷ xs) s = (
  over-front offer journal (route_of offer x.asked) s.0.seen before s.0 x.call x.reply s.2 s.3,
  all-over-fronts offer journal s.0 after xs s.4,
)

-- ---- numbers

same-number : (reply fixed : Reply) (n : ℕ) → number_of fixed ≡ None → reply ≡ fixed → number_of reply ≡ Some n → ⊥
same-number reply fixed n none is e = let same = ap number_of is in cc

-- an answer names the number of the journal's batches, and no answer says that something is stored
record SpeaksOf (IsAnswer : Reply → Type 0) (journal : List Batch) : Type 0 where
  number : (batches : ℕ) (body : List ℕ) → IsAnswer (replies.Found batches body) → batches ≡ length journal
  unstored : (batches : ℕ) (body : List ℕ) → IsAnswer (replies.Stored batches body) → ⊥

queries-speak : (book : List NamedPosition) (text : List ℕ) (journal : List Batch) → SpeaksOf (IsNamedAnswerOf book text journal) journal
queries-speak book text journal = record { number = λ batches body is. is.number; unstored = λ batches body is. is }

players-speak : (book : List NamedPosition) (text : List ℕ) (journal : List Batch) → SpeaksOf (IsPlayerAnswerOf book text journal) journal
players-speak book text journal = record { number = λ batches body is. is.number; unstored = λ batches body is. is }

answer-number : (IsAnswer : Reply → Type 0) (journal : List Batch) → SpeaksOf IsAnswer journal → (before after : Readings) (reply : Reply)
    (n : ℕ) → AnswersBy IsAnswer before after reply → number_of reply ≡ Some n → n ≡ length journal
answer-number IsAnswer journal speaks before after (replies.Found batches body) n a e =
    let number : batches ≡ length journal = speaks.number batches body a.0 in cc
answer-number IsAnswer journal speaks before after (replies.Stored batches body) n a e = absurd (speaks.unstored batches body a.0)
answer-number IsAnswer journal speaks before after _ n a e = absurd (cc)

ending-number : (ending : ImportEnding) (batches games : ℕ) (refused : List Refusal) (reply : Reply) (n : ℕ)
    → TellsEnding ending batches games refused reply → number_of reply ≡ Some n → n ≡ batches
ending-number endings.Whole batches games refused reply n (inl told) e = let number : number_of reply ≡ Some batches = ap number_of told in cc
ending-number endings.Whole batches games refused reply n (inr lacks) e = absurd (same-number reply replies.NoMemory n refl lacks e)
ending-number (endings.DiskFault x y) batches games refused reply n told e = absurd (same-number reply (replies.DiskFault games) n refl told e)
ending-number (endings.Closed x y) batches games refused reply n told e = absurd (same-number reply (replies.Closed games) n refl told e)
ending-number (endings.Full x y) batches games refused reply n told e = absurd (same-number reply (replies.Full x y games) n refl told e)
ending-number endings.OutOfMemory batches games refused reply n told e = absurd (same-number reply replies.NoMemory n refl told e)
ending-number (endings.ReadFault x y) batches games refused reply n told e = absurd told
ending-number (endings.TooMuch x) batches games refused reply n told e = absurd told

-- a fixed reply names no number
IsUnnumbered : Route → Type 0
IsUnnumbered (Fixed fixed) = number_of fixed ≡ None
IsUnnumbered _ = Unit {0}

route-number : (offer : Offer) (route : Route) (journal : List Batch) (before after : Moment) (call : Option ImportCall) (reply : Reply)
    (n : ℕ) → IsUnnumbered route → Grants offer route journal before after call reply → number_of reply ≡ Some n → n ≡ length journal
unfolding IsUnnumbered
route-number offer (Answer text) journal before after call reply n none a e =
    answer-number (IsNamedAnswerOf offer.book text journal) journal (queries-speak offer.book text journal) before.readings after.readings reply n a.answers e
route-number offer (PlayerAnswer text) journal before after call reply n none a e =
    answer-number (IsPlayerAnswerOf offer.book text journal) journal (players-speak offer.book text journal) before.readings after.readings reply n a.answers e
route-number offer (Import body) journal before after call reply n none a e =
    ending-number a.made.ending (length journal) a.made.games a.replies.refused reply n a.replies.tells e
route-number offer (Fixed fixed) journal before after call reply n none a e = absurd (same-number reply fixed n none a.is_fixed e)
route-number offer Silence journal before after call reply n none a e = absurd a

ascend-less : (least more : ℕ) (ns : List ℕ) → least ≤ more → AscendFrom more ns → AscendFrom least ns
ascend-less least more [] h a = tt
ascend-less least more (n ∷ ns) h a = (omega (arith, a.0), a.1)

-- the number of one reply, and then the others
ascend-one : (o : Option ℕ) (least seen : ℕ) (ns : List ℕ) → least ≤ seen → ((n : ℕ) → o ≡ Some n → n ≡ seen) → AscendFrom seen ns
    → AscendFrom least (cons_option o ns)
ascend-one None least seen ns h is a = ascend-less least seen ns h a
ascend-one (Some n) least seen ns h is a =
    let e = is n refl in (omega (arith, e), subst (λ (m : ℕ). AscendFrom m ns) (sym e) a)

-- nor does it say that the journal could not be read
IsRead : Route → Type 0
IsRead (Fixed fixed) = unread_one fixed ≡ 0
IsRead _ = Unit {0}

is-read-player : (players : Bool) (method : Method) (query : List ℕ) → IsRead (player_route players method query)
unfolding IsRead
is-read-player true methods.Get query = tt
is-read-player true methods.Post query = refl
is-read-player true methods.Other query = refl
is-read-player false method query = refl

is-read-by : (offer : Offer) (path : Path) (method : Method) (query body : List ℕ) → IsRead (route_by offer path method query body)
unfolding IsRead
is-read-by offer paths.Lichess methods.Get query body = tt
is-read-by offer paths.Lichess methods.Post query body = refl
is-read-by offer paths.Lichess methods.Other query body = refl
is-read-by offer paths.Player method query body = is-read-player offer.players method query
is-read-by offer paths.Import methods.Get query body = refl
is-read-by offer paths.Import methods.Post query body = tt
is-read-by offer paths.Import methods.Other query body = refl
is-read-by offer paths.Other method query body = refl

is-read : (offer : Offer) (asked : Asked) → IsRead (route_of offer asked)
unfolding IsRead
is-read offer (asks.Wanted request) = is-read-by offer request.path request.method request.query request.body
is-read offer (asks.Refused faults.BadRequest) = refl
is-read offer (asks.Refused faults.TooLarge) = refl
is-read offer (asks.Refused faults.HeadTooLarge) = refl
is-read offer asks.NoMemory = refl
is-read offer asks.Done = tt
is-read offer asks.Cut = tt
is-read offer asks.ReadFault = tt

unnumbered-player : (players : Bool) (method : Method) (query : List ℕ) → IsUnnumbered (player_route players method query)
unfolding IsUnnumbered
unnumbered-player true methods.Get query = tt
unnumbered-player true methods.Post query = refl
unnumbered-player true methods.Other query = refl
unnumbered-player false method query = refl

unnumbered-by : (offer : Offer) (path : Path) (method : Method) (query body : List ℕ)
    → IsUnnumbered (route_by offer path method query body)
unfolding IsUnnumbered
unnumbered-by offer paths.Lichess methods.Get query body = tt
unnumbered-by offer paths.Lichess methods.Post query body = refl
unnumbered-by offer paths.Lichess methods.Other query body = refl
unnumbered-by offer paths.Player method query body = unnumbered-player offer.players method query
unnumbered-by offer paths.Import methods.Get query body = refl
unnumbered-by offer paths.Import methods.Post query body = tt
unnumbered-by offer paths.Import methods.Other query body = refl
unnumbered-by offer paths.Other method query body = refl

unnumbered : (offer : Offer) (asked : Asked) → IsUnnumbered (route_of offer asked)
unfolding IsUnnumbered
unnumbered offer (asks.Wanted request) = unnumbered-by offer request.path request.method request.query request.body
unnumbered offer (asks.Refused faults.BadRequest) = refl
unnumbered offer (asks.Refused faults.TooLarge) = refl
unnumbered offer (asks.Refused faults.HeadTooLarge) = refl
unnumbered offer asks.NoMemory = refl
unnumbered offer asks.Done = tt
unnumbered offer asks.Cut = tt
unnumbered offer asks.ReadFault = tt

pub numbers-ascend : (offer : Offer) (journal : List Batch) (before after : Moment) (xs : List Exchange)
    → AreExchanges offer journal before xs after → AscendFrom before.seen (numbers xs)
numbers-ascend offer journal before after [] s = tt
numbers-ascend offer journal before after (x ∷ xs) s =
    let seen : length (take s.0.seen journal) ≡ s.0.seen = length-front s.0.seen journal s.2 in
    let rest = numbers-ascend offer journal s.0 after xs s.4 in
    let number : (n : ℕ) → number_of x.reply ≡ Some n → n ≡ s.0.seen =
    λ n e. route-number offer (route_of offer x.asked) (take s.0.seen journal) before s.0 x.call x.reply n (unnumbered offer x.asked) s.3 e ∙ seen in
    ascend-one (number_of x.reply) before.seen s.0.seen (numbers xs) s.1 number rest

-- ---- readings that were not given

answer-unread : (IsAnswer : Reply → Type 0) (before after : Readings) (reply : Reply) → AnswersBy IsAnswer before after reply
    → before.unread + unread_one reply ≤ after.unread
answer-unread IsAnswer before after replies.NoMemory a = omega (arith, a.1)
answer-unread IsAnswer before after replies.Unread a = omega (arith, a.1)
answer-unread IsAnswer before after _ a =
    let same : after.unread ≡ before.unread = ap (λ (r : Readings). r.unread) a.1 in omega (arith, same)

ending-unread : (ending : ImportEnding) (batches games : ℕ) (refused : List Refusal) (reply : Reply)
    → TellsEnding ending batches games refused reply → unread_one reply ≡ 0
ending-unread endings.Whole batches games refused reply (inl told) = ap unread_one told
ending-unread endings.Whole batches games refused reply (inr lacks) = ap unread_one lacks
ending-unread (endings.DiskFault x y) batches games refused reply told = ap unread_one told
ending-unread (endings.Closed x y) batches games refused reply told = ap unread_one told
ending-unread (endings.Full x y) batches games refused reply told = ap unread_one told
ending-unread endings.OutOfMemory batches games refused reply told = ap unread_one told
ending-unread (endings.ReadFault x y) batches games refused reply told = absurd told
ending-unread (endings.TooMuch x) batches games refused reply told = absurd told

route-unread : (offer : Offer) (route : Route) (journal : List Batch) (before after : Moment) (call : Option ImportCall) (reply : Reply)
    → IsRead route → Grants offer route journal before after call reply
    → before.readings.unread + unread_one reply ≤ after.readings.unread
unfolding IsRead
route-unread offer (Answer text) journal before after call reply read a =
    answer-unread (IsNamedAnswerOf offer.book text journal) before.readings after.readings reply a.answers
route-unread offer (PlayerAnswer text) journal before after call reply read a =
    answer-unread (IsPlayerAnswerOf offer.book text journal) before.readings after.readings reply a.answers
route-unread offer (Import body) journal before after call reply read a =
    let none = ending-unread a.made.ending (length journal) a.made.games a.replies.refused reply a.replies.tells in
    let same : after.readings.unread ≡ before.readings.unread = ap (λ (r : Readings). r.unread) a.readings in
    omega (arith, none, same)
route-unread offer (Fixed fixed) journal before after call reply read a =
    let none : unread_one reply ≡ 0 = ap unread_one a.is_fixed ∙ read in
    let same : after.readings.unread ≡ before.readings.unread = ap (λ (m : Moment). m.readings.unread) a.stays in
    omega (arith, none, same)
route-unread offer Silence journal before after call reply read a = absurd a

pub unread-counted : (offer : Offer) (journal : List Batch) (before after : Moment) (xs : List Exchange)
    → AreExchanges offer journal before xs after → before.readings.unread + unread_in xs ≤ after.readings.unread
unread-counted offer journal before after [] s =
    let same : after.readings.unread ≡ before.readings.unread = ap (λ (m : Moment). m.readings.unread) s in omega (arith, same)
unread-counted offer journal before after (x ∷ xs) s =
    let first = route-unread offer (route_of offer x.asked) (take s.0.seen journal) before s.0 x.call x.reply (is-read offer x.asked) s.3 in
    let later = unread-counted offer journal s.0 after xs s.4 in
    omega (arith, first, later)
