-- Exchanges, one behind another.
use Rattle.std.proofs.Common.{◌≡◌, ℕ, zero, suc, ◌+◌, ◌-◌, ◌≤◌, ◌<◌, Bool, true, false, List, [], ◌∷◌, ◌++◌, Option, Some, None, length, take, refl, sym, ◌∙◌, ap, subst, append_assoc, append-nil, arith}
use Rattle.explorer_model.specs.declared.archive.Batch.{Batch}
use Rattle.explorer_model.specs.declared.wire.Asked.{Asked}
use Rattle.explorer_model.specs.declared.wire.Asked.TheVariants as asks
use Rattle.explorer_model.specs.Timeline.{IsPrefix}
use Rattle.explorer_model.specs.Wire.{First}
use Rattle.explorer_model.proofs.Asking.{last-closes as shuts}
use Rattle.explorer_model.proofs.Standing.{whole-stays}
use Rattle.http_wire.specs.Asking.{more_behind}
use Rattle.ingest_desk.specs.declared.report.ImportCall.{ImportCall}
use Rattle.ingest_desk.specs.Importers.{TellsAll}
use Rattle.session.specs.Exchanges.{Exchange, Grants, Moment, AreExchanges, asked_in}
use Rattle.session.specs.Replies.{Offer, closes, route_of}
use Rattle.session.specs.Serving.{AreOpen, AsksIn, LastCloses}
use Rattle.session.proofs.FrontLemmas.{prefix-length, take-prefix}

-- ---- calls that are told

pub tells-trans : (a b c : Option (List ImportCall)) (xs ys : List ImportCall) → TellsAll a b xs
    → TellsAll b c ys → TellsAll a c (xs ++ ys)
tells-trans a b None xs ys p q = tt
tells-trans a None (Some told) xs ys p q = absurd q
tells-trans None (Some m) (Some told) xs ys p q = absurd p
tells-trans (Some s) (Some m) (Some told) xs ys p q = q ∙ (ap (λ l. l ++ ys) p ∙ append_assoc s xs ys)

pub tells-none : (a : Option (List ImportCall)) → TellsAll a a []
tells-none None = tt
tells-none (Some s) = sym (append-nil s)

-- ---- what is served

-- it stays served, however much more the pass sees
pub exchanges-grow : (offer : Offer) (old new : List Batch) (before : Moment) (xs : List Exchange) (after : Moment)
    → IsPrefix old new → AreExchanges offer old before xs after → AreExchanges offer new before xs after
exchanges-grow offer old new before [] after p s = s
exchanges-grow offer old new before (x ∷ xs) after p s =
    let few : s.0.seen ≤ length new = omega (arith, s.2, prefix-length old new p) in
    let same : take s.0.seen new ≡ take s.0.seen old = take-prefix s.0.seen old new s.2 p in (
      s.0,
      s.1,
      few,
      subst (λ (journal : List Batch). Grants offer (route_of offer x.asked) journal before s.0 x.call x.reply) (sym same) s.3,
      exchanges-grow offer old new s.0 xs after p s.4,
    )

pub exchanges-more : (offer : Offer) (journal : List Batch) (before : Moment) (xs : List Exchange) (middle : Moment) (x : Exchange)
    (after : Moment) → AreExchanges offer journal before xs middle → middle.seen ≤ after.seen → after.seen ≤ length journal
    → Grants offer (route_of offer x.asked) (take after.seen journal) middle after x.call x.reply
    → AreExchanges offer journal before (xs ++ x ∷ []) after
exchanges-more offer journal before [] middle x after s more few grants =
    subst (λ (m : Moment). AreExchanges offer journal m (x ∷ []) after) s (after, more, few, grants, refl)
exchanges-more offer journal before (y ∷ ys) middle x after s more few grants =
    (s.0, s.1, s.2, s.3, exchanges-more offer journal s.0 ys middle x after s.4 more few grants)

-- ---- what is asked

-- what does not close the connection stays first, whatever comes behind it
first-behind : (more : ℕ) (bytes : List ℕ) (asked : Asked) (rest behind : List ℕ) → closes asked ≡ false
    → First more bytes asked rest → First more (bytes ++ behind) asked (rest ++ behind)
first-behind more bytes (asks.Wanted request) rest behind stays first = whole-stays more bytes behind request rest first
first-behind more bytes (asks.Refused fault) rest behind stays first = absurd (cc)
first-behind more bytes asks.NoMemory rest behind stays first = absurd (cc)
first-behind more bytes asks.Done rest behind stays first = absurd (cc)
first-behind more bytes asks.Cut rest behind stays first = absurd (cc)
first-behind more bytes asks.ReadFault rest behind stays first = absurd (cc)

pub asks-behind : (more : ℕ) (bytes : List ℕ) (xs : List Exchange) (rest behind : List ℕ) → AreOpen xs
    → AsksIn more bytes (asked_in xs) rest → AsksIn more (bytes ++ behind) (asked_in xs) (rest ++ behind)
asks-behind more bytes [] rest behind open_still a = ap (λ l. l ++ behind) a
asks-behind more bytes (x ∷ xs) rest behind open_still a = (
  a.0,
  a.1 ++ behind,
  first-behind more bytes x.asked a.1 behind open_still.0 a.2,
  a.3,
  asks-behind (more - 1) a.1 xs rest behind open_still.1 a.4,
)

pub asks-more : (more : ℕ) (bytes : List ℕ) (xs : List Exchange) (rest : List ℕ) (fewer : ℕ) (x : Exchange)
    (behind : List ℕ) → AreOpen xs → AsksIn more bytes (asked_in xs) rest → fewer + length xs ≡ more → 0 < fewer
    → First fewer rest x.asked behind → AsksIn more bytes (asked_in (xs ++ x ∷ [])) behind
asks-more more bytes [] rest fewer x behind open_still a count some first =
    let same : fewer ≡ more = omega arith in
    let some_more : 0 < more = omega arith in
    let at : First fewer bytes x.asked behind = subst (λ (b : List ℕ). First fewer b x.asked behind) a first in
    (some_more, behind, subst (λ (n : ℕ). First n bytes x.asked behind) same at, (λ _. refl), refl)
asks-more more bytes (y ∷ ys) rest fewer x behind open_still a count some first =
    let fewer_left : fewer + length ys ≡ more - 1 = omega arith in (
      a.0,
      a.1,
      a.2,
      (λ shut. absurd (never (closes y.asked) open_still.0 shut)),
      asks-more (more - 1) a.1 ys rest fewer x behind open_still.1 a.4 fewer_left some first,
    )
  where
    never : (b : Bool) → b ≡ false → b ≡ true → ⊥
    never b p q = cc

pub open-more : (xs : List Exchange) (x : Exchange) → AreOpen xs → closes x.asked ≡ false → AreOpen (xs ++ x ∷ [])
open-more [] x open_still stays = (stays, tt)
open-more (y ∷ ys) x open_still stays = (open_still.0, open-more ys x open_still.1 stays)

pub last-closes : (xs : List Exchange) (x : Exchange) → closes x.asked ≡ true → LastCloses (xs ++ x ∷ [])
last-closes [] x shut = shut
last-closes (y ∷ []) x shut = shut
last-closes (y ∷ z ∷ zs) x shut = last-closes (z ∷ zs) x shut

-- there is room for more requests behind one that closes nothing
pub more-left : (asked : Asked) (more : ℕ) (bytes rest : List ℕ) → closes asked ≡ false → 0 < more
    → First more bytes asked rest → (more_behind more asked + 1 ≡ more) × (0 < more_behind more asked)
more-left (asks.Wanted request) (suc zero) bytes rest stays some first =
    absurd (never request.last stays (shuts bytes request rest first))
  where
    never : (b : Bool) → b ≡ false → b ≡ true → ⊥
    never b p q = cc
more-left (asks.Wanted request) (suc (suc n)) bytes rest stays some first = rw stays (omega arith, omega arith)
more-left (asks.Wanted request) zero bytes rest stays some first = absurd (omega arith)
more-left (asks.Refused fault) more bytes rest stays some first = absurd (cc)
more-left asks.NoMemory more bytes rest stays some first = absurd (cc)
more-left asks.Done more bytes rest stays some first = absurd (cc)
more-left asks.Cut more bytes rest stays some first = absurd (cc)
more-left asks.ReadFault more bytes rest stays some first = absurd (cc)
