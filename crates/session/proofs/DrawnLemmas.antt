-- What the drawer of an importer draws while connections are served, and that it keeps its parts.
use Rattle.std.proofs.Common.{◌≡◌, ◌⊎◌, inl, inr, ℕ, List, [], ◌∷◌, ◌++◌, Option, take, refl, ap, subst, ◌∙◌}
use Rattle.std.specs.List.{Contains}
use Rattle.std.proofs.lemmas.List.Elements.{Contains-append_cases}
use Rattle.plain_laws.specs.Lists.{contains-first, contains-later}
use Rattle.explorer_model.specs.declared.archive.Batch.{Batch}
use Rattle.explorer_model.specs.declared.wire.Reply.{Reply}
use Rattle.outside.specs.Stream.{Stream}
use Rattle.published_index.specs.Places.{Drawing}
use Rattle.ingest_desk.specs.declared.report.ImportCall.{ImportCall}
use Rattle.session.specs.Doors.{AreServed}
use Rattle.session.specs.Exchanges.{AreExchanges, Backend, Exchange, Grants, Moment, moment_of}
use Rattle.session.specs.Laws.{IsDrawnAmong, IsDrawnFor}
use Rattle.session.specs.Replies.{Answer, Fixed, Import, Offer, PlayerAnswer, Route, Silence, route_of}

granted-parts : (offer : Offer) (route : Route) (journal : List Batch) (before after : Moment) (call : Option ImportCall) (reply : Reply)
    → Grants offer route journal before after call reply → after.drawing.parts ≡ before.drawing.parts
granted-parts offer (Answer text) journal before after call reply g = ap (λ (d : Drawing). d.parts) g.undrawn
granted-parts offer (PlayerAnswer text) journal before after call reply g = ap (λ (d : Drawing). d.parts) g.undrawn
granted-parts offer (Import body) journal before after call reply g = ap (λ (d : Drawing). d.parts) g.drawn.drawn
granted-parts offer (Fixed fixed) journal before after call reply g = ap (λ (m : Moment). m.drawing.parts) g.stays
granted-parts offer Silence journal before after call reply g = absurd g

exchanged-parts : (offer : Offer) (journal : List Batch) (before : Moment) (xs : List Exchange) (after : Moment)
    → AreExchanges offer journal before xs after → after.drawing.parts ≡ before.drawing.parts
exchanged-parts offer journal before [] after s = ap (λ (m : Moment). m.drawing.parts) s
exchanged-parts offer journal before (x ∷ xs) after s =
    exchanged-parts offer journal s.0 xs after s.4
    ∙ granted-parts offer (route_of offer x.asked) (take s.0.seen journal) before s.0 x.call x.reply s.3

-- connections that are served leave the parts as they were
pub parts-stay : (offer : Offer) (before : Backend) (came went : List Stream) (after : Backend) → AreServed offer before came went after
    → after.importer.drawing.parts ≡ before.importer.drawing.parts
parts-stay offer before [] [] after are = ap (λ (b : Backend). b.importer.drawing.parts) are
parts-stay offer before (x ∷ xs) (y ∷ ys) after are =
    parts-stay offer are.1 xs ys after are.3
    ∙ exchanged-parts offer are.1.pass.seen (moment_of before) are.2.exchanges (moment_of are.1) are.2.served
parts-stay offer before [] (y ∷ ys) after are = absurd are
parts-stay offer before (x ∷ xs) [] after are = absurd are

-- ---- whose each place is

drawn-by : (offer : Offer) (x : Exchange) (journal : List Batch) (before after : Moment) (place : ℕ) (route : Route) → route_of offer x.asked ≡ route
    → Grants offer route (take after.seen journal) before after x.call x.reply → Contains after.drawing.drawn place
    → Contains before.drawing.drawn place ⊎ IsDrawnFor offer place journal x
drawn-by offer x journal before after place (Answer text) is g c = inl (subst (λ (d : Drawing). Contains d.drawn place) g.undrawn c)
drawn-by offer x journal before after place (PlayerAnswer text) is g c = inl (subst (λ (d : Drawing). Contains d.drawn place) g.undrawn c)
drawn-by offer x journal before after place (Import body) is g c =
    by (Contains-append_cases before.drawing.drawn (g.drawn.places ++ g.drawn.untold) place
    (subst (λ (d : Drawing). Contains d.drawn place) g.drawn.drawn c))
  where
    by : Contains before.drawing.drawn place ⊎ Contains (g.drawn.places ++ g.drawn.untold) place
        → Contains before.drawing.drawn place ⊎ IsDrawnFor offer place journal x
    by (inl earlier) = inl earlier
    by (inr among) = inr (record { body = body; asked = is; before = before; after = after; grants = g; among = among })
drawn-by offer x journal before after place (Fixed fixed) is g c = inl (subst (λ (m : Moment). Contains m.drawing.drawn place) g.stays c)
drawn-by offer x journal before after place Silence is g c = absurd g

pub drawn-among : (offer : Offer) (journal : List Batch) (before after : Moment) (xs : List Exchange) (place : ℕ)
    → AreExchanges offer journal before xs after → Contains after.drawing.drawn place
    → Contains before.drawing.drawn place ⊎ IsDrawnAmong offer place journal xs
drawn-among offer journal before after [] place s c = inl (subst (λ (m : Moment). Contains m.drawing.drawn place) s c)
drawn-among offer journal before after (x ∷ xs) place s c = later (drawn-among offer journal s.0 after xs place s.4 c)
  where
    first : Contains before.drawing.drawn place ⊎ IsDrawnFor offer place journal x
        → Contains before.drawing.drawn place ⊎ IsDrawnAmong offer place journal (x ∷ xs)
    first (inl earlier) = inl earlier
    first (inr for_it) = inr (x, contains-first xs x, for_it)

    later : Contains s.0.drawing.drawn place ⊎ IsDrawnAmong offer place journal xs
        → Contains before.drawing.drawn place ⊎ IsDrawnAmong offer place journal (x ∷ xs)
    later (inl by_then) = first (drawn-by offer x journal before s.0 place (route_of offer x.asked) refl s.3 by_then)
    later (inr among) = inr (among.0, contains-later x xs among.0 among.1, among.2)
