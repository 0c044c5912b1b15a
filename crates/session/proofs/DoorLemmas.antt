-- Connections of a door, one after another.
use Rattle.std.proofs.Common.{◌≡◌, List, [], ◌∷◌, ◌++◌, refl, subst, ap, ◌∙◌, append-nil}
use Rattle.outside.specs.Doors.{Accepts, Connections, FailsToAccept, TakesBack}
use Rattle.outside.specs.Stream.{Stream}
use Rattle.outside.proofs.DoorLemmas.{serves-fails, serves-none, serves-one, serves-trans}
use Rattle.session.specs.declared.serving.Ended.{Ended}
use Rattle.session.specs.Doors.{AreServed, DoorServed}
use Rattle.session.specs.Exchanges.{Backend}
use Rattle.session.specs.Replies.{Offer}
use Rattle.session.specs.Serving.{Served}

one-more : (offer : Offer) (before : Backend) (came went : List Stream) (middle : Backend) (link link' : Stream) (ended : Ended)
    (after : Backend) → AreServed offer before came went middle → Served offer link middle ended link' after
    → AreServed offer before (came ++ link ∷ []) (went ++ link' ∷ []) after
one-more offer before [] [] middle link link' ended after are s =
    subst (λ (m : Backend). AreServed offer m (link ∷ []) (link' ∷ []) after) are (ended, after, s, refl)
one-more offer before (x ∷ xs) (y ∷ ys) middle link link' ended after are s =
    (are.0, are.1, are.2, one-more offer are.1 xs ys middle link link' ended after are.3 s)
one-more offer before [] (y ∷ ys) middle link link' ended after are s = absurd are
one-more offer before (x ∷ xs) [] middle link link' ended after are s = absurd are

pub served-none : (offer : Offer) (door : Connections) (before : Backend) → DoorServed offer door before door before
served-none offer door before = record { came = []; went = []; passed = serves-none door; served = refl }

pub served-more : (offer : Offer) (door : Connections) (before : Backend) (door' : Connections) (middle : Backend) (link : Stream)
    (accepted : Connections) (link' : Stream) (ended : Ended) (door'' : Connections) (after : Backend)
    → DoorServed offer door before door' middle → Accepts link door' accepted → Served offer link middle ended link' after
    → TakesBack link' accepted door'' → DoorServed offer door before door'' after
served-more offer door before door' middle link accepted link' ended door'' after d accepts s takes = record {
  came = d.came ++ link ∷ [];
  went = d.went ++ link' ∷ [];
  passed = serves-trans d.came (link ∷ []) d.went (link' ∷ []) door door' door'' d.passed (serves-one link link' door' accepted door'' accepts takes);
  served = one-more offer before d.came d.went middle link link' ended after d.served s;
}

-- a connection that is accepted and taken back leaves the count of accepts that failed
pub faults-stay : (link link' : Stream) (old accepted new : Connections) → Accepts link old accepted
    → TakesBack link' accepted new → new.faults ≡ old.faults
faults-stay link link' old accepted new accepts takes =
    ap (λ (d : Connections). d.faults) takes.rest ∙ ap (λ (d : Connections). d.faults) accepts.rest

pub served-fails : (offer : Offer) (door : Connections) (before : Backend) (door' door'' : Connections) (after : Backend)
    → DoorServed offer door before door' after → FailsToAccept door' door'' → DoorServed offer door before door'' after
served-fails offer door before door' door'' after d fails = record {
  came = d.came ++ [];
  went = d.went ++ [];
  passed = serves-trans d.came [] d.went [] door door' door'' d.passed (serves-fails door' door'' fails);
  served = rw (append-nil d.came, append-nil d.went) d.served;
}
