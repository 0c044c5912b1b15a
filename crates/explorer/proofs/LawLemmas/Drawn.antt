-- Each place behind the opening was drawn for a file or at a door.
use Rattle.std.proofs.Common.{◌≡◌, ◌⊎◌, inl, inr, ℕ, zero, suc, ◌-◌, ◌<◌, ◌≤◌, ◌==◌, Bool, true, false, List, [], ◌∷◌, length, refl, subst, arith}
use Rattle.std.specs.List.{AllZip, Contains, flat_map}
use Rattle.std.proofs.lemmas.Bool.{eq-eqb, eqb-true}
use Rattle.std.proofs.lemmas.List.Elements.{Contains-append_cases}
use Rattle.plain_laws.specs.Lists.{contains-cases, contains-first, contains-later, contains-none}
use Rattle.outside.specs.Doors.{Connections}
use Rattle.outside.specs.Stream.{Stream}
use Rattle.host.specs.Hosts.{HostState}
use Rattle.explorer_model.specs.declared.archive.Batch.{Batch}
use Rattle.explorer_model.specs.Openings.{NamedPosition}
use Rattle.published_index.specs.Places.{Drawing, once_below, times}
use Rattle.published_index.specs.States.{watching}
use Rattle.session.specs.Doors.{AreServed}
use Rattle.session.specs.Exchanges.{AreExchanges, Backend, Exchange, backend, moment_of}
use Rattle.session.specs.Laws.{IsDrawnAmong, IsDrawnFor}
use Rattle.session.specs.Replies.{Offer, with_players}
use Rattle.session.proofs.DrawnLemmas.{drawn-among}
use Rattle.session.proofs.ExchangeLemmas.{exchanges-grow}
use Rattle.explorer.specs.Laws.{IsDrawnAtDoor, IsDrawnForFile, IsExchangedIn}
use Rattle.explorer.specs.Serve.{GoesOn}
use Rattle.explorer.specs.Serve.Served.{DoorRun, IsSeenIn, IsWorked, Service, drawn_in, new_importer}
use Rattle.explorer.proofs.ServeLemmas.Served.{served-grows}

-- ---- lists

-- what stands in one of many lists
in_some : {A : Type 0} (f : A → List ℕ) (xs : List A) (x : ℕ) → Contains (flat_map f xs) x
    → (a : A) × Contains xs a × Contains (f a) x
in_some f [] x c = absurd (contains-none x c)
in_some {A} f (a ∷ xs) x c = by (Contains-append_cases (f a) (flat_map f xs) x c) (in_some f xs x)
  where
    by : Contains (f a) x ⊎ Contains (flat_map f xs) x → (Contains (flat_map f xs) x → (b : A) × Contains xs b × Contains (f b) x)
        → (b : A) × Contains (a ∷ xs) b × Contains (f b) x
    by (inl now) behind = (a, contains-first xs a, now)
    by (inr later) behind = let rest = behind later in (rest.0, contains-later a xs rest.0 rest.1, rest.2)

-- ---- places

less_not : (n x : ℕ) → x < n → (n == x) ≡ false
less_not n x less = by (n == x) refl
  where
    by : (b : Bool) → (n == x) ≡ b → (n == x) ≡ false
    by true is = absurd (omega (arith, less, eqb-true n x is))
    by false is = is

more_not : (n x : ℕ) → n < x → (n == x) ≡ false
more_not n x less = by (n == x) refl
  where
    by : (b : Bool) → (n == x) ≡ b → (n == x) ≡ false
    by true is = absurd (omega (arith, less, eqb-true n x is))
    by false is = is

below_not : (x n : ℕ) → n ≤ x → once_below x n ≡ 0
below_not x zero least = refl
below_not x (suc n) least =
    let rest = below_not x n (omega (arith, least)) in
    rw (more_not n x (omega (arith, least))) (omega (arith, rest))

below_once : (x n : ℕ) → x < n → once_below x n ≡ 1
below_once x zero less = absurd (omega (arith, less))
below_once x (suc n) less = by (n - x) refl (below_once x n)
  where
    by : (d : ℕ) → n - x ≡ d → (x < n → once_below x n ≡ 1) → once_below x (suc n) ≡ 1
    by zero is before =
        let same : n ≡ x = omega (arith, less, is) in
        let none = below_not x n (omega (arith, same)) in
        rw (eq-eqb n x same) (omega (arith, none))
    by (suc d) is before =
        let below : x < n = omega (arith, is) in
        let once = before below in
        rw (less_not n x below) (omega (arith, once))

some_times : (x : ℕ) (ys : List ℕ) → 0 < times x ys → Contains ys x
some_times x [] some = absurd (omega (arith, some))
some_times x (y ∷ ys) some = by (y == x) refl (some_times x ys)
  where
    by : (b : Bool) → (y == x) ≡ b → (0 < times x ys → Contains ys x) → Contains (y ∷ ys) x
    by true is behind = (0, omega arith, eqb-true y x is)
    by false is behind = let later = rw is at some in contains-later y ys x (behind (omega (arith, later)))

-- ---- doors

-- what an importer drew while connections were served was drawn for an exchange of one of them
drawn_at : (offer : Offer) (before : Backend) (came went : List Stream) (after : Backend) (place : ℕ) (served : AreServed offer before came went after)
    → Contains after.importer.drawing.drawn place
    → Contains before.importer.drawing.drawn place
    ⊎ ((x : Exchange) × IsExchangedIn offer x before came went after served × IsDrawnFor offer place after.pass.seen x)
drawn_at offer before [] [] after place served c = inl (subst (λ (b : Backend). Contains b.importer.drawing.drawn place) served c)
drawn_at offer before [] (w ∷ ws) after place served c = absurd served
drawn_at offer before (l ∷ ls) [] after place served c = absurd served
drawn_at offer before (l ∷ ls) (w ∷ ws) after place served c = later (drawn_at offer served.1 ls ws after place served.3 c)
  where
    all : AreExchanges offer after.pass.seen (moment_of before) served.2.exchanges (moment_of served.1)
    all = exchanges-grow offer served.1.pass.seen after.pass.seen (moment_of before) served.2.exchanges (moment_of served.1)
        (served-grows offer served.1 ls ws after served.3) served.2.served

    first : Contains before.importer.drawing.drawn place ⊎ IsDrawnAmong offer place after.pass.seen served.2.exchanges
        → Contains before.importer.drawing.drawn place
        ⊎ ((x : Exchange) × IsExchangedIn offer x before (l ∷ ls) (w ∷ ws) after served × IsDrawnFor offer place after.pass.seen x)
    first (inl earlier) = inl earlier
    first (inr among) = inr (among.0, inl among.1, among.2)

    later : Contains served.1.importer.drawing.drawn place
        ⊎ ((x : Exchange) × IsExchangedIn offer x served.1 ls ws after served.3 × IsDrawnFor offer place after.pass.seen x)
        → Contains before.importer.drawing.drawn place
        ⊎ ((x : Exchange) × IsExchangedIn offer x before (l ∷ ls) (w ∷ ws) after served × IsDrawnFor offer place after.pass.seen x)
    later (inl by_then) =
        first (drawn-among offer after.pass.seen (moment_of before) (moment_of served.1) served.2.exchanges place all by_then)
    later (inr some) = inr (some.0, inr some.1, some.2)

drawn_by_run : (book : List NamedPosition) (opening journal : List Batch) (door : Connections) (run : DoorRun) (doors : List DoorRun) (place : ℕ)
    → IsSeenIn book opening journal door run → Contains doors run → Contains run.drawing.drawn place
    → IsDrawnAtDoor book place opening journal doors
drawn_by_run book opening journal door run doors place seen is_run c =
    by (drawn_at (with_players book) (backend (watching opening) new_importer) seen.from.served.came seen.from.served.went seen.from.last place
    seen.from.served.served (subst (λ (d : Drawing). Contains d.drawn place) seen.from.drawn c))
  where
    by : Contains [] place
        ⊎ ((x : Exchange) × IsExchangedIn (with_players book) x (backend (watching opening) new_importer) seen.from.served.came seen.from.served.went
        seen.from.last seen.from.served.served × IsDrawnFor (with_players book) place seen.from.last.pass.seen x)
        → IsDrawnAtDoor book place opening journal doors
    by (inl none) = absurd (contains-none place none)
    by (inr some) = record {
      door = door;
      run = run;
      is_run = is_run;
      seen = seen;
      exchange = some.0;
      among = some.1;
      drawn = some.2;
    }

-- each run of a door has what was seen there
seen_of : (book : List NamedPosition) (opening journal : List Batch) (handed : List Connections) (runs : List DoorRun) (run : DoorRun)
    → AllZip (IsSeenIn book opening journal) handed runs → Contains runs run → (door : Connections) × IsSeenIn book opening journal door run
seen_of book opening journal [] [] run all c = absurd (contains-none run c)
seen_of book opening journal [] (r ∷ rs) run all c = absurd all
seen_of book opening journal (d ∷ ds) [] run all c = absurd all
seen_of book opening journal (d ∷ ds) (r ∷ rs) run all c = by (contains-cases r rs run c) (seen_of book opening journal ds rs run all.1)
  where
    by : (r ≡ run) ⊎ Contains rs run → (Contains rs run → (door : Connections) × IsSeenIn book opening journal door run)
        → (door : Connections) × IsSeenIn book opening journal door run
    by (inl is) behind = (d, subst (λ (s : DoorRun). IsSeenIn book opening journal d s) is all.0)
    by (inr later) behind = behind later

-- ---- all

pub drawn_by_some : (service : Service) (before after : HostState) (worked : IsWorked service before after)
    (goes_on : GoesOn service before after worked) (place : ℕ)
    → length worked.opening ≤ place → place < length goes_on.shared.stored
    → IsDrawnForFile place worked.files ⊎ IsDrawnAtDoor service.book place worked.opening goes_on.journal worked.doors
drawn_by_some service before after worked goes_on place behind within =
    by (Contains-append_cases (flat_map (λ run. run.drawing.drawn) worked.files) (flat_map (λ run. run.drawing.drawn) worked.doors) place
    (some_times place (drawn_in worked.files worked.doors) some))
  where
    some : 0 < times place (drawn_in worked.files worked.doors)
    some =
        let drawn = goes_on.shared.drawn place in
        let none = below_not place (length worked.opening) behind in
        let one = below_once place (length goes_on.shared.stored) within in
        omega (arith, drawn, none, one)

    by : Contains (flat_map (λ run. run.drawing.drawn) worked.files) place
        ⊎ Contains (flat_map (λ run. run.drawing.drawn) worked.doors) place
        → IsDrawnForFile place worked.files ⊎ IsDrawnAtDoor service.book place worked.opening goes_on.journal worked.doors
    by (inl files) = inl (in_some (λ run. run.drawing.drawn) worked.files place files)
    by (inr doors) =
        let run = in_some (λ run. run.drawing.drawn) worked.doors place doors in
        let seen = seen_of service.book worked.opening goes_on.journal worked.handed worked.doors run.0 goes_on.seen run.1 in
        inr (drawn_by_run service.book worked.opening goes_on.journal seen.0 run.0 worked.doors place seen.1 run.1 run.2)
