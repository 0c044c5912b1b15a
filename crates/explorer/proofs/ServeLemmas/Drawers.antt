-- Drawers that are lent to workers, and come back.
use Rattle.std.proofs.Common.{◌≡◌, ℕ, ◌+◌, ◌<◌, List, [], ◌∷◌, ◌++◌, Option, length, refl, sym, ap, subst, ◌∙◌, append-nil, arith}
use Rattle.std.specs.Prelude.{IsSome}
use Rattle.std.specs.List.{All, AllByRecursion, AllZip, flat_map}
use Rattle.std.proofs.lemmas.List.Elements.{All-from_recursion}
use Rattle.std.proofs.lemmas.List.Concat.{flat_map-append}
use Rattle.outside.specs.Doors.{Connections}
use Rattle.outside.specs.Stream.{Stream}
use Rattle.host.specs.Hosts.{HostState}
use Rattle.explorer_model.specs.declared.archive.Batch.{Batch}
use Rattle.explorer_model.specs.Openings.{NamedPosition}
use Rattle.published_index.specs.Places.{DrewEach, Drawing, once_below, times, with_drawing}
use Rattle.published_index.proofs.PlaceLemmas.{times-append}
use Rattle.explorer.specs.declared.serve.workers.Worker.{Worker}
use Rattle.explorer.specs.declared.serve.workers.Worker.TheVariants.{File, Merger, Reader}
use Rattle.explorer.specs.Serve.Served.{DrewFrom, drawn_in}
use Rattle.explorer.specs.Serve.Workers.{HasDrawer, HasReaders, HasTaken, IsFileOf, IsReaderOf, drawings_in, drawings_of, parts_of, places_of}
use Rattle.explorer.proofs.ServeLemmas.Served.{Returned}

parts-both : (xs ys : List Drawing) → parts_of (xs ++ ys) ≡ parts_of xs + parts_of ys
parts-both [] ys = omega arith
parts-both (x ∷ xs) ys = omega (arith, parts-both xs ys)

places-both : (xs ys : List Drawing) → places_of (xs ++ ys) ≡ places_of xs ++ places_of ys
places-both xs ys = flat_map-append (λ (d : Drawing). d.drawn) xs ys

drawings-both : {F G J : Type 0} (xs ys : List (Worker F G J)) → drawings_in (xs ++ ys) ≡ drawings_in xs ++ drawings_in ys
drawings-both xs ys = flat_map-append drawings_of xs ys

-- ---- what workers begin with

drawers-of-files : {F G J : Type 0} (source : F → Stream) (host : HostState) (names : List (List ℕ)) (files others : List (Worker F G J))
    → AllZip (IsFileOf source host) names files → AllByRecursion HasDrawer others → AllByRecursion HasDrawer (files ++ others)
drawers-of-files source host [] [] others are rest = rest
drawers-of-files source host [] (w ∷ ws) others are rest = absurd are
drawers-of-files source host (n ∷ ns) [] others are rest = absurd are
drawers-of-files source host (n ∷ ns) (File f ∷ ws) others are rest = (tt, drawers-of-files source host ns ws others are.1 rest)
drawers-of-files source host (n ∷ ns) (Reader r ∷ ws) others are rest = absurd are.0
drawers-of-files source host (n ∷ ns) (Merger ∷ ws) others are rest = absurd are.0

drawers-of-readers : {F G J : Type 0} (door : G → Connections) (opening : List Batch) (handed : List Connections)
    (readers : List (Worker F G J)) → AllZip (IsReaderOf door opening) handed readers
    → AllByRecursion HasDrawer (readers ++ Merger ∷ [])
drawers-of-readers door opening [] [] are = (tt, tt)
drawers-of-readers door opening [] (w ∷ ws) are = absurd are
drawers-of-readers door opening (d ∷ ds) [] are = absurd are
drawers-of-readers door opening (d ∷ ds) (Reader r ∷ ws) are =
    (subst (λ (o : Option Drawing). IsSome o) (sym are.0.2) refl, drawers-of-readers door opening ds ws are.1)
drawers-of-readers door opening (d ∷ ds) (File f ∷ ws) are = absurd are.0
drawers-of-readers door opening (d ∷ ds) (Merger ∷ ws) are = absurd are.0

pub have-drawers : {F G J : Type 0} (source : F → Stream) (door : G → Connections) (names : List (List ℕ)) (host : HostState)
    (opening : List Batch) (handed : List Connections) (files all : List (Worker F G J)) → AllZip (IsFileOf source host) names files
    → HasReaders door opening handed files all → All HasDrawer all
have-drawers source door names host opening handed files all are h =
    All-from_recursion HasDrawer all (subst (λ (ws : List (Worker _ _ _)). AllByRecursion HasDrawer ws) (sym h.are)
    (drawers-of-files source host names files (h.readers ++ Merger ∷ []) are
    (drawers-of-readers door opening handed h.readers h.are_readers)))

-- what was drawn stays where parts are given away
pub drew-same : (count : ℕ) (old new : Drawing) → new.drawn ≡ old.drawn → DrewEach count old → DrewEach count new
drew-same count old new same each = λ x. ap (λ (l : List ℕ). times x l) same ∙ each x

-- ---- what a cabinet takes back

pub took-none : (old : Drawing) → HasTaken [] old old
took-none old = record { parts = omega arith; drawn = λ x. omega arith }

pub took-one : (other old new : Drawing) → new ≡ with_drawing other old → HasTaken (other ∷ []) old new
took-one other old new is = record {
  parts = ap (λ (d : Drawing). d.parts) is ∙ omega arith;
  drawn = λ x. ap (λ (d : Drawing). times x d.drawn) is ∙ (times-append x old.drawn other.drawn
      ∙ ap (λ (places : List ℕ). times x old.drawn + times x places) (sym (append-nil other.drawn)));
}

-- what was taken of the last worker, and then of those before it, was taken of all
pub took-last : {F G J : Type 0} (all less : List (Worker F G J)) (worker : Worker F G J) (old middle new : Drawing)
    → all ≡ less ++ worker ∷ [] → HasTaken (drawings_of worker) old middle → HasTaken (drawings_in less) middle new
    → HasTaken (drawings_in all) old new
took-last all less worker old middle new is last rest =
    let one : drawings_in (worker ∷ []) ≡ drawings_of worker = append-nil (drawings_of worker) in
    let both : drawings_in all ≡ drawings_in less ++ drawings_of worker =
    ap (λ (ws : List (Worker _ _ _)). drawings_in ws) is
    ∙ (drawings-both less (worker ∷ []) ∙ ap (λ (ds : List Drawing). drawings_in less ++ ds) one) in
    let parts = parts-both (drawings_in less) (drawings_of worker) in
    subst (λ (ds : List Drawing). HasTaken ds old new) (sym both) (record {
      parts = omega (arith, last.parts, rest.parts, parts);
      drawn = λ x.
          let places = ap (λ (l : List ℕ). times x l) (places-both (drawings_in less) (drawings_of worker))
          ∙ times-append x (places_of (drawings_in less)) (places_of (drawings_of worker)) in
          omega (arith, last.drawn x, rest.drawn x, places);
    })

-- ---- what was drawn in all

module _ {F G J : Type 0} (book : List NamedPosition) (source : F → Stream) (door : G → Connections) (names : List (List ℕ)) (host : HostState)
    (opening : List Batch) (handed : List Connections) (workers : List (Worker F G J))
    (r : Returned book source door names host opening handed workers) where
  drawings : drawings_in workers ≡ drawings_in r.files ++ drawings_in r.readers
  drawings =
      ap (λ (ws : List (Worker F G J)). drawings_in ws) r.are
      ∙ (drawings-both r.files (r.readers ++ Merger ∷ [])
      ∙ ap (λ (ds : List Drawing). drawings_in r.files ++ ds) (drawings-both r.readers (Merger ∷ []) ∙ append-nil (drawings_in r.readers)))

  -- each worker with a file or a door has one part
  pub returned-parts : parts_of (drawings_in workers) ≡ length names + length handed
  returned-parts =
      ap parts_of drawings
      ∙ (parts-both (drawings_in r.files) (drawings_in r.readers) ∙ omega (arith, r.file_runs.parts, r.door_runs.parts))

  returned-places : places_of (drawings_in workers) ≡ drawn_in r.file_runs.runs r.door_runs.runs
  returned-places =
      ap places_of drawings
      ∙ (places-both (drawings_in r.files) (drawings_in r.readers)
      ∙ (ap (λ (l : List ℕ). l ++ places_of (drawings_in r.readers)) r.file_runs.places
      ∙ ap (λ (l : List ℕ). flat_map (λ run. run.drawing.drawn) r.file_runs.runs ++ l) r.door_runs.places))

  -- what a drawer has that drew the places of the opening, and then took all back
  pub returned-drawn : (journal : List Batch) (first old new : Drawing) → DrewEach (length opening) first → old.drawn ≡ first.drawn
      → HasTaken (drawings_in workers) old new → DrewEach (length journal) new
      → DrewFrom (length opening) (length journal) (drawn_in r.file_runs.runs r.door_runs.runs)
  returned-drawn journal first old new opened same taken each = λ x.
      let before = ap (λ (l : List ℕ). times x l) same in
      let places = ap (λ (l : List ℕ). times x l) returned-places in
      omega (arith, opened x, before, taken.drawn x, places, each x)
