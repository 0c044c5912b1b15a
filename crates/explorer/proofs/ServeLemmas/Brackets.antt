-- Things that go out and come back, one bracket within another.
use Rattle.std.proofs.Common.{◌≡◌, ◌⊎◌, ℕ, ◌+◌, ◌<◌, ◌≤◌, List, [], ◌∷◌, ◌++◌, Option, None, Some, IfSome, length, map, refl, sym, ap, subst, ◌∙◌, append_assoc, inl, inr, arith}
use Rattle.std.specs.Prelude.{sum_by, reverse}
use Rattle.std.specs.List.{AllByRecursion, AllZip}
use Rattle.std.specs.Option.{option_map}
use Rattle.std.proofs.lemmas.List.{length-append, length-map, map-append, reverse-append}
use Rattle.std.proofs.lemmas.List.Sums.{sum_by-append, sum_by-cons}
use Rattle.std.proofs.lemmas.Slice.Zip.{AllZip-long}
use Rattle.plain_laws.specs.Lists.{each-append}
use Rattle.outside.specs.Doors.{Connections}
use Rattle.outside.specs.Stream.{Rises, Stream, source_alone}
use Rattle.host.specs.Hosts.{ADisk, ADoor, AFile, APort, DoorBack, DoorsOut, DoorsRefused, FileBack, FileOut, AreFresh, FileRefused, GivesBack, HandsDoors, HostCall, HostState, MayNote, NotMade, RefusesDoors, Thing, added, handed, noted, out, returned}
use Rattle.explorer_model.specs.declared.archive.Batch.{Batch}
use Rattle.explorer_model.specs.declared.fault.Stop.{Stop}
use Rattle.explorer_model.specs.declared.fault.Stop.TheVariants as stops
use Rattle.explorer_model.specs.Timeline.{IsPrefix}
use Rattle.explorer_model.proofs.Timelines.{prefix-self}
use Rattle.explorer.specs.declared.fault.Fault.{Fault}
use Rattle.explorer.specs.declared.serve.serving.Unserved.TheVariants as whys
use Rattle.explorer.specs.declared.serve.workers.Worker.{Worker}
use Rattle.explorer.specs.declared.serve.workers.Worker.TheVariants.{File, Reader, Merger}
use Rattle.explorer.specs.Serve.{IsMaybe}
use Rattle.explorer.specs.Serve.Served.{DoorRun, FileRun, IsImported, IsServedFrom, Service, file_at, files_back, files_out}
use Rattle.explorer.specs.Serve.Serving.{AreOut, HasGivenUp, HasWorked, WorksOver, due}
use Rattle.explorer.specs.Serve.Workers.{AreNamed, CanReturn, FilesOut, FilesRefused, GivenBack, IsFileOf, calls_of, name_at}
use Rattle.explorer.proofs.ServeLemmas.Served.{due-is, given-rest, name-at-front, returned-files}

-- ---- calls

pub added-both : (xs ys : List HostCall) (calls : Option (List HostCall)) → added (xs ++ ys) calls ≡ added xs (added ys calls)
added-both [] ys calls = refl
added-both (x ∷ xs) ys calls = ap (λ (c : Option (List HostCall)). noted x c) (added-both xs ys calls)

added-told : (xs earlier : List HostCall) → added xs (Some earlier) ≡ Some (xs ++ earlier)
added-told [] earlier = refl
added-told (x ∷ xs) earlier = ap (λ (c : Option (List HostCall)). noted x c) (added-told xs earlier)

added-untold : (xs : List HostCall) → added xs None ≡ None
added-untold [] = refl
added-untold (x ∷ xs) = ap (λ (c : Option (List HostCall)). noted x c) (added-untold xs)

-- calls that give nothing back
abbrev pub HandOnly : List HostCall → Type 0
HandOnly calls = (thing : Thing) → AllByRecursion (λ call. returned thing call ≡ 0) calls

-- calls that hand nothing out
abbrev pub ReturnOnly : List HostCall → Type 0
ReturnOnly calls = (thing : Thing) → AllByRecursion (λ call. handed thing call ≡ 0) calls

out-hands : (thing : Thing) (calls earlier : List HostCall) → AllByRecursion (λ call. returned thing call ≡ 0) calls
    → out thing (calls ++ earlier) ≡ out thing earlier + sum_by (handed thing) calls
out-hands thing [] earlier none = omega arith
out-hands thing (c ∷ cs) earlier none =
    omega (arith, out-hands thing cs earlier none.1, none.0, sum_by-cons (handed thing) c cs)

out-returns : (thing : Thing) (calls earlier : List HostCall) → AllByRecursion (λ call. handed thing call ≡ 0) calls
    → sum_by (returned thing) calls ≤ out thing earlier
    → out thing (calls ++ earlier) + sum_by (returned thing) calls ≡ out thing earlier
out-returns thing [] earlier none few = omega arith
out-returns thing (c ∷ cs) earlier none few =
    omega (arith, out-returns thing cs earlier none.1 (omega (arith, few, sum_by-cons (returned thing) c cs)), none.0, few, sum_by-cons (returned thing) c cs)

balance : (thing : Thing) (backs outs : List HostCall) (calls : Option (List HostCall)) → ReturnOnly backs → HandOnly outs
    → sum_by (returned thing) backs ≡ sum_by (handed thing) outs
    → option_map (out thing) (added (backs ++ outs) calls) ≡ option_map (out thing) calls
balance thing backs outs None b o even = ap (λ (c : Option (List HostCall)). option_map (out thing) c) (added-untold (backs ++ outs))
balance thing backs outs (Some earlier) b o even =
    let hands = out-hands thing outs earlier (o thing) in
    let returns = out-returns thing backs (outs ++ earlier) (b thing) (omega (arith, hands, even)) in
    ap (λ (c : Option (List HostCall)). option_map (out thing) c) (added-told (backs ++ outs) earlier ∙ ap Some (append_assoc backs outs earlier))
    ∙ ap (λ (n : ℕ). Some n) (omega (arith, hands, returns, even))

pub gives-back : (backs outs : List HostCall) (before after : HostState) → ReturnOnly backs → HandOnly outs
    → ((thing : Thing) → sum_by (returned thing) backs ≡ sum_by (handed thing) outs)
    → after.calls ≡ added (backs ++ outs) before.calls → GivesBack before after
gives-back backs outs before after b o even is = λ thing.
    ap (λ (c : Option (List HostCall)). option_map (out thing) c) is ∙ balance thing backs outs before.calls b o (even thing)

are-out-by : (thing : Thing) (outs : List HostCall) (calls : Option (List HostCall)) (n : ℕ) → HandOnly outs → n ≤ sum_by (handed thing) outs
    → IfSome (added outs calls) (λ earlier. n ≤ out thing earlier)
are-out-by thing outs None n o few = subst (λ (c : Option (List HostCall)). IfSome c (λ earlier. n ≤ out thing earlier)) (sym (added-untold outs)) tt
are-out-by thing outs (Some earlier) n o few = subst (λ (c : Option (List HostCall)). IfSome c (λ e. n ≤ out thing e)) (sym (added-told outs earlier))
    (omega (arith, few, out-hands thing outs earlier (o thing)))

-- what calls hand out is out
pub are-out : (outs : List HostCall) (before now : HostState) (count : Thing → ℕ) → HandOnly outs
    → ((thing : Thing) → count thing ≤ sum_by (handed thing) outs) → now.calls ≡ added outs before.calls
    → (thing : Thing) → IfSome now.calls (λ earlier. count thing ≤ out thing earlier)
are-out outs before now count o few is = λ thing.
    subst (λ (c : Option (List HostCall)). IfSome c (λ earlier. count thing ≤ out thing earlier)) (sym is)
    (are-out-by thing outs before.calls (count thing) o (few thing))

pub hand-both : (xs ys : List HostCall) → HandOnly xs → HandOnly ys → HandOnly (xs ++ ys)
hand-both xs ys a b = λ thing. each-append (λ call. returned thing call ≡ 0) xs ys (a thing) (b thing)

pub return-both : (xs ys : List HostCall) → ReturnOnly xs → ReturnOnly ys → ReturnOnly (xs ++ ys)
return-both xs ys a b = λ thing. each-append (λ call. handed thing call ≡ 0) xs ys (a thing) (b thing)

file-hands : (thing : Thing) (name : List ℕ) → returned thing (FileOut name) ≡ 0
file-hands (ADisk n) name = refl
file-hands (AFile n) name = refl
file-hands ADoor name = refl
file-hands (APort n) name = refl

file-returns : (thing : Thing) (name : List ℕ) (file : Stream) → handed thing (FileBack name file) ≡ 0
file-returns (ADisk n) name file = refl
file-returns (AFile n) name file = refl
file-returns ADoor name file = refl
file-returns (APort n) name file = refl

files-hand : (thing : Thing) (names : List (List ℕ)) → AllByRecursion (λ call. returned thing call ≡ 0) (map FileOut names)
files-hand thing [] = tt
files-hand thing (n ∷ ns) = (file-hands thing n, files-hand thing ns)

pub files-hand-only : (names : List (List ℕ)) → HandOnly (files_out names)
files-hand-only names = λ thing. files-hand thing (reverse names)

files-return : (thing : Thing) (names : List (List ℕ)) (files : List Stream) → AllByRecursion (λ call. handed thing call ≡ 0) (files_back names files)
files-return thing [] files = tt
files-return thing (n ∷ ns) [] = tt
files-return thing (n ∷ ns) (f ∷ fs) = (file-returns thing n f, files-return thing ns fs)

pub files-return-only : (names : List (List ℕ)) (files : List Stream) → ReturnOnly (files_back names files)
files-return-only names files = λ thing. files-return thing names files

pub files-handed : (thing : Thing) (names : List (List ℕ))
    → sum_by (handed thing) (files_out names) ≡ sum_by (λ name. handed thing (FileOut name)) names
files-handed thing [] = refl
files-handed thing (n ∷ ns) =
    let turned : files_out (n ∷ ns) ≡ files_out ns ++ FileOut n ∷ [] =
    ap (λ (l : List (List ℕ)). map FileOut l) (reverse-append (n ∷ []) ns) ∙ map-append FileOut (reverse ns) (n ∷ []) in
    ap (λ (cs : List HostCall). sum_by (handed thing) cs) turned
    ∙ omega (
      arith,
      sum_by-append (handed thing) (files_out ns) (FileOut n ∷ []),
      sum_by-cons (handed thing) (FileOut n) [],
      sum_by-cons (λ name. handed thing (FileOut name)) n ns,
      files-handed thing ns,
    )

-- at most one call, which was refused
abbrev IsRefusal : List HostCall → Type 0
IsRefusal calls =
    (calls ≡ []) ⊎ (((name : List ℕ) × (calls ≡ FileRefused name ∷ []))
    ⊎ ((address : List ℕ) × (readers : ℕ) × (connections : ℕ)
    × (calls ≡ DoorsRefused address readers connections ∷ [])))

-- a call that was refused hands nothing out, and gives nothing back
record IsIdle (calls : List HostCall) : Type 0 where
  hands : HandOnly calls
  returns : ReturnOnly calls
  none : (thing : Thing) → sum_by (handed thing) calls ≡ 0

idle-none : IsIdle []
idle-none = record { hands = λ thing. tt; returns = λ thing. tt; none = λ thing. refl }

file-refused : (thing : Thing) (name : List ℕ) → (handed thing (FileRefused name) ≡ 0) × (returned thing (FileRefused name) ≡ 0)
file-refused (ADisk n) name = (refl, refl)
file-refused (AFile n) name = (refl, refl)
file-refused ADoor name = (refl, refl)
file-refused (APort n) name = (refl, refl)

doors-refused : (thing : Thing) (address : List ℕ) (readers connections : ℕ)
    → (handed thing (DoorsRefused address readers connections) ≡ 0) × (returned thing (DoorsRefused address readers connections) ≡ 0)
doors-refused (ADisk n) a r c = (refl, refl)
doors-refused (AFile n) a r c = (refl, refl)
doors-refused ADoor a r c = (refl, refl)
doors-refused (APort n) a r c = (refl, refl)

idle-file : (name : List ℕ) → IsIdle (FileRefused name ∷ [])
idle-file name = record {
  hands = λ thing. ((file-refused thing name).1, tt);
  returns = λ thing. ((file-refused thing name).0, tt);
  none = λ thing. omega (arith, sum_by-cons (handed thing) (FileRefused name) [], (file-refused thing name).0);
}

idle-doors : (a : List ℕ) (r c : ℕ) → IsIdle (DoorsRefused a r c ∷ [])
idle-doors a r c = record {
  hands = λ thing. ((doors-refused thing a r c).1, tt);
  returns = λ thing. ((doors-refused thing a r c).0, tt);
  none = λ thing. omega (arith, sum_by-cons (handed thing) (DoorsRefused a r c) [], (doors-refused thing a r c).0);
}

idle : (refusal : List HostCall) → IsRefusal refusal → IsIdle refusal
idle refusal (inl is) = subst (λ (cs : List HostCall). IsIdle cs) (sym is) idle-none
idle refusal (inr (inl f)) = subst (λ (cs : List HostCall). IsIdle cs) (sym f.1) (idle-file f.0)
idle refusal (inr (inr d)) = subst (λ (cs : List HostCall). IsIdle cs) (sym d.3) (idle-doors d.0 d.1 d.2)

-- ---- files that no worker had yet

back-of-files : {F G J : Type 0} (source : F → Stream) (door : G → Connections) (host : HostState) (front names more : List (List ℕ)) (at : ℕ)
    (workers : List (Worker F G J)) → at ≡ length front → AllZip (IsFileOf source host) names workers
    → calls_of source door (front ++ (names ++ more)) at workers ≡ files_back names (map (file_at host) names)
back-of-files source door host front [] more at [] place are = refl
back-of-files source door host front [] more at (w ∷ ws) place are = absurd are
back-of-files source door host front (n ∷ ns) more at [] place are = absurd are
back-of-files source door host front (n ∷ ns) more at (Reader r ∷ ws) place are = absurd are.0
back-of-files source door host front (n ∷ ns) more at (Merger ∷ ws) place are = absurd are.0
back-of-files source door host front (n ∷ ns) more at (File f ∷ ws) place are =
    let next : at + 1 ≡ length (front ++ n ∷ []) = omega (arith, place, length-append front (n ∷ [])) in
    let rest = back-of-files source door host (front ++ n ∷ []) ns more (at + 1) ws next are.1 in
    let same : (front ++ n ∷ []) ++ (ns ++ more) ≡ front ++ (n ∷ (ns ++ more)) = append_assoc front (n ∷ []) (ns ++ more) in
    let tail : calls_of source door (front ++ (n ∷ (ns ++ more))) (at + 1) ws ≡ files_back ns (map (file_at host) ns) =
    ap (λ (all : List (List ℕ)). calls_of source door all (at + 1) ws) (sym same) ∙ rest in
    ap (λ (name : List ℕ). FileBack name (source f.source) ∷ calls_of source door (front ++ (n ∷ (ns ++ more))) (at + 1) ws)
    (name-at-front front n (ns ++ more) at place)
    ∙ (ap (λ (cs : List HostCall). FileBack n (source f.source) ∷ cs) tail
    ∙ ap (λ (file : Stream). FileBack n file ∷ files_back ns (map (file_at host) ns)) are.0.0)

named-back : {F G J : Type 0} (source : F → Stream) (host : HostState) (all names : List (List ℕ)) (at : ℕ) (workers : List (Worker F G J))
    → at + length names ≤ length all → AllZip (IsFileOf source host) names workers → AreNamed all at workers
named-back source host all [] at [] few are = tt
named-back source host all [] at (w ∷ ws) few are = absurd are
named-back source host all (n ∷ ns) at [] few are = absurd are
named-back source host all (n ∷ ns) at (Reader r ∷ ws) few are = absurd are.0
named-back source host all (n ∷ ns) at (Merger ∷ ws) few are = absurd are.0
named-back source host all (n ∷ ns) at (File f ∷ ws) few are = (omega (arith, few), named-back source host all ns (at + 1) ws (omega (arith, few)) are.1)

-- files of these names were handed out, something may have been refused, and no worker had them yet
module _ {F G J : Type 0} (source : F → Stream) (door : G → Connections) (all names : List (List ℕ)) (front : IsPrefix names all)
    (workers : List (Worker F G J)) (before middle now : HostState) (out : FilesOut source names workers before middle)
    (refusal : List HostCall) (refused : IsRefusal refusal) (noted_is : now.calls ≡ added refusal middle.calls) where
  abbrev files : List Stream
  files = map (file_at before) names

  backs : calls_of source door all 0 workers ≡ files_back names files
  backs = subst (λ (l : List (List ℕ)). calls_of source door l 0 workers ≡ files_back names files) (sym front.is)
      (back-of-files source door before [] names front.rest 0 workers refl out.files)

  outs : now.calls ≡ added (refusal ++ files_out names) before.calls
  outs = noted_is ∙ (ap (λ (h : HostState). added refusal h.calls) out.rest ∙ sym (added-both refusal (files_out names) before.calls))

  hand : HandOnly (refusal ++ files_out names)
  hand = hand-both refusal (files_out names) (idle refusal refused).hands (files-hand-only names)

  returned_is : (thing : Thing) → sum_by (returned thing) (files_back names files) ≡ sum_by (handed thing) (refusal ++ files_out names)
  returned_is = λ thing. omega (
    arith,
    returned-files thing names files (length-map names (file_at before)),
    files-handed thing names,
    sum_by-append (handed thing) refusal (files_out names),
    (idle refusal refused).none thing,
  )

  pub front-named : AreNamed all 0 workers
  front-named = named-back source before all names 0 workers (omega (arith, ap length front.is, length-append names front.rest)) out.files

  pub front-can : CanReturn (calls_of source door all 0 workers) now
  front-can = rw backs (are-out (refusal ++ files_out names) before now (λ thing. sum_by (returned thing) (files_back names files)) hand
      (λ thing. omega (arith, returned_is thing)) outs)

  pub record GaveUp (after : HostState) : Type 0 where
    pub calls : after.calls ≡ added (files_back names files ++ (refusal ++ files_out names)) before.calls
    pub disks : after.disks ≡ now.disks
    pub disk_faults : after.disk_faults ≡ now.disk_faults
    pub gives_back : GivesBack before after

  pub gave-up : (after : HostState) → GivenBack source door all 0 workers now after → GaveUp after
  gave-up after back =
      let given = given-rest source door all 0 workers now after back in
      let calls : after.calls ≡ added (files_back names files ++ (refusal ++ files_out names)) before.calls =
      given.calls ∙ (ap (λ (cs : List HostCall). added cs now.calls) backs
      ∙ (ap (λ (c : Option (List HostCall)). added (files_back names files) c) outs
      ∙ sym (added-both (files_back names files) (refusal ++ files_out names) before.calls))) in
      record {
        calls = calls;
        disks = given.disks;
        disk_faults = given.disk_faults;
        gives_back = gives-back (files_back names files) (refusal ++ files_out names) before after
            (files-return-only names files) hand returned_is calls;
      }

-- ---- what was refused

record Noted (call : HostCall) (before after : Option (List HostCall)) : Type 0 where
  refusal : List HostCall
  maybe : IsMaybe call refusal
  is : after ≡ added refusal before

noted-refusal : (call : HostCall) (before after : Option (List HostCall)) → MayNote call before after → Noted call before after
noted-refusal call before after (inl is) = record { refusal = call ∷ []; maybe = inr refl; is = is }
noted-refusal call before after (inr is) = record { refusal = []; maybe = inl refl; is = is }

maybe-file : (name : List ℕ) (refusal : List HostCall) → IsMaybe (FileRefused name) refusal → IsRefusal refusal
maybe-file name refusal (inl is) = inl is
maybe-file name refusal (inr is) = inr (inl (name, is))

maybe-doors : (a : List ℕ) (r c : ℕ) (refusal : List HostCall) → IsMaybe (DoorsRefused a r c) refusal → IsRefusal refusal
maybe-doors a r c refusal (inl is) = inl is
maybe-doors a r c refusal (inr is) = inr (inr (a, r, c, is))

shorter : (names : List (List ℕ)) (name : List ℕ) (all : List (List ℕ)) → IsPrefix (names ++ name ∷ []) all → IsPrefix names all
shorter names name all p = record { rest = name ∷ p.rest; is = p.is ∙ append_assoc names (name ∷ []) p.rest }

-- own faults stay while workers are given back
own-stays : {F G J : Type 0} (source : F → Stream) (door : G → Connections) (names : List (List ℕ)) (at : ℕ) (workers : List (Worker F G J))
    (before after : HostState) → GivenBack source door names at workers before after → after.own_faults ≡ before.own_faults
own-stays source door names at [] before after back = ap (λ (h : HostState). h.own_faults) back
own-stays source door names at (File f ∷ ws) before after back =
    ap (λ (h : HostState). h.own_faults) back.2.rest ∙ own-stays source door names (at + 1) ws before back.0 back.1
own-stays source door names at (Reader r ∷ ws) before after back =
    ap (λ (h : HostState). h.own_faults) back.2.rest ∙ own-stays source door names (at + 1) ws before back.0 back.1
own-stays source door names at (Merger ∷ ws) before after back =
    ap (λ (h : HostState). h.own_faults) back.2 ∙ own-stays source door names (at + 1) ws before back.0 back.1

module _ {F G J : Type 0} (source : F → Stream) (door : G → Connections) (service : Service) (workers : List (Worker F G J))
    (before now : HostState) where
  pub file-refused-named : FilesRefused source service.files workers before now → AreNamed service.files 0 workers
  file-refused-named r =
      let n = noted-refusal (FileRefused r.name) r.middle.calls now.calls r.refused.calls in
      front-named source door service.files r.front (shorter r.front r.name service.files r.next) workers before r.middle now r.handed
      n.refusal (maybe-file r.name n.refusal n.maybe) n.is

  pub file-refused-can : FilesRefused source service.files workers before now → CanReturn (calls_of source door service.files 0 workers) now
  file-refused-can r =
      let n = noted-refusal (FileRefused r.name) r.middle.calls now.calls r.refused.calls in
      front-can source door service.files r.front (shorter r.front r.name service.files r.next) workers before r.middle now r.handed
      n.refusal (maybe-file r.name n.refusal n.maybe) n.is

  pub file-given-up : (after : HostState) (at : ℕ) (r : FilesRefused source service.files workers before now)
      → GivenBack source door service.files 0 workers now after → at < length service.files → length workers ≡ at
      → HasGivenUp service (whys.NoFile at) before after × GivesBack before after
  file-given-up after at r back below is =
      let named : name_at service.files at ≡ r.name = ap (λ (k : ℕ). name_at service.files k) (sym is) ∙ sym r.at in
      let n = noted-refusal (FileRefused r.name) r.middle.calls now.calls r.refused.calls in
      let up = gave-up source door service.files r.front (shorter r.front r.name service.files r.next) workers before r.middle now r.handed
      n.refusal (maybe-file r.name n.refusal n.maybe) n.is after back in
      let own : after.own_faults ≡ now.own_faults = own-stays source door service.files 0 workers now after back in
      let was : r.middle.own_faults ≡ before.own_faults = ap (λ (h : HostState). h.own_faults) r.handed.rest in
      let rises : Rises before.own_faults after.own_faults = rw (own, sym was) r.refused.rises in (
        record {
          names = r.front;
          refusal = n.refusal;
          calls = up.calls;
          disks = up.disks ∙ (ap (λ (h : HostState). h.disks) r.refused.rest ∙ ap (λ (h : HostState). h.disks) r.handed.rest);
          disk_faults = up.disk_faults ∙ (ap (λ (h : HostState). h.disk_faults) r.refused.rest ∙ ap (λ (h : HostState). h.disk_faults) r.handed.rest);
          placed = below;
          cause = (rises, rw named r.next, rw named n.maybe);
        },
        up.gives_back,
      )

  -- the calls that say so, if there are any
  record StopNoted {E : Type 0} (stop : Stop E) (middle : HostState) : Type 0 where
    refusal : List HostCall
    refused : IsRefusal refusal
    is : now.calls ≡ added refusal middle.calls
    disks : now.disks ≡ middle.disks
    disk_faults : now.disk_faults ≡ middle.disk_faults

  stop-noted : {E : Type 0} (stop : Stop E) (middle : HostState) → NotMade service.address service.readers service.connections stop middle now
      → StopNoted stop middle
  stop-noted (stops.Fault e) middle not =
      let n = noted-refusal (DoorsRefused service.address service.readers service.connections) middle.calls now.calls not.calls in record {
        refusal = n.refusal;
        refused = maybe-doors service.address service.readers service.connections n.refusal n.maybe;
        is = n.is;
        disks = ap (λ (h : HostState). h.disks) not.rest;
        disk_faults = ap (λ (h : HostState). h.disk_faults) not.rest;
      }
  stop-noted stops.OutOfMemory middle not = record {
    refusal = [];
    refused = inl refl;
    is = ap (λ (h : HostState). h.calls) not;
    disks = ap (λ (h : HostState). h.disks) not;
    disk_faults = ap (λ (h : HostState). h.disk_faults) not;
  }

  pub stopped-named : {E : Type 0} (stop : Stop E) (middle : HostState) → FilesOut source service.files workers before middle
      → NotMade service.address service.readers service.connections stop middle now → AreNamed service.files 0 workers
  stopped-named stop middle out not = let n = stop-noted stop middle not in
      front-named source door service.files service.files (prefix-self service.files) workers before middle now out n.refusal n.refused n.is

  pub stopped-can : {E : Type 0} (stop : Stop E) (middle : HostState) → FilesOut source service.files workers before middle
      → NotMade service.address service.readers service.connections stop middle now → CanReturn (calls_of source door service.files 0 workers) now
  stopped-can stop middle out not = let n = stop-noted stop middle not in
      front-can source door service.files service.files (prefix-self service.files) workers before middle now out n.refusal n.refused n.is

  -- memory was wanting for the doors
  pub starved : (middle after : HostState) → FilesOut source service.files workers before middle
      → now ≡ record middle { links = now.links } → GivenBack source door service.files 0 workers now after
      → HasGivenUp service whys.NoMemory before after × GivesBack before after
  starved middle after out same back =
      let up = gave-up source door service.files service.files (prefix-self service.files) workers before middle now out
      [] (inl refl) (ap (λ (h : HostState). h.calls) same) after back in (
        record {
          names = service.files;
          refusal = [];
          calls = up.calls;
          disks = up.disks ∙ (ap (λ (h : HostState). h.disks) same ∙ ap (λ (h : HostState). h.disks) out.rest);
          disk_faults = up.disk_faults ∙ (ap (λ (h : HostState). h.disk_faults) same ∙ ap (λ (h : HostState). h.disk_faults) out.rest);
          placed = tt;
          cause = (
            refl,
            refl,
            own-stays source door service.files 0 workers now after back ∙ (ap (λ (h : HostState). h.own_faults) same ∙ ap (λ (h : HostState). h.own_faults) out.rest),
          );
        },
        up.gives_back,
      )

  pub doors-given-up : (middle after : HostState) → FilesOut source service.files workers before middle
      → RefusesDoors service.address service.readers service.connections middle now
      → GivenBack source door service.files 0 workers now after
      → HasGivenUp service whys.NoAddress before after × GivesBack before after
  doors-given-up middle after out refuses back =
      let n = noted-refusal (DoorsRefused service.address service.readers service.connections) middle.calls now.calls refuses.calls in
      let up = gave-up source door service.files service.files (prefix-self service.files) workers before middle now out
      n.refusal (maybe-doors service.address service.readers service.connections n.refusal n.maybe) n.is after back in
      let own : after.own_faults ≡ now.own_faults = own-stays source door service.files 0 workers now after back in
      let was : middle.own_faults ≡ before.own_faults = ap (λ (h : HostState). h.own_faults) out.rest in
      let rises : Rises before.own_faults after.own_faults = rw (own, sym was) refuses.rises in (
        record {
          names = service.files;
          refusal = n.refusal;
          calls = up.calls;
          disks = up.disks ∙ (ap (λ (h : HostState). h.disks) refuses.rest ∙ ap (λ (h : HostState). h.disks) out.rest);
          disk_faults = up.disk_faults ∙ (ap (λ (h : HostState). h.disk_faults) refuses.rest ∙ ap (λ (h : HostState). h.disk_faults) out.rest);
          placed = tt;
          cause = (rises, refl, n.maybe);
        },
        up.gives_back,
      )

-- ---- doors that were handed out

doors-hand : (thing : Thing) (address : List ℕ) (readers connections : ℕ)
    → (handed thing (DoorsOut address readers connections) ≡ handed thing (DoorsOut [] readers 0)) × (returned thing (DoorsOut address readers connections) ≡ 0)
doors-hand (ADisk n) a r c = (refl, refl)
doors-hand (AFile n) a r c = (refl, refl)
doors-hand ADoor a r c = (refl, refl)
doors-hand (APort n) a r c = (refl, refl)

door-back : (thing : Thing) (runs : List DoorRun) → AllByRecursion (λ call. handed thing call ≡ 0) (map (λ (run : DoorRun). DoorBack run.connections) runs)
door-back thing [] = tt
door-back (ADisk n) (r ∷ rs) = (refl, door-back (ADisk n) rs)
door-back (AFile n) (r ∷ rs) = (refl, door-back (AFile n) rs)
door-back ADoor (r ∷ rs) = (refl, door-back ADoor rs)
door-back (APort n) (r ∷ rs) = (refl, door-back (APort n) rs)

still-files : {F G J : Type 0} (source : F → Stream) (before after : HostState) (names : List (List ℕ)) (workers : List (Worker F G J))
    → after.files ≡ before.files → AllZip (IsFileOf source before) names workers → AllZip (IsFileOf source after) names workers
still-files source before after [] [] same are = tt
still-files source before after [] (w ∷ ws) same are = absurd are
still-files source before after (n ∷ ns) [] same are = absurd are
still-files source before after (n ∷ ns) (File f ∷ ws) same are =
    ((are.0.0 ∙ ap (λ (fs : List ℕ → Option (List ℕ)). source_alone (fs n) 0 0) (sym same), are.0.1), still-files source before after ns ws same are.1)
still-files source before after (n ∷ ns) (Reader r ∷ ws) same are = absurd are.0
still-files source before after (n ∷ ns) (Merger ∷ ws) same are = absurd are.0

module _ {F G J : Type 0} (source : F → Stream) (service : Service) (workers : List (Worker F G J)) (doors : List Connections)
    (before middle now : HostState) (out : FilesOut source service.files workers before middle)
    (hands : HandsDoors service.address service.readers service.connections doors middle now) where
  outs-are : now.calls ≡ added (DoorsOut service.address service.readers service.connections ∷ files_out service.files) before.calls
  outs-are = ap (λ (h : HostState). h.calls) hands.rest
      ∙ ap (λ (h : HostState). noted (DoorsOut service.address service.readers service.connections) h.calls) out.rest

  files-same : now.files ≡ before.files
  files-same = ap (λ (h : HostState). h.files) hands.rest ∙ ap (λ (h : HostState). h.files) out.rest

  outs-hand : HandOnly (DoorsOut service.address service.readers service.connections ∷ files_out service.files)
  outs-hand = λ thing. ((doors-hand thing service.address service.readers service.connections).1, files-hand-only service.files thing)

  outs-due : (thing : Thing) → due thing service.files service.readers
      ≡ sum_by (handed thing) (DoorsOut service.address service.readers service.connections ∷ files_out service.files)
  outs-due = λ thing. omega (
    arith,
    sum_by-cons (handed thing) (DoorsOut service.address service.readers service.connections) (files_out service.files),
    (doors-hand thing service.address service.readers service.connections).0,
    files-handed thing service.files,
  )

  pub doors-files : AllZip (IsFileOf source now) service.files workers
  doors-files = still-files source before now service.files workers files-same out.files

  pub doors-out : AreOut service.files service.readers now
  doors-out = are-out (DoorsOut service.address service.readers service.connections ∷ files_out service.files) before now
      (λ thing. due thing service.files service.readers) outs-hand (λ thing. omega (arith, outs-due thing)) outs-are

  pub doors-worked : (opening journal : List Batch) (first : Option Fault) (lines : Option (List ℕ)) (after : HostState)
      → WorksOver service.book service.files opening journal doors first lines now after
      → HasWorked service opening journal first lines before after × GivesBack before after
  doors-worked opening journal first lines after over =
      let backs = files_back service.files (map (λ (run : FileRun). run.file) over.files) ++ map (λ (run : DoorRun). DoorBack run.connections) over.doors in
      let even : length (map (λ (run : FileRun). run.file) over.files) ≡ length service.files =
      length-map over.files (λ (run : FileRun). run.file)
      ∙ (AllZip-long IsImported (map (file_at now) service.files) over.files over.imported ∙ length-map service.files (file_at now)) in
      let count : length over.doors ≡ service.readers = AllZip-long (IsServedFrom service.book opening) doors over.doors over.served ∙ hands.fresh.number in (
        record {
          handed = doors;
          are_fresh = subst (λ (ls : List ℕ → ℕ → Option (List Stream)). AreFresh service.readers service.connections (ls service.address) doors)
              (ap (λ (h : HostState). h.links) out.rest) hands.fresh;
          middle = now;
          out = outs-are;
          files = files-same;
          disks = ap (λ (h : HostState). h.disks) hands.rest ∙ ap (λ (h : HostState). h.disks) out.rest;
          disk_faults = ap (λ (h : HostState). h.disk_faults) hands.rest ∙ ap (λ (h : HostState). h.disk_faults) out.rest;
          file_faults = ap (λ (h : HostState). h.file_faults) hands.rest ∙ ap (λ (h : HostState). h.file_faults) out.rest;
          door_faults = ap (λ (h : HostState). h.door_faults) hands.rest ∙ ap (λ (h : HostState). h.door_faults) out.rest;
          over = over;
        },
        gives-back backs (DoorsOut service.address service.readers service.connections ∷ files_out service.files) before after
            (return-both (files_back service.files (map (λ (run : FileRun). run.file) over.files)) (map (λ (run : DoorRun). DoorBack run.connections) over.doors)
            (files-return-only service.files (map (λ (run : FileRun). run.file) over.files)) (λ thing. door-back thing over.doors))
            outs-hand
            (λ thing. due-is thing service.files (map (λ (run : FileRun). run.file) over.files) over.doors service.readers even count ∙ outs-due thing)
            (over.calls ∙ (ap (λ (c : Option (List HostCall)). added backs c) outs-are
            ∙ sym (added-both backs (DoorsOut service.address service.readers service.connections ∷ files_out service.files) before.calls))),
      )
