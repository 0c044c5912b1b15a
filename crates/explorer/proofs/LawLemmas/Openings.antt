-- A told file of openings gives one book, or one fault.
use Rattle.std.proofs.Common.{◌≡◌, ◌⊎◌, ◌∙◌, inl, inr, ℕ, zero, suc, ◌+◌, ◌-◌, ◌^◌, ◌<◌, ◌≤◌, List, [], ◌∷◌, ◌++◌, Option, None, Some, Result, Ok, Err, length, take, drop, length-append, append-nil, refl, sym, ap, subst, arith}
use Rattle.std.specs.Prelude.{◌≢◌, IsSome}
use Rattle.import_run.proofs.LawLemmas.{no_rise}
use Rattle.outside.specs.Stream.{Stream, source_alone}
use Rattle.explorer_model.specs.declared.opening.BookCause.{BookCause}
use Rattle.explorer_model.specs.declared.opening.BookFault.{BookFault}
use Rattle.explorer_model.specs.Openings.{BookReads, NamedPosition}
use Rattle.host.specs.Hosts.{Counts, FileBack, FileOut, HostState, noted}
use Rattle.explorer.specs.declared.fault.Fault.{Fault}
use Rattle.explorer.specs.declared.fault.Fault.TheVariants as faults
use Rattle.explorer.specs.Book.{FilesCame, HasBook, LacksBook, ReadsFile, ReadsPast, ReadsWhole, StopsAtBook, openings_limit}
use Rattle.explorer.specs.Laws.{HostWell, IsToldBook, IsToldOpenings, OpensWell}
use Rattle.explorer.specs.Lines.{Ending, Stopped, status_of}
use Rattle.explorer.specs.World.{World}
use Rattle.explorer.proofs.LawLemmas.OneEnding.{end_is, told_rest}

-- what a lower crate says: a text has one book, or one first faulty line
abbrev pub OneBook : Type 0
OneBook = (text : List ℕ) (book other : Result (List NamedPosition) BookFault) → BookReads text book → BookReads text other
    → book ≡ other

-- ---- what a told file comes to

some_bytes : (told : Option (List ℕ)) → IsSome told → (bytes : List ℕ) × (told ≡ Some bytes)
some_bytes None is = absurd (cc)
some_bytes (Some bytes) is = (bytes, refl)

none_failed : (faults before after : ℕ) → Counts faults before after → after ≡ before → before < 2 ^ 64 - 1 → faults ≡ 0
none_failed zero before after counts same low = refl
none_failed (suc n) before after counts same low = absurd (no_rise before after same low (counts.rises (omega arith)))

-- the file once so much of it was read, and is left
abbrev read_to : List ℕ → List ℕ → Stream
read_to read rest = record (source_alone (Some rest) 0 0) { given = 0 + length read }

-- the host once it came back so
abbrev came_back : List ℕ → HostState → List ℕ → List ℕ → HostState
came_back name before read rest = record before {
  calls = noted (FileBack name (read_to read rest)) (noted (FileOut name) before.calls);
  file_faults = before.file_faults;
}

module _ (name bytes : List ℕ) (before : HostState) (told : before.files name ≡ Some bytes) (low : before.file_faults < 2 ^ 64 - 1) where
  comes_back : (read : List ℕ) (after : HostState) (file : ReadsFile name read before after) → FilesCame before after
      → (rest : List ℕ) × (bytes ≡ read ++ rest) × (file.returned.left ≡ Some rest) × (after ≡ came_back name before read rest)
  comes_back read after file came =
      let given_faults : file.given.file_faults ≡ before.file_faults = ap (λ (h : HostState). h.file_faults) file.hands.rest in
      let left : file.handed.left ≡ Some bytes = ap (λ (s : Stream). s.left) file.hands.stood ∙ told in
      let rest = told_rest file.handed.left file.returned.left bytes read left file.reads.next in
      let none : file.returned.read_faults ≡ 0 =
      none_failed file.returned.read_faults file.given.file_faults after.file_faults file.takes.counts (came ∙ sym given_faults) (rw given_faults low) in
      let stood : file.handed ≡ source_alone (Some bytes) 0 0 = file.hands.stood ∙ ap (λ (o : Option (List ℕ)). source_alone o 0 0) told in
      let returned : file.returned ≡ read_to read rest.0 =
      file.reads.rest
      ∙ ap (λ (s : Stream). record s { left = file.returned.left; given = s.given + length read; read_faults = file.returned.read_faults }) stood
      ∙ ap (λ (o : Option (List ℕ)). record (source_alone o 0 0) { given = 0 + length read; read_faults = file.returned.read_faults }) rest.2
      ∙ ap (λ (n : ℕ). record (source_alone (Some rest.0) 0 0) { given = 0 + length read; read_faults = n }) none in
      let after_is : after ≡ came_back name before read rest.0 =
      file.takes.rest
      ∙ ap (λ (s : Stream). record file.given { calls = noted (FileBack name s) file.given.calls; file_faults = after.file_faults }) returned
      ∙ ap (λ (n : ℕ). record file.given { calls = noted (FileBack name (read_to read rest.0)) file.given.calls; file_faults = n }) came
      ∙ ap (λ (h : HostState). record h { calls = noted (FileBack name (read_to read rest.0)) h.calls; file_faults = before.file_faults }) file.hands.rest in
      (rest.0, rest.1, rest.2, after_is)

  -- it was read to its end
  whole : (read : List ℕ) (after : HostState) → ReadsWhole name read before after
      → (read ≡ bytes) × (after ≡ came_back name before bytes [])
  whole read after reads =
      let back = comes_back read after reads.file reads.came in
      let none : back.0 ≡ [] = end_is reads.file.returned.left back.0 back.2 reads.at_end in
      let all : read ≡ bytes = sym (back.1 ∙ ap (λ (l : List ℕ). read ++ l) none ∙ append-nil read) in
      (all, back.3 ∙ ap (came_back name before read) none ∙ ap (λ (l : List ℕ). came_back name before l []) all)

  front-is : (xs ys : List ℕ) → take (length xs) (xs ++ ys) ≡ xs
  front-is [] ys = refl
  front-is (x ∷ xs) ys = ap (λ (l : List ℕ). x ∷ l) (front-is xs ys)

  behind-is : (xs ys : List ℕ) → drop (length xs) (xs ++ ys) ≡ ys
  behind-is [] ys = refl
  behind-is (x ∷ xs) ys = behind-is xs ys

  -- or to the byte that is one too many
  past : (read : List ℕ) (after : HostState) → ReadsPast name read before after
      → (openings_limit < length bytes)
      × (after ≡ came_back name before (take (openings_limit + 1) bytes) (drop (openings_limit + 1) bytes))
  past read after reads =
      let back = comes_back read after reads.file reads.came in
      let front : take (openings_limit + 1) bytes ≡ read =
      subst (λ (n : ℕ). take n bytes ≡ read) reads.many (ap (take (length read)) back.1 ∙ front-is read back.0) in
      let behind : drop (openings_limit + 1) bytes ≡ back.0 =
      subst (λ (n : ℕ). drop n bytes ≡ back.0) reads.many (ap (drop (length read)) back.1 ∙ behind-is read back.0) in
      let long = ap (λ (l : List ℕ). length l) back.1 ∙ length-append read back.0 in (
        omega (arith, long, reads.many),
        back.3 ∙ ap (λ (l : List ℕ). came_back name before l back.0) (sym front)
            ∙ ap (came_back name before (take (openings_limit + 1) bytes)) (sym behind),
      )

  -- a book, or a fault by the bytes alone
  IsBooked : List NamedPosition → HostState → Type 0
  IsBooked book after =
      (length bytes ≤ openings_limit) × BookReads bytes (Ok book) × (after ≡ came_back name before bytes [])

  IsFaulty : Fault → HostState → Type 0
  IsFaulty fault after =
      ((fault ≡ faults.OpeningsTooLong) × (openings_limit < length bytes)
      × (after ≡ came_back name before (take (openings_limit + 1) bytes) (drop (openings_limit + 1) bytes)))
      ⊎ ((row : ℕ) × (cause : BookCause) × (fault ≡ faults.BadOpenings row cause) × (length bytes ≤ openings_limit)
      × BookReads bytes (Err (record { line = row; cause = cause })) × (after ≡ came_back name before bytes []))

  booked : (book : List NamedPosition) (after : HostState) → HasBook (Some name) book before after → IsBooked book after
  unfolding IsBooked
  booked book after (read, reads, is) =
      let all = whole read after reads in
      (rw (sym all.0) reads.few, subst (λ (l : List ℕ). BookReads l (Ok book)) all.0 is, all.1)

  faulty : (fault : Fault) (after : HostState) → before.own_faults < 2 ^ 64 - 1 → after.own_faults ≡ before.own_faults
      → FilesCame before after → (fault ≡ faults.OutOfMemory → ⊥) → LacksBook name fault before after → IsFaulty fault after
  unfolding IsFaulty
  faulty faults.OpeningsTooLong after small same came fed (read, reads) =
      let longer = past read after reads in
      inl (refl, longer.0, longer.1)
  faulty (faults.BadOpenings row cause) after small same came fed (read, reads, is) =
      let all = whole read after reads in
      inr (row, cause, refl, rw (sym all.0) reads.few, subst (λ (l : List ℕ). BookReads l (Err (record { line = row; cause = cause }))) all.0 is, all.1)
  faulty (faults.CannotOpen refused) after small same came fed (is, refuses) =
      absurd (no_rise before.own_faults after.own_faults same small refuses.rises)
  faulty faults.ReadFault after small same came fed (read, reads) =
      absurd (no_rise before.file_faults after.file_faults came low reads.rises)
  faulty faults.OutOfMemory after small same came fed lacks = absurd (fed refl)
  faulty faults.Usage after small same came fed lacks = absurd lacks
  faulty (faults.BadParameter parameter) after small same came fed lacks = absurd lacks
  faulty faults.BadLabel after small same came fed lacks = absurd lacks
  faulty faults.SpillFault after small same came fed lacks = absurd lacks
  faulty (faults.SpillDamaged part) after small same came fed lacks = absurd lacks
  faulty faults.WriteFault after small same came fed lacks = absurd lacks
  faulty faults.DiskFault after small same came fed lacks = absurd lacks
  faulty (faults.NotEmpty size) after small same came fed lacks = absurd lacks
  faulty faults.NotAStore after small same came fed lacks = absurd lacks
  faulty (faults.OtherFormat number) after small same came fed lacks = absurd lacks
  faulty (faults.Damaged gate) after small same came fed lacks = absurd lacks
  faulty (faults.Full games size) after small same came fed lacks = absurd lacks
  faulty faults.CannotAccept after small same came fed lacks = absurd lacks
  faulty faults.TooMuchInput after small same came fed lacks = absurd lacks

  -- ---- two readings

  module _ (one : OneBook) where
    one_booked : (book other : List NamedPosition) (after later : HostState) → IsBooked book after → IsBooked other later
        → (book ≡ other) × (after ≡ later)
    unfolding IsBooked
    one_booked book other after later a b =
        let same : Ok book ≡ Ok other = one bytes (Ok book) (Ok other) a.1 b.1 in
        ((cc), a.2 ∙ sym b.2)

    not_both : (book : List NamedPosition) (fault : Fault) (after later : HostState) → IsBooked book after
        → IsFaulty fault later → ⊥
    unfolding IsBooked IsFaulty
    not_both book fault after later a (inl b) = omega (arith, a.0, b.1)
    not_both book fault after later a (inr b) =
        let same : Ok book ≡ Err _ = one bytes (Ok book) _ a.1 b.4 in cc

    one_faulty : (fault other : Fault) (after later : HostState) → IsFaulty fault after → IsFaulty other later
        → (fault ≡ other) × (after ≡ later)
    unfolding IsFaulty
    one_faulty fault other after later (inl a) (inl b) = (a.0 ∙ sym b.0, a.2 ∙ sym b.2)
    one_faulty fault other after later (inl a) (inr b) = absurd (omega (arith, a.1, b.3))
    one_faulty fault other after later (inr a) (inl b) = absurd (omega (arith, b.1, a.3))
    one_faulty fault other after later (inr a) (inr b) =
        let same : Err (record { line = a.0; cause = a.1 }) ≡ Err (record { line = b.0; cause = b.1 }) = one bytes _ _ a.4 b.4 in
        let fault_of : Result (List NamedPosition) BookFault → Fault = by_line in
        (a.2 ∙ ap fault_of same ∙ sym b.2, a.5 ∙ sym b.5)
      where
        by_line : Result (List NamedPosition) BookFault → Fault
        by_line (Ok book) = faults.OpeningsTooLong
        by_line (Err bad) = faults.BadOpenings bad.line bad.cause

-- ---- the laws

fed_of : (ending : Ending) (fault : Fault) → ending ≡ Stopped fault → status_of ending ≢ 9 → fault ≡ faults.OutOfMemory → ⊥
fed_of ending fault is fed memory = fed (ap status_of (is ∙ ap Stopped memory))

pub one_book : OneBook → (openings : Option (List ℕ)) (book other : List NamedPosition) (world : World) (read later : HostState)
    → IsToldOpenings openings world → HasBook openings book world.host read → HasBook openings other world.host later
    → (book ≡ other) × (read ≡ later)
one_book one None book other world read later told a b = (a.0 ∙ sym b.0, a.1 ∙ sym b.1)
one_book one (Some name) book other world read later told a b =
    let some = some_bytes (world.host.files name) told.file in
    one_booked name some.0 world.host some.1 told.faults one book other read later
    (booked name some.0 world.host some.1 told.faults book read a) (booked name some.0 world.host some.1 told.faults other later b)

pub one_fault : OneBook → (openings : Option (List ℕ)) (before after other : World) (ending ending' : Ending)
    → IsToldOpenings openings before → OpensWell openings before after → OpensWell openings before other
    → status_of ending ≢ 9 → status_of ending' ≢ 9 → StopsAtBook openings before after ending
    → StopsAtBook openings before other ending' → (ending ≡ ending') × (after ≡ other)
one_fault one None before after other ending ending' told well well' fed fed' a b = absurd a
one_fault one (Some name) before after other ending ending' told well well' fed fed' (fault, is, lacks, only) (fault', is', lacks', only') =
    let some = some_bytes (before.host.files name) told.file in
    let first = faulty name some.0 before.host some.1 told.faults fault after.host told.refusals well.refusals well.files
    (fed_of ending fault is fed) lacks in
    let second = faulty name some.0 before.host some.1 told.faults fault' other.host told.refusals well'.refusals well'.files
    (fed_of ending' fault' is' fed') lacks' in
    let same = one_faulty name some.0 before.host some.1 told.faults one fault fault' after.host other.host first second in (
      is ∙ ap Stopped same.0 ∙ sym is',
      only ∙ ap (λ (h : HostState). record before { host = h }) same.1 ∙ sym only',
    )

pub not_either : OneBook → (openings : Option (List ℕ)) (book : List NamedPosition) (before after : World) (read : HostState)
    (ending : Ending) → IsToldOpenings openings before → OpensWell openings before after → status_of ending ≢ 9
    → HasBook openings book before.host read → StopsAtBook openings before after ending → ⊥
not_either one None book before after read ending told well fed has stops = stops
not_either one (Some name) book before after read ending told well fed has (fault, is, lacks, only) =
    let some = some_bytes (before.host.files name) told.file in
    let second = faulty name some.0 before.host some.1 told.faults fault after.host told.refusals well.refusals well.files
    (fed_of ending fault is fed) lacks in
    not_both name some.0 before.host some.1 told.faults one book fault read after.host
    (booked name some.0 before.host some.1 told.faults book read has) second

-- ---- the host behind the file

-- what was read of the host, and what it counts, is as it was
pub record SameHost (before read : HostState) : Type 0 where
  pub disks : read.disks ≡ before.disks
  pub own : read.own_faults ≡ before.own_faults
  pub disk_faults : read.disk_faults ≡ before.disk_faults
  pub files : read.file_faults ≡ before.file_faults
  pub port_faults : read.port_faults ≡ before.port_faults

pub same_host : (openings : Option (List ℕ)) (book : List NamedPosition) (before read : HostState)
    → HasBook openings book before read → SameHost before read
same_host None book before read has = rw has.1 (record { disks = refl; own = refl; disk_faults = refl; files = refl; port_faults = refl })
same_host (Some name) book before read (stream, reads, is) =
    let file = reads.file in
    record {
      disks = ap (λ (h : HostState). h.disks) file.takes.rest ∙ ap (λ (h : HostState). h.disks) file.hands.rest;
      own = ap (λ (h : HostState). h.own_faults) file.takes.rest ∙ ap (λ (h : HostState). h.own_faults) file.hands.rest;
      disk_faults = ap (λ (h : HostState). h.disk_faults) file.takes.rest ∙ ap (λ (h : HostState). h.disk_faults) file.hands.rest;
      files = reads.came;
      port_faults = ap (λ (h : HostState). h.port_faults) file.takes.rest ∙ ap (λ (h : HostState). h.port_faults) file.hands.rest;
    }
