-- A count over a told input has one ending, where no call fails.
use Rattle.std.proofs.Common.{◌≡◌, ℕ, ◌-◌, ◌^◌, ◌<◌, ◌⊎◌, inl, inr, List, [], ◌∷◌, ◌++◌, Option, None, Some, Result, Ok, Err, length, drop, refl, sym, ap, ap₂, subst, ◌∙◌, append_assoc, length-append, arith}
use Rattle.std.specs.Prelude.{IsSome}
use Rattle.std.specs.Io.KnownBytes.{Appends, Consumes, IsAtEnd, append_known}
use Rattle.std.specs.List.{AllByRecursion, AllZip}
use Rattle.std.proofs.lemmas.List.{append-nil, take-append-drop}
use Rattle.std.proofs.lemmas.Grind.{flat_map-append}
use Rattle.plain_laws.specs.Lists.{each-append}
use Rattle.plain_laws.specs.Options.{IsSome-is}
use Rattle.outside.specs.Stream.{Stream, Rises, Writes}
use Rattle.explorer_model.specs.declared.answer.Found.{Found}
use Rattle.explorer_model.specs.declared.archive.Batch.{Batch}
use Rattle.explorer_model.specs.declared.fault.Refusal.{Refusal}
use Rattle.explorer_model.specs.declared.fault.Why.TheVariants as causes
use Rattle.explorer_model.specs.declared.opening.Naming.{Naming}
use Rattle.explorer_model.specs.declared.query.BadParameter.{BadParameter}
use Rattle.explorer_model.specs.declared.query.Query.{Query}
use Rattle.explorer_model.specs.Cuts.{Cut, Preamble, Text, TooLong, cuts}
use Rattle.explorer_model.specs.Labels.{no_label}
use Rattle.explorer_model.specs.Imports.{Accounted, Examination, IsExaminationOf, Unread, groups}
use Rattle.explorer_model.specs.Journal.{IsSound, IsWithin}
use Rattle.explorer_model.specs.Openings.{NamedPosition}
use Rattle.explorer_model.specs.Query.{QueryReads}
use Rattle.import_run.specs.Committing.{Known}
use Rattle.import_run.specs.SoFar.{AreAllGroups, AreGroupsSoFar, AreInGroups, IsWhole, ended_cuts}
use Rattle.import_run.proofs.AccountLemmas.{no_text, none_or_some}
use Rattle.import_run.proofs.GroupLemmas.{all_cuts, groups_closed, texts-cons, texts_in}
use Rattle.import_run.proofs.SameGroups.{same_groups}
use Rattle.import_run.proofs.SoFarLemmas.{in_groups, in_groups_behind}
use Rattle.import_run.proofs.VerdictLemmas.{OneGame}
use Rattle.import_run.proofs.EndedLemmas.{ended_stay}
use Rattle.import_run.proofs.LawLemmas.{no_rise}
use Rattle.explorer.specs.declared.fault.Fault.TheVariants as faults
use Rattle.explorer.specs.Answer.{answer_line}
use Rattle.explorer.specs.Count.{Answers, CountsBy}
use Rattle.explorer.specs.Imported.{IsFullAt, new_store}
use Rattle.explorer.specs.Lines.{Ending, Done, Stopped}
use Rattle.explorer.specs.Report.{MayReport, report}
use Rattle.explorer.specs.Laws.{IsTold, WroteAlike}
use Rattle.explorer.specs.World.{World, IsFaultless}
use Rattle.explorer.proofs.LawLemmas.{IsFullBehind, OneAnswer, OneNaming, one_answer, one_full_behind}
use Rattle.explorer.proofs.LawLemmas.NoRoom.{OneAccount, not_ended, not_stored}

-- ---- told streams

pub told_rest : (left left' : Option (List ℕ)) (stream read : List ℕ) → left ≡ Some stream → Consumes left left' read → (rest : List ℕ) × (stream ≡ read ++ rest) × (left' ≡ Some rest)
told_rest None left' stream read is reads = cc
told_rest (Some bytes) None stream read is reads = absurd reads
told_rest (Some bytes) (Some rest) stream read is reads = let same : bytes ≡ stream = cc in (rest, sym same ∙ reads, refl)

pub end_is : (left : Option (List ℕ)) (rest : List ℕ) → left ≡ Some rest → IsAtEnd left → rest ≡ []
end_is None rest is ended = cc
end_is (Some bytes) rest is ended = let same : bytes ≡ rest = cc in sym same ∙ ended

-- ---- groups of a stream and of a front of it

more_groups : (front more : List Cut) (whole others : List (List Cut)) (hand other : List Cut) → AreInGroups front whole hand → AreInGroups (front ++ more) others other → (rest : List (List Cut)) × (others ≡ whole ++ rest)
more_groups front more whole others hand other first second =
    let later = in_groups_behind hand more first.few in
    let all : AreInGroups (front ++ more) (whole ++ later.whole) later.hand = record {
      all =
          ap (λ (l : List Cut). l ++ more) first.all ∙ append_assoc (all_cuts whole) hand more ∙ ap (λ (l : List Cut). all_cuts whole ++ l) later.are.all
          ∙ sym (append_assoc (all_cuts whole) (all_cuts later.whole) later.hand) ∙ ap (λ (l : List Cut). l ++ later.hand) (sym (flat_map-append (λ (group : List Cut). group) whole later.whole));
      each = each-append IsWhole whole later.whole first.each later.are.each;
      few = later.are.few;
    } in
    (later.whole, (same_groups (front ++ more) others (whole ++ later.whole) other later.hand second all).0)

full_more : (label : List ℕ) (start : Known) (games bytes : ℕ) (so_far more all : List (List Cut)) (batches : List Batch) (refused : List Refusal) → all ≡ so_far ++ more → IsFullBehind label start games bytes so_far batches refused
    → IsFullBehind label start games bytes all batches refused
full_more label start games bytes so_far more all batches refused is (left, ends, full) = (
  left,
  record {
    done = ends.done;
    next = ends.next;
    rest = ends.rest ++ more;
    so_far_is = is ∙ ap (λ (l : List (List Cut)). l ++ more) ends.so_far_is ∙ append_assoc ends.done (ends.next ∷ ends.rest) more;
    earlier = ends.earlier;
    settled = ends.settled;
    known = ends.known;
    journal_is = ends.journal_is;
    fault_is = ends.fault_is;
    examinations = ends.examinations;
    are_examinations = ends.are_examinations;
    left_are = ends.left_are;
    some_left = ends.some_left;
    refused_are = ends.refused_are;
  },
  full,
)

same_all : (ended : List Cut) (all others : List (List Cut)) → AreAllGroups ended all → AreAllGroups ended others → all ≡ others
same_all ended all others first second =
    let same = same_groups ended first.whole second.whole first.hand second.hand first.in_groups second.in_groups in
    first.all_are ∙ ap₂ (λ (w : List (List Cut)) (h : List Cut). w ++ h ∷ []) same.0 same.1 ∙ sym second.all_are

-- a group that finds no room in a front of a stream is the one of the whole stream
pub full_in_all : (label : List ℕ) (start : Known) (games bytes : ℕ) (stream read rest : List ℕ) (left : Option (List ℕ)) (batches : List Batch) (refused : List Refusal) (all : List (List Cut)) → stream ≡ read ++ rest → left ≡ Some rest
    → IsFullAt label games bytes start read left batches refused → AreAllGroups (cuts stream) all → IsFullBehind label start games bytes all batches refused
full_in_all label start games bytes stream read rest left batches refused all stream_is left_is (at, full) groups_are = by_so_far at.are_so_far
  where
    here : IsFullBehind label start games bytes at.so_far batches refused
    here = (at.left, at.ends, full)

    by_so_far : AreGroupsSoFar read left at.so_far → IsFullBehind label start games bytes all batches refused
    by_so_far (inr (at_end, so_far)) =
        let none = end_is left rest left_is at_end in
        let same : read ≡ stream = sym (stream_is ∙ ap (λ (l : List ℕ). read ++ l) none ∙ append-nil read) in
        full_more label start games bytes at.so_far [] all batches refused (same_all (cuts stream) all at.so_far groups_are (subst (λ (l : List ℕ). AreAllGroups (cuts l) at.so_far) same so_far) ∙ sym (append-nil at.so_far)) here
    by_so_far (inl (hand, so_far)) =
        let stay = ended_stay read rest in
        let last = drop (length (cuts stream) - 1) (cuts stream) in
        let split : cuts stream ≡ ended_cuts read ++ (stay.0 ++ last) =
        sym (take-append-drop (length (cuts stream) - 1) (cuts stream)) ∙ ap (λ (l : List Cut). l ++ drop (length (cuts stream) - 1) (cuts stream)) (ap ended_cuts stream_is ∙ stay.1)
        ∙ append_assoc (ended_cuts read) stay.0 (drop (length (cuts stream) - 1) (cuts stream)) in
        let later = more_groups (ended_cuts read) (stay.0 ++ last) at.so_far groups_are.whole hand groups_are.hand so_far (subst (λ (l : List Cut). AreInGroups l groups_are.whole groups_are.hand) split groups_are.in_groups) in
        full_more label start games bytes at.so_far (later.0 ++ groups_are.hand ∷ []) all batches refused
        (groups_are.all_are ∙ ap (λ (l : List (List Cut)). l ++ groups_are.hand ∷ []) later.1 ∙ append_assoc at.so_far later.0 (groups_are.hand ∷ [])) here

-- ---- a stream that is stored whole has no group that finds no room

-- their examinations
pub unread_examinations : (cuts : List Cut) → texts_in cuts ≡ 0 → (examinations : List Examination) × AllZip IsExaminationOf cuts examinations
unread_examinations [] none = ([], tt)
unread_examinations (Text text ∷ cuts) none = absurd (no_text text cuts none)
unread_examinations (TooLong place long ∷ cuts) none =
    let rest = unread_examinations cuts (omega (arith, texts-cons (TooLong place long) cuts, none)) in
    (Unread (record { place = place; why = causes.TooLong long }) ∷ rest.0, (refl, rest.1))
unread_examinations (Preamble place ∷ cuts) none =
    let rest = unread_examinations cuts (omega (arith, texts-cons (Preamble place) cuts, none)) in
    (Unread (record { place = place; why = causes.Preamble }) ∷ rest.0, (refl, rest.1))

abbrev LastOrWithin : List (List Cut) → List Cut → List (List Cut) → List (List Cut) → List Cut → Type 0
LastOrWithin done next rest whole hand = ((done ≡ whole) × (next ≡ hand)) ⊎ ((more : List (List Cut)) × (whole ≡ done ++ next ∷ more))

last_or_within : (done rest whole : List (List Cut)) (next hand : List Cut) → done ++ next ∷ rest ≡ whole ++ hand ∷ [] → LastOrWithin done next rest whole hand
last_or_within [] rest [] next hand all = inl (refl, cc)
last_or_within [] rest (group ∷ whole) next hand all = let head : group ≡ next = cc in inr (whole, ap (λ (g : List Cut). g ∷ whole) head)
last_or_within (group ∷ done) rest [] next hand all = absurd (let long = ap (λ (l : List (List Cut)). length l) all in omega (arith, long, length-append done (next ∷ rest)))
last_or_within (group ∷ done) rest (other ∷ whole) next hand all = by_tail (last_or_within done rest whole next hand cc)
  where
    head : group ≡ other
    head = cc

    by_tail : LastOrWithin done next rest whole hand → LastOrWithin (group ∷ done) next rest (other ∷ whole) hand
    by_tail (inl (same, last)) = inl (ap₂ (λ (g : List Cut) (l : List (List Cut)). g ∷ l) head same, last)
    by_tail (inr (more, is)) = inr (more, ap₂ (λ (g : List Cut) (l : List (List Cut)). g ∷ l) (sym head) is)

each_front : (done more : List (List Cut)) (next : List Cut) → AllByRecursion IsWhole (done ++ next ∷ more) → AllByRecursion IsWhole (done ++ next ∷ [])
each_front [] more next each = (each.0, tt)
each_front (group ∷ done) more next each = (each.0, each_front done more next each.1)

pub done_or_full : (label : List ℕ) (start : Known) → start.fault ≡ None → (stream : List ℕ) (all : List (List Cut)) (games bytes : ℕ) (batches others : List Batch) (refused other : List Refusal) → OneGame → OneAccount
    → Accounted label start.games (groups (cuts stream)) others other → IsWithin (start.journal ++ others) → AreAllGroups (cuts stream) all → IsFullBehind label start games bytes all batches refused → ⊥
done_or_full label start is_open stream all games bytes batches others refused other one accounts stored within groups_are (left, ends, full) =
    by_place (last_or_within ends.done ends.rest groups_are.whole ends.next groups_are.hand (sym ends.so_far_is ∙ groups_are.all_are))
  where
    by_place : LastOrWithin ends.done ends.next ends.rest groups_are.whole groups_are.hand → ⊥
    by_place (inl (same, last)) =
        let A : List Cut → Type 0 = λ l. Accounted label start.games (groups l) others other in
        not_ended label one accounts start is_open all batches refused left ends games bytes full groups_are.whole groups_are.hand [] [] others other
        (sym (ap₂ (λ (w : List (List Cut)) (h : List Cut). w ++ h ∷ []) same last)) groups_are.in_groups.each (omega (arith, groups_are.in_groups.few)) tt (subst A groups_are.in_groups.all stored) within
    by_place (inr (more, is)) =
        let rest = all_cuts more ++ groups_are.hand in
        let cuts_are : cuts stream ≡ all_cuts (ends.done ++ ends.next ∷ []) ++ (all_cuts more ++ groups_are.hand) =
        groups_are.in_groups.all ∙ ap (λ (w : List (List Cut)). all_cuts w ++ groups_are.hand) (is ∙ sym (append_assoc ends.done (ends.next ∷ []) more))
        ∙ ap (λ (l : List Cut). l ++ groups_are.hand) (flat_map-append (λ (group : List Cut). group) (ends.done ++ ends.next ∷ []) more) ∙ append_assoc (all_cuts (ends.done ++ ends.next ∷ [])) (all_cuts more) groups_are.hand in
        let each = each_front ends.done more ends.next (subst (λ (w : List (List Cut)). AllByRecursion IsWhole w) is groups_are.in_groups.each) in
        by_texts rest cuts_are each (none_or_some (texts_in rest))
      where
        by_texts : (rest : List Cut) → cuts stream ≡ all_cuts (ends.done ++ ends.next ∷ []) ++ rest → AllByRecursion IsWhole (ends.done ++ ends.next ∷ []) → (texts_in rest ≡ 0) ⊎ (0 < texts_in rest) → ⊥
        by_texts rest cuts_are each (inl none) =
            let examined = unread_examinations rest none in
            let A : List Cut → Type 0 = λ l. Accounted label start.games (groups l) others other in
            not_ended label one accounts start is_open all batches refused left ends games bytes full (ends.done ++ ends.next ∷ []) rest (rest ∷ []) (examined.0 ∷ []) others other
            (append_assoc ends.done (ends.next ∷ []) (rest ∷ [])) each (omega (arith, none)) (examined.1, tt) (subst A cuts_are stored) within
        by_texts rest cuts_are each (inr some) =
            let split : groups (cuts stream) ≡ ends.done ++ ends.next ∷ groups rest = ap groups cuts_are ∙ groups_closed (ends.done ++ ends.next ∷ []) rest each some ∙ append_assoc ends.done (ends.next ∷ []) (groups rest) in
            let A : List (List Cut) → Type 0 = λ l. Accounted label start.games l others other in
            not_stored label one accounts start is_open all batches refused left ends games bytes full (groups rest) others other (subst A split stored) within

-- ---- what is written

pub appended : (old new : Option (List ℕ)) (chunk : List ℕ) → IsSome old → Appends old new chunk → new ≡ append_known old chunk
appended None new chunk told appends = cc
appended (Some bytes) None chunk told appends = absurd appends
appended (Some bytes) (Some more) chunk told appends = ap Some appends

pub wrote_stream : (chunk : List ℕ) (old new : Stream) → IsSome old.written → old.write_faults < 2 ^ 64 - 1 → new.write_faults ≡ old.write_faults → Writes (chunk ∷ []) old new
    → new ≡ record old { written = append_known old.written chunk }
wrote_stream chunk old new told low same (middle, inl takes, is) =
    is ∙ takes.rest ∙ ap (λ (o : Option (List ℕ)). record old { written = o }) (appended old.written middle.written chunk told takes.appended)
wrote_stream chunk old new told low same (middle, inr fails, is) = absurd (no_rise old.write_faults middle.write_faults (sym (ap (λ (s : Stream). s.write_faults) is) ∙ same) low fails.rises)

pub wrote : (chunk : List ℕ) (old new : Stream) → IsSome old.written → old.write_faults < 2 ^ 64 - 1 → new.write_faults ≡ old.write_faults → Writes (chunk ∷ []) old new → new.written ≡ append_known old.written chunk
wrote chunk old new told low same writes = ap (λ (s : Stream). s.written) (wrote_stream chunk old new told low same writes)

-- ---- endings

-- a count that ends as an answer, or at a group that finds no room
abbrev Comes : List ℕ → List (List Cut) → List NamedPosition → Query → World → World → Ending → Type 0
Comes stream all book query before after ending = ((ending ≡ Done) × Answers book query before after)
    ⊎ ((games : ℕ) × (bytes : ℕ) × (batches : List Batch) × (refused : List Refusal) × (ending ≡ Stopped (faults.Full games bytes)) × IsFullBehind no_label new_store games bytes all batches refused × IsSound batches
    × (after.output ≡ before.output) × MayReport (report refused) before.errors after.errors)

comes : (stream : List ℕ) (all : List (List Cut)) (book : List NamedPosition) (query : Query) (before after : World) (ending : Ending) → IsTold stream before → AreAllGroups (cuts stream) all → IsFaultless before after
    → CountsBy query book before after ending → Comes stream all book query before after ending
comes stream all book query before after Done told groups_are faultless counts = inl (refl, counts.0)
comes stream all book query before after (Stopped faults.WriteFault) told groups_are faultless counts = by_rise counts.1.rises
  where
    by_rise : Rises before.output.write_faults after.output.write_faults ⊎ Rises before.errors.write_faults after.errors.write_faults → Comes stream all book query before after (Stopped faults.WriteFault)
    by_rise (inl rises) = absurd (no_rise before.output.write_faults after.output.write_faults faultless.output told.writes rises)
    by_rise (inr rises) = absurd (no_rise before.errors.write_faults after.errors.write_faults faultless.errors told.reports rises)
comes stream all book query before after (Stopped faults.ReadFault) told groups_are faultless counts = absurd (no_rise before.input.read_faults after.input.read_faults faultless.reads told.reads counts.1)
comes stream all book query before after (Stopped faults.TooMuchInput) told groups_are faultless counts =
    let imports = counts.0.imports in
    let rest = told_rest before.input.left after.input.left stream imports.stream told.input imports.reads.next in
    let long = ap (λ (l : List ℕ). length l) rest.1 in
    absurd (omega (arith, told.below, imports.stands.at, long, length-append imports.stream rest.0))
comes stream all book query before after (Stopped (faults.Full games bytes)) told groups_are faultless counts =
    let imports = counts.0.imports in
    let rest = told_rest before.input.left after.input.left stream imports.stream told.input imports.reads.next in
    inr (
      games,
      bytes,
      counts.0.batches,
      counts.0.refused,
      refl,
      full_in_all no_label new_store games bytes stream imports.stream rest.0 after.input.left counts.0.batches counts.0.refused all rest.1 rest.2 imports.stands groups_are,
      imports.sound,
      counts.0.output,
      counts.0.errors,
    )
comes stream all book query before after (Stopped faults.Usage) told groups_are faultless counts = absurd counts
comes stream all book query before after (Stopped (faults.BadParameter name)) told groups_are faultless counts = absurd counts
comes stream all book query before after (Stopped faults.BadLabel) told groups_are faultless counts = absurd counts
comes stream all book query before after (Stopped faults.SpillFault) told groups_are faultless counts = absurd counts
comes stream all book query before after (Stopped (faults.SpillDamaged part)) told groups_are faultless counts = absurd counts
comes stream all book query before after (Stopped faults.OpeningsTooLong) told groups_are faultless counts = absurd counts
comes stream all book query before after (Stopped (faults.BadOpenings row cause)) told groups_are faultless counts = absurd counts
comes stream all book query before after (Stopped faults.DiskFault) told groups_are faultless counts = absurd counts
comes stream all book query before after (Stopped (faults.NotEmpty size)) told groups_are faultless counts = absurd counts
comes stream all book query before after (Stopped faults.NotAStore) told groups_are faultless counts = absurd counts
comes stream all book query before after (Stopped (faults.OtherFormat number)) told groups_are faultless counts = absurd counts
comes stream all book query before after (Stopped (faults.Damaged gate)) told groups_are faultless counts = absurd counts
comes stream all book query before after (Stopped faults.OutOfMemory) told groups_are faultless counts = absurd counts
comes stream all book query before after (Stopped (faults.CannotOpen name)) told groups_are faultless counts = absurd counts
comes stream all book query before after (Stopped faults.CannotAccept) told groups_are faultless counts = absurd counts

-- an answer is one over the groups of the whole stream
whole_stored : (stream : List ℕ) (book : List NamedPosition) (query : Query) (before after : World) → IsTold stream before → (answers : Answers book query before after) → Accounted no_label [] (groups (cuts stream)) answers.batches answers.refused
whole_stored stream book query before after told answers =
    let read = answers.imports.stream in
    let rest = told_rest before.input.left after.input.left stream answers.imports.stream told.input answers.imports.reads.next in
    let same : answers.imports.stream ≡ stream = sym (rest.1 ∙ ap (λ (l : List ℕ). answers.imports.stream ++ l) (end_is after.input.left rest.0 rest.2 answers.imports.stands.at_end) ∙ append-nil answers.imports.stream) in
    subst (λ (l : List ℕ). Accounted no_label [] (groups (cuts l)) answers.batches answers.refused) same answers.imports.stands.settled.accounted

-- the lines were reported, or, where memory was wanting for them, nothing was
abbrev pub Reported : List ℕ → Stream → Stream → Type 0
Reported lines before after = (after.written ≡ append_known before.written lines) ⊎ (after.written ≡ before.written)

-- a group found no room in both, before it was told
pub record FoundNoRoom (before after other : World) : Type 0 where
  pub output : after.output.written ≡ other.output.written
  pub lines : List ℕ
  pub first : Reported lines before.errors after.errors
  pub second : Reported lines before.errors other.errors

-- what runs that end alike wrote, before that was told
abbrev pub WroteBy : World → World → World → Ending → Type 0
WroteBy before after other (Stopped (faults.Full games bytes)) = FoundNoRoom before after other
WroteBy before after other _ = WroteAlike after other

abbrev Alike : World → World → World → Ending → Ending → Type 0
Alike before after other ending ending' = (ending ≡ ending') × WroteBy before after other ending

reported : (lines : List ℕ) (old new : Stream) → IsSome old.written → old.write_faults < 2 ^ 64 - 1 → new.write_faults ≡ old.write_faults → MayReport lines old new → Reported lines old new
reported lines old new told low same (inl writes) = inl (wrote lines old new told low same writes)
reported lines old new told low same (inr none) = inr (ap (λ (s : Stream). s.written) none)

one_of_two : (stream : List ℕ) (all : List (List Cut)) (book : List NamedPosition) (query : Query) (before after other : World) (ending ending' : Ending) → OneGame → OneAccount → OneAnswer → OneNaming → IsTold stream before → AreAllGroups (cuts stream) all
    → IsFaultless before after → IsFaultless before other → Comes stream all book query before after ending → Comes stream all book query before other ending' → Alike before after other ending ending'
one_of_two stream all book query before after other ending ending' game one answer one_naming told groups_are fine fine' (inl (is, first)) (inl (is', second)) =
    let same = one_answer book query before after other one answer one_naming (IsSome-is before.input.left stream told.input) first second in (
      is ∙ sym is',
      subst (λ (e : Ending). WroteBy before after other e) (sym is) (record {
        output =
            wrote _ before.output after.output told.output told.writes fine.output first.output ∙ ap (λ (f : Found). append_known before.output.written (answer_line f first.naming)) same.0
            ∙ ap (λ (n : Naming). append_known before.output.written (answer_line second.found n)) same.1
            ∙ sym (wrote _ before.output other.output told.output told.writes fine'.output second.output);
        errors =
            wrote _ before.errors after.errors told.errors told.reports fine.errors first.errors ∙ ap (λ (l : List Refusal). append_known before.errors.written (report l)) same.2
            ∙ sym (wrote _ before.errors other.errors told.errors told.reports fine'.errors second.errors);
      }),
    )
one_of_two stream all book query before after other ending ending' game one answer one_naming told groups_are fine fine' (inl (is, first)) (inr (games, bytes, batches, refused, is', full, sound, output, errors)) =
    absurd (done_or_full no_label new_store refl stream all games bytes batches first.batches refused first.refused game one (whole_stored stream book query before after told first) first.imports.sound.within groups_are full)
one_of_two stream all book query before after other ending ending' game one answer one_naming told groups_are fine fine' (inr (games, bytes, batches, refused, is, full, sound, output, errors)) (inl (is', second)) =
    absurd (done_or_full no_label new_store refl stream all games bytes batches second.batches refused second.refused game one (whole_stored stream book query before other told second) second.imports.sound.within groups_are full)
one_of_two stream all book query before after other ending ending' game one answer one_naming told groups_are fine fine' (inr (games, bytes, batches, refused, is, full, sound, output, errors)) (inr (games', bytes', batches', refused', is', full', sound', output', errors')) =
    let same = one_full_behind no_label new_store refl games bytes games' bytes' all batches batches' refused refused' game one full full' sound sound' in (
      is ∙ ap₂ (λ (g : ℕ) (b : ℕ). Stopped (faults.Full g b)) same.0 same.1 ∙ sym is',
      subst (λ (e : Ending). WroteBy before after other e) (sym is) (record {
        output = ap (λ (s : Stream). s.written) (output ∙ sym output');
        lines = report refused;
        first = reported (report refused) before.errors after.errors told.errors told.reports fine.errors errors;
        second = subst (λ (l : List Refusal). Reported (report l) before.errors other.errors) (sym same.3)
            (reported (report refused') before.errors other.errors told.errors told.reports fine'.errors errors');
      }),
    )

abbrev pub OneQuery : Type 0
OneQuery = (text : List ℕ) (r s : Result Query BadParameter) → QueryReads text r → QueryReads text s → r ≡ s

-- counts by one book end alike
pub counted_alike : (stream : List ℕ) (book : List NamedPosition) (query : Query) (before after other : World) (ending ending' : Ending)
    → OneGame → OneAccount → OneAnswer → OneNaming → IsTold stream before → IsFaultless before after → IsFaultless before other
    → CountsBy query book before after ending → CountsBy query book before other ending' → (ending ≡ ending') × WroteBy before after other ending
counted_alike stream book query before after other ending ending' game one answer one_naming told fine fine' counts counts' =
    let all = in_groups (cuts stream) in
    let groups_are : AreAllGroups (cuts stream) (all.whole ++ all.hand ∷ []) = record { whole = all.whole; hand = all.hand; in_groups = all.are; all_are = refl } in
    one_of_two stream (all.whole ++ all.hand ∷ []) book query before after other ending ending' game one answer one_naming told groups_are fine fine'
    (comes stream (all.whole ++ all.hand ∷ []) book query before after ending told groups_are fine counts)
    (comes stream (all.whole ++ all.hand ∷ []) book query before other ending' told groups_are fine' counts')
