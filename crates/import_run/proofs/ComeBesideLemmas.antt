-- What an import comes to, whoever else stores beside it.
use Rattle.std.proofs.Common.{◌≡◌, ◌∙◌, ◌⊎◌, inl, inr, ℕ, ◌+◌, ◌-◌, ◌^◌, ◌<◌, ◌≤◌, List, [], ◌∷◌, ◌++◌, length, take, Option, None, Some, refl, sym, ap, subst, append_assoc, length-append, arith}
use Rattle.std.specs.Io.KnownBytes.{IsAtEnd}
use Rattle.std.specs.List.{AllByRecursion, Contains}
use Rattle.std.proofs.lemmas.List.{append-nil}
use Rattle.std.proofs.lemmas.List.Elements.{All-append, Contains-append_left, Contains-append_right}
use Rattle.plain_laws.specs.Lists.{cons-nil, each-front}
use Rattle.outside.specs.Stream.{Gives, Reads, Rises, Stream, source_alone}
use Rattle.explorer_model.specs.declared.archive.Batch.{Batch}
use Rattle.explorer_model.specs.declared.fault.Refusal.{Refusal}
use Rattle.explorer_model.specs.Cuts.{Cut, cuts}
use Rattle.explorer_model.specs.Imports.{AccountedBeside, Candidate, groups}
use Rattle.explorer_model.specs.Journal.{input_limit}
use Rattle.explorer_model.specs.Wire.{body_limit}
use Rattle.explorer_model.proofs.Timelines.{prefix-self}
use Rattle.ingest_desk.specs.Reporting.{AccountsTo, AreReceipts, BreaksAt, RepeatsBy, games_of}
use Rattle.ingest_desk.specs.declared.receipt.Receipt.{Receipt}
use Rattle.ingest_desk.specs.declared.report.End.{End}
use Rattle.ingest_desk.specs.declared.report.End.TheVariants as ends
use Rattle.ingest_desk.specs.declared.report.Report.{Report}
use Rattle.import_run.specs.declared.open_import.OpenImport.{OpenImport}
use Rattle.import_run.specs.declared.open_import.Stopped.{Stopped}
use Rattle.ingest_desk.specs.Importers.{EndsInMemory, ending_of}
use Rattle.import_run.specs.Counting.{IsMarkedSo}
use Rattle.import_run.specs.Beside.{AreRepeats, EndsBeside, ProgressBeside, StopsBeside}
use Rattle.import_run.specs.Committing.{Store}
use Rattle.import_run.specs.Ending.{MayRise, ReadFaultsAre}
use Rattle.import_run.specs.Importing.{EndsEarly}
use Rattle.import_run.specs.EndingBeside.{BreaksBeside, ComesBeside, ImportsBeside, IsCutBeside, LacksBeside, StandsBeside}
use Rattle.import_run.specs.SoFar.{AreGroupsSoFar, IsWhole}
use Rattle.import_run.specs.Taking.{ComesQuietlyBeside, CutSoFar, IsReady, IsWholeBeside, LacksAtEnd, LacksWithin, StopsAtEnd, StopsIn, StopsWithin, TakenAll}
use Rattle.import_run.proofs.GroupLemmas.{all_cuts, texts_in}
use Rattle.import_run.proofs.HoldLemmas.{holds_texts}
use Rattle.import_run.proofs.ReadLemmas.{early_faults, longer, no_fault, one_byte, read_more}
use Rattle.import_run.proofs.RepeatLemmas.{all-repeats-grow}
use Rattle.import_run.proofs.ReportLemmas.{AccountedFront, NotPreamble, accounted_front, accounted_whole, all_cuts-last, breaks_last, breaks_within, front_of_all, games_within, some_whole}
use Rattle.import_run.proofs.SettledLemmas.{settled_beside, stop_beside}
use Rattle.import_run.proofs.SoFarLemmas.{BeginSoFar, ended_taken, lacking_so_far, stopped_so_far}
use Rattle.import_run.proofs.StreamCutLemmas.{cuts_few, no_preamble}

-- ---- lists of groups

-- the groups before a last one, or all
split_front : {A : Type 0} (done rest whole : List A) (last : A) → done ++ rest ≡ whole ++ last ∷ [] → (done ≡ whole ++ last ∷ []) ⊎ ((more : List A) × (whole ≡ done ++ more))
split_front [] rest whole last is = inr (whole, refl)
split_front {A} (d ∷ done) rest [] last is =
    let head : d ≡ last = cc in
    let none : done ++ rest ≡ [] = cc in
    inl (by_done done none head)
  where
    by_done : (done : List A) → done ++ rest ≡ [] → d ≡ last → d ∷ done ≡ last ∷ []
    by_done [] none head = ap (λ (x : A). x ∷ []) head
    by_done (e ∷ done) none head = absurd (cons-nil e (done ++ rest) none)
split_front {A} (d ∷ done) rest (w ∷ whole) last is =
    let head : d ≡ w = cc in
    let tail : done ++ rest ≡ whole ++ last ∷ [] = cc in
    by (split_front done rest whole last tail) head
  where
    by : (done ≡ whole ++ last ∷ []) ⊎ ((more : List A) × (whole ≡ done ++ more)) → d ≡ w → (d ∷ done ≡ (w ∷ whole) ++ last ∷ []) ⊎ ((more : List A) × (w ∷ whole ≡ (d ∷ done) ++ more))
    by (inl all) head = inl (λ i. head i ∷ all i)
    by (inr (more, is)) head = inr (more, λ i. sym head i ∷ is i)

-- one of the groups is the last one, or stands before it
split_next : {A : Type 0} (done : List A) (next : A) (rest whole : List A) (last : A) → done ++ next ∷ rest ≡ whole ++ last ∷ [] → ((done ≡ whole) × (next ≡ last)) ⊎ ((more : List A) × (whole ≡ done ++ next ∷ more))
split_next [] next rest [] last is = let head : next ≡ last = cc in inl (refl, head)
split_next {A} [] next rest (w ∷ whole) last is = let head : next ≡ w = cc in inr (whole, ap (λ (x : A). x ∷ whole) (sym head))
split_next {A} (d ∷ done) next rest [] last is =
    let none : done ++ next ∷ rest ≡ [] = cc in absurd (by_done done none)
  where
    by_done : (done : List A) → done ++ next ∷ rest ≡ [] → ⊥
    by_done [] none = cons-nil next rest none
    by_done (e ∷ done) none = cons-nil e (done ++ next ∷ rest) none
split_next {A} (d ∷ done) next rest (w ∷ whole) last is =
    let head : d ≡ w = cc in
    let tail : done ++ next ∷ rest ≡ whole ++ last ∷ [] = cc in
    by (split_next done next rest whole last tail) head
  where
    by : ((done ≡ whole) × (next ≡ last)) ⊎ ((more : List A) × (whole ≡ done ++ next ∷ more)) → d ≡ w → ((d ∷ done ≡ w ∷ whole) × (next ≡ last)) ⊎ ((more : List A) × (w ∷ whole ≡ (d ∷ done) ++ next ∷ more))
    by (inl same) head = inl ((λ i. head i ∷ same.0 i), same.1)
    by (inr (more, is)) head = inr (more, λ i. sym head i ∷ is i)

each_at : (gs : List (List Cut)) (group : List Cut) (more : List (List Cut)) → AllByRecursion IsWhole (gs ++ group ∷ more) → IsWhole group
each_at [] group more each = each.0
each_at (g ∷ gs) group more each = each_at gs group more each.1

all_cuts-append : (gs more : List (List Cut)) → all_cuts (gs ++ more) ≡ all_cuts gs ++ all_cuts more
all_cuts-append [] more = refl
all_cuts-append (g ∷ gs) more = ap (λ (l : List Cut). g ++ l) (all_cuts-append gs more) ∙ sym (append_assoc g (all_cuts gs) (all_cuts more))

-- what stands behind closed groups, where there is one, is no preamble
behind_closed : (stream : List ℕ) (closed : List (List Cut)) (rest : List Cut) → cuts stream ≡ all_cuts closed ++ rest → 0 < length (all_cuts closed) → AllByRecursion NotPreamble rest
behind_closed stream closed rest is some = no_preamble stream (all_cuts closed) rest is some

-- ---- reports

abbrev Beside : {J : Type 0} → List (List Cut) → OpenImport J → Type 0
Beside groups import = ProgressBeside import.group.label groups import.receipts.items import.refused.items import.clashes.items

module _ {J : Type 0} (stream : List ℕ) (left_over : Option (List ℕ)) where
  -- what is said of an end
  record EndsSo (label : List ℕ) (end : End J) (batches : List Batch) (refused : List Refusal) : Type 0 where
    accounts : AccountsTo label end (groups (cuts stream)) batches refused
    stands : StandsBeside label end stream left_over batches refused
    quiet : (old new : Stream) → new.read_faults ≡ old.read_faults → ReadFaultsAre end old new

  comes : {label : List ℕ} (report : Report J) (end : End J) (batches : List Batch) → report.end ≡ end → EndsSo label end batches report.refused.items → AreReceipts 0 report.receipts.items batches
      → AreRepeats (cuts stream) report.clashes.items report.refused.items → games_of report.receipts.items ≤ length (cuts stream) → ComesQuietlyBeside label stream left_over report
  comes {label} report end batches is so receipts repeats few =
      let P : End J → Type 0 = λ e. EndsSo label e batches report.refused.items in
      let s = subst P (sym is) so in
      record {
        comes = record {
          reports = record { batches = batches; are_receipts = receipts; accounts = s.accounts; repeats = repeats };
          stands = s.stands;
          few = few;
        };
        quiet = s.quiet;
      }

  -- a commit ended the import
  ends_stopped : {label : List ℕ} (end : End J) (batches : List Batch) (refused : List Refusal) (left : List Candidate) → EndsBeside label end left → BreaksAt label (groups (cuts stream)) batches refused left → BreaksBeside label stream left_over batches refused left
      → EndsSo label end batches refused
  ends_stopped {label} ends.Whole batches refused left so breaks beside = absurd so
  ends_stopped {label} (ends.ReadFault before after) batches refused left so breaks beside = absurd so
  ends_stopped {label} (ends.DiskFault before after mark) batches refused left so breaks beside = record { accounts = (left, breaks, so); stands = (left, beside, so.failed_is); quiet = λ old new same. inl same }
  ends_stopped {label} (ends.Closed before after mark) batches refused left so breaks beside = record { accounts = (left, breaks, so); stands = (left, beside); quiet = λ old new same. inl same }
  ends_stopped {label} (ends.Full games bytes note) batches refused left so breaks beside = record { accounts = (left, breaks, so); stands = (left, beside, so); quiet = λ old new same. inl same }
  ends_stopped {label} (ends.TooMuch bytes) batches refused left so breaks beside = absurd so
  ends_stopped {label} ends.OutOfMemory batches refused left so breaks beside = absurd so

  module _ (report : Report J) (import : OpenImport J) (receipts : report.receipts.items ≡ import.receipts.items) (clashes : report.clashes.items ≡ import.clashes.items) (below : length stream < input_limit) where
    front_receipts : (gs : List (List Cut)) (p : Beside gs import) → AreReceipts 0 report.receipts.items p.batches
    front_receipts gs p = let P : List (Receipt J) → Type 0 = λ l. AreReceipts 0 l p.batches in subst P (sym receipts) p.are_receipts

    front_few : (gs : List (List Cut)) (rest : List Cut) (p : Beside gs import) → cuts stream ≡ all_cuts gs ++ rest → games_of report.receipts.items ≤ length (cuts stream)
    front_few gs rest p is =
        let within = games_within gs import.receipts.items p.batches import.refused.items p.are_receipts p.accounted in
        let long = ap (λ (l : List Cut). length l) is in
        let same = ap games_of receipts in
        omega (arith, within, long, same, length-append (all_cuts gs) rest)

    front_repeats : (gs : List (List Cut)) (rest : List Cut) (p : Beside gs import) → cuts stream ≡ all_cuts gs ++ rest → AreRepeats (cuts stream) report.clashes.items import.refused.items
    front_repeats gs rest p is =
        let C : Cut → List Cut → Type 0 = λ cut l. Contains l cut in
        let P : List (List Batch) → Type 0 = λ l. AreRepeats (cuts stream) l import.refused.items in
        subst P (sym clashes) (all-repeats-grow (all_cuts gs) (cuts stream) import.clashes.items import.clashes.items import.refused.items (λ cut c. subst (C cut) (sym is) (Contains-append_left (all_cuts gs) rest cut c))
        (prefix-self import.clashes.items) p.repeats)

    -- a commit of a group ended the import
    comes_stopped : (stopped : Stopped J) (closed : List (List Cut)) (next more : List Cut) (rest : List (List Cut)) (p : Beside closed import) (b : StopsBeside import.group.label next import.clashes.items stopped) → report.end ≡ stopped.end
        → report.refused.items ≡ import.refused.items ++ stopped.refused.items → AreGroupsSoFar stream left_over (closed ++ next ∷ rest) → cuts stream ≡ all_cuts closed ++ (next ++ more)
        → BreaksAt import.group.label (groups (cuts stream)) p.batches report.refused.items b.left → ComesQuietlyBeside import.group.label stream left_over report
    comes_stopped stopped closed next more rest p b end refused are is breaks =
        let C : Cut → List Cut → Type 0 = λ cut l. Contains l cut in
        let P : List (List Batch) → Type 0 = λ l. AreRepeats (cuts stream) l stopped.refused.items in
        let here = subst P (sym clashes) (all-repeats-grow next (cuts stream) import.clashes.items import.clashes.items stopped.refused.items
        (λ cut c. subst (C cut) (sym is) (Contains-append_right (all_cuts closed) (next ++ more) cut (Contains-append_left next more cut c))) (prefix-self import.clashes.items) b.repeats) in
        let Q : List Refusal → Type 0 = λ l. AreRepeats (cuts stream) report.clashes.items l in
        let both = All-append (λ (r : Refusal). RepeatsBy (cuts stream) report.clashes.items r.place r.why) import.refused.items stopped.refused.items (front_repeats closed (next ++ more) p is) here in
        let beside : BreaksBeside import.group.label stream left_over p.batches report.refused.items b.left = record {
          below = below;
          so_far = closed ++ next ∷ rest;
          are_so_far = are;
          done = closed;
          next = next;
          rest = rest;
          so_far_is = refl;
          earlier = import.refused.items;
          accounted = p.accounted;
          of_next = stopped.refused.items;
          judged = b.judged;
          some_left = b.some_left;
          refused_are = refused;
        } in
        comes report stopped.end p.batches end (ends_stopped stopped.end p.batches report.refused.items b.left b.ends breaks beside) (front_receipts closed p) (subst Q (sym refused) both) (front_few closed (next ++ more) p is)

    stopped_within_beside : (start : Option Store) (stopped : Stopped J) (told : Option Store) → report.end ≡ stopped.end → report.refused.items ≡ import.refused.items ++ stopped.refused.items
        → StopsWithin start stream import stopped told → ComesQuietlyBeside import.group.label stream left_over report
    stopped_within_beside start stopped told end refused w =
        let s = w.stops in
        let p = settled_beside s.behind.settled in
        let b = stop_beside s.behind.stops in
        let is : cuts stream ≡ all_cuts s.closed ++ (s.next ++ w.more) = sym w.cut ∙ ap (λ (l : List Cut). l ++ w.more) s.all ∙ append_assoc (all_cuts s.closed) s.next w.more in
        let some = some_whole s.next s.whole in
        let first = no_preamble stream (all_cuts s.closed ++ s.next) w.more (sym w.cut ∙ ap (λ (l : List Cut). l ++ w.more) s.all) (omega (arith, some, length-append (all_cuts s.closed) s.next)) in
        let P : List Cut → Type 0 = λ l. BreaksAt import.group.label (groups l) p.batches report.refused.items b.left in
        let front = stopped_so_far start stream left_over import told stopped w in
        comes_stopped stopped s.closed s.next w.more front.0 p b end refused front.1 is
        (subst P (sym is) (breaks_within s.closed s.next w.more p.batches import.refused.items stopped.refused.items report.refused.items b.left p.accounted b.judged b.some_left refused s.each s.whole first))

    stopped_at_end_beside : (start : Option Store) (stopped : Stopped J) (told : Option Store) → report.end ≡ stopped.end → report.refused.items ≡ import.refused.items ++ stopped.refused.items
        → IsAtEnd left_over → StopsAtEnd start (cuts stream) import stopped told → ComesQuietlyBeside import.group.label stream left_over report
    stopped_at_end_beside start stopped told end refused at_end s = by (split_next s.done s.next s.rest s.all.whole s.all.hand s.all.all_are)
      where
        G : List Cut → Type 0
        G l = BreaksAt import.group.label (groups l) (settled_beside s.behind.settled).batches report.refused.items (stop_beside s.behind.stops).left

        by : ((s.done ≡ s.all.whole) × (s.next ≡ s.all.hand)) ⊎ ((more : List (List Cut)) × (s.all.whole ≡ s.done ++ s.next ∷ more)) → ComesQuietlyBeside import.group.label stream left_over report
        by (inl same) =
            let p = settled_beside s.behind.settled in
            let b = stop_beside s.behind.stops in
            let is : cuts stream ≡ all_cuts s.done ++ s.next = s.all.in_groups.all ∙ (λ i. all_cuts (sym same.0 i) ++ sym same.1 i) in
            let W : List (List Cut) → Type 0 = λ l. AllByRecursion IsWhole l in
            let T : List Cut → Type 0 = λ l. texts_in l ≤ 512 in
            let few = subst T (sym same.1) (let f = s.all.in_groups.few in omega (arith, f)) in
            let is' : cuts stream ≡ all_cuts s.done ++ (s.next ++ []) = is ∙ ap (λ (l : List Cut). all_cuts s.done ++ l) (sym (append-nil s.next)) in
            comes_stopped stopped s.done s.next [] s.rest p b end refused (inr (at_end, s.all)) is'
            (subst G (sym is) (breaks_last s.done s.next p.batches import.refused.items stopped.refused.items report.refused.items b.left p.accounted b.judged b.some_left refused (subst W (sym same.0) s.all.in_groups.each) few))
        by (inr (more, whole)) =
            let p = settled_beside s.behind.settled in
            let b = stop_beside s.behind.stops in
            let behind = all_cuts more ++ s.all.hand in
            let each : AllByRecursion IsWhole (s.done ++ s.next ∷ more) = subst (λ (l : List (List Cut)). AllByRecursion IsWhole l) whole s.all.in_groups.each in
            let is : cuts stream ≡ all_cuts s.done ++ (s.next ++ (all_cuts more ++ s.all.hand)) =
            s.all.in_groups.all
            ∙ ap (λ (l : List (List Cut)). all_cuts l ++ s.all.hand) whole
            ∙ ap (λ (l : List Cut). l ++ s.all.hand) (all_cuts-append s.done (s.next ∷ more))
            ∙ append_assoc (all_cuts s.done) (s.next ++ all_cuts more) s.all.hand
            ∙ ap (λ (l : List Cut). all_cuts s.done ++ l) (append_assoc s.next (all_cuts more) s.all.hand) in
            let full = each_at s.done s.next more each in
            let some = some_whole s.next full in
            let first = no_preamble stream (all_cuts s.done ++ s.next) (all_cuts more ++ s.all.hand) (is ∙ sym (append_assoc (all_cuts s.done) s.next (all_cuts more ++ s.all.hand))) (omega (arith, some, length-append (all_cuts s.done) s.next)) in
            comes_stopped stopped s.done s.next (all_cuts more ++ s.all.hand) s.rest p b end refused (inr (at_end, s.all)) is
            (subst G (sym is) (breaks_within s.done s.next (all_cuts more ++ s.all.hand) p.batches import.refused.items stopped.refused.items report.refused.items b.left p.accounted b.judged b.some_left refused
            (each-front IsWhole s.done (s.next ∷ more) each) full first))

    pub stopped_in_beside : (start : Option Store) (stopped : Stopped J) (told : Option Store) → report.end ≡ stopped.end → report.refused.items ≡ import.refused.items ++ stopped.refused.items
        → StopsIn start stream left_over import stopped told → ComesQuietlyBeside import.group.label stream left_over report
    stopped_in_beside start stopped told end refused (inl w) = stopped_within_beside start stopped told end refused w
    stopped_in_beside start stopped told end refused (inr (at_end, e)) = stopped_at_end_beside start stopped told end refused at_end e

    -- ---- an import that nothing was refused of but what is settled

    module _ (refused : report.refused.items ≡ import.refused.items) where
      settled_repeats : (gs : List (List Cut)) (rest : List Cut) (p : Beside gs import) → cuts stream ≡ all_cuts gs ++ rest → AreRepeats (cuts stream) report.clashes.items report.refused.items
      settled_repeats gs rest p is =
          let Q : List Refusal → Type 0 = λ l. AreRepeats (cuts stream) report.clashes.items l in
          subst Q (sym refused) (front_repeats gs rest p is)

      -- memory was wanting
      comes_lacking : (gs : List (List Cut)) (rest : List Cut) (p : Beside gs import) → report.end ≡ ends.OutOfMemory → BeginSoFar stream left_over gs [] → cuts stream ≡ all_cuts gs ++ rest
          → AccountedFront import.group.label (groups (cuts stream)) p.batches import.refused.items → ComesQuietlyBeside import.group.label stream left_over report
      comes_lacking gs rest p end so_far is front =
          let P : List Refusal → Type 0 = λ l. EndsSo import.group.label ends.OutOfMemory p.batches l in
          let lacks : LacksBeside import.group.label stream left_over p.batches import.refused.items =
          record { below = below; so_far = gs ++ so_far.0; are_so_far = so_far.1; done = gs; rest = so_far.0; so_far_is = refl; accounted = p.accounted } in
          comes report ends.OutOfMemory p.batches end
          (subst P (sym refused) (record { accounts = (front.finished, (front.unread, front.left_unread, front.accounts)); stands = lacks; quiet = λ old new same. inl same }))
          (front_receipts gs p) (settled_repeats gs rest p is) (front_few gs rest p is)

      lacks_front : (gs : List (List Cut)) (rest : List Cut) (p : Beside gs import) → report.end ≡ ends.OutOfMemory → BeginSoFar stream left_over gs [] → AllByRecursion IsWhole gs → cuts stream ≡ all_cuts gs ++ rest
          → ComesQuietlyBeside import.group.label stream left_over report
      lacks_front gs rest p end so_far each is =
          let P : List Cut → Type 0 = λ l. AccountedFront import.group.label (groups l) p.batches import.refused.items in
          comes_lacking gs rest p end so_far is (subst P (sym is) (accounted_front gs rest p.batches import.refused.items each (behind_closed stream gs rest is) p.accounted))

      pub lacking_within_beside : (start : Option Store) (told : Option Store) → report.end ≡ ends.OutOfMemory → LacksWithin start stream import told → ComesQuietlyBeside import.group.label stream left_over report
      lacking_within_beside start told end w =
          let l = w.lacks in
          let front = lacking_so_far start stream left_over import told w in
          lacks_front l.closed ((all_cuts l.others ++ l.hand) ++ w.more) (settled_beside l.behind.settled) end (l.others ++ front.0, front.1) l.each
          (sym w.cut ∙ ap (λ (k : List Cut). k ++ w.more) l.all ∙ append_assoc (all_cuts l.closed) (all_cuts l.others ++ l.hand) w.more)

      pub lacking_at_end_beside : (start : Option Store) (told : Option Store) → report.end ≡ ends.OutOfMemory → IsAtEnd left_over → LacksAtEnd start (cuts stream) import told → ComesQuietlyBeside import.group.label stream left_over report
      lacking_at_end_beside start told end at_end l = by (split_front l.done l.rest l.all.whole l.all.hand l.all.all_are)
        where
          by : (l.done ≡ l.all.whole ++ l.all.hand ∷ []) ⊎ ((more : List (List Cut)) × (l.all.whole ≡ l.done ++ more)) → ComesQuietlyBeside import.group.label stream left_over report
          by (inl all) =
              let p = settled_beside l.behind.settled in
              let A : List (List Cut) → Type 0 = λ g. AccountedBeside import.group.label g p.batches import.refused.items in
              let few : texts_in l.all.hand ≤ 512 = (let f = l.all.in_groups.few in omega (arith, f)) in
              let whole = accounted_whole l.all.whole l.all.hand p.batches import.refused.items l.all.in_groups.each few (subst A all p.accounted) in
              let B : List Cut → Type 0 = λ k. AccountedBeside import.group.label (groups k) p.batches import.refused.items in
              let is : cuts stream ≡ all_cuts l.done ++ [] = l.all.in_groups.all ∙ sym (ap all_cuts all ∙ all_cuts-last l.all.whole l.all.hand) ∙ sym (append-nil (all_cuts l.done)) in
              comes_lacking l.done [] p end (l.rest, inr (at_end, l.all)) is (front_of_all (groups (cuts stream)) p.batches import.refused.items (subst B (sym l.all.in_groups.all) whole))
          by (inr (more, whole)) =
              let p = settled_beside l.behind.settled in
              let each : AllByRecursion IsWhole (l.done ++ more) = subst (λ (g : List (List Cut)). AllByRecursion IsWhole g) whole l.all.in_groups.each in
              lacks_front l.done (all_cuts more ++ l.all.hand) p end (l.rest, inr (at_end, l.all)) (each-front IsWhole l.done more each)
              (l.all.in_groups.all ∙ ap (λ (g : List (List Cut)). all_cuts g ++ l.all.hand) whole ∙ ap (λ (k : List Cut). k ++ l.all.hand) (all_cuts-append l.done more)
              ∙ append_assoc (all_cuts l.done) (all_cuts more) l.all.hand)

      pub whole_beside : (start : Option Store) (told : Option Store) → report.end ≡ ends.Whole → IsAtEnd left_over → TakenAll start (cuts stream) import told → ComesQuietlyBeside import.group.label stream left_over report
      whole_beside start told end at_end t =
          let p = settled_beside t.settled in
          let few : texts_in t.hand ≤ 512 = (let f = t.in_groups.few in omega (arith, f)) in
          let whole = accounted_whole t.closed t.hand p.batches import.refused.items t.in_groups.each few p.accounted in
          let B : List Cut → Type 0 = λ k. AccountedBeside import.group.label (groups k) p.batches import.refused.items in
          let P : List Refusal → Type 0 = λ l. EndsSo import.group.label ends.Whole p.batches l in
          let gs = t.closed ++ t.hand ∷ [] in
          let is : cuts stream ≡ all_cuts (t.closed ++ t.hand ∷ []) ++ [] = t.in_groups.all ∙ sym (all_cuts-last t.closed t.hand) ∙ sym (append-nil (all_cuts (t.closed ++ t.hand ∷ []))) in
          comes report ends.Whole p.batches end
          (subst P (sym refused) (record { accounts = subst B (sym t.in_groups.all) whole; stands = (at_end, below); quiet = λ old new same. same }))
          (front_receipts gs p) (settled_repeats gs [] p is) (front_few gs [] p is)

-- ---- a stream that was cut off

pub cut_off_beside : {J : Type 0} (start : Option Store) (stream : List ℕ) (after : List ℕ → List Cut) (last : List Cut) (import : OpenImport J) (told : Option Store) (report : Report J)
    → last ≡ after [] → length last ≤ 1 → IsReady import → CutSoFar start stream after import told → report.receipts.items ≡ import.receipts.items → report.refused.items ≡ import.refused.items
    → report.clashes.items ≡ import.clashes.items → IsWholeBeside import.group.label stream report
cut_off_beside {J} start stream after last import told report is few ready so_far receipts refused clashes =
    let all : so_far.taken ++ last ≡ cuts stream = ap (λ (l : List Cut). so_far.taken ++ l) is ∙ so_far.cut [] ∙ ap cuts (append-nil stream) in
    let long = ap (λ (l : List Cut). length l) is in
    let ended = ended_taken stream so_far.taken last all few (λ some. let begun = so_far.begun some [] in omega (arith, begun, long)) in
    let t = so_far.so_far in
    let p = settled_beside t.settled in
    let P : List (Receipt J) → Type 0 = λ l. AreReceipts 0 l p.batches in
    let Q : List Refusal → Type 0 = λ l. AccountedBeside import.group.label t.closed p.batches l in
    let R : List Refusal → Type 0 = λ l. AreRepeats (all_cuts t.closed) report.clashes.items l in
    let S : List (List Batch) → Type 0 = λ l. AreRepeats (all_cuts t.closed) l import.refused.items in
    record {
      whole = t.closed;
      hand = t.hand;
      in_groups = record { all = ended ∙ t.all; each = t.each; few = omega (arith, ready.few, holds_texts t.hand import.group t.group) };
      follows = λ rest. (t.hand ++ after rest, sym (so_far.cut rest) ∙ ap (λ (l : List Cut). l ++ after rest) t.all ∙ append_assoc (all_cuts t.closed) t.hand (after rest));
      batches = p.batches;
      are_receipts = subst P (sym receipts) p.are_receipts;
      accounted = subst Q (sym refused) p.accounted;
      repeats = subst R (sym refused) (subst S (sym clashes) p.repeats);
    }

-- ---- imports of a source

module _ {J : Type 0} {label : List ℕ} (front stream : List ℕ) (report : Report J) (w : IsWholeBeside label front report) (rest : List ℕ) (is : front ++ rest ≡ stream) where
  more : List Cut
  more = (w.follows rest).0

  all : cuts stream ≡ all_cuts w.whole ++ (w.follows rest).0
  all = ap cuts (sym is) ∙ (w.follows rest).1

  -- the repeats of its whole groups are those of its cuts
  pub whole_repeats : AreRepeats (cuts stream) report.clashes.items report.refused.items
  whole_repeats =
      let C : Cut → List Cut → Type 0 = λ cut l. Contains l cut in
      all-repeats-grow (all_cuts w.whole) (cuts stream) report.clashes.items report.clashes.items report.refused.items
      (λ cut c. subst (C cut) (sym all) (Contains-append_left (all_cuts w.whole) (w.follows rest).0 cut c)) (prefix-self report.clashes.items) w.repeats

  -- the report of a stream that was cut off, by its end
  comes_cut : (left_over : Option (List ℕ)) (end : End J) → report.end ≡ end → ((front : AccountedFront label (groups (cuts stream)) w.batches report.refused.items) → AccountsTo label end (groups (cuts stream)) w.batches report.refused.items)
      → StandsBeside label end stream left_over w.batches report.refused.items → ComesBeside label stream left_over report
  comes_cut left_over end end_is accounts stands =
      let F : List Cut → Type 0 = λ l. AccountedFront label (groups l) w.batches report.refused.items in
      let so_far = subst F (sym all) (accounted_front w.whole (w.follows rest).0 w.batches report.refused.items w.in_groups.each (behind_closed stream w.whole (w.follows rest).0 all) w.accounted) in
      let A : End J → Type 0 = λ e. AccountsTo label e (groups (cuts stream)) w.batches report.refused.items in
      let B : End J → Type 0 = λ e. StandsBeside label e stream left_over w.batches report.refused.items in
      let within = games_within w.whole report.receipts.items w.batches report.refused.items w.are_receipts w.accounted in
      let long = ap (λ (l : List Cut). length l) all in
      record {
        reports = record {
          batches = w.batches;
          are_receipts = w.are_receipts;
          accounts = subst A (sym end_is) (accounts so_far);
          repeats = whole_repeats;
        };
        stands = subst B (sym end_is) stands;
        few = omega (arith, within, long, length-append (all_cuts w.whole) (w.follows rest).0);
      }

  is_cut : IsCutBeside label front w.batches report.refused.items
  is_cut = record { whole = w.whole; hand = w.hand; in_groups = w.in_groups; accounted = w.accounted }

pub comes_failed : {label : List ℕ} {J : Type 0} (stream : List ℕ) (left_over : Option (List ℕ)) (report : Report J) (before after : ℕ) → report.end ≡ ends.ReadFault before after → length stream < input_limit → IsWholeBeside label stream report
    → ComesBeside label stream left_over report
comes_failed {label} stream left_over report before after is below w =
    comes_cut stream stream report w [] (append-nil stream) left_over (ends.ReadFault before after) is (λ f. (f.finished, (f.unread, f.left_unread, f.accounts)))
    (below, is_cut stream stream report w [] (append-nil stream))

pub comes_too_much_beside : {label : List ℕ} {J : Type 0} (front stream : List ℕ) (last : ℕ) (left_over : Option (List ℕ)) (report : Report J) (bytes : ℕ) → report.end ≡ ends.TooMuch bytes → bytes ≡ length stream → length stream ≡ input_limit
    → stream ≡ front ++ last ∷ [] → IsWholeBeside label front report → ComesBeside label stream left_over report
comes_too_much_beside {label} front stream last left_over report bytes is long at front_is w =
    comes_cut front stream report w (last ∷ []) (sym front_is) left_over (ends.TooMuch bytes) is (λ f. (f.finished, (f.unread, f.left_unread, f.accounts)))
    (long, record { at = at; front = front; last = last; front_is = front_is; cut = is_cut front stream report w (last ∷ []) (sym front_is) })

module _ {J : Type 0} where
  -- an import without a fault of a read
  pub imports_quietly_beside : {label : List ℕ} (old new : Stream) (report : Report J) (stream : List ℕ) → Reads stream old new → new.read_faults ≡ old.read_faults → ComesQuietlyBeside label stream new.left report → ImportsBeside label old new report
  imports_quietly_beside {label} old new report stream reads same c = record { stream = stream; reads = reads; faults = c.quiet old new same; comes = c.comes }

  -- a read failed: what was read before is settled before it is told
  pub imports_fault_beside : {label : List ℕ} (old new : Stream) (report : Report J) (stream : List ℕ) (before after : ℕ) → report.end ≡ ends.ReadFault before after → before ≡ old.read_faults → after ≡ new.read_faults
      → Rises before after → Reads stream old new → length stream < input_limit → IsWholeBeside label stream report → ImportsBeside label old new report
  imports_fault_beside {label} old new report stream before after is first last rises reads below w =
      let P : End J → Type 0 = λ e. ReadFaultsAre e old new in
      record { stream = stream; reads = reads; faults = subst P (sym is) (first, last, rises); comes = comes_failed stream new.left report before after is below w }

  -- behind a group at which an import ended a read may have failed
  pub imports_early_beside : {label : List ℕ} (old new : Stream) (report : Report J) (stream : List ℕ) → Reads stream old new → MayRise old.read_faults new.read_faults → EndsEarly report.end
      → ComesQuietlyBeside label stream new.left report → ImportsBeside label old new report
  imports_early_beside {label} old new report stream reads may early c =
      record { stream = stream; reads = reads; faults = early_faults report.end old new early may; comes = c.comes }

  -- the last byte that an import takes was read
  pub imports_bound_beside : {label : List ℕ} (old mid new : Stream) (report : Report J) (front : List ℕ) (n bytes : ℕ) (buffer : List ℕ) → report.end ≡ ends.TooMuch bytes → Reads front old mid → mid.read_faults ≡ old.read_faults
      → Gives n buffer mid new → n ≡ 1 → length front + 1 ≡ input_limit → bytes ≡ input_limit → IsWholeBeside label front report → ImportsBeside label old new report
  imports_bound_beside {label} old mid new report front n bytes buffer is reads same gives one long at w =
      let some : 0 < length buffer = (let within = gives.within in omega (arith, within, one)) in
      let last = one_byte buffer some in
      let front_is : front ++ take n buffer ≡ front ++ last.0 ∷ [] = ap (λ (k : ℕ). front ++ take k buffer) one ∙ ap (λ (l : List ℕ). front ++ l) last.1 in
      let taken : length (front ++ take n buffer) ≡ input_limit = longer (length front) n buffer front refl gives.within ∙ ap (λ k. length front + k) one ∙ long in
      let P : End J → Type 0 = λ e. ReadFaultsAre e old new in
      record {
        stream = front ++ take n buffer;
        reads = read_more front n buffer old mid new reads gives;
        faults = subst P (sym is) (no_fault n buffer old mid new same gives);
        comes = comes_too_much_beside front (front ++ take n buffer) last.0 new.left report bytes is (at ∙ sym taken) taken front_is w;
      }

-- ---- bodies

-- an import of bytes at hand ends so
pub ends_in_memory : {label : List ℕ} {J : Type 0} (body : List ℕ) (report : Report J) → length body ≤ body_limit → ComesQuietlyBeside label body (Some []) report → EndsInMemory (ending_of report.end)
ends_in_memory {label} {J} body report few c = by report.end c.comes.reports.batches c.comes.stands c.quiet
  where
    still : Stream
    still = source_alone None 0 0

    by : (end : End J) (batches : List Batch) → StandsBeside label end body (Some []) batches report.refused.items → ((old new : Stream) → new.read_faults ≡ old.read_faults → ReadFaultsAre end old new) → EndsInMemory (ending_of end)
    by ends.Whole batches stands quiet = tt
    by (ends.ReadFault before after) batches stands quiet = absurd (no_rise before after (quiet still still refl))
      where
        by_rise : (before after : ℕ) → before ≡ 0 → after ≡ 0 → (before < after) ⊎ (after ≡ 2 ^ 64 - 1) → ⊥
        by_rise before after first last (inl rose) = omega (arith, first, last, rose)
        by_rise before after first last (inr most) = omega (arith, last, most)

        no_rise : (before after : ℕ) → (before ≡ 0) × (after ≡ 0) × Rises before after → ⊥
        no_rise before after r = by_rise before after r.0 r.1 r.2.rose
    by (ends.DiskFault before after mark) batches stands quiet = tt
    by (ends.Closed before after mark) batches stands quiet = tt
    by (ends.Full games bytes note) batches stands quiet = tt
    by (ends.TooMuch bytes) batches stands quiet = let at = stands.1.at in absurd (omega (arith, at, few))
    by ends.OutOfMemory batches stands quiet = tt

pub few_games : {label : List ℕ} {J : Type 0} (body : List ℕ) (report : Report J) → length body ≤ body_limit → ComesQuietlyBeside label body (Some []) report → games_of report.receipts.items < 2 ^ 32
few_games {label} body report few c = let games = c.comes.few in omega (arith, games, few, cuts_few body)

pub marked_so : (label : List ℕ) {J : Type 0} (end : End J) (gs : List (List Cut)) (batches : List Batch) (refused : List Refusal) → AccountsTo label end gs batches refused → IsMarkedSo end
marked_so label ends.Whole gs batches refused a = tt
marked_so label (ends.ReadFault before after) gs batches refused a = tt
marked_so label (ends.DiskFault before after mark) gs batches refused a = a.2.kind_is
marked_so label (ends.Closed before after mark) gs batches refused a = a.2.kind_is
marked_so label (ends.Full games bytes note) gs batches refused a = tt
marked_so label (ends.TooMuch bytes) gs batches refused a = tt
marked_so label ends.OutOfMemory gs batches refused a = tt
