-- Which counts rise where an end is counted.
use Rattle.std.proofs.Common.{◌≡◌, ◌∙◌, ◌⊎◌, inl, inr, ℕ, ◌+◌, ◌-◌, ◌^◌, ◌<◌, ◌≤◌, Bool, true, false, true≢false, nat_lt, min, refl, sym, ap, subst, arith}
use Rattle.std.proofs.lemmas.Bool.Decides.{nat_tests}
use Rattle.outside.specs.Stream.{NeverFalls, Rises}
use Rattle.outside.proofs.StreamLemmas.{never_falls-refl}
use Rattle.ingest_desk.specs.Importers.{CountsRose, RisesExactly, ending_of}
use Rattle.ingest_desk.specs.Marking.{counted, one_more}
use Rattle.ingest_desk.specs.Marked.{Marked}
use Rattle.ingest_desk.specs.declared.mark.MarkKind.{MarkKind}
use Rattle.ingest_desk.specs.declared.mark.MarkKind.TheVariants as kinds
use Rattle.ingest_desk.specs.declared.mark.Marks.{Marks}
use Rattle.ingest_desk.specs.declared.report.End.{End}
use Rattle.ingest_desk.specs.declared.report.End.TheVariants as ends
use Rattle.import_run.specs.declared.ends.EndCounts.{EndCounts}
use Rattle.import_run.specs.Counting.{IsMarkedSo, counts_of}

min_cases : (a b : ℕ) → ((min a b ≡ a) × (a ≤ b)) ⊎ ((min a b ≡ b) × (b ≤ a))
min_cases a b = by (nat_lt b a) refl
  where
    by : (t : Bool) → nat_lt b a ≡ t → ((min a b ≡ a) × (a ≤ b)) ⊎ ((min a b ≡ b) × (b ≤ a))
    by true is = let less : b < a = grind (arith, nat_tests) in inr (omega (arith, less), omega (arith, less))
    by false is = let more : a ≤ b = grind (arith, nat_tests) in inl (omega (arith, more), more)

rises_by : (n m : ℕ) → n < 2 ^ 64 → ((m ≡ n + 1) × (n + 1 ≤ 2 ^ 64 - 1)) ⊎ ((m ≡ 2 ^ 64 - 1) × (2 ^ 64 - 1 ≤ n + 1)) → Rises n m
rises_by n m small (inl (is, below)) = record { rose = inl (omega (arith, is)); never_falls = record { least = omega (arith, is); fits = λ before. omega (arith, is, below) } }
rises_by n m small (inr (is, above)) = record { rose = inr is; never_falls = record { least = omega (arith, is, small); fits = λ before. omega (arith, is) } }

one_more-rises : (n : ℕ) → n < 2 ^ 64 → Rises n (one_more n)
one_more-rises n small = rises_by n (one_more n) small (min_cases (n + 1) (2 ^ 64 - 1))

stays : (n m : ℕ) → m ≡ n → RisesExactly false n m
stays n m same =
    let P : ℕ → Type 0 = λ k. NeverFalls n k in
    record {
      rises = λ e. absurd (true≢false (sym e));
      only = λ more. absurd (omega (arith, same, more));
      never_falls = subst P (sym same) (never_falls-refl n);
    }

rises_exactly : (n m : ℕ) → Rises n m → RisesExactly true n m
rises_exactly n m r = record { rises = λ e. r; only = λ more. refl; never_falls = r.never_falls }

module _ {J : Type 0} (old new : EndCounts) (full : new.full ≡ old.full) where
  pub adds_disk_fault : (end : End J) (before after : ℕ) (mark : Marked) → end ≡ ends.DiskFault before after mark → IsMarkedSo end → new.marks ≡ counted mark.kind old.marks → old.marks.disk_faults < 2 ^ 64
      → CountsRose (ending_of end) (counts_of old) (counts_of new)
  adds_disk_fault end before after mark is marked marks small =
      let kind : mark.kind ≡ kinds.DiskFault = subst (λ (e : End J). IsMarkedSo e) is marked in
      let by = marks ∙ ap (λ (k : MarkKind). counted k old.marks) kind in
      let faults : new.marks.disk_faults ≡ one_more old.marks.disk_faults = ap (λ (m : Marks). m.disk_faults) by in
      let closed : new.marks.closed ≡ old.marks.closed = ap (λ (m : Marks). m.closed) by in
      let R : ℕ → Type 0 = λ n. Rises old.marks.disk_faults n in
      let rises = subst R (sym faults) (one_more-rises old.marks.disk_faults small) in
      subst (λ (e : End J). CountsRose (ending_of e) (counts_of old) (counts_of new)) (sym is) (record {
        disk_fault = λ e. rises;
        disk_faults_never_fall = rises.never_falls;
        closed = stays old.marks.closed new.marks.closed closed;
        full = stays old.full new.full full;
      })

  pub adds_closed : (end : End J) (before after : ℕ) (mark : Marked) → end ≡ ends.Closed before after mark → IsMarkedSo end → new.marks ≡ counted mark.kind old.marks → old.marks.closed < 2 ^ 64
      → CountsRose (ending_of end) (counts_of old) (counts_of new)
  adds_closed end before after mark is marked marks small =
      let kind : mark.kind ≡ kinds.Closed = subst (λ (e : End J). IsMarkedSo e) is marked in
      let by = marks ∙ ap (λ (k : MarkKind). counted k old.marks) kind in
      let faults : new.marks.disk_faults ≡ old.marks.disk_faults = ap (λ (m : Marks). m.disk_faults) by in
      let closed : new.marks.closed ≡ one_more old.marks.closed = ap (λ (m : Marks). m.closed) by in
      let R : ℕ → Type 0 = λ n. Rises old.marks.closed n in
      let rises = subst R (sym closed) (one_more-rises old.marks.closed small) in
      let N : ℕ → Type 0 = λ n. NeverFalls old.marks.disk_faults n in
      subst (λ (e : End J). CountsRose (ending_of e) (counts_of old) (counts_of new)) (sym is) (record {
        disk_fault = λ e. absurd (true≢false (sym e));
        disk_faults_never_fall = subst N (sym faults) (never_falls-refl old.marks.disk_faults);
        closed = rises_exactly old.marks.closed new.marks.closed rises;
        full = stays old.full new.full full;
      })
