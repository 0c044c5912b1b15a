-- Laws: what calls that store do to a store on a disk, one after another.
use Rattle.std.proofs.Common.{◌≡◌, inl, inr, ⊎_elim, ℕ, List, [], ◌∷◌, ◌++◌, Option, None, Some, refl, sym, ap, subst, ◌∙◌, append_assoc, arith}
use Rattle.std.proofs.lemmas.List.{append-nil}
use Rattle.plain_laws.specs.Options.{some-none}
use Rattle.disk_model.specs.Disk.{DiskState, LeavesOnly, MayLeave}
use Rattle.explorer_model.specs.declared.archive.Batch.{Batch}
use Rattle.explorer_model.specs.Journal.{IsSound}
use Rattle.record_log.specs.Log.{EachImage, Log}
use Rattle.manifest.specs.Manifest.{HasFrontOf, HasJournal, IsWithOrWithoutBatch}
use Rattle.ingest_desk.specs.Stored.{Stored, journal}
use Rattle.import_run.specs.Since.{Closes, Goes, IsSince, StaysOpen}

-- ---- images

pub front_of_more : (j more rest : List Batch) (image : List ℕ)
    → HasFrontOf j more image → HasFrontOf j (more ++ rest) image
front_of_more j more rest image h = (
  h.0,
  h.1 ++ rest,
  ap (λ (l : List Batch). l ++ rest) h.2 ∙ append_assoc h.0 h.1 rest,
  h.3,
)

pub front_behind : (j first more : List Batch) (image : List ℕ)
    → HasFrontOf (j ++ first) more image → HasFrontOf j (first ++ more) image
front_behind j first more image h = (
  first ++ h.0,
  h.1,
  ap (λ (l : List Batch). first ++ l) h.2 ∙ sym (append_assoc first h.0 h.1),
  subst (λ (l : List Batch). HasJournal l image) (append_assoc j first h.0) h.3,
)

pub no_front : (j batches : List Batch) (image : List ℕ)
    → HasJournal j image → HasFrontOf j batches image
no_front j batches image h =
    let P : List Batch → Type 0 = λ l. HasJournal l image in
    ([], batches, refl, subst P (sym (append-nil j)) h)

pub one_front : (j : List Batch) (batch : Batch) (image : List ℕ)
    → IsWithOrWithoutBatch j batch image → HasFrontOf j (batch ∷ []) image
one_front j batch image (inl without) = no_front j (batch ∷ []) image without
one_front j batch image (inr with_batch) = (batch ∷ [], [], refl, with_batch)

module _ {D : Type 0} (disk : D → DiskState) (left_since : D → ℕ → List ℕ → Type 0) where
  pub weaker : (old new : D) (P Q : List ℕ → Type 0) → ((image : List ℕ) → P image → Q image)
      → LeavesOnly disk left_since old new P → LeavesOnly disk left_since old new Q
  weaker old new P Q step leaves = record {
    later = leaves.later;
    each = λ image left. step image (leaves.each image left);
    before = λ t image earlier left.
        ⊎_elim (λ l. inl l) (λ p. inr (step image p)) (leaves.before t image earlier left);
  }

  leaves_none : (it : D) (P : List ℕ → Type 0)
      → ((image : List ℕ) → MayLeave disk left_since it image → P image)
      → LeavesOnly disk left_since it it P
  leaves_none it P each =
      record { later = omega arith; each = each; before = λ t image earlier left. inl left }

  leaves_both : (first second third : D) (P : List ℕ → Type 0)
      → LeavesOnly disk left_since first second P → LeavesOnly disk left_since second third P
      → LeavesOnly disk left_since first third P
  leaves_both first second third P a b = record {
    later = omega (arith, a.later, b.later);
    each = λ image left.
        ⊎_elim (λ l. a.each image l) (λ p. p) (b.before (disk first).moment image a.later left);
    before = λ t image earlier left.
        ⊎_elim (λ l. a.before t image earlier l) (λ p. inr p)
        (b.before t image (omega (arith, earlier, a.later)) left);
  }

  -- ---- no call

  goes_none : (j : List Batch) (f : Option (ℕ × ℕ)) (failed : Option Batch) (log : Log D)
      → Goes disk left_since j [] f f failed failed log log
  goes_none j None failed log = record {
    no_fault = refl;
    crash = λ each.
        let P : List Batch → Type 0 = λ l. EachImage disk left_since log.disk (HasJournal l) in
        record {
          now = subst P (sym (append-nil j)) each;
          meanwhile = leaves_none log.disk (HasFrontOf j [])
              (λ image left. no_front j [] image (each image left));
        };
  }
  goes_none j (Some counts) failed log = (refl, refl, refl)

  pub since_then : (it : Stored D) → IsSince disk left_since it it
  since_then it = record {
    batches = [];
    journal_is = sym (append-nil (journal it));
    manifest = goes_none (journal it) it.manifest.fault it.failed it.manifest;
  }

  -- where the journal and the manifest are as they were, and the batch that failed
  pub since_same : (old new : Stored D) → journal new ≡ journal old → new.manifest ≡ old.manifest
      → new.failed ≡ old.failed → IsSince disk left_since old new
  since_same old new same_journal same_manifest same_failed =
      let fault = old.manifest.fault in
      let was = old.failed in
      let P : Log D → Type 0 =
      λ log. Goes disk left_since (journal old) [] fault log.fault was was old.manifest log in
      let Q : Option Batch → Type 0 = λ failed. Goes disk left_since (journal old) [] fault
      new.manifest.fault was failed old.manifest new.manifest in
      record {
        batches = [];
        journal_is = same_journal ∙ sym (append-nil (journal old));
        manifest = subst Q (sym same_failed)
            (subst P (sym same_manifest) (goes_none (journal old) fault was old.manifest));
      }

  -- ---- one call after another

  open_open : (j first more : List Batch) (a b c : D) → StaysOpen disk left_since j first a b
      → StaysOpen disk left_since (j ++ first) more b c
      → StaysOpen disk left_since j (first ++ more) a c
  open_open j first more a b c one two =
      let Q = HasFrontOf j (first ++ more) in
      record {
        no_fault = two.no_fault ∙ one.no_fault;
        crash = λ each.
            let k = one.crash each in
            let l = two.crash k.now in
            let P : List Batch → Type 0 = λ l. EachImage disk left_since c (HasJournal l) in
            record {
              now = subst P (append_assoc j first more) l.now;
              meanwhile = leaves_both a b c Q
                  (weaker a b (HasFrontOf j first) Q (front_of_more j first more) k.meanwhile)
                  (weaker b c (HasFrontOf (j ++ first) more) Q (front_behind j first more)
                  l.meanwhile);
            };
      }

  open_closes : (counts : ℕ × ℕ) (j first more : List Batch) (failed : Option Batch) (a b c : D)
      → StaysOpen disk left_since j first a b
      → Closes disk left_since counts (j ++ first) more failed b c
      → Closes disk left_since counts j (first ++ more) failed a c
  open_closes counts j first more failed a b c one two = record {
    fault = record {
      before_is = two.fault.before_is ∙ one.no_fault;
      after_is = two.fault.after_is;
      rises = two.fault.rises;
    };
    crash = λ each.
        let k = one.crash each in
        let l = two.crash k.now in
        let last = l.last in
        let behind = more ++ last ∷ [] in
        let P : List Batch → Type 0 =
        λ l. EachImage disk left_since c (IsWithOrWithoutBatch l last) in
        let Q : List Batch → Type 0 = λ l. LeavesOnly disk left_since a c (HasFrontOf j l) in
        let R = HasFrontOf j (first ++ behind) in
        let S : List Batch → Type 0 = λ l. IsSound (j ++ l) in
        record {
          last = last;
          is_failed = l.is_failed;
          sound = subst S (sym (append_assoc first more (last ∷ [])))
              (subst IsSound (append_assoc j first behind) l.sound);
          now = subst P (append_assoc j first more) l.now;
          meanwhile = subst Q (sym (append_assoc first more (last ∷ [])))
              (leaves_both a b c R
              (weaker a b (HasFrontOf j first) R (front_of_more j first behind) k.meanwhile)
              (weaker b c (HasFrontOf (j ++ first) behind) R (front_behind j first behind)
              l.meanwhile));
        };
  }

  goes_both : (j first more : List Batch) (p q r : Option Batch) (a b c : Log D)
      (f g h : Option (ℕ × ℕ)) → a.fault ≡ f → b.fault ≡ g → c.fault ≡ h
      → Goes disk left_since j first f g p q a b
      → Goes disk left_since (j ++ first) more g h q r b c
      → Goes disk left_since j (first ++ more) f h p r a c
  goes_both j first more p q r a b c None None None fa fb fc one two =
      open_open j first more a.disk b.disk c.disk one two
  goes_both j first more p q r a b c None None (Some counts) fa fb fc one two =
      open_closes counts j first more r a.disk b.disk c.disk one two
  goes_both j first more p q r a b c None (Some counts) None fa fb fc one two =
      absurd (some-none counts (sym fb ∙ ap (λ (l : Log D). l.fault) (sym two.0) ∙ fc))
  goes_both j first more p q r a b c None (Some counts) (Some later) fa fb fc one two =
      let same : Some counts ≡ Some later = sym fb ∙ ap (λ (l : Log D). l.fault) (sym two.0) ∙ fc in
      let is : counts ≡ later = some_same counts later same in
      let none : first ++ more ≡ first =
      ap (λ (l : List Batch). first ++ l) two.1 ∙ append-nil first in
      let P : ℕ × ℕ → Type 0 =
      λ k. Closes disk left_since k j (first ++ more) r a.disk c.disk in
      let Q : Log D → Type 0 =
      λ l. Closes disk left_since counts j (first ++ more) r a.disk l.disk in
      let R : List Batch → Type 0 = λ l. Closes disk left_since counts j l r a.disk b.disk in
      let S : Option Batch → Type 0 =
      λ failed. Closes disk left_since counts j first failed a.disk b.disk in
      subst P is (subst Q (sym two.0) (subst R (sym none) (subst S (sym two.2) one)))
    where
      some_same : (x y : ℕ × ℕ) → Some x ≡ Some y → x ≡ y
      some_same x y e = cc
  goes_both j first more p q r a b c (Some counts) None h fa fb fc one two =
      absurd (some-none counts (sym fa ∙ ap (λ (l : Log D). l.fault) (sym one.0) ∙ fb))
  goes_both j first more p q r a b c (Some counts) (Some later) h fa fb fc one two =
      (two.0 ∙ one.0, ap (λ (l : List Batch). l ++ more) one.1 ∙ two.1, two.2 ∙ one.2)

  pub since_before : (first second third : Stored D) → IsSince disk left_since first second
      → IsSince disk left_since second third → IsSince disk left_since first third
  since_before first second third a b =
      let now = second.manifest in
      let P : List Batch → Type 0 = λ j. Goes disk left_since j b.batches now.fault
      third.manifest.fault second.failed third.failed now third.manifest in
      record {
        batches = a.batches ++ b.batches;
        journal_is = b.journal_is ∙ ap (λ (l : List Batch). l ++ b.batches) a.journal_is
            ∙ append_assoc (journal first) a.batches b.batches;
        manifest = goes_both (journal first) a.batches b.batches first.failed second.failed
            third.failed first.manifest now third.manifest _ _ _ refl refl refl a.manifest
            (subst P a.journal_is b.manifest);
      }
