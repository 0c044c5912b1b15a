-- How a run of a disk's calls goes on.
use Rattle.std.proofs.Common.{◌≡◌, inl, inr, ⊎_elim, ℕ, ◌≤◌, List, refl, sym, ap, ◌∙◌, subst, arith}
use Rattle.outside.specs.Stream.{NeverFalls}
use Rattle.outside.proofs.StreamLemmas.{never_falls-refl, never_falls-trans}
use Rattle.disk_model.specs.Disk.{DiskState, Stays, Fails, MayLeave, Same, Elapses, LeavesOnly, IsQuiet}

module _ {D : Type 0} (disk : D → DiskState) (left_since : D → ℕ → List ℕ → Type 0) where
  -- before the first call
  pub started : (it : D) (P : List ℕ → Type 0) → ((image : List ℕ) → MayLeave disk left_since it image → P image)
      → LeavesOnly disk left_since it it P
  started it P here = record { later = omega arith; each = here; before = λ t image earlier left. inl left }

  -- one call more, after which a crash leaves what has P
  pub goes_on : (old middle new : D) (P : List ℕ → Type 0) (Step : List ℕ → List ℕ → Type 0) → LeavesOnly disk left_since old middle P
      → Elapses disk left_since Step middle new → ((image : List ℕ) → MayLeave disk left_since new image → P image)
      → LeavesOnly disk left_since old new P
  goes_on old middle new P Step so_far time here = record {
    later = omega (arith, so_far.later, time.later);
    each = λ image left.
        ⊎_elim (so_far.each image) (here image) (time.nothing_else (disk old).moment image so_far.later left);
    before = λ t image earlier left.
        ⊎_elim (so_far.before t image earlier) (λ now. inr (here image now))
        (time.nothing_else t image (omega (arith, earlier, so_far.later)) left);
  }

  -- one call
  pub one_call : (old new : D) (P : List ℕ → Type 0) (Step : List ℕ → List ℕ → Type 0) → Elapses disk left_since Step old new
      → ((image : List ℕ) → MayLeave disk left_since old image → P image)
      → ((image : List ℕ) → MayLeave disk left_since new image → P image) → LeavesOnly disk left_since old new P
  one_call old new P Step time there here = goes_on old old new P Step (started old P there) time here

  -- what has P has Q
  pub weaker : (old new : D) (P Q : List ℕ → Type 0) → ((image : List ℕ) → P image → Q image)
      → LeavesOnly disk left_since old new P → LeavesOnly disk left_since old new Q
  weaker old new P Q to only = record {
    later = only.later;
    each = λ image left. to image (only.each image left);
    before = λ t image earlier left. ⊎_elim (λ past. inl past) (λ now. inr (to image now)) (only.before t image earlier left);
  }

  -- a run after a run
  pub joined : (old middle new : D) (P : List ℕ → Type 0) → LeavesOnly disk left_since old middle P
      → LeavesOnly disk left_since middle new P → LeavesOnly disk left_since old new P
  joined old middle new P first second = record {
    later = omega (arith, first.later, second.later);
    each = λ image left.
        ⊎_elim (first.each image) (λ now. now) (second.before (disk old).moment image first.later left);
    before = λ t image earlier left.
        ⊎_elim (first.before t image earlier) (λ now. inr now)
        (second.before t image (omega (arith, earlier, first.later)) left);
  }

  -- what a crash may leave after the run
  pub now_has : (old new : D) (P : List ℕ → Type 0)
      → ((t : ℕ) (image : List ℕ) → t ≤ (disk new).moment → MayLeave disk left_since new image → left_since new t image)
      → LeavesOnly disk left_since old new P → (image : List ℕ) → MayLeave disk left_since new image → P image
  now_has old new P counts only image left = only.each image (counts (disk old).moment image only.later left)

  -- ---- calls that write nothing

  pub quiet_refl : (it : D) → IsQuiet disk left_since it it
  quiet_refl it = record {
    never_falls = never_falls-refl (disk it).faults;
    rest = refl;
    now = λ image left. left;
    moments = started it (MayLeave disk left_since it) (λ image left. left);
  }

  same-images : (old new : D) → Elapses disk left_since Same old new → (image : List ℕ) → MayLeave disk left_since new image
      → MayLeave disk left_since old image
  same-images old new time image left =
      let past = time.now image left in
      subst (MayLeave disk left_since old) (sym past.2) past.1

  quiet_call : (old new : D) → Elapses disk left_since Same old new → NeverFalls (disk old).faults (disk new).faults
      → disk new ≡ record (disk old) { moment = (disk new).moment; faults = (disk new).faults } → IsQuiet disk left_since old new
  quiet_call old new time never rest = record {
    never_falls = never;
    rest = rest;
    now = same-images old new time;
    moments = one_call old new (MayLeave disk left_since old) Same time (λ image left. left) (same-images old new time);
  }

  -- the same disk at another moment, with other faults
  at_count : DiskState → ℕ → ℕ → DiskState
  at_count state moment faults = record state { moment = moment; faults = faults }

  pub quiet_done : (old new : D) → Elapses disk left_since Same old new → Stays (disk old) (disk new) → IsQuiet disk left_since old new
  unfolding at_count
  quiet_done old new time stays =
      let same = ap (λ (s : DiskState). s.faults) stays in
      quiet_call old new time (subst (NeverFalls (disk old).faults) (sym same) (never_falls-refl (disk old).faults))
      (stays ∙ ap (at_count (disk old) (disk new).moment) (sym same))

  pub quiet_failed : (old new : D) → Elapses disk left_since Same old new → Fails (disk old) (disk new) → IsQuiet disk left_since old new
  quiet_failed old new time fails = quiet_call old new time fails.rises.never_falls fails.rest

  pub quiet_trans : (old middle new : D) → IsQuiet disk left_since old middle → IsQuiet disk left_since middle new
      → IsQuiet disk left_since old new
  unfolding at_count
  quiet_trans old middle new first second = record {
    never_falls = never_falls-trans (disk old).faults (disk middle).faults (disk new).faults first.never_falls second.never_falls;
    rest = second.rest ∙ ap (λ (s : DiskState). at_count s (disk new).moment (disk new).faults) first.rest;
    now = λ image left. first.now image (second.now image left);
    moments =
        joined old middle new (MayLeave disk left_since old) first.moments
        (weaker middle new (MayLeave disk left_since middle) (MayLeave disk left_since old) first.now second.moments);
  }
