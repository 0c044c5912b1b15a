-- What the calls of the disk in memory come to.
use Rattle.std.proofs.Common.{◌≡◌, inl, inr, ⊎_elim, ℕ, ◌+◌, ◌<◌, ◌≤◌, nat_le, Bool, true, false, List, [], ◌∷◌, ◌++◌, length, reverse, Some, Vec, refl, sym, ap, ◌∙◌, subst, arith}
use Rattle.std.proofs.lemmas.Bool.Decides.{nat_tests}
use Rattle.std.proofs.lemmas.List.{reverse-append}
use Rattle.std.specs.declared.alloc.Global.{Global}
use Rattle.outside.specs.Stream.{Rises}
use Rattle.outside.specs.Memory.{FailurePlan}
use Rattle.disk_model.specs.Disk.{DiskState, Stays, written, Torn, Writes, FailsToWrite, Same, Elapses}
use Rattle.disk_model.specs.Memory.{MemoryDisk, after_write, content_of, IsImage, WasImage, is_synced, state_of, left_since, IsLeft}
use Rattle.disk_model.specs.Images.{torn-same, length-written, content-left, since, only_now}
use Rattle.disk_model.specs.declared.call.DiskCall.{DiskCall}
use Rattle.disk_model.specs.declared.call.DiskCall.TheVariants.{Wrote, Synced}

-- the newest call comes first
pub pushed : (before middle after : List DiskCall) (call : DiskCall) → middle ≡ before
    → after ≡ middle ++ call ∷ [] → reverse after ≡ call ∷ reverse before
pushed before middle after call same is =
    ap reverse is ∙ reverse-append middle (call ∷ []) ∙ (λ i. call ∷ reverse (same i))

-- ---- what reads give

pub content-synced : (calls after : List DiskCall) → after ≡ Synced ∷ calls → content_of after ≡ content_of calls
unfolding content_of
content-synced calls after is = ap content_of is

-- an after-write that is done and leaves no gap
done-written : (at : ℕ) (piece file : List ℕ) → at ≤ length file → after_write at piece true file ≡ written at piece file
done-written at piece file inside =
    let fits : nat_le at (length file) ≡ true = grind (arith, nat_tests) in
    rw fits refl

module _ (calls after : List DiskCall) (at : ℕ) (copy : Vec ℕ Global) (done : Bool) (is : after ≡ Wrote at copy done ∷ calls) where
  pub content-wrote : content_of after ≡ after_write at copy.items done (content_of calls)
  unfolding content_of
  content-wrote = ap content_of is

  pub content-done : (piece bytes : List ℕ) → copy.items ≡ piece → content_of calls ≡ bytes → done ≡ true
      → at ≤ length (content_of calls) → content_of after ≡ written at piece bytes
  content-done piece bytes same content was inside =
      content-wrote ∙ (λ i. after_write at (same i) (was i) (content i))
      ∙ done-written at piece bytes (subst (λ (l : List ℕ). at ≤ length l) content inside)

  pub content-failed : done ≡ false → content_of after ≡ content_of calls
  content-failed was = content-wrote ∙ (λ i. after_write at copy.items (was i) (content_of calls))

-- ---- what a crash may leave

image-of : (calls after : List DiskCall) (image : List ℕ) → after ≡ calls → IsImage after image → IsImage calls image
image-of calls after image is now = subst (λ (l : List DiskCall). IsImage l image) is now

-- a call that is remembered
elapses-call : (Step : List ℕ → List ℕ → Type 0) (old new : MemoryDisk) (call : DiskCall) → new.calls ≡ call ∷ old.calls
    → ((image : List ℕ) → IsImage (call ∷ old.calls) image → (before : List ℕ) × IsImage old.calls before × Step before image)
    → Elapses state_of left_since Step old new
unfolding WasImage
elapses-call Step old new call is step =
    let size : length new.calls ≡ length old.calls + 1 = omega (arith, ap length is) in
    record {
      later = omega (arith, size);
      now = λ image left.
          let past = step image (image-of (call ∷ old.calls) new.calls image is (only_now new.calls image left)) in
          (past.0, since old.calls (length old.calls) past.0 past.1, past.2);
      nothing_else = λ t image earlier left.
          ⊎_elim (λ now. inr (since new.calls (length new.calls) image (image-of new.calls (call ∷ old.calls) image (sym is) now)))
          (λ past. inl past.1) (subst (λ (k : List DiskCall). WasImage k t image) is left);
      keeps = λ t image earlier left. subst (λ (k : List DiskCall). WasImage k t image) (sym is) (inr (earlier, left));
    }

pub elapses-wrote : (old new : MemoryDisk) (at : ℕ) (copy : Vec ℕ Global) (done : Bool) (piece : List ℕ)
    → copy.items ≡ piece → new.calls ≡ Wrote at copy done ∷ old.calls
    → Elapses state_of left_since (Torn at (length piece)) old new
unfolding IsImage
elapses-wrote old new at copy done piece same is =
    elapses-call (Torn at (length piece)) old new (Wrote at copy done) is
    (λ image now. (now.0, now.1, subst (λ (p : List ℕ). Torn at (length p) now.0 image) same now.2))

pub elapses-synced : (old new : MemoryDisk) → new.calls ≡ Synced ∷ old.calls → Elapses state_of left_since Same old new
unfolding IsImage
elapses-synced old new is =
    elapses-call Same old new Synced is (λ image now. (content_of old.calls, content-left old.calls, now))

synced-only : (calls : List DiskCall) (after : List DiskCall) → after ≡ Synced ∷ calls
    → (image : List ℕ) → WasImage after (length after) image → image ≡ content_of calls
unfolding IsImage
synced-only calls after is image left = image-of (Synced ∷ calls) after image is (only_now after image left)

pub durable-synced : (calls after : List DiskCall) → after ≡ Synced ∷ calls
    → (image : List ℕ) → WasImage after (length after) image → Some (content_of after) ≡ Some image
durable-synced calls after is image left =
    ap Some (content-synced calls after is ∙ sym (synced-only calls after is image left))

-- a disk whose newest call is a sync
pub durable-already : (calls : List DiskCall) → is_synced calls ≡ true
    → (image : List ℕ) → WasImage calls (length calls) image → Some (content_of calls) ≡ Some image
unfolding content_of
durable-already [] never image left = absurd (cc (never))
durable-already (Wrote at piece done ∷ calls) never image left = absurd (cc (never))
durable-already (Synced ∷ calls) is image left = durable-synced calls (Synced ∷ calls) refl image left

-- ---- a crash

-- none of the calls is to fail
abbrev none_fail : FailurePlan
none_fail = record { failing = []; calls = 0 }

pub left-synced : (old : MemoryDisk) (calls after : List DiskCall) (image : List ℕ) (plan : FailurePlan)
    → after ≡ Synced ∷ calls → content_of calls ≡ image → IsImage old.calls image → plan ≡ none_fail
    → IsLeft old (record { calls = after; room = old.room; plan = plan; faults = 0; short_of_memory = false })
left-synced old calls after image plan is content left none =
    let same = content-synced calls after is in
    record {
      left = subst (λ (l : List ℕ). WasImage old.calls (length old.calls) l) (sym (same ∙ content)) (since old.calls (length old.calls) image left);
      synced = ap is_synced is;
      rest = λ i. record { calls = after; room = old.room; plan = none i; faults = 0; short_of_memory = false };
    }

-- ---- what the calls do to the state

-- the state after these calls
abbrev state : List DiskCall → ℕ → DiskState
state calls faults = record {
  content = Some (content_of calls);
  size = length (content_of calls);
  moment = length calls;
  faults = faults;
}

module _ (calls after : List DiskCall) (faults : ℕ) where
  pub stays-synced : after ≡ Synced ∷ calls → Stays (state calls faults) (state after faults)
  stays-synced is =
      let same = content-synced calls after is in
      λ i. record { content = Some (same i); size = length (same i); moment = length after; faults = faults }

  pub writes-done : (at : ℕ) (copy : Vec ℕ Global) (done : Bool) (piece : List ℕ) → after ≡ Wrote at copy done ∷ calls
      → copy.items ≡ piece → done ≡ true → at ≤ length (content_of calls)
      → Writes at piece (state calls faults) (state after faults)
  writes-done at copy done piece is same was inside =
      let content = content-done calls after at copy done is piece (content_of calls) same refl was inside in
      record {
        content = ap Some content;
        size = ap length content ∙ length-written at piece (content_of calls) inside;
        rest = refl;
      }

  pub fails-same : (at n count : ℕ) → content_of after ≡ content_of calls → Rises faults count
      → FailsToWrite at n (state calls faults) (state after count)
  fails-same at n count same rises = record {
    content = subst (Torn at n (content_of calls)) (sym same) (torn-same at n (content_of calls));
    no_smaller = omega (arith, ap length same);
    no_larger = omega (arith, ap length same);
    rises = rises;
  }

-- ---- the room for a further call

pub no_more : (calls after : List DiskCall) (some room : ℕ) → after ≡ Synced ∷ calls → is_synced after ≡ false → some < room
no_more calls after some room is off =
    let never : true ≡ false = sym (ap is_synced is) ∙ off in
    absurd (cc (never))
