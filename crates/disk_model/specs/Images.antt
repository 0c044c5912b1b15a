-- Laws: those of the disk in memory.
use Rattle.std.proofs.Common.{◌≡◌, inl, inr, ℕ, ◌+◌, ◌≤◌, nat_le, max, Bool, true, false, if◌then◌else◌, List, [], ◌∷◌, ◌++◌, length, take, drop, Some, refl, sym, ap, ◌∙◌, subst, arith, append_assoc, length-append, length-drop}
use Rattle.std.proofs.lemmas.Bool.Decides.{nat_tests}
use Rattle.std.proofs.lemmas.List.{take_at, drop_at, length-take-le}
use Rattle.std.proofs.lemmas.Option.{same_Some}
use Rattle.disk_model.specs.Disk.{written, Torn}
use Rattle.disk_model.specs.Memory.{MemoryDisk, after_write, content_of, IsImage, WasImage, state_of, left_since}
use Rattle.disk_model.specs.declared.call.DiskCall.{DiskCall}
use Rattle.disk_model.specs.declared.call.DiskCall.TheVariants.{Wrote, Synced}

-- a write that did nothing
pub torn-same : (at n : ℕ) (file : List ℕ) → Torn at n file file
torn-same at n file = record {
  before = refl;
  after = refl;
  no_shorter = omega arith;
  no_longer = omega arith;
}

pub length-written : (at : ℕ) (piece file : List ℕ) → at ≤ length file
    → length (written at piece file) ≡ max (length file) (at + length piece)
length-written at piece file inside =
    let back = drop (at + length piece) file in
    let front : length (take at file) ≡ at = length-take-le at file inside in
    let both : length (take at file ++ piece) ≡ at + length piece =
    omega (arith, front, length-append (take at file) piece) in
    let size = length-append (take at file ++ piece) back in
    omega (arith, both, size, length-drop (at + length piece) file)

-- a write that was done
pub torn-written : (at : ℕ) (piece file : List ℕ) → at ≤ length file
    → Torn at (length piece) file (written at piece file)
torn-written at piece file inside =
    let back = drop (at + length piece) file in
    let front : length (take at file) ≡ at = length-take-le at file inside in
    let both : length (take at file ++ piece) ≡ at + length piece =
    omega (arith, front, length-append (take at file) piece) in
    let size = length-written at piece file inside in
    record {
      before =
          ap (take at) (append_assoc (take at file) piece back)
          ∙ take_at (take at file) (piece ++ back) at front;
      after = drop_at (take at file ++ piece) back (at + length piece) both;
      no_shorter = omega (arith, size);
      no_longer = omega (arith, size);
    }

torn-after : (at : ℕ) (piece : List ℕ) (done : Bool) (file : List ℕ)
    → Torn at (length piece) file (after_write at piece done file)
torn-after at piece false file = torn-same at (length piece) file
torn-after at piece true file = by (nat_le at (length file)) refl
  where
    by : (fits : Bool) → nat_le at (length file) ≡ fits
        → Torn at (length piece) file (if fits then written at piece file else file)
    by true is = torn-written at piece file (grind (arith, nat_tests))
    by false is = torn-same at (length piece) file

-- what reads give is one of the images
pub content-left : (calls : List DiskCall) → IsImage calls (content_of calls)
unfolding content_of IsImage
content-left [] = refl
content-left (Wrote at piece done ∷ calls) =
    (content_of calls, content-left calls, torn-after at piece.items done (content_of calls))
content-left (Synced ∷ calls) = refl

-- an image now was one since any moment
pub since : (calls : List DiskCall) (t : ℕ) (image : List ℕ) → IsImage calls image
    → WasImage calls t image
unfolding IsImage WasImage
since [] t image now = now
since (call ∷ calls) t image now = inl now

-- after the last of the calls there was no other
pub only_now : (calls : List DiskCall) (image : List ℕ) → WasImage calls (length calls) image
    → IsImage calls image
unfolding IsImage WasImage
only_now [] image was = was
only_now (call ∷ calls) image (inl now) = now
only_now (call ∷ calls) image (inr past) = absurd (omega (arith, past.0))

-- ---- the laws

pub told_size : (it : MemoryDisk) (file : List ℕ) → (state_of it).content ≡ Some file
    → length file ≡ (state_of it).size
told_size it file is = ap length (sym (same_Some (content_of it.calls) file is))

pub told_left : (it : MemoryDisk) (file : List ℕ) → (state_of it).content ≡ Some file
    → left_since it (state_of it).moment file
told_left it file is =
    subst (WasImage it.calls (length it.calls)) (same_Some (content_of it.calls) file is)
    (since it.calls (length it.calls) _ (content-left it.calls))

pub counts_now : (it : MemoryDisk) (t : ℕ) (image : List ℕ) → t ≤ (state_of it).moment
    → left_since it (state_of it).moment image → left_since it t image
counts_now it t image earlier left = since it.calls t image (only_now it.calls image left)
