-- What writes come to and what a crash may leave of them, worked out on files of a few bytes.
use Rattle.std.proofs.Common.{◌≡◌, ℕ, true, false, List, [], ◌∷◌, length, slice_index, take, codes, refl, sym, ap, ◌∙◌, subst, inl, inr, arith, lit≤}
use Rattle.std.specs.Global.{Vec}
use Rattle.disk_model.specs.Disk.{Torn}
use Rattle.disk_model.specs.Memory.{after_write, content_of, IsImage, WasImage}
use Rattle.disk_model.specs.declared.call.DiskCall.TheVariants.{Wrote, Synced}

-- ---- a write that is cut short

-- of two bytes at 1 the first was written
one-byte-of-two : Torn 1 2 (codes "abcd") (codes "aXcd")
one-byte-of-two = record { before = refl; after = refl; no_shorter = lit≤ tt; no_longer = lit≤ tt }

-- in its range there may be any bytes
other-bytes : Torn 1 2 (codes "abcd") (codes "a??d")
other-bytes = record { before = refl; after = refl; no_shorter = lit≤ tt; no_longer = lit≤ tt }

-- three bytes at 3, of which two were written, one of them past the end
past-the-end : Torn 3 3 (codes "abcd") (codes "abcXY")
past-the-end = record { before = refl; after = refl; no_shorter = lit≤ tt; no_longer = lit≤ tt }

not-before-its-place : ¬ Torn 1 2 (codes "abcd") (codes "XbcD")
not-before-its-place h =
    let first = ap (λ (bytes : List ℕ). slice_index bytes 0) h.before in absurd (omega (arith, first))

not-behind-its-range : ¬ Torn 1 2 (codes "abcd") (codes "abcX")
not-behind-its-range h =
    let last = ap (λ (bytes : List ℕ). slice_index bytes 0) h.after in absurd (omega (arith, last))

no-byte-is-lost : ¬ Torn 1 2 (codes "abcd") (codes "abc")
no-byte-is-lost h = let size = h.no_shorter in absurd (omega (arith, size))

-- ---- what reads give, wherever the pieces of the calls lie in memory

two-writes-and-a-sync : (ab cd : Vec ℕ) → ab.items ≡ codes "ab" → cd.items ≡ codes "cd"
    → content_of (Synced ∷ Wrote 2 cd true ∷ Wrote 0 ab true ∷ []) ≡ codes "abcd"
unfolding content_of
two-writes-and-a-sync ab cd first second =
    ap (λ items. after_write 2 items true (after_write 0 ab.items true [])) second
    ∙ ap (λ items. after_write 2 (codes "cd") true (after_write 0 items true [])) first

-- the later of two writes to one place
a-piece-within-another : (abcd x : Vec ℕ) → abcd.items ≡ codes "abcd" → x.items ≡ codes "X"
    → content_of (Wrote 1 x true ∷ Wrote 0 abcd true ∷ []) ≡ codes "aXcd"
unfolding content_of
a-piece-within-another abcd x first second =
    ap (λ items. after_write 1 items true (after_write 0 abcd.items true [])) second
    ∙ ap (λ items. after_write 1 (codes "X") true (after_write 0 items true [])) first

a-write-that-failed : (ab x : Vec ℕ) → ab.items ≡ codes "ab" → content_of (Wrote 0 x false ∷ Wrote 0 ab true ∷ []) ≡ codes "ab"
unfolding content_of
a-write-that-failed ab x first = ap (λ items. after_write 0 items true []) first

-- a byte would be missing between the end and its place
a-write-that-leaves-a-gap : (ab cd : Vec ℕ) → ab.items ≡ codes "ab"
    → content_of (Wrote 3 cd true ∷ Wrote 0 ab true ∷ []) ≡ codes "ab"
unfolding content_of
a-write-that-leaves-a-gap ab cd first =
    ap (λ items. after_write 3 cd.items true (after_write 0 items true [])) first

-- ---- what a crash may leave

-- a write is lost
nothing-of-a-write : (ab : Vec ℕ) → IsImage (Wrote 0 ab true ∷ []) []
unfolding IsImage
nothing-of-a-write ab = ([], refl, record { before = refl; after = refl; no_shorter = lit≤ tt; no_longer = omega arith })

all-of-a-write : (ab : Vec ℕ) → ab.items ≡ codes "ab" → IsImage (Wrote 0 ab true ∷ []) (codes "ab")
unfolding IsImage
all-of-a-write ab is =
    let torn : Torn 0 2 [] (codes "ab") = record { before = refl; after = refl; no_shorter = lit≤ tt; no_longer = lit≤ tt } in
    ([], refl, subst (λ items. Torn 0 (length items) [] (codes "ab")) (sym is) torn)

-- one that failed may have written a byte of two
a-byte-of-a-failed-write : (ab : Vec ℕ) → ab.items ≡ codes "ab" → IsImage (Wrote 0 ab false ∷ []) (codes "a")
unfolding IsImage
a-byte-of-a-failed-write ab is =
    let torn : Torn 0 2 [] (codes "a") = record { before = refl; after = refl; no_shorter = lit≤ tt; no_longer = lit≤ tt } in
    ([], refl, subst (λ items. Torn 0 (length items) [] (codes "a")) (sym is) torn)

-- the later write is there, and where the earlier one went there are other bytes
the-later-write-alone : (ab cd : Vec ℕ) → ab.items ≡ codes "ab" → cd.items ≡ codes "cd"
    → IsImage (Wrote 2 cd true ∷ Wrote 0 ab true ∷ []) (codes "??cd")
unfolding IsImage
the-later-write-alone ab cd first second =
    let early : Torn 0 2 [] (codes "??") = record { before = refl; after = refl; no_shorter = lit≤ tt; no_longer = lit≤ tt } in
    let late : Torn 2 2 (codes "??") (codes "??cd") = record { before = refl; after = refl; no_shorter = lit≤ tt; no_longer = lit≤ tt } in (
      codes "??",
      ([], refl, subst (λ items. Torn 0 (length items) [] (codes "??")) (sym first) early),
      subst (λ items. Torn 2 (length items) (codes "??") (codes "??cd")) (sym second) late,
    )

-- what is synced stays
a-synced-write : (ab : Vec ℕ) → ab.items ≡ codes "ab" → (image : List ℕ) → IsImage (Synced ∷ Wrote 0 ab true ∷ []) image → image ≡ codes "ab"
unfolding IsImage content_of
a-synced-write ab is image left = left ∙ ap (λ items. after_write 0 items true []) is

-- also under a later write elsewhere
a-write-behind-what-is-synced : (ab cd : Vec ℕ) → ab.items ≡ codes "ab" → (image : List ℕ)
    → IsImage (Wrote 2 cd true ∷ Synced ∷ Wrote 0 ab true ∷ []) image → take 2 image ≡ codes "ab"
unfolding IsImage content_of
a-write-behind-what-is-synced ab cd is image (before, synced, torn) =
    torn.before ∙ ap (take 2) (synced ∙ ap (λ items. after_write 0 items true []) is)

-- ---- what a crash may have left since a moment

-- behind the write and before its sync the disk could have been left empty
before-the-sync : (ab : Vec ℕ) → WasImage (Synced ∷ Wrote 0 ab true ∷ []) 1 []
unfolding WasImage
before-the-sync ab = inr (lit≤ tt, inl (nothing-of-a-write ab))

-- since the sync it could not
since-the-sync : (ab : Vec ℕ) → ab.items ≡ codes "ab" → (image : List ℕ) → WasImage (Synced ∷ Wrote 0 ab true ∷ []) 2 image → image ≡ codes "ab"
unfolding WasImage
since-the-sync ab is image (inl now) = a-synced-write ab is image now
since-the-sync ab is image (inr past) = let late = past.0 in absurd (omega (arith, late))

-- before any call it was empty
at-the-beginning : (ab : Vec ℕ) → WasImage (Synced ∷ Wrote 0 ab true ∷ []) 0 []
unfolding WasImage
at-the-beginning ab = inr (lit≤ tt, inr (lit≤ tt, refl))

-- and a file that is never written to stays so
no-call : (image : List ℕ) → WasImage [] 0 image → image ≡ []
unfolding WasImage
no-call image was = was
