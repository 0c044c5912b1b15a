-- Parts of a buffer.
use Rattle.std.proofs.Common.{◌≡◌, ℕ, ◌+◌, ◌-◌, ◌≤◌, List, [], ◌++◌, length, take, drop, slice_range, sym, ap, ◌∙◌, arith, length-take, length-drop}
use Rattle.std.proofs.lemmas.List.{length-take-le, take-append-le, drop-append-le, drop-drop}
use Rattle.std.proofs.lemmas.Slice.{between_is, between_from_start, take-put_mid_below}
use Rattle.std.proofs.lemmas.List.Edits.{take-paste}
use Rattle.std.proofs.Math.Seq.{take-append-add}
use Rattle.std.specs.List.{copy_within}
use borrow.Rule.Slice.PartMut.{put_mid}

pub length-part : (bytes : List ℕ) (start end : ℕ) → start ≤ end → end ≤ length bytes
    → length (slice_range bytes start end) ≡ end - start
length-part bytes start end ordered fits = simp (length-take, length-drop) (omega arith)

-- the part behind its first bytes
pub part-drop : (bytes : List ℕ) (start end count : ℕ)
    → slice_range bytes (start + count) end ≡ drop count (slice_range bytes start end)
part-drop bytes start end count =
    between_is bytes (start + count) end
    ∙ sym (drop-drop count start (take end bytes))
    ∙ ap (drop count) (sym (between_is bytes start end))

pub part-empty : (bytes : List ℕ) (start : ℕ) → slice_range bytes start start ≡ []
part-empty bytes start = let none : start - start ≡ 0 = omega arith in ap (λ n. take n (drop start bytes)) none

-- bytes before those that were written stay
pub part-before : (bytes into : List ℕ) (start end count : ℕ) → end ≤ length bytes
    → slice_range (put_mid end count bytes into) start end ≡ slice_range bytes start end
part-before bytes into start end count fits =
    between_is (put_mid end count bytes into) start end
    ∙ ap (drop start) (take-put_mid_below end count bytes into end (omega arith) fits)
    ∙ sym (between_is bytes start end)

pub take-put : (bytes into rest : List ℕ) (end count : ℕ) → end ≤ length bytes → count ≤ length into
    → take (end + count) (take end bytes ++ (into ++ rest)) ≡ take end bytes ++ take count into
take-put bytes into rest end count fits within =
    let front : length (take end bytes) ≡ end = length-take-le end bytes fits in
    let split : take (end + count) (take end bytes ++ (into ++ rest)) ≡ take end bytes ++ take count (into ++ rest)
    = ap (λ n. take (n + count) (take end bytes ++ (into ++ rest))) (sym front)
    ∙ take-append-add (take end bytes) (into ++ rest) count in
    split ∙ ap (λ part. take end bytes ++ part) (take-append-le count into rest within)

-- bytes that were written behind the part, with the first so many of them
pub part-more : (bytes into : List ℕ) (start end room count : ℕ) → start ≤ end → end ≤ length bytes → count ≤ length into
    → slice_range (put_mid end room bytes into) start (end + count) ≡ slice_range bytes start end ++ take count into
part-more bytes into start end room count ordered fits within =
    let front : length (take end bytes) ≡ end = length-take-le end bytes fits in
    let before : start ≤ length (take end bytes) = omega arith in
    between_is (put_mid end room bytes into) start (end + count)
    ∙ ap (drop start) (take-put bytes into (drop room (drop end bytes)) end count fits within)
    ∙ drop-append-le start (take end bytes) (take count into) before
    ∙ ap (λ part. part ++ take count into) (sym (between_is bytes start end))

-- a part that was copied to the front
pub part-moved : (bytes : List ℕ) (start end : ℕ) → start ≤ end → end ≤ length bytes
    → slice_range (copy_within bytes start end 0) 0 (end - start) ≡ slice_range bytes start end
part-moved bytes start end ordered fits =
    let size = end - start in
    let none : 0 + size ≡ size = omega arith in
    let long : size ≤ length (drop start bytes) = omega (arith, length-drop start bytes) in
    let moved = copy_within bytes start end 0 in
    between_from_start moved size
    ∙ ap (λ n. take n moved) (sym none)
    ∙ take-paste bytes 0 (drop start bytes) size (omega arith) long
