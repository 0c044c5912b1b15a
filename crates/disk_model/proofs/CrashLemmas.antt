-- What a crash leaves of a disk in memory by its number.
use Rattle.std.proofs.Common.{◌≡◌, ℕ, suc, Vec, ◌+◌, ◌-◌, ◌/◌, ◌%◌, ◌<◌, ◌≤◌, nat_eq, nat_le, Bool, true, false, if◌then◌else◌, List, [], ◌∷◌, ◌++◌, length, take, drop, get_or, reverse, refl, sym, ap, ◌∙◌, subst, arith}
use Rattle.std.specs.declared.alloc.Global.{Global}
use Rattle.std.specs.Int.{bit_at}
use Rattle.std.specs.List.{All, enumerate_from}
use Rattle.std.proofs.Math.Seq.{take-suc}
use Rattle.std.proofs.lemmas.Bool.Decides.{nat_tests}
use Rattle.std.proofs.lemmas.List.{ext_get_or, get_or-map, drop-drop, length-map, length-take, reverse-append}
use Rattle.std.proofs.lemmas.List.Elements.{All-push}
use Rattle.std.proofs.lemmas.List.FromFn.{get_or-enumerate_from, length-enumerate_from}
use Rattle.disk_model.specs.Disk.{written, Torn}
use Rattle.disk_model.specs.Images.{content-left, torn-same, torn-written}
use Rattle.disk_model.specs.Memory.{FitsIn, after_write, content_of, kept_by, left_by, torn_bytes, torn_piece, torn_write, IsImage}
use Rattle.disk_model.specs.declared.call.DiskCall.{DiskCall}
use Rattle.disk_model.specs.declared.call.DiskCall.TheVariants.{Wrote, Synced}

-- ---- a piece that is torn

abbrev pub torn_byte : ℕ → ℕ → ℕ → ℕ
torn_byte number index byte = if nat_eq (bit_at number (index % 3)) 1 then number / 2 % 256 else byte

pub length-torn_bytes : (number : ℕ) (piece : List ℕ) → length (torn_bytes number piece) ≡ length piece
length-torn_bytes number piece =
    length-map (enumerate_from 0 piece) (λ (x : ℕ × ℕ). torn_byte number x.0 x.1) ∙ length-enumerate_from 0 piece

-- byte by byte
pub torn-by-bytes : (number : ℕ) (piece torn : List ℕ) → length torn ≡ length piece
    → ((k : ℕ) → k < length piece → get_or torn k 0 ≡ torn_byte number k (get_or piece k 0)) → torn ≡ torn_bytes number piece
torn-by-bytes number piece torn long each =
    let change : ℕ × ℕ → ℕ = λ (x : ℕ × ℕ). torn_byte number x.0 x.1 in
    let size = length-enumerate_from 0 piece in
    ext_get_or 0 torn (torn_bytes number piece) (long ∙ sym (length-torn_bytes number piece))
    (λ k inside.
    let within : k < length piece = omega (arith, long, inside) in
    let at : k ≡ 0 + k = omega arith in
    each k within ∙ ap (λ (n : ℕ). torn_byte number n (get_or piece k 0)) at
    ∙ sym (get_or-map change (enumerate_from 0 piece) k (0, 0) 0 (omega (arith, size, within))
    ∙ ap change (get_or-enumerate_from 0 piece k (0, 0) within)))

pub torn-no-longer : (number inside : ℕ) (piece : List ℕ) → length (torn_piece number inside piece) ≤ length piece
torn-no-longer number inside piece =
    omega (arith, length-take (inside + kept_by (number / 512 % 4) (length piece - inside)) (torn_bytes number piece), length-torn_bytes number piece)

-- ---- the images

-- a write of fewer bytes
torn-more : (at k n : ℕ) (old new : List ℕ) → k ≤ n → Torn at k old new → Torn at n old new
torn-more at k n old new few torn =
    let on : at + n ≡ at + k + (n - k) = omega arith in
    record {
      before = torn.before;
      after =
          ap (λ m. drop m new) on ∙ sym (drop-drop (n - k) (at + k) new) ∙ ap (drop (n - k)) torn.after
          ∙ drop-drop (n - k) (at + k) old ∙ ap (λ m. drop m old) (sym on);
      no_shorter = torn.no_shorter;
      no_longer = omega (arith, torn.no_longer, few);
    }

torn-over : (number at : ℕ) (piece file : List ℕ) → Torn at (length piece) file (torn_write number at piece file)
torn-over number at piece file = by (nat_le at (length file)) refl
  where
    left : List ℕ
    left = torn_piece number (length file - at) piece

    by : (fits : Bool) → nat_le at (length file) ≡ fits
        → Torn at (length piece) file (if fits then written at left file else file)
    by true is =
        torn-more at (length left) (length piece) file (written at left file) (torn-no-longer number (length file - at) piece)
        (torn-written at left file (grind (arith, nat_tests)))
    by false is = torn-same at (length piece) file

image-either : (whole : Bool) (calls : List DiskCall) (one other : List ℕ) → IsImage calls one → IsImage calls other
    → IsImage calls (if whole then one else other)
image-either true calls one other first second = first
image-either false calls one other first second = second

pub image-left : (number : ℕ) (calls : List DiskCall) → IsImage calls (left_by number calls)
unfolding left_by IsImage
image-left number [] = refl
image-left number (Synced ∷ calls) = refl
image-left number (Wrote at piece done ∷ calls) =
    let before = if nat_eq (number / 2048) 0 then content_of calls else left_by (number / 2048) calls in (
      before,
      image-either (nat_eq (number / 2048) 0) calls (content_of calls) (left_by (number / 2048) calls) (content-left calls)
          (image-left (number / 2048) calls),
      torn-over number at piece.items before,
    )

-- ---- calls in turn

module _ (calls : List DiskCall) (i : ℕ) (call : DiskCall) (inside : i < length calls) (is : call ≡ get_or calls i call) where
  pub next-call : reverse (take (i + 1) calls) ≡ call ∷ reverse (take i calls)
  next-call =
      let more : i + 1 ≡ suc i = omega arith in
      ap (λ n. reverse (take n calls)) more ∙ ap reverse (take-suc calls i call inside)
      ∙ ap (λ (c : DiskCall). reverse (take i calls ++ c ∷ [])) (sym is)
      ∙ reverse-append (take i calls) (call ∷ [])

-- ---- a write that is torn

module _ (number : ℕ) (calls : List DiskCall) (at : ℕ) (piece torn : Vec ℕ Global) (file : List ℕ)
    (is : torn.items ≡ torn_piece number (length file - at) piece.items) where
  over : after_write at torn.items true file ≡ torn_write number at piece.items file
  over = ap (λ (p : List ℕ). after_write at p true file) is

  -- as it is remembered
  pub content-over : (old after : List DiskCall) → after ≡ Wrote at torn true ∷ old → content_of old ≡ file
      → content_of after ≡ after_write at torn.items true file
  unfolding content_of
  content-over old after was content = ap content_of was ∙ ap (after_write at torn.items true) content

  pub left-over : (done : Bool) (whole : List DiskCall) → whole ≡ Wrote at piece done ∷ calls
      → file ≡ (if nat_eq (number / 2048) 0 then content_of calls else left_by (number / 2048) calls)
      → after_write at torn.items true file ≡ left_by number whole
  unfolding left_by
  left-over done whole was before =
      over ∙ ap (torn_write number at piece.items) before ∙ sym (ap (left_by number) was)

  pub fits-over : (room : ℕ) (old after : List DiskCall) → after ≡ old ++ Wrote at torn true ∷ [] → All (FitsIn room) old
      → at + length piece.items ≤ room → All (FitsIn room) after
  fits-over room old after was fit inside =
      subst (All (FitsIn room)) (sym was)
      (All-push (FitsIn room) old (Wrote at torn true) fit
      (omega (arith, inside, ap length is, torn-no-longer number (length file - at) piece.items)))

pub left-by-synced : (number : ℕ) (calls whole : List DiskCall) → whole ≡ Synced ∷ calls → content_of calls ≡ left_by number whole
unfolding left_by
left-by-synced number calls whole is = sym (ap (left_by number) is)

pub left-by-none : (number : ℕ) (calls whole : List DiskCall) → calls ≡ [] → whole ≡ [] → content_of calls ≡ left_by number whole
unfolding left_by content_of
left-by-none number calls whole none is = ap content_of none ∙ sym (ap (left_by number) is)
