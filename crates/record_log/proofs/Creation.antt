-- A new log.
use Rattle.std.proofs.Common.{◌≡◌, ℕ, ◌+◌, ◌<◌, ◌^◌, List, [], ◌∷◌, ◌++◌, length, drop, Some, None, refl, sym, ap, ◌∙◌, subst, arith, append-nil, length-drop}
use Rattle.std.proofs.lemmas.List.{nil_from_length}
use Rattle.std.proofs.lemmas.List.Elements.{All-from_recursion}
use Rattle.std.specs.Int.{IsInRange}
use Rattle.disk_model.specs.Disk.{DiskState, IsQuiet, LeavesOnly, MayLeave, StaysTold, Torn, written}
use Rattle.disk_model.specs.Images.{torn-same}
use Rattle.disk_model.proofs.Moments.{joined, weaker}
use Rattle.explorer_model.specs.StoreFile.{header, front_of, CanStand}
use Rattle.record_log.specs.Log.{IsShutBehind, EachImage, empty_file, IsCreated, IsTornOf, IsWrittenEmpty, IsWrittenOf}
use Rattle.record_log.specs.declared.format.Format.{Format}
use Rattle.record_log.proofs.Appending.{shut-records}

-- a piece that is written on nothing
written-first : (piece : List ℕ) → written 0 piece [] ≡ piece
written-first piece =
    ap (λ (l : List ℕ). piece ++ l) (nil_from_length (drop (0 + length piece) []) (omega (arith, length-drop {A = ℕ} (0 + length piece) [])))
    ∙ append-nil piece

pub front-none : (number : ℕ) → front_of number [] ≡ header number
front-none number = append-nil (header number)

module _ (format : Format) (small : format.number < 2 ^ 32) (most_small : format.most < 2 ^ 32) where
  pub can-none : CanStand format.most format.number []
  can-none = record {
    number = small;
    lengths = All-from_recursion (λ (p : List ℕ). IsInRange 1 format.most (length p)) [] tt;
    lengths_fit = most_small;
    places = omega (arith, ap length (front-none format.number));
  }

  pub shut-none : (image : List ℕ) → image ≡ empty_file format.number → IsShutBehind (front_of format.number []) image
  shut-none image is = record {
    gate = 0;
    rest = [];
    shut = λ zero_one. absurd (omega (arith, zero_one));
    bytes = is ∙ ap (λ (l : List ℕ). l ++ 0 ∷ []) (sym (front-none format.number));
  }

  module _ {D : Type 0} (disk : D → DiskState) (left_since : D → ℕ → List ℕ → Type 0) (old new : D) where
    pub created : IsWrittenEmpty disk left_since format.number old new → StaysTold (disk old) (disk new)
        → IsCreated disk left_since format old (record { disk = new; format = format; gate = 12; fault = None })
    created wrote told = record {
      was_empty = wrote.was_empty;
      is_format = refl;
      told = told;
      file = wrote.file;
      holds_none = record {
        sound = refl;
        can_stand = can-none;
        place = omega (arith, ap length (front-none format.number));
        shut = λ image left. shut-none image (wrote.file image left);
        records = λ image left. shut-records format [] image can-none (shut-none image (wrote.file image left));
      };
    }

module _ {D : Type 0} (disk : D → DiskState) (left_since : D → ℕ → List ℕ → Type 0) where
  -- what was written to an empty disk
  pub written-alone : (told : (it : D) (file : List ℕ) → (disk it).content ≡ Some file → length file ≡ (disk it).size)
      → (middle new : D) (piece : List ℕ) → (disk middle).size ≡ 0 → EachImage disk left_since new (IsWrittenOf (disk middle) 0 piece)
      → EachImage disk left_since new (λ image. image ≡ piece)
  written-alone told middle new piece empty wrote image left =
      let now = wrote image left in
      let none : now.0 ≡ [] = nil_from_length now.0 (told middle now.0 now.1 ∙ empty) in
      now.2 ∙ ap (written 0 piece) none ∙ written-first piece

  module _ (at n : ℕ) where
    -- calls that write nothing leave what was there
    pub quiet-torn : (old new : D) → IsQuiet disk left_since old new → LeavesOnly disk left_since old new (IsTornOf disk left_since old at n)
    quiet-torn old new quiet =
        weaker disk left_since old new (MayLeave disk left_since old) (IsTornOf disk left_since old at n)
        (λ image left. (image, left, torn-same at n image)) quiet.moments

    -- a write behind such calls
    pub torn-behind-quiet : (old middle new : D) → IsQuiet disk left_since old middle
        → LeavesOnly disk left_since middle new (IsTornOf disk left_since middle at n)
        → LeavesOnly disk left_since old new (IsTornOf disk left_since old at n)
    torn-behind-quiet old middle new quiet wrote =
        joined disk left_since old middle new (IsTornOf disk left_since old at n) (quiet-torn old middle quiet)
        (weaker disk left_since middle new (IsTornOf disk left_since middle at n) (IsTornOf disk left_since old at n)
        (λ image torn. (torn.0, quiet.now torn.0 torn.1, torn.2)) wrote)

-- at most thirteen bytes
pub few-bytes : {D : Type 0} (disk : D → DiskState) (left_since : D → ℕ → List ℕ → Type 0) (old new : D)
    → EachImage disk left_since old (λ image. image ≡ []) → LeavesOnly disk left_since old new (IsTornOf disk left_since old 0 13)
    → (image : List ℕ) → left_since new (disk old).moment image → Torn 0 13 [] image
few-bytes disk left_since old new empty only image left =
    let torn = only.each image left in
    subst (λ (before : List ℕ). Torn 0 13 before image) (empty torn.0 torn.1) torn.2
