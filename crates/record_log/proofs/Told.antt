-- Facts of what a disk tells.
use Rattle.std.proofs.Common.{◌≡◌, List, ℕ, true, Option, Some, None, Result, Ok, Err, OnOk, IsSome, is_ok, is_some, option_map, ap, ◌∙◌, refl}
use Rattle.disk_model.specs.Disk.{AlsoTold, DiskState, Fails, FailsToWrite, IsQuiet, Stays, StaysTold, Torn, Writes, written}

module _ {D : Type 0} (disk : D → DiskState) (left_since : D → ℕ → List ℕ → Type 0) (old new : D) (quiet : IsQuiet disk left_since old new) where
  pub kept_content : (disk new).content ≡ (disk old).content
  kept_content = ap (λ (s : DiskState). s.content) quiet.rest

-- ---- a disk that tells tells still

mapped-told : (f : List ℕ → List ℕ) (told : Option (List ℕ)) → IsSome told → IsSome (option_map f told)
mapped-told f None is = is
mapped-told f (Some file) is = refl

also-told : (R : List ℕ → List ℕ → Type 0) (told now : Option (List ℕ)) → AlsoTold R told now → IsSome told → IsSome now
also-told R (Some file) (Some other) also is = refl
also-told R (Some file) None also is = absurd also
also-told R None now also is = absurd (cc (is))

pub told-stays : (old new : DiskState) → Stays old new → StaysTold old new
told-stays old new stays is = ap (λ (s : DiskState). is_some s.content) stays ∙ is

pub told-fails : (old new : DiskState) → Fails old new → StaysTold old new
told-fails old new fails is = ap (λ (s : DiskState). is_some s.content) fails.rest ∙ is

pub told-writes : (at : ℕ) (piece : List ℕ) (old new : DiskState) → Writes at piece old new → StaysTold old new
told-writes at piece old new writes is =
    ap is_some writes.content ∙ mapped-told (written at piece) old.content is

pub told-torn : (at n : ℕ) (old new : DiskState) → FailsToWrite at n old new → StaysTold old new
told-torn at n old new fails = also-told (Torn at n) old.content new.content fails.content

-- a call that was done
pub done_so : {E P : Type 0} (result : Result (Unit {0}) E) → true ≡ is_ok result → OnOk result P → P
done_so (Ok x) is given = given
done_so (Err e) is given = absurd (cc (is))
