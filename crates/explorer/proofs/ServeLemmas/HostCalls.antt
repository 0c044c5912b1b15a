-- Calls of a host, one after another: what is out, and what comes back.
use Rattle.std.proofs.Common.{◌≡◌, ◌+◌, ◌<◌, ℕ, zero, suc, Bool, List, [], ◌∷◌, refl, ap, map, length, slice_index_or, arith}
use Rattle.std.specs.Prelude.{sum_by}
use Rattle.std.proofs.lemmas.Option.{IfSome_then}
use Rattle.plain_laws.specs.Bytes.{bytes_eq-self}
use Rattle.outside.specs.Doors.{Connections}
use Rattle.outside.specs.Stream.{Stream}
use Rattle.host.specs.Hosts.{ADoor, AFile, DoorBack, FileBack, HostState, IsOut, one_if, returned}
use Rattle.explorer.specs.Serve.Workers.{CanReturn, name_at}

-- the name at a place of texts
pub name_is : {A : Type 0} (text : A → List ℕ) (xs : List A) (i : ℕ) (d : A) → i < length (map text xs)
    → name_at (map text xs) i ≡ text (slice_index_or xs i d)
name_is text [] i d below = absurd (omega arith)
name_is text (x ∷ xs) zero d below = refl
name_is text (x ∷ xs) (suc i) d below = name_is text xs i d (omega arith)

returned_file : (name : List ℕ) (file : Stream) → sum_by (returned (AFile name)) (FileBack name file ∷ []) ≡ 1
returned_file name file = ap (λ (b : Bool). 0 + one_if b) (bytes_eq-self name)

pub file_is_out : (name : List ℕ) (file : Stream) (host : HostState) → CanReturn (FileBack name file ∷ []) host
    → IsOut (AFile name) host
file_is_out name file host can = IfSome_then host.calls {P = _} {Q = _} (can (AFile name))
    (λ earlier few. omega (arith, few, returned_file name file))

pub door_is_out : (door : Connections) (host : HostState) → CanReturn (DoorBack door ∷ []) host → IsOut ADoor host
door_is_out door host can = IfSome_then host.calls {P = _} {Q = _} (can ADoor) (λ earlier few. omega (arith, few))
