-- What is kept of a host in memory, over one call.
use Rattle.std.proofs.Common.{◌≡◌, ◌≤◌, ◌<◌, ◌+◌, ◌-◌, ℕ, true, false, List, [], ◌∷◌, ◌++◌, length, length-append, get_or, set, map, reverse, replicate, Option, None, Some, IsSome, refl, sym, ap, ◌∙◌, subst, arith, ◌⊎◌, inl, inr}
use Rattle.std.specs.Prelude.{IfSome}
use Rattle.std.specs.Str.{bytes_eq}
use Rattle.std.proofs.lemmas.Bool.{cases_Bool}
use Rattle.std.proofs.lemmas.Grind.{common_steps}
use Rattle.std.proofs.lemmas.List.{reverse-append}
use Rattle.plain_laws.specs.Bytes.{bytes_eq-is}
use Rattle.outside.specs.Doors.{Connections}
use Rattle.outside.specs.Stream.{Rises, Stream}
use Rattle.outside.specs.Ports.{MemoryPort}
use Rattle.disk_model.specs.Memory.{MemoryDisk}
use Rattle.host.specs.declared.memory.Named.{Named}
use Rattle.host.specs.declared.memory.MemCall.{MemCall}
use Rattle.host.specs.declared.memory.MemCall.TheVariants as mem
use Rattle.host.specs.Hosts.{HostCall, Thing, ADisk, AFile, ADoor, APort, DiskOut, DiskBack, FileOut, FileBack, DoorsOut, DoorBack, PortOut, PortBack, IsOut, MayNote, out, one_if}
use Rattle.host.specs.declared.memory.MemAddress.{MemAddress}
use Rattle.host.specs.Memory.{IsKept, IsRefusalOf, MemoryHost, NotesOrNot, Stock, call_of, calls_of, host_of, names_in, place_in, things_out, without}
use Rattle.host.proofs.Places.{names-set, place-set}
use Rattle.host.proofs.Things.{length-without, times-out}

-- ---- calls, the newest first

pub calls_of-push : (stock : Stock) (calls items : List MemCall) (call : MemCall)
    → items ≡ calls ++ call ∷ []
    → calls_of stock items ≡ call_of (names_in stock) call ∷ calls_of stock calls
calls_of-push stock calls items call is = rw is (grind (arith, common_steps, reverse-append))

-- ---- what is out has a place

known_more : {T : Type 0} (slots : List (Named T)) (name other : List ℕ) (before : ℕ) (i : ℕ)
    → (0 < before → IsSome (place_in other slots)) → place_in name slots ≡ Some i
    → 0 < before + one_if (bytes_eq other name) → IsSome (place_in other slots)
known_more slots name other before i known at some = by (cases_Bool (bytes_eq other name))
  where
    by : (bytes_eq other name ≡ true) ⊎ (bytes_eq other name ≡ false) → IsSome (place_in other slots)
    by (inl same) = subst (λ (n : List ℕ). IsSome (place_in n slots)) (sym (bytes_eq-is other name same)) (rw at refl)
    by (inr unlike) = known (omega (arith, (rw unlike at some)))

pub kept_disk_out : (stock : Stock) (calls : List HostCall) (out size room size' room' i : ℕ) (name : List ℕ)
    → IsKept stock calls out size room → place_in name stock.disks ≡ Some i → size' + (out + 1) ≤ room'
    → IsKept stock (DiskOut name ∷ calls) (out + 1) size' room'
kept_disk_out stock calls out size room size' room' i name kept at fits = record {
  out_is = omega (arith, kept.out_is);
  room = fits;
  disks = λ other some. known_more stock.disks name other _ i (kept.disks other) at (omega (arith, some));
  files = λ other some. kept.files other (omega (arith, some));
  ports = λ other some. kept.ports other (omega (arith, some));
}

pub kept_file_out : (stock : Stock) (calls : List HostCall) (out size room size' room' i : ℕ) (name : List ℕ)
    → IsKept stock calls out size room → place_in name stock.files ≡ Some i → size' + (out + 1) ≤ room'
    → IsKept stock (FileOut name ∷ calls) (out + 1) size' room'
kept_file_out stock calls out size room size' room' i name kept at fits = record {
  out_is = omega (arith, kept.out_is);
  room = fits;
  disks = λ other some. kept.disks other (omega (arith, some));
  files = λ other some. known_more stock.files name other _ i (kept.files other) at (omega (arith, some));
  ports = λ other some. kept.ports other (omega (arith, some));
}

pub kept_port_out : (stock : Stock) (calls : List HostCall) (out size room size' room' i : ℕ) (name : List ℕ)
    → IsKept stock calls out size room → place_in name stock.ports ≡ Some i → size' + (out + 1) ≤ room'
    → IsKept stock (PortOut name ∷ calls) (out + 1) size' room'
kept_port_out stock calls out size room size' room' i name kept at fits = record {
  out_is = omega (arith, kept.out_is);
  room = fits;
  disks = λ other some. kept.disks other (omega (arith, some));
  files = λ other some. kept.files other (omega (arith, some));
  ports = λ other some. known_more stock.ports name other _ i (kept.ports other) at (omega (arith, some));
}

length-doors : (n : ℕ) (things : List Thing) → length (replicate n ADoor ++ things) ≡ n + length things
length-doors n things = grind (arith, common_steps, length-append)

pub kept_doors_out : (stock : Stock) (calls : List HostCall) (out size room size' room' readers connections : ℕ) (address : List ℕ)
    → IsKept stock calls out size room → size' + (out + readers) ≤ room'
    → IsKept stock (DoorsOut address readers connections ∷ calls) (out + readers) size' room'
kept_doors_out stock calls out size room size' room' readers connections address kept fits = record {
  out_is = omega (arith, kept.out_is, length-doors readers (things_out calls));
  room = fits;
  disks = λ other some. kept.disks other (omega (arith, some));
  files = λ other some. kept.files other (omega (arith, some));
  ports = λ other some. kept.ports other (omega (arith, some));
}

pub kept_room : (stock : Stock) (calls : List HostCall) (out size room size' room' : ℕ)
    → IsKept stock calls out size room → size' + out ≤ room' → IsKept stock calls out size' room'
kept_room stock calls out size room size' room' kept fits = record {
  out_is = kept.out_is;
  room = fits;
  disks = kept.disks;
  files = kept.files;
  ports = kept.ports;
}

-- one of the things is out, so some are
pub some_out : (stock : Stock) (calls : List HostCall) (number size room : ℕ) (thing : Thing)
    → IsKept stock calls number size room → 0 < out thing calls
    → number ≡ length (without thing (things_out calls)) + 1
some_out stock calls number size room thing kept some =
    kept.out_is ∙ length-without thing (things_out calls) (rw (times-out thing calls) some)

-- what the state of a host has out, its calls have out
pub out_before : (thing : Thing) (inside value : MemoryHost) → inside ≡ value → IsOut thing (host_of value)
    → 0 < out thing (calls_of inside.stock inside.calls)
out_before thing inside value same is_out = subst (λ (m : MemoryHost). IsOut thing (host_of m)) (sym same) is_out

pub some_out_before : (thing : Thing) (inside value : MemoryHost) → inside ≡ value → IsOut thing (host_of value) → (number size room : ℕ)
    → IsKept inside.stock (calls_of inside.stock inside.calls) number size room
    → number ≡ length (without thing (things_out (calls_of inside.stock inside.calls))) + 1
some_out_before thing inside value same is_out number size room kept =
    some_out inside.stock (calls_of inside.stock inside.calls) number size room thing kept (out_before thing inside value same is_out)

pub kept_disk_back : (stock : Stock) (calls : List HostCall) (number size room size' room' : ℕ) (name : List ℕ)
    → IsKept stock calls number size room → 0 < out (ADisk name) calls → size' + (number - 1) ≤ room'
    → IsKept stock (DiskBack name ∷ calls) (number - 1) size' room'
kept_disk_back stock calls number size room size' room' name kept some fits = record {
  out_is = omega (arith, some_out stock calls number size room (ADisk name) kept some);
  room = fits;
  disks = λ other more. kept.disks other (omega (arith, more));
  files = λ other more. kept.files other (omega (arith, more));
  ports = λ other more. kept.ports other (omega (arith, more));
}

pub kept_file_back : (stock : Stock) (calls : List HostCall) (number size room size' room' : ℕ) (name : List ℕ) (file : Stream)
    → IsKept stock calls number size room → 0 < out (AFile name) calls → size' + (number - 1) ≤ room'
    → IsKept stock (FileBack name file ∷ calls) (number - 1) size' room'
kept_file_back stock calls number size room size' room' name file kept some fits = record {
  out_is = omega (arith, some_out stock calls number size room (AFile name) kept some);
  room = fits;
  disks = λ other more. kept.disks other (omega (arith, more));
  files = λ other more. kept.files other (omega (arith, more));
  ports = λ other more. kept.ports other (omega (arith, more));
}

pub kept_door_back : (stock : Stock) (calls : List HostCall) (number size room size' room' : ℕ) (door : Connections)
    → IsKept stock calls number size room → 0 < out ADoor calls → size' + (number - 1) ≤ room'
    → IsKept stock (DoorBack door ∷ calls) (number - 1) size' room'
kept_door_back stock calls number size room size' room' door kept some fits = record {
  out_is = omega (arith, some_out stock calls number size room ADoor kept some);
  room = fits;
  disks = λ other more. kept.disks other (omega (arith, more));
  files = λ other more. kept.files other (omega (arith, more));
  ports = λ other more. kept.ports other (omega (arith, more));
}

pub kept_port_back : (stock : Stock) (calls : List HostCall) (number size room size' room' : ℕ) (name : List ℕ)
    → IsKept stock calls number size room → 0 < out (APort name) calls → size' + (number - 1) ≤ room'
    → IsKept stock (PortBack name ∷ calls) (number - 1) size' room'
kept_port_back stock calls number size room size' room' name kept some fits = record {
  out_is = omega (arith, some_out stock calls number size room (APort name) kept some);
  room = fits;
  disks = λ other more. kept.disks other (omega (arith, more));
  files = λ other more. kept.files other (omega (arith, more));
  ports = λ other more. kept.ports other (omega (arith, more));
}

-- ---- another thing stands under a name

pub calls_of-disks : (stock : Stock) (calls : List MemCall) (i : ℕ) (new d : Named (Option MemoryDisk))
    → new.name ≡ (get_or stock.disks i d).name
    → calls_of (record stock { disks = set stock.disks i new }) calls ≡ calls_of stock calls
calls_of-disks stock calls i new d same =
    ap (λ (disks : List (List ℕ)). reverse (map (call_of (record (names_in stock) { disks = disks })) calls))
    (names-set stock.disks i new d same)

pub kept_disks : (stock : Stock) (calls : List HostCall) (out size room i : ℕ) (new d : Named (Option MemoryDisk))
    → new.name ≡ (get_or stock.disks i d).name → IsKept stock calls out size room
    → IsKept (record stock { disks = set stock.disks i new }) calls out size room
kept_disks stock calls out size room i new d same kept = record {
  out_is = kept.out_is;
  room = kept.room;
  disks = λ other some. rw (place-set other stock.disks i new d same) (kept.disks other some);
  files = kept.files;
  ports = kept.ports;
}

pub calls_of-ports : (stock : Stock) (calls : List MemCall) (i : ℕ) (new d : Named (Option MemoryPort))
    → new.name ≡ (get_or stock.ports i d).name
    → calls_of (record stock { ports = set stock.ports i new }) calls ≡ calls_of stock calls
calls_of-ports stock calls i new d same =
    ap (λ (ports : List (List ℕ)). reverse (map (call_of (record (names_in stock) { ports = ports })) calls))
    (names-set stock.ports i new d same)

pub kept_ports : (stock : Stock) (calls : List HostCall) (out size room i : ℕ) (new d : Named (Option MemoryPort))
    → new.name ≡ (get_or stock.ports i d).name → IsKept stock calls out size room
    → IsKept (record stock { ports = set stock.ports i new }) calls out size room
kept_ports stock calls out size room i new d same kept = record {
  out_is = kept.out_is;
  room = kept.room;
  disks = kept.disks;
  files = kept.files;
  ports = λ other some. rw (place-set other stock.ports i new d same) (kept.ports other some);
}

pub calls_of-addresses : (stock : Stock) (calls : List MemCall) (i : ℕ) (new d : Named (Option MemAddress))
    → new.name ≡ (get_or stock.addresses i d).name
    → calls_of (record stock { addresses = set stock.addresses i new }) calls ≡ calls_of stock calls
calls_of-addresses stock calls i new d same =
    ap (λ (names : List (List ℕ)). reverse (map (call_of (record (names_in stock) { addresses = names })) calls))
    (names-set stock.addresses i new d same)

pub kept_addresses : (stock : Stock) (calls : List HostCall) (out size room : ℕ) (new : List (Named (Option MemAddress)))
    → IsKept stock calls out size room → IsKept (record stock { addresses = new }) calls out size room
kept_addresses stock calls out size room new kept = record {
  out_is = kept.out_is;
  room = kept.room;
  disks = kept.disks;
  files = kept.files;
  ports = kept.ports;
}

-- ---- refusals

pub noted_refusal : (s : Stock) (is : HostCall) (call : MemCall) → IsRefusalOf is call → call_of (names_in s) call ≡ is
noted_refusal s is (mem.DiskRefused name) refusal = sym refusal
noted_refusal s is (mem.FileRefused name) refusal = sym refusal
noted_refusal s is (mem.DoorsRefused name r c) refusal = sym refusal
noted_refusal s is (mem.PortRefused name) refusal = sym refusal
noted_refusal s is (mem.DiskOut i) refusal = absurd refusal
noted_refusal s is (mem.DiskBack i) refusal = absurd refusal
noted_refusal s is (mem.FileOut i) refusal = absurd refusal
noted_refusal s is (mem.FileBack i file) refusal = absurd refusal
noted_refusal s is (mem.DoorsOut i r c) refusal = absurd refusal
noted_refusal s is (mem.DoorBack door) refusal = absurd refusal
noted_refusal s is (mem.PortOut i) refusal = absurd refusal
noted_refusal s is (mem.PortBack i) refusal = absurd refusal

kept_by : (s : Stock) (calls : List HostCall) (number size room : ℕ) (is : HostCall) (call : MemCall) → IsRefusalOf is call
    → IsKept s calls number size room → IsKept s (call_of (names_in s) call ∷ calls) number size room
kept_by s calls number size room is (mem.DiskRefused name) refusal kept = record { out_is = kept.out_is; room = kept.room; disks = λ n some. kept.disks n (omega (arith, some)); files = λ n some. kept.files n (omega (arith, some)); ports = λ n some. kept.ports n (omega (arith, some)) }
kept_by s calls number size room is (mem.FileRefused name) refusal kept = record { out_is = kept.out_is; room = kept.room; disks = λ n some. kept.disks n (omega (arith, some)); files = λ n some. kept.files n (omega (arith, some)); ports = λ n some. kept.ports n (omega (arith, some)) }
kept_by s calls number size room is (mem.DoorsRefused name r c) refusal kept = record { out_is = kept.out_is; room = kept.room; disks = λ n some. kept.disks n (omega (arith, some)); files = λ n some. kept.files n (omega (arith, some)); ports = λ n some. kept.ports n (omega (arith, some)) }
kept_by s calls number size room is (mem.PortRefused name) refusal kept = record { out_is = kept.out_is; room = kept.room; disks = λ n some. kept.disks n (omega (arith, some)); files = λ n some. kept.files n (omega (arith, some)); ports = λ n some. kept.ports n (omega (arith, some)) }
kept_by s calls number size room is (mem.DiskOut i) refusal kept = absurd refusal
kept_by s calls number size room is (mem.DiskBack i) refusal kept = absurd refusal
kept_by s calls number size room is (mem.FileOut i) refusal kept = absurd refusal
kept_by s calls number size room is (mem.FileBack i file) refusal kept = absurd refusal
kept_by s calls number size room is (mem.DoorsOut i r c) refusal kept = absurd refusal
kept_by s calls number size room is (mem.DoorBack door) refusal kept = absurd refusal
kept_by s calls number size room is (mem.PortOut i) refusal kept = absurd refusal
kept_by s calls number size room is (mem.PortBack i) refusal kept = absurd refusal

pub kept_refused : (s : Stock) (calls items : List MemCall) (number size room size' room' : ℕ) (is : HostCall) (call : Option MemCall)
    → IsKept s (calls_of s calls) number size room → IfSome call (IsRefusalOf is) → NotesOrNot call calls items → size' + number ≤ room'
    → IsKept s (calls_of s items) number size' room'
kept_refused s calls items number size room size' room' is None kept refusal same fits =
    rw same (kept_room s (calls_of s calls) number size room size' room' kept fits)
kept_refused s calls items number size room size' room' is (Some call) kept refusal (inr same) fits =
    rw same (kept_room s (calls_of s calls) number size room size' room' kept fits)
kept_refused s calls items number size room size' room' is (Some call) kept refusal (inl noted) fits =
    rw (calls_of-push s calls items call noted)
    (kept_by s (calls_of s calls) number size' room' is call refusal
    (kept_room s (calls_of s calls) number size room size' room' kept fits))

may_note : (s : Stock) (calls items : List MemCall) (is : HostCall) (call : Option MemCall)
    → IfSome call (IsRefusalOf is) → NotesOrNot call calls items
    → MayNote is (Some (calls_of s calls)) (Some (calls_of s items))
may_note s calls items is None refusal same = inr (rw same refl)
may_note s calls items is (Some call) refusal (inr same) = inr (rw same refl)
may_note s calls items is (Some call) refusal (inl noted) =
    inl (rw (calls_of-push s calls items call noted, noted_refusal s is call refusal) refl)

-- ---- the host after a refusal

pub record IsRefused (before after : MemoryHost) (is : HostCall) : Type 0 where
  pub rises : Rises before.counts.own after.counts.own
  pub calls : MayNote is (host_of before).calls (host_of after).calls
  pub rest : host_of after ≡ record (host_of before) { calls = (host_of after).calls; own_faults = after.counts.own }

pub is_refused : (before after : MemoryHost) (is : HostCall) (call : Option MemCall)
    → IfSome call (IsRefusalOf is) → Rises before.counts.own after.counts.own → NotesOrNot call before.calls after.calls
    → after ≡ record before { calls = after.calls; counts = record before.counts { own = after.counts.own } }
    → IsRefused before after is
is_refused before after is call refusal rises notes rest = record {
  rises = rises;
  calls = rw (ap (λ (m : MemoryHost). m.stock) rest) (may_note before.stock before.calls after.calls is call refusal notes);
  rest = rw (ap (λ (m : MemoryHost). m.stock) rest, ap (λ (m : MemoryHost). m.counts.disks) rest, ap (λ (m : MemoryHost). m.counts.files) rest, ap (λ (m : MemoryHost). m.counts.doors) rest, ap (λ (m : MemoryHost). m.counts.ports) rest) refl;
}
