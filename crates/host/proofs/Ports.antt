-- What a host in memory hands out and takes back as scratch files.
use Rattle.std.proofs.Common.{◌≡◌, ◌≤◌, ◌<◌, ◌+◌, ◌-◌, ℕ, List, [], ◌∷◌, ◌++◌, get_or, set, Option, None, Some, refl, sym, ap, ◌∙◌}
use Rattle.std.specs.Option.{option_map}
use Rattle.outside.specs.Ports.{Held, MemoryPort, cleared, scratch_of, size_of, told_of}
use Rattle.outside.specs.Ports.Held.{Bytes, Blank}
use Rattle.host.specs.declared.memory.Named.{Named}
use Rattle.host.specs.declared.memory.MemCall.{MemCall}
use Rattle.host.specs.declared.memory.MemCall.TheVariants as mem
use Rattle.host.specs.Hosts.{Counts, HandsPort, HostCall, APort, PortOut, PortBack, TakesPort, out, put}
use Rattle.host.specs.Memory.{IsKept, Stock, appended_of, call_of, calls_of, host_of, names_in, place_in, under}
use Rattle.host.specs.Real.{FaultCounts}
use Rattle.host.proofs.Keeping.{calls_of-ports, calls_of-push, kept_port_back, kept_port_out, kept_ports}
use Rattle.host.proofs.Places.{ext, is_first, name-at, under-at, under-set}

-- a call on the scratch file at a place, whose slot is another now
port_noted : (s : Stock) (calls items : List MemCall) (i : ℕ) (name : List ℕ) (slot new : Named (Option MemoryPort))
    (call : MemCall) (is : List ℕ → HostCall)
    → slot ≡ get_or s.ports i slot → new.name ≡ slot.name → place_in name s.ports ≡ Some i
    → items ≡ calls ++ call ∷ []
    → ((n : List ℕ) → n ≡ get_or (names_in s).ports i [] → is n ≡ call_of (names_in s) call)
    → calls_of (record s { ports = set s.ports i new }) items ≡ is name ∷ calls_of s calls
port_noted s calls items i name slot new call is slot_is same at items_is named =
    calls_of-ports s items i new slot (same ∙ ap (λ (x : Named (Option MemoryPort)). x.name) slot_is)
    ∙ (calls_of-push s calls items call items_is
    ∙ ap (λ (x : HostCall). x ∷ calls_of s calls)
    (sym (named name (sym (name-at name s.ports i (is_first name s.ports i at))))))

out_named : (s : Stock) (i : ℕ) (n : List ℕ) → n ≡ get_or (names_in s).ports i []
    → PortOut n ≡ call_of (names_in s) (mem.PortOut i)
out_named s i n is = ap PortOut is

back_named : (s : Stock) (i : ℕ) (n : List ℕ) → n ≡ get_or (names_in s).ports i []
    → PortBack n ≡ call_of (names_in s) (mem.PortBack i)
back_named s i n is = ap PortBack is

pub kept_port_lent : (s : Stock) (calls items : List MemCall) (number size room size' room' i : ℕ) (name : List ℕ)
    (slot new : Named (Option MemoryPort))
    → IsKept s (calls_of s calls) number size room → slot ≡ get_or s.ports i slot → new.name ≡ slot.name
    → place_in name s.ports ≡ Some i → items ≡ calls ++ mem.PortOut i ∷ [] → size' + (number + 1) ≤ room'
    → let after = record s { ports = set s.ports i new } in IsKept after (calls_of after items) (number + 1) size' room'
kept_port_lent s calls items number size room size' room' i name slot new kept slot_is same at items_is fits =
    let e = port_noted s calls items i name slot new (mem.PortOut i) PortOut slot_is same at items_is (out_named s i) in
    let same' = same ∙ ap (λ (x : Named (Option MemoryPort)). x.name) slot_is in
    rw e (kept_ports s (PortOut name ∷ calls_of s calls) (number + 1) size' room' i new slot same'
    (kept_port_out s (calls_of s calls) number size room size' room' i name kept at fits))

-- what is dropped is told as nothing, where it was told, and is nothing
told-cleared : (held : Held) → told_of (cleared held) ≡ option_map (λ _. []) (told_of held)
told-cleared (Bytes bytes) = refl
told-cleared (Blank size) = refl

size-cleared : (held : Held) → size_of (cleared held) ≡ 0
size-cleared (Bytes bytes) = refl
size-cleared (Blank size) = refl

pub hands_port : (s : Stock) (calls items : List MemCall) (counts : FaultCounts) (i : ℕ) (name : List ℕ)
    (slot new : Named (Option MemoryPort)) (stood port : MemoryPort)
    → slot ≡ get_or s.ports i slot → new.name ≡ slot.name → slot.it ≡ Some stood → stood.faults ≡ 0 → new.it ≡ None
    → port ≡ record stood { held = cleared stood.held }
    → place_in name s.ports ≡ Some i → items ≡ calls ++ mem.PortOut i ∷ []
    → HandsPort name (scratch_of port) (host_of (record { stock = s; calls = calls; counts = counts }))
    (host_of (record { stock = record s { ports = set s.ports i new }; calls = items; counts = counts }))
hands_port s calls items counts i name slot new stood port slot_is same it_is faultless none port_is at items_is =
    let first = is_first name s.ports i at in
    let same' = same ∙ ap (λ (x : Named (Option MemoryPort)). x.name) slot_is in
    let e = port_noted s calls items i name slot new (mem.PortOut i) PortOut slot_is same at items_is (out_named s i) in
    let d = ext (under None appended_of (set s.ports i new)) (put name (appended_of new.it) (under None appended_of s.ports))
    (under-set None appended_of name s.ports i new slot first same') in
    let told : under None appended_of s.ports name ≡ told_of stood.held =
    under-at None appended_of name s.ports i slot first
    ∙ (ap (λ (x : Named (Option MemoryPort)). appended_of x.it) (sym slot_is) ∙ ap appended_of it_is) in
    record {
      told = ap (λ (p : MemoryPort). told_of p.held) port_is
          ∙ (told-cleared stood.held ∙ ap (option_map (λ _. [])) (sym told));
      empty = ap (λ (p : MemoryPort). size_of p.held) port_is ∙ size-cleared stood.held;
      faultless = ap (λ (p : MemoryPort). p.faults) port_is ∙ faultless;
      rest = rw (e, d, none) refl;
    }

pub kept_port_returned : (s : Stock) (calls items : List MemCall) (number size room size' room' i : ℕ) (name : List ℕ)
    (slot new : Named (Option MemoryPort))
    → IsKept s (calls_of s calls) number size room → slot ≡ get_or s.ports i slot → new.name ≡ slot.name
    → place_in name s.ports ≡ Some i → items ≡ calls ++ mem.PortBack i ∷ []
    → 0 < out (APort name) (calls_of s calls) → size' + (number - 1) ≤ room'
    → let after = record s { ports = set s.ports i new } in IsKept after (calls_of after items) (number - 1) size' room'
kept_port_returned s calls items number size room size' room' i name slot new kept slot_is same at items_is some fits =
    let e = port_noted s calls items i name slot new (mem.PortBack i) PortBack slot_is same at items_is (back_named s i) in
    let same' = same ∙ ap (λ (x : Named (Option MemoryPort)). x.name) slot_is in
    rw e (kept_ports s (PortBack name ∷ calls_of s calls) (number - 1) size' room' i new slot same'
    (kept_port_back s (calls_of s calls) number size room size' room' name kept some fits))

pub takes_port : (s : Stock) (calls items : List MemCall) (counts counts' : FaultCounts) (i : ℕ) (name : List ℕ)
    (slot new : Named (Option MemoryPort)) (port : MemoryPort)
    → slot ≡ get_or s.ports i slot → new.name ≡ slot.name → new.it ≡ Some port
    → place_in name s.ports ≡ Some i → items ≡ calls ++ mem.PortBack i ∷ []
    → Counts port.faults counts.ports counts'.ports → counts' ≡ record counts { ports = counts'.ports }
    → TakesPort name (scratch_of port) (host_of (record { stock = s; calls = calls; counts = counts }))
    (host_of (record { stock = record s { ports = set s.ports i new }; calls = items; counts = counts' }))
takes_port s calls items counts counts' i name slot new port slot_is same it_is at items_is counted rest =
    let first = is_first name s.ports i at in
    let same' = same ∙ ap (λ (x : Named (Option MemoryPort)). x.name) slot_is in
    let e = port_noted s calls items i name slot new (mem.PortBack i) PortBack slot_is same at items_is (back_named s i) in
    let d = ext (under None appended_of (set s.ports i new)) (put name (appended_of new.it) (under None appended_of s.ports))
    (under-set None appended_of name s.ports i new slot first same') in
    record {
      counts = counted;
      rest = rw (e, d, it_is, ap (λ (k : FaultCounts). k.own) rest, ap (λ (k : FaultCounts). k.disks) rest, ap (λ (k : FaultCounts). k.files) rest, ap (λ (k : FaultCounts). k.doors) rest) refl;
    }
