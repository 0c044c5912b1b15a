-- What is out after calls.
use Rattle.std.proofs.Common.{◌≡◌, ◌<◌, ◌+◌, ◌-◌, ℕ, Bool, true, false, List, [], ◌∷◌, ◌++◌, length, replicate, refl, sym, ap, arith, ◌⊎◌, inl, inr, suc, zero, ◌∙◌}
use Rattle.std.specs.Prelude.{IfSome, Option, None, Some, if◌then◌else◌}
use Rattle.std.proofs.lemmas.Bool.{cases_Bool}
use Rattle.plain_laws.specs.Bytes.{bytes_eq-is}
use Rattle.host.specs.Hosts.{HostCall, Thing, ADisk, AFile, ADoor, APort, DiskOut, DiskRefused, DiskBack, FileOut, FileRefused, FileBack, DoorsOut, DoorsRefused, DoorBack, PortOut, PortRefused, PortBack, handed, noted, out, one_if, returned}
use Rattle.host.specs.Memory.{is_same, without, things_out}

pub same_thing : (thing other : Thing) → is_same thing other ≡ true → thing ≡ other
same_thing (ADisk name) (ADisk other) same = ap ADisk (bytes_eq-is name other same)
same_thing (AFile name) (AFile other) same = ap AFile (bytes_eq-is name other same)
same_thing ADoor ADoor same = refl
same_thing (APort name) (APort other) same = ap APort (bytes_eq-is name other same)
same_thing (ADisk name) (AFile other) same = cc
same_thing (ADisk name) ADoor same = cc
same_thing (AFile name) (ADisk other) same = cc
same_thing (AFile name) ADoor same = cc
same_thing ADoor (ADisk other) same = cc
same_thing ADoor (AFile other) same = cc
same_thing (ADisk name) (APort other) same = cc
same_thing (AFile name) (APort other) same = cc
same_thing ADoor (APort other) same = cc
same_thing (APort name) (ADisk other) same = cc
same_thing (APort name) (AFile other) same = cc
same_thing (APort name) ADoor same = cc

-- how often a thing stands among others
abbrev pub times : Thing → List Thing → ℕ
times thing [] = 0
times thing (first ∷ rest) = times thing rest + one_if (is_same thing first)

-- what is the same as a thing is the same as what that is the same as
same_along : (thing gone first : Thing) → is_same gone first ≡ true
    → is_same thing gone ≡ is_same thing first
same_along thing gone first same = ap (is_same thing) (same_thing gone first same)

-- a thing is no two that differ
differs : (thing gone first : Thing) → is_same gone first ≡ false → is_same thing gone ≡ true
    → is_same thing first ≡ false
differs thing gone first other same = by (cases_Bool (is_same thing first))
  where
    by : (is_same thing first ≡ true) ⊎ (is_same thing first ≡ false) → is_same thing first ≡ false
    by (inr unlike) = unlike
    by (inl like) =
        let e : gone ≡ thing = sym (same_thing thing gone same) in
        let f : is_same gone first ≡ true = rw e like in
        let no : true ≡ false = sym f ∙ other in
        cc

pub times-without : (thing gone : Thing) (things : List Thing)
    → times thing (without gone things) ≡ times thing things - one_if (is_same thing gone)
times-without thing gone [] = omega arith
times-without thing gone (first ∷ rest) =
    by (times-without thing gone rest) (cases_Bool (is_same gone first)) (cases_Bool (is_same thing gone))
  where
    by : times thing (without gone rest) ≡ times thing rest - one_if (is_same thing gone)
        → (is_same gone first ≡ true) ⊎ (is_same gone first ≡ false)
        → (is_same thing gone ≡ true) ⊎ (is_same thing gone ≡ false)
        → times thing (if is_same gone first then rest else first ∷ without gone rest)
        ≡ times thing rest + one_if (is_same thing first) - one_if (is_same thing gone)
    by earlier (inl same) _ = rw (same, same_along thing gone first same) (omega arith)
    by earlier (inr other) (inl like) = rw (other, differs thing gone first other like, earlier, like) (omega arith)
    by earlier (inr other) (inr unlike) = rw (other, earlier, unlike) (omega arith)

pub length-without : (thing : Thing) (things : List Thing) → 0 < times thing things
    → length things ≡ length (without thing things) + 1
length-without thing [] some = absurd (omega (arith, some))
length-without thing (first ∷ rest) some = by (length-without thing rest) (cases_Bool (is_same thing first))
  where
    by : (0 < times thing rest → length rest ≡ length (without thing rest) + 1)
        → (is_same thing first ≡ true) ⊎ (is_same thing first ≡ false)
        → length (first ∷ rest) ≡ length (if is_same thing first then rest else first ∷ without thing rest) + 1
    by earlier (inl same) = rw same (omega arith)
    by earlier (inr other) =
        let some' : 0 < times thing rest = omega (arith, (rw other at some)) in
        let e = earlier some' in
        rw other (omega (arith, e))

pub times-doors : (n : ℕ) (thing : Thing) (things : List Thing)
    → times thing (replicate n ADoor ++ things)
    ≡ times thing things + (if is_same thing ADoor then n else 0)
times-doors zero thing things = by (is_same thing ADoor)
  where
    by : (same : Bool) → times thing things ≡ times thing things + (if same then 0 else 0)
    by true = omega arith
    by false = omega arith
times-doors (suc n) thing things = by (times-doors n thing things) (cases_Bool (is_same thing ADoor))
  where
    by : times thing (replicate n ADoor ++ things) ≡ times thing things + (if is_same thing ADoor then n else 0)
        → (is_same thing ADoor ≡ true) ⊎ (is_same thing ADoor ≡ false)
        → times thing (replicate n ADoor ++ things) + one_if (is_same thing ADoor)
        ≡ times thing things + (if is_same thing ADoor then suc n else 0)
    by earlier (inl same) = rw (earlier, same) (omega arith)
    by earlier (inr other) = rw (earlier, other) (omega arith)

-- what is out stands among the things so often
pub times-out : (thing : Thing) (calls : List HostCall)
    → times thing (things_out calls) ≡ out thing calls
times-out thing [] = refl
times-out (ADisk n) (DiskOut name ∷ calls) = rw (times-out (ADisk n) calls) (omega arith)
times-out (AFile n) (DiskOut name ∷ calls) = rw (times-out (AFile n) calls) (omega arith)
times-out ADoor (DiskOut name ∷ calls) = rw (times-out ADoor calls) (omega arith)
times-out (APort n) (DiskOut name ∷ calls) = rw (times-out (APort n) calls) (omega arith)
times-out (ADisk n) (DiskBack name ∷ calls) = rw (times-without (ADisk n) (ADisk name) (things_out calls), times-out (ADisk n) calls) (omega arith)
times-out (AFile n) (DiskBack name ∷ calls) = rw (times-without (AFile n) (ADisk name) (things_out calls), times-out (AFile n) calls) (omega arith)
times-out ADoor (DiskBack name ∷ calls) = rw (times-without ADoor (ADisk name) (things_out calls), times-out ADoor calls) (omega arith)
times-out (APort n) (DiskBack name ∷ calls) = rw (times-without (APort n) (ADisk name) (things_out calls), times-out (APort n) calls) (omega arith)
times-out (ADisk n) (FileOut name ∷ calls) = rw (times-out (ADisk n) calls) (omega arith)
times-out (AFile n) (FileOut name ∷ calls) = rw (times-out (AFile n) calls) (omega arith)
times-out ADoor (FileOut name ∷ calls) = rw (times-out ADoor calls) (omega arith)
times-out (APort n) (FileOut name ∷ calls) = rw (times-out (APort n) calls) (omega arith)
times-out (ADisk n) (FileBack name file ∷ calls) = rw (times-without (ADisk n) (AFile name) (things_out calls), times-out (ADisk n) calls) (omega arith)
times-out (AFile n) (FileBack name file ∷ calls) = rw (times-without (AFile n) (AFile name) (things_out calls), times-out (AFile n) calls) (omega arith)
times-out ADoor (FileBack name file ∷ calls) = rw (times-without ADoor (AFile name) (things_out calls), times-out ADoor calls) (omega arith)
times-out (APort n) (FileBack name file ∷ calls) = rw (times-without (APort n) (AFile name) (things_out calls), times-out (APort n) calls) (omega arith)
times-out (ADisk n) (DoorsOut a r c ∷ calls) = rw (times-doors r (ADisk n) (things_out calls), times-out (ADisk n) calls) (omega arith)
times-out (AFile n) (DoorsOut a r c ∷ calls) = rw (times-doors r (AFile n) (things_out calls), times-out (AFile n) calls) (omega arith)
times-out ADoor (DoorsOut a r c ∷ calls) = rw (times-doors r ADoor (things_out calls), times-out ADoor calls) (omega arith)
times-out (APort n) (DoorsOut a r c ∷ calls) = rw (times-doors r (APort n) (things_out calls), times-out (APort n) calls) (omega arith)
times-out (ADisk n) (DoorBack door ∷ calls) = rw (times-without (ADisk n) ADoor (things_out calls), times-out (ADisk n) calls) (omega arith)
times-out (AFile n) (DoorBack door ∷ calls) = rw (times-without (AFile n) ADoor (things_out calls), times-out (AFile n) calls) (omega arith)
times-out ADoor (DoorBack door ∷ calls) = rw (times-without ADoor ADoor (things_out calls), times-out ADoor calls) (omega arith)
times-out (APort n) (DoorBack door ∷ calls) = rw (times-without (APort n) ADoor (things_out calls), times-out (APort n) calls) (omega arith)
times-out (ADisk n) (PortOut name ∷ calls) = rw (times-out (ADisk n) calls) (omega arith)
times-out (AFile n) (PortOut name ∷ calls) = rw (times-out (AFile n) calls) (omega arith)
times-out ADoor (PortOut name ∷ calls) = rw (times-out ADoor calls) (omega arith)
times-out (APort n) (PortOut name ∷ calls) = rw (times-out (APort n) calls) (omega arith)
times-out (ADisk n) (PortBack name ∷ calls) = rw (times-without (ADisk n) (APort name) (things_out calls), times-out (ADisk n) calls) (omega arith)
times-out (AFile n) (PortBack name ∷ calls) = rw (times-without (AFile n) (APort name) (things_out calls), times-out (AFile n) calls) (omega arith)
times-out ADoor (PortBack name ∷ calls) = rw (times-without ADoor (APort name) (things_out calls), times-out ADoor calls) (omega arith)
times-out (APort n) (PortBack name ∷ calls) = rw (times-without (APort n) (APort name) (things_out calls), times-out (APort n) calls) (omega arith)
times-out (ADisk n) (DiskRefused name ∷ calls) = rw (times-out (ADisk n) calls) (omega arith)
times-out (AFile n) (DiskRefused name ∷ calls) = rw (times-out (AFile n) calls) (omega arith)
times-out ADoor (DiskRefused name ∷ calls) = rw (times-out ADoor calls) (omega arith)
times-out (APort n) (DiskRefused name ∷ calls) = rw (times-out (APort n) calls) (omega arith)
times-out (ADisk n) (FileRefused name ∷ calls) = rw (times-out (ADisk n) calls) (omega arith)
times-out (AFile n) (FileRefused name ∷ calls) = rw (times-out (AFile n) calls) (omega arith)
times-out ADoor (FileRefused name ∷ calls) = rw (times-out ADoor calls) (omega arith)
times-out (APort n) (FileRefused name ∷ calls) = rw (times-out (APort n) calls) (omega arith)
times-out (ADisk n) (DoorsRefused a r c ∷ calls) = rw (times-out (ADisk n) calls) (omega arith)
times-out (AFile n) (DoorsRefused a r c ∷ calls) = rw (times-out (AFile n) calls) (omega arith)
times-out ADoor (DoorsRefused a r c ∷ calls) = rw (times-out ADoor calls) (omega arith)
times-out (APort n) (DoorsRefused a r c ∷ calls) = rw (times-out (APort n) calls) (omega arith)
times-out (ADisk n) (PortRefused name ∷ calls) = rw (times-out (ADisk n) calls) (omega arith)
times-out (AFile n) (PortRefused name ∷ calls) = rw (times-out (AFile n) calls) (omega arith)
times-out ADoor (PortRefused name ∷ calls) = rw (times-out ADoor calls) (omega arith)
times-out (APort n) (PortRefused name ∷ calls) = rw (times-out (APort n) calls) (omega arith)

-- ---- what was handed out

pub out_is : (thing : Thing) (call : HostCall) (before after : Option (List HostCall))
    → after ≡ noted call before → 0 < handed thing call → returned thing call ≡ 0
    → IfSome after (λ calls. 0 < out thing calls)
out_is thing call None after is some none = rw is tt
out_is thing call (Some calls) after is some none = rw is (omega (arith, some, none))
