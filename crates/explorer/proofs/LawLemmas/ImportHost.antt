-- What becomes of a host that tells a disk and a file, where an import uses both and no call fails.
use Rattle.std.proofs.Common.{◌≡◌, ℕ, ◌<◌, ◌-◌, ◌^◌, Bool, true, false, List, Option, None, Some, refl, sym, ap, ◌∙◌, arith}
use Rattle.std.specs.Prelude.{if◌then◌else◌}
use Rattle.std.specs.Str.{bytes_eq}
use Rattle.import_run.proofs.LawLemmas.{no_rise}
use Rattle.plain_laws.specs.Bytes.{bytes_eq-is, bytes_eq-self}
use Rattle.disk_model.specs.Disk.{DiskState}
use Rattle.outside.specs.Stream.{Rises, Stream, source_alone}
use Rattle.host.specs.Hosts.{DiskBack, DiskOut, FileBack, FileOut, HostCall, HostState, noted, put}
use Rattle.explorer.specs.ImportStore.{LacksFile, UsesBoth}
use Rattle.explorer.proofs.StoreLemmas.{above}
use Rattle.explorer.proofs.LawLemmas.ToldStore.{left_by}

-- ---- a host with another disk

-- the last that is put under a name stands there
pub put_twice : (name : List ℕ) (first second : Option (List ℕ)) (disks : List ℕ → Option (List ℕ))
    → put name second (put name first disks) ≡ put name second disks
put_twice name first second disks = λ i other. once (bytes_eq other name) (disks other) i
  where
    once : (b : Bool) (stands : Option (List ℕ))
        → (if b then second else (if b then first else stands)) ≡ (if b then second else stands)
    once true stands = refl
    once false stands = refl

-- what is put under a name where it stood is no other
pub put_same : {A : Type 0} (name : List ℕ) (stood : List ℕ → A) → put name (stood name) stood ≡ stood
put_same {A} name stood = λ i other. same other (bytes_eq other name) refl i
  where
    same : (other : List ℕ) (b : Bool) → bytes_eq other name ≡ b → (if b then stood name else stood other) ≡ stood other
    same other true is = ap stood (sym (bytes_eq-is other name is))
    same other false is = refl

-- these are the calls, and this is the content under the name; nothing else is another
abbrev pub with_disk : List ℕ → Option (List HostCall) → Option (List ℕ) → HostState → HostState
with_disk store calls content before =
    record before { calls = calls; disks = put store content before.disks }

pub stands_there : (store : List ℕ) (content : Option (List ℕ)) (disks : List ℕ → Option (List ℕ))
    → put store content disks store ≡ content
stands_there store content disks =
    ap (λ (b : Bool). if b then content else disks store) (bytes_eq-self store)

abbrev pub OnlyDisk : List ℕ → HostState → HostState → Type 0
OnlyDisk store before after = after ≡ with_disk store after.calls (after.disks store) before

module _ (store : List ℕ) (calls : Option (List HostCall)) (content : Option (List ℕ)) (before after : HostState) (is : after ≡ with_disk store calls content before) where
  pub content_is : after.disks store ≡ content
  content_is = ap (λ (h : HostState). h.disks store) is ∙ stands_there store content before.disks

  pub only_disk : OnlyDisk store before after
  only_disk =
      let same_calls : after.calls ≡ calls = ap (λ (h : HostState). h.calls) is in
      is ∙ (λ i. with_disk store (sym same_calls i) (sym content_is i) before)

-- two hosts that came from one differ in their calls and in the disk alone
pub rest_alike : (store : List ℕ) (before after other : HostState) → OnlyDisk store before after → OnlyDisk store before other
    → other ≡ record after { calls = other.calls; disks = put store (other.disks store) after.disks }
rest_alike store before after other is also =
    let content = other.disks store in
    also ∙ (λ i. record before { calls = other.calls; disks = sym (put_twice store (after.disks store) content before.disks) i })
    ∙ (λ i. let h : HostState = sym is i in record h { calls = other.calls; disks = put store content h.disks })

pub left_only : (store : List ℕ) (content : Option (List ℕ)) (before : HostState)
    → left_by store content before ≡ with_disk store (left_by store content before).calls content before
left_only store content before =
    λ i. record before { calls = (left_by store content before).calls; disks = put_twice store None content before.disks i }

-- ---- a disk and a file

-- the calls of an import that gave the file back so
abbrev pub calls_behind : List ℕ → List ℕ → Stream → HostState → Option (List HostCall)
calls_behind store file back before =
    noted (DiskBack store) (noted (FileBack file back) (noted (FileOut file) (noted (DiskOut store) before.calls)))

abbrev handed_out : List ℕ → HostState → HostState
handed_out store before =
    record before { calls = noted (DiskOut store) before.calls; disks = put store None before.disks }

module _ (store file : List ℕ) (disk disk_after : DiskState) (source source_after : Stream) (before after : HostState) (uses : UsesBoth store file disk disk_after source source_after before after)
    (disks : after.disk_faults ≡ before.disk_faults) (files : after.file_faults ≡ before.file_faults) where
  taken_files : uses.taken.file_faults ≡ before.file_faults
  taken_files = sym (ap (λ (h : HostState). h.file_faults) uses.takes_disk.rest) ∙ files

  given_files : uses.given.file_faults ≡ before.file_faults
  given_files = ap (λ (h : HostState). h.file_faults) uses.hands_file.rest ∙ ap (λ (h : HostState). h.file_faults) uses.hands_disk.rest

  taken_disks : uses.taken.disk_faults ≡ before.disk_faults
  taken_disks =
      ap (λ (h : HostState). h.disk_faults) uses.takes_file.rest ∙ ap (λ (h : HostState). h.disk_faults) uses.hands_file.rest
      ∙ ap (λ (h : HostState). h.disk_faults) uses.hands_disk.rest

  pub source_is : (stream : List ℕ) → before.files file ≡ Some stream → source ≡ source_alone (Some stream) 0 0
  source_is stream told =
      uses.hands_file.stood ∙ ap (λ (o : Option (List ℕ)). source_alone o 0 0) (ap (λ (h : HostState). h.files file) uses.hands_disk.rest ∙ told)

  pub no_read_fails : before.file_faults < 2 ^ 64 - 1 → Rises source.read_faults source_after.read_faults → ⊥
  no_read_fails low rises =
      let none = ap (λ (s : Stream). s.read_faults) uses.hands_file.stood in
      no_rise uses.given.file_faults uses.taken.file_faults (taken_files ∙ sym given_files) (omega (arith, given_files, low))
      (uses.takes_file.counts.rises (above source.read_faults source_after.read_faults none rises))

  pub no_call_fails : before.disk_faults < 2 ^ 64 - 1 → Rises disk.faults disk_after.faults → ⊥
  no_call_fails low rises =
      no_rise uses.taken.disk_faults after.disk_faults (disks ∙ sym taken_disks) (omega (arith, taken_disks, low))
      (uses.takes_disk.counts.rises (above disk.faults disk_after.faults uses.hands_disk.faultless rises))

  given_is : uses.given ≡ record (handed_out store before) { calls = noted (FileOut file) (noted (DiskOut store) before.calls) }
  given_is = uses.hands_file.rest ∙ (λ i. let h : HostState = uses.hands_disk.rest i in record h { calls = noted (FileOut file) h.calls })

  taken_is : uses.taken ≡ record (handed_out store before) { calls = noted (FileBack file source_after) (noted (FileOut file) (noted (DiskOut store) before.calls)) }
  taken_is =
      uses.takes_file.rest
      ∙ (λ i. let h : HostState = given_is i in record h { calls = noted (FileBack file source_after) h.calls; file_faults = taken_files i })

  pub used_both : after ≡ with_disk store (calls_behind store file source_after before) disk_after.content before
  used_both =
      uses.takes_disk.rest
      ∙ (λ i. let h : HostState = taken_is i in record h { calls = noted (DiskBack store) h.calls; disks = put store disk_after.content h.disks; disk_faults = disks i })
      ∙ (λ i. record before { calls = calls_behind store file source_after before; disks = put_twice store None disk_after.content before.disks i })

-- the host refuses no file
pub no_file_refused : (store file : List ℕ) (before after : HostState) → LacksFile store file before after → after.own_faults ≡ before.own_faults → before.own_faults < 2 ^ 64 - 1 → ⊥
no_file_refused store file before after lacks same low =
    let opened = ap (λ (h : HostState). h.own_faults) lacks.hands.rest in
    let behind = ap (λ (h : HostState). h.own_faults) lacks.takes.rest in
    no_rise lacks.opened.own_faults lacks.refused.own_faults (sym behind ∙ same ∙ sym opened) (omega (arith, opened, low)) lacks.refuses.rises
