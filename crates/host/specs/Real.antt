-- Statement: the host over the system, of which its counts alone are told.
use Rattle.std.specs.Prelude.{ℕ, None}
use Rattle.host.specs.Hosts.{HostState}

-- what a host counted
pub record FaultCounts : Type 0 where
  pub own : ℕ
  pub disks : ℕ
  pub files : ℕ
  pub doors : ℕ
  pub ports : ℕ

-- a host of which its counts alone are told
abbrev pub untold : FaultCounts → HostState
untold counts = record {
  calls = None;
  disks = λ _. None;
  files = λ _. None;
  links = λ _ _. None;
  ports = λ _. None;
  own_faults = counts.own;
  disk_faults = counts.disks;
  file_faults = counts.files;
  door_faults = counts.doors;
  port_faults = counts.ports;
}
