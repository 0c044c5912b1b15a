-- Statement: all that a run meets outside itself, at one moment.
use Rattle.std.specs.Prelude.{◌≡◌, ◌⊎◌}
use Rattle.outside.specs.Stream.{Stream, Rises}
use Rattle.host.specs.Hosts.{HostState}
use Rattle.import_run.specs.Ending.{MayRise}

-- The input is read, the output and the errors are written, and the host hands out the rest.
pub record World : Type 0 where
  pub input : Stream
  pub output : Stream
  pub errors : Stream
  pub host : HostState

abbrev pub world : Stream → Stream → Stream → HostState → World
world input output errors host =
    record { input = input; output = output; errors = errors; host = host }

-- no read failed
abbrev pub AllReadsCame : World → World → Type 0
AllReadsCame before after = after.input.read_faults ≡ before.input.read_faults

-- a read may have failed
abbrev pub ReadMayFail : World → World → Type 0
ReadMayFail before after = MayRise before.input.read_faults after.input.read_faults

-- no read and no write failed
pub record IsFaultless (before after : World) : Type 0 where
  pub reads : AllReadsCame before after
  pub output : after.output.write_faults ≡ before.output.write_faults
  pub errors : after.errors.write_faults ≡ before.errors.write_faults

-- a read failed
abbrev pub ReadFails : World → World → Type 0
ReadFails before after = Rises before.input.read_faults after.input.read_faults

-- no read failed, but a write to one of the sinks did
pub record WriteFails (before after : World) : Type 0 where
  pub reads : AllReadsCame before after
  pub rises : Rises before.output.write_faults after.output.write_faults
      ⊎ Rises before.errors.write_faults after.errors.write_faults

-- the streams are as they were
pub record SameStreams (before after : World) : Type 0 where
  pub input : after.input ≡ before.input
  pub output : after.output ≡ before.output
  pub errors : after.errors ≡ before.errors
