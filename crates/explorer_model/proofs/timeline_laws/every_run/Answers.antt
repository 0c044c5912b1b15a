use Rattle.explorer_model.proofs.Timelines.{start-is-sound, run-keeps, more-grows}
use Rattle.explorer_model.proofs.timeline_laws.every_run.Goals as goal

pub returns : goal.returns
returns c = record {
  sound = λ start events runs. run-keeps start events (start-is-sound start runs.starts);
  grows = λ start events more pass runs. more-grows start events more pass (start-is-sound start runs.starts);
}
