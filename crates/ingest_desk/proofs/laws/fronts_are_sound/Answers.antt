use Rattle.ingest_desk.proofs.SoundLemmas.{sound_front}
use Rattle.ingest_desk.proofs.laws.fronts_are_sound.Goals as goal

pub returns : goal.returns
returns c = sound_front
