use Rattle.std.proofs.Common.{◌≡◌, ◌-◌}
use Rattle.explorer_model.specs.StoreFile.{texts_in}
use Rattle.manifest.proofs.ReadingLemmas.{with_front}
use Rattle.manifest.proofs.decoding.texts_of.Given as goal

abbrev pub invariant-loop : goal.invariant-loop
invariant-loop l = with_front l.texts.items (texts_in (l.count - l.counter) l.rest) ≡ texts_in l.count l.bytes
