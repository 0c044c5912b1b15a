use Rattle.std.proofs.Common.{◌≡◌, List, Ok}
use Rattle.explorer_model.specs.declared.archive.Batch.{Batch}
use Rattle.explorer_model.specs.StoreFile.{Reading, journal_of}
use Rattle.manifest.proofs.laws.journal_is_determined.Goals as goal

from_ok : (journal other : List Batch) (reading : Reading (List Batch)) → reading ≡ Ok journal → reading ≡ Ok other → journal ≡ other
from_ok journal other reading is also = cc

pub returns : goal.returns
returns g c = λ manifest file journal other told first second.
    let left = g.met.D.Disk.told_left manifest.disk file told in
    from_ok journal other (journal_of file) (first.images file left) (second.images file left)
