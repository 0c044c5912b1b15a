use Rattle.disk_model.proofs.CrashLemmas.{image-left}
use Rattle.disk_model.proofs.laws.each_number_leaves_an_image.Goals as goal

pub returns : goal.returns
returns c = image-left
