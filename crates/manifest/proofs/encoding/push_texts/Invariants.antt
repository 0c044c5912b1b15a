use Rattle.std.proofs.Common.{◌≡◌, ◌++◌, take}
use Rattle.std.specs.List.{flat_map}
use Rattle.explorer_model.specs.StoreFile.{text_field}
use Rattle.manifest.proofs.encoding.push_texts.Given as goal

abbrev pub invariant-loop-text : goal.invariant-loop-text
invariant-loop-text l = l.payload.items ≡ l.initial.payload.items ++ flat_map text_field (take l.text-index l.texts)
