use Rattle.std.proofs.Common.{◌≡◌, ℕ, List, Bor, map, string_bytes, take}
use Rattle.command_line.proofs.command.words_of.Given as goal

abbrev pub invariant-copying : goal.invariant-copying
invariant-copying l = map string_bytes l.words.items ≡ map (λ (s : Bor (List ℕ)). s.now) (take l.text-index l.texts)
