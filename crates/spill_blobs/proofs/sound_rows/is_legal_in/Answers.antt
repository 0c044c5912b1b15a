use Rattle.std.proofs.Common.{◌↔◌, Bool, IsTrue, sym, subst, rules}
use Rattle.std.specs.List.{Contains}
use Rattle.explorer_model.specs.contracts.chess.Role.{the_type}
use Rattle.spill_blobs.proofs.SoundLemmas.{any-contains, same-move}
use Rattle.spill_blobs.proofs.sound_rows.is_legal_in.Goals as goal
use denote.Enum.Bare.{sameb, same_true, true_same}

pub returns-in-Some : goal.returns-in-Some
returns-in-Some c =
    rw c.in-Some.is
    (subst (λ (b : Bool). IsTrue b ↔ Contains c.args.moves.now c.in-Some.step) (sym c.contains.ensures.value)
    (any-contains _ c.in-Some.step
    (λ y. same-move (sameb the_type) (λ a b. (same_true the_type (search rules) a b, true_same the_type a b)) y c.in-Some.step) c.args.moves.now))
