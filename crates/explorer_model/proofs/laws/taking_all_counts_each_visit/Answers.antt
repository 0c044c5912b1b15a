use Rattle.std.proofs.Common.{◌≡◌, ◌<◌, ℕ, zero, suc, Bool, true, ◌&&◌, replicate, slice_index_or, refl, ap, ◌∙◌, arith}
use Rattle.std.specs.Prelude.{false, Option}
use Rattle.explorer_model.specs.declared.archive.Classes.{Classes}
use Rattle.explorer_model.specs.declared.archive.Speed.{Speed}
use Rattle.explorer_model.specs.declared.archive.Speed.TheVariants.{UltraBullet, Bullet, Blitz, Rapid, Classical, Correspondence}
use Rattle.explorer_model.specs.declared.chess.Move.{Move}
use Rattle.explorer_model.specs.Counting.{passes, take_all, group_place, visits}
use Rattle.explorer_model.specs.Order.{speed_index}
use Rattle.explorer_model.proofs.SoundClasses.{game-sound}
use Rattle.explorer_model.proofs.laws.taking_all_counts_each_visit.Goals as goal

-- ---- the filter takes each speed and each group

takes-speed : (speed : Speed) → slice_index_or (replicate 6 true) (speed_index speed) false ≡ true
takes-speed UltraBullet = refl
takes-speed Bullet = refl
takes-speed Blitz = refl
takes-speed Rapid = refl
takes-speed Classical = refl
takes-speed Correspondence = refl

takes-place : (k place : ℕ) → place < k → slice_index_or (replicate k true) place false ≡ true
takes-place zero place below = absurd (omega arith)
takes-place (suc k) zero below = refl
takes-place (suc k) (suc place) below = takes-place k place (omega arith)

-- ---- so each game passes

all-pass : (found : Classes) → group_place found.group.value < 9 → passes take_all found ≡ true
unfolding passes
all-pass found placed =
    ap (λ b. b && slice_index_or (replicate 9 true) (group_place found.group.value) false && true && true) (takes-speed found.speed)
    ∙ ap (λ b. true && b && true && true) (takes-place 9 (group_place found.group.value) placed)

counts-visit : (test : Option Move → Bool) (passed : Bool) (visit : Option (Option Move)) → passed ≡ true
    → (passed && visits test visit) ≡ visits test visit
counts-visit test passed visit is = ap (λ b. b && visits test visit) is

pub returns : goal.returns
returns c = λ test at text game seen of sees.
    let sound = game-sound text game of in
    let passed : passes take_all seen.classes ≡ true = ap (passes take_all) sees.0 ∙ all-pass game.classes sound.group in
    counts-visit test (passes take_all seen.classes) seen.visit passed
