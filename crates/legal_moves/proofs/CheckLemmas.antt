-- A search through the kings of a colour for one that is attacked.
use Rattle.std.proofs.Common.{◌≡◌, ◌↔◌, ◌⊎◌, ℕ, ◌<◌, ◌≢◌, List, Option, subst, inl, inr}
use Rattle.std.proofs.lemmas.Bool.{cases_eq}
use Rattle.step_tables.specs.Bitboard.{Holds}
use Rattle.step_tables.proofs.BitboardLemmas.{Holds-zero}
use Rattle.explorer_model.specs.declared.chess.Color.{Color}
use Rattle.explorer_model.specs.declared.chess.Role.TheVariants.{King}
use Rattle.explorer_model.specs.declared.chess.Piece.{Piece}
use Rattle.explorer_model.specs.Board.{opponent, piece_at, IsPiece, IsAttacked, InCheck}
use Rattle.legal_moves.specs.declared.enemy_sets.EnemySets.{EnemySets}
use Rattle.legal_moves.specs.EnemySets.{IsBitboardOf, Describes, LeapsTo, SlidesTo}
use Rattle.legal_moves.proofs.AttackSets.{attacked-says}

-- the set has kings alone, and the kings that it has no more are not attacked
pub record AreSearched (squares : List (Option Piece)) (color : Color) (rest : ℕ) : Type 0 where
  pub kings : (k : ℕ) → k < 64 → Holds rest k → IsPiece color King (piece_at squares k)
  pub others : (k : ℕ) → k < 64 → IsPiece color King (piece_at squares k) → ¬ Holds rest k
      → ¬ IsAttacked squares (opponent color) k

pub searched-first : (squares : List (Option Piece)) (color : Color) (rest : ℕ)
    → IsBitboardOf (IsPiece color King) squares rest → AreSearched squares color rest
searched-first squares color rest is = record {
  kings = λ k on there. (is k on).0 there;
  others = λ k on king gone. absurd (gone ((is k on).1 king));
}

pub searched-more : (squares : List (Option Piece)) (color : Color) (rest s less : ℕ) → AreSearched squares color rest
    → ¬ IsAttacked squares (opponent color) s
    → ((b : ℕ) → b < 64 → Holds less b ↔ (Holds rest b × b ≢ s)) → AreSearched squares color less
searched-more squares color rest s less searched safe without = record {
  kings = λ k on there. searched.kings k on ((without k on).0 there).0;
  others = λ k on king gone attacked. elim (cases_eq k s) [
    | inl at ↦ safe (let P : ℕ → Type 0 = λ n. IsAttacked squares (opponent color) n in subst P at attacked)
    | inr apart ↦ searched.others k on king (λ there. gone ((without k on).1 (there, apart))) attacked
  ];
}

pub searched-end : (squares : List (Option Piece)) (color : Color) (rest : ℕ) → AreSearched squares color rest → rest ≡ 0
    → ¬ InCheck squares color
searched-end squares color rest searched none check =
    searched.others check.0 check.1 check.2
    (λ there. Holds-zero check.0 (let P : ℕ → Type 0 = λ bitboard. Holds bitboard check.0 in subst P none there)) check.3

-- what an attack of the enemy on a square says
pub attack-says : (squares : List (Option Piece)) (color enemy : Color) (enemy_sets : EnemySets) (s : ℕ) (answer : Type 0)
    → enemy ≡ opponent color → Describes squares enemy enemy_sets
    → answer ↔ (LeapsTo enemy_sets enemy s ⊎ SlidesTo enemy_sets s) → answer ↔ IsAttacked squares (opponent color) s
attack-says squares color enemy enemy_sets s answer is described says =
    let P : Color → Type 0 = λ c. answer ↔ IsAttacked squares c s in
    subst P is (
      λ yes. (attacked-says squares enemy enemy_sets s described).0 (says.0 yes),
      λ attacked. says.1 ((attacked-says squares enemy enemy_sets s described).1 attacked),
    )
