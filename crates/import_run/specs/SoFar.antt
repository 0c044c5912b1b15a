-- Statement: the groups of a stream that may go on.
use Rattle.std.specs.Prelude.{◌≡◌, ◌⊎◌, ◌<◌, ◌-◌, ℕ, List, [], ◌∷◌, ◌++◌, Option, length, take, count_by}
use Rattle.std.specs.Io.KnownBytes.{IsAtEnd}
use Rattle.std.specs.List.{AllByRecursion, flat_map}
use Rattle.explorer_model.specs.declared.archive.Placed.{Placed}
use Rattle.explorer_model.specs.Cuts.{Cut, Text, cuts}
use Rattle.explorer_model.specs.Imports.{group_limit, is_text}

-- the cuts that have ended: all but the last, since a cut ends where the next text starts
abbrev pub ended_cuts : List ℕ → List Cut
ended_cuts stream = let all = cuts stream in take (length all - 1) all

-- a group that is whole: it ends with the last text that it may have
pub record IsWhole (group : List Cut) : Type 0 where
  pub front : List Cut
  pub text : Placed
  pub ends : group ≡ front ++ Text text ∷ []
  pub texts : count_by is_text front ≡ group_limit - 1

-- whole groups, and behind them a group in hand that is not whole
pub record AreInGroups (ended : List Cut) (whole : List (List Cut)) (hand : List Cut) : Type 0 where
  pub all : ended ≡ flat_map (λ group. group) whole ++ hand
  pub each : AllByRecursion IsWhole whole
  pub few : count_by is_text hand < group_limit

-- all groups of cuts, the one in hand last
pub record AreAllGroups (ended : List Cut) (all : List (List Cut)) : Type 0 where
  pub whole : List (List Cut)
  pub hand : List Cut
  pub in_groups : AreInGroups ended whole hand
  pub all_are : all ≡ whole ++ hand ∷ []

-- the groups so far: the whole ones, or all where the stream has ended, and its last cut with it
abbrev pub AreGroupsSoFar : List ℕ → Option (List ℕ) → List (List Cut) → Type 0
AreGroupsSoFar stream left so_far =
    ((hand : List Cut) × AreInGroups (ended_cuts stream) so_far hand)
    ⊎ (IsAtEnd left × AreAllGroups (cuts stream) so_far)
