-- Statement: what a door for connections has come to, and what its calls do to it.
use Rattle.std.specs.Prelude.{◌≡◌, ◌<◌, ◌+◌, ℕ, List, [], ◌∷◌, ◌++◌, length, Option}
use Rattle.std.specs.Option.{option_map}
use Rattle.outside.specs.Stream.{Stream, NeverFalls, Rises}

-- A door at one moment. Links are told (Some) or not (None).
pub record Connections : Type 0 where
  pub left : ℕ  -- how many connections are left to accept
  pub out : ℕ  -- how many were accepted and not taken back
  pub to_come : Option (List Stream)  -- the links that will be accepted, in order
  pub taken_back : Option (List Stream)  -- the links that were taken back, as they stood then
  pub faults : ℕ  -- how many accepts have failed

-- none was left
pub record GivesNone (old new : Connections) : Type 0 where
  pub none_left : old.left ≡ 0
  pub rest : new ≡ old

-- one was accepted, the first of those to come
pub record Accepts (link : Stream) (old new : Connections) : Type 0 where
  pub one_less : old.left ≡ new.left + 1
  pub first : old.to_come ≡ option_map (λ others. link ∷ others) new.to_come
  pub rest : new ≡ record old { left = new.left; out = old.out + 1; to_come = new.to_come }

-- one was left, and could not be accepted
pub record FailsToAccept (old new : Connections) : Type 0 where
  pub some_left : 0 < old.left
  pub rises : Rises old.faults new.faults
  pub rest : new ≡ record old { faults = new.faults }

-- one was taken back, behind those before
pub record TakesBack (link : Stream) (old new : Connections) : Type 0 where
  pub one_less : old.out ≡ new.out + 1
  pub rest : new ≡ record old
      { out = new.out; taken_back = option_map (λ others. others ++ link ∷ []) old.taken_back }

-- links were accepted as they came and taken back as they went, each before the next, whether or
-- not accepts failed among them
pub record Serves (came went : List Stream) (old new : Connections) : Type 0 where
  pub fewer : old.left ≡ new.left + length came
  pub first : old.to_come ≡ option_map (λ others. came ++ others) new.to_come
  pub never_falls : NeverFalls old.faults new.faults
  pub rest : new ≡ record old {
    left = new.left;
    to_come = new.to_come;
    taken_back = option_map (λ others. others ++ went) old.taken_back;
    faults = new.faults;
  }
