-- Statement: what a call that reads something answers: what is read, or the first fault. Want of
-- memory is free.
use Rattle.std.specs.Prelude.{◌≡◌, Result, Ok, Err, ⊤}
use Rattle.explorer_model.specs.declared.fault.Stop.{Stop}
use Rattle.explorer_model.specs.declared.fault.Stop.TheVariants as stops

-- one reading after another, up to the first fault
infixl 10 ◌>>=◌
abbrev pub ◌>>=◌ : {A B F : Type 0} → Result A F → (A → Result B F) → Result B F
(Ok x) >>= f = f x
(Err e) >>= f = Err e

abbrev pub Fails : {A F : Type 0} → Stop F → Result A F → Type 0
Fails (stops.Fault f) reading = reading ≡ Err f
Fails stops.OutOfMemory reading = ⊤

-- the answer, seen by view, is the reading
abbrev pub GivesBy : {X A F : Type 0} → (X → A) → Result X (Stop F) → Result A F → Type 0
GivesBy view (Ok x) reading = reading ≡ Ok (view x)
GivesBy view (Err stop) reading = Fails stop reading

-- the answer is the reading
abbrev pub Gives : {A F : Type 0} → Result A (Stop F) → Result A F → Type 0
Gives answer reading = GivesBy (λ x. x) answer reading

-- the answer is one that the relation allows
abbrev pub Answers : {A F : Type 0} → Result A (Stop F) → (Result A F → Type 0) → Type 0
Answers (Ok value) Allows = Allows (Ok value)
Answers (Err (stops.Fault fault)) Allows = Allows (Err fault)
Answers (Err stops.OutOfMemory) Allows = Unit {0}
