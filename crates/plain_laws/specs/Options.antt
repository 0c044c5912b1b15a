-- Laws: options, what is said of what they hold, and one behind another.
use Rattle.std.proofs.Common.{◌≡◌, Bool, true, false, cond, true≢false, Option, None, Some, IfSome, IsSome, is_some, refl, sym, ap, subst}
use Rattle.std.specs.Bool.{Decides}
use Rattle.std.specs.Option.{option_eq, option_or}
use Rattle.std.proofs.lemmas.Option.{none-some}

pub some-none : {A : Type 0} (x : A) → Some x ≡ None → ⊥
some-none x e = none-some x (sym e)

pub IsSome-is : {A : Type 0} (o : Option A) (x : A) → o ≡ Some x → IsSome o
IsSome-is o x is = ap is_some is

pub IsSome-none : {A : Type 0} (o : Option A) → IsSome o → o ≡ None → ⊥
IsSome-none None there none = absurd (true≢false (sym there))
IsSome-none (Some x) there none = some-none x none

-- ---- what holds of a value that is there

pub IfSome-at : {A : Type 0} (P : A → Type 0) (o : Option A) (x : A) → o ≡ Some x → IfSome o P → P x
IfSome-at {A} P o x is holds = subst (λ (o : Option A). IfSome o P) is holds

pub IfSome-from : {A : Type 0} (P : A → Type 0) (o : Option A) → ((x : A) → o ≡ Some x → P x) → IfSome o P
IfSome-from P None from = tt
IfSome-from P (Some x) from = from x refl

-- ---- the first of two that is there

pub option_or-assoc : {A : Type 0} (a b c : Option A) → option_or (option_or a b) c ≡ option_or a (option_or b c)
option_or-assoc None b c = refl
option_or-assoc (Some x) b c = refl

pub option_or-none : {A : Type 0} (o : Option A) → o ≡ option_or o None
option_or-none None = refl
option_or-none (Some x) = refl

-- a value that stands before an option, where that is none, stands behind it as well
pub cond-some : {A : Type 0} (b : Bool) (x : A) (o : Option A) → (b ≡ true → o ≡ None)
    → cond b (Some x) o ≡ option_or o (cond b (Some x) None)
cond-some true x o none = rw (none refl) refl
cond-some false x o none = option_or-none o

-- ---- options that are the same

-- what is there, else a value that stands for it
value_or : {A : Type 0} → A → Option A → A
value_or d None = d
value_or d (Some x) = x

pub option_eq-decides : {A : Type 0} {E : A → A → Bool} → ((a b : A) → Decides (E a b) (a ≡ b))
    → (x y : Option A) → Decides (option_eq E x y) (x ≡ y)
unfolding value_or
option_eq-decides decides None None = (λ e. refl, λ e. refl)
option_eq-decides decides None (Some y) = (λ e. absurd (true≢false (sym e)), λ e. absurd (none-some y e))
option_eq-decides decides (Some x) None = (λ e. absurd (true≢false (sym e)), λ e. absurd (some-none x e))
option_eq-decides decides (Some x) (Some y) =
    (λ e. ap Some ((decides x y).0 e), λ e. (decides x y).1 (ap (value_or x) e))
