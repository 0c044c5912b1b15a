-- What is known of a reading that succeeds: each of its steps does.
use Rattle.std.proofs.Common.{◌≡◌, Result, Ok, Err, IfOk, refl, sym, ap, subst}
use Rattle.std.specs.Result.{result_map_both}
use Rattle.explorer_model.specs.Stop.{◌>>=◌}

abbrev IsGiven : {A F : Type 0} → Result A F → Type 0
IsGiven (Ok x) = Unit {0}
IsGiven (Err e) = ⊥

pub Err-not-Ok : {A F : Type 0} (e : F) (x : A) → Err e ≡ Ok x → ⊥
Err-not-Ok {A} {F} e x is = let P : Result A F → Type 0 = λ r. IsGiven r in subst P (sym is) tt

abbrev given_or : {A F : Type 0} → Result A F → A → A
given_or (Ok x) d = x
given_or (Err e) d = d

abbrev ok : {A F : Type 0} → A → Result A F
ok x = Ok x

pub Ok-injective : {A F : Type 0} (x y : A) → ok {A = A} {F = F} x ≡ Ok y → x ≡ y
Ok-injective x y is = ap (λ r. given_or r x) is

pub map-ok : {A B E F : Type 0} (f : A → B) (g : E → F) (r : Result A E) (y : B) → result_map_both f g r ≡ Ok y → (x : A) × (r ≡ Ok x) × (f x ≡ y)
map-ok f g (Ok x) y is = (x, refl, Ok-injective (f x) y is)
map-ok f g (Err e) y is = absurd (Err-not-Ok (g e) y is)

-- what holds of each end of a reading holds of what it gives
pub bind-if : {A B F : Type 0} (P : B → Type 0) (r : Result A F) (f : A → Result B F) → ((x : A) → IfOk (f x) P) → IfOk (r >>= f) P
bind-if P (Ok x) f each = each x
bind-if P (Err e) f each = tt

pub bind-if-given : {A B F : Type 0} (P : A → Type 0) (Q : B → Type 0) (r : Result A F) (f : A → Result B F)
    → IfOk r P → ((x : A) → P x → IfOk (f x) Q) → IfOk (r >>= f) Q
bind-if-given P Q (Ok x) f holds each = each x holds
bind-if-given P Q (Err e) f holds each = tt

pub if-map : {A B E F : Type 0} (P : A → Type 0) (Q : B → Type 0) (f : A → B) (g : E → F) (r : Result A E)
    → ((x : A) → P x → Q (f x)) → IfOk r P → IfOk (result_map_both f g r) Q
if-map P Q f g (Ok x) each holds = each x holds
if-map P Q f g (Err e) each holds = tt
