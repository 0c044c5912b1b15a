-- Laws: results, and what is said of how they end.
use Rattle.std.proofs.Common.{◌≡◌, Result, Ok, Err, OnErr, OnOk, sym, ap, ◌∙◌}

value_or : {T E : Type 0} → T → Result T E → T
value_or d (Ok x) = x
value_or d (Err e) = d

fault_or : {T E : Type 0} → E → Result T E → E
fault_or d (Ok x) = d
fault_or d (Err e) = e

-- ---- a result has one ending

pub same_Ok : {T E : Type 0} (r : Result T E) (x y : T) → r ≡ Ok x → r ≡ Ok y → x ≡ y
unfolding value_or
same_Ok r x y one other = ap (value_or x) (sym one ∙ other)

pub same_Err : {T E : Type 0} (r : Result T E) (d e : E) → r ≡ Err d → r ≡ Err e → d ≡ e
unfolding fault_or
same_Err r d e one other = ap (fault_or d) (sym one ∙ other)

pub Ok-Err : {T E : Type 0} (r : Result T E) (x : T) (e : E) → r ≡ Ok x → r ≡ Err e → ⊥
Ok-Err r x e one other = cc

-- ---- what is said of one ending

pub OnErr-from : {T E : Type 0} (r : Result T E) (P : Type 0) → P → OnErr r P
OnErr-from (Ok x) P p = tt
OnErr-from (Err e) P p = p

pub OnOk-both : {T E : Type 0} (r : Result T E) (P Q R : Type 0) → (P → Q → R) → OnOk r P → OnOk r Q → OnOk r R
OnOk-both (Ok x) P Q R both p q = both p q
OnOk-both (Err e) P Q R both p q = tt
