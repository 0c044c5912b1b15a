-- Names are texts.
use Rattle.std.proofs.Common.{◌≡◌, sym, ap, List, ℕ, Bool, Some, None, if◌then◌else◌}
use Rattle.std.specs.Str.{IsUtf8, is_utf8}
use Rattle.std.proofs.lemmas.Str.{IsUtf8-from_is_utf8, is_utf8-from_IsUtf8}
use Rattle.std.proofs.lemmas.Bool.{false_from_ne_true}
use Rattle.explorer_model.specs.Classes.{name_of}

pub name-text : (bytes : List ℕ) → IsUtf8 bytes → Some bytes ≡ name_of bytes
unfolding name_of
name-text bytes utf8 = ap (λ (b : Bool). if b then Some bytes else None) (sym (is_utf8-from_IsUtf8 bytes utf8))

pub name-other : (bytes : List ℕ) → ¬ IsUtf8 bytes → None ≡ name_of bytes
unfolding name_of
name-other bytes other =
    ap (λ (b : Bool). if b then Some bytes else None)
    (sym (false_from_ne_true (is_utf8 bytes) (λ utf8. other (IsUtf8-from_is_utf8 bytes utf8))))
