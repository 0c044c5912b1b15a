-- Statement: fields by their names.
use Rattle.std.specs.Prelude.{ℕ, List, map, filter, codes, if◌then◌else◌, Result, Err}
use Rattle.explorer_model.specs.Letters.{is_same_word}
use Rattle.explorer_model.specs.Wire.{is_there, length_by, within_limit}
use Rattle.explorer_model.specs.declared.wire.RequestFault.{RequestFault}
use Rattle.explorer_model.specs.declared.wire.RequestFault.TheVariants.{BadRequest}

-- the values of the fields of a name, by names and values
abbrev pub values_in : List ℕ → List (List ℕ × List ℕ) → List (List ℕ)
values_in name fields = map (λ field. field.1) (filter (λ field. is_same_word name field.0) fields)

-- how many bytes the body has
abbrev pub body_len_in : List (List ℕ × List ℕ) → Result ℕ RequestFault
body_len_in fields =
    if is_there (values_in (codes "transfer-encoding") fields) then Err BadRequest
    else within_limit (length_by (values_in (codes "content-length") fields))
