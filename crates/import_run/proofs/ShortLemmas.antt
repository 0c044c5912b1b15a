-- Each text among the cuts of a stream can be read.
use Rattle.std.proofs.Common.{◌≡◌, ℕ, ◌+◌, ◌≤◌, List, [], ◌∷◌, ◌++◌, length, take, drop, if◌then◌else◌, Option, None, Some, refl, sym, subst, nat_le, nat_eq, Bool, true, false, arith, length-append, length-take}
use Rattle.std.specs.Prelude.{IfSome}
use Rattle.std.specs.List.{starts_with, All}
use Rattle.std.proofs.lemmas.Bool.{leb-true}
use Rattle.std.proofs.lemmas.List.Elements.{All-append, All-nil, All-cons, All-head}
use Rattle.explorer_model.specs.Cuts.{Cut, Text, TooLong, Preamble, preamble, is_white_space, cut_at, cuts_of, cuts_from, cuts, parted, mark, text_limit}
use Rattle.pgn_cut.specs.Cut.{meaning, cuts_in}
use Rattle.pgn_cut.specs.declared.cut.Cut as given
use Rattle.pgn_cut.specs.Text.{TextState, cut_with, cuts_of_text, settled}
use Rattle.pgn_cut.specs.Front.{preamble_with, cuts_before}
use Rattle.pgn_cut.specs.Cutter.{cuts_from_stage, cuts_of_rest}
use Rattle.pgn_cut.specs.declared.cutter.Cutter.{Cutter}
use Rattle.pgn_cut.specs.declared.cutter.Stage.{Stage}
use Rattle.pgn_cut.specs.declared.cutter.Stage.TheVariants.{Mark, Before, Within}
use Rattle.import_run.specs.Grouping.{IsShort}

short_text : (place : ℕ) (text : List ℕ) (n : ℕ) (fits : Bool) → nat_le n text_limit ≡ fits → length text ≤ n → IsShort (if fits then Text (record { place = place; bytes = text }) else TooLong place n)
short_text place text n true is within = let small : n ≤ text_limit = leb-true n text_limit is in omega arith
short_text place text n false is within = tt

short_at : (place : ℕ) (text : List ℕ) → IsShort (cut_at place text)
unfolding cut_at
short_at place text = short_text place text (length text) (nat_le (length text) text_limit) refl (omega arith)

short_with : (place n : ℕ) (front more : List ℕ) → length front ≤ n → IsShort (cut_with place n front more)
unfolding cut_with
short_with place n front more within =
    let both : length (front ++ more) ≡ length front + length more = length-append front more in
    short_text place (front ++ more) (n + length more) (nat_le (n + length more) text_limit) refl (omega arith)

short_of : (place : ℕ) (texts : List (List ℕ)) → All IsShort (cuts_of place texts)
unfolding cuts_of
short_of place [] = All-nil IsShort
short_of place (text ∷ texts) = All-cons IsShort (cut_at place text) (cuts_of (place + length text) texts) (short_at place text) (short_of (place + length text) texts)

short_preamble : (place : ℕ) (bytes : List ℕ) → All IsShort (preamble place bytes)
unfolding preamble
short_preamble place [] = All-nil IsShort
short_preamble place (b ∷ bytes) = by_first (is_white_space b) (short_preamble (place + 1) bytes)
  where
    by_first : (white : Bool) → All IsShort (preamble (place + 1) bytes) → All IsShort (if white then preamble (place + 1) bytes else Preamble place ∷ [])
    by_first true later = later
    by_first false later = All-cons IsShort (Preamble place) [] tt (All-nil IsShort)

short_from : (place : ℕ) (bytes : List ℕ) → All IsShort (cuts_from place bytes)
unfolding cuts_from
short_from place bytes = All-append IsShort _ _ (short_preamble place (parted true bytes).before) (short_of (place + length (parted true bytes).before) (parted true bytes).texts)

short_cuts : (stream : List ℕ) → All IsShort (cuts stream)
unfolding cuts
short_cuts stream = by_mark (starts_with nat_eq stream mark)
  where
    by_mark : (marked : Bool) → All IsShort (if marked then cuts_from 3 (drop 3 stream) else cuts_from 0 stream)
    by_mark true = short_from 3 (drop 3 stream)
    by_mark false = short_from 0 stream

short_preamble_with : (first : Option ℕ) (place : ℕ) (bytes : List ℕ) → All IsShort (preamble_with first place bytes)
short_preamble_with None place bytes = short_preamble place bytes
short_preamble_with (Some first) place bytes = All-cons IsShort (Preamble first) [] tt (All-nil IsShort)

short_before : (came : ℕ) (first : Option ℕ) (matched : ℕ) (rest : List ℕ) → All IsShort (cuts_before came first matched rest)
unfolding cuts_before
short_before came first matched rest = All-append IsShort _ _ (short_preamble_with first _ _) (short_of _ _)

short_within : (t : TextState) (rest : List ℕ) → All IsShort (cuts_of_text t rest)
unfolding cuts_of_text
short_within t rest = All-cons IsShort _ _ (short_with t.place (settled t) (take (settled t) t.kept) _ (omega (arith, length-take (settled t) t.kept))) (short_of _ _)

short_stage : (stage : Stage) (rest : List ℕ) → All IsShort (cuts_from_stage stage rest)
short_stage (Mark prefix) rest = short_cuts _
short_stage (Before front) rest = short_before _ _ _ rest
short_stage (Within text) rest = short_within text rest

-- a text that a cutter gives can be read
pub short_first : (cut : Option given.Cut) (cutter : Cutter) (bytes : List ℕ) (more : List Cut) → cuts_in cut ++ more ≡ cuts_of_rest cutter bytes → IfSome cut (λ one. IsShort (meaning one))
short_first None cutter bytes more same = tt
short_first (Some one) cutter bytes more same = All-head IsShort (meaning one) more (subst (All IsShort) (sym same) (short_stage cutter.stage bytes))
