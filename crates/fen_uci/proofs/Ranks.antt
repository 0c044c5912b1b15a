-- The squares that a text names, rank by rank.
use Rattle.std.proofs.Common.{◌≡◌, ℕ, suc, ◌+◌, ◌-◌, ◌*◌, ◌<◌, ◌≤◌, ◌==◌, Bool, true, false, List, [], ◌∷◌, ◌++◌, length, take, drop, drop-cons, get_or, Option, Some, None, option_map, option_and_then, refl, sym, subst, ap, ◌∙◌, append_assoc, arith, if◌then◌else◌}
use Rattle.std.specs.List.{slice_split}
use Rattle.std.proofs.lemmas.Bool.Decides.{nat_tests}
use Rattle.std.proofs.lemmas.List.Edits.{paste_all, length-paste}
use Rattle.std.proofs.lemmas.Option.{same_Some}
use Rattle.std.proofs.lemmas.Slice.{put_mid-paste}
use Rattle.std.proofs.Math.Seq.{drop-append_seam}
use borrow.Rule.Slice.PartMut.{put_mid}
use Rattle.std.proofs.lemmas.List.{append-nil, length-append, length-take-le}
use Rattle.std.proofs.lemmas.List.Splits.{slice_split_none, slice_split_at, length-slice_split}
use Rattle.explorer_model.specs.declared.chess.Piece.{Piece}
use Rattle.explorer_model.specs.Fen.{squares_named, run_named, rank_squares, ranks_squares, placement}
use Rattle.fen_uci.specs.Ranks.{is_slash, ranks_of}
use Rattle.fen_uci.specs.Splits.{IsFreeOf, StopsAt}
use Rattle.fen_uci.proofs.Splitting.{differs}

-- One rank.

abbrev pub of_a_rank : Option (List (Option Piece)) → Option (List (Option Piece))
of_a_rank o = option_and_then (λ squares. if length squares == 8 then Some squares else None) o

too_long : (squares : List (Option Piece)) → 8 < length squares → of_a_rank (Some squares) ≡ None
too_long squares long =
    ap (λ (fits : Bool). if fits then Some squares else None) (differs (length squares) 8 (λ e. absurd (omega (arith, long, e))))

overfull_parts : (items : List (Option Piece)) (whole first others : Option (List (Option Piece)))
    → whole ≡ option_map (λ more. items ++ more) (option_and_then (λ here. option_map (λ more. here ++ more) others) first)
    → ((here : List (Option Piece)) → first ≡ Some here → 8 < length items + length here)
    → of_a_rank whole ≡ None
overfull_parts items whole None others e long = ap of_a_rank e
overfull_parts items whole (Some here) None e long = ap of_a_rank e
overfull_parts items whole (Some here) (Some more) e long =
    ap of_a_rank e
    ∙ too_long (items ++ (here ++ more)) (omega (arith, long here refl, length-append items (here ++ more), length-append here more))

-- the next byte stands for more squares than the rank has room for
pub overfull : (text : List ℕ) (items : List (Option Piece)) (k : ℕ) → k < length text
    → run_named text ≡ option_map (λ more. items ++ more) (run_named (drop k text))
    → ((here : List (Option Piece)) → squares_named (get_or text k 0) ≡ Some here → 8 < length items + length here)
    → rank_squares text ≡ None
overfull text items k within so_far long =
    overfull_parts items (run_named text) (squares_named (get_or text k 0)) (run_named (drop (suc k) text))
    (so_far ∙ ap (λ (bytes : List ℕ). option_map (λ (more : List (Option Piece)). items ++ more) (run_named bytes)) (drop-cons text k 0 within)) long

-- The ranks of a text.

pub rank_alone : (text rank rest : List ℕ) → text ≡ rank ++ rest → IsFreeOf 47 rank → length rest ≡ 0 → ranks_of (Some text) ≡ rank ∷ []
rank_alone text rank [] joined free none = ap (slice_split is_slash) (joined ∙ append-nil rank) ∙ slice_split_none is_slash rank free
rank_alone text rank (b ∷ rest) joined free none = absurd (omega (arith, none))

pub rank_above : (text rank rest below : List ℕ) (b : ℕ) → text ≡ rank ++ rest → IsFreeOf 47 rank → StopsAt 47 rest → rest ≡ b ∷ below
    → ranks_of (Some text) ≡ rank ∷ ranks_of (Some below)
rank_above text rank rest below b joined free stops some =
    let slash : (b == 47) ≡ true = ap (λ (c : ℕ). c == 47) (subst (StopsAt 47) some stops) in
    ap (slice_split is_slash) (joined ∙ ap (λ (bytes : List ℕ). rank ++ bytes) some) ∙ slice_split_at is_slash rank b below free slash

-- the squares of so many ranks
abbrev pub ranks_left : ℕ → List (List ℕ) → Option (List (Option Piece))
ranks_left n ranks = if length ranks == n then ranks_squares ranks else None

next_same : (a b : ℕ) → (suc a == suc b) ≡ (a == b)
next_same a b = grind (arith, nat_tests)

-- what the ranks of a text say, once the squares of the ranks above are known
abbrev pub SaysSoFar : Option (List (Option Piece)) → ℕ → List (Option Piece) → List (List ℕ) → Type 0
SaysSoFar whole n above ranks = whole ≡ option_map (λ below. below ++ above) (ranks_left n ranks)

moved_below : (pieces above : List (Option Piece)) (fits : Bool) (o : Option (List (Option Piece)))
    → option_map (λ below. below ++ above) (if fits then option_map (λ below. below ++ pieces) o else None)
    ≡ option_map (λ below. below ++ (pieces ++ above)) (if fits then o else None)
moved_below pieces above true (Some below) = ap (λ (squares : List (Option Piece)). Some squares) (append_assoc below pieces above)
moved_below pieces above true None = refl
moved_below pieces above false o = refl

rank_parts : (first : List ℕ) (below : List (List ℕ)) (n : ℕ) (o : Option (List (Option Piece))) → rank_squares first ≡ o
    → ranks_left (suc n) (first ∷ below) ≡ (if length below == n then option_and_then (λ here. option_map (λ under. under ++ here) (ranks_squares below)) o else None)
rank_parts first below n o e =
    ap (λ (fits : Bool). if fits then ranks_squares (first ∷ below) else None) (next_same (length below) n)
    ∙ ap (λ (p : Option (List (Option Piece))). if length below == n then option_and_then (λ here. option_map (λ under. under ++ here) (ranks_squares below)) p else None) e

-- one rank more is read
pub rank_read : (whole : Option (List (Option Piece))) (n : ℕ) (above pieces : List (Option Piece)) (ranks : List (List ℕ)) (first : List ℕ) (below : List (List ℕ))
    → SaysSoFar whole (suc n) above ranks → ranks ≡ first ∷ below → rank_squares first ≡ Some pieces → SaysSoFar whole n (pieces ++ above) below
rank_read whole n above pieces ranks first below so_far cut e =
    so_far
    ∙ ap (λ (rest : List (List ℕ)). option_map (λ under. under ++ above) (ranks_left (suc n) rest)) cut
    ∙ ap (λ (o : Option (List (Option Piece))). option_map (λ under. under ++ above) o) (rank_parts first below n (Some pieces) e)
    ∙ moved_below pieces above (length below == n) (ranks_squares below)

nothing_either : (fits : Bool) → ◌≡◌ {A = Option (List (Option Piece))} (if fits then None else None) None
nothing_either true = refl
nothing_either false = refl

-- the next rank is faulty
rank_faulty : (whole : Option (List (Option Piece))) (n : ℕ) (above : List (Option Piece)) (ranks : List (List ℕ)) (first : List ℕ) (below : List (List ℕ))
    → SaysSoFar whole (suc n) above ranks → ranks ≡ first ∷ below → rank_squares first ≡ None → whole ≡ None
rank_faulty whole n above ranks first below so_far cut e =
    so_far
    ∙ ap (λ (rest : List (List ℕ)). option_map (λ under. under ++ above) (ranks_left (suc n) rest)) cut
    ∙ ap (λ (o : Option (List (Option Piece))). option_map (λ under. under ++ above) o) (rank_parts first below n None e ∙ nothing_either (length below == n))

pub rank_faulty_at : (whole : Option (List (Option Piece))) (n : ℕ) (above : List (Option Piece)) (ranks : List (List ℕ)) (first : List ℕ) (below : List (List ℕ))
    → 0 < n → SaysSoFar whole n above ranks → ranks ≡ first ∷ below → rank_squares first ≡ None → whole ≡ None
rank_faulty_at whole n above ranks first below some so_far cut e =
    let P = λ (j : ℕ). SaysSoFar whole j above ranks in
    rank_faulty whole (n - 1) above ranks first below (subst P (omega (arith, some)) so_far) cut e

-- a rank is missing
pub rank_missing : (whole : Option (List (Option Piece))) (n : ℕ) (above : List (Option Piece)) (rest : Option (List ℕ))
    → 0 < n → SaysSoFar whole n above (ranks_of rest) → rest ≡ None → whole ≡ None
rank_missing whole n above rest some so_far none =
    so_far
    ∙ ap (λ (o : Option (List ℕ)). option_map (λ under. under ++ above) (ranks_left n (ranks_of o))) none
    ∙ ap (λ (fits : Bool). option_map (λ under. under ++ above) (if fits then Some [] else None)) (differs 0 n (λ e. absurd (omega (arith, e, some))))

-- a text is left behind the last rank
rank_too_many : (whole : Option (List (Option Piece))) (above : List (Option Piece)) (rest : Option (List ℕ)) (text : List ℕ)
    → SaysSoFar whole 0 above (ranks_of rest) → rest ≡ Some text → whole ≡ None
rank_too_many whole above rest text so_far some =
    so_far
    ∙ ap (λ (o : Option (List ℕ)). option_map (λ under. under ++ above) (ranks_left 0 (ranks_of o))) some
    ∙ ap (λ (fits : Bool). option_map (λ under. under ++ above) (if fits then ranks_squares (slice_split is_slash text) else None))
    (differs (length (slice_split is_slash text)) 0 (λ e. absurd (omega (arith, e, length-slice_split is_slash text))))

pub rank_too_many_at : (whole : Option (List (Option Piece))) (n : ℕ) (above : List (Option Piece)) (rest : Option (List ℕ)) (text : List ℕ)
    → n ≤ 0 → SaysSoFar whole n above (ranks_of rest) → rest ≡ Some text → whole ≡ None
rank_too_many_at whole n above rest text done so_far some =
    let P = λ (j : ℕ). SaysSoFar whole j above (ranks_of rest) in
    rank_too_many whole above rest text (subst P (omega (arith, done)) so_far) some

pub reading_begins : (text : List ℕ) → SaysSoFar (placement text) 8 [] (ranks_of (Some text))
reading_begins text = unchanged (placement text)
  where
    unchanged : (o : Option (List (Option Piece))) → o ≡ option_map (λ below. below ++ []) o
    unchanged None = refl
    unchanged (Some squares) = ap (λ (all : List (Option Piece)). Some all) (sym (append-nil squares))

-- every rank is read, and no text is left
pub reading_ends : (whole : Option (List (Option Piece))) (n : ℕ) (squares : List (Option Piece)) (rest : Option (List ℕ))
    → n ≤ 0 → SaysSoFar whole n (drop (8 * n) squares) (ranks_of rest) → rest ≡ None → whole ≡ Some squares
reading_ends whole n squares rest done so_far none =
    let P = λ (m : ℕ). SaysSoFar whole m (drop (8 * m) squares) (ranks_of rest) in
    let at_end : SaysSoFar whole 0 squares (ranks_of rest) = subst P (omega (arith, done)) so_far in
    at_end ∙ ap (λ (o : Option (List ℕ)). option_map (λ under. under ++ squares) (ranks_left 0 (ranks_of o))) none

-- the squares of a rank are written
pub rank_written : (squares pieces new : List (Option Piece)) (k m : ℕ) → k ≤ length squares → m ≡ 8 → new ≡ pieces → length pieces ≡ 8
    → drop k (put_mid k m squares new) ≡ pieces ++ drop (k + 8) squares
rank_written squares pieces new k m within eight e size =
    ap (drop k) (put_mid-paste k m squares new pieces 8 e (sym eight) (sym size) ∙ paste_all squares k pieces 8 (sym size))
    ∙ ap (λ (n : ℕ). drop n (take k squares ++ (pieces ++ drop (k + 8) squares))) (sym (length-take-le k squares within))
    ∙ drop-append_seam (take k squares) (pieces ++ drop (k + 8) squares)

pub rank_written_size : (squares pieces new : List (Option Piece)) (k m : ℕ) → k + 8 ≤ 64 → length squares ≡ 64 → m ≡ 8 → new ≡ pieces → length pieces ≡ 8
    → length (put_mid k m squares new) ≡ 64
rank_written_size squares pieces new k m within size eight e long =
    ap (λ (all : List (Option Piece)). length all) (put_mid-paste k m squares new pieces 8 e (sym eight) (sym long))
    ∙ length-paste squares k pieces 8 (omega (arith, within, size)) (omega (arith, long)) ∙ size

pub rank_read_at : (whole : Option (List (Option Piece))) (n : ℕ) (squares pieces new : List (Option Piece)) (m : ℕ) (ranks : List (List ℕ)) (first : List ℕ) (below : List (List ℕ))
    → 0 < n → n ≤ 8 → length squares ≡ 64 → m ≡ 8 → new ≡ pieces → length pieces ≡ 8
    → SaysSoFar whole n (drop (8 * n) squares) ranks → ranks ≡ first ∷ below → rank_squares first ≡ Some pieces
    → SaysSoFar whole (n - 1) (drop (8 * (n - 1)) (put_mid (8 * (n - 1)) m squares new)) below
rank_read_at whole n squares pieces new m ranks first below some few size eight e long so_far cut is =
    let k : ℕ = n - 1 in
    let next : n ≡ suc k = omega (arith, some) in
    let P = λ (j : ℕ). SaysSoFar whole j (drop (8 * j) squares) ranks in
    let read = rank_read whole k (drop (8 * suc k) squares) pieces ranks first below (subst P next so_far) cut is in
    let place : 8 * suc k ≡ 8 * k + 8 = omega arith in
    let squares_same = ap (λ (j : ℕ). pieces ++ drop j squares) place ∙ sym (rank_written squares pieces new (8 * k) m (omega (arith, few, size, next)) eight e long) in
    subst (λ (above : List (Option Piece)). SaysSoFar whole k above below) squares_same read

-- How many squares a text places.

some_cond : (fits : Bool) (squares whole : List (Option Piece)) → (if fits then Some squares else None) ≡ Some whole → (fits ≡ true) × (squares ≡ whole)
some_cond true squares whole e = (refl, same_Some squares whole e)
some_cond false squares whole e = cc

rank_size : (o : Option (List (Option Piece))) (whole : List (Option Piece)) → of_a_rank o ≡ Some whole → length whole ≡ 8
rank_size None whole e = cc
rank_size (Some squares) whole e =
    let (fits, same) = some_cond (length squares == 8) squares whole e in
    let size : length squares ≡ 8 = grind (arith, nat_tests) in
    sym (ap (λ (xs : List (Option Piece)). length xs) same) ∙ size

joined_size : (first below : Option (List (Option Piece))) (whole : List (Option Piece)) (n : ℕ)
    → ((squares : List (Option Piece)) → first ≡ Some squares → length squares ≡ 8)
    → ((squares : List (Option Piece)) → below ≡ Some squares → length squares ≡ n)
    → option_and_then (λ here. option_map (λ under. under ++ here) below) first ≡ Some whole → length whole ≡ n + 8
joined_size None below whole n eight under e = cc
joined_size (Some here) None whole n eight under e = cc
joined_size (Some here) (Some squares) whole n eight under e =
    let same : squares ++ here ≡ whole = same_Some (squares ++ here) whole e in
    sym (ap (λ (xs : List (Option Piece)). length xs) same) ∙ length-append squares here ∙ omega (arith, eight here refl, under squares refl)

ranks_size : (ranks : List (List ℕ)) (whole : List (Option Piece)) → ranks_squares ranks ≡ Some whole → length whole ≡ 8 * length ranks
ranks_size [] whole e = sym (ap (λ (xs : List (Option Piece)). length xs) (same_Some [] whole e))
ranks_size (rank ∷ ranks) whole e =
    joined_size (rank_squares rank) (ranks_squares ranks) whole (8 * length ranks) (rank_size (run_named rank)) (ranks_size ranks) e ∙ omega arith

all_size : (fits : Bool) (ranks : List (List ℕ)) (whole : List (Option Piece)) → (fits ≡ true → length ranks ≡ 8)
    → (if fits then ranks_squares ranks else None) ≡ Some whole → length whole ≡ 64
all_size true ranks whole eight e = ranks_size ranks whole e ∙ omega (arith, eight refl)
all_size false ranks whole eight e = cc

pub placement_size : (text : List ℕ) (squares : List (Option Piece)) → placement text ≡ Some squares → length squares ≡ 64
placement_size text squares e =
    all_size (length (slice_split is_slash text) == 8) (slice_split is_slash text) squares (same_number (length (slice_split is_slash text))) e
  where
    same_number : (n : ℕ) → (n == 8) ≡ true → n ≡ 8
    same_number n e = grind (arith, nat_tests)
