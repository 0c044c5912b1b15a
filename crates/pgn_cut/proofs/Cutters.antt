-- From one stage of a cutter to the next.
use Rattle.std.specs.Prelude.{◌≡◌, ℕ, ◌+◌, ◌-◌, ◌<◌, ◌≤◌, List, [], ◌∷◌, ◌++◌, map, Option, None, Some, IsSome, IsNone, length, take, drop, refl}
use Rattle.std.proofs.Common.{sym, ◌∙◌, ap, arith, append_assoc}
use Rattle.std.proofs.lemmas.List.{drop-take, take_rest, take-take, drop-drop, take-append-drop, map-append, length-take, length-drop}
use Rattle.std.proofs.Math.Seq.{take-add}
use Rattle.explorer_model.specs.Cuts.{Cut}
use Rattle.pgn_cut.specs.Cut.{meaning, cuts_in}
use Rattle.pgn_cut.specs.Text.{TextState, at_start, cuts_of_text}
use Rattle.pgn_cut.specs.Front.{refusal_of, cuts_of_front, Starts}
use Rattle.pgn_cut.specs.Mark.{cuts_of_mark, Passes}
use Rattle.pgn_cut.specs.Cutter.{cuts_of_rest, cuts_from_stage, came_by, StandsAtStart, FeedsFront}
use Rattle.pgn_cut.specs.declared.cut.Cut.{Cut as Made}
use Rattle.pgn_cut.specs.declared.cut.Fed.{Fed}
use Rattle.pgn_cut.specs.declared.front.Front.{Front}
use Rattle.pgn_cut.specs.declared.cutter.Cutter.{Cutter}
use Rattle.pgn_cut.specs.declared.cutter.Stage.{Stage}
use Rattle.pgn_cut.specs.declared.cutter.Stage.TheVariants.{Mark, Before, Within}

-- what is left of a piece
pub rest_count : (piece : List ℕ) (s : ℕ) → length (take (length piece - s) (drop s piece)) ≡ length piece - s
rest_count piece s = omega (arith, length-take (length piece - s) (drop s piece), length-drop s piece)

-- ---- from before the first text into it

pub front_then_text : (f : Front) (piece : List ℕ) (s : ℕ) (first : Option ℕ) → Starts f piece s first → first ≡ None → (t : TextState) → t ≡ at_start (f.came + s - 7)
    → (n : ℕ) (rest : List ℕ) → cuts_of_text t (take n (take (length piece - s) (drop s piece)) ++ rest) ≡ cuts_of_front f (take (s + n) piece ++ rest)
front_then_text f piece s first is none t e n rest =
    let more = take n (drop s piece) ++ rest in
    let joined : take s piece ++ more ≡ take (s + n) piece ++ rest = sym (append_assoc (take s piece) (take n (drop s piece)) rest) ∙ ap (λ (x : List ℕ). x ++ rest) (sym (take-add s n piece)) in
    ap (λ (x : List ℕ). cuts_of_text t (take n x ++ rest)) (take_rest piece s)
    ∙ ap (λ (x : TextState). cuts_of_text x more) e
    ∙ ap (λ (x : Option ℕ). refusal_of x ++ cuts_of_text (at_start (f.came + s - 7)) more) (sym none)
    ∙ is.cuts more
    ∙ ap (cuts_of_front f) joined

-- ---- from the mark on

at_least : (stage : Stage) → StandsAtStart stage → 7 ≤ came_by stage
at_least (Mark prefix) is = absurd is
at_least (Before front) is = absurd is
at_least (Within text) is = omega (arith, ap (λ (t : TextState). t.count) is)

-- where less than the piece is taken, that is enough to tell a mark
far : (front : Front) (piece : List ℕ) (stage : Stage) (fed : Fed) → FeedsFront front piece (stage, fed) → fed.taken < length piece → 7 ≤ front.came + fed.taken
far front piece stage fed feeds part = go fed.cut feeds.whole feeds.stops
  where
    go : (cut : Option Made) → (IsNone cut → fed.taken ≡ length piece) → (IsSome cut → StandsAtStart stage) → 7 ≤ front.came + fed.taken
    go None whole stops = omega (arith, whole refl, part)
    go (Some cut) whole stops = omega (arith, at_least stage (stops refl), feeds.came)

pub mark_then_front : (count : ℕ) (piece : List ℕ) (front : Front) (s : ℕ) → Passes count piece front s → (stage : Stage) (fed : Fed)
    → FeedsFront front (take (length piece - s) (drop s piece)) (stage, fed) → (rest : List ℕ)
    → cuts_in fed.cut ++ cuts_from_stage stage rest ≡ cuts_of_mark count (take (s + fed.taken) piece ++ rest)
mark_then_front count piece front s passes stage fed feeds rest =
    let n = fed.taken in
    let same : take n (take (length piece - s) (drop s piece)) ≡ drop s (take (s + n) piece) = ap (take n) (take_rest piece s) ∙ sym (drop-take s n piece) in
    let enough : s + n < length piece → 3 ≤ count + (s + n) = λ part.
    let more = far front _ stage fed feeds (omega (arith, rest_count piece s, part)) in
    omega (arith, more, passes.came) in
    feeds.cuts rest ∙ ap (λ (x : List ℕ). cuts_of_front front (x ++ rest)) same ∙ passes.cuts (s + n) (omega arith) enough rest

-- ---- a caller's loop

-- what was taken of the piece from one place on, and what follows it
pub taken_and_rest : (stream : List ℕ) (at n taken : ℕ) → taken ≤ length (take n (drop at stream)) → take taken (take n (drop at stream)) ++ drop (at + taken) stream ≡ drop at stream
taken_and_rest stream at n taken within =
    let few : taken ≤ n = omega (arith, within, length-take n (drop at stream)) in
    ap (λ (x : List ℕ). x ++ drop (at + taken) stream) (take-take taken n (drop at stream) few)
    ∙ ap (λ (x : List ℕ). take taken (drop at stream) ++ x) (sym (drop-drop taken at stream))
    ∙ take-append-drop taken (drop at stream)

pub one_cut_more : (found : List Made) (cut : Made) (more all : List Cut) → map meaning found ++ (meaning cut ∷ more) ≡ all → map meaning (found ++ cut ∷ []) ++ more ≡ all
one_cut_more found cut more all e =
    ap (λ (x : List Cut). x ++ more) (map-append meaning found (cut ∷ [])) ∙ append_assoc (map meaning found) (meaning cut ∷ []) more ∙ e

pub fed_on : (found : List Cut) (cut : Option Made) (next this : Cutter) (stream : List ℕ) (at n taken : ℕ) (all : List Cut)
    → ((rest : List ℕ) → cuts_in cut ++ cuts_of_rest next rest ≡ cuts_of_rest this (take taken (take n (drop at stream)) ++ rest))
    → taken ≤ length (take n (drop at stream)) → found ++ cuts_of_rest this (drop at stream) ≡ all
    → found ++ (cuts_in cut ++ cuts_of_rest next (drop (at + taken) stream)) ≡ all
fed_on found cut next this stream at n taken all feeds within so_far =
    ap (λ (x : List Cut). found ++ x) (feeds (drop (at + taken) stream) ∙ ap (cuts_of_rest this) (taken_and_rest stream at n taken within)) ∙ so_far

pub taken_within : (stream : List ℕ) (at n taken : ℕ) → at ≤ length stream → taken ≤ length (take n (drop at stream)) → at + taken ≤ length stream
taken_within stream at n taken below within = omega (arith, below, within, length-take n (drop at stream), length-drop at stream)
