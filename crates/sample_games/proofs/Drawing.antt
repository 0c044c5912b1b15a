-- One ply after another: what is drawn from here on completes what is drawn from the start.
use Rattle.std.proofs.Common.{◌≡◌, ℕ, zero, suc, ◌+◌, ◌-◌, ◌<◌, ◌≤◌, List, [], ◌∷◌, ◌++◌, length, Some, inl, inr, slice_get, codes, decimal, Bool, true, false, cond, ◌==◌, ◌/◌, ◌%◌, refl, sym, ap, ◌∙◌, subst, arith}
use Rattle.std.proofs.lemmas.List.{append_assoc, append-nil, length-append}
use Rattle.std.proofs.lemmas.Fmt.{length-decimal-le}
use Rattle.explorer_model.specs.declared.chess.Move.{Move}
use Rattle.explorer_model.specs.declared.chess.Position.{Position}
use Rattle.explorer_model.specs.Chess.{start, after, Legal}
use Rattle.explorer_model.specs.San.{SanText}
use Rattle.rand_pcg.specs.Lcg.{Lcg}
use Rattle.sample_games.specs.Samples.{drawn, later, InUciOrder, DrawsMoves, WritesMoves, number_text}
use Rattle.sample_games.specs.Movetexts.{IsMovetext, Drawing}

pub begins : (plies : ℕ) (before draws : Lcg) (board : Position) (text : List ℕ) → board ≡ start → draws ≡ before → text ≡ []
    → Drawing plies before 0 board draws text
begins plies before draws board text at_start same none = record {
  within = omega arith;
  short = omega (arith, ap (λ (t : List ℕ). length t) none);
  completes = λ rest behind line.
      (let N : ℕ → Type 0 = λ n. IsMovetext n board 0 draws rest behind in
      let P : Position → Type 0 = λ p. IsMovetext plies p 0 draws rest behind in
      let Q : Lcg → Type 0 = λ d. IsMovetext plies start 0 d rest behind in
      let R : List ℕ → Type 0 = λ t. IsMovetext plies start 0 before (t ++ rest) behind in
      let whole : plies - 0 ≡ plies = omega arith in
      subst R (sym none) (subst Q same (subst P at_start (subst N whole line))));
}

joined : (text number san space rest : List ℕ) → text ++ (number ++ san ++ space ++ rest) ≡ (text ++ number ++ san ++ space) ++ rest
joined text number san space rest =
    sym (append_assoc text (number ++ san ++ space) rest)
    ∙ ap (λ (t : List ℕ). t ++ rest) (sym (append_assoc text (number ++ san) space) ∙ ap (λ (t : List ℕ). t ++ space) (sym (append_assoc text number san)))

joined-length : (text number san space more : List ℕ) → more ≡ text ++ number ++ san ++ space → length more ≡ length text + length number + length san + length space
joined-length text number san space more is =
    let last : length (text ++ number ++ san ++ space) ≡ length (text ++ number ++ san) + length space = length-append (text ++ number ++ san) space in
    let middle : length (text ++ number ++ san) ≡ length (text ++ number) + length san = length-append (text ++ number) san in
    let front : length (text ++ number) ≡ length text + length number = length-append text number in
    omega (arith, ap (λ (t : List ℕ). length t) is, last, middle, front)

pub goes_on : (plies ply : ℕ) (before draws drawn_on : Lcg) (board next : Position) (text more : List ℕ) (legal : List Move) (m : Move) (san : List ℕ)
    → Drawing plies before ply board draws text → ply < plies
    → InUciOrder board legal → slice_get legal (drawn (length legal) draws) ≡ Some m
    → drawn_on ≡ later draws → next ≡ after board m → SanText board m san
    → more ≡ text ++ number_text ply ++ san ++ codes " " → length (number_text ply) ≤ 4 → length san ≤ 8
    → Drawing plies before (ply + 1) next drawn_on more
goes_on plies ply before draws drawn_on board next text more legal m san drawing below order picks moved played writes pushed few short = record {
  within = omega (arith, below);
  short = omega (arith, joined-length text (number_text ply) san (codes " ") more pushed, few, short, drawing.short);
  completes = λ rest behind line.
      (let left : ℕ = plies - (ply + 1) in
      let one_more : plies - ply ≡ suc left = omega (arith, below) in
      let D : Position → Lcg → Type 0 = λ p d. DrawsMoves left p d line.0 behind in
      let draws_rest : DrawsMoves left (after board m) (later draws) line.0 behind = subst (D (after board m)) moved (subst (λ (p : Position). D p drawn_on) played line.1) in
      let writes_rest : WritesMoves (after board m) (ply + 1) line.0 rest = subst (λ (p : Position). WritesMoves p (ply + 1) line.0 rest) played line.2 in
      let whole : IsMovetext (suc left) board ply draws (number_text ply ++ san ++ codes " " ++ rest) behind =
      (m ∷ line.0, inr (legal, m, line.0, order, picks, draws_rest, refl), (san, rest, writes, writes_rest, refl)) in
      let N : ℕ → Type 0 = λ n. IsMovetext n board ply draws (number_text ply ++ san ++ codes " " ++ rest) behind in
      let T : List ℕ → Type 0 = λ t. IsMovetext plies start 0 before t behind in
      subst T (joined text (number_text ply) san (codes " ") rest ∙ ap (λ (t : List ℕ). t ++ rest) (sym pushed))
      (drawing.completes (number_text ply ++ san ++ codes " " ++ rest) behind (subst N (sym one_more) whole)));
}

stuck : (left ply : ℕ) (board : Position) (draws : Lcg) → ((m : Move) → ¬ Legal board m) → IsMovetext left board ply draws [] draws
stuck zero ply board draws none = ([], (refl, refl), refl)
stuck (suc left) ply board draws none = ([], inl (none, refl, refl), refl)

ends_by : (plies ply : ℕ) (before draws : Lcg) (board : Position) (text : List ℕ) → Drawing plies before ply board draws text
    → IsMovetext (plies - ply) board ply draws [] draws → IsMovetext plies start 0 before text draws
ends_by plies ply before draws board text drawing none =
    subst (λ (t : List ℕ). IsMovetext plies start 0 before t draws) (append-nil text) (drawing.completes [] draws none)

pub ends_stuck : (plies ply : ℕ) (before draws : Lcg) (board : Position) (text : List ℕ) → Drawing plies before ply board draws text
    → ((m : Move) → ¬ Legal board m) → IsMovetext plies start 0 before text draws
ends_stuck plies ply before draws board text drawing none =
    ends_by plies ply before draws board text drawing (stuck (plies - ply) ply board draws none)

pub ends : (plies ply : ℕ) (before draws : Lcg) (board : Position) (text : List ℕ) → Drawing plies before ply board draws text
    → plies ≤ ply → IsMovetext plies start 0 before text draws
ends plies ply before draws board text drawing past =
    let over : plies - ply ≡ 0 = omega (arith, past) in
    let none : IsMovetext 0 board ply draws [] draws = ([], (refl, refl), refl) in
    ends_by plies ply before draws board text drawing (subst (λ (n : ℕ). IsMovetext n board ply draws [] draws) (sym over) none)

number-short-by : (white : Bool) (n : ℕ) → length (decimal n) ≤ 2 → length (cond white (decimal n ++ codes ". ") []) ≤ 4
number-short-by true n le = omega (arith, le, length-append (decimal n) (codes ". "))
number-short-by false n le = omega arith

pub number-short : (ply : ℕ) → ply < 60 → length (number_text ply) ≤ 4
number-short ply lt = number-short-by (ply % 2 == 0) (ply / 2 + 1) (length-decimal-le 2 (ply / 2 + 1) (omega arith) (omega (arith, lt)) (omega (arith, lt)))
