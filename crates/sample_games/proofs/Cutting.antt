-- A stream of samples is cut into them: a text begins at an Event tag alone.
use Rattle.std.proofs.Common.{◌≡◌, ℕ, ◌+◌, ◌/◌, ◌%◌, ◌^◌, ◌<◌, ◌≤◌, ◌==◌, Bool, true, false, cond, ◌&&◌, not, List, [], ◌∷◌, ◌++◌, length, codes, decimal, nat_eq, refl, sym, ap, ◌∙◌, subst, arith}
use Rattle.std.specs.List.{list_all, starts_with}
use Rattle.std.proofs.lemmas.Bool.{and_from, and_parts, not-true}
use Rattle.std.proofs.lemmas.Bool.Decides.{nat_tests}
use Rattle.std.proofs.lemmas.List.{append_assoc, append-nil}
use Rattle.explorer_model.specs.declared.chess.Move.{Move}
use Rattle.explorer_model.specs.declared.chess.Position.{Position}
use Rattle.explorer_model.specs.Chess.{start, after}
use Rattle.explorer_model.specs.Cuts.{Parted, cuts, cuts_from, cuts_of, event, mark, onto, parted, preamble}
use Rattle.explorer_model.specs.Items.{begins_symbol, continues_symbol}
use Rattle.rand_pcg.specs.Lcg.{Lcg}
use Rattle.sample_games.specs.Samples.{Header, IsSample, WritesMoves, date_text, drawn, header_drawn, header_text, id_text, later, number_text, player_text, tag_line}
use Rattle.sample_games.specs.Streams.{AreSamples, joined}
use Rattle.sample_games.proofs.HasGame.{IsDrawn, drawn-legal}
use Rattle.sample_games.proofs.HeaderLines.{behind_event, black, black_elo, control, date, event_tag, grouped, result, site, white, white_elo}
use Rattle.sample_games.proofs.Pairs.{is_plain}
use Rattle.sample_games.proofs.Symbols.{IsSymbol}
use Rattle.sample_games.proofs.Tags.{IsResult, IsSound, decimal-plain, player-plain, site-plain, sound}
use Rattle.sample_games.proofs.Words.{decimal-begins, san-begins, all-append}

-- ---- lines

-- a byte that ends no line
abbrev is_inside : ℕ → Bool
is_inside b = not (b == 10)

-- it begins no tag either
abbrev is_quiet : ℕ → Bool
is_quiet b = not (b == 10) && not (nat_eq 91 b)

all-weaker : (p q : ℕ → Bool) → ((b : ℕ) → p b ≡ true → q b ≡ true) → (xs : List ℕ) → list_all p xs ≡ true → list_all q xs ≡ true
all-weaker p q step [] h = refl
all-weaker p q step (b ∷ xs) h =
    and_from (q b) (list_all q xs) (step b (and_parts (p b) (list_all p xs) h).0) (all-weaker p q step xs (and_parts (p b) (list_all p xs) h).1)

-- the bytes before those that are parted, none of which begins a text
abbrev glue : List ℕ → Parted → Parted
glue bytes parts = record { before = bytes ++ parts.before; texts = parts.texts }

-- whole lines, in which no text begins
abbrev AreLines : List ℕ → Type 0
AreLines bytes = (rest : List ℕ) → parted true (bytes ++ rest) ≡ glue bytes (parted true rest)

ends-line : (bytes rest : List ℕ) → list_all is_inside bytes ≡ true → parted false (bytes ++ 10 ∷ rest) ≡ glue (bytes ++ 10 ∷ []) (parted true rest)
unfolding parted onto
ends-line [] rest h = refl
ends-line (b ∷ bytes) rest h =
    let inside : (b == 10) ≡ false = not-true (b == 10) (and_parts (is_inside b) (list_all is_inside bytes) h).0 in
    ap (λ (fresh : Bool). onto false b (parted fresh (bytes ++ 10 ∷ rest))) inside
    ∙ ap (onto false b) (ends-line bytes rest (and_parts (is_inside b) (list_all is_inside bytes) h).1)

-- a line that does not begin as a text does
is-line : (b : ℕ) (bytes : List ℕ) → list_all is_inside (b ∷ bytes) ≡ true → ((rest : List ℕ) → starts_with nat_eq (b ∷ bytes ++ rest) event ≡ false) → AreLines (b ∷ bytes ++ 10 ∷ [])
unfolding parted onto
is-line b bytes h starts rest =
    let inside : (b == 10) ≡ false = not-true (b == 10) (and_parts (is_inside b) (list_all is_inside bytes) h).0 in
    let more : (bytes ++ 10 ∷ []) ++ rest ≡ bytes ++ 10 ∷ rest = append_assoc bytes (10 ∷ []) rest in
    ap (λ (l : List ℕ). parted true (b ∷ l)) more
    ∙ (ap (λ (begins : Bool). onto begins b (parted (b == 10) (bytes ++ 10 ∷ rest))) (starts (10 ∷ rest))
    ∙ (ap (λ (fresh : Bool). onto false b (parted fresh (bytes ++ 10 ∷ rest))) inside
    ∙ ap (onto false b) (ends-line bytes rest (and_parts (is_inside b) (list_all is_inside bytes) h).1)))

blank-line : AreLines (10 ∷ [])
unfolding parted onto
blank-line rest = refl

lines-append : (xs ys : List ℕ) → AreLines xs → AreLines ys → AreLines (xs ++ ys)
lines-append xs ys first second rest =
    ap (parted true) (append_assoc xs ys rest)
    ∙ (first (ys ++ rest) ∙ (ap (glue xs) (second rest)
    ∙ ap (λ (front : List ℕ). record { before = front; texts = (parted true rest).texts }) (sym (append_assoc xs ys (parted true rest).before))))

-- ---- tags

plain-inside : (b : ℕ) → is_plain b ≡ true → is_inside b ≡ true
plain-inside b h = grind (arith, nat_tests, h)

tag-is-line : (name value : List ℕ) → tag_line name value ≡ 91 ∷ (name ++ 32 ∷ 34 ∷ (value ++ 34 ∷ 93 ∷ [])) ++ 10 ∷ []
tag-is-line name value =
    ap (λ (bytes : List ℕ). 91 ∷ bytes)
    (append_assoc (name ++ codes " \"") value (34 ∷ 93 ∷ 10 ∷ [])
    ∙ (append_assoc name (codes " \"") (value ++ 34 ∷ 93 ∷ 10 ∷ [])
    ∙ (ap (λ (bytes : List ℕ). name ++ 32 ∷ 34 ∷ bytes) (sym (append_assoc value (34 ∷ 93 ∷ []) (10 ∷ [])))
    ∙ sym (append_assoc name (32 ∷ 34 ∷ (value ++ 34 ∷ 93 ∷ [])) (10 ∷ [])))))

tag-line : (name value : List ℕ) → list_all is_inside name ≡ true → list_all is_plain value ≡ true → ((rest : List ℕ) → starts_with nat_eq (91 ∷ name ++ rest) event ≡ false)
    → AreLines (tag_line name value)
tag-line name value named valued starts =
    let inside : list_all is_inside (name ++ 32 ∷ 34 ∷ (value ++ 34 ∷ 93 ∷ [])) ≡ true =
    all-append is_inside name (32 ∷ 34 ∷ (value ++ 34 ∷ 93 ∷ [])) named (all-append is_inside value (34 ∷ 93 ∷ []) (all-weaker is_plain is_inside plain-inside value valued) refl) in
    subst AreLines (sym (tag-is-line name value))
    (is-line 91 (name ++ 32 ∷ 34 ∷ (value ++ 34 ∷ 93 ∷ [])) inside
    (λ rest. ap (λ (bytes : List ℕ). starts_with nat_eq (91 ∷ bytes) event) (append_assoc name (32 ∷ 34 ∷ (value ++ 34 ∷ 93 ∷ [])) rest) ∙ starts (32 ∷ 34 ∷ (value ++ 34 ∷ 93 ∷ []) ++ rest)))

-- a text begins at an Event tag
event-line : (rest : List ℕ) → parted true (event_tag ++ rest) ≡ record { before = []; texts = (event_tag ++ (parted true rest).before) ∷ (parted true rest).texts }
unfolding parted onto
event-line rest = refl

-- ---- movetexts

symbol-quiet : (b : ℕ) → continues_symbol b ≡ true → is_quiet b ≡ true
symbol-quiet b h = grind (arith, nat_tests, h)

begins-quiet : (b : ℕ) → begins_symbol b ≡ true → is_quiet b ≡ true
begins-quiet b h = grind (arith, nat_tests, h)

quiet-inside : (b : ℕ) → is_quiet b ≡ true → is_inside b ≡ true
quiet-inside b h = (and_parts (is_inside b) (not (nat_eq 91 b)) h).0

symbols-quiet : (b : ℕ) (more : List ℕ) → IsSymbol b more → list_all is_quiet (b ∷ more) ≡ true
symbols-quiet b more symbol =
    and_from (is_quiet b) (list_all is_quiet more) (begins-quiet b symbol.begins) (all-weaker continues_symbol is_quiet symbol-quiet more symbol.goes_on)

number-quiet : (white : Bool) (n : ℕ) → n < 2 ^ 64 → list_all is_quiet (cond white (decimal n ++ codes ". ") []) ≡ true
number-quiet false n lt = refl
number-quiet true n lt =
    let number = decimal-begins n lt in
    all-append is_quiet (decimal n) (codes ". ") (ap (list_all is_quiet) number.is ∙ symbols-quiet number.first number.more number.symbol) refl

moves-quiet : (p : Position) (ply : ℕ) (moves : List Move) (text : List ℕ) → WritesMoves p ply moves text → ply + length moves ≤ 1024 → list_all is_quiet text ≡ true
moves-quiet p ply [] text none few = ap (list_all is_quiet) none
moves-quiet p ply (m ∷ moves) text writes few =
    let san = san-begins p m writes.0 m.from.on_board m.to.on_board writes.2 in
    let word : list_all is_quiet writes.0 ≡ true = ap (list_all is_quiet) san.is ∙ symbols-quiet san.first san.more san.symbol in
    let more : list_all is_quiet writes.1 ≡ true = moves-quiet (after p m) (ply + 1) moves writes.1 writes.3 (omega (arith, few)) in
    ap (list_all is_quiet) writes.4
    ∙ all-append is_quiet (number_text ply ++ writes.0 ++ codes " ") writes.1
    (all-append is_quiet (number_text ply ++ writes.0) (codes " ")
    (all-append is_quiet (number_text ply) writes.0 (number-quiet (ply % 2 == 0) (ply / 2 + 1) (omega (arith, few))) word) refl) more

quiet-line : (bytes : List ℕ) → list_all is_quiet bytes ≡ true → AreLines (bytes ++ 10 ∷ [])
quiet-line [] h = blank-line
quiet-line (b ∷ bytes) h =
    let none : nat_eq 91 b ≡ false = not-true (nat_eq 91 b) (and_parts (is_inside b) (not (nat_eq 91 b)) (and_parts (is_quiet b) (list_all is_quiet bytes) h).0).1 in
    is-line b bytes (all-weaker is_quiet is_inside quiet-inside (b ∷ bytes) h) (λ rest. rw none refl)

-- ---- samples

tags-lines : (index : ℕ) (header : Header) → IsSound header → (rest : List ℕ) → AreLines rest → AreLines (behind_event index header rest)
tags-lines index header s rest lines =
    let control_on = control index header ++ rest in
    let black_elo_on = black_elo index header ++ control_on in
    let white_elo_on = white_elo index header ++ black_elo_on in
    let date_on = date index header ++ white_elo_on in
    let result_on = result index header ++ date_on in
    let black_on = black index header ++ result_on in
    let white_on = white index header ++ black_on in
    lines-append (site index header) white_on
    (tag-line (codes "Site") (codes "https://lichess.org/" ++ id_text index) refl (site-plain index) (λ more. refl))
    (lines-append (white index header) black_on
    (tag-line (codes "White") (player_text 119 index) refl (player-plain 119 index refl) (λ more. refl))
    (lines-append (black index header) result_on
    (tag-line (codes "Black") (player_text 98 index) refl (player-plain 98 index refl) (λ more. refl))
    (lines-append (result index header) date_on
    (tag-line (codes "Result") header.result refl s.result.plain (λ more. refl))
    (lines-append (date index header) white_elo_on
    (tag-line (codes "UTCDate") (date_text header.month) refl s.date.plain (λ more. refl))
    (lines-append (white_elo index header) black_elo_on
    (tag-line (codes "WhiteElo") (decimal header.white_rating) refl (decimal-plain header.white_rating (omega (arith, s.white))) (λ more. refl))
    (lines-append (black_elo index header) control_on
    (tag-line (codes "BlackElo") (decimal header.black_rating) refl (decimal-plain header.black_rating (omega (arith, s.black))) (λ more. refl))
    (lines-append (control index header) rest
    (tag-line (codes "TimeControl") header.time_control refl s.control.plain (λ more. refl)) lines)))))))

-- a text of lines behind an Event tag
record IsWhole (text : List ℕ) : Type 0 where
  more : List ℕ
  is : text ≡ event_tag ++ more
  lines : AreLines more

result-quiet : (text : List ℕ) (result : IsResult text) → list_all is_quiet text ≡ true
result-quiet text result = ap (list_all is_quiet) result.is ∙ symbols-quiet result.first result.more result.symbol

is-whole : (index : ℕ) (before behind : Lcg) (text : List ℕ) → IsSample index before text behind → IsWhole text
is-whole index before behind text sample =
    let header : Header = header_drawn sample.played in
    let s : IsSound header = sound sample.played in
    let drawing : IsDrawn (20 + drawn 41 before) start sample.moves = drawn-legal (20 + drawn 41 before) start (later before) sample.moves sample.played sample.draws in
    let few : length sample.moves ≤ 1024 = omega (arith, drawing.few) in
    let quiet : list_all is_quiet (sample.movetext ++ header.result) ≡ true =
    all-append is_quiet sample.movetext header.result (moves-quiet start 0 sample.moves sample.movetext sample.writes (omega (arith, few))) (result-quiet header.result s.result) in
    let line : List ℕ = (sample.movetext ++ header.result) ++ 10 ∷ [] in
    let tail : List ℕ = 10 ∷ (line ++ 10 ∷ []) in
    let tail_lines : AreLines tail =
    lines-append (10 ∷ line) (10 ∷ []) (lines-append (10 ∷ []) line blank-line (quiet-line (sample.movetext ++ header.result) quiet)) blank-line in
    record {
      more = behind_event index header tail;
      is =
          sample.text_is
          ∙ (append_assoc (header_text index header ++ codes "\n" ++ sample.movetext) header.result (codes "\n\n")
          ∙ (append_assoc (header_text index header ++ codes "\n") sample.movetext (header.result ++ codes "\n\n")
          ∙ (append_assoc (header_text index header) (codes "\n") (sample.movetext ++ (header.result ++ codes "\n\n"))
          ∙ (grouped index header (10 ∷ (sample.movetext ++ (header.result ++ codes "\n\n")))
          ∙ ap (λ (l : List ℕ). event_tag ++ behind_event index header (10 ∷ l))
          (sym (append_assoc (sample.movetext ++ header.result) (10 ∷ []) (10 ∷ []) ∙ append_assoc sample.movetext header.result (codes "\n\n")))))));
      lines = tags-lines index header s tail tail_lines;
    }

-- ---- streams of samples

whole-parted : (text rest : List ℕ) → IsWhole text → parted true (text ++ rest) ≡ record { before = []; texts = (text ++ (parted true rest).before) ∷ (parted true rest).texts }
whole-parted text rest whole =
    let texts : List (List ℕ) → List ℕ → Parted = λ others first. record { before = []; texts = first ∷ others } in
    ap (λ (l : List ℕ). parted true (l ++ rest)) whole.is
    ∙ (ap (parted true) (append_assoc event_tag whole.more rest)
    ∙ (event-line (whole.more ++ rest)
    ∙ (ap (λ (parts : Parted). record { before = []; texts = (event_tag ++ parts.before) ∷ parts.texts }) (whole.lines rest)
    ∙ (ap (texts (parted true rest).texts) (sym (append_assoc event_tag whole.more (parted true rest).before))
    ∙ ap (λ (l : List ℕ). texts (parted true rest).texts (l ++ (parted true rest).before)) (sym whole.is)))))

samples-parted : (first : ℕ) (before behind : Lcg) (texts : List (List ℕ)) → AreSamples first before texts behind → parted true (joined texts) ≡ record { before = []; texts = texts }
unfolding parted
samples-parted first before behind [] are = refl
samples-parted first before behind (text ∷ texts) are =
    whole-parted text (joined texts) (is-whole first before are.0 text are.1)
    ∙ (ap (λ (parts : Parted). record { before = []; texts = (text ++ parts.before) ∷ parts.texts }) (samples-parted (first + 1) are.0 behind texts are.2)
    ∙ ap (λ (l : List ℕ). record { before = []; texts = l ∷ texts }) (append-nil text))

no-mark : (first : ℕ) (before behind : Lcg) (texts : List (List ℕ)) → AreSamples first before texts behind → starts_with nat_eq (joined texts) mark ≡ false
no-mark first before behind [] are = refl
no-mark first before behind (text ∷ texts) are =
    ap (λ (l : List ℕ). starts_with nat_eq (l ++ joined texts) mark) (is-whole first before are.0 text are.1).is

pub samples-cut : (first : ℕ) (before behind : Lcg) (texts : List (List ℕ)) → AreSamples first before texts behind → cuts (joined texts) ≡ cuts_of 0 texts
unfolding cuts cuts_from preamble
samples-cut first before behind texts are =
    rw (no-mark first before behind texts are)
    (ap (λ (parts : Parted). preamble 0 parts.before ++ cuts_of (0 + length parts.before) parts.texts) (samples-parted first before behind texts are))
