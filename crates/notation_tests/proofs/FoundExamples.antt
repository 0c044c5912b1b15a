-- What is found for a query in a journal, and what an import makes of a stream, from the bytes of the texts on.
use Rattle.std.specs.Bool.{⊤}
use Rattle.std.proofs.Common.{subst, sym, Result, ◌≢◌, ◌≤◌, length, lit<, lit≤, ap, arith, is_ok, slice_index, true≢false, ℕ, ◌++◌, true, false, List, [], ◌∷◌, replicate, Some, None, Ok, Err, codes, refl, inl, inr}
use Rattle.std.specs.List.{AllZip, repeat}
use Rattle.std.proofs.lemmas.List.Elements.{All-cons, All-nil}
use Rattle.std.proofs.lemmas.List.Kept.{AllPairs-cons}
use Rattle.std.proofs.lemmas.Bool.Decides.{not_from_Decides}
use Rattle.explorer_model.specs.declared.answer.Listed.{Listed}
use Rattle.explorer_model.specs.declared.answer.MoveLine.{MoveLine}
use Rattle.explorer_model.specs.declared.archive.Batch.{Batch}
use Rattle.explorer_model.specs.declared.archive.Classes.{Classes}
use Rattle.explorer_model.specs.declared.archive.Game.{Game}
use Rattle.explorer_model.specs.declared.archive.Mode.TheVariants.{Rated}
use Rattle.explorer_model.specs.declared.archive.Outcome.TheVariants as outcomes
use Rattle.explorer_model.specs.declared.archive.Speed.TheVariants.{Blitz}
use Rattle.explorer_model.specs.declared.chess.Color.TheVariants.{Black}
use Rattle.explorer_model.specs.declared.chess.Move.{Move}
use Rattle.explorer_model.specs.declared.chess.Position.{Position}
use Rattle.explorer_model.specs.declared.chess.Role.TheVariants.{Pawn}
use Rattle.explorer_model.specs.declared.fault.GameFault.{GameFault}
use Rattle.explorer_model.specs.declared.fault.GameFault.TheVariants.{NoTermination}
use Rattle.explorer_model.specs.declared.fault.Why.TheVariants as causes
use Rattle.explorer_model.specs.declared.notation.CheckMark.TheVariants as marks
use Rattle.explorer_model.specs.declared.notation.Start.TheVariants.{Unnamed}
use Rattle.explorer_model.specs.declared.query.Query.{Query}
use Rattle.explorer_model.specs.Best.{best, best_one, others}
use Rattle.explorer_model.specs.Chess.{after, start, Same}
use Rattle.explorer_model.specs.Counting.{games_with_move, months_counted, moves_played, passes, take_all}
use Rattle.explorer_model.specs.Cuts.{cut_at, cuts, cuts_from, cuts_of, is_white_space, onto, parted, preamble}
use Rattle.explorer_model.specs.Finds.{IsFound}
use Rattle.explorer_model.specs.Games.{Score, GameOf, GameOfScore}
use Rattle.explorer_model.specs.Labels.{no_label}
use Rattle.explorer_model.specs.Imports.{Accounted, Examination, Read, Unread, groups, verdicts_from, verdicts_in_turn}
use Rattle.explorer_model.specs.Journal.{IsBatch, IsSound}
use Rattle.explorer_model.specs.San.{SanReads, SanText}
use Rattle.explorer_model.specs.Visits.{IsTextOf}
use Rattle.explorer_model.proofs.LabelLemmas.{none-is-label}
use Rattle.legal_moves.proofs.StartIsValid.{start_is_valid}
use Rattle.chess_reference.proofs.Boards.{boards_compute, uci}
use Rattle.chess_reference.proofs.DecisionLemmas.{apart_by, decides-in_check, decides-legal}
use Rattle.san_codec.proofs.Law.{move_reads}
use Rattle.notation_tests.proofs.Examples.{a-quiet-move}
use Rattle.notation_tests.proofs.GameExamples.{a-game-of-one-move, ann_and_bob, heading, heading-of, texts_compute}

-- ---- two games: 1. e4 1-0 in January, and 1. d4 0-1 in February

unfoldable pub e4 : Move
e4 = uci (codes "e2e4")

unfoldable pub d4 : Move
d4 = uci (codes "d2d4")

unfoldable pub text-of-e4 : List ℕ
text-of-e4 = heading ++ codes "1. e4 1-0\n"

unfoldable pub text-of-d4 : List ℕ
text-of-d4 = heading-of (codes "abcdEF13") (codes "0-1") (codes "2020.02.01") ++ codes "1. d4 0-1\n"

unfoldable pub later : Classes
later = record {
  id = record { bytes = codes "abcdEF13" };
  white = record { name = codes "Ann"; rating = 1500 };
  black = record { name = codes "Bob"; rating = 1400 };
  outcome = outcomes.Black;
  mode = Rated;
  speed = Blitz;
  group = record { value = 1400 };
  month = record { year = 2020; month = 2 };
}

unfoldable pub game-of-e4 : Game
game-of-e4 = record { classes = ann_and_bob; root = start; moves = e4 ∷ [] }

unfoldable pub game-of-d4 : Game
game-of-d4 = record { classes = later; root = start; moves = d4 ∷ [] }

pub d4-is-read : SanReads start (codes "d4") (Ok d4)
unfolding boards_compute d4
d4-is-read = move_reads start d4 (codes "d4") [] start_is_valid ((decides-legal start d4).0 refl) (inr (refl, (Pawn, Unnamed, refl, refl, refl))) refl

pub d4-is-written : SanText start d4 (codes "d4")
unfolding boards_compute d4
d4-is-written = (codes "d4", marks.Quiet, inr (refl, (Pawn, Unnamed, refl, refl, refl)), not_from_Decides _ (decides-in_check (after start d4).squares Black) refl, refl)

pub the-text-of-e4 : GameOf text-of-e4 (Ok game-of-e4)
unfolding text-of-e4 game-of-e4 e4
the-text-of-e4 = a-game-of-one-move

pub the-text-of-d4 : GameOf text-of-d4 (Ok game-of-d4)
unfolding texts_compute text-of-d4 game-of-d4 later d4
the-text-of-d4 = (_, (Ok start, refl, refl), (Ok (d4 ∷ []), inl (d4, Ok [], d4-is-read, refl, refl), refl))

-- ---- what is found

journal : List Batch
journal = record { label = no_label; texts = text-of-e4 ∷ text-of-d4 ∷ [] } ∷ []

pub itself : (p : Position) → Same p p
itself p = (refl, refl, refl, λ s. (λ h. h, λ h. h))

-- what is unfolded where answers compute
unfoldable answers_compute : ⊤
unfolding boards_compute passes games_with_move moves_played months_counted best best_one others game-of-e4 game-of-d4 ann_and_bob later e4 d4
answers_compute = tt

unfoldable pub listed-e4 : Listed
listed-e4 = record { next = e4; classes = ann_and_bob }

unfoldable pub listed-d4 : Listed
listed-d4 = record { next = d4; classes = later }

at-start : Query
at-start = record { root = start; plays = []; at = start; filter = take_all; moves = 12; top = 4; recent = 4; history = false }

nothing-in-an-empty-journal : IsFound [] at-start (record { totals = record { white = 0; draws = 0; black = 0 }; moves = []; top = []; recent = []; history = None })
unfolding answers_compute at-start
nothing-in-an-empty-journal = record {
  games = [];
  are_games = tt;
  answer = record { games_at = []; are_games_at = tt; recount = record { totals = refl; moves = tt; top = refl; recent = refl; history = refl } };
}

line-of-e4 : MoveLine
line-of-e4 = record { next = e4; san = codes "e4"; average = 1500; totals = record { white = 1; draws = 0; black = 0 }; game = Some listed-e4 }

line-of-d4 : MoveLine
line-of-d4 = record { next = d4; san = codes "d4"; average = 1500; totals = record { white = 0; draws = 0; black = 1 }; game = Some listed-d4 }

-- of moves with equal totals d2d4 is first; the ratings are equal too, so the first game is first, and February is later
both-games : IsFound journal at-start (record {
  totals = record { white = 1; draws = 0; black = 1 };
  moves = line-of-d4 ∷ line-of-e4 ∷ [];
  top = listed-e4 ∷ listed-d4 ∷ [];
  recent = listed-d4 ∷ listed-e4 ∷ [];
  history = None;
})
unfolding answers_compute at-start journal listed-e4 listed-d4 line-of-e4 line-of-d4
both-games = record {
  games = game-of-e4 ∷ game-of-d4 ∷ [];
  are_games = (the-text-of-e4, (the-text-of-d4, tt));
  answer = record {
    games_at = record { classes = ann_and_bob; visit = Some (Some e4) } ∷ record { classes = later; visit = Some (Some d4) } ∷ [];
    are_games_at = ((refl, inl (itself start, refl)), ((refl, inl (itself start, refl)), tt));
    recount = record {
      totals = refl;
      moves = (
        record { next = refl; san = d4-is-written; average = refl; totals = refl; game = refl },
        (record { next = refl; san = a-quiet-move; average = refl; totals = refl; game = refl }, tt),
      );
      top = refl;
      recent = refl;
      history = refl;
    };
  };
}

-- since February, and at most one game by rating and none by month
since-february : Query
since-february = record {
  root = start;
  plays = [];
  at = start;
  filter = record { speeds = replicate 6 true; groups = replicate 9 true; since = Some (record { year = 2020; month = 2 }); until = None };
  moves = 12;
  top = 1;
  recent = 0;
  history = true;
}

the-game-of-february : IsFound journal since-february (record {
  totals = record { white = 0; draws = 0; black = 1 };
  moves = line-of-d4 ∷ [];
  top = listed-d4 ∷ [];
  recent = [];
  history = Some (record { month = record { year = 2020; month = 2 }; totals = record { white = 0; draws = 0; black = 1 } } ∷ []);
})
unfolding answers_compute since-february journal listed-d4 line-of-d4
the-game-of-february = record {
  games = game-of-e4 ∷ game-of-d4 ∷ [];
  are_games = (the-text-of-e4, (the-text-of-d4, tt));
  answer = record {
    games_at = record { classes = ann_and_bob; visit = Some (Some e4) } ∷ record { classes = later; visit = Some (Some d4) } ∷ [];
    are_games_at = ((refl, inl (itself start, refl)), ((refl, inl (itself start, refl)), tt));
    recount = record {
      totals = refl;
      moves = (record { next = refl; san = d4-is-written; average = refl; totals = refl; game = refl }, tt);
      top = refl;
      recent = refl;
      history = refl;
    };
  };
}

-- after 1. e4: the game ends there, so that it is counted and no move is shown; the other one does not come there
behind-e4 : Query
behind-e4 = record { root = start; plays = e4 ∷ []; at = after start e4; filter = take_all; moves = 12; top = 4; recent = 4; history = false }

a-game-that-ends-there : IsFound journal behind-e4 (record { totals = record { white = 1; draws = 0; black = 0 }; moves = []; top = []; recent = []; history = None })
unfolding answers_compute behind-e4 journal
a-game-that-ends-there = record {
  games = game-of-e4 ∷ game-of-d4 ∷ [];
  are_games = (the-text-of-e4, (the-text-of-d4, tt));
  answer = record {
    games_at = record { classes = ann_and_bob; visit = Some None } ∷ record { classes = later; visit = None } ∷ [];
    are_games_at = (
      (refl, inr (apart_by start (after start e4) 28 refl refl, inl (itself (after start e4), refl))),
      ((refl, inr (apart_by start (after start e4) 28 refl refl, inr (apart_by (after start d4) (after start e4) 28 refl refl, refl))), tt),
    );
    recount = record { totals = refl; moves = tt; top = refl; recent = refl; history = refl };
  };
}

-- ---- what an import makes of a stream

-- what is unfolded where streams are cut and judged
unfoldable imports_compute : ⊤
unfolding texts_compute cuts cuts_from preamble parted onto is_white_space cuts_of cut_at groups verdicts_from verdicts_in_turn text-of-e4 text-of-d4 game-of-e4 game-of-d4 ann_and_bob later
imports_compute = tt

nothing-is-imported : Accounted no_label [] (groups (cuts (codes "\n"))) [] []
unfolding imports_compute
nothing-is-imported = record { examinations = []; are_examinations = tt; yields = record { batches_are = refl; refused_are = refl } }

-- each of the two texts has 200 bytes
read-e4 : ℕ → Examination
read-e4 place = Read (record { place = place; text = text-of-e4; game = Ok game-of-e4 })

read-d4 : ℕ → Examination
read-d4 place = Read (record { place = place; text = text-of-d4; game = Ok game-of-d4 })

-- both are one batch
two-texts : Accounted no_label [] (groups (cuts (text-of-e4 ++ text-of-d4))) (record { label = no_label; texts = text-of-e4 ∷ text-of-d4 ∷ [] } ∷ []) []
unfolding imports_compute read-e4 read-d4
two-texts = record {
  examinations = (read-e4 0 ∷ read-d4 200 ∷ []) ∷ [];
  are_examinations = (((Ok game-of-e4, the-text-of-e4, refl), ((Ok game-of-d4, the-text-of-d4, refl), tt)), tt);
  yields = record { batches_are = refl; refused_are = refl };
}

-- the first has its id twice in the stream, and the other one is stored already, as the game with the number 0
a-text-twice-and-a-stored-one : Accounted no_label (game-of-d4 ∷ []) (groups (cuts (text-of-e4 ++ (text-of-e4 ++ text-of-d4))))
    (record { label = no_label; texts = text-of-e4 ∷ [] } ∷ [])
    (record { place = 200; why = causes.Twice 0 } ∷ record { place = 400; why = causes.Repeated 0 } ∷ [])
unfolding imports_compute read-e4 read-d4
a-text-twice-and-a-stored-one = record {
  examinations = (read-e4 0 ∷ read-e4 200 ∷ read-d4 400 ∷ []) ∷ [];
  are_examinations = (((Ok game-of-e4, the-text-of-e4, refl), ((Ok game-of-e4, the-text-of-e4, refl), ((Ok game-of-d4, the-text-of-d4, refl), tt))), tt);
  yields = record { batches_are = refl; refused_are = refl };
}

-- what stands before the first text, and a text that is cut off, are refused; where no text is stored there is no batch
all-is-refused : Accounted no_label [] (groups (cuts (codes "% \n" ++ heading ++ codes "1. e4"))) []
    (record { place = 0; why = causes.Preamble } ∷ record { place = 3; why = causes.Game NoTermination } ∷ [])
unfolding imports_compute
all-is-refused = record {
  examinations = (Unread (record { place = 0; why = causes.Preamble })
      ∷ Read (record { place = 3; text = heading ++ codes "1. e4"; game = Err NoTermination }) ∷ []) ∷ [];
  are_examinations = ((refl, ((Err NoTermination, (_, (Ok start, refl, refl), refl), refl), tt)), tt);
  yields = record { batches_are = refl; refused_are = refl };
}

-- ---- batches and journals that imports make

abbrev IsShort : List ℕ → Type 0
IsShort text = length text ≤ 65536

two-texts-in-a-batch : IsBatch (record { label = no_label; texts = text-of-e4 ∷ text-of-d4 ∷ [] })
unfolding texts_compute text-of-e4 text-of-d4
two-texts-in-a-batch = record {
  label = none-is-label;
  some = lit< tt;
  few = lit≤ tt;
  short = All-cons IsShort text-of-e4 (text-of-d4 ∷ []) (lit≤ tt) (All-cons IsShort text-of-d4 [] (lit≤ tt) (All-nil IsShort));
  games = game-of-e4 ∷ game-of-d4 ∷ [];
  are_games = (the-text-of-e4, (the-text-of-d4, tt));
}

a-batch-has-a-text : ¬ IsBatch (record { label = no_label; texts = [] })
a-batch-has-a-text h = let some = h.some in absurd (omega (arith, some))

a-batch-has-512-at-most : ¬ IsBatch (record { label = no_label; texts = repeat 513 ((42 ∷ []) ∷ []) })
a-batch-has-512-at-most h = let few = h.few in absurd (omega (arith, few))

-- a text that is cut off has no game
no-game : (games : List Game) → AllZip IsTextOf ((heading ++ codes "1. e4") ∷ []) games → ⊥
unfolding texts_compute
no-game [] h = h
no-game (game ∷ games) ((scored, (Ok root, begins, same), is), rest) =
    let P : Result Score GameFault → Type 0 = λ r. GameOfScore r (Ok game) in true≢false (ap is_ok (subst P same is))
no-game (game ∷ games) ((scored, (Err fault, begins, same), is), rest) = true≢false (ap is_ok (sym begins))

each-text-has-a-game : ¬ IsBatch (record { label = no_label; texts = (heading ++ codes "1. e4") ∷ [] })
each-text-has-a-game h = no-game h.games h.are_games

nothing-is-sound : IsSound []
nothing-is-sound = record {
  batches = All-nil IsBatch;
  games = [];
  are_games = tt;
  different = λ i j d before below. absurd (omega (arith, below));
  within = (lit≤ tt, lit≤ tt);
}

abbrev HaveOtherIds : Classes → Classes → Type 0
HaveOtherIds a b = a.id.bytes ≢ b.id.bytes

-- ids that differ in their last letter
other-ids : HaveOtherIds ann_and_bob later
unfolding ann_and_bob later
other-ids same = let last = ap (λ (id : List ℕ). slice_index id 7) same in absurd (omega (arith, last))

two-games-are-sound : IsSound journal
unfolding journal texts_compute text-of-e4 text-of-d4 game-of-e4 game-of-d4
two-games-are-sound = record {
  batches = All-cons IsBatch (record { label = no_label; texts = text-of-e4 ∷ text-of-d4 ∷ [] }) [] two-texts-in-a-batch (All-nil IsBatch);
  games = game-of-e4 ∷ game-of-d4 ∷ [];
  are_games = (the-text-of-e4, (the-text-of-d4, tt));
  different =
      AllPairs-cons HaveOtherIds ann_and_bob (later ∷ [])
      (All-cons (HaveOtherIds ann_and_bob) later [] other-ids (All-nil (HaveOtherIds ann_and_bob)))
      (AllPairs-cons HaveOtherIds later [] (All-nil (HaveOtherIds later)) (λ i j d before below. absurd (omega (arith, below))));
  within = (lit≤ tt, lit≤ tt);
}

an-empty-batch-is-not-sound : ¬ IsSound (record { label = no_label; texts = [] } ∷ [])
an-empty-batch-is-not-sound h = a-batch-has-a-text (h.batches 0 (record { label = no_label; texts = [] }) (lit< tt))

a-text-without-a-game-is-not-sound : ¬ IsSound (record { label = no_label; texts = (heading ++ codes "1. e4") ∷ [] } ∷ [])
a-text-without-a-game-is-not-sound h = each-text-has-a-game (h.batches 0 (record { label = no_label; texts = [] }) (lit< tt))
