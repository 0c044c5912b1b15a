-- Statement: the two orders of entries, and what they owe to `Ranking`.
use Rattle.std.specs.Prelude.{◌≡◌, ℕ, Bool, ◌||◌, ◌&&◌, ◌==◌, nat_lt}
use Rattle.std.proofs.Common.{arith}
use Rattle.std.proofs.lemmas.Bool.Decides.{nat_tests}
use Rattle.explorer_model.specs.Best.{IsStrictTotalOrder}
use Rattle.best_lists.specs.Entry.{moved_by}
use Rattle.best_lists.specs.declared.entry.Entry.{Entry}

-- the greater rank first, then the lesser number
abbrev pub before_by_rating : Entry → Entry → Bool
before_by_rating a b = nat_lt b.rank a.rank || ((a.rank == b.rank) && nat_lt a.number b.number)

-- the greater rank first, then the greater number
abbrev pub before_by_month : Entry → Entry → Bool
before_by_month a b = nat_lt b.rank a.rank || ((a.rank == b.rank) && nat_lt b.number a.number)

-- entries whose numbers are moved alike stand as they did
abbrev pub KeepsWhenMoved : (Entry → Entry → Bool) → Type 0
KeepsWhenMoved before = (by : ℕ) (a b : Entry) → before (moved_by by a) (moved_by by b) ≡ before a b

pub by_rating_is_order : IsStrictTotalOrder before_by_rating
by_rating_is_order = record {
  irreflexive = λ a. grind (arith, nat_tests);
  transitive = λ a b c. grind (arith, nat_tests);
  total = λ a b. grind (arith, nat_tests);
}

pub by_rating_keeps : KeepsWhenMoved before_by_rating
by_rating_keeps by a b = grind (arith, nat_tests)

pub by_month_is_order : IsStrictTotalOrder before_by_month
by_month_is_order = record {
  irreflexive = λ a. grind (arith, nat_tests);
  transitive = λ a b c. grind (arith, nat_tests);
  total = λ a b. grind (arith, nat_tests);
}

pub by_month_keeps : KeepsWhenMoved before_by_month
by_month_keeps by a b = grind (arith, nat_tests)
