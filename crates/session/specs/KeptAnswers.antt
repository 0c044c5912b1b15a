-- Bridge: answers that are kept.
use Rattle.std.specs.Prelude.{◌≡◌, ⊤, ℕ, List, length, Contains, Option, None, Some}
use Rattle.lru.specs.LruCache.{LruCache}
use Rattle.explorer_model.specs.declared.archive.Batch.{Batch}
use Rattle.explorer_model.specs.Openings.{NamedPosition}
use Rattle.explorer_model.specs.Players.{IsPlayerFoundIn}
use Rattle.explorer_model.specs.Replies.{IsNamedFoundIn}
use Rattle.session.specs.declared.kept_answers.Asking.{Asking}
use Rattle.session.specs.declared.kept_answers.Asking.TheVariants.{Games, Player}

-- what was asked by a query string, the journal that it was answered over, the book that the answer is
-- named by, and the body
pub record KeptAnswer : Type 0 where
  pub asking : Asking
  pub text : List ℕ
  pub journal : List Batch
  pub book : List NamedPosition
  pub body : List ℕ

-- the body answers the query string over the journal, by the book, where this is asked by it
abbrev pub IsBodyFor : Asking → List NamedPosition → List ℕ → List Batch → List ℕ → Type 0
IsBodyFor Games book text journal body = IsNamedFoundIn book text journal (length journal) body
IsBodyFor Player book text journal body = IsPlayerFoundIn book text journal (length journal) body

-- all answers that are kept are named by the book
abbrev pub AreNamedBy : List NamedPosition → Option (LruCache ℕ KeptAnswer) → Type 0
AreNamedBy book None = ⊤
AreNamedBy book (Some kept) =
    (entry : ℕ × KeptAnswer) → Contains kept.entries entry → entry.1.book ≡ book
