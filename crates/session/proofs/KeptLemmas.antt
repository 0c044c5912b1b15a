-- All answers that a map keeps are named by one book.
use Rattle.std.proofs.Common.{◌≡◌, ◌⊎◌, ◌∙◌, ℕ, Bool, List, Contains, Option, None, Some, Result, Ok, Err, inl, inr, ap, subst, sym}
use Rattle.std.specs.Prelude.{IfSome, OnErr, OnOk}
use Rattle.std.specs.Borrow.{Bor}
use Rattle.std.specs.Map.{lookup}
use Rattle.std.specs.Option.{option_copied}
use Rattle.lru.specs.LruCache.{LruCache, lru_cache, promoted, put_entries}
use Rattle.lru.proofs.CallerLemmas.{Contains-lookup, Contains-promoted, Contains-put_entries, IsPut}
use Rattle.explorer_model.specs.Openings.{NamedPosition}
use Rattle.session.specs.KeptAnswers.{AreNamedBy, KeptAnswer}

pub promoted-named : (book : List NamedPosition) (test : ℕ → Bool) (kept new : LruCache ℕ KeptAnswer) → AreNamedBy book (Some kept)
    → new ≡ lru_cache (promoted test kept.entries) kept.cap → AreNamedBy book (Some new)
promoted-named book test kept new named is =
    λ entry has. named entry (Contains-promoted test kept.entries entry (subst (λ (c : LruCache ℕ KeptAnswer). Contains c.entries entry) is has))

put-named : (book : List NamedPosition) (eq : ℕ → ℕ → Bool) (kept new : LruCache ℕ KeptAnswer) (key : ℕ) (answer : KeptAnswer)
    → answer.book ≡ book → AreNamedBy book (Some kept) → new ≡ lru_cache (put_entries eq kept key answer) kept.cap → AreNamedBy book (Some new)
put-named book eq kept new key answer by named is =
    λ entry has. by_case entry (Contains-put_entries eq kept key answer entry (subst (λ (c : LruCache ℕ KeptAnswer). Contains c.entries entry) is has))
  where
    by_case : (entry : ℕ × KeptAnswer) → Contains kept.entries entry ⊎ IsPut eq kept key answer entry → entry.1.book ≡ book
    by_case entry (inl old) = named entry old
    by_case entry (inr put) = ap (λ (a : KeptAnswer). a.book) put.0 ∙ by

-- whether or not there was memory for it
pub put-anyhow : {V E : Type 0} (result : Result V E) (book : List NamedPosition) (eq : ℕ → ℕ → Bool) (kept new : LruCache ℕ KeptAnswer)
    (key : ℕ) (answer : KeptAnswer) → answer.book ≡ book → AreNamedBy book (Some kept)
    → OnOk result (new ≡ lru_cache (put_entries eq kept key answer) kept.cap) → OnErr result (new ≡ kept) → AreNamedBy book (Some new)
put-anyhow (Ok value) book eq kept new key answer by named stored refused = put-named book eq kept new key answer by named stored
put-anyhow (Err fault) book eq kept new key answer by named stored refused =
    subst (λ (c : LruCache ℕ KeptAnswer). AreNamedBy book (Some c)) (sym refused) named

pub found-named : (book : List NamedPosition) (test : ℕ → Bool) (kept : LruCache ℕ KeptAnswer) (found : Option (Bor KeptAnswer))
    → AreNamedBy book (Some kept) → option_copied found ≡ lookup test kept.entries → IfSome found (λ answer. answer.now.book ≡ book)
found-named book test kept None named is = tt
found-named book test kept (Some answer) named is =
    let entry = Contains-lookup test kept.entries answer.now (sym is) in
    named (entry.0, answer.now) entry.1
