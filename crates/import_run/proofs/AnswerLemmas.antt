-- What the answer to a commit tells by itself.
use Rattle.std.proofs.Common.{◌≡◌, ◌≢◌, ◌∙◌, ℕ, Bool, true, false, List, [], ◌∷◌, ◌++◌, length, take, Option, None, Some, Result, Ok, Err, if◌then◌else◌, refl, sym, ap, subst}
use Rattle.std.specs.Prelude.{slice_get}
use Rattle.std.proofs.lemmas.Option.{none-some}
use Rattle.plain_laws.specs.Lists.{get-between}
use Rattle.disk_model.specs.Disk.{DiskState}
use Rattle.explorer_model.specs.declared.archive.Batch.{Batch}
use Rattle.explorer_model.specs.declared.archive.Game.{Game}
use Rattle.explorer_model.specs.Imports.{numbers_of}
use Rattle.explorer_model.specs.Journal.{IsSound, byte_count, game_count}
use Rattle.explorer_model.specs.Visits.{AreGamesOf}
use Rattle.published_index.specs.Places.{Drawing}
use Rattle.tally_rows.specs.Tally.{Counted}
use Rattle.ingest_desk.specs.Causes.{HasIds, HasNoRoom, IsClosed, cause, cause_by, has_no_room}
use Rattle.ingest_desk.specs.Clashes.{clashes_of}
use Rattle.ingest_desk.specs.Commits.{CommitsBy, IsReceiptOf}
use Rattle.ingest_desk.specs.Reporting.{IsReceipt}
use Rattle.ingest_desk.specs.Stored.{Stored, journal}
use Rattle.ingest_desk.specs.declared.clashing.Clashing.{Clashing}
use Rattle.ingest_desk.specs.declared.fault.CommitFault.{CommitFault}
use Rattle.ingest_desk.specs.declared.fault.CommitFault.TheVariants as faults
use Rattle.ingest_desk.specs.declared.receipt.Receipt.{Receipt}
use Rattle.import_run.specs.Beside.{AnswersTo, IsFullFor}
use Rattle.import_run.specs.Committing.{IsClash}

-- ---- lists

take_front : (xs : List Batch) (x : Batch) → take (length xs) (xs ++ x ∷ []) ≡ xs
take_front [] x = refl
take_front (y ∷ ys) x = ap (λ (l : List Batch). y ∷ l) (take_front ys x)

-- ---- causes

closed_room : (f : ℕ × ℕ) (games bytes : ℕ) → Some (IsClosed f.0 f.1) ≡ Some (HasNoRoom games bytes) → ⊥
closed_room f games bytes e = cc

closed_ids : (f : ℕ × ℕ) (pairs : List Clashing) → Some (IsClosed f.0 f.1) ≡ Some (HasIds pairs) → ⊥
closed_ids f pairs e = cc

ids_room : (pairs : List Clashing) (games bytes : ℕ) → Some (HasIds pairs) ≡ Some (HasNoRoom games bytes) → ⊥
ids_room pairs games bytes e = cc

room_ids : (pairs : List Clashing) (games bytes : ℕ) → Some (HasNoRoom games bytes) ≡ Some (HasIds pairs) → ⊥
room_ids pairs games bytes e = cc

same_ids : (pairs others : List Clashing) → Some (HasIds pairs) ≡ Some (HasIds others) → others ≡ pairs
same_ids pairs others e = cc

same_games : (a b c d : ℕ) → Some (HasNoRoom a b) ≡ Some (HasNoRoom c d) → c ≡ a
same_games a b c d e = cc

same_bytes : (a b c d : ℕ) → Some (HasNoRoom a b) ≡ Some (HasNoRoom c d) → d ≡ b
same_bytes a b c d e = cc

module _ (stored : List Game) (journal : List Batch) (tally : Counted) (are : AreGamesOf journal stored) where
  full_by_room : (games bytes : ℕ) (b : Bool) → has_no_room journal tally.batch ≡ b → clashes_of (numbers_of stored) tally.classes ≡ []
      → (if b then Some (HasNoRoom (game_count journal) (byte_count journal)) else None) ≡ Some (HasNoRoom games bytes) → IsFullFor journal games bytes tally
  full_by_room games bytes false is none e = absurd (none-some _ e)
  full_by_room games bytes true is none e = record {
    games_are = same_games (game_count journal) (byte_count journal) games bytes e;
    bytes_are = same_bytes (game_count journal) (byte_count journal) games bytes e;
    stored = stored;
    are_stored = are;
    new = none;
    passes = is;
  }

  full_by_ids : (games bytes : ℕ) (pairs : List Clashing) → clashes_of (numbers_of stored) tally.classes ≡ pairs
      → cause_by pairs journal tally.batch ≡ Some (HasNoRoom games bytes) → IsFullFor journal games bytes tally
  full_by_ids games bytes [] is e = full_by_room games bytes (has_no_room journal tally.batch) refl is e
  full_by_ids games bytes (pair ∷ pairs) is e = absurd (ids_room (pair ∷ pairs) games bytes e)

  full : (games bytes : ℕ) (fault : Option (ℕ × ℕ)) → cause fault stored journal tally ≡ Some (HasNoRoom games bytes) → IsFullFor journal games bytes tally
  full games bytes (Some f) e = absurd (closed_room f games bytes e)
  full games bytes None e = full_by_ids games bytes (clashes_of (numbers_of stored) tally.classes) refl e

  ids_by_room : (named : List Clashing) (b : Bool) → (if b then Some (HasNoRoom (game_count journal) (byte_count journal)) else None) ≡ Some (HasIds named) → ⊥
  ids_by_room named true e = room_ids named _ _ e
  ids_by_room named false e = none-some _ e

  cons_some : (pair : Clashing) (pairs : List Clashing) → pair ∷ pairs ≡ [] → ⊥
  cons_some pair pairs e = cc

  ids_by : (named : List Clashing) (pairs : List Clashing) → clashes_of (numbers_of stored) tally.classes ≡ pairs
      → cause_by pairs journal tally.batch ≡ Some (HasIds named) → (named ≢ []) × (named ≡ clashes_of (numbers_of stored) tally.classes)
  ids_by named [] is e = absurd (ids_by_room named (has_no_room journal tally.batch) e)
  ids_by named (pair ∷ pairs) is e =
      let same = same_ids (pair ∷ pairs) named e in
      ((λ none. cons_some pair pairs (sym same ∙ none)), same ∙ sym is)

  ids : (named : List Clashing) (fault : Option (ℕ × ℕ)) → cause fault stored journal tally ≡ Some (HasIds named)
      → (named ≢ []) × (named ≡ clashes_of (numbers_of stored) tally.classes)
  ids named (Some f) e = absurd (closed_ids f named e)
  ids named None e = ids_by named (clashes_of (numbers_of stored) tally.classes) refl e

-- ---- answers

module _ {D J : Type 0} (disk : D → DiskState) (left_since : D → ℕ → List ℕ → Type 0) (tally : Counted) (old new : Stored D) (had has : Drawing) (sound : IsSound (journal old)) where
  receipt-of : (receipt : Receipt J) → IsReceiptOf receipt (journal old) tally.batch → receipt.note ≡ journal old ++ tally.batch ∷ []
      → IsReceipt receipt (length (journal old)) tally.batch
  receipt-of receipt is note =
      let before = journal old in
      record {
        batches = is.batches;
        stands = ap (λ (l : List Batch). slice_get l (length before)) note ∙ get-between before tally.batch [];
        games = is.games;
        first = is.first ∙ sym (ap (λ (l : List Batch). game_count (take (length before) l)) note ∙ ap game_count (take_front before tally.batch));
      }

  pub answers-to : (result : Result (Receipt J) (CommitFault J)) → CommitsBy disk left_since tally old new had has result → AnswersTo result tally
  answers-to (Ok receipt) is = record { place = length (journal old); is = receipt-of receipt is.receipt (is.told ∙ is.store.stores) }
  answers-to (Err (faults.Closed before after mark)) is = is.marked
  answers-to (Err (faults.DiskFault before after mark)) is = is.marked
  answers-to (Err (faults.Clash handed pairs note)) is = tt
  answers-to (Err (faults.OutOfMemory out)) is = tt
  answers-to (Err (faults.Full games bytes note)) is =
      let P : List Batch → Type 0 = λ j. IsFullFor j games bytes tally in
      let are = sound.are_games in
      subst P (sym (is.told ∙ is.store.stores)) (full sound.games (journal old) tally are games bytes old.manifest.fault (is.store.refused sound.games are))

  pub clash-of : (result : Result (Receipt J) (CommitFault J)) → CommitsBy disk left_since tally old new had has result → IsClash result tally
  clash-of (Ok receipt) is = tt
  clash-of (Err (faults.Closed before after mark)) is = tt
  clash-of (Err (faults.DiskFault before after mark)) is = tt
  clash-of (Err (faults.Full games bytes note)) is = tt
  clash-of (Err (faults.OutOfMemory out)) is = tt
  clash-of (Err (faults.Clash handed pairs note)) is =
      let are = sound.are_games in
      let named = ids sound.games (journal old) tally are pairs.items old.manifest.fault (is.store.refused sound.games are) in
      let P : List Batch → Type 0 = λ j. AreGamesOf j sound.games in
      (is.back, (named.0, (sound.games, (subst P (sym (is.told ∙ is.store.stores)) are, named.1))))
