-- Journals that are counted anew, and where they stop to be sound.
use Rattle.std.proofs.Common.{◌≡◌, ◌≢◌, ◌<◌, ◌≤◌, ◌+◌, ℕ, zero, suc, Bool, true, false, cond, List, [], ◌∷◌, ◌++◌, length, map, flat_map, get_or, take, sum_by, Option, None, Some, refl, sym, ap, ◌∙◌, subst, arith, length-append, get_or-append-add}
use Rattle.std.proofs.lemmas.Bool.Decides.{Decides-eqb, nat_tests}
use Rattle.std.proofs.Math.Seq.{get_or-append_seam, take-length}
use Rattle.std.proofs.lemmas.List.{append_assoc, get_or_append_left, get_or_default, length-map, map-append, nil_from_length}
use Rattle.std.proofs.lemmas.List.Elements.{recursion_from_All}
use Rattle.std.proofs.lemmas.List.Sums.{sum_by-cons}
use Rattle.std.specs.List.{All, AllPairs, AllZip}
use Rattle.std.specs.Prelude.{nat_lt, ◌==◌}
use Rattle.explorer_model.specs.declared.archive.Batch.{Batch}
use Rattle.explorer_model.specs.declared.archive.Classes.{Classes}
use Rattle.explorer_model.specs.declared.archive.Game.{Game}
use Rattle.explorer_model.specs.declared.archive.Placed.{Placed}
use Rattle.explorer_model.specs.Cuts.{text_limit}
use Rattle.batch_tally.specs.declared.tallying.Tallying.{Tallying}
use Rattle.batch_tally.specs.Tallying.{IsTallying}
use Rattle.ingest_desk.specs.declared.register.Verdict.{Verdict}
use Rattle.ingest_desk.specs.declared.register.Verdict.TheVariants as verdicts
use Rattle.ingest_desk.proofs.TallyingLemmas.{counts_all, none_refused}
use Rattle.explorer_model.specs.Imports.{numbers_of}
use Rattle.explorer_model.specs.Journal.{AreWithin, HaveDifferentIds, IsBatch, IsSound, byte_count, game_count}
use Rattle.explorer_model.specs.StoreFile.{IsStorable, front_of, gate_limit, payload_of, record_bytes, store_format, store_of, text_field}
use Rattle.explorer_model.specs.Visits.{IsTextOf, texts_of}
use Rattle.explorer_model.proofs.Lists.{zip-append}
use Rattle.manifest.proofs.JournalLemmas.{length-front, length-more}
use Rattle.segment_blocks.specs.Segment.{CountedSpan}
use Rattle.tally_rows.specs.Tally.{Counted, IsCounted}
use Rattle.published_index.specs.Cover.{IsList, journal_of}
use Rattle.published_index.proofs.CoverLemmas.{journal-one, list-one}
use Rattle.ingest_desk.specs.Causes.{Cause, HasNoRoom, Judges, cause_by, cause_of_new, has_no_room, is_over}
use Rattle.ingest_desk.specs.Clashes.{clashes_of}
use Rattle.ingest_desk.specs.Recounts.{HasOneMore, IsUnsoundAt}
use Rattle.ingest_desk.specs.Registers.{IsRegisterOf}
use Rattle.ingest_desk.specs.declared.register.Register.{Register}
use Rattle.ingest_desk.proofs.IdLemmas.{false_true, number-none, other_bytes}
use Rattle.ingest_desk.proofs.RegisterLemmas.{OneGame, clashes_none, number-ids, one_games, texts_more}

abbrev pub classes_of : List Game → List Classes
classes_of games = map (λ (game : Game). game.classes) games

-- ---- a sound journal whose last batch is this one

-- the games of the whole are those of the front and of the last batch
pub both_games : OneGame → (journal : List Batch) (batch : Batch) (front : IsSound journal)
    (whole : IsSound (journal ++ batch ∷ [])) (games : List Game)
    → AllZip IsTextOf batch.texts games → whole.games ≡ front.games ++ games
both_games one journal batch front whole games are =
    let P : List (List ℕ) → Type 0 = λ texts. AllZip IsTextOf texts (front.games ++ games) in
    one_games one (journal ++ batch ∷ []) whole.games (front.games ++ games) whole.are_games
    (subst P (sym (texts_more journal batch))
    (zip-append IsTextOf (texts_of journal) batch.texts front.games games front.are_games are))

pub different_both : OneGame → (journal : List Batch) (batch : Batch) (front : IsSound journal)
    (whole : IsSound (journal ++ batch ∷ [])) (games : List Game)
    → AllZip IsTextOf batch.texts games
    → HaveDifferentIds (classes_of front.games ++ classes_of games)
different_both one journal batch front whole games are =
    let Q : List Classes → Type 0 = λ classes. HaveDifferentIds classes in
    subst Q
    (ap classes_of (both_games one journal batch front whole games are)
    ∙ map-append (λ (game : Game). game.classes) front.games games) whole.different

-- the last batch
pub last_batch : (journal : List Batch) (batch : Batch) → IsSound (journal ++ batch ∷ [])
    → IsBatch batch
last_batch journal batch whole =
    let at = get_or-append_seam journal batch [] batch in
    subst IsBatch at
    (whole.batches (length journal) batch (omega (arith, length-append journal (batch ∷ []))))

pub later_pairs : {X : Type 0} (R : X → X → Type 0) (xs ys : List X) → AllPairs R (xs ++ ys)
    → AllPairs R ys
later_pairs R xs ys all i j d lt below =
    rw (← get_or-append-add xs ys i d) (rw (← get_or-append-add xs ys j d)
    (all (length xs + i) (length xs + j) d (omega (arith, lt))
    (omega (arith, below, length-append xs ys))))

-- ---- no cause where the journal stays sound

pub all_new : (stored : List Game) (classes : List Classes)
    → HaveDifferentIds (classes_of stored ++ classes)
    → All (λ (c : Classes). numbers_of stored c.id.bytes ≡ None) classes
all_new stored classes different k d lt =
    let front = classes_of stored in
    let c = get_or classes k d in
    number-ids 0 stored c.id.bytes
    ∙ number-none c.id.bytes 0 front
    (λ m e within.
    other_bytes c.id.bytes (get_or front m e).id.bytes
    (λ same.
    let n = length front in
    let left : get_or (front ++ classes) m d ≡ get_or front m d = get_or_append_left front classes d m within in
    let right : get_or (front ++ classes) (n + k) d ≡ c = get_or-append-add front classes k d in
    let first : get_or front m e ≡ get_or front m d = get_or_default front m e d within in
    different m (n + k) d (omega (arith, within)) (omega (arith, lt, length-append front classes))
    (ap (λ (x : Classes). x.id.bytes) (left ∙ sym first) ∙ same ∙ ap (λ (x : Classes). x.id.bytes) (sym right))))

within_room : (games bytes : ℕ) → AreWithin games bytes → is_over games bytes ≡ false
within_room games bytes within = by (nat_lt 262144 games) (nat_lt 536870912 bytes) refl refl
  where
    by : (g b : Bool) → nat_lt 262144 games ≡ g → nat_lt 536870912 bytes ≡ b
        → is_over games bytes ≡ false
    by true b gs bs =
        let more : 262144 < games = grind (arith, nat_tests) in absurd (omega (arith, more, within.0))
    by false true gs bs =
        let more : 536870912 < bytes = grind (arith, nat_tests) in absurd (omega (arith, more, within.1))
    by false false gs bs = rw (gs, bs) refl

pub no_cause_of : OneGame → (journal : List Batch) (tally : Counted) (front : IsSound journal)
    → IsCounted tally → IsSound (journal ++ tally.batch ∷ [])
    → cause_of_new front.games journal tally ≡ None
no_cause_of one journal tally front counted whole =
    let games = counted.tally.games in
    let Q : List Classes → Type 0 = λ classes. HaveDifferentIds (classes_of front.games ++ classes) in
    let different = subst Q (sym counted.tally.classes_are)
    (different_both one journal tally.batch front whole games counted.tally.are_games) in
    let none : clashes_of (numbers_of front.games) tally.classes ≡ [] =
    clashes_none 0 (numbers_of front.games) tally.classes
    (recursion_from_All (λ (c : Classes). numbers_of front.games c.id.bytes ≡ None) tally.classes
    (all_new front.games tally.classes different)) in
    let room : has_no_room journal tally.batch ≡ false = within_room _ _ whole.within in
    ap (λ pairs. cause_by pairs journal tally.batch) none ∙ ap (λ b. cond b (Some (HasNoRoom (game_count journal) (byte_count journal))) None) room

pub some_cause : (k : Cause) (o : Option Cause) → o ≡ Some k → o ≡ None → ⊥
some_cause k o some none = no k (sym some ∙ none)
  where
    no : (k : Cause) → Some k ≡ None → ⊥
    no k e = cc

-- ---- batch by batch

-- the journal up to a gate is counted
pub record IsCountedUpTo (journal : List Batch) (gate : ℕ) (register : Register)
    (list : List CountedSpan) (others : List Batch) : Type 0 where
  pub before : List Batch
  pub split : journal ≡ before ++ others
  pub knows : IsRegisterOf before register
  pub list_is : IsList list
  pub whole : journal_of list ≡ before
  pub few : length list ≤ 18
  pub place : gate ≡ length (store_of before)

-- the batch that follows the batches before a gate
module _ (journal before others rest : List Batch) (batch : Batch) (gate : ℕ)
    (split : journal ≡ before ++ others) (place : gate ≡ length (store_of before))
    (next : others ≡ batch ∷ rest) where
  split_next : journal ≡ before ++ batch ∷ rest
  split_next = split ∙ ap (λ (l : List Batch). before ++ l) next

  pub split_more : journal ≡ (before ++ batch ∷ []) ++ rest
  split_more = split_next ∙ sym (append_assoc before (batch ∷ []) rest)

  pub next_storable : All IsStorable journal → IsStorable batch
  next_storable all =
      let P : List Batch → Type 0 = λ l. All IsStorable l in
      let each = subst P split_next all in
      subst IsStorable (get_or-append_seam before batch rest batch)
      (each (length before) batch (omega (arith, length-append before (batch ∷ rest))))

  pub unsound_at : IsSound before → ¬ IsSound (before ++ batch ∷ []) → IsUnsoundAt journal gate
  unsound_at sound unsound = record {
    before = before;
    batch = batch;
    rest = rest;
    is = split_next;
    sound = sound;
    unsound = unsound;
    place = place;
  }

  -- the gate behind the next record is not too far
  pub next_low : length (store_of journal) ≤ gate_limit → gate + (5 + length (payload_of batch)) ≤ gate_limit
  next_low low =
      let front = map payload_of before in
      let whole : length (store_of journal)
      ≡ length (store_of before) + (5 + length (payload_of batch))
      + length (flat_map record_bytes (map payload_of rest)) =
      ap (λ (l : List Batch). length (store_of l)) split_next
      ∙ ap (λ (l : List (List ℕ)). length (front_of store_format l)) (map-append payload_of before (batch ∷ rest))
      ∙ length-front store_format front (payload_of batch) (map payload_of rest) in
      omega (arith, low, whole, place)

module _ (journal : List Batch) (gate : ℕ) (register : Register) (list : List CountedSpan)
    (others rest : List Batch) (batch : Batch)
    (so_far : IsCountedUpTo journal gate register list others) (next : others ≡ batch ∷ rest) where
  -- with the segment of the batch
  pub counted_more : (new : Register) (segment : CountedSpan) (after : List CountedSpan) (further : ℕ)
      → HasOneMore so_far.before batch new segment
      → IsList after → journal_of after ≡ journal_of (list ++ segment ∷ []) → length after ≤ 18
      → further ≡ gate + (5 + length (payload_of batch)) → IsCountedUpTo journal further new after rest
  counted_more new segment after further more list_is same few place = record {
    before = so_far.before ++ batch ∷ [];
    split = split_more journal so_far.before others rest batch gate so_far.split so_far.place next;
    knows = more.knows;
    list_is = list_is;
    whole = same ∙ journal-one list segment ∙ ap (λ bs. journal_of list ++ bs) more.batches
        ∙ ap (λ bs. bs ++ batch ∷ []) so_far.whole;
    few = few;
    place = omega (arith, place, so_far.place, length-more so_far.before batch);
  }

  pub list_more : (new : Register) (segment : CountedSpan) → HasOneMore so_far.before batch new segment
      → IsList (list ++ segment ∷ [])
  list_more new segment more =
      list-one list segment so_far.list_is (omega (arith, so_far.few))
      (more.first ∙ ap length (sym so_far.whole))

  pub journal_more : (new : Register) (segment : CountedSpan) → HasOneMore so_far.before batch new segment
      → journal_of (list ++ segment ∷ []) ≡ so_far.before ++ batch ∷ []
  journal_more new segment more =
      journal-one list segment ∙ ap (λ bs. journal_of list ++ bs) more.batches
      ∙ ap (λ bs. bs ++ batch ∷ []) so_far.whole

-- ---- sizes of payloads

fields_size : (texts : List (List ℕ)) → length (flat_map text_field texts)
    ≡ sum_by (λ (text : List ℕ). 4 + length text) texts
fields_size [] = refl
fields_size (text ∷ texts) =
    omega (
      arith,
      length-append text (flat_map text_field texts),
      fields_size texts,
      sum_by-cons (λ (text : List ℕ). 4 + length text) text texts,
    )

pub payload_sum : (texts : List (List ℕ)) (n : ℕ) → n ≡ length texts
    → sum_by (λ (text : List ℕ). 4 + length text) (take n texts) ≡ length (flat_map text_field texts)
payload_sum texts n all =
    let whole : take n texts ≡ texts = ap (λ k. take k texts) all ∙ take-length texts in
    omega (
      arith,
      ap (sum_by (λ (text : List ℕ). 4 + length text)) whole,
      fields_size texts,
    )

-- ---- a batch that is counted

get_mapped : {A B : Type 0} (f : A → B) (xs : List A) (k : ℕ) (d : A) → k < length xs
    → get_or (map f xs) k (f d) ≡ f (get_or xs k d)
get_mapped f [] k d lt = absurd (omega (arith, lt))
get_mapped f (x ∷ xs) zero d lt = refl
get_mapped f (x ∷ xs) (suc k) d lt = get_mapped f xs k d (omega (arith, lt))

pub short_texts : (texts : List Placed) (batch : Batch)
    → map (λ (text : Placed). text.bytes) texts ≡ batch.texts → IsStorable batch
    → (k : ℕ) (d : Placed) → k < length texts → length (get_or texts k d).bytes ≤ text_limit
short_texts texts batch same is k d lt =
    let bytes : Placed → List ℕ = λ text. text.bytes in
    let long : length (map bytes texts) ≡ length texts = length-map texts bytes in
    let short = is.lengths k d.bytes (omega (arith, lt, long, ap length same)) in
    let at : get_or batch.texts k d.bytes ≡ (get_or texts k d).bytes =
    ap (λ (ts : List (List ℕ)). get_or ts k d.bytes) (sym same) ∙ get_mapped bytes texts k d lt in
    omega (arith, ap length at, short.1)

pub none_in : {A : Type 0} (xs : List A) (n : ℕ) → n ≡ length xs → (n == 0) ≡ true → xs ≡ []
none_in xs n long zero_is =
    let e : n ≡ 0 = (Decides-eqb n 0).0 zero_is in nil_from_length xs (sym long ∙ e)

pub some_in : {A : Type 0} (xs : List A) (n : ℕ) → n ≡ length xs → (n == 0) ≡ false → xs ≡ [] → ⊥
some_in xs n long zero_is none =
    let e : n ≡ 0 = long ∙ ap length none in
    false_true (sym zero_is ∙ (Decides-eqb n 0).1 e)

-- no text is refused where the journal stays sound
pub none_refused_of : OneGame → (journal : List Batch) (batch : Batch) (front : IsSound journal)
    (texts : List Placed) (tallying : Tallying)
    → map (λ (text : Placed). text.bytes) texts ≡ batch.texts → IsTallying texts tallying
    → IsSound (journal ++ batch ∷ []) → tallying.refused.items ≡ []
none_refused_of one journal batch front texts tallying same is whole =
    let last = last_batch journal batch whole in
    let different = different_both one journal batch front whole last.games last.are_games in
    let P : List (List ℕ) → Type 0 = λ ts. AllZip IsTextOf ts last.games in
    none_refused one texts tallying last.games is (subst P (sym same) last.are_games)
    (later_pairs (λ (a b : Classes). a.id.bytes ≢ b.id.bytes) (classes_of front.games)
    (classes_of last.games) different)

-- the batch that was counted is the whole batch
pub counted_batch : (texts : List Placed) (tallying : Tallying) (counted : Counted) (batch : Batch) (label : List ℕ)
    → label ≡ batch.label
    → map (λ (text : Placed). text.bytes) texts ≡ batch.texts → IsTallying texts tallying
    → tallying.refused.items ≡ [] → tallying.tally ≡ Some counted
    → record { label = label; texts = counted.batch.texts } ≡ batch
counted_batch texts tallying counted batch label is_label same is none made =
    let whole : counted.batch.texts ≡ batch.texts = counts_all texts tallying counted is none made ∙ same in
    λ i. record { label = is_label i; texts = whole i }

pub judged_fits : (verdict : Verdict) (k : Option Cause) → Judges verdict k → k ≡ None
    → (verdict ≡ verdicts.Fits → ⊥) → ⊥
judged_fits (verdicts.Clash pairs) k judges none other = some_cause _ k judges none
judged_fits (verdicts.Full games bytes) k judges none other = some_cause _ k judges none
judged_fits verdicts.Fits k judges none other = other refl
