-- Cuts that are taken one after another, and what becomes of their groups.
use Rattle.std.proofs.Common.{◌≡◌, inl, inr, ◌+◌, ◌<◌, ◌≤◌, List, [], ◌∷◌, ◌++◌, ℕ, Option, Result, Ok, Err, length, refl, sym, ap, subst, ◌∙◌, append_assoc, arith}
use Rattle.std.specs.Prelude.{IsErrAnd, OnOk, vec_capacity, vec_len}
use Rattle.std.specs.List.{AllByRecursion}
use Rattle.std.proofs.lemmas.List.{append-nil}
use Rattle.std.proofs.lemmas.Grind.{flat_map-append}
use Rattle.plain_laws.specs.Lists.{each-append}
use Rattle.explorer_model.specs.declared.fault.Stop.{Stop}
use Rattle.explorer_model.specs.declared.fault.Stop.TheVariants as stops
use Rattle.explorer_model.specs.Cuts.{Cut}
use Rattle.import_run.specs.declared.open_import.OpenImport.{OpenImport}
use Rattle.import_run.specs.declared.open_import.Stopped.{Stopped}
use Rattle.import_run.specs.Committing.{Store}
use Rattle.import_run.specs.Grouping.{Ascend, IsGroupOf}
use Rattle.import_run.specs.Importing.{BreaksBy, ByStop}
use Rattle.import_run.specs.Settled.{IsSettledSo}
use Rattle.import_run.specs.SoFar.{AreAllGroups, AreInGroups, IsWhole}
use Rattle.import_run.specs.Taking.{LacksAtEnd, LacksBehind, LacksSoFar, StopsAtEnd, StopsBehind, StopsIn, StopsSoFar, TakenAll, TakenSoFar}
use Rattle.import_run.proofs.GroupLemmas.{all_cuts}
use Rattle.import_run.proofs.HandLemmas.{lacks_still, stores_more}
use Rattle.import_run.proofs.HoldLemmas.{holds_texts, is_whole}
use Rattle.import_run.proofs.PlaceLemmas.{ascend_back}
use Rattle.import_run.proofs.SettledLemmas.{same_settled, settled_none}
use Rattle.import_run.proofs.SoFarLemmas.{in_groups, regroup_all}

-- ---- results

pub on_ok : {A E : Type 0} (r : Result A E) (P Q : Type 0) → (P → Q) → OnOk r P → OnOk r Q
on_ok (Ok x) P Q step h = step h
on_ok (Err e) P Q step h = tt

module _ {J : Type 0} where
  -- memory was wanting
  pub by_lacking : {T : Type 0} (r : Result T (Stop (Stopped J))) (A : Type 0) (B : Stopped J → Type 0) {C : Type 0} → IsErrAnd r (λ stop. stop ≡ stops.OutOfMemory) → C → ByStop r A B C
  by_lacking (Ok x) A B is c = absurd is
  by_lacking {T} (Err stop) A B {C} is c =
      let P : Stop (Stopped J) → Type 0 = λ s. BreaksBy s B C in
      subst P (sym is) c

  -- it didn't go on
  pub by_stop : (stop : Stop (Stopped J)) {C C' : Type 0} {B B' : Stopped J → Type 0} → ((stopped : Stopped J) → B stopped → B' stopped) → (C → C') → BreaksBy stop B C → BreaksBy stop B' C'
  by_stop (stops.Fault stopped) breaks lacks h = breaks stopped h
  by_stop stops.OutOfMemory breaks lacks h = lacks h

-- ---- groups

pub more_cuts : (taken : List Cut) (cut : Cut) (closed : List (List Cut)) (hand : List Cut) → taken ≡ all_cuts closed ++ hand → taken ++ cut ∷ [] ≡ all_cuts closed ++ (hand ++ cut ∷ [])
more_cuts taken cut closed hand all = ap (λ (l : List Cut). l ++ cut ∷ []) all ∙ append_assoc (all_cuts closed) hand (cut ∷ [])

pub hand_ascends : (taken : List Cut) (closed : List (List Cut)) (hand : List Cut) → taken ≡ all_cuts closed ++ hand → Ascend taken → Ascend hand
hand_ascends taken closed hand is ascend = ascend_back 0 (all_cuts closed) hand (subst Ascend is ascend)

pub all_whole : (closed : List (List Cut)) (hand : List Cut) → AllByRecursion IsWhole closed → IsWhole hand → AllByRecursion IsWhole (closed ++ hand ∷ [])
all_whole [] hand whole last = (last, tt)
all_whole (group ∷ closed) hand whole last = (whole.0, all_whole closed hand whole.1 last)

pub all_cuts-more : (closed : List (List Cut)) (hand : List Cut) → all_cuts (closed ++ hand ∷ []) ++ [] ≡ all_cuts closed ++ hand
all_cuts-more closed hand =
    append-nil (all_cuts (closed ++ hand ∷ [])) ∙ flat_map-append (λ (group : List Cut). group) closed (hand ∷ []) ∙ ap (λ (l : List Cut). all_cuts closed ++ l) (append-nil hand)

module _ {J : Type 0} (start : Option Store) where
  -- ---- what is settled

  -- memory was wanting, and nothing was done
  pub lacks_nothing : (groups : List (List Cut)) (import : OpenImport J) (told : Option Store) → IsSettledSo start groups import told → LacksBehind start groups [] import told
  lacks_nothing groups import told s = record {
    before = told;
    settled = s;
    lacks = λ known is. lacks_still import.group.label known [] told is;
  }

  -- the same of more groups
  pub lacks_more : (groups others more : List (List Cut)) (import : OpenImport J) (told : Option Store) → LacksBehind start groups others import told → LacksBehind start groups (others ++ more) import told
  lacks_more groups others more import told b = record {
    before = b.before;
    settled = b.settled;
    lacks = λ known is.
        let m = b.lacks known is in
        record { new = m.new; still = m.still; fault = m.fault; journal = stores_more import.group.label known others more m.new.journal m.journal };
  }

  -- ---- steps

  pub taken_none : (import : OpenImport J) → IsGroupOf [] import.group → import.receipts.items ≡ [] → import.refused.items ≡ [] → TakenSoFar start [] import start
  taken_none import group receipts refused =
      record { closed = []; hand = []; all = refl; each = tt; group = group; settled = settled_none start import receipts refused }

  -- a cut was put into the group in hand
  pub taken_open : (taken : List Cut) (cut : Cut) (old new : OpenImport J) (told : Option Store) → ((hand : List Cut) → IsGroupOf hand old.group → IsGroupOf (hand ++ cut ∷ []) new.group)
      → new.group.label ≡ old.group.label → new.receipts.items ≡ old.receipts.items → new.refused.items ≡ old.refused.items → new.clashes.items ≡ old.clashes.items
      → TakenSoFar start taken old told → TakenSoFar start (taken ++ cut ∷ []) new told
  taken_open taken cut old new told group label_is receipts refused clashes so_far = record {
    closed = so_far.closed;
    hand = so_far.hand ++ cut ∷ [];
    all = more_cuts taken cut so_far.closed so_far.hand so_far.all;
    each = so_far.each;
    group = group so_far.hand so_far.group;
    settled = same_settled start so_far.closed old new told label_is receipts refused clashes so_far.settled;
  }

  -- memory was wanting for the next cut
  pub lacks_open : (taken more : List Cut) (old new : OpenImport J) (told : Option Store) → new.group.label ≡ old.group.label → new.receipts.items ≡ old.receipts.items → new.refused.items ≡ old.refused.items → new.clashes.items ≡ old.clashes.items
      → TakenSoFar start taken old told → LacksSoFar start (taken ++ more) new told
  lacks_open taken more old new told label_is receipts refused clashes so_far = record {
    closed = so_far.closed;
    others = [];
    hand = so_far.hand ++ more;
    all = ap (λ (l : List Cut). l ++ more) so_far.all ∙ append_assoc (all_cuts so_far.closed) so_far.hand more;
    each = so_far.each;
    each_other = tt;
    behind = lacks_nothing so_far.closed new told (same_settled start so_far.closed old new told label_is receipts refused clashes so_far.settled);
  }

  pub lacks_now : (taken : List Cut) (import : OpenImport J) (told : Option Store) → TakenSoFar start taken import told → LacksSoFar start taken import told
  lacks_now taken import told so_far = record {
    closed = so_far.closed;
    others = [];
    hand = so_far.hand;
    all = so_far.all;
    each = so_far.each;
    each_other = tt;
    behind = lacks_nothing so_far.closed import told so_far.settled;
  }

  module _ (taken : List Cut) (cut : Cut) (old mid : OpenImport J) (told : Option Store) (group : (hand : List Cut) → IsGroupOf hand old.group → IsGroupOf (hand ++ cut ∷ []) mid.group)
      (label_is : mid.group.label ≡ old.group.label) (receipts : mid.receipts.items ≡ old.receipts.items) (refused : mid.refused.items ≡ old.refused.items) (clashes : mid.clashes.items ≡ old.clashes.items)
      (new : OpenImport J) (told' : Option Store) where
    -- a cut made the group in hand whole, and it was settled, or not
    pub taken_closed : {T : Type 0} (r : Result T (Stop (Stopped J))) → length old.group.texts.items < 512 → 512 ≤ length mid.group.texts.items → OnOk r (IsGroupOf [] new.group)
        → ((start : Option Store) (closed : List (List Cut)) (hand : List Cut) → Ascend hand → IsGroupOf hand mid.group → IsSettledSo start closed mid told
        → ByStop r (IsSettledSo start (closed ++ hand ∷ []) new told') (λ stopped. StopsBehind start closed hand new stopped told') (LacksBehind start closed (hand ∷ []) new told'))
        → Ascend (taken ++ cut ∷ []) → TakenSoFar start taken old told
        → ByStop r (TakenSoFar start (taken ++ cut ∷ []) new told') (λ stopped. StopsSoFar start (taken ++ cut ∷ []) new stopped told') (LacksSoFar start (taken ++ cut ∷ []) new told')
    taken_closed {T} r few whole none settles ascend so_far =
        by r none (settles start so_far.closed hand (hand_ascends _ so_far.closed hand is ascend) holds (same_settled start so_far.closed old mid told label_is receipts refused clashes so_far.settled))
      where
        hand : List Cut
        hand = so_far.hand ++ cut ∷ []

        holds : IsGroupOf hand mid.group
        holds = group so_far.hand so_far.group

        is : taken ++ cut ∷ [] ≡ all_cuts so_far.closed ++ hand
        is = more_cuts taken cut so_far.closed so_far.hand so_far.all

        last : IsWhole hand
        last = is_whole so_far.hand cut (omega (arith, few, holds_texts so_far.hand old.group so_far.group)) (omega (arith, whole, holds_texts hand mid.group holds))

        by : (r : Result T (Stop (Stopped J))) → OnOk r (IsGroupOf [] new.group)
            → ByStop r (IsSettledSo start (so_far.closed ++ hand ∷ []) new told') (λ stopped. StopsBehind start so_far.closed hand new stopped told') (LacksBehind start so_far.closed (hand ∷ []) new told')
            → ByStop r (TakenSoFar start (taken ++ cut ∷ []) new told') (λ stopped. StopsSoFar start (taken ++ cut ∷ []) new stopped told') (LacksSoFar start (taken ++ cut ∷ []) new told')
        by (Ok x) none settled = record {
          closed = so_far.closed ++ hand ∷ [];
          hand = [];
          all = is ∙ sym (all_cuts-more so_far.closed hand);
          each = all_whole so_far.closed hand so_far.each last;
          group = none;
          settled = settled;
        }
        by (Err (stops.Fault stopped)) none behind = record { closed = so_far.closed; next = hand; all = is; each = so_far.each; whole = last; behind = behind }
        by (Err stops.OutOfMemory) none behind = record {
          closed = so_far.closed;
          others = hand ∷ [];
          hand = [];
          all = is ∙ ap (λ (l : List Cut). all_cuts so_far.closed ++ l) (sym (append-nil (hand ++ []) ∙ append-nil hand));
          each = so_far.each;
          each_other = (last, tt);
          behind = behind;
        }

  -- ---- the end of a stream

  -- at the end of the stream the group in hand was settled, or not
  pub taken_all : {T : Type 0} (taken : List Cut) (old new : OpenImport J) (told told' : Option Store) (r : Result T (Stop (Stopped J))) → length old.group.texts.items < 512
      → ((start : Option Store) (closed : List (List Cut)) (hand : List Cut) → Ascend hand → IsGroupOf hand old.group → IsSettledSo start closed old told
      → ByStop r (IsSettledSo start (closed ++ hand ∷ []) new told') (λ stopped. StopsBehind start closed hand new stopped told') (LacksBehind start closed (hand ∷ []) new told'))
      → Ascend taken → TakenSoFar start taken old told → ByStop r (TakenAll start taken new told') (λ stopped. StopsAtEnd start taken new stopped told') (LacksAtEnd start taken new told')
  taken_all {T} taken old new told told' r few settles ascend so_far =
      by r (settles start so_far.closed so_far.hand (hand_ascends taken so_far.closed so_far.hand so_far.all ascend) so_far.group so_far.settled)
    where
      in_groups_all : AreInGroups taken so_far.closed so_far.hand
      in_groups_all = record { all = so_far.all; each = so_far.each; few = omega (arith, few, holds_texts so_far.hand old.group so_far.group) }

      all : AreAllGroups taken (so_far.closed ++ so_far.hand ∷ [])
      all = record { whole = so_far.closed; hand = so_far.hand; in_groups = in_groups_all; all_are = refl }

      by : (r : Result T (Stop (Stopped J)))
          → ByStop r (IsSettledSo start (so_far.closed ++ so_far.hand ∷ []) new told') (λ stopped. StopsBehind start so_far.closed so_far.hand new stopped told') (LacksBehind start so_far.closed (so_far.hand ∷ []) new told')
          → ByStop r (TakenAll start taken new told') (λ stopped. StopsAtEnd start taken new stopped told') (LacksAtEnd start taken new told')
      by (Ok x) settled = record { closed = so_far.closed; hand = so_far.hand; in_groups = in_groups_all; settled = settled }
      by (Err (stops.Fault stopped)) behind = record { done = so_far.closed; next = so_far.hand; rest = []; all = all; behind = behind }
      by (Err stops.OutOfMemory) behind = record { done = so_far.closed; rest = so_far.hand ∷ []; all = all; behind = behind }

  -- the last text of the stream made its group whole, which ended the import
  pub stops_at_last : (taken : List Cut) (import : OpenImport J) (stopped : Stopped J) (told : Option Store) → StopsSoFar start taken import stopped told → StopsAtEnd start taken import stopped told
  stops_at_last taken import stopped told so_far = record {
    done = so_far.closed;
    next = so_far.next;
    rest = [] ∷ [];
    all = record {
      whole = so_far.closed ++ so_far.next ∷ [];
      hand = [];
      in_groups = record {
        all = so_far.all ∙ sym (all_cuts-more so_far.closed so_far.next);
        each = all_whole so_far.closed so_far.next so_far.each so_far.whole;
        few = omega arith;
      };
      all_are = sym (append_assoc so_far.closed (so_far.next ∷ []) ([] ∷ []));
    };
    behind = so_far.behind;
  }

  -- memory was wanting for one of the last cuts
  pub lacks_at_last : (taken : List Cut) (import : OpenImport J) (told : Option Store) → LacksSoFar start taken import told → LacksAtEnd start taken import told
  lacks_at_last taken import told so_far =
      let later = in_groups so_far.hand in
      let more = so_far.others ++ later.whole in
      record {
        done = so_far.closed;
        rest = so_far.others ++ (later.whole ++ later.hand ∷ []);
        all = record {
          whole = so_far.closed ++ (so_far.others ++ later.whole);
          hand = later.hand;
          in_groups = record {
            all =
                so_far.all
                ∙ ap (λ (l : List Cut). all_cuts so_far.closed ++ (all_cuts so_far.others ++ l)) later.are.all
                ∙ ap (λ (l : List Cut). all_cuts so_far.closed ++ l) (regroup_all so_far.others later.whole later.hand)
                ∙ regroup_all so_far.closed more later.hand;
            each = each-append IsWhole so_far.closed more so_far.each (each-append IsWhole so_far.others later.whole so_far.each_other later.are.each);
            few = later.are.few;
          };
          all_are =
              ap (λ (l : List (List Cut)). so_far.closed ++ l) (sym (append_assoc so_far.others later.whole (later.hand ∷ [])))
              ∙ sym (append_assoc so_far.closed more (later.hand ∷ []));
        };
        behind = lacks_more so_far.closed so_far.others (later.whole ++ later.hand ∷ []) import told so_far.behind;
      }

-- the refusals of the group at which an import ended find room
pub stops_room : {J : Type 0} (start : Option Store) (stream : List ℕ) (left : Option (List ℕ)) (import : OpenImport J) (stopped : Stopped J) (told : Option Store) → StopsIn start stream left import stopped told
    → vec_len import.refused + length stopped.refused.items ≤ vec_capacity import.refused
stops_room start stream left import stopped told (inl w) = w.stops.behind.room
stops_room start stream left import stopped told (inr (at_end, e)) = e.behind.room
