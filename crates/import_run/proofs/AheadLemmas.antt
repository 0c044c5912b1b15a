-- Cuts that are taken ahead of what is settled, and what is read of a source.
use Rattle.std.proofs.Common.{◌≡◌, inl, inr, ◌+◌, ◌-◌, ◌^◌, ◌<◌, ◌≤◌, ℕ, List, [], ◌∷◌, ◌++◌, length, take, drop, Option, None, Some, sym, ap, subst, ◌∙◌, append_assoc, arith}
use Rattle.std.specs.List.{All, AllByRecursion, AllZip}
use Rattle.std.specs.Prelude.{IsSome}
use Rattle.std.proofs.lemmas.List.{append-nil}
use Rattle.std.proofs.lemmas.List.Elements.{All-append, All-cons, All-nil}
use Rattle.std.proofs.lemmas.Slice.Zip.{all_zipped_more}
use Rattle.outside.specs.Stream.{Reads, Rises, Stream}
use Rattle.explorer_model.specs.declared.archive.Placed.{Placed}
use Rattle.explorer_model.specs.Cuts.{Cut, cuts, text_limit}
use Rattle.pgn_cut.specs.Cut.{cuts_in}
use Rattle.pgn_cut.specs.Cutter.{IsAtStart, cuts_of_rest}
use Rattle.pgn_cut.specs.declared.cut.Cut.{Cut as Given}
use Rattle.pgn_cut.specs.declared.cutter.Cutter.{Cutter}
use Rattle.import_run.specs.declared.ahead.Ahead.{Ahead}
use Rattle.import_run.specs.declared.ahead.ReadEnd.{ReadEnd}
use Rattle.import_run.specs.declared.ahead.ReadEnd.TheVariants.{Ended, Failed}
use Rattle.import_run.specs.declared.text_group.TextGroup.{TextGroup}
use Rattle.import_run.specs.Ahead.{AreFollowed, CanTake, CutAhead, EndsAhead, HasTaken, HoldsAhead, HoldsBy, IsUnder, StandsFor}
use Rattle.import_run.specs.Ending.{MayRise}
use Rattle.import_run.specs.Grouping.{Ascend, IsGroupOf}
use Rattle.import_run.specs.SoFar.{AreAllGroups, IsWhole}
use Rattle.import_run.proofs.CutLemmas.{cut_ascends, next_cut, opens_more, whole_cuts}
use Rattle.import_run.proofs.GroupLemmas.{all_cuts}
use Rattle.import_run.proofs.HoldLemmas.{holds_texts, is_whole}
use Rattle.import_run.proofs.PlaceLemmas.{ascend_of_stream}
use Rattle.import_run.proofs.TakingLemmas.{all_cuts-more, all_whole, hand_ascends, more_cuts}

-- ---- lists of groups

all_ascend : (groups : List (List Cut)) (hand : List Cut) → AllByRecursion Ascend groups → Ascend hand → AllByRecursion Ascend (groups ++ hand ∷ [])
all_ascend [] hand each last = (last, tt)
all_ascend (group ∷ groups) hand each last = (each.0, all_ascend groups hand each.1 last)

-- one more group is held
more_groups : (given whole : List (List Cut)) (hand : List Cut) → (given ++ whole) ++ hand ∷ [] ≡ given ++ (whole ++ hand ∷ [])
more_groups given whole hand = append_assoc given whole (hand ∷ [])

-- ---- cuts

module _ (given : List (List Cut)) (taken : List Cut) (cut : Cut) (whole : List TextGroup) (old mid : TextGroup) (holds : (hand : List Cut) → IsGroupOf hand old → IsGroupOf (hand ++ cut ∷ []) mid) where
  -- a cut was put behind the others
  pub takes_open : HasTaken taken given whole old → HasTaken (taken ++ cut ∷ []) given whole mid
  takes_open h = record {
    whole = h.whole;
    held = h.held;
    hand = h.hand ++ cut ∷ [];
    holds = holds h.hand h.holds;
    all = more_cuts taken cut (given ++ h.whole) h.hand h.all;
    each = h.each;
    ascend = h.ascend;
  }

  -- it made its group whole
  pub takes_whole : (more : List TextGroup) (new : TextGroup) → length old.texts.items < 512 → 512 ≤ length mid.texts.items → more ≡ whole ++ mid ∷ [] → IsGroupOf [] new → Ascend (taken ++ cut ∷ [])
      → HasTaken taken given whole old → HasTaken (taken ++ cut ∷ []) given more new
  takes_whole more new few many more_is none ascend h =
      let hand = h.hand ++ cut ∷ [] in
      let here : IsGroupOf (h.hand ++ cut ∷ []) mid = holds h.hand h.holds in
      let is = more_cuts taken cut (given ++ h.whole) h.hand h.all in
      let last : IsWhole (h.hand ++ cut ∷ []) = is_whole h.hand cut (omega (arith, few, holds_texts h.hand old h.holds)) (omega (arith, many, holds_texts (h.hand ++ cut ∷ []) mid here)) in
      let same = more_groups given h.whole (h.hand ++ cut ∷ []) in
      record {
        whole = h.whole ++ hand ∷ [];
        held = subst (λ (l : List TextGroup). AllZip IsGroupOf (h.whole ++ hand ∷ []) l) (sym more_is) (all_zipped_more IsGroupOf h.whole whole hand mid h.held here);
        hand = [];
        holds = none;
        all = is ∙ sym (all_cuts-more (given ++ h.whole) hand) ∙ ap (λ (l : List (List Cut)). all_cuts l ++ []) same;
        each = subst (λ (l : List (List Cut)). AllByRecursion IsWhole l) same (all_whole (given ++ h.whole) hand h.each last);
        ascend = subst (λ (l : List (List Cut)). AllByRecursion Ascend l) same (all_ascend (given ++ h.whole) hand h.ascend (hand_ascends _ (given ++ h.whole) hand is ascend));
      }

-- the last cuts of a stream are a group
pub ends_all : (given : List (List Cut)) (stream : List ℕ) (taken : List Cut) (whole more : List TextGroup) (group : TextGroup) → length group.texts.items < 512 → taken ≡ cuts stream → more ≡ whole ++ group ∷ [] → Ascend taken
    → HasTaken taken given whole group → EndsAhead given stream more
ends_all given stream taken whole more group few all more_is ascend h =
    let same = more_groups given h.whole h.hand in
    record {
      whole = h.whole ++ h.hand ∷ [];
      held = subst (λ (l : List TextGroup). AllZip IsGroupOf (h.whole ++ h.hand ∷ []) l) (sym more_is) (all_zipped_more IsGroupOf h.whole whole h.hand group h.held h.holds);
      all = record {
        whole = given ++ h.whole;
        hand = h.hand;
        in_groups = record { all = sym all ∙ h.all; each = h.each; few = omega (arith, few, holds_texts h.hand group h.holds) };
        all_are = sym same;
      };
      ascend = subst (λ (l : List (List Cut)). AllByRecursion Ascend l) same (all_ascend (given ++ h.whole) h.hand h.ascend (hand_ascends taken (given ++ h.whole) h.hand h.all ascend));
    }

-- ---- groups that are given on

-- the whole groups are given on
pub gives_on : (given : List (List Cut)) (stream : List ℕ) (after : List ℕ → List Cut) (groups : List TextGroup) (group : TextGroup) → (c : CutAhead given stream after groups group) → CutAhead (given ++ c.has.whole) stream after [] group
gives_on given stream after groups group c =
    let same = sym (append-nil (given ++ c.has.whole)) in
    record {
      taken = c.taken;
      cut = c.cut;
      begun = c.begun;
      has = record {
        whole = [];
        held = tt;
        hand = c.has.hand;
        holds = c.has.holds;
        all = c.has.all ∙ ap (λ (l : List (List Cut)). all_cuts l ++ c.has.hand) same;
        each = subst (λ (l : List (List Cut)). AllByRecursion IsWhole l) same c.has.each;
        ascend = subst (λ (l : List (List Cut)). AllByRecursion Ascend l) same c.has.ascend;
      };
    }

pub gives_last : (given : List (List Cut)) (stream : List ℕ) (groups : List TextGroup) → (e : EndsAhead given stream groups) → EndsAhead (given ++ e.whole) stream []
gives_last given stream groups e =
    let same = sym (append-nil (given ++ e.whole)) in
    record {
      whole = [];
      held = tt;
      all = subst (λ (l : List (List Cut)). AreAllGroups (cuts stream) l) same e.all;
      ascend = subst (λ (l : List (List Cut)). AllByRecursion Ascend l) same e.ascend;
    }

-- what is given on of all that is held
pub record GivesOn (before now : Stream) (given : List (List Cut)) (groups : List TextGroup) (new : Ahead) : Type 0 where
  pub whole : List (List Cut)
  pub held : AllZip IsGroupOf whole groups
  pub holds : HoldsAhead before now (given ++ whole) new

-- by how reading ended, where the new one is the old without its whole groups
given_by : (before now : Stream) (given : List (List Cut)) (stream : List ℕ) (old new : Ahead) (end : Option ReadEnd) → new.end ≡ end → new.cutter ≡ old.cutter → new.group ≡ old.group → new.whole.items ≡ [] → Reads stream before now → length stream ≡ new.taken
    → HoldsBy end before now given stream old → GivesOn before now given old.whole.items new
given_by before now given stream old new None is cutter group none reads long h =
    let c = gives_on given stream (cuts_of_rest old.cutter) old.whole.items old.group h.1 in
    let P : List TextGroup → Type 0 = λ l. CutAhead (given ++ h.1.has.whole) stream (cuts_of_rest new.cutter) l new.group in
    let Q : TextGroup → Type 0 = λ one. CutAhead (given ++ h.1.has.whole) stream (cuts_of_rest new.cutter) [] one in
    let S : Option ReadEnd → Type 0 = λ end. HoldsBy end before now (given ++ h.1.has.whole) stream new in
    record {
      whole = h.1.has.whole;
      held = h.1.has.held;
      holds = record {
        stream = stream;
        reads = reads;
        long = long;
        holds = subst S (sym is) (h.0, subst P (sym none) (subst Q (sym group) (subst (λ (k : _). CutAhead (given ++ h.1.has.whole) stream (cuts_of_rest k) [] old.group) (sym cutter) c)));
      };
    }
given_by before now given stream old new (Some (Failed first last)) is cutter group none reads long h =
    let cut = h.3 in
    let c = gives_on given stream (cuts_of_rest old.cutter) old.whole.items old.group cut in
    let P : List TextGroup → Type 0 = λ l. CutAhead (given ++ cut.has.whole) stream (cuts_of_rest new.cutter) l new.group in
    let Q : TextGroup → Type 0 = λ one. CutAhead (given ++ cut.has.whole) stream (cuts_of_rest new.cutter) [] one in
    let S : Option ReadEnd → Type 0 = λ end. HoldsBy end before now (given ++ cut.has.whole) stream new in
    record {
      whole = cut.has.whole;
      held = cut.has.held;
      holds = record {
        stream = stream;
        reads = reads;
        long = long;
        holds = subst S (sym is) (h.0, h.1, h.2, subst P (sym none) (subst Q (sym group) (subst (λ (k : _). CutAhead (given ++ cut.has.whole) stream (cuts_of_rest k) [] old.group) (sym cutter) c)));
      };
    }
given_by before now given stream old new (Some Ended) is cutter group none reads long h =
    let e = gives_last given stream old.whole.items h.2 in
    let P : List TextGroup → Type 0 = λ l. EndsAhead (given ++ h.2.whole) stream l in
    let S : Option ReadEnd → Type 0 = λ end. HoldsBy end before now (given ++ h.2.whole) stream new in
    record {
      whole = h.2.whole;
      held = h.2.held;
      holds = record { stream = stream; reads = reads; long = long; holds = subst S (sym is) (h.0, h.1, subst P (sym none) e) };
    }

pub given_on : (before now : Stream) (given : List (List Cut)) (old new : Ahead) → new.end ≡ old.end → new.cutter ≡ old.cutter → new.group ≡ old.group → new.taken ≡ old.taken → new.whole.items ≡ [] → HoldsAhead before now given old
    → GivesOn before now given old.whole.items new
given_on before now given old new end cutter group taken none h = given_by before now given h.stream old new old.end end cutter group none h.reads (h.long ∙ sym taken) h.holds

-- ---- where an import ends

followed : (given : List (List Cut)) (stream : List ℕ) (after : List ℕ → List Cut) (groups : List TextGroup) (group : TextGroup) → (c : CutAhead given stream after groups group) → (more : List ℕ) → AreFollowed (stream ++ more) (given ++ c.has.whole)
followed given stream after groups group c more = record {
  hand = c.has.hand;
  more = after more;
  all = ap (λ (l : List Cut). l ++ after more) (sym c.has.all) ∙ c.cut more;
  begun = λ some. c.begun (subst (λ (l : List Cut). 0 < length l) (sym c.has.all) some) more;
  each = c.has.each;
}

-- so many bytes more were read, none or some, and one of these reads may have failed
pub stands_cut : (before now : Stream) (given : List (List Cut)) (stream more : List ℕ) (after : List ℕ → List Cut) (groups : List TextGroup) (group : TextGroup) → Reads (stream ++ more) before now → MayRise before.read_faults now.read_faults
    → length (stream ++ more) < 2 ^ 40 → CutAhead given stream after groups group → StandsFor before now given
stands_cut before now given stream more after groups group reads faults below c = record {
  stream = stream ++ more;
  reads = reads;
  faults = faults;
  below = below;
  behind = c.has.whole;
  stands = inl (followed given stream after groups group c more);
}

stands_by : (before now : Stream) (given : List (List Cut)) (ahead : Ahead) (stream : List ℕ) (end : Option ReadEnd) → Reads stream before now → length stream < 2 ^ 40 → HoldsBy end before now given stream ahead → StandsFor before now given
stands_by before now given ahead stream None reads below h =
    let same = sym (append-nil stream) in
    stands_cut before now given stream [] (cuts_of_rest ahead.cutter) ahead.whole.items ahead.group (subst (λ (l : List ℕ). Reads l before now) same reads) (inl h.0) (subst (λ (l : List ℕ). length l < 2 ^ 40) same below) h.1
stands_by before now given ahead stream (Some (Failed first last)) reads below h =
    let same = sym (append-nil stream) in
    let R : ℕ → Type 0 = λ n. Rises n now.read_faults in
    let S : ℕ → Type 0 = λ n. Rises first n in
    let rose : Rises before.read_faults now.read_faults = subst R h.0 (subst S h.1 h.2) in
    stands_cut before now given stream [] (cuts_of_rest ahead.cutter) ahead.whole.items ahead.group (subst (λ (l : List ℕ). Reads l before now) same reads) (inr rose) (subst (λ (l : List ℕ). length l < 2 ^ 40) same below) h.3
stands_by before now given ahead stream (Some Ended) reads below h = record {
  stream = stream;
  reads = reads;
  faults = inl h.0;
  below = below;
  behind = h.2.whole;
  stands = inr (h.1, h.2.all);
}

pub stands_for : (before now : Stream) (given : List (List Cut)) (ahead : Ahead) → ahead.taken < 2 ^ 40 → HoldsAhead before now given ahead → StandsFor before now given
stands_for before now given ahead below h = stands_by before now given ahead h.stream ahead.end h.reads (omega (arith, below, h.long)) h.holds

-- ---- one read

-- what was held while more is to be read
pub while_reading : (before now : Stream) (given : List (List Cut)) (ahead : Ahead) → ahead.end ≡ None → (h : HoldsAhead before now given ahead) → (now.read_faults ≡ before.read_faults) × CutAhead given h.stream (cuts_of_rest ahead.cutter) ahead.whole.items ahead.group
while_reading before now given ahead is h = subst (λ (end : Option ReadEnd). HoldsBy end before now given h.stream ahead) is h.holds

-- ---- what the code needs of groups

pub can_take_none : (group : TextGroup) → group.texts.items ≡ [] → CanTake group
can_take_none group none =
    let P : List Placed → Type 0 = λ l. All (λ text. length text.bytes ≤ text_limit) l in
    record { few = omega (arith, ap length none); short = subst P (sym none) (All-nil _) }

pub under_more : (label : List ℕ) (groups more : List TextGroup) (group : TextGroup) → more ≡ groups ++ group ∷ [] → IsUnder label group → All (IsUnder label) groups → All (IsUnder label) more
under_more label groups more group is one under =
    subst (λ (l : List TextGroup). All (IsUnder label) l) (sym is) (All-append (IsUnder label) groups (group ∷ []) under (All-cons (IsUnder label) group [] one (All-nil (IsUnder label))))

-- a group to which one text more was put at the most
pub is_under : (old mid : TextGroup) → mid.label ≡ old.label → length mid.texts.items ≤ length old.texts.items + 1 → All (λ text. length text.bytes ≤ text_limit) mid.texts.items → CanTake old → IsUnder old.label mid
is_under old mid same more short can = record { tallies = record { few = (let few = can.few in omega (arith, few, more)); short = short }; label_is = same }

-- a group in hand
pub hand_under : (label : List ℕ) (group : TextGroup) → group.label ≡ label → CanTake group → IsUnder label group
hand_under label group same can = record { tallies = record { few = (let few = can.few in omega (arith, few)); short = can.short }; label_is = same }

-- ---- chunks

pub ahead_bytes : (given : List (List Cut)) (bytes bytes' : List ℕ) (after : List ℕ → List Cut) (groups : List TextGroup) (group : TextGroup) → bytes ≡ bytes' → CutAhead given bytes after groups group → CutAhead given bytes' after groups group
ahead_bytes given bytes bytes' after groups group same c = subst (λ (l : List ℕ). CutAhead given l after groups group) same c

-- one more cut was taken, or none
pub ahead_next : (given : List (List Cut)) (past bytes : List ℕ) (at taken : ℕ) (cut : Option Given) (old mid new : Cutter) (groups groups' : List TextGroup) (group group' : TextGroup) → new ≡ mid
    → ((rest : List ℕ) → cuts_in cut ++ cuts_of_rest mid rest ≡ cuts_of_rest old (take taken (take (length bytes - at) (drop at bytes)) ++ rest)) → (IsSome cut → IsAtStart mid)
    → ((taken : List Cut) → Ascend (taken ++ cuts_in cut) → HasTaken taken given groups group → HasTaken (taken ++ cuts_in cut) given groups' group')
    → CutAhead given (past ++ take at bytes) (cuts_of_rest old) groups group → CutAhead given (past ++ take (at + taken) bytes) (cuts_of_rest new) groups' group'
ahead_next given past bytes at taken cut old mid new groups groups' group group' same gives stops takes c =
    let all = next_cut past bytes at taken c.taken (cuts_in cut) (cuts_of_rest old) (cuts_of_rest mid) c.cut gives in
    let P : Cutter → Type 0 = λ k. CutAhead given (past ++ take (at + taken) bytes) (cuts_of_rest k) groups' group' in
    subst P (sym same) (record {
      taken = c.taken ++ cuts_in cut;
      cut = all;
      begun = opens_more cut mid c.taken (cuts_of_rest old) _ gives stops c.begun;
      has = takes c.taken (cut_ascends (c.taken ++ cuts_in cut) (cuts_of_rest mid) _ all) c.has;
    })

-- the stream has ended
pub ahead_last : (given : List (List Cut)) (stream : List ℕ) (cut : Option Given) (cutter : Cutter) (groups mid more : List TextGroup) (group group' : TextGroup) → cuts_in cut ≡ cuts_of_rest cutter [] → CanTake group' → more ≡ mid ++ group' ∷ []
    → ((taken : List Cut) → Ascend (taken ++ cuts_in cut) → HasTaken taken given groups group → HasTaken (taken ++ cuts_in cut) given mid group')
    → CutAhead given stream (cuts_of_rest cutter) groups group → EndsAhead given stream more
ahead_last given stream cut cutter groups mid more group group' last can more_is takes c =
    let all = whole_cuts stream (cuts_of_rest cutter) c.taken (cuts_in cut) c.cut last in
    let ascend = ascend_of_stream c.taken (cuts_in cut) stream all in
    let few = can.few in
    ends_all given stream (c.taken ++ cuts_in cut) mid more group' (omega (arith, few)) all more_is ascend (takes c.taken ascend c.has)

-- groups under a label that is the same
pub under_on : {label other : List ℕ} (groups more : List TextGroup) → label ≡ other → (All (IsUnder label) groups → All (IsUnder label) more) → All (IsUnder other) groups → All (IsUnder other) more
under_on {label} {other} groups more same step under =
    let P : List ℕ → Type 0 = λ l. All (IsUnder l) more in
    let Q : List ℕ → Type 0 = λ l. All (IsUnder l) groups in
    subst P same (step (subst Q (sym same) under))
