-- An import in rounds: what is settled, counted and held of what was read.
use Rattle.std.proofs.Common.{◌≡◌, ◌⊎◌, inl, inr, ◌+◌, ◌*◌, ◌<◌, ◌≤◌, ℕ, zero, suc, List, [], ◌∷◌, ◌++◌, length, Option, None, Some, refl, sym, ap, subst, ◌∙◌, append_assoc, length-append, arith}
use Rattle.std.specs.List.{All, AllByRecursion, AllZip}
use Rattle.std.proofs.lemmas.List.{append-nil}
use Rattle.std.proofs.lemmas.List.Elements.{All-cons, All-head, All-nil, All-tail}
use Rattle.std.specs.Io.KnownBytes.{IsAtEnd}
use Rattle.plain_laws.specs.Lists.{each-behind, each-front}
use Rattle.outside.specs.Stream.{Stream}
use Rattle.explorer_model.specs.Cuts.{Cut, Text, cuts}
use Rattle.import_run.specs.declared.ahead.Ahead.{Ahead}
use Rattle.import_run.specs.declared.ahead.ReadEnd.{ReadEnd}
use Rattle.import_run.specs.declared.ahead.ReadEnd.TheVariants.{Ended, Failed}
use Rattle.import_run.specs.declared.open_import.OpenImport.{OpenImport}
use Rattle.import_run.specs.declared.open_import.Stopped.{Stopped}
use Rattle.import_run.specs.declared.text_group.TalliedGroup.{TalliedGroup}
use Rattle.import_run.specs.declared.text_group.TextGroup.{TextGroup}
use Rattle.import_run.specs.declared.underway.Underway.{Underway}
use Rattle.import_run.specs.Ahead.{AreFollowed, CutAhead, EndsAhead, HoldsAhead, HoldsBy, IsUnder, StandsFor}
use Rattle.import_run.specs.Apart.{IsInHand, IsTalliedGroup}
use Rattle.import_run.specs.Committing.{Store}
use Rattle.import_run.specs.Grouping.{Ascend, IsGroupOf, IsTallied}
use Rattle.import_run.specs.SoFar.{AreAllGroups, IsWhole}
use Rattle.import_run.specs.Settled.{IsSettledSo}
use Rattle.import_run.specs.Taking.{CutSoFar, LacksAmong, LacksAtEnd, LacksWithin, StopsAmong, StopsAtEnd, StopsWithin, TakenAll}
use Rattle.import_run.specs.Underway.{IsUnderway, LacksReading, StopsReading}
use Rattle.import_run.proofs.GroupLemmas.{all_cuts}
use Rattle.import_run.proofs.SoFarLemmas.{regroup, regroup_all}
use Rattle.import_run.proofs.SettledLemmas.{same_settled}
use Rattle.import_run.proofs.TakingLemmas.{lacks_more, lacks_nothing}

-- ---- lists of groups

-- ---- groups that were counted

pub tallied_under : (label : List ℕ) (whole : List (List Cut)) (groups : List TextGroup) (tallied : List TalliedGroup) → AllZip IsGroupOf whole groups → AllZip IsTalliedGroup groups tallied → All (IsUnder label) groups
    → AllByRecursion Ascend whole → AllZip (IsTallied label) whole tallied
tallied_under label [] [] [] held each under ascend = tt
tallied_under label [] [] (one ∷ tallied) held each under ascend = absurd each
tallied_under label [] (group ∷ groups) tallied held each under ascend = absurd held
tallied_under label (cuts ∷ whole) [] tallied held each under ascend = absurd held
tallied_under label (cuts ∷ whole) (group ∷ groups) [] held each under ascend = absurd each
tallied_under label (cuts ∷ whole) (group ∷ groups) (one ∷ tallied) held each under ascend =
    let here = All-head (IsUnder label) group groups under in (
      subst (λ (l : List ℕ). IsTallied l cuts one) here.label_is (each.0.counts cuts ascend.0 held.0),
      tallied_under label whole groups tallied held.1 each.1 (All-tail (IsUnder label) group groups under) ascend.1,
    )

pub tallied_in_hand : (groups : List TextGroup) (tallied : List TalliedGroup) → AllZip IsTalliedGroup groups tallied → All IsInHand tallied
tallied_in_hand [] [] each = All-nil IsInHand
tallied_in_hand [] (one ∷ tallied) each = absurd each
tallied_in_hand (group ∷ groups) [] each = absurd each
tallied_in_hand (group ∷ groups) (one ∷ tallied) each = All-cons IsInHand one tallied each.0.hand (tallied_in_hand groups tallied each.1)

pub tallied_many : (groups : List TextGroup) (tallied : List TalliedGroup) → AllZip IsTalliedGroup groups tallied → length tallied ≡ length groups
tallied_many [] [] each = refl
tallied_many [] (one ∷ tallied) each = absurd each
tallied_many (group ∷ groups) [] each = absurd each
tallied_many (group ∷ groups) (one ∷ tallied) each = let rest = tallied_many groups tallied each.1 in omega (arith, rest)

-- ---- the order of what was read

ascend_by : (before now : Stream) (given : List (List Cut)) (stream : List ℕ) (ahead : Ahead) (end : Option ReadEnd) → HoldsBy end before now given stream ahead → AllByRecursion Ascend given
ascend_by before now given stream ahead None h = each-front Ascend given h.1.has.whole h.1.has.ascend
ascend_by before now given stream ahead (Some Ended) h = each-front Ascend given h.2.whole h.2.ascend
ascend_by before now given stream ahead (Some (Failed first last)) h = each-front Ascend given h.3.has.whole h.3.has.ascend

pub given_ascend : (before now : Stream) (given : List (List Cut)) (ahead : Ahead) → HoldsAhead before now given ahead → AllByRecursion Ascend given
given_ascend before now given ahead h = ascend_by before now given h.stream ahead ahead.end h.holds

-- ---- where an import ends

-- the groups are these, of which one is next
one_of : (closed waiting whole behind done rest : List (List Cut)) (next : List Cut) → waiting ≡ done ++ next ∷ rest → ((closed ++ waiting) ++ whole) ++ behind ≡ (closed ++ done) ++ next ∷ (rest ++ (whole ++ behind))
one_of closed waiting whole behind done rest next is =
    append_assoc (closed ++ waiting) whole behind
    ∙ ap (λ (l : List (List Cut)). (closed ++ l) ++ (whole ++ behind)) is
    ∙ ap (λ (l : List (List Cut)). l ++ (whole ++ behind)) (sym (append_assoc closed done (next ∷ rest)))
    ∙ append_assoc (closed ++ done) (next ∷ rest) (whole ++ behind)

-- the groups are these, of which some are settled
some_of : (closed waiting whole behind done rest : List (List Cut)) → waiting ≡ done ++ rest → ((closed ++ waiting) ++ whole) ++ behind ≡ (closed ++ done) ++ (rest ++ (whole ++ behind))
some_of closed waiting whole behind done rest is =
    append_assoc (closed ++ waiting) whole behind
    ∙ ap (λ (l : List (List Cut)). (closed ++ l) ++ (whole ++ behind)) is
    ∙ ap (λ (l : List (List Cut)). l ++ (whole ++ behind)) (sym (append_assoc closed done rest))
    ∙ append_assoc (closed ++ done) rest (whole ++ behind)

some_cut : (group : List Cut) → IsWhole group → 0 < length group
some_cut group whole = let long = ap (λ (l : List Cut). length l) whole.ends in omega (arith, long, length-append whole.front (Text whole.text ∷ []))

module _ {J : Type 0} (before now : Stream) (start : Option Store) (closed waiting whole : List (List Cut)) (import : OpenImport J) (told : Option Store) where
  -- a group that was counted ended the import
  pub stops_reading : (stopped : Stopped J) → StopsAmong start closed waiting import stopped told → StandsFor before now ((closed ++ waiting) ++ whole) → StopsReading before now start import stopped told
  stops_reading stopped s f = record { stream = f.stream; reads = f.reads; faults = f.faults; below = f.below; stops = by f.stands }
    where
      by : AreFollowed f.stream (((closed ++ waiting) ++ whole) ++ f.behind) ⊎ (IsAtEnd now.left × AreAllGroups (cuts f.stream) (((closed ++ waiting) ++ whole) ++ f.behind))
          → StopsWithin start f.stream import stopped told ⊎ (IsAtEnd now.left × StopsAtEnd start (cuts f.stream) import stopped told)
      by (inl a) =
          let rest = s.rest ++ (whole ++ f.behind) in
          let same = one_of closed waiting whole f.behind s.done s.rest s.next s.groups_are in
          let each : AllByRecursion IsWhole ((closed ++ s.done) ++ s.next ∷ (s.rest ++ (whole ++ f.behind))) = subst (λ (l : List (List Cut)). AllByRecursion IsWhole l) same a.each in
          let here : IsWhole s.next = (each-behind IsWhole (closed ++ s.done) (s.next ∷ (s.rest ++ (whole ++ f.behind))) each).0 in
          let taken = all_cuts (closed ++ s.done) ++ s.next in
          let back = all_cuts rest ++ a.hand in
          let all : (all_cuts (closed ++ s.done) ++ s.next) ++ (all_cuts (s.rest ++ (whole ++ f.behind)) ++ a.hand) ≡ all_cuts (((closed ++ waiting) ++ whole) ++ f.behind) ++ a.hand =
          regroup (closed ++ s.done) s.next rest a.hand ∙ ap (λ (l : List (List Cut)). all_cuts l ++ a.hand) (sym same) in
          let long = ap (λ (l : List Cut). length l) all in
          let some : 0 < length (all_cuts (((closed ++ waiting) ++ whole) ++ f.behind) ++ a.hand) =
          omega (arith, long, some_cut s.next here, length-append taken back, length-append (all_cuts (closed ++ s.done)) s.next) in
          inl (record {
            taken = taken;
            more = back ++ a.more;
            cut = sym (append_assoc taken back a.more) ∙ ap (λ (l : List Cut). l ++ a.more) all ∙ a.all;
            some = omega (arith, a.begun some, length-append back a.more);
            stops = record {
              closed = closed ++ s.done;
              next = s.next;
              all = refl;
              each = each-front IsWhole (closed ++ s.done) (s.next ∷ rest) each;
              whole = here;
              behind = s.behind;
            };
          })
      by (inr (at_end, all)) =
          let same = one_of closed waiting whole f.behind s.done s.rest s.next s.groups_are in
          inr (
            at_end,
            record {
              done = closed ++ s.done;
              next = s.next;
              rest = s.rest ++ (whole ++ f.behind);
              all = subst (λ (l : List (List Cut)). AreAllGroups (cuts f.stream) l) same all;
              behind = s.behind;
            },
          )

  -- memory was wanting
  pub lacks_reading : LacksAmong start closed waiting import told → StandsFor before now ((closed ++ waiting) ++ whole) → LacksReading before now start import told
  lacks_reading l f = record { stream = f.stream; reads = f.reads; faults = f.faults; below = f.below; lacks = by f.stands }
    where
      by : AreFollowed f.stream (((closed ++ waiting) ++ whole) ++ f.behind) ⊎ (IsAtEnd now.left × AreAllGroups (cuts f.stream) (((closed ++ waiting) ++ whole) ++ f.behind))
          → LacksWithin start f.stream import told ⊎ (IsAtEnd now.left × LacksAtEnd start (cuts f.stream) import told)
      by (inl a) =
          let others = l.rest ++ (whole ++ f.behind) in
          let same = some_of closed waiting whole f.behind l.done l.rest l.groups_are in
          let each : AllByRecursion IsWhole ((closed ++ l.done) ++ (l.rest ++ (whole ++ f.behind))) = subst (λ (k : List (List Cut)). AllByRecursion IsWhole k) same a.each in
          inl (record {
            taken = all_cuts (((closed ++ waiting) ++ whole) ++ f.behind) ++ a.hand;
            more = a.more;
            cut = a.all;
            begun = a.begun;
            lacks = record {
              closed = closed ++ l.done;
              others = others;
              hand = a.hand;
              all = ap (λ (k : List (List Cut)). all_cuts k ++ a.hand) same ∙ sym (regroup_all (closed ++ l.done) others a.hand);
              each = each-front IsWhole (closed ++ l.done) others each;
              each_other = each-behind IsWhole (closed ++ l.done) others each;
              behind = lacks_more start (closed ++ l.done) l.rest (whole ++ f.behind) import told l.behind;
            };
          })
      by (inr (at_end, all)) =
          let same = some_of closed waiting whole f.behind l.done l.rest l.groups_are in
          inr (
            at_end,
            record {
              done = closed ++ l.done;
              rest = l.rest ++ (whole ++ f.behind);
              all = subst (λ (k : List (List Cut)). AreAllGroups (cuts f.stream) k) same all;
              behind = lacks_more start (closed ++ l.done) l.rest (whole ++ f.behind) import told l.behind;
            },
          )

  -- all that was counted is settled
  pub lacks_settled : IsSettledSo start (closed ++ waiting) import told → LacksAmong start closed waiting import told
  lacks_settled s = record { done = waiting; rest = []; groups_are = sym (append-nil waiting); behind = lacks_nothing start (closed ++ waiting) import told s }

  -- nothing that was counted is settled
  pub lacks_waiting : IsSettledSo start closed import told → LacksAmong start closed waiting import told
  lacks_waiting s =
      let none = sym (append-nil closed) in
      record {
        done = [];
        rest = waiting;
        groups_are = refl;
        behind = lacks_more start (closed ++ []) [] waiting import told (lacks_nothing start (closed ++ []) import told (subst (λ (k : List (List Cut)). IsSettledSo start k import told) none s));
      }

-- ---- all that is whole is settled

none_held : (whole : List (List Cut)) → AllZip IsGroupOf whole [] → whole ≡ []
none_held [] held = refl
none_held (cuts ∷ whole) held = absurd held

module _ {J : Type 0} (start : Option Store) (closed : List (List Cut)) (import : OpenImport J) (told : Option Store) (stream : List ℕ) (settled : IsSettledSo start closed import told) where
  -- at the end of the stream
  pub taken_over : (groups : List TextGroup) → groups ≡ [] → EndsAhead closed stream groups → TakenAll start (cuts stream) import told
  taken_over groups is e =
      let none : e.whole ≡ [] = none_held e.whole (subst (λ (l : List TextGroup). AllZip IsGroupOf e.whole l) is e.held) in
      let all : AreAllGroups (cuts stream) closed = subst (λ (l : List (List Cut)). AreAllGroups (cuts stream) l) (ap (λ (l : List (List Cut)). closed ++ l) none ∙ append-nil closed) e.all in
      record { closed = all.whole; hand = all.hand; in_groups = all.in_groups; settled = subst (λ (l : List (List Cut)). IsSettledSo start l import told) all.all_are settled }

  -- within a stream that may go on, where the cuts of its last group are in hand
  pub cut_over : (groups : List TextGroup) (after : List ℕ → List Cut) (own : OpenImport J) → groups ≡ [] → own.group.label ≡ import.group.label → own.receipts.items ≡ import.receipts.items → own.refused.items ≡ import.refused.items → own.clashes.items ≡ import.clashes.items
      → CutAhead closed stream after groups own.group → CutSoFar start stream after own told
  cut_over groups after own is label receipts refused clashes c =
      let none : c.has.whole ≡ [] = none_held c.has.whole (subst (λ (l : List TextGroup). AllZip IsGroupOf c.has.whole l) is c.has.held) in
      let same : closed ++ c.has.whole ≡ closed = ap (λ (l : List (List Cut)). closed ++ l) none ∙ append-nil closed in
      record {
        taken = c.taken;
        cut = c.cut;
        begun = c.begun;
        so_far = record {
          closed = closed;
          hand = c.has.hand;
          all = c.has.all ∙ ap (λ (l : List (List Cut)). all_cuts l ++ c.has.hand) same;
          each = subst (λ (l : List (List Cut)). AllByRecursion IsWhole l) same c.has.each;
          group = c.has.holds;
          settled = same_settled start closed import own told label receipts refused clashes settled;
        };
      }

none_tallied : (label : List ℕ) (waiting : List (List Cut)) → AllZip (IsTallied label) waiting [] → waiting ≡ []
none_tallied label [] each = refl
none_tallied label (cuts ∷ waiting) each = absurd each

-- nothing that was counted is in hand
pub holds_closed : {J : Type 0} (before now : Stream) (start : Option Store) (state : Underway J) (told : Option Store) → state.counted.items ≡ [] → (u : IsUnderway before now start state told) → HoldsAhead before now u.closed state.ahead
holds_closed {J} before now start state told none u =
    let empty : u.waiting ≡ [] = none_tallied state.import.group.label u.waiting (subst (λ (l : List TalliedGroup). AllZip (IsTallied state.import.group.label) u.waiting l) none u.tallied) in
    subst (λ (l : List (List Cut)). HoldsAhead before now l state.ahead) (ap (λ (l : List (List Cut)). u.closed ++ l) empty ∙ append-nil u.closed) u.ahead

-- what is in hand where nothing is counted
pub underway_closed : {J : Type 0} (before now : Stream) (start : Option Store) (state : Underway J) (told : Option Store) (closed : List (List Cut)) → state.counted.items ≡ [] → IsSettledSo start closed state.import told → HoldsAhead before now closed state.ahead
    → IsUnderway before now start state told
underway_closed {J} before now start state told closed none settled h = record {
  closed = closed;
  waiting = [];
  tallied = subst (λ (l : List TalliedGroup). AllZip (IsTallied state.import.group.label) [] l) (sym none) tt;
  settled = settled;
  ahead = subst (λ (l : List (List Cut)). HoldsAhead before now l state.ahead) (sym (append-nil closed)) h;
}

-- ---- how much is to be done yet

pub round_less : (left left' whole whole' counted : ℕ) → whole' + left' ≤ left → (whole ≡ 0 → counted ≡ 0 → left' < left) → 3 * left' + 2 * whole' + whole < 3 * left + 2 * whole + counted
round_less left left' zero whole' zero few less = let fewer : left' < left = less refl refl in omega (arith, few, fewer)
round_less left left' zero whole' (suc counted) few less = omega (arith, few)
round_less left left' (suc whole) whole' counted few less = omega (arith, few)
