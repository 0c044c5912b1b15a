-- One round of an import: what is settled in it, what is counted, and what is read.
use Rattle.std.proofs.Common.{◌≡◌, ◌+◌, ◌*◌, ◌^◌, ◌<◌, ◌≤◌, ℕ, Bool, false, List, [], ◌∷◌, ◌++◌, length, Option, None, Result, Ok, Err, IsErrAnd, sym, ap, subst, ◌∙◌, arith}
use Rattle.std.specs.List.{All, AllByRecursion, AllZip}
use Rattle.std.proofs.lemmas.List.{nil_from_length}
use Rattle.std.proofs.lemmas.List.Elements.{All-cons, All-head, All-nil, All-tail}
use Rattle.plain_laws.specs.Lists.{each-behind, each-front}
use Rattle.outside.specs.Stream.{Stream}
use Rattle.explorer_model.specs.declared.fault.Stop.{Stop}
use Rattle.explorer_model.specs.declared.fault.Stop.TheVariants as stops
use Rattle.explorer_model.specs.Cuts.{Cut}
use Rattle.explorer_model.specs.Journal.{input_limit}
use Rattle.import_run.specs.declared.ahead.Ahead.{Ahead}
use Rattle.import_run.specs.declared.ahead.ReadEnd.{ReadEnd}
use Rattle.import_run.specs.declared.open_import.OpenImport.{OpenImport}
use Rattle.import_run.specs.declared.open_import.Stopped.{Stopped}
use Rattle.import_run.specs.declared.text_group.TalliedGroup.{TalliedGroup}
use Rattle.import_run.specs.declared.text_group.TextGroup.{TextGroup}
use Rattle.import_run.specs.declared.underway.Underway.{Underway}
use Rattle.import_run.specs.Ahead.{HoldsAhead, IsUnder, StandsFor, left_by, left_of}
use Rattle.import_run.specs.Apart.{CanTally, IsTalliedGroup}
use Rattle.import_run.specs.Committing.{Store}
use Rattle.import_run.specs.Grouping.{Ascend, IsGroupOf, IsTallied}
use Rattle.import_run.specs.Importing.{BreaksBy}
use Rattle.import_run.specs.Settled.{IsSettledSo}
use Rattle.import_run.specs.Taking.{LacksAmong, StopsAmong}
use Rattle.import_run.specs.Underway.{IsUnderway, LacksReading, StopsReading, Turns}
use Rattle.import_run.proofs.AheadLemmas.{stands_for}
use Rattle.import_run.proofs.TakingLemmas.{by_stop}
use Rattle.import_run.proofs.UnderwayLemmas.{given_ascend, lacks_reading, lacks_settled, round_less, stops_reading, tallied_many, tallied_under}

pub can_tally_all : (label : List ℕ) (groups : List TextGroup) → All (IsUnder label) groups → All CanTally groups
can_tally_all label [] each = All-nil CanTally
can_tally_all label (group ∷ groups) each = All-cons CanTally group groups (All-head (IsUnder label) group groups each).tallies (can_tally_all label groups (All-tail (IsUnder label) group groups each))

-- memory was wanting for what was to be read, behind groups that are settled
pub turns_lacking : {J : Type 0} (counting : Bool) (result : Result (Unit {0}) (Stop (Stopped J))) (old new : Underway J) (source source' : Stream) (told told' : Option Store) → IsErrAnd result (λ stop. stop ≡ stops.OutOfMemory)
    → new.import.group ≡ old.import.group
    → ((start : Option Store) (closed groups : List (List Cut)) → AllByRecursion Ascend groups → AllZip (IsTallied old.import.group.label) groups old.counted.items → IsSettledSo start closed old.import told → LacksAmong start closed groups new.import told')
    → ((before : Stream) (given : List (List Cut)) → HoldsAhead before source given old.ahead → StandsFor before source' given) → Turns counting result old new source source' told told'
turns_lacking counting (Ok done) old new source source' told told' is same lacks ends = absurd is
turns_lacking {J} counting (Err stop) old new source source' told told' is same lacks ends =
    let P : Stop (Stopped J) → Type 0 = λ s. Turns counting (Err s) old new source source' told told' in
    subst P (sym is) (record { same = same; ready = tt; settles = lacks; reads = tt; ends = ends; less = tt; few = tt })

-- what a turn left is what its caller has
pub turns_left : {J : Type 0} {counting : Bool} {result : Result (Unit {0}) (Stop (Stopped J))} {old new new' : Underway J} {source after after' : Stream} {told left left' : Option Store} → Turns counting result old new source after told left
    → new ≡ new' → after ≡ after' → left ≡ left' → Turns counting result old new' source after' told left'
turns_left {J} {counting} {result} {old} {new} {new'} {source} {after} {after'} {told} {left} {left'} turns state reads tells =
    subst (λ (s : Underway J). Turns counting result old s source after' told left') state (subst (λ (s : Stream). Turns counting result old new source s told left') reads (subst (λ (s : Option Store). Turns counting result old new source after told s) tells turns))

-- the groups that were whole are given on
abbrev pub GivesWhole : Ahead → List TextGroup → Ahead → Type 0
GivesWhole old groups new = (before now : Stream) (given : List (List Cut)) → HoldsAhead before now given old
    → (whole : List (List Cut)) × AllZip IsGroupOf whole groups × HoldsAhead before now (given ++ whole) new

module _ {J : Type 0} (before now now' : Stream) (start : Option Store) (old : Underway J) (groups : List TextGroup) (ahead : Ahead) (told told' : Option Store) (given : GivesWhole old.ahead groups ahead) (u : IsUnderway before now start old told) where
  on : (whole : List (List Cut)) × AllZip IsGroupOf whole groups × HoldsAhead before now ((u.closed ++ u.waiting) ++ whole) ahead
  on = given before now (u.closed ++ u.waiting) u.ahead

  order : (whole : List (List Cut)) → HoldsAhead before now ((u.closed ++ u.waiting) ++ whole) ahead → AllByRecursion Ascend ((u.closed ++ u.waiting) ++ whole)
  order whole h = given_ascend before now ((u.closed ++ u.waiting) ++ whole) ahead h

  waiting_order : (whole : List (List Cut)) → HoldsAhead before now ((u.closed ++ u.waiting) ++ whole) ahead → AllByRecursion Ascend u.waiting
  waiting_order whole h = each-behind Ascend u.closed u.waiting (each-front Ascend (u.closed ++ u.waiting) whole (order whole h))

  module _ (new : OpenImport J) (ahead' : Ahead)
      (settles : (start : Option Store) (closed groups : List (List Cut)) → AllByRecursion Ascend groups → AllZip (IsTallied old.import.group.label) groups old.counted.items → IsSettledSo start closed old.import told
      → IsSettledSo start (closed ++ groups) new told')
      (reads : (before : Stream) (given : List (List Cut)) → HoldsAhead before now given ahead → HoldsAhead before now' given ahead') where
    pub round_goes : (counted : List TalliedGroup) → All (IsUnder old.import.group.label) groups → AllZip IsTalliedGroup groups counted → new.group ≡ old.import.group → (state : Underway J) → state.import ≡ new → state.ahead ≡ ahead' → state.counted.items ≡ counted
        → IsUnderway before now' start state told'
    round_goes counted under made same state import_is ahead_is counted_is = by on.0 on.1 on.2
      where
        by : (whole : List (List Cut)) → AllZip IsGroupOf whole groups → HoldsAhead before now ((u.closed ++ u.waiting) ++ whole) ahead → IsUnderway before now' start state told'
        by whole held h =
            let label : state.import.group.label ≡ old.import.group.label = ap (λ (i : OpenImport J). i.group.label) import_is ∙ ap (λ (g : TextGroup). g.label) same in
            let tallied = tallied_under old.import.group.label whole groups counted held made under (each-behind Ascend (u.closed ++ u.waiting) whole (order whole h)) in
            record {
              closed = u.closed ++ u.waiting;
              waiting = whole;
              tallied = subst (λ (l : List ℕ). AllZip (IsTallied l) whole state.counted.items) (sym label) (subst (λ (l : List TalliedGroup). AllZip (IsTallied old.import.group.label) whole l) (sym counted_is) tallied);
              settled = subst (λ (i : OpenImport J). IsSettledSo start (u.closed ++ u.waiting) i told') (sym import_is) (settles start u.closed u.waiting (waiting_order whole h) u.tallied u.settled);
              ahead = subst (λ (a : Ahead). HoldsAhead before now' ((u.closed ++ u.waiting) ++ whole) a) (sym ahead_is) (reads before ((u.closed ++ u.waiting) ++ whole) h);
            }

    -- memory was wanting for what is counted
    pub counting_lacks : ahead'.taken < 2 ^ 40 → LacksReading before now' start new told'
    counting_lacks below = by on.0 on.2
      where
        by : (whole : List (List Cut)) → HoldsAhead before now ((u.closed ++ u.waiting) ++ whole) ahead → LacksReading before now' start new told'
        by whole h =
            lacks_reading before now' start u.closed u.waiting whole new told' (lacks_settled before now' start u.closed u.waiting whole new told' (settles start u.closed u.waiting (waiting_order whole h) u.tallied u.settled))
            (stands_for before now' ((u.closed ++ u.waiting) ++ whole) ahead' below (reads before ((u.closed ++ u.waiting) ++ whole) h))

  module _ (new : OpenImport J) (ends : (before : Stream) (given : List (List Cut)) → HoldsAhead before now given ahead → StandsFor before now' given) where
    pub round_breaks : (stop : Stop (Stopped J))
        → ((start : Option Store) (closed groups : List (List Cut)) → AllByRecursion Ascend groups → AllZip (IsTallied old.import.group.label) groups old.counted.items → IsSettledSo start closed old.import told
        → BreaksBy stop (λ stopped. StopsAmong start closed groups new stopped told') (LacksAmong start closed groups new told'))
        → BreaksBy stop (λ stopped. StopsReading before now' start new stopped told') (LacksReading before now' start new told')
    round_breaks stop settles = by on.0 on.2
      where
        by : (whole : List (List Cut)) → HoldsAhead before now ((u.closed ++ u.waiting) ++ whole) ahead
            → BreaksBy stop (λ stopped. StopsReading before now' start new stopped told') (LacksReading before now' start new told')
        by whole h =
            let stands = ends before ((u.closed ++ u.waiting) ++ whole) h in
            by_stop stop (λ stopped stops. stops_reading before now' start u.closed u.waiting whole new told' stopped stops stands)
            (λ lacks. lacks_reading before now' start u.closed u.waiting whole new told' lacks stands)
            (settles start u.closed u.waiting (waiting_order whole h) u.tallied u.settled)

-- ---- how much is to be done behind it

left_same : (old mid : Ahead) → mid.end ≡ old.end → mid.taken ≡ old.taken → left_of mid ≡ left_of old
left_same old mid end taken = ap (λ (e : Option ReadEnd). left_by e mid.taken) end ∙ ap (λ (n : ℕ). left_by old.end n) taken

module _ {J : Type 0} (counting : Bool) (old : Underway J) (mid after : Ahead) (groups : List TextGroup) (counted : List TalliedGroup) (none : mid.whole.items ≡ []) (end : mid.end ≡ old.ahead.end) (taken : mid.taken ≡ old.ahead.taken)
    (groups_are : groups ≡ old.ahead.whole.items) where
  pub rounds_less : AllZip IsTalliedGroup groups counted → (old.counted.items ≡ [] → old.ahead.whole.items ≡ [] → (old.ahead.end ≡ None) × (old.ahead.taken + 1 < input_limit)) → (groups ≡ [] → counting ≡ false)
      → (counting ≡ false → mid.whole.items ≡ [] → mid.end ≡ None → mid.taken + 1 < input_limit → left_of after < left_of mid) → length after.whole.items + left_of after ≤ length mid.whole.items + left_of mid
      → 3 * left_of after + 2 * length after.whole.items + length counted < 3 * left_of old.ahead + 2 * length old.ahead.whole.items + length old.counted.items
  rounds_less made work idle less few =
      let same = left_same old.ahead mid end taken in
      let many : length counted ≡ length old.ahead.whole.items = tallied_many groups counted made ∙ ap (λ (l : List TextGroup). length l) groups_are in
      let empty = ap (λ (l : List TextGroup). length l) none in
      let fewer : length after.whole.items + left_of after ≤ left_of old.ahead = omega (arith, few, same, empty) in
      let falls : length old.ahead.whole.items ≡ 0 → length old.counted.items ≡ 0 → left_of after < left_of old.ahead =
      (λ whole also.
      let no_groups = nil_from_length old.ahead.whole.items whole in
      let reads = work (nil_from_length old.counted.items also) no_groups in
      let more : mid.taken + 1 < input_limit = omega (arith, reads.1, taken) in
      let l = less (idle (groups_are ∙ no_groups)) none (end ∙ reads.0) more in
      omega (arith, l, same)) in
      let all = round_less (left_of old.ahead) (left_of after) (length old.ahead.whole.items) (length after.whole.items) (length old.counted.items) fewer falls in
      omega (arith, all, many)
