-- Where an import in rounds comes to its end: what is in hand, and what may still come.
use Rattle.std.proofs.Common.{◌≡◌, ◌==◌, ◌+◌, ◌*◌, ◌<◌, ◌≤◌, ℕ, Bool, true, false, not, List, [], ◌++◌, length, Option, None, Some, sym, ap, subst, ◌∙◌, arith}
use Rattle.std.specs.Prelude.{IfSome}
use Rattle.std.proofs.lemmas.Bool.Decides.{nat_tests}
use Rattle.std.proofs.lemmas.List.{append-nil, nil_from_length}
use Rattle.std.specs.List.{All, AllZip}
use Rattle.outside.specs.Stream.{Gives, Stream}
use Rattle.explorer_model.specs.Cuts.{Cut}
use Rattle.explorer_model.specs.Journal.{input_limit}
use Rattle.import_run.specs.declared.ahead.Ahead.{Ahead}
use Rattle.import_run.specs.declared.ahead.ReadEnd.{ReadEnd}
use Rattle.import_run.specs.declared.open_import.OpenImport.{OpenImport}
use Rattle.import_run.specs.declared.text_group.TalliedGroup.{TalliedGroup}
use Rattle.import_run.specs.declared.underway.Over.TheVariants.{TooMuch}
use Rattle.import_run.specs.declared.underway.Underway.{Underway}
use Rattle.import_run.specs.Ahead.{CanGoOn, HoldsAhead, StandsFor, left_by, left_of}
use Rattle.import_run.specs.Apart.{IsInHand}
use Rattle.import_run.specs.Committing.{Store}
use Rattle.import_run.specs.Grouping.{IsTallied}
use Rattle.import_run.specs.Settled.{IsSettledSo}
use Rattle.import_run.specs.Underway.{CanSettle, IsOver, IsUnderway, LacksReading}
use Rattle.import_run.proofs.UnderwayLemmas.{holds_closed, lacks_reading, lacks_waiting}

-- ---- options

pub some_on : {A : Type 0} (o : Option A) (P Q : A → Type 0) → ((x : A) → P x → Q x) → IfSome o P → IfSome o Q
some_on None P Q step h = tt
some_on (Some x) P Q step h = step x h

-- ---- lists that are empty

pub none_in : {A : Type 0} (count : ℕ) (items : List A) (result : Bool) → count ≡ length items → result ≡ (count == 0) → result ≡ true → items ≡ []
none_in count items result long is true_is = let none : length items ≡ 0 = grind (arith, nat_tests) in nil_from_length items none

-- groups are counted only where there are some
pub none_counted : {A : Type 0} (count : ℕ) (items : List A) (result : Bool) → count ≡ length items → result ≡ (count == 0) → items ≡ [] → not result ≡ false
none_counted count items result long is none =
    let empty : count ≡ 0 = long ∙ ap (λ l. length l) none in
    ap not (is ∙ ap (λ (k : ℕ). k == 0) empty)

-- ---- what can be settled, under the label of the group in hand

pub own_label : (label : List ℕ) (ahead : Ahead) → CanGoOn label ahead → CanGoOn ahead.group.label ahead
own_label label ahead ready = subst (λ (l : List ℕ). CanGoOn l ahead) (sym ready.label_is) ready

pub own_back : (label : List ℕ) (old new : Ahead) → CanGoOn label old → CanGoOn old.group.label new → CanGoOn label new
own_back label old new ready on = subst (λ (l : List ℕ). CanGoOn l new) ready.label_is on

pub settle_on : {J : Type 0} (label : List ℕ) (old new : Underway J) → new.import ≡ old.import → new.counted.items ≡ old.counted.items → CanSettle label old → CanGoOn old.ahead.group.label new.ahead → CanSettle label new
settle_on {J} label old new import counted ready ahead = record {
  label_is = ap (λ (i : OpenImport J). i.group.label) import ∙ ready.label_is;
  hand = subst (λ (l : List TalliedGroup). All IsInHand l) (sym counted) ready.hand;
  ahead = own_back label old.ahead new.ahead ready.ahead ahead;
}

-- ---- how much is to be done

pub reading_less : (left left' whole whole' counted : ℕ) → whole' + left' ≤ whole + left → left' ≤ left → 3 * left' + 2 * whole' + counted ≤ 3 * left + 2 * whole + counted
reading_less left left' whole whole' counted few less = omega (arith, few, less)

-- more may be read only where the last byte has not come
pub last_left : (ahead : Ahead) → ahead.end ≡ None → ahead.taken < input_limit → 5 ≤ left_of ahead
last_left ahead reading below = let P : Option ReadEnd → Type 0 = λ end. 5 ≤ left_by end ahead.taken in subst P (sym reading) (omega (arith, below))

pub one_left : (ahead : Ahead) → ahead.end ≡ None → ahead.taken + 1 ≡ input_limit → left_of ahead ≡ 5
one_left ahead reading last = let P : Option ReadEnd → Type 0 = λ end. left_by end ahead.taken ≡ 5 in subst P (sym reading) (omega (arith, last))

-- ---- what is in hand

module _ {J : Type 0} (before now now' : Stream) (start : Option Store) (old new : Underway J) (told : Option Store) (import : new.import ≡ old.import) where
  -- more was read
  pub underway_on : new.counted.items ≡ old.counted.items → ((before : Stream) (given : List (List Cut)) → HoldsAhead before now given old.ahead → HoldsAhead before now' given new.ahead)
      → IsUnderway before now start old told → IsUnderway before now' start new told
  underway_on counted reads u =
      let label : new.import.group.label ≡ old.import.group.label = ap (λ (i : OpenImport J). i.group.label) import in
      record {
        closed = u.closed;
        waiting = u.waiting;
        tallied = subst (λ (l : List ℕ). AllZip (IsTallied l) u.waiting new.counted.items) (sym label) (subst (λ (l : List TalliedGroup). AllZip (IsTallied old.import.group.label) u.waiting l) (sym counted) u.tallied);
        settled = subst (λ (i : OpenImport J). IsSettledSo start u.closed i told) (sym import) u.settled;
        ahead = reads before (u.closed ++ u.waiting) u.ahead;
      }

  -- memory was wanting for what was to be read
  pub lacks_over : ((before : Stream) (given : List (List Cut)) → HoldsAhead before now given old.ahead → StandsFor before now' given) → IsUnderway before now start old told → LacksReading before now' start new.import told
  lacks_over ends u =
      let settled : IsSettledSo start u.closed new.import told = subst (λ (i : OpenImport J). IsSettledSo start u.closed i told) (sym import) u.settled in
      lacks_reading before now' start u.closed u.waiting [] new.import told (lacks_waiting before now' start u.closed u.waiting [] new.import told settled)
      (subst (λ (l : List (List Cut)). StandsFor before now' l) (sym (append-nil (u.closed ++ u.waiting))) (ends before (u.closed ++ u.waiting) u.ahead))

  -- the last byte that an import takes came
  pub over_bound : (byte : List ℕ) → new.ahead ≡ old.ahead → old.counted.items ≡ [] → old.ahead.whole.items ≡ [] → old.ahead.end ≡ None → old.ahead.taken + 1 ≡ input_limit → Gives 1 byte now now' → IsUnderway before now start old told
      → IsOver TooMuch before now' start new told
  over_bound byte same none none_whole reading last gives u = record {
    closed = u.closed;
    settled = subst (λ (i : OpenImport J). IsSettledSo start u.closed i told) (sym import) u.settled;
    none = ap (λ (a : Ahead). a.whole.items) same ∙ none_whole;
    stands = (
      ap (λ (a : Ahead). a.end) same ∙ reading,
      ap (λ (a : Ahead). a.taken + 1) same ∙ last,
      (now, subst (λ (a : Ahead). HoldsAhead before now u.closed a) (sym same) (holds_closed before now start old told none u), (byte, gives)),
    );
  }
