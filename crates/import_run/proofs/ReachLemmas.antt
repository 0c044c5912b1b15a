-- At which group of a stream an import ended.
use Rattle.std.proofs.Common.{◌≡◌, ◌⊎◌, inl, inr, ℕ, ◌<◌, List, [], ◌∷◌, ◌++◌, length, Option, None, Some, refl, sym, ap, subst, ◌∙◌, append_assoc, length-append, arith}
use Rattle.std.specs.Io.KnownBytes.{Consumes, IsAtEnd}
use Rattle.std.specs.List.{AllByRecursion}
use Rattle.std.proofs.lemmas.Grind.{flat_map-append}
use Rattle.std.proofs.lemmas.List.{append-nil}
use Rattle.explorer_model.specs.Cuts.{Cut, cuts}
use Rattle.explorer_model.specs.Imports.{groups}
use Rattle.import_run.specs.SoFar.{AreGroupsSoFar, IsWhole}
use Rattle.import_run.proofs.EndedLemmas.{ended_stand}
use Rattle.import_run.proofs.AccountLemmas.{none_or_some}
use Rattle.import_run.proofs.GroupLemmas.{all_cuts, groups_closed, groups_first, groups_one, some_cuts, texts-append, texts_in, texts_whole}
use Rattle.import_run.proofs.SameGroups.{no_hand, same_group}

-- the group is whole, or it is the last one, with no cut behind it
abbrev pub IsLast : List Cut → List Cut → Type 0
IsLast next more = IsWhole next ⊎ ((more ≡ []) × (texts_in next < 512))

-- behind whole groups of the cuts stands the next one
pub record Reaches (all : List Cut) (done : List (List Cut)) (next : List Cut) : Type 0 where
  pub each : AllByRecursion IsWhole done
  pub more : List Cut
  pub is : all ≡ all_cuts done ++ (next ++ more)
  pub last : IsLast next more

-- one list goes on behind another with a group
pub record GoesOnWith (longer shorter : List (List Cut)) (next : List Cut) : Type 0 where
  pub rest : List (List Cut)
  pub is : longer ≡ shorter ++ next ∷ rest

-- two groups are one, or one of them stands before the other
abbrev pub Compare : List (List Cut) → List Cut → List (List Cut) → List Cut → Type 0
Compare done next done' next' = ((done ≡ done') × (next ≡ next')) ⊎ (GoesOnWith done' done next ⊎ GoesOnWith done done' next')

-- ---- two groups of one stream

module _ (next next' more more' : List Cut) where
  at_one : IsLast next more → IsLast next' more' → next ++ more ≡ next' ++ more' → Compare [] next [] next'
  at_one (inl whole) (inl whole') all = inl (refl, (same_group next next' more more' whole whole' all).0)
  at_one (inl whole) (inr (none, few)) all = absurd (no_hand next more next' whole (all ∙ ap (λ (l : List Cut). next' ++ l) none ∙ append-nil next') few)
  at_one (inr (none, few)) (inl whole) all = absurd (no_hand next' more' next whole (sym all ∙ ap (λ (l : List Cut). next ++ l) none ∙ append-nil next) few)
  at_one (inr (none, few)) (inr (none', few')) all =
      inl (refl, sym (ap (λ (l : List Cut). next ++ l) none ∙ append-nil next) ∙ all ∙ (ap (λ (l : List Cut). next' ++ l) none' ∙ append-nil next'))

  before : (group : List Cut) (groups : List (List Cut)) (rest : List Cut) → IsLast next more → IsWhole group → next ++ more ≡ group ++ rest → GoesOnWith (group ∷ groups) [] next
  before group groups rest (inl whole) is all = record { rest = groups; is = ap (λ (g : List Cut). g ∷ groups) (sym (same_group next group more rest whole is all).0) }
  before group groups rest (inr (none, few)) is all = absurd (no_hand group rest next is (sym all ∙ ap (λ (l : List Cut). next ++ l) none ∙ append-nil next) few)

further : (group other : List Cut) (done done' : List (List Cut)) (next next' : List Cut) → group ≡ other → Compare done next done' next' → Compare (group ∷ done) next (other ∷ done') next'
further group other done done' next next' same (inl is) = inl (λ i. same i ∷ is.0 i, is.1)
further group other done done' next next' same (inr (inl goes)) = inr (inl (record { rest = goes.rest; is = λ i. sym same i ∷ goes.is i }))
further group other done done' next next' same (inr (inr goes)) = inr (inr (record { rest = goes.rest; is = λ i. same i ∷ goes.is i }))

meet : (done done' : List (List Cut)) (next next' more more' : List Cut) → AllByRecursion IsWhole done → AllByRecursion IsWhole done' → IsLast next more → IsLast next' more'
    → all_cuts done ++ (next ++ more) ≡ all_cuts done' ++ (next' ++ more') → Compare done next done' next'
meet [] [] next next' more more' each each' last last' all = at_one next next' more more' last last' all
meet [] (group ∷ done') next next' more more' each each' last last' all =
    let rest = all_cuts done' ++ (next' ++ more') in
    inr (inl (before next next' more more' group done' rest last each'.0 (all ∙ append_assoc group (all_cuts done') (next' ++ more'))))
meet (group ∷ done) [] next next' more more' each each' last last' all =
    let rest = all_cuts done ++ (next ++ more) in
    inr (inr (before next' next more' more group done rest last' each.0 (sym all ∙ append_assoc group (all_cuts done) (next ++ more))))
meet (group ∷ done) (other ∷ done') next next' more more' each each' last last' all =
    let rest = all_cuts done ++ (next ++ more) in
    let rest' = all_cuts done' ++ (next' ++ more') in
    let both = same_group group other rest rest' each.0 each'.0
    (sym (append_assoc group (all_cuts done) (next ++ more)) ∙ all ∙ append_assoc other (all_cuts done') (next' ++ more')) in
    further group other done done' next next' both.0 (meet done done' next next' more more' each.1 each'.1 last last' both.1)

pub compare : (all : List Cut) (done done' : List (List Cut)) (next next' : List Cut) → Reaches all done next → Reaches all done' next' → Compare done next done' next'
compare all done done' next next' a b = meet done done' next next' a.more b.more a.each b.each a.last b.last (sym a.is ∙ b.is)

-- ---- it is one of the groups

-- the groups, where cuts without a text may stand behind the next one
pub record GroupsAt (all : List Cut) (done : List (List Cut)) (next : List Cut) : Type 0 where
  pub extra : List Cut
  pub rest : List (List Cut)
  pub is : groups all ≡ done ++ (next ++ extra) ∷ rest
  pub none : texts_in extra ≡ 0

groups_from : (next more : List Cut) → IsLast next more → 0 < texts_in next → GroupsAt (next ++ more) [] next
groups_from next more (inr (none, few)) some =
    let texts : texts_in (next ++ more) ≡ texts_in next = ap (λ (l : List Cut). texts_in (next ++ l)) none ∙ ap texts_in (append-nil next) in
    record {
      extra = more;
      rest = [];
      is = groups_one (next ++ more) (some_cuts (next ++ more) (omega (arith, texts, some))) (omega (arith, texts, few));
      none = ap texts_in none;
    }
groups_from next more (inl whole) some = by (none_or_some (texts_in more))
  where
    by : (texts_in more ≡ 0) ⊎ (0 < texts_in more) → GroupsAt (next ++ more) [] next
    by (inr later) = record {
      extra = [];
      rest = groups more;
      is = groups_first next more whole later ∙ ap (λ (g : List Cut). g ∷ groups more) (sym (append-nil next));
      none = refl;
    }
    by (inl none) =
        let texts : texts_in (next ++ more) ≡ 512 = omega (arith, texts-append next more, texts_whole next whole, none) in
        record {
          extra = more;
          rest = [];
          is = groups_one (next ++ more) (some_cuts (next ++ more) (omega (arith, texts))) (omega (arith, texts));
          none = none;
        }

pub groups_at : (all : List Cut) (done : List (List Cut)) (next : List Cut) → Reaches all done next → 0 < texts_in next → GroupsAt all done next
groups_at all done next at some =
    let from = groups_from next at.more at.last some in
    record {
      extra = from.extra;
      rest = from.rest;
      is = ap groups at.is ∙ groups_closed done (next ++ at.more) at.each (omega (arith, texts-append next at.more, some)) ∙ ap (λ (l : List (List Cut)). done ++ l) from.is;
      none = from.none;
    }

-- ---- the group at which an import ended

each_parts : (done : List (List Cut)) (next : List Cut) (rest : List (List Cut)) → AllByRecursion IsWhole (done ++ next ∷ rest) → AllByRecursion IsWhole done × IsWhole next
each_parts [] next rest each = (tt, each.0)
each_parts (group ∷ done) next rest each = let later = each_parts done next rest each.1 in ((each.0, later.0), later.1)

cuts_parts : (done : List (List Cut)) (next : List Cut) (rest : List (List Cut)) (hand : List Cut) → all_cuts (done ++ next ∷ rest) ++ hand ≡ all_cuts done ++ (next ++ (all_cuts rest ++ hand))
cuts_parts done next rest hand =
    ap (λ (l : List Cut). l ++ hand) (flat_map-append (λ (group : List Cut). group) done (next ∷ rest))
    ∙ append_assoc (all_cuts done) (next ++ all_cuts rest) hand
    ∙ ap (λ (l : List Cut). all_cuts done ++ l) (append_assoc next (all_cuts rest) hand)

within_whole : (all : List Cut) (whole done : List (List Cut)) (next : List Cut) (rest : List (List Cut)) (hand : List Cut) → all ≡ all_cuts whole ++ hand → AllByRecursion IsWhole whole → whole ≡ done ++ next ∷ rest
    → Reaches all done next
within_whole all whole done next rest hand is each split =
    let parts = each_parts done next rest (subst (λ (l : List (List Cut)). AllByRecursion IsWhole l) split each) in
    record {
      each = parts.0;
      more = all_cuts rest ++ hand;
      is = is ∙ ap (λ (l : List (List Cut)). all_cuts l ++ hand) split ∙ cuts_parts done next rest hand;
      last = inl parts.1;
    }

-- where a group stands among others and a last one
record IsTheLast (whole done : List (List Cut)) (hand next : List Cut) : Type 0 where
  done_is : whole ≡ done
  next_is : hand ≡ next

onward : (group other : List Cut) (whole done : List (List Cut)) (hand next : List Cut) → group ≡ other → IsTheLast whole done hand next ⊎ GoesOnWith whole done next
    → IsTheLast (group ∷ whole) (other ∷ done) hand next ⊎ GoesOnWith (group ∷ whole) (other ∷ done) next
onward group other whole done hand next same (inl is) = inl (record { done_is = λ i. same i ∷ is.done_is i; next_is = is.next_is })
onward group other whole done hand next same (inr goes) = inr (record { rest = goes.rest; is = λ i. same i ∷ goes.is i })

split_last : (whole done : List (List Cut)) (hand next : List Cut) (rest : List (List Cut)) → whole ++ hand ∷ [] ≡ done ++ next ∷ rest → IsTheLast whole done hand next ⊎ GoesOnWith whole done next
split_last [] [] hand next rest all = inl (record { done_is = refl; next_is = cc })
split_last [] (group ∷ done) hand next rest all = absurd (omega (arith, ap length all, length-append done (next ∷ rest)))
split_last (group ∷ whole) [] hand next rest all =
    let head : group ≡ next = cc in
    inr (record { rest = whole; is = ap (λ (g : List Cut). g ∷ whole) head })
split_last (group ∷ whole) (other ∷ done) hand next rest all =
    let head : group ≡ other = cc in
    let tail : whole ++ hand ∷ [] ≡ done ++ next ∷ rest = cc in
    onward group other whole done hand next head (split_last whole done hand next rest tail)

-- a stream that is told, and the part of it that was taken
pub record IsTaken (bytes stream : List ℕ) (after : Option (List ℕ)) : Type 0 where
  pub rest : List ℕ
  pub after_is : after ≡ Some rest
  pub is : bytes ≡ stream ++ rest

pub taken_of : (left after : Option (List ℕ)) (bytes stream : List ℕ) → left ≡ Some bytes → Consumes left after stream → IsTaken bytes stream after
taken_of None after bytes stream is next = absurd (none is)
  where
    none : (let o : Option (List ℕ) = None in o) ≡ Some bytes → ⊥
    none e = cc
taken_of (Some xs) None bytes stream is next = absurd next
taken_of (Some xs) (Some ys) bytes stream is next =
    let same : xs ≡ bytes = cc in
    record { rest = ys; after_is = refl; is = sym same ∙ next }

pub taken_all : (bytes stream : List ℕ) (after : Option (List ℕ)) → IsTaken bytes stream after → IsAtEnd after → bytes ≡ stream
taken_all bytes stream after taken at_end =
    let none : taken.rest ≡ [] = subst IsAtEnd taken.after_is at_end in
    taken.is ∙ ap (λ (l : List ℕ). stream ++ l) none ∙ append-nil stream

pub reaches : (bytes stream : List ℕ) (after : Option (List ℕ)) (so_far done : List (List Cut)) (next : List Cut) (rest : List (List Cut)) → IsTaken bytes stream after → AreGroupsSoFar stream after so_far
    → so_far ≡ done ++ next ∷ rest → Reaches (cuts bytes) done next
reaches bytes stream after so_far done next rest taken (inl (hand, are)) split =
    let stand = ended_stand stream taken.rest in
    let all : cuts bytes ≡ all_cuts so_far ++ (hand ++ stand.0) =
    ap cuts taken.is ∙ stand.1 ∙ ap (λ (l : List Cut). l ++ stand.0) are.all ∙ append_assoc (all_cuts so_far) hand stand.0 in
    within_whole (cuts bytes) so_far done next rest (hand ++ stand.0) all are.each split
reaches bytes stream after so_far done next rest taken (inr (at_end, are)) split = by (split_last are.whole done are.hand next rest (sym are.all_are ∙ split))
  where
    all : cuts bytes ≡ all_cuts are.whole ++ are.hand
    all = ap cuts (taken_all bytes stream after taken at_end) ∙ are.in_groups.all

    by : IsTheLast are.whole done are.hand next ⊎ GoesOnWith are.whole done next → Reaches (cuts bytes) done next
    by (inr goes) = within_whole (cuts bytes) are.whole done next goes.rest are.hand all are.in_groups.each goes.is
    by (inl is) = record {
      each = subst (λ (l : List (List Cut)). AllByRecursion IsWhole l) is.done_is are.in_groups.each;
      more = [];
      is = all ∙ (λ i. all_cuts (is.done_is i) ++ is.next_is i) ∙ ap (λ (l : List Cut). all_cuts done ++ l) (sym (append-nil next));
      last = inr (refl, subst (λ (g : List Cut). texts_in g < 512) is.next_is are.in_groups.few);
    }
