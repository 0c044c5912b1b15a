-- Groups that are tallied and settled one after another.
use Rattle.std.proofs.Common.{◌≡◌, ℕ, List, [], ◌∷◌, ◌++◌, Option, refl, sym, subst, ◌∙◌, append_assoc}
use Rattle.std.specs.List.{AllByRecursion, AllZip}
use Rattle.std.proofs.lemmas.List.{append-nil}
use Rattle.explorer_model.specs.declared.fault.Stop.{Stop}
use Rattle.explorer_model.specs.Cuts.{Cut}
use Rattle.import_run.specs.declared.open_import.OpenImport.{OpenImport}
use Rattle.import_run.specs.declared.open_import.Stopped.{Stopped}
use Rattle.import_run.specs.declared.text_group.TalliedGroup.{TalliedGroup}
use Rattle.import_run.specs.Committing.{Store}
use Rattle.import_run.specs.Grouping.{Ascend, IsTallied}
use Rattle.import_run.specs.Importing.{BreaksBy}
use Rattle.import_run.specs.Settled.{IsSettledSo}
use Rattle.import_run.specs.Taking.{LacksAmong, LacksBehind, StopsAmong, StopsBehind}
use Rattle.import_run.proofs.TakingLemmas.{by_stop, lacks_more}

-- some of these groups are settled, and the others are tallied and left
pub record SettledFront {J : Type 0} (label : List ℕ) (start : Option Store) (closed groups : List (List Cut)) (rest : List TalliedGroup) (import : OpenImport J) (told : Option Store) : Type 0 where
  pub done : List (List Cut)
  pub left : List (List Cut)
  pub groups_are : groups ≡ done ++ left
  pub tallied : AllZip (IsTallied label) left rest
  pub ascend : AllByRecursion Ascend left
  pub settled : IsSettledSo start (closed ++ done) import told

module _ {J : Type 0} (label : List ℕ) (start : Option Store) (closed groups : List (List Cut)) where
  pub front_first : (rest : List TalliedGroup) (import : OpenImport J) (told : Option Store) → AllByRecursion Ascend groups → AllZip (IsTallied label) groups rest → IsSettledSo start closed import told
      → SettledFront label start closed groups rest import told
  front_first rest import told ascend tallied settled = record {
    done = [];
    left = groups;
    groups_are = refl;
    tallied = tallied;
    ascend = ascend;
    settled = subst (λ (l : List (List Cut)). IsSettledSo start l import told) (sym (append-nil closed)) settled;
  }

  -- all are settled
  pub front_all : (rest : List TalliedGroup) (import : OpenImport J) (told : Option Store) → rest ≡ [] → SettledFront label start closed groups rest import told → IsSettledSo start (closed ++ groups) import told
  front_all rest import told none f = by f.left f.groups_are (subst (λ (l : List TalliedGroup). AllZip (IsTallied label) f.left l) none f.tallied)
    where
      by : (left : List (List Cut)) → groups ≡ f.done ++ left → AllZip (IsTallied label) left [] → IsSettledSo start (closed ++ groups) import told
      by [] is each = subst (λ (l : List (List Cut)). IsSettledSo start (closed ++ l) import told) (sym (is ∙ append-nil f.done)) f.settled
      by (next ∷ left) is each = absurd each

  module _ (rest rest' : List TalliedGroup) (one : TalliedGroup) (first : rest ≡ one ∷ rest') (old new : OpenImport J) (told told' : Option Store) (f : SettledFront label start closed groups rest old told) where
    each_left : AllZip (IsTallied label) f.left (one ∷ rest')
    each_left = subst (λ (l : List TalliedGroup). AllZip (IsTallied label) f.left l) first f.tallied

    -- one more is settled
    pub front_next : ((closed : List (List Cut)) (next : List Cut) → Ascend next → IsTallied label next one → IsSettledSo start closed old told → IsSettledSo start (closed ++ next ∷ []) new told')
        → SettledFront label start closed groups rest' new told'
    front_next step = by f.left f.groups_are each_left f.ascend
      where
        by : (left : List (List Cut)) → groups ≡ f.done ++ left → AllZip (IsTallied label) left (one ∷ rest') → AllByRecursion Ascend left → SettledFront label start closed groups rest' new told'
        by [] is each ascend = absurd each
        by (next ∷ left) is each ascend = record {
          done = f.done ++ next ∷ [];
          left = left;
          groups_are = is ∙ sym (append_assoc f.done (next ∷ []) left);
          tallied = each.1;
          ascend = ascend.1;
          settled = subst (λ (l : List (List Cut)). IsSettledSo start l new told') (append_assoc closed f.done (next ∷ [])) (step (closed ++ f.done) next ascend.0 each.0 f.settled);
        }

    -- the next one ended the import, or memory was wanting for it
    pub front_breaks : (stop : Stop (Stopped J)) → ((closed : List (List Cut)) (next : List Cut) → Ascend next → IsTallied label next one → IsSettledSo start closed old told
        → BreaksBy stop (λ stopped. StopsBehind start closed next new stopped told') (LacksBehind start closed (next ∷ []) new told'))
        → BreaksBy stop (λ stopped. StopsAmong start closed groups new stopped told') (LacksAmong start closed groups new told')
    front_breaks stop step = by f.left f.groups_are each_left f.ascend
      where
        by : (left : List (List Cut)) → groups ≡ f.done ++ left → AllZip (IsTallied label) left (one ∷ rest') → AllByRecursion Ascend left
            → BreaksBy stop (λ stopped. StopsAmong start closed groups new stopped told') (LacksAmong start closed groups new told')
        by [] is each ascend = absurd each
        by (next ∷ left) is each ascend = by_stop stop
            (λ stopped behind. record { done = f.done; next = next; rest = left; groups_are = is; behind = behind })
            (λ behind. record { done = f.done; rest = next ∷ left; groups_are = is; behind = lacks_more start (closed ++ f.done) (next ∷ []) left new told' behind })
            (step (closed ++ f.done) next ascend.0 each.0 f.settled)
