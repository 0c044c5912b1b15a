-- The steps of readers and of the publisher keep the rule over what is published.
use Rattle.std.proofs.Common.{◌≡◌, ℕ, ◌≢◌, List, [], ◌∷◌, ◌++◌, set, refl, sym, ◌∙◌, subst, ⊎_elim, Option, None, Some}
use Rattle.explorer_model.proofs.Timelines.{prefix-self, prefix-trans}
use mathlib.Core.Option.{some}
use lib.ListN.{get_elem?}
use Rattle.crossbeam_utils.specs.Register.{Admits, TurnsAt, Forks, Merges}
use Rattle.atomic_table.proofs.Lists.{at_set, at_snoc}
use Rattle.logbook.specs.Pages.{Book}
use Rattle.published_index.specs.declared.published.Published.{Published}
use Rattle.published_index.specs.Cover.{journal_of}
use Rattle.published_index.specs.History.{Reached}
use Rattle.published_index.specs.Rule.{Begins, IsBelow, IsKeptBy, SeesShown, IsOf}

abbrev pub holds : Published → List (Option Reached) → Type 0
holds shown = IsKeptBy shown.list shown.front

abbrev pub sees : Option Reached → Published → Published → Option Reached → Type 0
sees seen before shown after = SeesShown seen shown.list shown.front after

pub begins-self : (front : Reached) → Begins front front
begins-self front = record { book = refl; log = prefix-self front.log }

below-later : (seen : Option Reached) (front whole : Reached) → Begins front whole → IsBelow seen front → IsBelow seen whole
below-later None front whole begins below = tt
below-later (Some seen) front whole begins below = record {
  book = below.book ∙ begins.book;
  log = prefix-trans seen.log front.log whole.log below.log begins.log;
}

below-is : (seen seen' : Option Reached) (front : Reached) → seen ≡ seen' → IsBelow seen front → IsBelow seen' front
below-is seen seen' front is below = subst (λ (s : Option Reached). IsBelow s front) is below

set-below : (front : Reached) (views : List (Option Reached)) (seat : ℕ) (seen : Option Reached)
    → ((j : ℕ) (s : Option Reached) → get_elem? views j ≡ some s → IsBelow s front) → IsBelow seen front
    → (j : ℕ) (s : Option Reached) → get_elem? (set views seat seen) j ≡ some s → IsBelow s front
set-below front views seat seen all below j s e =
    ⊎_elim (λ (t : (j ≡ seat) × (seen ≡ s)). below-is seen s front t.1 below) (λ (t : (j ≢ seat) × (get_elem? views j ≡ some s)). all j s t.1)
    (at_set views seat j seen s e)

snoc-below : (front : Reached) (views : List (Option Reached)) (seen : Option Reached)
    → ((j : ℕ) (s : Option Reached) → get_elem? views j ≡ some s → IsBelow s front) → IsBelow seen front
    → (j : ℕ) (s : Option Reached) → get_elem? (views ++ seen ∷ []) j ≡ some s → IsBelow s front
snoc-below front views seen all below j s e =
    ⊎_elim (λ (t : get_elem? views j ≡ some s). all j s t) (λ (t : seen ≡ s). below-is seen s front t below) (at_snoc views seen s j e)

-- a new reader has seen nothing
pub admits : Admits holds None
admits shown views kept = record { tied = kept.tied; below = snoc-below shown.front views None kept.below tt }

-- what is published goes on, and is seen
pub sees-turns : (seat : ℕ) (seen : Option Reached) (before shown : Published) → Begins before.front shown.front
    → (before.front.log ≡ journal_of before.list → shown.front.log ≡ journal_of shown.list)
    → TurnsAt holds seat seen before shown sees
sees-turns seat seen before shown begins ties views kept at =
    let later : (j : ℕ) (s : Option Reached) → get_elem? views j ≡ some s → IsBelow s shown.front = λ j s e.
    below-later s before.front shown.front begins (kept.below j s e) in
    let tied : shown.front.log ≡ journal_of shown.list = ties kept.tied in (
      Some shown.front,
      record { tied = tied; below = set-below shown.front views seat (Some shown.front) later (begins-self shown.front) },
      record { below = later seat seen at; tied = tied; seen_now = refl },
    )

-- a reader sees what is published
pub reads-turns : (seat : ℕ) (seen : Option Reached) (shown : Published) → TurnsAt holds seat seen shown shown sees
reads-turns seat seen shown = sees-turns seat seen shown shown (begins-self shown.front) (λ tied. tied)

pub forks : (seat : ℕ) (seen : Option Reached) → Forks holds seat seen seen seen
forks seat seen shown views kept at =
    let below : IsBelow seen shown.front = kept.below seat seen at in
    record {
      tied = kept.tied;
      below = snoc-below shown.front (set views seat seen) seen (set-below shown.front views seat seen kept.below below) below;
    }

-- a reader that has seen nothing takes what it is told
pub merges : (seat : ℕ) (seen : Option Reached) (other : ℕ) (told : Option Reached) → Merges holds seat seen other told told None
merges seat seen other told shown views kept at apart there =
    let below : IsBelow told shown.front =
    ⊎_elim (λ (t : (other ≡ seat) × (told ≡ told)). absurd (apart t.0)) (λ (t : (other ≢ seat) × (get_elem? views other ≡ some told)). kept.below other told t.1)
    (at_set views seat other told told there) in
    record {
      tied = kept.tied;
      below = set-below shown.front (set views seat told) other None (set-below shown.front views seat told kept.below below) tt;
    }

-- what is published is of the book of what was seen
pub of-book : (seen : Option Reached) (book : Book) (front : Reached) → IsOf seen book → IsBelow seen front → front.book ≡ book
of-book None book front of below = absurd of
of-book (Some seen) book front of below = sym below.book ∙ of
