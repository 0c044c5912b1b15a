-- What becomes of a published list as neighbours become one.
use Rattle.std.proofs.Common.{◌≡◌, ℕ, ◌+◌, List, None, Some, Result, Ok, Err, refl, sym, ap, subst, ◌∙◌}
use Rattle.std.specs.Prelude.{slice_get}
use Rattle.explorer_model.specs.declared.archive.Batch.{Batch}
use Rattle.segment_blocks.specs.Segment.{CountedSpan, IsSegment}
use Rattle.segment_merge.specs.Merging.{IsMergeOf}
use Rattle.published_index.specs.Changes.{JoinAt, with_change}
use Rattle.published_index.specs.States.{Publishing}
use Rattle.ingest_desk.specs.Installs.{Installs, IsGone, IsInstalled, list_by}
use Rattle.ingest_desk.specs.Listing.{JoinsPicked}
use Rattle.ingest_desk.specs.Picking.{AreAt, IsPicked, NoneDueFrom}
use Rattle.ingest_desk.specs.Jobs.{Neighbours}
use Rattle.ingest_desk.specs.declared.fault.InstallFault.{InstallFault}
use Rattle.ingest_desk.specs.declared.fault.InstallFault.TheVariants as install
use Rattle.ingest_desk.specs.declared.job.Standing.{Standing}
use Rattle.ingest_desk.proofs.InstallLemmas.{one_span}
use Rattle.ingest_desk.proofs.KeptLemmas.{not_behind}
use Rattle.import_run.specs.Upkeep.{Finds, Merges, merging_by}

-- ---- what is held

-- ---- places

-- ---- one step

module _ (old mid : Publishing) (job : Neighbours) (finds : Finds (Some job) old mid) where
  abbrev pub left : CountedSpan
  left = job.left

  abbrev pub right : CountedSpan
  right = job.right

  list_is : mid.list ≡ list_by old
  list_is = ap (λ (p : Publishing). p.list) finds.caught_up

  by_list : list_by mid ≡ mid.list
  by_list = not_behind mid (ap (λ (p : Publishing). p.held) finds.caught_up)

  picked : IsPicked (list_by old) left right
  picked =
      let stand : AreAt mid.list finds.picks.at left right = finds.picks.stand in
      let last : NoneDueFrom (finds.picks.at + 1) mid.list = finds.picks.last in
      record {
        at = finds.picks.at;
        stand = subst (λ (l : List CountedSpan). AreAt l finds.picks.at left right) list_is stand;
        due = finds.picks.due;
        last = subst (λ (l : List CountedSpan). NoneDueFrom (finds.picks.at + 1) l) list_is last;
        join = finds.picks.join;
      }

  not_gone : (new : Publishing) (spans : List Standing) → IsGone left.span right.span (list_by mid) new spans → ⊥
  not_gone new spans is =
      let stand : AreAt mid.list finds.picks.at left right = finds.picks.stand in
      is.gone finds.picks.at (record {
        first = left;
        second = right;
        stand = subst (λ (l : List CountedSpan). AreAt l finds.picks.at left right) (sym by_list) stand;
        left_is = refl;
        right_is = refl;
      })

  joins_due : (new : Publishing) (merged : CountedSpan) (note : List Batch) → IsMergeOf left right merged → IsSegment left
      → IsInstalled left.span right.span merged (list_by mid) new note → JoinsPicked (list_by old) new.list × (new.held ≡ None)
  unfolding picked
  joins_due new merged note merges segment is =
      let stood = is.stood in
      let there : slice_get (list_by mid) is.at ≡ Some stood.first = stood.stand.left_is in
      let here : slice_get mid.list is.at ≡ Some stood.first = subst (λ (l : List CountedSpan). slice_get l is.at ≡ Some stood.first) by_list there in
      let place : finds.picks.at ≡ is.at =
      one_span mid.list 0 finds.picks.at is.at left stood.first finds.list.covers.adjoin finds.picks.stand.left_is here (sym stood.left_is) segment.some in (
        record {
          left = left;
          right = right;
          picked = picked;
          joined = merged;
          merged = merges;
          list_is = is.list_is
              ∙ ap (λ (l : List CountedSpan). with_change l (JoinAt is.at merged)) (by_list ∙ list_is)
              ∙ ap (λ (n : ℕ). with_change (list_by old) (JoinAt n merged)) (sym place);
        },
        is.none_held,
      )

  -- a step does what it came to, by the answer of the desk
  pub merges_by : (new : Publishing) (merged : CountedSpan) (answer : Result (List Batch) InstallFault) → IsMergeOf left right merged → IsSegment left
      → Installs left.span right.span merged mid new answer → Merges (merging_by answer) old new
  merges_by new merged (Ok note) merges segment installed = joins_due new merged note merges segment installed
  merges_by new merged (Err (install.Gone spans)) merges segment gone = not_gone new spans.items gone
  merges_by new merged (Err install.OutOfMemory) merges segment lacks = tt
