-- Laws: published lists behind batches, one after another.
use Rattle.std.proofs.Common.{Bool, ℕ, List, [], ◌∷◌, ◌++◌, refl, sym, ap, subst, ◌∙◌, append_assoc}
use Rattle.std.proofs.lemmas.List.{append-nil}
use Rattle.disk_model.specs.Disk.{DiskState}
use Rattle.explorer_model.specs.declared.archive.Batch.{Batch}
use Rattle.segment_blocks.specs.Segment.{CountedSpan}
use Rattle.ingest_desk.specs.Installs.{list_by}
use Rattle.ingest_desk.specs.Stored.{Stored, journal}
use Rattle.import_run.specs.SinceLaws.{since_before, since_then}
use Rattle.import_run.specs.Upkeep.{Follows, FollowsAll, IsSinceAlone}

pub follows_both : (more rest : List Batch) (first second third : List CountedSpan)
    → FollowsAll more first second → FollowsAll rest second third
    → FollowsAll (more ++ rest) first third
follows_both [] rest first second third same b =
    let P : List CountedSpan → Type 0 = λ l. FollowsAll rest l third in subst P same b
follows_both (batch ∷ more) rest first second third a b =
    (a.0, a.1, follows_both more rest a.0 second third a.2 b)

module _ {D : Type 0} where
  pub follows_then : (it : Stored D) → Follows it it
  follows_then it =
      record { batches = []; journal_is = sym (append-nil (journal it)); lists = refl }

  pub follows_before : (first second third : Stored D) → Follows first second
      → Follows second third → Follows first third
  follows_before first second third a b = record {
    batches = a.batches ++ b.batches;
    journal_is = b.journal_is ∙ ap (λ (l : List Batch). l ++ b.batches) a.journal_is
        ∙ append_assoc (journal first) a.batches b.batches;
    lists = follows_both a.batches b.batches (list_by first.index) (list_by second.index)
        (list_by third.index) a.lists b.lists;
  }

  module _ (disk : D → DiskState) (left_since : D → ℕ → List ℕ → Type 0) where
    pub alone_then : (it : Stored D) (lacked : Bool)
        → IsSinceAlone disk left_since it it lacked lacked
    alone_then it lacked = record {
      since = since_then disk left_since it;
      keeps_up = λ had sound.
          record { had_memory = had; was_sound = sound; follows = follows_then it };
    }

    pub alone_before : (first second third : Stored D) (lacked between lacks : Bool)
        → IsSinceAlone disk left_since first second lacked between
        → IsSinceAlone disk left_since second third between lacks
        → IsSinceAlone disk left_since first third lacked lacks
    alone_before first second third lacked between lacks a b = record {
      since = since_before disk left_since first second third a.since b.since;
      keeps_up = λ had sound.
          let two = b.keeps_up had sound in
          let one = a.keeps_up two.had_memory two.was_sound in
          record {
            had_memory = one.had_memory;
            was_sound = one.was_sound;
            follows = follows_before first second third one.follows two.follows;
          };
    }
