use Rattle.std.proofs.Common.{◌≡◌, ℕ, List, [], Result, Ok, Err, IfOk, refl, sym, ap, subst}
use Rattle.disk_model.specs.Disk.{DiskState}
use Rattle.record_log.specs.Log.{Log}
use Rattle.manifest.specs.Manifest.{IsManifestOf}
use Rattle.published_index.specs.Cover.{journal_of}
use Rattle.ingest_desk.specs.Lives.{opening}
use Rattle.ingest_desk.specs.Living.{HasLived, IsFresh}
use Rattle.ingest_desk.specs.Stored.{Nameless, Stored, stored_by}
use Rattle.store_tests.proofs.lives.fresh_in_life.Goals as goal

begun : {D E : Type 0} (disk : D → DiskState) (left_since : D → ℕ → List ℕ → Type 0)
    (manifest : Log D) (result : Result (Nameless D) E)
    → ((store : Stored D) → IsFresh disk left_since store → HasLived disk left_since (opening []) store)
    → IsManifestOf disk left_since [] manifest
    → IfOk result (λ unnamed. unnamed.manifest ≡ manifest)
    → IfOk result (λ unnamed. unnamed.index.list ≡ [])
    → IfOk result (λ unnamed. HasLived disk left_since (opening []) (stored_by unnamed))
begun disk left_since manifest (Ok unnamed) begins is same empty =
    begins (stored_by unnamed) (record {
      empty = ap journal_of empty;
      none_failed = refl;
      manifest = subst (IsManifestOf disk left_since []) (sym same) is;
    })
begun disk left_since manifest (Err back) begins is same empty = tt

pub returns : goal.returns
returns g c =
    let r = c.fresh.ensures in
    begun g.D.Disk.disk g.D.Disk.left_since c.args.manifest c.fresh.result
    c.openings_are_events.ensures.fresh c.requires.empty r.manifest r.list
