-- What is answered of a part, by how its walk ends and whether its rows are sound.
use Rattle.std.proofs.Common.{◌≡◌, ℕ, ◌+◌, ◌*◌, ◌-◌, ◌≤◌, inl, inr, List, [], ◌∷◌, filter, length, Option, Some, None, Result, Ok, Err, refl, sym, ap, ◌∙◌, subst}
use Rattle.std.specs.Prelude.{IfOk, IfSome, Vec}
use Rattle.std.specs.Global.{Global}
use Rattle.std.specs.List.{AllByRecursion}
use Rattle.explorer_model.specs.declared.chess.Position.{Position}
use Rattle.explorer_model.specs.declared.fault.Stop.{Stop}
use Rattle.explorer_model.specs.declared.fault.Stop.TheVariants.{Fault, OutOfMemory}
use Rattle.explorer_model.specs.Keys.{key}
use Rattle.explorer_model.specs.Tidy.{IsTidied, IsTidyKey}
use Rattle.outside.specs.Ports.{Scratch}
use Rattle.segment_blocks.specs.Segment.{CountedSpan}
use Rattle.segment_blocks.specs.Walk.{has_key}
use Rattle.spill_blobs.specs.Ends.{ComesTo}
use Rattle.spill_blobs.specs.Index.{Begins}
use Rattle.spill_blobs.specs.Judging.{part_blocks, GivesRowsOf, IsJudged, IsStopOf, Judges, ReadsPart, NamesPart}
use Rattle.spill_blobs.specs.Marks.{place_in}
use Rattle.spill_blobs.specs.Parts.{IsSpilled, Spilled, StandsIn}
use Rattle.spill_blobs.specs.RowBlocks.{block_size}
use Rattle.spill_blobs.specs.SoundRows.{AreSound}
use Rattle.spill_blobs.specs.Walks.{WalksTo, blocks_from, lesser_limit}
use Rattle.spill_blobs.specs.declared.port_fault.PortFault.{PortFault}
use Rattle.spill_blobs.specs.declared.port_fault.PortFault.TheVariants.{ReadFault, Damaged, WriteFault}
use Rattle.spill_blobs.specs.declared.walk_fault.WalkFault.{WalkFault}
use Rattle.spill_blobs.specs.declared.walk_fault.WalkFault.TheVariants as walks
use Rattle.tally_rows.specs.declared.row.Row.{Row}
use Rattle.spill_blobs.proofs.PartLemmas.{finds-told}

-- a position has one tidy key
pub one-key : ((p q r : Position) → IsTidied p q → IsTidied p r → q ≡ r) → (at : Position) (bytes others : List ℕ)
    → IsTidyKey at bytes → IsTidyKey at others → bytes ≡ others
one-key one at bytes others tidy tidy' = tidy.2 ∙ (ap key (one at tidy.0 tidy'.0 tidy.1 tidy'.1) ∙ sym tidy'.2)

pub keyed-tidy : (at : Position) (bytes : List ℕ) → IsTidyKey at bytes → (rows : List Row) → AllByRecursion (λ row. row.key ≡ bytes) rows
    → AllByRecursion (λ row. IsTidyKey at row.key) rows
keyed-tidy at bytes tidy rows all = each rows all
  where
    each : (rs : List Row) → AllByRecursion (λ row. row.key ≡ bytes) rs → AllByRecursion (λ row. IsTidyKey at row.key) rs
    each [] all = tt
    each (r ∷ rs) all = (subst (IsTidyKey at) (sym all.0) tidy, each rs all.1)

-- what the bytes say where a walk stops
abbrev Says : List ℕ → ℕ → ℕ → Option (List ℕ) → WalkFault → Type 0
Says found start count told walks.Damaged = IfSome told (λ bytes. WalksTo found (blocks_from bytes start count) lesser_limit None)
Says found start count told _ = Unit {0}

says : (found : List ℕ) (start count : ℕ) (old new : Scratch) (fault : WalkFault) → ComesTo found start count (Err fault) old new
    → Says found start count old.appended fault
says found start count old new walks.Damaged comes = comes.0
says found start count old new (walks.ReadFault before after) comes = tt
says found start count old new walks.OutOfMemory comes = tt

module _ (at : Position) (n games : ℕ) where
  pub judges-found : (found : List ℕ) (told : Option (List ℕ)) (start count : ℕ) (rows : List Row) (result : Result (Vec Row Global) (Stop PortFault))
      → IfSome told (λ bytes. WalksTo found (blocks_from bytes start count) lesser_limit (Some rows))
      → IsJudged at n games rows result → IfSome told (λ bytes. Judges at found n games (blocks_from bytes start count) result)
  judges-found found None start count rows result walks judged = tt
  judges-found found (Some bytes) start count rows (Ok given) walks judged = (
    subst (λ (rs : List Row). WalksTo found (blocks_from bytes start count) lesser_limit (Some rs)) (sym judged.0) walks,
    subst (AreSound at games) (sym judged.0) judged.1,
  )
  judges-found found (Some bytes) start count rows (Err (Fault (Damaged part))) walks judged = (judged.0, inr (rows, walks, judged.1))
  judges-found found (Some bytes) start count rows (Err (Fault (ReadFault before after))) walks judged = absurd judged
  judges-found found (Some bytes) start count rows (Err (Fault (WriteFault before after))) walks judged = absurd judged
  judges-found found (Some bytes) start count rows (Err OutOfMemory) walks judged = tt

  judges-by : (found : List ℕ) (start count : ℕ) (stop : Stop PortFault) (told : Option (List ℕ)) (fault : WalkFault) → Says found start count told fault
      → IsStopOf fault n stop → IfSome told (λ bytes. Judges at found n games (blocks_from bytes start count) (Err stop))
  judges-by found start count stop None fault says e = tt
  judges-by found start count stop (Some b) walks.Damaged says e =
      subst (λ (s : Stop PortFault). Judges at found n games (blocks_from b start count) (Err s)) (sym e) (refl, inl says)
  judges-by found start count stop (Some b) (walks.ReadFault before after) says e =
      subst (λ (s : Stop PortFault). Judges at found n games (blocks_from b start count) (Err s)) (sym e) tt
  judges-by found start count stop (Some b) walks.OutOfMemory says e =
      subst (λ (s : Stop PortFault). Judges at found n games (blocks_from b start count) (Err s)) (sym e) tt

  pub judges-stopped : (found : List ℕ) (start count : ℕ) (old new : Scratch) (fault : WalkFault) (stop : Stop PortFault)
      → ComesTo found start count (Err fault) old new → IsStopOf fault n stop
      → IfSome old.appended (λ bytes. Judges at found n games (blocks_from bytes start count) (Err stop))
  judges-stopped found start count old new fault stop comes is = judges-by found start count stop old.appended fault (says found start count old new fault comes) is

  -- ---- what reading does to the file

  pub reads-found : (old new : Scratch) (rows : List Row) (result : Result (Vec Row Global) (Stop PortFault)) → new ≡ old
      → IsJudged at n games rows result → ReadsPart result old new
  reads-found old new rows (Ok given) same judged = same
  reads-found old new rows (Err (Fault (Damaged part))) same judged = same
  reads-found old new rows (Err (Fault (ReadFault before after))) same judged = absurd judged
  reads-found old new rows (Err (Fault (WriteFault before after))) same judged = absurd judged
  reads-found old new rows (Err OutOfMemory) same judged = same

  pub reads-stopped : (found : List ℕ) (start count : ℕ) (old new : Scratch) (fault : WalkFault) (stop : Stop PortFault)
      → ComesTo found start count (Err fault) old new → IsStopOf fault n stop → ReadsPart (Err stop) old new
  reads-stopped found start count old new walks.Damaged stop comes is =
      subst (λ (s : Stop PortFault). ReadsPart (Err s) old new) (sym is) comes.1
  reads-stopped found start count old new (walks.ReadFault before after) stop comes is =
      subst (λ (s : Stop PortFault). ReadsPart (Err s) old new) (sym is) (comes.count_before, comes.count_after, comes.rises, comes.rest)
  reads-stopped found start count old new walks.OutOfMemory stop comes is =
      subst (λ (s : Stop PortFault). ReadsPart (Err s) old new) (sym is) comes

  -- ---- the rows of the segment

  pub gives-found : (bytes : List ℕ) (segment : CountedSpan) (rows : List Row) (result : Result (Vec Row Global) (Stop PortFault))
      → Some rows ≡ Some (filter (has_key bytes) segment.rows) → AreSound at games (filter (has_key bytes) segment.rows)
      → IsJudged at n games rows result → GivesRowsOf bytes segment result
  gives-found bytes segment rows (Ok given) is sound judged = judged.0 ∙ unsome rows _ is
    where
      unsome : (xs ys : List Row) → Some xs ≡ Some ys → xs ≡ ys
      unsome xs ys e = cc
  gives-found bytes segment rows (Err (Fault (Damaged part))) is sound judged =
      judged.1 (subst (AreSound at games) (sym (unsome rows _ is)) sound)
    where
      unsome : (xs ys : List Row) → Some xs ≡ Some ys → xs ≡ ys
      unsome xs ys e = cc
  gives-found bytes segment rows (Err (Fault (ReadFault before after))) is sound judged = absurd judged
  gives-found bytes segment rows (Err (Fault (WriteFault before after))) is sound judged = absurd judged
  gives-found bytes segment rows (Err OutOfMemory) is sound judged = tt

  pub cost-judged : (rows : List Row) (result : Result (Vec Row Global) (Stop PortFault)) → IsJudged at n games rows result → (before after digits : ℕ)
      → after ≤ before + lesser_limit + digits + length rows + 1
      → IfOk result (λ given. after ≤ before + lesser_limit + digits + length given.items + 1)
  cost-judged rows (Ok given) judged before after digits few =
      subst (λ (rs : List Row). after ≤ before + lesser_limit + digits + length rs + 1) (sym judged.0) few
  cost-judged rows (Err stop) judged before after digits few = tt

  pub sound-found : (rows : List Row) (given : Vec Row Global) → IsJudged at n games rows (Ok given) → AreSound at games given.items
  sound-found rows given judged = subst (AreSound at games) (sym judged.0) judged.1

-- a walk over what was written stops at nothing damaged
pub gives-stopped : (n : ℕ) (bytes : List ℕ) (segment : CountedSpan) (start count : ℕ) (old new : Scratch) (fault : WalkFault) (stop : Stop PortFault)
    → ComesTo bytes start count (Err fault) old new
    → ((found : Option (List Row)) → IfSome old.appended (λ told. WalksTo bytes (blocks_from told start count) lesser_limit found)
    → found ≡ Some (filter (has_key bytes) segment.rows))
    → IsStopOf fault n stop → GivesRowsOf bytes segment (Err stop)
gives-stopped n bytes segment start count old new walks.Damaged stop comes finds is = absurd (no _ (finds None comes.0))
  where
    no : (ys : List Row) → None ≡ Some ys → ⊥
    no ys e = cc
gives-stopped n bytes segment start count old new (walks.ReadFault before after) stop comes finds is =
    subst (λ (s : Stop PortFault). GivesRowsOf bytes segment (Err s)) (sym is) tt
gives-stopped n bytes segment start count old new walks.OutOfMemory stop comes finds is =
    subst (λ (s : Stop PortFault). GivesRowsOf bytes segment (Err s)) (sym is) tt

-- ---- a part

module _ (part : Spilled) (is : IsSpilled part) (at : Position) (n games : ℕ) (games_is : games ≡ length part.segment.classes)
    (own bytes : List ℕ) (same : own ≡ bytes) (old new : Scratch) where
  abbrev from : List ℕ → ℕ
  from k = part.start + block_size * place_in k part.segment.rows

  abbrev left : List ℕ → ℕ
  left k = part.count - place_in k part.segment.rows

  -- in the words of the part
  told-of : (result : Result (Vec Row Global) (Stop PortFault))
      → IfSome old.appended (λ told. Judges at own n games (blocks_from told (from own) (left own)) result)
      → IfSome old.appended (λ told. Judges at bytes n (length part.segment.classes) (part_blocks bytes part told) result)
  told-of result h =
      let by_key = subst (λ (k : List ℕ). IfSome old.appended (λ told. Judges at k n games (blocks_from told (from k) (left k)) result)) same h in
      let by_games = subst (λ (m : ℕ). IfSome old.appended (λ told. Judges at bytes n m (blocks_from told (from bytes) (left bytes)) result)) games_is by_key in
      subst (λ (c : ℕ). IfSome old.appended (λ told. Judges at bytes n (length part.segment.classes)
      (blocks_from told (from bytes) (c - place_in bytes part.segment.rows)) result)) is.count by_games

  pub found-judged : (rows : Vec Row Global) (result : Result (Vec Row Global) (Stop PortFault))
      → ComesTo own (from own) (left own) (Ok rows) old new → IsJudged at n games rows.items result
      → IfSome old.appended (λ told. Judges at bytes n (length part.segment.classes) (part_blocks bytes part told) result)
  found-judged rows result comes judged = told-of result (judges-found at n games own old.appended (from own) (left own) rows.items result comes.0 judged)

  pub stopped-judged : (fault : WalkFault) (stop : Stop PortFault) → ComesTo own (from own) (left own) (Err fault) old new → IsStopOf fault n stop
      → IfSome old.appended (λ told. Judges at bytes n (length part.segment.classes) (part_blocks bytes part told) (Err stop))
  stopped-judged fault stop comes e = told-of (Err stop) (judges-stopped at n games own (from own) (left own) old new fault stop comes e)

  module _ (begins : Begins own part.segment.rows (place_in own part.segment.rows)) (stands : StandsIn part old) where
    finds : (found : Option (List Row)) → IfSome old.appended (λ told. WalksTo own (blocks_from told (from own) (left own)) lesser_limit found)
        → found ≡ Some (filter (has_key own) part.segment.rows)
    finds found h = finds-told part is own (place_in own part.segment.rows) begins old.appended stands found h

    pub found-given : (rows : Vec Row Global) (result : Result (Vec Row Global) (Stop PortFault))
        → AreSound at (length part.segment.classes) (filter (has_key own) part.segment.rows)
        → ComesTo own (from own) (left own) (Ok rows) old new → IsJudged at n games rows.items result → GivesRowsOf bytes part.segment result
    found-given rows result sound comes judged =
        subst (λ (k : List ℕ). GivesRowsOf k part.segment result) same
        (gives-found at n games own part.segment rows.items result (finds (Some rows.items) comes.0)
        (subst (λ (m : ℕ). AreSound at m (filter (has_key own) part.segment.rows)) (sym games_is) sound) judged)

    pub stopped-given : (fault : WalkFault) (stop : Stop PortFault) → ComesTo own (from own) (left own) (Err fault) old new → IsStopOf fault n stop
        → GivesRowsOf bytes part.segment (Err stop)
    stopped-given fault stop comes e =
        subst (λ (k : List ℕ). GivesRowsOf k part.segment (Err stop)) same
        (gives-stopped n own part.segment (from own) (left own) old new fault stop comes finds e)

-- ---- the number of the part

pub judged-names : (at : Position) (n games : ℕ) (rows : List Row) (result : Result (Vec Row Global) (Stop PortFault)) → IsJudged at n games rows result
    → NamesPart n result
judged-names at n games rows (Ok given) judged = tt
judged-names at n games rows (Err (Fault (Damaged part))) judged = judged.0
judged-names at n games rows (Err (Fault (ReadFault before after))) judged = tt
judged-names at n games rows (Err (Fault (WriteFault before after))) judged = tt
judged-names at n games rows (Err OutOfMemory) judged = tt

pub stopped-names : (fault : WalkFault) (n : ℕ) (stop : Stop PortFault) → IsStopOf fault n stop → NamesPart n (Err stop)
stopped-names walks.Damaged n stop is = subst (λ (s : Stop PortFault). NamesPart n (Err s)) (sym is) refl
stopped-names (walks.ReadFault before after) n stop is = subst (λ (s : Stop PortFault). NamesPart n (Err s)) (sym is) tt
stopped-names walks.OutOfMemory n stop is = subst (λ (s : Stop PortFault). NamesPart n (Err s)) (sym is) tt
