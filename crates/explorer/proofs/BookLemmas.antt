-- The file of openings, as it is read.
use Rattle.std.proofs.Common.{◌≡◌, ◌⊎◌, ◌∙◌, ℕ, ◌+◌, ◌<◌, ◌≤◌, ◌^◌, ◌-◌, List, [], ◌++◌, Option, None, Some, Result, Ok, Err, Vec, length, take, refl, sym, ap, subst, inl, inr, append-nil, arith, length-append, length-take}
use Rattle.std.specs.Global.{Global}
use Rattle.std.specs.Io.KnownBytes.{IsAtEnd}
use Rattle.outside.specs.Stream.{FailsToGive, Gives, Reads, Rises, Stream}
use Rattle.outside.proofs.StreamLemmas.{reads-fails, reads-gives, reads-trans}
use Rattle.explorer_model.specs.Openings.{BookReads, NamedPosition}
use Rattle.host.specs.Hosts.{HandsFile, HostState, TakesFile}
use Rattle.explorer.specs.declared.fault.Fault.{Fault}
use Rattle.explorer.specs.declared.fault.Fault.TheVariants as faults
use Rattle.explorer.specs.Book.{FilesCame, GivesBook, HasBytes, LacksBook, NamedBy, ReadsAs, ReadsBytes, ReadsFile, ReadsWhole, StopsAtBook, openings_limit}
use Rattle.explorer.specs.Lines.{Ending, Stopped}
use Rattle.explorer.specs.World.{World, world}

-- ---- a run behind the file

-- the file gives no book, and nothing but the host is another
pub stops_by : (openings : Option (List ℕ)) (input output errors : Stream) (before after : HostState) (fault : Fault)
    → GivesBook openings (Err fault) before after
    → StopsAtBook openings (world input output errors before) (world input output errors after) (Stopped fault)
stops_by None input output errors before after fault gives = absurd gives
stops_by (Some name) input output errors before after fault gives = (fault, refl, gives, refl)

-- ---- the bytes

module _ (bytes : List ℕ) (start old new : Stream) (so_far : Reads bytes start old)
    (came : old.read_faults ≡ start.read_faults) where
  -- a read failed
  pub read_badly : FailsToGive old new → ReadsBytes (Err faults.ReadFault) start new
  read_badly fails = (
    bytes ++ [],
    reads-trans bytes [] start old new so_far (reads-fails old new fails),
    subst (λ (n : ℕ). Rises n new.read_faults) came fails.rises,
  )

  still_came : (n : ℕ) (buffer : List ℕ) → Gives n buffer old new → new.read_faults ≡ start.read_faults
  still_came n buffer gives = ap (λ (s : Stream). s.read_faults) gives.rest ∙ came

  -- nothing is left
  pub read_whole : (n : ℕ) (buffer : List ℕ) (all : Vec ℕ Global) → Gives n buffer old new → n ≡ 0 → all.items ≡ bytes
      → length bytes ≤ openings_limit → ReadsBytes (Ok all) start new
  read_whole n buffer all gives none is few =
      let last : Reads [] old new = subst (λ (k : ℕ). Reads (take k buffer) old new) none (reads-gives n buffer old new gives) in
      let whole : Reads bytes start new = subst (λ (l : List ℕ). Reads l start new) (append-nil bytes) (reads-trans bytes [] start old new so_far last) in
      (bytes, whole, (is, gives.ended none, few, still_came n buffer gives))

  -- more was read
  read_more : (n : ℕ) (buffer : List ℕ) → Gives n buffer old new → Reads (bytes ++ take n buffer) start new
  read_more n buffer gives = reads-trans bytes (take n buffer) start old new so_far (reads-gives n buffer old new gives)

  -- and there is no memory for it
  pub read_lacking : (n : ℕ) (buffer : List ℕ) → Gives n buffer old new → ReadsBytes (Err faults.OutOfMemory) start new
  read_lacking n buffer gives = (bytes ++ take n buffer, read_more n buffer gives, still_came n buffer gives)

  -- and so there are as many bytes more
  pub longer_by : (n : ℕ) (buffer all : List ℕ) → Gives n buffer old new → all ≡ bytes ++ take n buffer → length all ≡ length bytes + n
  longer_by n buffer all gives is =
      let within = gives.within in
      ap (λ (l : List ℕ). length l) is ∙ (length-append bytes (take n buffer) ∙ ap (λ (k : ℕ). length bytes + k) (length-take n buffer ∙ omega (arith, within)))

  -- and that is one byte too many
  pub read_past : (n : ℕ) (buffer all : List ℕ) → Gives n buffer old new → all ≡ bytes ++ take n buffer
      → length all ≡ openings_limit + 1 → ReadsBytes (Err faults.OpeningsTooLong) start new
  read_past n buffer all gives is many =
      let long = sym (ap (λ (l : List ℕ). length l) is) ∙ many in
      (bytes ++ take n buffer, read_more n buffer gives, (long, still_came n buffer gives))

-- ---- the file

module _ (name : List ℕ) (before given after : HostState) (file file' : Stream) (hands : HandsFile name file before given)
    (takes : TakesFile name file' given after) where
  none_failed : file.read_faults ≡ 0
  none_failed = ap (λ (s : Stream). s.read_faults) hands.stood

  same_count : given.file_faults ≡ before.file_faults
  same_count = ap (λ (h : HostState). h.file_faults) hands.rest

  read_file : (stream : List ℕ) → Reads stream file file' → ReadsFile name stream before after
  read_file stream reads = record {
    handed = file;
    given = given;
    hands = hands;
    returned = file';
    reads = reads;
    takes = takes;
  }

  files_came : file'.read_faults ≡ file.read_faults → FilesCame before after
  files_came came = takes.counts.same (came ∙ none_failed) ∙ same_count

  some_failed : Rises file.read_faults file'.read_faults → Rises before.file_faults after.file_faults
  some_failed rises =
      let from_none : Rises 0 file'.read_faults = subst (λ (n : ℕ). Rises n file'.read_faults) none_failed rises in
      subst (λ (n : ℕ). Rises n after.file_faults) same_count (takes.counts.rises (above from_none.rose))
    where
      above : (0 < file'.read_faults) ⊎ (file'.read_faults ≡ 2 ^ 64 - 1) → 0 < file'.read_faults
      above (inl less) = less
      above (inr most) = omega (arith, most)

  -- the bytes are not there
  pub lacks_bytes : (fault : Fault) → ReadsBytes (Err fault) file file' → LacksBook name fault before after
  lacks_bytes faults.ReadFault (stream, reads, rises) =
      (stream, record { file = read_file stream reads; rises = some_failed rises })
  lacks_bytes faults.OpeningsTooLong (stream, reads, (many, came)) =
      (stream, record { file = read_file stream reads; many = many; came = files_came came })
  lacks_bytes faults.OutOfMemory (stream, reads, came) =
      (stream, record { file = read_file stream reads; came = files_came came })
  lacks_bytes faults.Usage (stream, reads, has) = absurd has
  lacks_bytes (faults.BadParameter parameter) (stream, reads, has) = absurd has
  lacks_bytes faults.BadLabel (stream, reads, has) = absurd has
  lacks_bytes faults.SpillFault (stream, reads, has) = absurd has
  lacks_bytes (faults.SpillDamaged part) (stream, reads, has) = absurd has
  lacks_bytes faults.WriteFault (stream, reads, has) = absurd has
  lacks_bytes faults.DiskFault (stream, reads, has) = absurd has
  lacks_bytes (faults.NotEmpty size) (stream, reads, has) = absurd has
  lacks_bytes faults.NotAStore (stream, reads, has) = absurd has
  lacks_bytes (faults.OtherFormat number) (stream, reads, has) = absurd has
  lacks_bytes (faults.Damaged gate) (stream, reads, has) = absurd has
  lacks_bytes (faults.Full games bytes) (stream, reads, has) = absurd has
  lacks_bytes (faults.CannotOpen refused) (stream, reads, has) = absurd has
  lacks_bytes faults.CannotAccept (stream, reads, has) = absurd has
  lacks_bytes faults.TooMuchInput (stream, reads, has) = absurd has
  lacks_bytes (faults.BadOpenings row cause) (stream, reads, has) = absurd has

  module _ (bytes : Vec ℕ Global) (has : ReadsBytes (Ok bytes) file file') where
    whole : ReadsWhole name has.0 before after
    unfolding read_file
    whole = record {
      file = read_file has.0 has.1;
      at_end = has.2.1;
      few = has.2.2;
      came = files_came has.2.3;
    }

    -- they are a book, or not
    pub book_of_bytes : (read : Result (List NamedPosition) Fault) → ReadsAs bytes.items read
        → GivesBook (Some name) read before after
    book_of_bytes (Ok book) reads = (has.0, whole, subst (λ (l : List ℕ). BookReads l (Ok book)) has.2.0 reads)
    book_of_bytes (Err (faults.BadOpenings row cause)) reads =
        (has.0, whole, subst (λ (l : List ℕ). BookReads l (Err (record { line = row; cause = cause }))) has.2.0 reads)
    book_of_bytes (Err faults.OutOfMemory) reads =
        (has.0, record { file = read_file has.0 has.1; came = files_came has.2.3 })
    book_of_bytes (Err faults.ReadFault) reads = absurd reads
    book_of_bytes (Err faults.OpeningsTooLong) reads = absurd reads
    book_of_bytes (Err faults.Usage) reads = absurd reads
    book_of_bytes (Err (faults.BadParameter parameter)) reads = absurd reads
    book_of_bytes (Err faults.BadLabel) reads = absurd reads
    book_of_bytes (Err faults.SpillFault) reads = absurd reads
    book_of_bytes (Err (faults.SpillDamaged part)) reads = absurd reads
    book_of_bytes (Err faults.WriteFault) reads = absurd reads
    book_of_bytes (Err faults.DiskFault) reads = absurd reads
    book_of_bytes (Err (faults.NotEmpty size)) reads = absurd reads
    book_of_bytes (Err faults.NotAStore) reads = absurd reads
    book_of_bytes (Err (faults.OtherFormat number)) reads = absurd reads
    book_of_bytes (Err (faults.Damaged gate)) reads = absurd reads
    book_of_bytes (Err (faults.Full games size)) reads = absurd reads
    book_of_bytes (Err (faults.CannotOpen refused)) reads = absurd reads
    book_of_bytes (Err faults.CannotAccept) reads = absurd reads
    book_of_bytes (Err faults.TooMuchInput) reads = absurd reads
