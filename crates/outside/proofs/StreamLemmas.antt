-- How the calls of a stream compose.
use Rattle.std.proofs.Common.{◌≡◌, ◌⊎◌, inl, inr, ℕ, ◌+◌, ◌<◌, ◌-◌, ◌^◌, List, [], ◌∷◌, ◌++◌, Option, IfSome, length, take, refl, sym, ap, subst, ◌∙◌, add_assoc, length-append, arith}
use Rattle.std.proofs.lemmas.List.{length-take-le}
use Rattle.std.specs.Io.KnownBytes.{IsAtEnd}
use Rattle.std.proofs.KnownBytes.{Consumes-kept, Consumes-nil, Consumes-trans, Consumes-whole, Appends-nil, Appends-trans}
use Rattle.outside.specs.Stream.{Stream, NeverFalls, Rises, Gives, FailsToGive, Takes, FailsToTake, Reads, Wrote, Writes, Grows}

-- ---- counts of faults

pub never_falls-refl : (n : ℕ) → NeverFalls n n
never_falls-refl n = record { least = omega arith; fits = λ small. small }

pub never_falls-trans : (a b c : ℕ) → NeverFalls a b → NeverFalls b c → NeverFalls a c
never_falls-trans a b c first second = record {
  least = omega (arith, first.least, second.least);
  fits = λ small. second.fits (first.fits small);
}

pub never_falls-same : (a b : ℕ) → b ≡ a → NeverFalls a b
never_falls-same a b same = subst (NeverFalls a) (sym same) (never_falls-refl a)

pub rises-stays : (a b c : ℕ) → Rises a b → NeverFalls b c → Rises a c
rises-stays a b c rises never = record {
  rose = rose rises.rose;
  never_falls = never_falls-trans a b c rises.never_falls never;
}
  where
    rose : (a < b) ⊎ (b ≡ 2 ^ 64 - 1) → (a < c) ⊎ (c ≡ 2 ^ 64 - 1)
    rose (inl less) = inl (omega (arith, never.least))
    rose (inr most) = inr (omega (arith, never.least, never.fits (omega (arith, most))))

pub rises-later : (a b c : ℕ) → NeverFalls a b → Rises b c → Rises a c
rises-later a b c never rises = record {
  rose = rose rises.rose;
  never_falls = never_falls-trans a b c never rises.never_falls;
}
  where
    rose : (b < c) ⊎ (c ≡ 2 ^ 64 - 1) → (a < c) ⊎ (c ≡ 2 ^ 64 - 1)
    rose (inl less) = inl (omega (arith, never.least))
    rose (inr most) = inr most

-- ---- reads

-- the same stream with other reads
read : Stream → Option (List ℕ) → ℕ → ℕ → Stream
read s left given faults = record s { left = left; given = given; read_faults = faults }

pub reads-none : (s : Stream) → Reads [] s s
unfolding read
reads-none s = record {
  next = Consumes-nil s.left;
  never_falls = never_falls-refl s.read_faults;
  rest =
      let none : s.given ≡ s.given + 0 = omega arith in
      ap (λ (n : ℕ). read s s.left n s.read_faults) none;
}

pub reads-gives : (n : ℕ) (buffer : List ℕ) (old new : Stream) → Gives n buffer old new
    → Reads (take n buffer) old new
unfolding read
reads-gives n buffer old new gives =
    let same = ap (λ (s : Stream). s.read_faults) gives.rest in
    record {
      next = gives.next;
      never_falls = never_falls-same old.read_faults new.read_faults same;
      rest =
          rw (length-take-le n buffer gives.within) (gives.rest ∙ ap (read old new.left (old.given + n)) (sym same));
    }

pub reads-fails : (old new : Stream) → FailsToGive old new → Reads [] old new
unfolding read
reads-fails old new fails = record {
  next = Consumes-kept old.left old.left new.left [] (Consumes-nil old.left) fails.still_left;
  never_falls = fails.rises.never_falls;
  rest =
      let none : old.given ≡ old.given + 0 = omega arith in
      fails.rest ∙ ap (λ (n : ℕ). read old new.left n new.read_faults) none;
}

-- reads that follow on reads
pub reads-trans : (a b : List ℕ) (old middle new : Stream) → Reads a old middle → Reads b middle new
    → Reads (a ++ b) old new
unfolding read
reads-trans a b old middle new first second = record {
  next = Consumes-trans old.left middle.left new.left a b first.next second.next;
  never_falls = never_falls-trans old.read_faults _ _ first.never_falls second.never_falls;
  rest =
      rw (length-append a b, ← add_assoc old.given (length a) (length b))
      (second.rest ∙ ap (λ (s : Stream). read s new.left (s.given + length b) new.read_faults) first.rest);
}

-- reads that came to the end gave all bytes, where those are told
pub reads-whole : (bytes : List ℕ) (old new : Stream) → Reads bytes old new → IsAtEnd new.left
    → IfSome old.left (λ all. bytes ≡ all)
reads-whole bytes old new reads ended =
    Consumes-whole old.left new.left bytes (λ (all : List ℕ). bytes ≡ all) reads.next ended refl

-- ---- writes

-- the same stream with other writes
write : Stream → Option (List ℕ) → ℕ → Stream
write s written faults = record s { written = written; write_faults = faults }

pub takes-none : (s : Stream) → Takes [] s s
takes-none s = record { appended = Appends-nil s.written; rest = refl }

-- a write that follows on a write, as one write of both chunks
pub takes-trans : (a b : List ℕ) (old middle new : Stream) → Takes a old middle → Takes b middle new
    → Takes (a ++ b) old new
takes-trans a b old middle new first second = record {
  appended = Appends-trans old.written middle.written new.written a b first.appended second.appended;
  rest = second.rest ∙ ap (λ (s : Stream). record s { written = new.written }) first.rest;
}

pub takes-faults : (chunk : List ℕ) (old new : Stream) → Takes chunk old new
    → new.write_faults ≡ old.write_faults
takes-faults chunk old new takes = ap (λ (s : Stream). s.write_faults) takes.rest

pub grows-none : (s : Stream) → Grows [] s s
grows-none s = record {
  appended = Appends-nil s.written;
  never_falls = never_falls-refl s.write_faults;
  rest = refl;
}

pub grows-takes : (chunk : List ℕ) (old new : Stream) → Takes chunk old new → Grows chunk old new
unfolding write
grows-takes chunk old new takes =
    let same = takes-faults chunk old new takes in
    record {
      appended = takes.appended;
      never_falls = never_falls-same old.write_faults new.write_faults same;
      rest = takes.rest ∙ ap (write old new.written) (sym same);
    }

pub grows-fails : (chunk : List ℕ) (old new : Stream) (fails : FailsToTake chunk old new)
    → Grows (take fails.front.0 chunk) old new
grows-fails chunk old new fails = record {
  appended = fails.front.2;
  never_falls = fails.rises.never_falls;
  rest = fails.rest;
}

pub grows-trans : (a b : List ℕ) (old middle new : Stream) → Grows a old middle → Grows b middle new
    → Grows (a ++ b) old new
unfolding write
grows-trans a b old middle new first second = record {
  appended = Appends-trans old.written middle.written new.written a b first.appended second.appended;
  never_falls = never_falls-trans old.write_faults _ _ first.never_falls second.never_falls;
  rest = second.rest ∙ ap (λ (s : Stream). write s new.written new.write_faults) first.rest;
}

pub writes-takes : (chunk : List ℕ) (old new : Stream) → Takes chunk old new → Writes (chunk ∷ []) old new
writes-takes chunk old new takes = (new, inl takes, refl)

pub writes-fails : (chunk : List ℕ) (old new : Stream) → FailsToTake chunk old new
    → Writes (chunk ∷ []) old new
writes-fails chunk old new fails = (new, inr fails, refl)

-- writes that follow on writes
pub writes-trans : (a b : List (List ℕ)) (old middle new : Stream) → Writes a old middle
    → Writes b middle new → Writes (a ++ b) old new
writes-trans [] b old middle new first second = subst (λ (s : Stream). Writes b s new) first second
writes-trans (chunk ∷ a) b old middle new first second =
    (first.0, first.1, writes-trans a b first.0 middle new first.2 second)

grows-wrote : (chunk : List ℕ) (old new : Stream) → Wrote chunk old new
    → (bytes : List ℕ) × Grows bytes old new
grows-wrote chunk old new (inl takes) = (chunk, grows-takes chunk old new takes)
grows-wrote chunk old new (inr fails) = (take fails.front.0 chunk, grows-fails chunk old new fails)

-- what chunks came to, each whole or a front of it
pub writes-grows : (chunks : List (List ℕ)) (old new : Stream) → Writes chunks old new
    → (bytes : List ℕ) × Grows bytes old new
writes-grows [] old new same = ([], subst (Grows [] old) (sym same) (grows-none old))
writes-grows (chunk ∷ chunks) old new writes =
    let first = grows-wrote chunk old writes.0 writes.1 in
    let later = writes-grows chunks writes.0 new writes.2 in
    (first.0 ++ later.0, grows-trans first.0 later.0 old writes.0 new first.1 later.1)
