-- Bytes that were read ahead grow, and what they open with.
use Rattle.std.proofs.Common.{◌≡◌, inl, inr, ℕ, suc, ◌+◌, ◌-◌, ◌<◌, ◌≤◌, Bool, true, false, cond, ◌==◌, nat_le, if◌then◌else◌, Option, Some, None, option_map, List, [], ◌∷◌, ◌++◌, length, drop, refl, sym, ap, ◌∙◌, subst, arith, length-append, length-drop, append_assoc, add-zero}
use Rattle.std.specs.List.{prefix_len}
use Rattle.std.specs.Option.{option_or}
use Rattle.std.proofs.lemmas.List.{append-nil, drop-append-le, drop-drop, nil_from_length}
use Rattle.std.proofs.lemmas.List.Sums.{prefix_len-le-length}
use Rattle.std.proofs.lemmas.List.Folds.{prefix_len-append}
use Rattle.std.proofs.lemmas.Bool.Decides.{nat_tests}
use Rattle.outside.specs.Stream.{Stream, Reads, Rises, FailsToGive}
use Rattle.outside.proofs.StreamLemmas.{reads-none, reads-trans, reads-fails}
use Rattle.explorer_model.specs.Items.{ends_line}
use Rattle.explorer_model.specs.Wire.{head_limit, empty_line, head_len, TooLong, Blank, opening_by, opening}
use Rattle.explorer_model.specs.declared.wire.Asked.{Asked}
use Rattle.explorer_model.specs.declared.wire.Asked.TheVariants.{Refused, Done, Cut, ReadFault}
use Rattle.explorer_model.specs.declared.wire.RequestFault.TheVariants.{HeadTooLarge}
use Rattle.http_wire.specs.declared.head.Sight.TheVariants as sights
use Rattle.http_wire.specs.Scanning.{IsSight, opening_behind}
use Rattle.http_wire.specs.Steps.{Fills, Skips, Finds, IsAskedAt, Misses}
use Rattle.http_wire.specs.Asking.{FaultsBy}

-- reads gave bytes that stand behind the old ones
pub record Grows (old new : List ℕ) (before after : Stream) : Type 0 where
  pub got : List ℕ
  pub reads : Reads got before after
  pub faults : after.read_faults ≡ before.read_faults
  pub behind : new ≡ old ++ got

pub grows-none : (old : List ℕ) (s : Stream) → Grows old old s s
grows-none old s = record { got = []; reads = reads-none s; faults = refl; behind = sym (append-nil old) }

pub grows-fills : (old middle new : List ℕ) (count : ℕ) (before mid after : Stream)
    → Grows old middle before mid → Fills count middle new mid after → Grows old new before after
grows-fills old middle new count before mid after grows fills = record {
  got = grows.got ++ fills.got;
  reads = reads-trans grows.got fills.got before mid after grows.reads fills.reads;
  faults = fills.faults ∙ grows.faults;
  behind =
      fills.behind ∙ ap (λ front. front ++ fills.got) grows.behind ∙ append_assoc old grows.got fills.got;
}

-- a read that gave nothing
no-more : (old new : List ℕ) (before after : Stream) → Fills 0 old new before after → new ≡ old
no-more old new before after fills =
    fills.behind
    ∙ ap (λ got. old ++ got) (nil_from_length fills.got (sym fills.counted))
    ∙ append-nil old

-- ---- a text behind line ends

pub finds-sight : (skipped count : ℕ) (old new : List ℕ) (before after : Stream)
    → Grows old new before after → IsSight (sights.Whole count) skipped new
    → Finds (opening_behind skipped) count old new before after
finds-sight skipped count old new before after grows sight = record {
  got = grows.got;
  reads = grows.reads;
  faults = grows.faults;
  within = sight.0;
  head = ap (opening_behind skipped) (sym grows.behind) ∙ sight.1;
}

pub misses-long : (skipped : ℕ) (old new : List ℕ) (before after : Stream)
    → Grows old new before after → IsSight sights.TooLong skipped new
    → Misses (opening_behind skipped) (Refused HeadTooLarge) old before after
misses-long skipped old new before after grows sight = record {
  got = grows.got;
  reads = grows.reads;
  faults = grows.faults;
  ended = tt;
  opening = (refl, ap (opening_behind skipped) (sym grows.behind) ∙ sight);
}

pub misses-cut : (skipped : ℕ) (old middle new : List ℕ) (before mid after : Stream)
    → Grows old middle before mid → IsSight sights.Begun skipped middle → Fills 0 middle new mid after
    → Misses (opening_behind skipped) Cut old before after
misses-cut skipped old middle new before mid after grows sight fills =
    let all = grows-fills old middle new 0 before mid after grows fills in
    record {
      got = all.got;
      reads = all.reads;
      faults = all.faults;
      ended = fills.ended refl;
      opening = ap (opening_behind skipped) (sym all.behind ∙ no-more middle new mid after fills) ∙ sight.1;
    }

-- the same reads, and one that failed
failing : (old middle : List ℕ) (before mid after : Stream) → Grows old middle before mid → FailsToGive mid after
    → (got : List ℕ) × Reads got before after × Rises before.read_faults after.read_faults × (middle ≡ old ++ got)
failing old middle before mid after grows fails = (
  grows.got ++ [],
  reads-trans grows.got [] before mid after grows.reads (reads-fails mid after fails),
  subst (λ faults. Rises faults after.read_faults) grows.faults fails.rises,
  grows.behind ∙ ap (λ got. old ++ got) (sym (append-nil grows.got)),
)

pub misses-fault : (skipped : ℕ) (old middle : List ℕ) (before mid after : Stream)
    → Grows old middle before mid → IsSight sights.Begun skipped middle → FailsToGive mid after
    → Misses (opening_behind skipped) ReadFault old before after
misses-fault skipped old middle before mid after grows sight fails =
    let all = failing old middle before mid after grows fails in
    record {
      got = all.0;
      reads = all.1;
      faults = all.2;
      ended = tt;
      opening = inr (ap (opening_behind skipped) (sym all.3) ∙ sight.1);
    }

-- ---- line ends before it

-- so many line ends stood first, and what is pending follows them
pub record Blanks (skipped : ℕ) (bytes pending : List ℕ) : Type 0 where
  pub blank : prefix_len ends_line bytes ≡ skipped + prefix_len ends_line pending
  pub behind : pending ≡ drop skipped bytes
  pub within : skipped ≤ length bytes

pub blanks-none : (bytes : List ℕ) → Blanks 0 bytes bytes
blanks-none bytes = record { blank = omega arith; behind = refl; within = omega arith }

rest-by : (p : ℕ → Bool) (x : ℕ) (xs : List ℕ) (passes : Bool) → p x ≡ passes
    → prefix_len p (drop (prefix_len p xs) xs) ≡ 0
    → prefix_len p (drop (cond passes (1 + prefix_len p xs) 0) (x ∷ xs)) ≡ 0
rest-by p x xs true is later =
    let next : suc (prefix_len p xs) ≡ 1 + prefix_len p xs = omega arith in
    subst (λ n. prefix_len p (drop n (x ∷ xs)) ≡ 0) next later
rest-by p x xs false is later = rw is refl

prefix_len-rest : (p : ℕ → Bool) (xs : List ℕ) → prefix_len p (drop (prefix_len p xs) xs) ≡ 0
prefix_len-rest p [] = refl
prefix_len-rest p (x ∷ xs) = rest-by p x xs (p x) refl (prefix_len-rest p xs)

-- the line ends that stand first in what is pending are taken off
pub blanks-skip : (skipped count : ℕ) (bytes pending : List ℕ) → count ≡ prefix_len ends_line pending
    → Blanks skipped bytes pending → Blanks (skipped + count) bytes (drop count pending)
blanks-skip skipped count bytes pending counted blanks =
    let fits : count ≤ length pending = omega (arith, prefix_len-le-length ends_line pending) in
    let room : length pending ≡ length bytes - skipped = ap length blanks.behind ∙ length-drop skipped bytes in
    record {
      blank = omega (arith, blanks.blank, prefix_len-rest ends_line pending, ap (λ n. prefix_len ends_line (drop n pending)) counted);
      behind =
          ap (drop count) blanks.behind ∙ drop-drop count skipped bytes;
      within = omega (arith, blanks.within);
    }

-- more bytes come where none is left
pub blanks-more : (skipped : ℕ) (bytes pending got : List ℕ) → length pending ≡ 0
    → Blanks skipped bytes pending → Blanks skipped (bytes ++ got) (pending ++ got)
blanks-more skipped bytes pending got none blanks =
    let nothing : pending ≡ [] = nil_from_length pending none in
    let room : length pending ≡ length bytes - skipped = ap length blanks.behind ∙ length-drop skipped bytes in
    let counted : prefix_len ends_line bytes ≡ skipped = blanks.blank ∙ ap (λ (list : List ℕ). skipped + prefix_len ends_line list) nothing ∙ add-zero skipped in
    let all : skipped ≡ length bytes = omega (arith, blanks.within) in
    let same : (prefix_len ends_line bytes == length bytes) ≡ true = grind (arith, nat_tests) in
    let front : pending ++ got ≡ got = ap (λ (list : List ℕ). list ++ got) nothing in
    record {
      blank =
          prefix_len-append ends_line bytes got
          ∙ ap (λ all. cond all (length bytes + prefix_len ends_line got) (prefix_len ends_line bytes)) same
          ∙ ap (λ n. n + prefix_len ends_line got) (sym all)
          ∙ ap (λ list. skipped + prefix_len ends_line list) (sym front);
      behind =
          ap (λ list. list ++ got) blanks.behind ∙ sym (drop-append-le skipped bytes got blanks.within);
      within = omega (arith, blanks.within, length-append bytes got);
    }

-- what all bytes open with, where no line end stands first in what is pending
pub opening-past : (skipped : ℕ) (bytes pending more : List ℕ) → skipped ≡ prefix_len ends_line bytes
    → pending ≡ drop skipped bytes → 0 < length pending
    → opening (bytes ++ more) ≡ opening_behind skipped (pending ++ more)
unfolding opening
opening-past skipped bytes pending more counted behind some =
    let short : prefix_len ends_line bytes < length bytes = omega (arith, ap length behind, length-drop skipped bytes) in
    let other : (prefix_len ends_line bytes == length bytes) ≡ false = grind (arith, nat_tests) in
    let same : prefix_len ends_line (bytes ++ more) ≡ skipped =
    prefix_len-append ends_line bytes more
    ∙ ap (λ all. cond all (length bytes + prefix_len ends_line more) (prefix_len ends_line bytes)) other
    ∙ sym counted in
    let text : drop skipped (bytes ++ more) ≡ pending ++ more =
    drop-append-le skipped bytes more (omega arith) ∙ ap (λ front. front ++ more) (sym behind) in
    ap (λ count. opening_behind count (drop count (bytes ++ more))) same ∙ ap (opening_behind skipped) text

pub skips-finds : (skipped count : ℕ) (old middle new : List ℕ) (before mid after : Stream)
    → Skips skipped old middle before mid → Finds (opening_behind skipped) count middle new mid after
    → Finds opening count old new before after
skips-finds skipped count old middle new before mid after skips finds = record {
  got = skips.got ++ finds.got;
  reads = reads-trans skips.got finds.got before mid after skips.reads finds.reads;
  faults = finds.faults ∙ skips.faults;
  within = finds.within;
  head =
      ap opening (sym (append_assoc old skips.got finds.got))
      ∙ opening-past skipped (old ++ skips.got) middle finds.got skips.blank skips.behind skips.begun
      ∙ finds.head;
}

pub skips-misses : (skipped : ℕ) (asked : Asked) (old middle : List ℕ) (before mid after : Stream)
    → Skips skipped old middle before mid → Misses (opening_behind skipped) asked middle mid after
    → Misses opening asked old before after
skips-misses skipped asked old middle before mid after skips misses = record {
  got = skips.got ++ misses.got;
  reads = reads-trans skips.got misses.got before mid after skips.reads misses.reads;
  faults = subst (λ faults. FaultsBy asked faults after.read_faults) skips.faults misses.faults;
  ended = misses.ended;
  opening =
      subst (IsAskedAt asked)
      (sym (ap opening (sym (append_assoc old skips.got misses.got))
      ∙ opening-past skipped (old ++ skips.got) middle misses.got skips.blank skips.behind skips.begun))
      misses.opening;
}

-- ---- line ends alone

text-blank : (skipped : ℕ) (text : List ℕ) → text ≡ [] → skipped < head_limit → opening_behind skipped text ≡ Blank
unfolding head_len
text-blank skipped text none few =
    let short : nat_le head_limit (skipped + 0) ≡ false = grind (arith, nat_tests) in
    rw none (rw short refl)

-- a head has some bytes
text-long : (skipped : ℕ) (text : List ℕ) → head_limit ≤ skipped → opening_behind skipped text ≡ TooLong
unfolding head_len
text-long skipped [] many =
    let long : nat_le head_limit (skipped + 0) ≡ true = grind (arith, nat_tests) in rw long refl
text-long skipped (b ∷ text) many = by (option_or (if b == 10 then empty_line text else None) (head_len text))
  where
    by : (count : Option ℕ) → opening_by skipped (b ∷ text) (option_map (λ n. n + 1) count) ≡ TooLong
    by None =
        let long : nat_le head_limit (skipped + length (b ∷ text)) ≡ true = grind (arith, nat_tests) in rw long refl
    by (Some n) =
        let long : nat_le (skipped + (n + 1)) head_limit ≡ false = grind (arith, nat_tests) in rw long refl

-- what all bytes open with, once the line ends are taken off
opening-is : (skipped : ℕ) (bytes pending : List ℕ) → Blanks skipped bytes pending → prefix_len ends_line pending ≡ 0
    → opening bytes ≡ opening_behind skipped pending
unfolding opening
opening-is skipped bytes pending blanks off =
    let counted : prefix_len ends_line bytes ≡ skipped = omega (arith, blanks.blank) in
    ap (λ count. opening_behind count (drop count bytes)) counted
    ∙ ap (opening_behind skipped) (sym blanks.behind)

-- reads gave bytes, of which so many line ends stood first
pub record Blanked (skipped : ℕ) (old new : List ℕ) (before after : Stream) : Type 0 where
  pub got : List ℕ
  pub reads : Reads got before after
  pub faults : after.read_faults ≡ before.read_faults
  pub blanks : Blanks skipped (old ++ got) new

pub blanked-none : (old : List ℕ) (s : Stream) → Blanked 0 old old s s
blanked-none old s = record {
  got = [];
  reads = reads-none s;
  faults = refl;
  blanks = subst (λ bytes. Blanks 0 bytes old) (sym (append-nil old)) (blanks-none old);
}

pub blanked-skip : (skipped count : ℕ) (old new : List ℕ) (before after : Stream)
    → count ≡ prefix_len ends_line new → Blanked skipped old new before after
    → Blanked (skipped + count) old (drop count new) before after
blanked-skip skipped count old new before after counted blanked = record {
  got = blanked.got;
  reads = blanked.reads;
  faults = blanked.faults;
  blanks = blanks-skip skipped count (old ++ blanked.got) new counted blanked.blanks;
}

pub blanked-fills : (skipped count : ℕ) (old middle new : List ℕ) (before mid after : Stream)
    → length middle ≡ 0 → Blanked skipped old middle before mid → Fills count middle new mid after
    → Blanked skipped old new before after
blanked-fills skipped count old middle new before mid after none blanked fills = record {
  got = blanked.got ++ fills.got;
  reads = reads-trans blanked.got fills.got before mid after blanked.reads fills.reads;
  faults = fills.faults ∙ blanked.faults;
  blanks =
      subst (λ bytes. Blanks skipped bytes new) (append_assoc old blanked.got fills.got)
      (subst (Blanks skipped ((old ++ blanked.got) ++ fills.got)) (sym fills.behind)
      (blanks-more skipped (old ++ blanked.got) middle fills.got none blanked.blanks));
}

pub skips-blanked : (skipped : ℕ) (old new : List ℕ) (before after : Stream)
    → Blanked skipped old new before after → prefix_len ends_line new ≡ 0 → 0 < length new → skipped < head_limit
    → Skips skipped old new before after
skips-blanked skipped old new before after blanked off some few = record {
  got = blanked.got;
  reads = blanked.reads;
  faults = blanked.faults;
  blank = omega (arith, blanked.blanks.blank);
  behind = blanked.blanks.behind;
  begun = some;
  few = few;
}

pub misses-blanks : (skipped : ℕ) (old new : List ℕ) (before after : Stream)
    → Blanked skipped old new before after → prefix_len ends_line new ≡ 0 → head_limit ≤ skipped
    → Misses opening (Refused HeadTooLarge) old before after
misses-blanks skipped old new before after blanked off many = record {
  got = blanked.got;
  reads = blanked.reads;
  faults = blanked.faults;
  ended = tt;
  opening = (refl, opening-is skipped (old ++ blanked.got) new blanked.blanks off ∙ text-long skipped new many);
}

pub misses-done : (skipped : ℕ) (old middle new : List ℕ) (before mid after : Stream)
    → length middle ≡ 0 → skipped < head_limit → Blanked skipped old middle before mid → Fills 0 middle new mid after
    → Misses opening Done old before after
misses-done skipped old middle new before mid after none few blanked fills =
    let all = blanked-fills skipped 0 old middle new before mid after none blanked fills in
    let nothing : new ≡ [] = no-more middle new mid after fills ∙ nil_from_length middle none in
    record {
      got = all.got;
      reads = all.reads;
      faults = all.faults;
      ended = fills.ended refl;
      opening =
          opening-is skipped (old ++ all.got) new all.blanks (ap (prefix_len ends_line) nothing)
          ∙ text-blank skipped new nothing few;
    }

pub misses-blank-fault : (skipped : ℕ) (old middle : List ℕ) (before mid after : Stream)
    → length middle ≡ 0 → skipped < head_limit → Blanked skipped old middle before mid → FailsToGive mid after
    → Misses opening ReadFault old before after
misses-blank-fault skipped old middle before mid after none few blanked fails =
    let nothing : middle ≡ [] = nil_from_length middle none in
    let bytes : old ++ (blanked.got ++ []) ≡ old ++ blanked.got = ap (λ got. old ++ got) (append-nil blanked.got) in
    record {
      got = blanked.got ++ [];
      reads = reads-trans blanked.got [] before mid after blanked.reads (reads-fails mid after fails);
      faults = subst (λ faults. Rises faults after.read_faults) blanked.faults fails.rises;
      ended = tt;
      opening =
          inl (ap opening bytes
          ∙ opening-is skipped (old ++ blanked.got) middle blanked.blanks (ap (prefix_len ends_line) nothing)
          ∙ text-blank skipped middle nothing few);
    }

-- the line ends that stand first are counted, and taken off
pub blanked-off : (skipped count : ℕ) (old ahead shown new : List ℕ) (before after : Stream)
    → shown ≡ ahead → count ≡ prefix_len ends_line shown → new ≡ drop count ahead
    → Blanked skipped old ahead before after
    → Blanked (skipped + count) old new before after × (prefix_len ends_line new ≡ 0)
blanked-off skipped count old ahead shown new before after same counted taken blanked =
    let all : count ≡ prefix_len ends_line ahead = counted ∙ ap (prefix_len ends_line) same in (
      subst (λ list. Blanked (skipped + count) old list before after) (sym taken)
          (blanked-skip skipped count old ahead before after all blanked),
      ap (prefix_len ends_line) taken ∙ ap (λ n. prefix_len ends_line (drop n ahead)) all ∙ prefix_len-rest ends_line ahead,
    )
