-- What a call of a disk comes to.
use Rattle.std.proofs.Common.{◌≡◌, ℕ, ◌+◌, max, List, length, take, drop, Option, Some, IfSome, sym, ap, ◌∙◌, subst}
use Rattle.std.specs.Option.{option_map}
use Rattle.disk_model.specs.Disk.{DiskState, Stays, Reads, Writes, written}

pub one_rest : (old new after : DiskState) → Stays old new → Stays old after → Stays after new
one_rest old new after first second = first ∙ sym (ap (λ (d : DiskState). record d { moment = new.moment }) second)

pub one_read : (at : ℕ) (file buffer other : List ℕ) (old new after : DiskState) → old.content ≡ Some file
    → length buffer ≡ length other → Reads at buffer old new → Reads at other old after → (buffer ≡ other) × Stays after new
one_read at file buffer other old new after told long first second =
    let bytes = λ (piece : List ℕ) (told_bytes : Option (List ℕ)). IfSome told_bytes (λ f. piece ≡ take (length piece) (drop at f)) in
    let one = subst (bytes buffer) told first.bytes in
    let two = subst (bytes other) told second.bytes in
    (one ∙ ap (λ (n : ℕ). take n (drop at file)) long ∙ sym two, one_rest old new after first.rest second.rest)

pub one_write : (at : ℕ) (piece : List ℕ) (old new after : DiskState)
    → Writes at piece old new → Writes at piece old after → Stays after new
one_write at piece old new after first second =
    let state = λ (content : Option (List ℕ)) (size : ℕ). record old { content = content; size = size; moment = new.moment } in
    let wrote = state (option_map (written at piece) old.content) (max old.size (at + length piece)) in
    let now : state new.content new.size ≡ wrote =
    ap (λ (content : Option (List ℕ)). state content new.size) first.content
    ∙ ap (state (option_map (written at piece) old.content)) first.size in
    let then : state after.content after.size ≡ wrote =
    ap (λ (content : Option (List ℕ)). state content after.size) second.content
    ∙ ap (state (option_map (written at piece) old.content)) second.size in
    first.rest ∙ now ∙ sym then ∙ sym (ap (λ (d : DiskState). record d { moment = new.moment }) second.rest)
