use Rattle.std.proofs.Common.{string_bytes}
use Rattle.explorer.proofs.BookLemmas.{book_of_bytes}
use Rattle.explorer.proofs.openings.book_under.Goals as goal

pub returns-in-Ok-bytes : goal.returns-in-Ok-bytes
returns-in-Ok-bytes g c =
    let hands = rw c.as_str.ensures.value at c.in-Ok.ensures.hands in
    let takes = rw c.as_str-2.ensures.value at c.close_file.ensures in
    let has = rw c.in-Ok-bytes.is at c.read_bytes-bytes.ensures in
    let reads = rw c.as_slice.ensures.value at c.book_in.ensures in
    book_of_bytes (string_bytes c.args.name) _ _ _ _ _ hands takes c.in-Ok-bytes.bytes has c.book_in.result reads
