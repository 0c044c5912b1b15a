use Rattle.std.proofs.Common.{◌≡◌, refl, sym}
use Rattle.tally_rows.specs.Row.{row_of}
use Rattle.segment_blocks.proofs.EncodedLemmas.{row_of-key}
use Rattle.segment_blocks.proofs.encoded_rows.mark_of_game.Goals as goal

pub returns : goal.returns
returns c =
    let s = c.args.single.now in
    let sum : s.sum ≡ c.in-Ok.sum = sym c.in-Ok.ensures.1 in
    let key : s.row_key.key ≡ (row_of s).key = sym (row_of-key s) in
    record {
      at = refl;
      outcome = s.outcome;
      told = refl;
      is = sym (λ i. row_of (record s { row_key = record s.row_key { key = key i }; sum = sum i }));
    }
