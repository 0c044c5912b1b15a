use Rattle.std.proofs.Common.{◌+◌, ◌-◌, ◌^◌, min, ap, ◌∙◌}
use Rattle.spill_blobs.specs.declared.sheet.Sheet.{Sheet}
use Rattle.spill_blobs.proofs.SheetLemmas.{put-more}
use Rattle.spill_blobs.proofs.sheet.Sheet.put.Goals as goal

pub returns : goal.returns
returns c = λ rows is. put-more rows c.args.row.now _ _ is (record {
  bytes = ap (λ (s : Sheet). s.bytes.items) c.mark.ensures.rest ∙ c.in_ok-put_row.ensures.bytes;
  keys = c.in_ok-mark.ensures.keys;
  skip = c.in_ok-mark.ensures.skip;
  count = c.saturating_add-self.ensures ∙ ap (λ (s : Sheet). min (s.count + 1) (2 ^ 64 - 1)) c.mark.ensures.rest;
  room = c.in_ok-put_row.ensures.room;
})
