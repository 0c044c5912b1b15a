use Rattle.std.proofs.Common.{sym, ◌∙◌}
use Rattle.std.proofs.lemmas.Bool.{eqb-true}
use Rattle.segment_blocks.proofs.EncodedLemmas.{rows_behind-nil}
use Rattle.segment_blocks.proofs.block_cursor.BlockCursor.is_empty.Goals as goal

pub returns : goal.returns
returns c h = sym c.self.view_is ∙ rows_behind-nil _ _ _ _ (eqb-true _ 0 (sym c.is_empty.ensures ∙ h))
