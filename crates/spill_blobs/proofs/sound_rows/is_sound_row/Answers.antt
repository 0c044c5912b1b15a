use Rattle.std.proofs.Common.{sym, ◌∙◌, true≢false}
use Rattle.spill_blobs.proofs.SoundLemmas.{listed-is, not-played}
use Rattle.spill_blobs.proofs.sound_rows.is_sound_row.Goals as goal

pub returns-then-not-is_counted : goal.returns-then-not-is_counted
returns-then-not-is_counted c = λ at legal tidy. (
  λ h. absurd (true≢false (sym h)),
  λ sound. absurd (true≢false (sym (c.is_counted.ensures.1 sound.counted) ∙ c.if-not-is_counted.true)),
)

pub returns-then-not-is_legal_in : goal.returns-then-not-is_legal_in
returns-then-not-is_legal_in c = λ at legal tidy. (
  λ h. absurd (true≢false (sym h)),
  λ sound. absurd (not-played at c.args.n c.args.moves.now c.args.row.now legal
      (λ h. true≢false (sym (c.is_legal_in.ensures.1 h) ∙ c.if-not-is_legal_in.true)) sound),
)

pub returns : goal.returns
returns c = λ at legal tidy. listed-is at c.args.n c.args.moves.now c.args.row.now legal c.is_listed.result tidy (c.is_counted.ensures.0 c.if-not-is_counted.false)
    (c.is_legal_in.ensures.0 c.if-not-is_legal_in.false) c.is_listed.ensures
