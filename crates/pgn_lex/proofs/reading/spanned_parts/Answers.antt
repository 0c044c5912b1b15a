use Rattle.std.proofs.Common.{map, length, ap, sym, subst, arith}
use Rattle.std.specs.List.{All}
use Rattle.std.proofs.lemmas.List.Elements.{All-nil}
use Rattle.explorer_model.specs.Stop.{GivesBy}
use Rattle.pgn_lex.specs.Items.{item_as}
use Rattle.pgn_lex.specs.Spanned.{spanned_as}
use Rattle.pgn_lex.specs.Span.{token_in, IsWithin}
use Rattle.pgn_lex.specs.Reading.{section_as, front_of}
use Rattle.pgn_lex.proofs.Meaning.{starts, goes_on, refused, ends}
use Rattle.pgn_lex.proofs.reading.spanned_parts.Goals as goal

pub loop-at-init : goal.loop-at-init
loop-at-init c = (
  starts c.args.text.now (front_of c.args.text.now c.in_ok-found.found) c.in_ok-found.ensures.tags (ap (map (token_in c.args.text.now)) c.in_ok-found.ensures.spans),
  subst (All (IsWithin (length c.args.text.now))) (sym c.in_ok-found.ensures.spans) (All-nil (IsWithin (length c.args.text.now))),
)

pub returns-in_default-clause-parts : goal.returns-in_default-clause-parts
returns-in_default-clause-parts c =
    refused c.args.text.now c.loop-at.at (section_as c.loop-at.section) (front_of c.args.text.now c.loop-at.found) c.loop-at.invariant.0 (item_as c.item_at-item.result) c.loop-at-test.true c.item_at-item.ensures.item c.in_default.ensures.next

pub loop-at-preserved : goal.loop-at-preserved
loop-at-preserved c = (
  rw (c.in_ok-add.ensures.front c.args.text.now c.item_at-item.ensures.stands)
      (c.past_white-at.ensures.read _ _
      (c.past_period-behind.ensures.read _
      (goes_on c.args.text.now c.loop-at.at (section_as c.loop-at.section) (front_of c.args.text.now c.loop-at.found) c.loop-at.invariant.0 (item_as c.item_at-item.result) (section_as c.in-Some.next) c.loop-at-test.true c.item_at-item.ensures.item
      c.in-Some.ensures.next c.in-Some.ensures.depth c.item_at-item.ensures.some c.item_at-item.ensures.within))),
  c.in_ok-add.ensures.within (length c.args.text.now) (omega (arith, c.item_at-item.ensures.place, c.item_at-item.ensures.within)) c.loop-at.invariant.1,
)

pub returns-clause-parts : goal.returns-clause-parts
returns-clause-parts c =
    subst (λ reading. GivesBy (spanned_as c.args.text.now) c.finish.result reading) (ends c.args.text.now c.loop-at.at (section_as c.loop-at.section) (front_of c.args.text.now c.loop-at.found) c.loop-at.invariant.0 c.loop-at-test.false) (c.finish.ensures.parts c.args.text.now)
