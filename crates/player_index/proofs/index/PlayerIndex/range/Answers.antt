use Rattle.std.proofs.Common.{◌≡◌, List, length, map, sym, ap, ◌∙◌}
use Rattle.std.specs.Prelude.{slice_range}
use Rattle.std.specs.Arc.{arc_value}
use Rattle.published_index.specs.Cover.{journal_of}
use Rattle.segment_blocks.specs.Segment.{CountedSpan}
use Rattle.explorer_model.specs.Players.{plays_as}
use Rattle.player_index.specs.Entries.{entries_in, numbers_where}
use Rattle.row_sums.specs.Listing.{classes_in}
use Rattle.player_index.proofs.Covering.{read-classes}
use Rattle.player_index.proofs.index.PlayerIndex.range.Goals as goal

pub ends_of-from-requires-clause-entries : goal.ends_of-from-requires-clause-entries
ends_of-from-requires-clause-entries g c =
    let list : List CountedSpan = map arc_value c.segments-segments.result.now in
    let journal = ap (λ i. i.batches) c.self.view_is ∙ c.requires ∙ ap journal_of (sym c.segments-segments.ensures.segments) in
    let same = read-classes c.game_is_determined.ensures list c.count_games-games.ensures.segments journal c.self.invariant.are_classes in
    c.as_slice-entries.ensures.value ∙ c.self.invariant.in_order ∙ ap entries_in same

pub ends_of-from-requires-clause-end : goal.ends_of-from-requires-clause-end
ends_of-from-requires-clause-end g c =
    let list : List CountedSpan = map arc_value c.segments-segments.result.now in
    let journal = ap (λ i. i.batches) c.self.view_is ∙ c.requires ∙ ap journal_of (sym c.segments-segments.ensures.segments) in
    let same = read-classes c.game_is_determined.ensures list c.count_games-games.ensures.segments journal c.self.invariant.are_classes in
    c.self.invariant.game_count ∙ ap length same

pub returns-clause-numbers : goal.returns-clause-numbers
returns-clause-numbers g c = λ classes known.
    let list : List CountedSpan = map arc_value c.segments-segments.result.now in
    let of_snapshot = ap journal_of (sym c.segments-segments.ensures.segments) in
    let told : classes ≡ classes_in list = read-classes c.game_is_determined.ensures list c.count_games-games.ensures.segments of_snapshot known in
    let name : c.as_bytes.result.now ≡ c.args.player.now = c.as_bytes.ensures.value ∙ c.as_str.ensures in
    let found : map (λ e. e.number) (slice_range c.as_slice-entries.result.now c.ends_of-from.result.0 c.ends_of-from.result.1)
    ≡ numbers_where (plays_as c.as_bytes.result.now c.args.color) 0 (classes_in list) = c.ends_of-from.ensures.range.numbers in
    found
    ∙ ap (λ n. numbers_where (plays_as n c.args.color) 0 (classes_in list)) name
    ∙ ap (numbers_where (plays_as c.args.player.now c.args.color) 0) (sym told)
