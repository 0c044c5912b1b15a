use Rattle.std.proofs.Common.{◌≡◌, ℕ, ◌+◌, ◌≤◌, ◌++◌, ◌∷◌, [], List, length, sym, ap, ◌∙◌, subst, arith}
use Rattle.outside.specs.Ports.{AppendsPiece}
use Rattle.segment_blocks.specs.Segment.{CountedSpan, segment_limit}
use Rattle.spill_blobs.specs.Parts.{Spilled, part_bytes}
use Rattle.spill_blobs.specs.Sets.{games_in, journal_of, set_bytes, HasJust}
use Rattle.spill_blobs.proofs.SetLemmas.{just-more, parts-with, segments-with}
use Rattle.spill_blobs.proofs.set.SpillSet.add.Goals as goal

pub of-part-requires-clause-low : goal.of-part-requires-clause-low
of-part-requires-clause-low g c = omega (arith, c.in-Some.ensures.0, c.len.ensures, c.in-Ok.sheet.bytes.ok.0)

pub invariant_of-self-2 : goal.invariant_of-self-2
invariant_of-self-2 g c =
    let list = c.self.inside.parts.items in
    let part = c.of-part.result in
    let segment = c.args.segment in
    let items = c.push_reserved.ensures.items ∙ ap (λ (l : List Spilled). l ++ part ∷ []) c.reserve.ensures.items in
    let adjoin = subst (λ (s : List CountedSpan). segment.span.first ≡ length (journal_of s)) (sym c.self.view_is) c.requires.adjoin in
    let few = subst (λ (s : List CountedSpan). games_in s + length segment.classes ≤ segment_limit) (sym c.self.view_is) c.requires.few in
    let bytes : length c.in-Ok.sheet.bytes.items ≡ length (part_bytes segment) = ap length c.in-Ok.ensures.bytes in
    let end : c.in-Some.end ≡ c.self.inside.end + length (part_bytes segment) = omega (arith, c.in-Some.ensures.1, c.len.ensures, c.in-Ok.sheet.bytes.ok.0, bytes) in
    parts-with list _ c.self.inside.end part segment items c.of-part.ensures.segment c.self.invariant c.of-part.ensures.start c.of-part.ensures.size
    c.of-part.ensures.sound adjoin few c.in-Some.end end

pub returns-clause-added : goal.returns-clause-added
returns-clause-added g c =
    let list = c.self.inside.parts.items in
    let part = c.of-part.result in
    let items = c.push_reserved.ensures.items ∙ ap (λ (l : List Spilled). l ++ part ∷ []) c.reserve.ensures.items in
    segments-with list _ part c.args.segment c.args.self.now items c.of-part.ensures.segment c.self.view_is

pub returns-clause-appended : goal.returns-clause-appended
returns-clause-appended g c =
    subst (λ (bytes : List ℕ). AppendsPiece bytes (g.P.Port.port c.args.port.now) (g.P.Port.port c.put_piece.new.port))
    (c.as_slice.ensures.value ∙ c.in-Ok.ensures.bytes) c.in_ok-put_piece.ensures.done

pub returns-clause-just : goal.returns-clause-just
returns-clause-just g c =
    let list = c.self.inside.parts.items in
    let part = c.of-part.result in
    let items = c.push_reserved.ensures.items ∙ ap (λ (l : List Spilled). l ++ part ∷ []) c.reserve.ensures.items in
    let appends = subst (λ (bytes : List ℕ). AppendsPiece bytes (g.P.Port.port c.args.port.now) (g.P.Port.port c.put_piece.new.port))
    (c.as_slice.ensures.value ∙ c.in-Ok.ensures.bytes) c.in_ok-put_piece.ensures.done in
    subst (λ (s : List CountedSpan). HasJust (g.P.Port.port c.put_piece.new.port) (set_bytes s))
    (sym (segments-with list _ part c.args.segment c.args.self.now items c.of-part.ensures.segment c.self.view_is))
    (just-more (g.P.Port.port c.args.port.now) (g.P.Port.port c.put_piece.new.port) c.args.self.now c.args.segment c.requires.just appends)
