use Rattle.std.proofs.Common.{◌≡◌, ◌+◌, ◌*◌, ◌≤◌, ◌/◌, ◌-◌, ◌^◌, take, sym, ap, ◌∙◌, arith}
use Rattle.tally_rows.specs.SortEntry.{spelled}
use Rattle.segment_blocks.proofs.SharedLemmas.{same-word, same-front, other-byte}
use Rattle.segment_blocks.proofs.PrefixLemmas.{common-is, common-within, fewer-same}
use Rattle.segment_blocks.proofs.encoded_rows.shared_len.Goals as goal

pub returns-then-first-second-clause-is : goal.returns-then-first-second-clause-is
returns-then-first-second-clause-is c =
    let a = c.args.a.now in
    let b = c.args.b.now in
    let at = 8 * c.loop-word.word in
    let first = c.word_at-first.ensures in
    let second = c.word_at-second.ensures in
    let first_is : c.word_at-first.result ≡ spelled a at 8 = first.value ∙ ap (λ k. spelled a k 8) c.from.ensures in
    let second_is : c.word_at-second.result ≡ spelled b at 8 = second.value ∙ ap (λ k. spelled b k 8) c.from-in-loop-word.ensures in
    let inside : at + 8 ≤ 34 = omega (arith, c.loop-word-test.true) in
    let shared = c.shared_bytes.result in
    let s = c.shared_bytes.ensures in
    let same : spelled a at 8 / 2 ^ (64 - 8 * shared) ≡ spelled b at 8 / 2 ^ (64 - 8 * shared) =
    ap (λ w. w / 2 ^ (64 - 8 * shared)) (sym first_is) ∙ s.same ∙ ap (λ w. w / 2 ^ (64 - 8 * shared)) second_is in
    sym (common-is (at + shared) a b (omega (arith, inside, s.within, c.told-a)) (omega (arith, inside, s.within, c.told-b))
    (same-front a b first.bytes second.bytes c.told-a c.told-b at inside c.loop-word.invariant shared (omega (arith, s.within)) same)
    (other-byte a b first.bytes second.bytes c.told-a c.told-b at inside c.loop-word.invariant shared s.within same
    (λ e. s.whole (ap (λ w. w / 2 ^ (56 - 8 * shared)) first_is ∙ e ∙ sym (ap (λ w. w / 2 ^ (56 - 8 * shared)) second_is)))))

pub loop-word-preserved : goal.loop-word-preserved
loop-word-preserved c =
    let a = c.args.a.now in
    let b = c.args.b.now in
    let at = 8 * c.loop-word.word in
    let first = c.word_at-first.ensures in
    let second = c.word_at-second.ensures in
    let first_is : c.word_at-first.result ≡ spelled a at 8 = first.value ∙ ap (λ k. spelled a k 8) c.from.ensures in
    let second_is : c.word_at-second.result ≡ spelled b at 8 = second.value ∙ ap (λ k. spelled b k 8) c.from-in-loop-word.ensures in
    let inside : at + 8 ≤ 34 = omega (arith, c.loop-word-test.true) in
    let next : 8 * (c.loop-word.word + 1) ≡ at + 8 = omega arith in
    ap (λ n. take n a) next
    ∙ same-word a b first.bytes second.bytes c.told-a c.told-b at inside c.loop-word.invariant
    (sym first_is ∙ c.if-first-second.false ∙ second_is)
    ∙ ap (λ n. take n b) (sym next)

pub loop-word-init : goal.loop-word-init
loop-word-init c = fewer-same (8 * (c.args.known / 8)) c.args.known c.args.a.now c.args.b.now (omega arith) c.requires

pub shared_end-requires : goal.shared_end-requires
shared_end-requires c =
    fewer-same 32 (8 * c.loop-word.word) c.args.a.now c.args.b.now (omega (arith, c.loop-word-test.false)) c.loop-word.invariant

pub returns-clause-within : goal.returns-clause-within
returns-clause-within c = omega (arith, c.shared_end.ensures, common-within c.args.a.now c.args.b.now, c.told-b)
