use Rattle.std.proofs.Common.{◌≡◌, ◌↔◌, ◌<◌, ℕ, inl, inr, refl, sym, subst}
use Rattle.std.proofs.lemmas.Bool.{cases_eq}
use Rattle.legal_moves.proofs.PinLemmas.{some_square}
use Rattle.step_tables.specs.Bitboard.{Holds}
use Rattle.step_tables.proofs.BitboardLemmas.{Holds-zero}
use Rattle.explorer_model.specs.declared.square.Square.{Square}
use Rattle.san_codec.proofs.Sources.{same_flag, sources_at, among-says, none-found, two-found, move-found}
use Rattle.san_codec.proofs.board_reader.read_named.Goals as goal

only_one : (found more first : ℕ) → ((b : ℕ) → b < 64 → Holds more b ↔ (Holds found b × (b ≡ first → ⊥))) → more ≡ 0
    → (b : ℕ) → b < 64 → Holds found b → b ≡ first
only_one found more first others none b on bit = elim (cases_eq b first) [
  | inl e ↦ e
  | inr apart ↦ absurd (Holds-zero b (let P : ℕ → Type 0 = λ x. Holds x b in subst P none ((others b on).1 (bit, apart))))
]

pub returns-then-found-eq0 : goal.returns-then-found-eq0
returns-then-found-eq0 c =
    let to : Square = record { index = c.args.named.target; on_board = c.if-named-ge64.false } in
    none-found c.args.board.now c.args.named to refl c.takes.result c.takes.ensures.captures (same_flag c.takes.result c.args.named.captures c.if-takes-named.false) c.sources-found.result
    (among-says c.args.board.now c.args.named.role c.args.named.promotion to c.args.named.file c.args.named.rank c.sources-found.result c.on_file.result
    c.on_rank.result c.on_file.ensures c.on_rank.ensures
    (sources_at c.args.board.now c.args.named.role c.args.named.promotion _ to c.sources-found.result _ refl c.sources-found.ensures))
    c.if-found-eq0.true

pub returns-then-more-ne0 : goal.returns-then-more-ne0
returns-then-more-ne0 c =
    let to : Square = record { index = c.args.named.target; on_board = c.if-named-ge64.false } in
    let first : Square = record { index = c.lowest-first.result; on_board = c.lowest-first.ensures.on_board } in
    let bit = some_square c.without-more.result c.without-more.type_inv c.if-more-ne0.true in
    let second : Square = record { index = bit.0; on_board = bit.1 } in
    let more = (c.without-more.ensures.others bit.0 bit.1).0 bit.2 in
    two-found c.args.board.now c.args.named to refl c.takes.result c.takes.ensures.captures (same_flag c.takes.result c.args.named.captures c.if-takes-named.false)
    c.sources-found.result
    (among-says c.args.board.now c.args.named.role c.args.named.promotion to c.args.named.file c.args.named.rank c.sources-found.result c.on_file.result
    c.on_rank.result c.on_file.ensures c.on_rank.ensures
    (sources_at c.args.board.now c.args.named.role c.args.named.promotion _ to c.sources-found.result _ refl c.sources-found.ensures))
    first second c.lowest-first.ensures.within more.0 (λ e. more.1 (sym e))

pub returns : goal.returns
returns c =
    let to : Square = record { index = c.args.named.target; on_board = c.if-named-ge64.false } in
    move-found c.args.board.now c.args.named to refl c.takes.result c.takes.ensures.captures (same_flag c.takes.result c.args.named.captures c.if-takes-named.false) c.sources-found.result
    (among-says c.args.board.now c.args.named.role c.args.named.promotion to c.args.named.file c.args.named.rank c.sources-found.result c.on_file.result
    c.on_rank.result c.on_file.ensures c.on_rank.ensures
    (sources_at c.args.board.now c.args.named.role c.args.named.promotion _ to c.sources-found.result _ refl c.sources-found.ensures))
    _ refl refl c.lowest-first.ensures.within
    (λ b on bit. only_one c.sources-found.result c.without-more.result c.lowest-first.result c.without-more.ensures.others c.if-more-ne0.false b on bit)
