-- Two answers of one call are the same.
use Rattle.std.proofs.Common.{◌≡◌, ℕ, List, sym, ap, ◌∙◌, Option, None, Some, Ok}
use Rattle.explorer_model.specs.declared.archive.Batch.{Batch}
use Rattle.segment_blocks.specs.Segment.{CountedSpan}
use Rattle.published_index.specs.Cover.{journal_of}
use Rattle.published_index.specs.Changes.{Change}
use Rattle.published_index.specs.States.{Publishing, Watching}
use Rattle.published_index.specs.Calls.{Publishes, Retries, Sees, Learns}

pub one-put : (old one two : Publishing) (change : Change) (note other : List Batch) → Publishes old one change note → Publishes old two change other
    → (one ≡ two) × (note ≡ other)
one-put old one two change note other p q =
    let list : one.list ≡ two.list = p.list ∙ sym q.list in
    let held : one.held ≡ two.held = p.none_held ∙ sym q.none_held in
    (λ i. record { list = list i; held = held i }, p.told ∙ ap journal_of list ∙ sym q.told)

pub one-retry : (old one two : Publishing) (held : Option Change) (told other : Option (List Batch)) → Retries {E = ℕ} old one held (Ok told)
    → Retries {E = ℕ} old two held (Ok other) → (one ≡ two) × (told ≡ other)
one-retry old one two None told other p q = (p.1 ∙ sym q.1, cc (p.0, q.0))
one-retry old one two (Some change) None other p q = absurd p
one-retry old one two (Some change) (Some note) None p q = absurd q
one-retry old one two (Some change) (Some note) (Some other) p q =
    let both = one-put old one two change note other p q in (both.0, ap (λ (n : List Batch). Some n) both.1)

pub one-enter : (old one two : Watching) (list : List CountedSpan) → Sees old one list → Sees old two list → one ≡ two
one-enter old one two list p q =
    let seen : one.seen ≡ two.seen = p.journal ∙ sym q.journal in
    let entered : one.entered ≡ two.entered = p.entered ∙ sym q.entered in
    let unread : one.unread ≡ two.unread = p.unread ∙ sym q.unread in
    λ i. record { seen = seen i; entered = entered i; unread = unread i }

pub one-learn : (old one two : Watching) (note : List Batch) → Learns old one note → Learns old two note → one ≡ two
one-learn old one two note p q =
    let seen : one.seen ≡ two.seen = p.seen ∙ sym q.seen in
    let entered : one.entered ≡ two.entered = p.entered ∙ sym q.entered in
    let unread : one.unread ≡ two.unread = p.unread ∙ sym q.unread in
    λ i. record { seen = seen i; entered = entered i; unread = unread i }
