-- A connection that is served goes on by one exchange, or ends.
use Rattle.std.proofs.Common.{◌≡◌, ◌≢◌, ℕ, ◌+◌, ◌-◌, ◌≤◌, ◌<◌, true, false, List, [], ◌∷◌, ◌++◌, Option, length, take, refl, sym, ◌∙◌, ap, subst, append-nil, length-append, inl, arith}
use Rattle.std.proofs.KnownBytes.{Appends-nil, Appends-trans, Consumes-nil, Consumes-trans}
use Rattle.std.proofs.lemmas.List.Concat.{flat_map-append}
use Rattle.std.proofs.lemmas.List.Elements.{filter_map-append}
use Rattle.std.specs.Io.KnownBytes.{Appends, Consumes}
use Rattle.std.proofs.Math.Seq.{take-length}
use Rattle.outside.specs.Stream.{AppendsFront, FailsToTake, Reads, Rises, Stream, Takes}
use Rattle.explorer_model.specs.declared.archive.Batch.{Batch}
use Rattle.explorer_model.specs.declared.wire.Asked.{Asked}
use Rattle.explorer_model.specs.declared.wire.Asked.TheVariants as asks
use Rattle.explorer_model.specs.declared.wire.Reply.{Reply}
use Rattle.explorer_model.specs.Replies.{reply_text}
use Rattle.explorer_model.specs.Timeline.{IsPrefix}
use Rattle.explorer_model.specs.Wire.{First, request_limit}
use Rattle.explorer_model.proofs.Timelines.{prefix-self, prefix-trans}
use Rattle.http_wire.specs.Asking.{Asks, Buffer, FaultsBy}
use Rattle.ingest_desk.specs.declared.report.ImportCall.{ImportCall}
use Rattle.ingest_desk.specs.Importers.{TellsAll}
use Rattle.session.specs.declared.serving.Ended.{Ended}
use Rattle.session.specs.declared.serving.Ended.TheVariants as ends
use Rattle.session.specs.Exchanges.{Backend, Exchange, Grants, AreExchanges, asked_in, calls_in, moment_of, reply_texts}
use Rattle.session.specs.Replies.{Offer, closes, route_of}
use Rattle.session.specs.Serving.{AreOpen, AsksIn, ComesNext, FailsBy, HasCause, Served, Wrote}
use Rattle.session.specs.Steps.{IsServing, Replied}
use Rattle.session.proofs.ExchangeLemmas.{asks-behind, asks-more, last-closes, open-more, exchanges-grow, exchanges-more, tells-none, tells-trans}
use Rattle.session.proofs.FrontLemmas.{prefix-length, take-behind}

appends-front : (a b c : Option (List ℕ)) (xs ys : List ℕ) → Appends a b xs → AppendsFront b c ys
    → AppendsFront a c (xs ++ ys)
appends-front a b c xs ys p q =
    let whole : take (length xs + q.0) (xs ++ ys) ≡ xs ++ take q.0 ys = take-behind xs ys (length xs + q.0) q.0 refl in (
      length xs + q.0,
      omega (arith, q.1, length-append xs ys),
      subst (λ (bytes : List ℕ). Appends a c bytes) (sym whole) (Appends-trans a b c xs (take q.0 ys) p q.2),
    )

-- reads leave the count of writes that failed
pub reads-keep : (got : List ℕ) (old new : Stream) → Reads got old new → new.write_faults ≡ old.write_faults
reads-keep got old new reads = ap (λ (s : Stream). s.write_faults) reads.rest

-- ---- an end between exchanges

pub comes-next : (asked : Asked) (xs : List Exchange) (rest : List ℕ) (more : ℕ) → more + length xs ≡ request_limit
    → AreOpen xs → First more rest asked [] → ComesNext asked xs rest
comes-next asked xs rest more count open_still first =
    let left : more ≡ request_limit - length xs = omega (arith, count) in
    record { open_still = open_still; next = subst (λ (n : ℕ). First n rest asked []) left first }

pub served-idle : (offer : Offer) (link : Stream) (before : Backend) (wire : Buffer) (l : Stream) (after : Backend) (l' : Stream)
    (ended : Ended) (got : List ℕ) → IsServing offer link before wire l after → Reads got l l'
    → ((text : List ℕ) → Appends link.written l'.written text → Wrote ended link.written l'.written text)
    → ((xs : List Exchange) → AreOpen xs → wire.more + length xs ≡ request_limit
    → HasCause ended xs (wire.pending ++ got) l'.left)
    → FailsBy ended link l' → Served offer link before ended l' after
served-idle offer link before wire l after l' ended got i reads wrote cause fails =
    let same : l'.written ≡ l.written = ap (λ (s : Stream). s.written) reads.rest in
    let given : l'.given ≡ l.given + length got = ap (λ (s : Stream). s.given) reads.rest in
    record {
      exchanges = i.exchanges;
      taken = i.taken ++ got;
      took = Consumes-trans link.left l.left l'.left i.taken got i.took reads.next;
      given = omega (arith, given, i.given, length-append i.taken got);
      rest = wire.pending ++ got;
      asked = asks-behind request_limit i.taken i.exchanges wire.pending got i.open_still i.asked;
      grew = i.grew;
      served = i.served;
      wrote = wrote (reply_texts i.exchanges)
          (subst (λ (written : Option (List ℕ)). Appends link.written written (reply_texts i.exchanges)) (sym same) i.wrote);
      called = i.called;
      cause = cause i.exchanges i.open_still i.count;
      fails = fails;
    }

-- ---- one exchange more

-- no read failed where something is replied to
no-fault : (offer : Offer) (asked : Asked) (before : Backend) (reply : Reply) (after : Backend) (old new : ℕ)
    → Replied offer asked before reply after → FaultsBy asked old new → new ≡ old
no-fault offer (asks.Wanted request) before reply after old new r faults = faults
no-fault offer (asks.Refused fault) before reply after old new r faults = faults
no-fault offer asks.NoMemory before reply after old new r faults = faults
no-fault offer asks.Done before reply after old new r faults = faults
no-fault offer asks.Cut before reply after old new r faults = faults
no-fault offer asks.ReadFault before reply after old new r faults = absurd r.grants

-- an exchange behind others, whose reply is not written yet; more: how many could come before it
pub record Exchanged (offer : Offer) (link : Stream) (before : Backend) (asked : Asked) (reply : Reply) (rest : List ℕ)
    (l : Stream) (after : Backend) (more : ℕ) : Type 0 where
  pub front : List Exchange
  pub exchange : Exchange
  pub is_asked : exchange.asked ≡ asked
  pub front_open : AreOpen front
  pub taken : List ℕ
  pub took : Consumes link.left l.left taken
  pub given : l.given ≡ link.given + length taken
  pub asks : AsksIn request_limit taken (asked_in (front ++ exchange ∷ [])) rest
  pub grew : IsPrefix before.pass.seen after.pass.seen
  pub served : AreExchanges offer after.pass.seen (moment_of before) (front ++ exchange ∷ []) (moment_of after)
  pub wrote_front : Appends link.written l.written (reply_texts front)
  pub texts_are : reply_texts (front ++ exchange ∷ []) ≡ reply_texts front ++ reply_text reply (closes asked)
  pub called : TellsAll before.importer.calls after.importer.calls (calls_in (front ++ exchange ∷ []))
  pub count : more + length front ≡ request_limit
  pub read_faults : l.read_faults ≡ link.read_faults
  pub write_faults : l.write_faults ≡ link.write_faults

pub exchanged : (offer : Offer) (link : Stream) (before : Backend) (wire wire' : Buffer) (l l' : Stream) (middle after : Backend)
    (asked : Asked) (reply : Reply) → 0 < wire.more → IsServing offer link before wire l middle
    → Asks asked wire wire' l l' → Replied offer asked middle reply after
    → Exchanged offer link before asked reply wire'.pending l' after wire.more
exchanged offer link before wire wire' l l' middle after asked reply some i a r =
    let x : Exchange = record { asked = asked; reply = reply; call = r.call } in
    let journal = after.pass.seen in
    let served = exchanges-grow offer middle.pass.seen journal (moment_of before) i.exchanges (moment_of middle) r.grew i.served in
    let grants = subst (λ (seen : List Batch). Grants offer (route_of offer asked) seen (moment_of middle) (moment_of after) r.call reply)
    (sym (take-length journal)) r.grants in
    let whole : length journal ≤ length journal = omega arith in
    let given : l'.given ≡ l.given + length a.got = ap (λ (s : Stream). s.given) a.reads.rest in
    let written : l'.written ≡ l.written = ap (λ (s : Stream). s.written) a.reads.rest in
    let write_faults : l'.write_faults ≡ l.write_faults = reads-keep a.got l l' a.reads in
    record {
      front = i.exchanges;
      exchange = x;
      is_asked = refl;
      front_open = i.open_still;
      taken = i.taken ++ a.got;
      took = Consumes-trans link.left l.left l'.left i.taken a.got i.took a.reads.next;
      given = omega (arith, given, i.given, length-append i.taken a.got);
      asks = asks-more request_limit (i.taken ++ a.got) i.exchanges (wire.pending ++ a.got) wire.more x wire'.pending i.open_still
          (asks-behind request_limit i.taken i.exchanges wire.pending a.got i.open_still i.asked) i.count some a.first;
      grew = prefix-trans before.pass.seen middle.pass.seen journal i.grew r.grew;
      served = exchanges-more offer journal (moment_of before) i.exchanges (moment_of middle) x (moment_of after) served
          (prefix-length middle.pass.seen journal r.grew) whole grants;
      wrote_front = subst (λ (w : Option (List ℕ)). Appends link.written w (reply_texts i.exchanges)) (sym written) i.wrote;
      texts_are =
          flat_map-append (λ y. reply_text y.reply (closes y.asked)) i.exchanges (x ∷ [])
          ∙ ap (λ text. reply_texts i.exchanges ++ text) (append-nil (reply_text reply (closes asked)));
      called = subst (λ (calls : List ImportCall). TellsAll before.importer.calls after.importer.calls calls)
          (sym (filter_map-append (λ y. y.call) i.exchanges (x ∷ [])))
          (tells-trans before.importer.calls middle.importer.calls after.importer.calls (calls_in i.exchanges)
          (calls_in (x ∷ [])) i.called r.called);
      count = i.count;
      read_faults = no-fault offer asked middle reply after l.read_faults l'.read_faults r a.faults ∙ i.read_faults;
      write_faults = write_faults ∙ i.write_faults;
    }

not-none : {A : Type 0} (xs : List A) (x : A) → xs ++ x ∷ [] ≢ []
not-none [] x same = cc
not-none (y ∷ ys) x same = cc

-- ---- the reply to it

module _ (offer : Offer) (link : Stream) (before : Backend) (asked : Asked) (reply : Reply) (rest : List ℕ) (l : Stream)
    (after : Backend) (more : ℕ) (l' : Stream) (e : Exchanged offer link before asked reply rest l after more) where
  -- the reply could not be written
  pub served-unwritten : FailsToTake (reply_text reply (closes asked)) l l' → Served offer link before ends.WriteFault l' after
  served-unwritten fails =
      let left : l'.left ≡ l.left = ap (λ (s : Stream). s.left) fails.rest in
      let given : l'.given ≡ l.given = ap (λ (s : Stream). s.given) fails.rest in
      let read_faults : l'.read_faults ≡ l.read_faults = ap (λ (s : Stream). s.read_faults) fails.rest in
      record {
        exchanges = e.front ++ e.exchange ∷ [];
        taken = e.taken;
        took = subst (λ (o : Option (List ℕ)). Consumes link.left o e.taken) (sym left) e.took;
        given = given ∙ e.given;
        rest = rest;
        asked = e.asks;
        grew = e.grew;
        served = e.served;
        wrote = subst (λ (text : List ℕ). AppendsFront link.written l'.written text) (sym e.texts_are)
            (appends-front link.written l.written l'.written (reply_texts e.front) (reply_text reply (closes asked)) e.wrote_front fails.front);
        called = e.called;
        cause = not-none e.front e.exchange;
        fails = (
          read_faults ∙ e.read_faults,
          subst (λ (n : ℕ). Rises n l'.write_faults) e.write_faults fails.rises,
        );
      }

  wrote-all : Takes (reply_text reply (closes asked)) l l'
      → Appends link.written l'.written (reply_texts (e.front ++ e.exchange ∷ []))
  wrote-all takes = subst (λ (text : List ℕ). Appends link.written l'.written text) (sym e.texts_are)
      (Appends-trans link.written l.written l'.written (reply_texts e.front) (reply_text reply (closes asked)) e.wrote_front takes.appended)

  -- the connection was to be closed behind it
  pub served-last : Takes (reply_text reply (closes asked)) l l' → closes asked ≡ true → Served offer link before ends.Done l' after
  served-last takes shut =
      let left : l'.left ≡ l.left = ap (λ (s : Stream). s.left) takes.rest in
      let given : l'.given ≡ l.given = ap (λ (s : Stream). s.given) takes.rest in
      let read_faults : l'.read_faults ≡ l.read_faults = ap (λ (s : Stream). s.read_faults) takes.rest in
      let write_faults : l'.write_faults ≡ l.write_faults = ap (λ (s : Stream). s.write_faults) takes.rest in
      record {
        exchanges = e.front ++ e.exchange ∷ [];
        taken = e.taken;
        took = subst (λ (o : Option (List ℕ)). Consumes link.left o e.taken) (sym left) e.took;
        given = given ∙ e.given;
        rest = rest;
        asked = e.asks;
        grew = e.grew;
        served = e.served;
        wrote = wrote-all takes;
        called = e.called;
        cause = inl (last-closes e.front e.exchange (ap closes e.is_asked ∙ shut));
        fails = (read_faults ∙ e.read_faults, write_faults ∙ e.write_faults);
      }

  -- the connection goes on
  pub serving-on : (wire : Buffer) → wire.pending ≡ rest → wire.more + 1 ≡ more
      → Takes (reply_text reply (closes asked)) l l' → closes asked ≡ false → IsServing offer link before wire l' after
  serving-on wire pending fewer takes stays =
      let left : l'.left ≡ l.left = ap (λ (s : Stream). s.left) takes.rest in
      let given : l'.given ≡ l.given = ap (λ (s : Stream). s.given) takes.rest in
      let read_faults : l'.read_faults ≡ l.read_faults = ap (λ (s : Stream). s.read_faults) takes.rest in
      let write_faults : l'.write_faults ≡ l.write_faults = ap (λ (s : Stream). s.write_faults) takes.rest in
      record {
        exchanges = e.front ++ e.exchange ∷ [];
        taken = e.taken;
        took = subst (λ (o : Option (List ℕ)). Consumes link.left o e.taken) (sym left) e.took;
        given = given ∙ e.given;
        asked = subst (λ (bytes : List ℕ). AsksIn request_limit e.taken (asked_in (e.front ++ e.exchange ∷ [])) bytes) (sym pending) e.asks;
        open_still = open-more e.front e.exchange e.front_open (ap closes e.is_asked ∙ stays);
        count = omega (arith, e.count, fewer, length-append e.front (e.exchange ∷ []));
        grew = e.grew;
        served = e.served;
        wrote = wrote-all takes;
        called = e.called;
        read_faults = read_faults ∙ e.read_faults;
        write_faults = write_faults ∙ e.write_faults;
      }

-- ---- the first moment

pub serving-none : (offer : Offer) (link : Stream) (before : Backend) (wire : Buffer) → wire ≡ record { pending = []; more = request_limit }
    → IsServing offer link before wire link before
serving-none offer link before wire fresh = rw fresh (record {
  exchanges = [];
  taken = [];
  took = Consumes-nil link.left;
  given = omega arith;
  asked = refl;
  open_still = tt;
  count = omega arith;
  grew = prefix-self before.pass.seen;
  served = refl;
  wrote = Appends-nil link.written;
  called = tells-none before.importer.calls;
  read_faults = refl;
  write_faults = refl;
})
