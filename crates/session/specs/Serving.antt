-- Statement: what a connection comes to.
use Rattle.std.specs.Prelude.{◌≡◌, ◌≢◌, ◌⊎◌, ◌+◌, ◌-◌, ◌<◌, ℕ, true, false, List, [], ◌∷◌, length, Option}
use Rattle.std.specs.Io.KnownBytes.{Appends, Consumes, IsAtEnd}
use Rattle.std.specs.List.{AllByRecursion}
use Rattle.outside.specs.Stream.{AppendsFront, Rises, Stream}
use Rattle.explorer_model.specs.declared.wire.Asked.{Asked}
use Rattle.explorer_model.specs.declared.wire.Asked.TheVariants.{Done, Cut, ReadFault}
use Rattle.explorer_model.specs.Timeline.{IsPrefix}
use Rattle.explorer_model.specs.Wire.{First, request_limit}
use Rattle.ingest_desk.specs.Importers.{TellsAll}
use Rattle.session.specs.declared.serving.Ended.{Ended}
use Rattle.session.specs.declared.serving.Ended.TheVariants as ends
use Rattle.session.specs.Exchanges.{Backend, Exchange, AreExchanges, asked_in, calls_in, moment_of, reply_texts}
use Rattle.session.specs.Replies.{Offer, closes}

-- ---- what is asked

-- These are asked in the bytes, one after another from the first, and this is the rest; more: how
-- many requests may come. Nothing is asked behind what closes the connection.
abbrev pub AsksIn : ℕ → List ℕ → List Asked → List ℕ → Type 0
AsksIn more bytes [] rest = rest ≡ bytes
AsksIn more bytes (asked ∷ others) rest =
    (0 < more) × (behind : List ℕ) × First more bytes asked behind
    × (closes asked ≡ true → others ≡ []) × AsksIn (more - 1) behind others rest

-- the connection stays open behind each
abbrev pub AreOpen : List Exchange → Type 0
AreOpen exchanges = AllByRecursion (λ x. closes x.asked ≡ false) exchanges

-- the last of them closes the connection
abbrev pub LastCloses : List Exchange → Type 0
LastCloses [] = ⊥
LastCloses (x ∷ []) = closes x.asked ≡ true
LastCloses (x ∷ y ∷ xs) = LastCloses (y ∷ xs)

-- the connection stays open behind them all, and this comes next, where the bytes left are these
pub record ComesNext (asked : Asked) (exchanges : List Exchange) (rest : List ℕ) : Type 0 where
  pub open_still : AreOpen exchanges
  pub next : First (request_limit - length exchanges) rest asked []

-- ---- how it ends

-- Done: a close was asked for or due, or the input ended between requests. Cut: it ended within
-- one.
abbrev pub HasCause : Ended → List Exchange → List ℕ → Option (List ℕ) → Type 0
HasCause ends.Done exchanges rest left =
    LastCloses exchanges ⊎ (ComesNext Done exchanges rest × IsAtEnd left)
HasCause ends.Cut exchanges rest left = ComesNext Cut exchanges rest × IsAtEnd left
HasCause ends.ReadFault exchanges rest left = ComesNext ReadFault exchanges rest
HasCause ends.WriteFault exchanges rest left = exchanges ≢ []

-- a read or a write failed exactly where the end says so
abbrev pub FailsBy : Ended → Stream → Stream → Type 0
FailsBy ends.ReadFault before after =
    Rises before.read_faults after.read_faults × (after.write_faults ≡ before.write_faults)
FailsBy ends.WriteFault before after =
    (after.read_faults ≡ before.read_faults) × Rises before.write_faults after.write_faults
FailsBy _ before after =
    (after.read_faults ≡ before.read_faults) × (after.write_faults ≡ before.write_faults)

-- the text was written; a front of it where a write failed
abbrev pub Wrote : Ended → Option (List ℕ) → Option (List ℕ) → List ℕ → Type 0
Wrote ends.WriteFault before after text = AppendsFront before after text
Wrote _ before after text = Appends before after text

-- A connection was served with what is offered, and ended so. The journal is what the pass has seen
-- in the end.
pub record Served (offer : Offer) (link : Stream) (before : Backend) (ended : Ended)
    (link' : Stream) (after : Backend) : Type 0 where
  pub exchanges : List Exchange
  -- each request or refusal in the bytes taken from the link has its reply, in order from the first
  pub taken : List ℕ
  pub took : Consumes link.left link'.left taken
  pub given : link'.given ≡ link.given + length taken
  pub rest : List ℕ
  pub asked : AsksIn request_limit taken (asked_in exchanges) rest
  -- the replies are over fronts of the journal, none shorter than the one before
  pub grew : IsPrefix before.pass.seen after.pass.seen
  pub served : AreExchanges offer after.pass.seen (moment_of before) exchanges (moment_of after)
  -- what is written is the replies
  pub wrote : Wrote ended link.written link'.written (reply_texts exchanges)
  -- the importer is called for the imports that were asked for, and for nothing else
  pub called : TellsAll before.importer.calls after.importer.calls (calls_in exchanges)
  pub cause : HasCause ended exchanges rest link'.left
  pub fails : FailsBy ended link link'
