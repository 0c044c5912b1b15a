-- Replies in pieces, and two writes in turn.
use Rattle.std.proofs.Common.{◌≡◌, ℕ, ◌+◌, ◌≤◌, Bool, List, [], ◌∷◌, ◌++◌, length, take, codes, refl, sym, ap, ◌∙◌, subst, arith, append_assoc, length-append}
use Rattle.std.proofs.lemmas.List.{take-append-le}
use Rattle.std.proofs.Math.Seq.{take-append-add}
use Rattle.std.specs.Io.KnownBytes.{Appends}
use Rattle.std.proofs.KnownBytes.{Appends-trans}
use Rattle.serde_json.proofs.OnLiterals.{serde_json_on_literals}
use Rattle.outside.specs.Stream.{Stream, Rises, Takes, FailsToTake}
use Rattle.outside.proofs.StreamLemmas.{takes-faults}
use Rattle.explorer_model.specs.Replies.{line, reply_body, reply_text}
use Rattle.explorer_model.specs.Query.{parameter_text, player_parameter_text}
use Rattle.explorer_model.specs.declared.player.PlayerParameter.{PlayerParameter}
use Rattle.explorer_model.specs.declared.player.PlayerParameter.TheVariants as players
use Rattle.explorer_model.specs.declared.query.Parameter.{Parameter}
use Rattle.explorer_model.specs.declared.query.Parameter.TheVariants.{Variant, Fen, Play, Speeds, Ratings, Since, Until, Moves, TopGames, RecentGames, History}
use Rattle.explorer_model.specs.declared.wire.Reply.{Reply}
use Rattle.explorer_model.specs.declared.wire.Reply.TheVariants.{BadParameter, BadPlayerParameter}
use Rattle.http_wire.specs.Replying.{head_text}

-- the first of two writes failed
pub fails-first : (a b : List ℕ) (old new : Stream) → FailsToTake a old new → FailsToTake (a ++ b) old new
fails-first a b old new fails =
    let count = fails.front.0 in
    let few : count ≤ length a = fails.front.1 in
    record {
      front = (
        count,
        omega (arith, length-append a b),
        subst (Appends old.written new.written) (sym (take-append-le count a b few)) fails.front.2,
      );
      rises = fails.rises;
      rest = fails.rest;
    }

-- the second of two writes failed
pub fails-second : (a b : List ℕ) (old middle new : Stream) → Takes a old middle → FailsToTake b middle new
    → FailsToTake (a ++ b) old new
fails-second a b old middle new takes fails =
    let count = fails.front.0 in
    let few : count ≤ length b = fails.front.1 in
    record {
      front = (
        length a + count,
        omega (arith, length-append a b),
        subst (Appends old.written new.written) (sym (take-append-add a b count))
            (Appends-trans old.written middle.written new.written a (take count b) takes.appended fails.front.2),
      );
      rises = subst (λ faults. Rises faults new.write_faults) (takes-faults a old middle takes) fails.rises;
      rest =
          fails.rest
          ∙ ap (λ (s : Stream). record s { written = new.written; write_faults = new.write_faults }) takes.rest;
    }

regroup : (start status type name size end own close : List ℕ)
    → start ++ status ++ (end ++ (type ++ (end ++ name))) ++ size ++ end ++ own ++ close ++ end
    ≡ (start ++ status ++ end) ++ (type ++ end) ++ (name ++ size ++ end) ++ own ++ close ++ end
regroup start status type name size end own close = simp append_assoc

-- the pieces of a head, one behind another
pub head-pieces : (status size own close : List ℕ)
    → codes "HTTP/1.1 " ++ status ++ codes "\r\nContent-Type: application/json\r\nContent-Length: "
    ++ size ++ codes "\r\n" ++ own ++ close ++ codes "\r\n"
    ≡ line (codes "HTTP/1.1 " ++ status) ++ line (codes "Content-Type: application/json")
    ++ line (codes "Content-Length: " ++ size) ++ own ++ close ++ line []
head-pieces status size own close =
    regroup (codes "HTTP/1.1 ") status (codes "Content-Type: application/json") (codes "Content-Length: ") size
    (13 ∷ 10 ∷ []) own close

pub reply-is : (reply : Reply) (last : Bool) (body : List ℕ) → body ≡ reply_body reply
    → head_text reply (length body) last ++ body ≡ reply_text reply last
unfolding reply_text
reply-is reply last body is = ap (λ list. head_text reply (length list) last ++ list) is

pub parameter-is : (name : Parameter)
    → codes "{\"error\":\"malformed parameter\",\"parameter\":\"" ++ parameter_text name ++ codes "\"}"
    ≡ reply_body (BadParameter name)
unfolding reply_body serde_json_on_literals
parameter-is Variant = refl
parameter-is Fen = refl
parameter-is Play = refl
parameter-is Speeds = refl
parameter-is Ratings = refl
parameter-is Since = refl
parameter-is Until = refl
parameter-is Moves = refl
parameter-is TopGames = refl
parameter-is RecentGames = refl
parameter-is History = refl

pub player-parameter-is : (name : PlayerParameter)
    → codes "{\"error\":\"malformed parameter\",\"parameter\":\"" ++ player_parameter_text name ++ codes "\"}"
    ≡ reply_body (BadPlayerParameter name)
unfolding reply_body serde_json_on_literals
player-parameter-is players.Player = refl
player-parameter-is players.Color = refl
player-parameter-is players.Modes = refl
player-parameter-is (players.Common name) = parameter-is name

-- a head and a body, as they lie in slices
pub chunks-are : (reply : Reply) (last : Bool) (shown head body : List ℕ) → shown ≡ head
    → head ≡ head_text reply (length body) last → body ≡ reply_body reply
    → shown ++ body ≡ reply_text reply last
chunks-are reply last shown head body same is_head is_body =
    ap (λ text. text ++ body) (same ∙ is_head) ∙ reply-is reply last body is_body
