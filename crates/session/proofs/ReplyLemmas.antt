-- Replies to requests.
use Rattle.std.proofs.Common.{◌≡◌, Some, refl, sym, subst}
use Rattle.explorer_model.specs.declared.wire.Asked.TheVariants.{Wanted}
use Rattle.explorer_model.specs.declared.wire.Method.{Method}
use Rattle.explorer_model.specs.declared.wire.Method.TheVariants as methods
use Rattle.explorer_model.specs.declared.wire.Path.{Path}
use Rattle.explorer_model.specs.declared.wire.Path.TheVariants as paths
use Rattle.explorer_model.specs.declared.wire.Reply.{Reply}
use Rattle.explorer_model.specs.declared.wire.Request.{Request}
use Rattle.session.specs.Exchanges.{Backend, Grants, GrantsImport, moment_of}
use Rattle.session.specs.Replies.{Offer, route_by}
use Rattle.session.specs.Steps.{ImportReplied, Replied}

pub replied-import : (offer : Offer) (request : Request) (before after : Backend) (reply : Reply) → request.path ≡ paths.Import
    → request.method ≡ methods.Post → ImportReplied request.body before reply after
    → Replied offer (Wanted request) before reply after
replied-import offer request before after reply path method r =
    let grants : GrantsImport request.body after.pass.seen (moment_of before) (moment_of after) (Some r.call) reply = record {
      made = r.call;
      called = refl;
      body_is = r.body_is;
      counts = r.counts;
      replies = r.replies;
      drawn = r.drawn;
      readings = r.readings;
    } in
    let Granted : Path → Method → Type 0 =
    λ p m. Grants offer (route_by offer p m request.query request.body) after.pass.seen (moment_of before) (moment_of after) (Some r.call) reply in
    record {
      call = Some r.call;
      grew = r.grew;
      grants = subst (λ (p : Path). Granted p request.method) (sym path) (subst (λ (m : Method). Granted paths.Import m) (sym method) grants);
      called = r.called;
    }
