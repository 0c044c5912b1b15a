use Rattle.std.proofs.Common.{ℕ, List, subst}
use Rattle.session.specs.Backends.{state_of}
use Rattle.session.specs.Exchanges.{backend}
use Rattle.session.specs.Readers.{offer_of}
use Rattle.session.specs.Steps.{ImportReplied}
use Rattle.session.proofs.ReaderLemmas.{covered-grows}
use Rattle.session.proofs.ReplyLemmas.{replied-import}
use Rattle.session.proofs.replying.reply_to_request.Goals as goal

pub returns-in-Post-clause-replied : goal.returns-in-Post-clause-replied
returns-in-Post-clause-replied g c =
    let before = state_of g.I.Importer.importer c.args.backend.now in
    let after = backend c.import.new.pass (g.I.Importer.importer c.import.new.importer) in
    let replied = subst (λ (body : List ℕ). ImportReplied body before c.import.result after) c.as_slice-body.ensures c.import.ensures.replied in
    replied-import (offer_of c.args.reader.now) c.args.request.now before after c.import.result c.in-Import.is c.in-Post.is replied

pub returns-in-Post-clause-covered : goal.returns-in-Post-clause-covered
returns-in-Post-clause-covered g c =
    covered-grows c.args.reader.now.players c.args.backend.now.pass.now.seen c.import.new.pass.seen c.requires.covered c.import.ensures.replied.grew
