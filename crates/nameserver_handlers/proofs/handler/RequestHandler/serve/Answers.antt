use Rattle.std.proofs.Common.{◌∙◌, List, ap, length, map, subst, sym}
use Rattle.dns_durable.specs.declared.incoming.Terms.{Terms}
use Rattle.dns_sockets.specs.Handler.{request_content}
use Rattle.nameserver_handlers.specs.Handling.{AreTerms, keeping}
use Rattle.nameserver_handlers.proofs.HandlingLaws.{length_of_requests, serves_err, serves_ok, terms_length}
use Rattle.nameserver_handlers.proofs.handler.RequestHandler.serve.Goals as goal

pub respond-replies-requires : goal.respond-replies-requires
respond-replies-requires g c =
    let s = c.args.self.now.settings in
    ap length c.as_slice.ensures.value ∙ terms_length s (map request_content c.args.requests.now) c.in_ok-terms.terms.items c.in_ok-terms.ensures ∙ length_of_requests c.args.requests.now

pub returns-clause-ok : goal.returns-clause-ok
returns-clause-ok g c =
    let s = c.args.self.now.settings in
    let rs = map request_content c.args.requests.now in
    serves_ok g.S.Storage.performs (keeping c.args.self.now) rs c.as_slice.result.now (keeping c.respond-replies.new.self) (keeping c.settle.new.self)
    (subst (λ (ts : List Terms). AreTerms s rs ts) (sym c.as_slice.ensures.value) c.in_ok-terms.ensures) c.respond-replies.result c.is_err.result c.is_err.ensures.value c.settle.ensures c.respond-replies.ensures

pub returns-clause-err : goal.returns-clause-err
returns-clause-err g c =
    let s = c.args.self.now.settings in
    let rs = map request_content c.args.requests.now in
    serves_err g.S.Storage.performs (keeping c.args.self.now) rs c.as_slice.result.now (keeping c.respond-replies.new.self) (keeping c.settle.new.self)
    (subst (λ (ts : List Terms). AreTerms s rs ts) (sym c.as_slice.ensures.value) c.in_ok-terms.ensures) c.respond-replies.result c.is_err.result c.is_err.ensures.value c.settle.ensures c.respond-replies.ensures
