use Rattle.std.proofs.Common.{◌≡◌, ◌∷◌, [], List, ℕ, inr, refl, sym, subst, ◌∙◌}
use Rattle.dns_messages.specs.declared.query.Query.{Query}
use Rattle.stub_link.specs.Ask.{IsAsked}
use Rattle.stub_link.specs.Link.{Encodes, calls_of, wire}
use Rattle.stub_link.specs.WireHandle.{StreamsTo, asker_of}
use Rattle.stub_link.proofs.Requests.{only-item}
use Rattle.stub_link.proofs.Asking.{asked-again, asked-once}
use Rattle.stub_link.proofs.wire_handle.WireHandle.ask_under_id.Goals as goal

pub returns-then-is_truncated-clause-asked : goal.returns-then-is_truncated-clause-asked
returns-then-is_truncated-clause-asked g c = λ q a.
    let only : c.args.request.now.queries ≡ c.query-item.result ∷ [] = sym c.as_slice.ensures ∙ only-item c.as_slice.result.now c.query-item.result c.in-len1.len_at_least c.in-len1.len_below c.query-item.is in
    let same : c.query-item.result ≡ q = cc (only, a.only) in
    let encodes : Encodes c.args.request.now c.as_slice-2.result.now = subst (Encodes c.args.request.now) (sym c.as_slice-2.ensures.value) c.in-Ok.ensures in
    inr (subst (λ (x : Query). IsAsked wire (calls_of g.L.Link.sends g.L.Link.receives g.L.Link.streams) c.args.request.now x (asker_of c.args.self.now) c.ask_again.result (record (asker_of c.exchange-reply.new.self) { link = c.ask_again.new.link })) same
    (asked-again (calls_of g.L.Link.sends g.L.Link.receives g.L.Link.streams) c.args.request.now c.query-item.result c.as_slice-2.result.now (asker_of c.args.self.now) c.exchange-reply.result (asker_of c.exchange-reply.new.self) c.ask_again.result c.ask_again.new.link
    (c.exchange-reply.ensures.sent c.args.request.now encodes refl) (sym c.is_truncated.ensures ∙ c.if-is_truncated.true)
    (subst (λ (bs : List ℕ). StreamsTo g.L.Link.streams c.args.request.now.metadata.id c.query-item.result bs c.exchange-reply.new.self.link c.ask_again.result c.ask_again.new.link) (c.as_slice-then-is_truncated.ensures.value ∙ sym c.as_slice-2.ensures.value) c.ask_again.ensures.streams)))

pub returns-clause-asked : goal.returns-clause-asked
returns-clause-asked g c = λ q a.
    let only : c.args.request.now.queries ≡ c.query-item.result ∷ [] = sym c.as_slice.ensures ∙ only-item c.as_slice.result.now c.query-item.result c.in-len1.len_at_least c.in-len1.len_below c.query-item.is in
    let same : c.query-item.result ≡ q = cc (only, a.only) in
    let encodes : Encodes c.args.request.now c.as_slice-2.result.now = subst (Encodes c.args.request.now) (sym c.as_slice-2.ensures.value) c.in-Ok.ensures in
    inr (subst (λ (x : Query). IsAsked wire (calls_of g.L.Link.sends g.L.Link.receives g.L.Link.streams) c.args.request.now x (asker_of c.args.self.now) c.exchange-reply.result (asker_of c.exchange-reply.new.self)) same
    (asked-once (calls_of g.L.Link.sends g.L.Link.receives g.L.Link.streams) c.args.request.now c.query-item.result c.as_slice-2.result.now (asker_of c.args.self.now) c.exchange-reply.result (asker_of c.exchange-reply.new.self)
    (c.exchange-reply.ensures.sent c.args.request.now encodes refl) (sym c.is_truncated.ensures ∙ c.if-is_truncated.false)))
