use Rattle.std.proofs.Common.{◌≡◌, ◌<◌, ◌^◌, ℕ, List, length, Some, None, Err, inl, inr, refl, sym, ap, ◌∙◌, arith}
use Rattle.std.specs.Prelude.{slice_get}
use Rattle.std.proofs.lemmas.Option.{slice_get_past, slice_get_read}
use Rattle.dns_messages.specs.declared.query.Query.{Query}
use Rattle.stub_lookup.specs.declared.error.LinkFault.TheVariants as fault
use Rattle.stub_lookup.specs.declared.error.NetError.TheVariants as net
use Rattle.stub_link.specs.Link.{calls_of}
use Rattle.stub_link.specs.WireHandle.{asker_of}
use Rattle.stub_link.proofs.Asking.{asked-drawn, supported-by}
use Rattle.stub_link.proofs.Requests.{asks-under}
use Rattle.stub_link.proofs.wire_handle.WireHandle.ask.Goals as goal

pub returns-in_default-clause-asked : goal.returns-in_default-clause-asked
returns-in_default-clause-asked g c = inl (record { no_question = c.question_of.ensures.none c.in_default.is; outcome_is = refl; same = refl })

pub returns-then-drawn-len-clause-asked : goal.returns-then-drawn-len-clause-asked
returns-then-drawn-len-clause-asked g c =
    inr (supported-by (calls_of g.L.Link.sends g.L.Link.receives g.L.Link.streams) c.args.request.now c.in-Some.query.now (asker_of c.args.self.now) (Err (net.Link fault.NoId)) (asker_of c.args.self.now) None c.in-Some.ensures.some
    (slice_get_past c.args.self.now.ids.items (length c.args.self.now.sent.items) (omega (arith, c.args.self.now.ids.ok.0, c.args.self.now.sent.ok.0))) (refl, refl))

pub returns-in-Err-clause-asked : goal.returns-in-Err-clause-asked
returns-in-Err-clause-asked g c =
    let drawn : c.len-drawn.result ≡ length c.args.self.now.sent.items = omega (arith, c.args.self.now.sent.ok.0) in
    let found : slice_get c.args.self.now.ids.items c.len-drawn.result ≡ Some c.index-id.result.now =
    slice_get_read c.args.self.now.ids.items c.len.result c.len-drawn.result c.index-id.result.now (omega (arith, c.args.self.now.ids.ok.0)) c.if-drawn-len.false c.index-id.ensures in
    inr (supported-by (calls_of g.L.Link.sends g.L.Link.receives g.L.Link.streams) c.args.request.now c.in-Some.query.now (asker_of c.args.self.now) (Err net.Memory) _ (Some c.index-id.result.now) c.in-Some.ensures.some
    (ap (slice_get c.args.self.now.ids.items) (sym drawn) ∙ found) (inl (refl, inl (ap (λ (sent : List (ℕ × Query)). record (asker_of c.args.self.now) { sent = sent }) c.in-Err.ensures.err))))

pub returns-in-Ok-clause-asked : goal.returns-in-Ok-clause-asked
returns-in-Ok-clause-asked g c =
    let drawn : c.len-drawn.result ≡ length c.args.self.now.sent.items = omega (arith, c.args.self.now.sent.ok.0) in
    let found : slice_get c.args.self.now.ids.items c.len-drawn.result ≡ Some c.index-id.result.now =
    slice_get_read c.args.self.now.ids.items c.len.result c.len-drawn.result c.index-id.result.now (omega (arith, c.args.self.now.ids.ok.0)) c.if-drawn-len.false c.index-id.ensures in
    let small : c.index-id.result.now < 2 ^ 16 = omega arith in
    inr (supported-by (calls_of g.L.Link.sends g.L.Link.receives g.L.Link.streams) c.args.request.now c.in-Some.query.now (asker_of c.args.self.now) c.ask_under_id.result (asker_of c.ask_under_id.new.self) (Some c.index-id.result.now) c.in-Some.ensures.some
    (ap (slice_get c.args.self.now.ids.items) (sym drawn) ∙ found)
    (asked-drawn (calls_of g.L.Link.sends g.L.Link.receives g.L.Link.streams) c.args.request.now c.in-Some.query.now (asker_of c.args.self.now) (record (asker_of c.args.self.now) { sent = c.remember.new.sent.items }) c.ask_under_id.result (asker_of c.ask_under_id.new.self) c.index-id.result.now
    (ap (λ (sent : List (ℕ × Query)). record (asker_of c.args.self.now) { sent = sent }) c.in-Ok.ensures.ok)
    (c.ask_under_id.ensures.asked c.in-Some.query.now (asks-under c.index-id.result.now c.args.request.now c.in-Some.query.now small c.in-Some.ensures.some))))
