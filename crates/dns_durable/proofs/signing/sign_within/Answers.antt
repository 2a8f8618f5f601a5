use Rattle.std.proofs.Common.{◌≡◌, ◌≤◌, ◌<◌, ◌∙◌, arith, ap, subst, length, List, ℕ}
use Rattle.std.specs.Prelude.{IfOk, Result, Ok, Err}
use Rattle.std.specs.Global.{Vec}
use Rattle.std.specs.declared.alloc.AllocError.{AllocError}
use Rattle.dns_messages.specs.declared.message.Message.{Message}
use Rattle.dns_tsig.specs.declared.key.Key.{Key}
use Rattle.dns_tsig.specs.declared.verify.Checked.{Checked}
use Rattle.dns_zone.specs.Serving.{reply_limit}
use Rattle.dns_zone.specs.declared.transport.Transport.{Transport}
use Rattle.dns_durable.specs.Signed.{IsSignedAs, IsSignedWithin, IsTruncatedReply}
use Rattle.dns_durable.specs.Signed.IsSignedWithin.{has_room, has_no_room}
use Rattle.dns_durable.specs.declared.incoming.Terms.{Terms}
use Rattle.dns_durable.proofs.signing.sign_within.Goals as goal

-- a truncated reply takes the place of one that has no room, once it is signed
replaced : (keys : List Key) (checked : Checked) (terms : Terms) (m : Message) (plain whole short : List ℕ) (r : Result (Vec ℕ) AllocError)
    → IsSignedAs keys checked terms.time plain whole → reply_limit terms.transport m < length whole → IsTruncatedReply terms.transport m short
    → IfOk r (λ out. IsSignedAs keys checked terms.time short out.items) → IfOk r (λ out. IsSignedWithin keys checked terms m plain out.items)
replaced keys checked terms m plain whole short (Ok out) signed over truncated again = has_no_room whole short signed over truncated again
replaced keys checked terms m plain whole short (Err error) signed over truncated again = tt

pub returns-then-len-limit : goal.returns-then-len-limit
returns-then-len-limit c =
    let limit : c.from-limit.result ≡ reply_limit c.args.terms.now.transport c.args.request.now =
    c.from-limit.ensures ∙ c.reply_limit.ensures.value ∙ ap (λ (t : Transport). reply_limit t c.args.request.now) c.transport.ensures in
    has_room c.in_ok-whole.ensures
    (subst (λ (most : ℕ). length c.in_ok-whole.whole.items ≤ most) limit (omega (arith, c.if-len-limit.true, c.len.ensures)))

pub returns : goal.returns
returns c =
    let limit : c.from-limit.result ≡ reply_limit c.args.terms.now.transport c.args.request.now =
    c.from-limit.ensures ∙ c.reply_limit.ensures.value ∙ ap (λ (t : Transport). reply_limit t c.args.request.now) c.transport.ensures in
    replaced c.args.keys.now c.args.checked.now c.args.terms.now c.args.request.now c.args.reply.items c.in_ok-whole.whole.items c.in_ok-short.short.items c.sign-2.result c.in_ok-whole.ensures
    (subst (λ (most : ℕ). most < length c.in_ok-whole.whole.items) limit (omega (arith, c.if-len-limit.false, c.len.ensures)))
    (subst (λ (t : Transport). IsTruncatedReply t c.args.request.now c.in_ok-short.short.items) c.transport-2.ensures (c.in_ok-short.ensures c.requires))
    c.sign-2.ensures
