use Rattle.std.proofs.Common.{sym, ap, ◌∙◌}
use Rattle.dns_tsig.specs.Verify.{by_key}
use Rattle.dns_tsig.proofs.VerifyLaws.{key_found}
use Rattle.dns_tsig.proofs.verify.verdict_by_keys.Goals as goal

pub returns-then-is_key_of : goal.returns-then-is_key_of
returns-then-is_key_of c =
    c.by_key.ensures ∙ ap (by_key c.loop-rest.index) c.judgement_of-judgement.ensures
    ∙ sym (key_found c.loop-rest.index c.loop-rest.rest.now c.key-item.result c.args.request.now c.args.signature.now c.args.now
    c.in-len1-up.len_at_least c.key-item.is (sym c.is_key_of.ensures ∙ c.if-is_key_of.true))
    ∙ c.loop-rest.invariant.decides
