use Rattle.std.proofs.Common.{◌≡◌, ◌<◌, ◌+◌, ◌∙◌, drop, get_or, arith, rules, refl}
use Rattle.dns_tsig.proofs.SkipLaws.{label_front}
use Rattle.dns_tsig.proofs.skip.after_labels.Goals as goal

pub loop-rest-preserved : goal.loop-rest-preserved
loop-rest-preserved c =
    let some : 0 < get_or c.loop-rest.rest.now 0 0 = omega arith in
    let most : get_or c.loop-rest.rest.now 0 0 < 64 = omega arith in
    let after : c.after_label-rest.result.now ≡ drop (get_or c.loop-rest.rest.now 0 0 + 1) c.loop-rest.rest.now = search rules in
    label_front c.loop-rest.rest.now c.after_label-rest.result.now (get_or c.loop-rest.rest.now 0 0) c.in-len1-up.len_at_least refl some most after
    ∙ c.loop-rest.invariant
