use Rattle.std.proofs.Common.{◌∙◌, ap, arith}
use Rattle.dns_names.specs.Build.{into_wildcard}
use Rattle.dns_authority.proofs.RedirectionLaws.{if_ok}
use Rattle.dns_authority.proofs.WildcardLaws.{star_beside, trimmed}
use Rattle.dns_authority.proofs.steps.wildcard.wildcard_beside.Goals as goal

pub returns : goal.returns
returns c =
    if_ok c.into_wildcard.result c.into_wildcard.ensures.ok
    (λ made is.
    is ∙ ap into_wildcard (c.in_ok-trim_to.ensures.ok ∙ trimmed c.args.name.now c.args.past _ (omega arith) (omega arith))
    ∙ star_beside c.args.name.now.labels c.args.past (omega arith))
