use Rattle.std.proofs.Common.{◌≡◌, ◌∙◌, length, take, ap, ℕ, List}
use Rattle.dns_tsig.proofs.CoveredLaws.{same_test}
use Rattle.dns_tsig.proofs.judge.begins_with.Goals as goal

pub returns : goal.returns
returns c =
    let cut : c.front.result.now ≡ take (length c.args.mac.now) c.args.code.now.items =
    c.front.ensures ∙ ap (λ (l : List ℕ). take (length c.args.mac.now) l) c.as_slice.ensures.value in
    same_test c.is_same.result c.front.result.now (take (length c.args.mac.now) c.args.code.now.items) c.args.mac.now cut c.is_same.ensures
