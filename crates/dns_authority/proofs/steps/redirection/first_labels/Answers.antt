use Rattle.std.proofs.Common.{◌≡◌, ◌∙◌, ◌++◌, ◌∷◌, [], List, ℕ, ap, false, sym}
use Rattle.dns_names.specs.Name.{DomainName}
use Rattle.dns_authority.proofs.RedirectionLaws.{appended, one_more}
use Rattle.dns_authority.proofs.steps.redirection.first_labels.Goals as goal

pub loop-preserved : goal.loop-preserved
loop-preserved c =
    let first : c.in-Some.label.now ∷ c.next.new.self ≡ c.loop.labels = cc (c.in-Some.ensures.steps) in
    let more = one_more c.loop.counter c.args.name.now.labels c.in-Some.label.now c.next.new.self (first ∙ c.loop.invariant.left) in
    let longer = appended c.loop.front c.in-Ok.longer c.in-Some.label.now c.in-Ok.ensures.outcome in
    record {
      front = longer
          ∙ ap (λ (front : DomainName). record front { labels = front.labels ++ c.in-Some.label.now ∷ [] }) c.loop.invariant.front
          ∙ ap (λ (labels : List (List ℕ)). record { is_fqdn = false; labels = labels }) (sym more.0);
      left = more.1;
      can_next = tt;
      finite = tt;
    }
