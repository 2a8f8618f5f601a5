use Rattle.std.proofs.Common.{◌≡◌, ℕ, suc, ◌+◌, drop, string_bytes, subst, arith}
use Rattle.std.specs.List.{AllByRecursion}
use Rattle.dns_names.specs.Print.{AreOctets}
use Rattle.dns_names.proofs.IterLaws.{drop-at}
use Rattle.dns_names.proofs.PrintingLaws.{label_behind}
use Rattle.dns_names.proofs.text.print.push_dotted_labels.Goals as goal

pub loop-index-preserved : goal.loop-index-preserved
loop-index-preserved c =
    let labels = c.args.name.now.labels in
    let label = c.label_at.result.now in
    let next : c.loop-index.index + 1 ≡ suc c.loop-index.index = omega arith in (
      rw c.in_ok-push_after_dot.ensures.text
          (label_behind labels c.loop-index.index label (string_bytes c.loop-index.text) _ c.label_at.ensures c.loop-index.invariant.0),
      λ octets. c.loop-index.invariant.1 (rw (drop-at labels c.loop-index.index label c.label_at.ensures)
          (c.in_ok-push_after_dot.ensures.octets, subst (λ (n : ℕ). AllByRecursion AreOctets (drop n labels)) next octets)),
    )
