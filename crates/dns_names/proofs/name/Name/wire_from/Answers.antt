use Rattle.std.proofs.Common.{drop, ℕ, ap, ◌∙◌}
use Rattle.std.proofs.lemmas.List.{take_rest}
use Rattle.dns_wire.specs.Writing.{labels_form}
use Rattle.dns_names.proofs.WireLaws.{form-after}
use Rattle.dns_names.proofs.name.Name.wire_from.Goals as goal

pub returns : goal.returns
returns c =
    take_rest c.wire.result.now c.offset_at.result ∙ ap (drop c.offset_at.result) c.wire.ensures.form
    ∙ ap (λ (n : ℕ). drop n (labels_form c.args.self.now.labels)) c.offset_at.ensures.value ∙ form-after c.args.index c.args.self.now.labels
