use Rattle.std.proofs.Common.{drop, ℕ, ap, ◌∙◌}
use Rattle.std.proofs.lemmas.List.{take_rest}
use Rattle.dns_wire.specs.Writing.{labels_form}
use Rattle.dns_names.proofs.WireLaws.{form-after}
use Rattle.dns_names.proofs.name.Name.wire_after.Goals as goal

pub returns-clause-value : goal.returns-clause-value
returns-clause-value c =
    take_rest c.wire.result.now c.offset_of.result ∙ ap (drop c.offset_of.result) c.wire.ensures.form
    ∙ ap (λ (n : ℕ). drop n (labels_form c.args.self.now.labels)) c.offset_of.ensures.value ∙ form-after c.args.skipped c.args.self.now.labels
