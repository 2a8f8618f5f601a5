use Rattle.std.proofs.Common.{◌∙◌, ◌-◌, ℕ, ap, sym, arith}
use Rattle.std.specs.Prelude.{slice_get}
use Rattle.dns_names.specs.Labels.{localhost_label}
use Rattle.dns_names.proofs.PartsLaws.{last_is, tests_alike}
use Rattle.dns_names.proofs.name.Name.is_localhost.Goals as goal

pub returns-then-count-gt0 : goal.returns-then-count-gt0
returns-then-count-gt0 c =
    tests_alike c.label.result.now localhost_label c.eq_ignore_ascii_case.result c.eq_ignore_ascii_case.ensures.test.0 c.eq_ignore_ascii_case.ensures.test.1
    ∙ last_is c.args.self.now.labels c.label.result.now (omega arith) (ap (λ (n : ℕ). slice_get c.args.self.now.labels (n - 1)) (sym c.label_count-count.ensures.value) ∙ c.label.ensures.value)
