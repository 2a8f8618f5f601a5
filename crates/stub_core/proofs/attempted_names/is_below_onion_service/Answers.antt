use Rattle.std.proofs.Common.{◌≡◌, ◌++◌, ◌∷◌, [], false, ap, sym, ◌∙◌, length}
use Rattle.std.specs.Prelude.{◌==◌, ◌&&◌, Bool, codes}
use Rattle.std.specs.Str.{str_eq_ignore_ascii_case}
use Rattle.stub_core.proofs.AttemptedNamesLaws.{onion-path, tests-alike}
use Rattle.stub_core.proofs.attempted_names.is_below_onion_service.Goals as goal

pub returns-else-eq_ignore_ascii_case : goal.returns-else-eq_ignore_ascii_case
returns-else-eq_ignore_ascii_case c =
    let last : c.args.name.now.labels ≡ c.next_back.new.self ++ c.in-Some.zone.now ∷ [] =
    sym c.iter-labels.ensures ∙ c.in-Some.ensures.steps in
    let next : c.next_back.new.self ≡ c.next_back-2.new.self ++ c.in-Some-next_back.service.now ∷ [] =
    c.in-Some-next_back.ensures.steps in
    let path = onion-path c.args.name.now.labels c.next_back.new.self c.next_back-2.new.self c.in-Some.zone.now c.in-Some-next_back.service.now last next in
    let differs : str_eq_ignore_ascii_case c.in-Some.zone.now (codes "onion") ≡ false =
    sym (tests-alike c.in-Some.zone.now (codes "onion") c.eq_ignore_ascii_case.result c.eq_ignore_ascii_case.ensures.test.0 c.eq_ignore_ascii_case.ensures.test.1) ∙ c.if-eq_ignore_ascii_case.false in
    c.if-eq_ignore_ascii_case.false ∙ sym (path ∙ ap (λ (b : Bool). b && length c.in-Some-next_back.service.now == 56) differs)
