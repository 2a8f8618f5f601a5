use Rattle.std.proofs.Common.{◌≡◌, ◌∷◌, [], List, reverse, ap, sym, ◌∙◌}
use Rattle.std.specs.Prelude.{option_map}
use Rattle.dns_names.specs.Name.{DomainName}
use Rattle.stub_hosts.specs.Hosts.{qualified}
use Rattle.stub_core.proofs.AttemptedNamesLaws.{only-attempt}
use Rattle.stub_core.proofs.attempted_names.names_to_attempt.Goals as goal

pub returns-then-is_complete : goal.returns-then-is_complete
returns-then-is_complete c =
    let pushed : reverse c.push_qualified.new.stack.items ≡ qualified c.args.name.now ∷ [] =
    c.in_ok-push_qualified.ensures
    ∙ ap (λ (xs : List DomainName). qualified c.args.name.now ∷ reverse xs) c.new-stack.ensures.items in
    only-attempt c.args.ndots (option_map (λ d. d.now) c.args.domain) c.args.search.now c.args.name.now c.push_qualified.new.stack.items (sym c.is_complete.ensures ∙ c.if-is_complete.true) pushed
