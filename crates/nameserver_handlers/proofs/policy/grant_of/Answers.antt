use Rattle.std.proofs.Common.{◌∙◌, ap, map, option_map, sym}
use Rattle.dns_durable.specs.GrantText.{grant_in}
use Rattle.nameserver_handlers.specs.Grants.RefusesGrant.{permits_nothing, states_none}
use Rattle.nameserver_handlers.proofs.policy.grant_of.Goals as goal

pub returns-in-Some-clause-refused : goal.returns-in-Some-clause-refused
returns-in-Some-clause-refused c = λ has_memory.
    permits_nothing c.in-Ok.grant c.in-Some.reason.now (ap grant_in (sym (ap (map (λ word. word.now)) c.as_slice.ensures.value ∙ c.in_ok-words.ensures)) ∙ c.in-Ok.ensures.ok)
    (sym c.unusable.ensures ∙ ap (option_map (λ text. text.now)) c.in-Some.is) c.invalid.ensures

pub returns : goal.returns
returns c = record {
  ok = tt;
  refused = λ has_memory. states_none c.in-Err.error c.as_str.result.now c.in_default.not-Memory
      (ap grant_in (sym (ap (map (λ word. word.now)) c.as_slice.ensures.value ∙ c.in_ok-words.ensures)) ∙ c.in-Err.ensures.refused c.in_default.not-Memory) c.invalid-in_default.ensures;
}
