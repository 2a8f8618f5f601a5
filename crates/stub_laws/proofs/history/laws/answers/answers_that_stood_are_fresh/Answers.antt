use Rattle.dns_wire.specs.codes.RecordType.{type_number}
use Rattle.std.proofs.Common.{refl}
use Rattle.stub_laws.proofs.FreshLaws.{fresh}
use Rattle.stub_laws.proofs.history.laws.answers.answers_that_stood_are_fresh.Goals as goal

pub returns : goal.returns
returns c = λ origin history asked config q now r zones answered plain none brought.
    fresh c.answers_are_alias_chains.ensures origin history zones config (type_number q.query_type) plain none asked answered brought refl
