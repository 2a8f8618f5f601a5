use Rattle.std.proofs.Common.{refl}
use Rattle.dns_wire.specs.codes.RecordType.{type_number}
use Rattle.stub_laws.proofs.CloseLaws.{closely}
use Rattle.stub_laws.proofs.history.laws.answers.answers_that_stood_have_the_chain_bound.Goals as goal

pub returns : goal.returns
returns c = λ origin history asked config q now r zones short answered ordinary plain none brought.
    closely c.answers_are_alias_chains.ensures origin history zones config (type_number q.query_type) plain none asked answered ordinary short brought refl
