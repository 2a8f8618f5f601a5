use Rattle.std.proofs.Common.{◌≡◌, true, []}
use Rattle.std.proofs.lemmas.List.Elements.{All-nil}
use Rattle.dns_wire.specs.declared.codes.record_type.RecordType.TheVariants as types
use Rattle.dns_messages.specs.Response.{has_type}
use Rattle.stub_client.proofs.AnswerTypesLaws.{lookup-fits}
use Rattle.stub_client.proofs.laws.origins.every_answer_has_an_asked_type.Goals as goal

pub returns : goal.returns
returns c = λ settings now old q asks reply new looks holds bears.
    lookup-fits c.type_number_round_trips.ensures settings now 0 [] old q asks reply new
    (All-nil (λ r. has_type types.CNAME r ≡ true)) holds bears looks
