use Rattle.stub_link.specs.AskState.{AskState, AskZone}
use Rattle.stub_run.specs.Questions.{AsksZone, IsOutOfMemory}
use Rattle.stub_run.proofs.SupportedLaws.{host-turn, name-turn, resolver-supported}
use Rattle.stub_run.proofs.ZoneQuestions.{event-replies, zone-replies-soundly}
use Rattle.stub_run.proofs.laws.questions.resolvers_ask_the_zone_sound_questions.Goals as goal

pub returns-clause-name : goal.returns-clause-name
returns-clause-name c = λ now name kind old new reply short small payload h.
    name-turn (λ asks request now outcome after. AskZone asks request now outcome after)
    (λ asks request now outcome after. AsksZone asks request now outcome after) old new
    (resolver-supported (λ (state : AskState). IsOutOfMemory state)
    (λ asks request now outcome after. AskZone asks request now outcome after) zone-replies-soundly old payload)
    c.type_number_round_trips.ensures now name kind reply short small h

pub returns-clause-host : goal.returns-clause-host
returns-clause-host c = λ now address name old new reply short payload h.
    host-turn (λ asks request now outcome after. AskZone asks request now outcome after)
    (λ asks request now outcome after. AsksZone asks request now outcome after) old new
    (resolver-supported (λ (state : AskState). IsOutOfMemory state)
    (λ asks request now outcome after. AskZone asks request now outcome after) zone-replies-soundly old payload)
    now address name reply short h

pub returns-clause-events : goal.returns-clause-events
returns-clause-events c =
    event-replies c.type_number_round_trips.ensures (λ text name e. (c.parsing_follows_the_grammar.ensures text name).0 e)
