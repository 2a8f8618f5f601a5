use Rattle.stub_link.specs.SoundQuestion.{Supported}
use Rattle.stub_link.specs.WireHandle.{Asks}
use Rattle.stub_link.proofs.SoundReplies.{wire-replies}
use Rattle.stub_run.proofs.SoundQuestionLaws.{none-refused}
use Rattle.stub_run.proofs.SupportedLaws.{always-supports, host-turn, name-turn, text-short}
use Rattle.stub_run.proofs.laws.questions.resolvers_ask_sound_questions.Goals as goal

pub returns-clause-name : goal.returns-clause-name
returns-clause-name g c = λ now name kind old new reply short small payload h.
    let gives = Asks g.L.Link.sends g.L.Link.receives g.L.Link.streams g.L.Link.failure_count in
    name-turn gives (Supported gives) old new
    (always-supports gives
    (λ old request now outcome new k.
    wire-replies g.L.Link.sends g.L.Link.receives g.L.Link.streams g.L.Link.failure_count old request now outcome new k)
    old payload)
    c.type_number_round_trips.ensures now name kind reply short small h

pub returns-clause-host : goal.returns-clause-host
returns-clause-host g c = λ now address name old new reply short payload h.
    let gives = Asks g.L.Link.sends g.L.Link.receives g.L.Link.streams g.L.Link.failure_count in
    host-turn gives (Supported gives) old new
    (always-supports gives
    (λ old request now outcome new k.
    wire-replies g.L.Link.sends g.L.Link.receives g.L.Link.streams g.L.Link.failure_count old request now outcome new k)
    old payload)
    now address name reply short h

pub returns-clause-outcomes : goal.returns-clause-outcomes
returns-clause-outcomes g c =
    none-refused g.L.Link.sends g.L.Link.receives g.L.Link.streams g.L.Link.failure_count

pub returns-clause-texts : goal.returns-clause-texts
returns-clause-texts g c = text-short (λ text name e. (c.parsing_follows_the_grammar.ensures text name).0 e)
