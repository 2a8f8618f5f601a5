use Rattle.stub_run.proofs.FewLaws.{client-few, handle-few, handle-update-few, host-few, name-few}
use Rattle.stub_run.proofs.laws.handles_ask_few_questions.Goals as goal

pub returns-clause-question : goal.returns-clause-question
returns-clause-question g c =
    handle-few g.L.Link.sends g.L.Link.receives g.L.Link.streams g.L.Link.failure_count

pub returns-clause-lookup : goal.returns-clause-lookup
returns-clause-lookup g c =
    client-few g.L.Link.sends g.L.Link.receives g.L.Link.streams g.L.Link.failure_count

pub returns-clause-name : goal.returns-clause-name
returns-clause-name g c = λ now name kind old new reply h.
    name-few g.L.Link.sends g.L.Link.receives g.L.Link.streams g.L.Link.failure_count now old new name kind reply h.lookup

pub returns-clause-host : goal.returns-clause-host
returns-clause-host g c = λ now address name old new reply h.
    host-few g.L.Link.sends g.L.Link.receives g.L.Link.streams g.L.Link.failure_count now old new address name reply h

pub returns-clause-update : goal.returns-clause-update
returns-clause-update g c = λ old new update reply h.
    handle-update-few g.L.Link.sends g.L.Link.receives g.L.Link.streams g.L.Link.failure_count old new update reply h
