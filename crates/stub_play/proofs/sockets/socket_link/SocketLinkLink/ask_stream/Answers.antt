use Rattle.std.proofs.Common.{Bool, ℕ, ap, ◌∙◌}
use Rattle.stub_play.specs.sockets.SocketLink.{failures_after, memory_after}
use Rattle.stub_play.proofs.CallLaws.{stream-failures, stream-memory}
use Rattle.stub_play.proofs.sockets.socket_link.SocketLinkLink.ask_stream.Goals as goal

pub returns-clause-streams : goal.returns-clause-streams
returns-clause-streams g c =
    let called = c.ask in
    let result = c.link_result-reply.result in
    record {
      calls = record {
        limit = called.ensures.limit;
        failures =
            c.count_failure.ensures.counted
            ∙ (ap (λ (n : ℕ). failures_after result n) called.ensures.failures ∙ stream-failures result c.args.self.now.failures);
        memory =
            c.note_memory.ensures
            ∙ (ap (λ (b : Bool). memory_after result b) called.ensures.memory ∙ stream-memory result c.args.self.now.out_of_memory);
      };
      serves = called.ensures.served;
    }
