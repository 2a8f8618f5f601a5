use Rattle.std.proofs.Common.{Bool, ℕ, ap, ◌∙◌}
use Rattle.stub_play.specs.sockets.SocketLink.{failures_after, memory_after}
use Rattle.stub_play.proofs.CallLaws.{datagram-failures, datagram-memory}
use Rattle.stub_play.proofs.sockets.socket_link.SocketLinkLink.next_datagram.Goals as goal

pub returns-clause-receives : goal.returns-clause-receives
returns-clause-receives g c =
    let called = c.receive in
    let result = c.link_result-received.result in
    record {
      calls = record {
        limit = called.ensures.limit;
        failures =
            c.count_failure.ensures.counted
            ∙ (ap (λ (n : ℕ). failures_after result n) called.ensures.failures ∙ datagram-failures result c.args.self.now.failures);
        memory =
            c.note_memory.ensures
            ∙ (ap (λ (b : Bool). memory_after result b) called.ensures.memory ∙ datagram-memory result c.args.self.now.out_of_memory);
      };
      serves = called.ensures.served;
    }
