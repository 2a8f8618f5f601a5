use Rattle.std.proofs.Common.{ap, ◌∙◌}
use Rattle.stub_net.specs.signed.Update.{outcome_of}
use Rattle.stub_net.specs.declared.signed.network.SignedNetwork.{SignedNetwork}
use Rattle.stub_net.proofs.SignedLaws.{outcome_signed}
use Rattle.stub_net.proofs.signed.update.send_signed_update.Goals as goal

pub returns-clause-sent : goal.returns-clause-sent
returns-clause-sent g c =
    let before = c.refused-before.ensures ∙ ap (λ (s : SignedNetwork g.row.N.Denot). s.refused) c.network.ensures in
    let after = c.network-2.ensures in
    record {
      reply = c.send_update-outcome.result;
      updates = c.send_update-outcome.ensures;
      outcome_is = c.outcome_of.ensures ∙ (λ i. outcome_of c.send_update-outcome.result (before i) (after i).refused (after i).refusal);
    }

pub returns-clause-signed : goal.returns-clause-signed
returns-clause-signed g c = rw c.outcome_of.ensures (outcome_signed _ _ _ c.send_update-outcome.result c.send_update-outcome.new.self _ _ _ c.send_update-outcome.ensures)
