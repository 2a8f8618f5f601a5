-- An update that the link does not send: its state stays faithful to the history of the zone, which nothing has changed, and one fault is
-- counted.
use Rattle.std.proofs.Common.{◌≡◌, arith, true, List, [], ◌∷◌, Err, Vec, Global, refl, ap, inr}
use Rattle.dns_wire.specs.declared.codes.record_type.RecordType.TheVariants as types
use Rattle.dns_messages.specs.declared.message.Message.{Message}
use Rattle.dns_messages.specs.declared.op_code.OpCode.TheVariants as ops
use Rattle.stub_lookup.specs.declared.error.LinkFault.TheVariants as faults
use Rattle.stub_lookup.specs.declared.error.NetError.TheVariants as net
use Rattle.stub_hosts.specs.Hosts.{question}
use Rattle.stub_client.specs.Request.{request_of}
use Rattle.stub_link.specs.AskState.{AskState, UpdateZone, begin_with_update, first_asks}
use Rattle.stub_link.specs.LinkState.{Listed, begins_with_fail, fail}
use Rattle.stub_link.specs.Request.{IsUpdate}
use Rattle.stub_link.specs.declared.link.LinkError.TheVariants.{Failed}
use Rattle.stub_link.specs.declared.link.script.LinkEvent.{LinkEvent}
use Rattle.stub_link.specs.declared.link.script.LinkEvent.TheVariants.{Fail}
use Rattle.stub_link.specs.declared.link.script.Script.TheVariants as script
use Rattle.stub_laws.specs.history.Faithful.{IsFaithful, StaysFaithfulUnlessOut}
use Rattle.stub_laws.proofs.EventLaws.{begin-update-faithful, first-faithful}
use Rattle.stub_laws.proofs.FaithfulLaws.{update-stays}
use Rattle.dns_zone.proofs.UpdatedLaws.{zone_kept}
use Rattle.stub_witnesses.proofs.AliasWitness.{is_zone, zone}
use Rattle.stub_witnesses.proofs.RunWitness.{options}
use Rattle.stub_witnesses.proofs.VersionsWitness.{root}

-- an update of the root's zone with nothing to change
abbrev request : Message
request = request_of (question root types.SOA) options

abbrev update : Message
update = record request { metadata = record request.metadata { op_code = ops.Update } }

pub is_update : IsUpdate update
is_update = record {
  update = record {
    sound = record {
      metadata = record { id_fits = omega arith; op_fits = omega arith; op_named = refl; code_fits = omega arith; code_named = refl };
      queries = (record { fqdn = refl; type_fits = omega arith; type_named = refl; class_fits = omega arith; class_named = refl }, tt);
      answers = tt;
      authorities = tt;
      additionals = tt;
      edns = record {
        rcode_fits = omega arith;
        version_fits = omega arith;
        z_fits = omega arith;
        payload_least = omega arith;
        payload_fits = omega arith;
        options = record { values = (tt, tt); fields = refl; type_fits = omega arith; type_named = refl; fits = omega arith };
      };
      extended = refl;
      signature = tt;
    };
    kind = refl;
    op_code = refl;
  };
  fits = omega arith;
}

-- a script whose first event is that a call fails
module _ (events : Vec LinkEvent Global) (fails : events.items ≡ Fail ∷ []) where
  abbrev begun : AskState
  begun = begin_with_update 30 (script.Listed events) (first_asks zone 512 [])

  pub is_faithful : IsFaithful root begun
  is_faithful = begin-update-faithful root 30 (script.Listed events) (first_asks zone 512 []) (omega arith) (first-faithful zone 512 [] is_zone)

  abbrev after : AskState
  after = record begun { link = fail begun.link; faults = 1 }

  pub not_sent : UpdateZone begun update (Err (net.Link faults.NotSent)) after
  not_sent = inr (record {
    uncounted = record begun { link = fail begun.link };
    sent = inr (record {
      datagram = update;
      waited = Err (net.Link faults.NotSent);
      sent = record {
        encodes = refl;
        result = Err Failed;
        link = fail begun.link;
        sends = (ap (λ (es : List LinkEvent). begins_with_fail (Listed es)) fails, refl);
        after = (refl, refl);
      };
      reply_is = refl;
    });
    counted = refl;
  })

  pub stays_faithful : StaysFaithfulUnlessOut root begun after
  stays_faithful = update-stays zone_kept root begun is_faithful update is_update (Err (net.Link faults.NotSent)) after not_sent
