-- Why lookups fail: by a fault of the link in an event that counts one, and in none that counts none; and by a response code that the zone
-- has for the question, and by no other.
use Rattle.std.proofs.Common.{◌≡◌, arith, ℕ, false, [], ◌∷◌, Err, refl, ap, inl, inr, ◌∙◌}
use Rattle.dns_wire.specs.declared.codes.record_type.RecordType.{RecordType}
use Rattle.dns_wire.specs.declared.codes.record_type.RecordType.TheVariants as types
use Rattle.dns_names.specs.Name.{DomainName}
use Rattle.dns_messages.specs.declared.response_code.ResponseCode.{ResponseCode}
use Rattle.dns_messages.specs.declared.response_code.ResponseCode.TheVariants.{NotImp, ServFail}
use Rattle.dns_zone.specs.Answer.{answer}
use Rattle.stub_lookup.specs.declared.error.DnsError.TheVariants as dns
use Rattle.stub_lookup.specs.declared.error.LinkFault.TheVariants as faults
use Rattle.stub_lookup.specs.declared.error.NetError.TheVariants as net
use Rattle.stub_hosts.specs.Hosts.{question}
use Rattle.stub_client.specs.Looks.{Reply}
use Rattle.stub_laws.specs.answers.Failing.{IsRefused}
use Rattle.stub_laws.specs.answers.Standing.IsLed.{here}
use Rattle.stub_laws.specs.history.Answered.{zone_with}
use Rattle.stub_laws.proofs.StandLaws.{contains-head}
use Rattle.stub_run.specs.Headline.{settings_of, ttls_of}
use Rattle.stub_run.specs.Whole.{IsStandingReply}
use Rattle.stub_run.specs.declared.event.Action.TheVariants as actions
use Rattle.stub_run.specs.declared.report.EventReply.TheVariants as replies
use Rattle.stub_run.proofs.FailureLaws.{code-refuses, no-fault}
use Rattle.stub_witnesses.proofs.VersionsWitness.{host, root, stand_two, two, versions, world}

-- what `whole` says of a lookup of h. at 30, in an event that counts so many faults
abbrev IsReply : ℕ → RecordType → Reply → Type 0
IsReply count kind reply =
    IsStandingReply (ttls_of world) root versions (settings_of world) count 30 (actions.Lookup host kind) (replies.Lookup reply)

-- ---- faults

-- no datagram came
abbrev quiet : Reply
quiet = Err (net.Link faults.Quiet)

pub fails_with_a_fault : IsReply 1 types.A quiet
fails_with_a_fault = (
  question host types.A ∷ [],
  omega arith,
  inr (
    quiet,
    tt,
    inr (record {
      holds = record {
        question = question host types.A;
        leads = record { links = 0; led = here host refl; same_type = refl; same_class = inl refl };
        fails = contains-head (question host types.A) [];
      };
      typed = tt;
    }),
    (refl, refl),
  ),
)

pub fails_without_a_fault_is_excluded : IsReply 0 types.A quiet → ⊥
fails_without_a_fault_is_excluded = no-fault (ttls_of world) root versions (settings_of world) 30 types.A host faults.Quiet

-- ---- response codes

-- no row has the type of a question for all types
abbrev with_code : ResponseCode → Reply
with_code code = Err (net.Dns (dns.ResponseCode code))

pub not_implemented : IsReply 0 types.ANY (with_code NotImp)
not_implemented = (
  [],
  omega arith,
  inr (
    with_code NotImp,
    tt,
    inr (record {
      holds = record {
        question = question host types.ANY;
        leads = record { links = 0; led = here host refl; same_type = refl; same_class = inl refl };
        rows = two.rows;
        stand = stand_two 30 (omega arith);
        refused = refl;
        code_is = refl;
      };
      typed = tt;
    }),
    (refl, refl),
  ),
)

abbrev number_of : ResponseCode → ℕ
number_of NotImp = 4
number_of code = 0

-- the code is that of the zone for a question of this type
the_code : (name : DomainName) (code : ResponseCode) → IsRefused false root versions 30 (question name types.ANY) code → code ≡ NotImp
the_code name code refused =
    refused.code_is ∙ ap (λ (kind : RecordType). (answer (zone_with root refused.rows) (record refused.question { query_type = kind })).code) refused.leads.same_type

pub other_code_is_excluded : (count : ℕ) → IsReply count types.ANY (with_code ServFail) → ⊥
other_code_is_excluded count reply =
    let refused = code-refuses (ttls_of world) root versions (settings_of world) 30 types.ANY count host ServFail reply in
    let clash : ◌≡◌ {A = ℕ} 0 4 = ap number_of (the_code refused.0 ServFail refused.2) in
    omega (arith, clash)
