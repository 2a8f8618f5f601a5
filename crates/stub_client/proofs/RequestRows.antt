-- The definition of requests, computed.
use Rattle.std.specs.Prelude.{◌≡◌, Bool, true, false, [], ◌∷◌, ℕ, codes, Some, None}
use Rattle.std.proofs.Common.{refl}
use Rattle.dns_wire.specs.declared.codes.record_type.RecordType.TheVariants as types
use Rattle.dns_wire.specs.declared.codes.dns_class.DNSClass.TheVariants as classes
use Rattle.dns_messages.specs.Message.{payload_of}
use Rattle.dns_messages.specs.declared.query.Query.{Query}
use Rattle.stub_config.specs.declared.request_options.DnsRequestOptions.{DnsRequestOptions}
use Rattle.stub_client.specs.Request.{request_of}

abbrev asked : Query
asked = record {
  name = record { is_fqdn = true; labels = codes "a" ∷ codes "t" ∷ [] };
  query_type = types.A;
  query_class = classes.IN;
}

abbrev options : Bool → ℕ → Bool → DnsRequestOptions
options use_edns payload recursion_desired = record {
  use_edns = use_edns;
  edns_payload_len = payload;
  edns_set_dnssec_ok = false;
  recursion_desired = recursion_desired;
}

-- without EDNS there is no OPT record, and a reply may have 512 bytes
no_edns : (request_of asked (options false 1232 true)).edns ≡ None
no_edns = refl

plain : payload_of (request_of asked (options false 1232 true)).edns ≡ 512
plain = refl

-- with it, the payload is that of the options, and 512 at the least
usual : payload_of (request_of asked (options true 1232 true)).edns ≡ 1232
usual = refl

least : (request_of asked (options true 100 true)).edns
    ≡ Some (record { rcode_high = 0; version = 0; flags = record { dnssec_ok = false; z = 0 }; max_payload = 512; options = [] })
least = refl

-- RD is that of the options
iterative : (request_of asked (options true 1232 false)).metadata.recursion_desired ≡ false
iterative = refl

one_question : (request_of asked (options true 1232 true)).queries ≡ asked ∷ []
one_question = refl
