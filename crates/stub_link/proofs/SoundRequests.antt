-- The request for a sound question is sound, and short.
use Rattle.std.proofs.Common.{◌≡◌, ◌+◌, ◌≤◌, ◌<◌, ◌^◌, [], ◌∷◌, Bool, true, false, Some, None, refl, arith}
use Rattle.std.specs.Prelude.{IfSome, if◌then◌else◌}
use Rattle.dns_wire.specs.Name.{name_len}
use Rattle.dns_data.specs.declared.rdata.RData.TheVariants as of
use Rattle.dns_data.specs.rdata.{IsSoundData, whole_len}
use Rattle.dns_messages.specs.declared.query.Query.{Query}
use Rattle.dns_messages.specs.declared.response_code.ResponseCode.TheVariants as codes
use Rattle.dns_messages.specs.Cut.{edns_item, items_len, listed, query_item, uncompressed_len}
use Rattle.dns_messages.specs.Edns.{IsSoundEdns, opt_record}
use Rattle.dns_messages.specs.Sound.{IsExtendedBy}
use Rattle.dns_message_bytes.proofs.SizeLaws.{edns-len, query-len}
use Rattle.stub_config.specs.declared.request_options.DnsRequestOptions.{DnsRequestOptions}
use Rattle.stub_client.specs.Request.{edns_if_used, request_edns, request_of}
use Rattle.stub_link.specs.Request.{IsQuestion}
use Rattle.stub_link.specs.SoundQuestion.{IsSoundQuestion}

-- ---- the OPT record

no-options : IsSoundData (of.OPT [])
no-options = record {
  values = (tt, tt);
  fields = refl;
  type_fits = omega arith;
  type_named = refl;
  fits = let none : whole_len (of.OPT []) ≡ 0 = refl in omega (arith, none);
}

module _ (o : DnsRequestOptions) where
  edns-sound : o.edns_payload_len < 2 ^ 16 → IsSoundEdns (request_edns o)
  edns-sound small = record {
    rcode_fits = omega arith;
    version_fits = omega arith;
    z_fits = omega arith;
    payload_least = omega arith;
    payload_fits = omega (arith, small);
    options = no-options;
  }

  used-sound : (used : Bool) → o.edns_payload_len < 2 ^ 16 → IfSome (if used then Some (request_edns o) else None) IsSoundEdns
  used-sound true small = edns-sound small
  used-sound false small = tt

  used-extended : (used : Bool) → IsExtendedBy (if used then Some (request_edns o) else None) codes.NoError
  used-extended true = refl
  used-extended false = omega arith

  used-short : (used : Bool) → items_len edns_item (listed (if used then Some (request_edns o) else None)) ≤ 11
  used-short true =
      let none : whole_len (opt_record (request_edns o)).rdata ≡ 0 = refl in
      omega (arith, edns-len (Some (request_edns o)) (request_edns o) refl, none)
  used-short false = omega arith

-- ---- the request

request-short : (q : Query) (o : DnsRequestOptions) → IsSoundQuestion q → uncompressed_len (request_of q o) ≤ 65535
request-short q o s =
    let whole : uncompressed_len (request_of q o)
    ≡ 12 + (items_len query_item (q ∷ []) + (0 + (0 + (0 + (items_len edns_item (listed (edns_if_used o)) + 0))))) = refl in
    let one : items_len query_item (q ∷ []) ≡ name_len q.name.labels + 4 = omega (arith, query-len q) in
    omega (arith, whole, one, used-short o o.use_edns, s.short)

pub request-asks : (q : Query) (o : DnsRequestOptions) → IsSoundQuestion q → o.edns_payload_len < 2 ^ 16
    → IsQuestion (request_of q o) q
request-asks q o s small = record {
  whole = record {
    sound = record {
      metadata = record { id_fits = omega arith; op_fits = omega arith; op_named = refl; code_fits = omega arith; code_named = refl };
      queries = (s.sound, tt);
      answers = tt;
      authorities = tt;
      additionals = tt;
      edns = used-sound o o.use_edns small;
      extended = used-extended o o.use_edns;
      signature = tt;
    };
    fits = request-short q o s;
  };
  kind = refl;
  op_code = refl;
  only = refl;
}
