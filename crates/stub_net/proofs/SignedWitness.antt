-- A run in which two datagrams come: one with a wrong MAC, and one with the right one. An update is sent with the key `k.` and
-- HMAC-MD5 of a secret of four bytes, when the clock reads 0.
use Rattle.std.proofs.Common.{◌≡◌, ◌<◌, ◌≤◌, ◌^◌, ◌-◌, ◌+◌, ◌∙◌, cond, ℕ, List, [], ◌∷◌, ◌++◌, Bool, true, false, length, drop, Some, None, Result, Ok, Err, refl, sym, subst, ap, arith, inr}
use Rattle.std.specs.Global.{Vec, Global}
use Rattle.std.specs.declared.net.socket_addr.SocketAddr.{SocketAddr}
use denote.RawPtr.{null_ptr}
use Rattle.md5.specs.Md5.{block_words, rounds as md5_rounds, compress, hash_after, digest_bytes, md5}
use Rattle.dns_tsig.specs.declared.hmac.algorithm.Algorithm.TheVariants.{Md5}
use Rattle.dns_wire.specs.Reading.{Reads, ReadsName, at_closing, at_label, at_pointer}
use Rattle.dns_messages.specs.Grammar.{ReadsMessage}
use Rattle.dns_messages.specs.Header.{new_metadata, no_counts}
use Rattle.dns_messages.specs.Message.{empty_message}
use Rattle.dns_messages.specs.declared.message.Message.{Message}
use Rattle.dns_messages.specs.declared.message_type.MessageType.TheVariants as kinds
use Rattle.dns_messages.specs.declared.op_code.OpCode.TheVariants as ops
use Rattle.dns_messages.specs.declared.response.DnsResponse.{DnsResponse}
use Rattle.dns_tsig.specs.signer.Refusal.{refusal_of}
use Rattle.dns_tsig.specs.signer.Signer.{AcceptedBytes, Checks, SignsRequest, outcome_by, outcome_of}
use Rattle.dns_tsig.specs.declared.signer.refusal.Refusal.{Refusal}
use Rattle.dns_tsig.specs.declared.signer.refusal.Refusal.TheVariants.{WrongCode}
use Rattle.dns_tsig.specs.Found.{Finds as FindsRecord, IsSignature}
use Rattle.dns_tsig.specs.Judge.{judgement}
use Rattle.dns_tsig.specs.Sign.{code_for}
use Rattle.dns_tsig.specs.Tsig.{tsig_of}
use Rattle.dns_tsig.specs.TsigFields.{TsigFields}
use Rattle.dns_tsig.specs.Verify.{is_key_of}
use Rattle.dns_tsig.specs.declared.client.ReplyVerdict.TheVariants as verdicts
use Rattle.dns_tsig.specs.declared.covered.Coverage.TheVariants.{Variables}
use Rattle.dns_tsig.specs.declared.found.Found.{Found}
use Rattle.dns_tsig.specs.declared.found.Found.TheVariants as found
use Rattle.dns_tsig.specs.declared.found.Signature.{Signature}
use Rattle.dns_tsig.specs.declared.judge.Judgement.{Judgement}
use Rattle.dns_tsig.specs.declared.judge.Judgement.TheVariants as judgements
use Rattle.dns_tsig.specs.declared.key.Key.{Key}
use Rattle.dns_tsig.specs.declared.layout.Layout.TheVariants as layouts
use Rattle.stub_config.specs.declared.config.connection.Protocol.TheVariants.{Udp}
use Rattle.stub_link.specs.Link.{Encodes}
use Rattle.stub_link.specs.declared.link.LinkError.{LinkError}
use Rattle.stub_servers.specs.ServerList.{servers_from}
use Rattle.stub_servers.specs.declared.server.Server.{Server}
use Rattle.stub_net.specs.Exchange.{Exchanges, no_try, plan_runs, server_accepted, try_ends}
use Rattle.stub_net.specs.Request.{Finds}
use Rattle.stub_net.specs.Script.{ReadsClock, Receives, ScriptState, Sends, first_script, in_time, script_calls}
use Rattle.stub_net.specs.Try.{Tries, first_counts}
use Rattle.stub_net.specs.Wait.{Awaits, other_arrives, reply_arrives}
use Rattle.stub_net.specs.declared.network.scripted.NetworkEvent.TheVariants.{Arrival}
use Rattle.stub_net.specs.declared.network.scripted.TimedEvent.{TimedEvent}
use Rattle.stub_net.specs.declared.network.scripted.Transmission.{Transmission}
use Rattle.stub_net.specs.declared.pool.NameServerPool.{NameServerPool}
use Rattle.stub_net.specs.declared.requester.Requester.{Requester}
use Rattle.stub_net.specs.signed.Reply.{BringsReply, EndsWithReply, by_datagram, by_stream}
use Rattle.stub_net.specs.signed.Run.{ClockRead, NetworkStep, Received, Sent, Streamed}
use Rattle.stub_net.specs.signed.Signed.{ReceivesSigned, SendsSigned, count_refusal, over, signed_calls, time_at}
use Rattle.stub_net.specs.declared.signed.network.SignedNetwork.{SignedNetwork}

-- ---- the messages

-- the update has nothing but its header, and so has the answer to it
abbrev update : Message
update = empty_message (new_metadata 7 kinds.Query ops.Update)

abbrev request : List ℕ
request = 0 ∷ 7 ∷ 40 ∷ 0 ∷ 0 ∷ 0 ∷ 0 ∷ 0 ∷ 0 ∷ 0 ∷ 0 ∷ 0 ∷ []

abbrev answer : Message
answer = empty_message (new_metadata 7 kinds.Response ops.Update)

abbrev answer_bytes : List ℕ
answer_bytes = 0 ∷ 7 ∷ 168 ∷ 0 ∷ 0 ∷ 0 ∷ 0 ∷ 0 ∷ 0 ∷ 0 ∷ 0 ∷ 0 ∷ []

-- the MAC of the request, that of the reply, and another one
abbrev request_mac : List ℕ
request_mac = 34 ∷ 18 ∷ 213 ∷ 241 ∷ 252 ∷ 183 ∷ 7 ∷ 52 ∷ 164 ∷ 224 ∷ 142 ∷ 43 ∷ 1 ∷ 28 ∷ 245 ∷ 24 ∷ []

abbrev reply_mac : List ℕ
reply_mac = 174 ∷ 180 ∷ 38 ∷ 158 ∷ 55 ∷ 7 ∷ 102 ∷ 94 ∷ 7 ∷ 174 ∷ 243 ∷ 136 ∷ 249 ∷ 110 ∷ 62 ∷ 235 ∷ []

abbrev forged_mac : List ℕ
forged_mac = 175 ∷ 180 ∷ 38 ∷ 158 ∷ 55 ∷ 7 ∷ 102 ∷ 94 ∷ 7 ∷ 174 ∷ 243 ∷ 136 ∷ 249 ∷ 110 ∷ 62 ∷ 235 ∷ []

abbrev signed : List ℕ
signed = 0 ∷ 7 ∷ 40 ∷ 0 ∷ 0 ∷ 0 ∷ 0 ∷ 0 ∷ 0 ∷ 0 ∷ 0 ∷ 1 ∷ 1 ∷ 107 ∷ 0 ∷ 0 ∷ 250 ∷ 0 ∷ 255 ∷ 0 ∷ 0 ∷ 0 ∷ 0 ∷ 0 ∷ 58 ∷ 8 ∷ 104 ∷ 109 ∷ 97 ∷ 99 ∷ 45 ∷ 109 ∷ 100 ∷ 53 ∷ 7 ∷ 115 ∷ 105 ∷ 103 ∷ 45 ∷ 97 ∷ 108 ∷ 103 ∷ 3 ∷ 114 ∷ 101 ∷ 103 ∷ 3 ∷ 105 ∷ 110 ∷ 116 ∷ 0 ∷ 0 ∷ 0 ∷ 0 ∷ 15 ∷ 66 ∷ 64 ∷ 1 ∷ 44 ∷ 0 ∷ 16 ∷ 34 ∷ 18 ∷ 213 ∷ 241 ∷ 252 ∷ 183 ∷ 7 ∷ 52 ∷ 164 ∷ 224 ∷ 142 ∷ 43 ∷ 1 ∷ 28 ∷ 245 ∷ 24 ∷ 0 ∷ 7 ∷ 0 ∷ 0 ∷ 0 ∷ 0 ∷ []

abbrev reply : List ℕ
reply = 0 ∷ 7 ∷ 168 ∷ 0 ∷ 0 ∷ 0 ∷ 0 ∷ 0 ∷ 0 ∷ 0 ∷ 0 ∷ 1 ∷ 1 ∷ 107 ∷ 0 ∷ 0 ∷ 250 ∷ 0 ∷ 255 ∷ 0 ∷ 0 ∷ 0 ∷ 0 ∷ 0 ∷ 58 ∷ 8 ∷ 104 ∷ 109 ∷ 97 ∷ 99 ∷ 45 ∷ 109 ∷ 100 ∷ 53 ∷ 7 ∷ 115 ∷ 105 ∷ 103 ∷ 45 ∷ 97 ∷ 108 ∷ 103 ∷ 3 ∷ 114 ∷ 101 ∷ 103 ∷ 3 ∷ 105 ∷ 110 ∷ 116 ∷ 0 ∷ 0 ∷ 0 ∷ 0 ∷ 15 ∷ 66 ∷ 64 ∷ 1 ∷ 44 ∷ 0 ∷ 16 ∷ 174 ∷ 180 ∷ 38 ∷ 158 ∷ 55 ∷ 7 ∷ 102 ∷ 94 ∷ 7 ∷ 174 ∷ 243 ∷ 136 ∷ 249 ∷ 110 ∷ 62 ∷ 235 ∷ 0 ∷ 7 ∷ 0 ∷ 0 ∷ 0 ∷ 0 ∷ []

abbrev forged : List ℕ
forged = 0 ∷ 7 ∷ 168 ∷ 0 ∷ 0 ∷ 0 ∷ 0 ∷ 0 ∷ 0 ∷ 0 ∷ 0 ∷ 1 ∷ 1 ∷ 107 ∷ 0 ∷ 0 ∷ 250 ∷ 0 ∷ 255 ∷ 0 ∷ 0 ∷ 0 ∷ 0 ∷ 0 ∷ 58 ∷ 8 ∷ 104 ∷ 109 ∷ 97 ∷ 99 ∷ 45 ∷ 109 ∷ 100 ∷ 53 ∷ 7 ∷ 115 ∷ 105 ∷ 103 ∷ 45 ∷ 97 ∷ 108 ∷ 103 ∷ 3 ∷ 114 ∷ 101 ∷ 103 ∷ 3 ∷ 105 ∷ 110 ∷ 116 ∷ 0 ∷ 0 ∷ 0 ∷ 0 ∷ 15 ∷ 66 ∷ 64 ∷ 1 ∷ 44 ∷ 0 ∷ 16 ∷ 175 ∷ 180 ∷ 38 ∷ 158 ∷ 55 ∷ 7 ∷ 102 ∷ 94 ∷ 7 ∷ 174 ∷ 243 ∷ 136 ∷ 249 ∷ 110 ∷ 62 ∷ 235 ∷ 0 ∷ 7 ∷ 0 ∷ 0 ∷ 0 ∷ 0 ∷ []

header_bytes : (id third fourth : ℕ) → List ℕ
header_bytes id third fourth = 0 ∷ id ∷ third ∷ fourth ∷ 0 ∷ 0 ∷ 0 ∷ 0 ∷ 0 ∷ 0 ∷ 0 ∷ 0 ∷ []

reads_update : ReadsMessage request update
reads_update = record {
  head = record { metadata = update.metadata; counts = no_counts };
  header = record {
    third = 40;
    fourth = 0;
    there = record { ends = refl; within = omega arith; there = refl };
    metadata = refl;
    id_fits = omega arith;
    counts_fit = record { queries = omega arith; answers = omega arith; authorities = omega arith; additionals = omega arith };
  };
  queries_end = 12;
  queries = record { queries = refl; count_is = refl };
  answers_end = 12;
  answers = record { records = refl; count_is = refl; placed = tt };
  authorities_end = 12;
  authorities = record { records = refl; count_is = refl; placed = tt };
  last = [];
  end = 12;
  additionals = record { records = refl; count_is = refl; placed = tt };
  ordinary = refl;
  edns = refl;
  signature = refl;
  metadata = refl;
}

reads_answer : ReadsMessage answer_bytes answer
reads_answer = record {
  head = record { metadata = answer.metadata; counts = no_counts };
  header = record {
    third = 168;
    fourth = 0;
    there = record { ends = refl; within = omega arith; there = refl };
    metadata = refl;
    id_fits = omega arith;
    counts_fit = record { queries = omega arith; answers = omega arith; authorities = omega arith; additionals = omega arith };
  };
  queries_end = 12;
  queries = record { queries = refl; count_is = refl };
  answers_end = 12;
  answers = record { records = refl; count_is = refl; placed = tt };
  authorities_end = 12;
  authorities = record { records = refl; count_is = refl; placed = tt };
  last = [];
  end = 12;
  additionals = record { records = refl; count_is = refl; placed = tt };
  ordinary = refl;
  edns = refl;
  signature = refl;
  metadata = refl;
}

encodes : Encodes update request
encodes = record { form_is = refl; decodes = reads_update; within = omega arith }

-- ---- the signatures

abbrev vec : Global → (items : List ℕ) → length items < 2 ^ 63 → Vec ℕ
vec alloc items short = record { ptr = null_ptr; len = length items; cap = length items; alloc = alloc; items = items; ok = (refl, omega arith); small = short }

abbrev key : Global → Key
key alloc = record { name = record { items = 1 ∷ 107 ∷ 0 ∷ [] }; algorithm = Md5; secret = vec alloc (1 ∷ 2 ∷ 3 ∷ 4 ∷ []) (omega arith); least_mac = 16 }

abbrev fields : List ℕ → TsigFields
fields mac = record {
  algorithm = 8 ∷ 104 ∷ 109 ∷ 97 ∷ 99 ∷ 45 ∷ 109 ∷ 100 ∷ 53 ∷ 7 ∷ 115 ∷ 105 ∷ 103 ∷ 45 ∷ 97 ∷ 108 ∷ 103 ∷ 3 ∷ 114 ∷ 101 ∷ 103 ∷ 3 ∷ 105 ∷ 110 ∷ 116 ∷ 0 ∷ [];
  time = 1000000;
  fudge = 300;
  mac = mac;
  original_id = 7;
  error = 0;
  other = [];
}

abbrev signature : List ℕ → Signature
signature mac = record { place = 12; name = record { items = 1 ∷ 107 ∷ 0 ∷ [] }; tsig = fields mac }

signs : (alloc : Global) → SignsRequest (key alloc) request 1000000 request_mac signed
unfolding block_words md5_rounds compress hash_after digest_bytes md5
signs alloc = record { code_is = refl; message_is = refl }

reply_signature : IsSignature reply (signature reply_mac)
reply_signature = record {
  layout = refl;
  after_header = omega arith;
  within = omega arith;
  end = 15;
  owner = record { labels = (107 ∷ []) ∷ []; reads = at_label {label = 107 ∷ []} refl (omega arith) (at_closing refl); canonical = refl };
  fields = refl;
}

forged_signature : IsSignature forged (signature forged_mac)
forged_signature = record {
  layout = refl;
  after_header = omega arith;
  within = omega arith;
  end = 15;
  owner = record { labels = (107 ∷ []) ∷ []; reads = at_label {label = 107 ∷ []} refl (omega arith) (at_closing refl); canonical = refl };
  fields = refl;
}

accepted : AcceptedBytes
accepted = record { message = answer_bytes; error = None }

reply_checks : (alloc : Global) → Checks (key alloc) request_mac reply 1000000 (Ok (record { message = answer_bytes; error = None }))
unfolding block_words md5_rounds compress hash_after digest_bytes md5
reply_checks alloc = record { record_found = found.Signed (signature reply_mac); finds = reply_signature; outcome_is = refl }

forged_checks : (alloc : Global) → Checks (key alloc) request_mac forged 1000000 (Err WrongCode)
unfolding block_words md5_rounds compress hash_after digest_bytes md5
forged_checks alloc = record { record_found = found.Signed (signature forged_mac); finds = forged_signature; outcome_is = refl }

-- ---- the run

no_message : (m : Message) → ReadsMessage [] m → ⊥
no_message m reads =
    let within : 12 ≤ 0 = reads.header.there.within in
    absurd (omega arith)

module _ (alloc : Global) (address : SocketAddr) {I : Type 0} (ids : I) where
  abbrev response : DnsResponse
  response = record { message = answer; buffer = vec alloc answer_bytes (omega arith) }

  finds_answer : Finds update answer_bytes (Some response)
  finds_answer = (record { message = reads_answer; buffer = refl }, refl)

  -- what comes: the forged reply after three milliseconds, and the other one four milliseconds later
  abbrev first_event : TimedEvent
  first_event = record { delay = 3; event = Arrival forged }

  abbrev second_event : TimedEvent
  second_event = record { delay = 4; event = Arrival reply }

  abbrev transmission : Transmission
  transmission = record { moment = 0; protocol = Udp; server = address; bytes = signed }

  -- the network below: at first, after the request was sent, and after each datagram
  abbrev network : ScriptState
  network = first_script (first_event ∷ second_event ∷ [])

  abbrev asked : ScriptState
  asked = record { clock = 0; script = first_event ∷ second_event ∷ []; sent = transmission ∷ [] }

  abbrev tricked : ScriptState
  tricked = record { clock = 3; script = second_event ∷ []; sent = transmission ∷ [] }

  abbrev answered : ScriptState
  answered = record { clock = 7; script = []; sent = transmission ∷ [] }

  -- the network that signs: at first, with the request signed, and after each datagram
  abbrev unsigned_state : SignedNetwork ScriptState
  unsigned_state = record {
    alloc = alloc;
    network = network;
    signer = record { key = key alloc; code = record { items = [] } };
    base = 1000000;
    refused = 0;
    refusal = None;
    error = None;
  }

  abbrev signed_state : SignedNetwork ScriptState
  signed_state = record unsigned_state { signer = record { key = key alloc; code = record { items = request_mac } } }

  abbrev asked_state : SignedNetwork ScriptState
  asked_state = over asked signed_state

  abbrev tricked_state : SignedNetwork ScriptState
  tricked_state = count_refusal WrongCode (over tricked signed_state)

  abbrev answered_state : SignedNetwork ScriptState
  answered_state = over answered tricked_state

  sends : SendsSigned Sends ReadsClock unsigned_state address request (Ok tt) asked_state
  sends = record {
    signed = Ok signed;
    mid = signed_state;
    signs = record {
      time = 1000000;
      mid = unsigned_state;
      signer = signed_state.signer;
      reads = record { clock = 0; network = network; reads = (refl, refl); time_is = refl; new_is = refl };
      key_is = refl;
      after = signs alloc;
      new_is = refl;
    };
    after = (asked, inr (false, refl, record { takes = (refl, refl); others = refl }), refl);
  }

  -- the forged reply is refused, and an empty datagram is handed on
  receives_forged : ReceivesSigned Receives ReadsClock asked_state 5000 (Ok (Some [])) tricked_state
  receives_forged = record {
    came = Ok (Some forged);
    network = tricked;
    receives_it = record { event = Arrival forged; mid = tricked; takes = in_time first_event (second_event ∷ []) refl (omega arith); result_is = refl; new_is = refl };
    after = record {
      checked = Ok None;
      checks = record {
        time = 1000000;
        mid = over tricked signed_state;
        reads = record { clock = 3; network = tricked; reads = (refl, refl); time_is = refl; new_is = refl };
        after = (WrongCode, forged_checks alloc, refl);
      };
      result_is = refl;
    };
  }

  -- the other one is accepted
  receives_reply : ReceivesSigned Receives ReadsClock tricked_state 5000 (Ok (Some answer_bytes)) answered_state
  receives_reply = record {
    came = Ok (Some reply);
    network = answered;
    receives_it = record { event = Arrival reply; mid = answered; takes = in_time second_event [] refl (omega arith); result_is = refl; new_is = refl };
    after = record {
      checked = Ok (Some answer_bytes);
      checks = record {
        time = 1000000;
        mid = answered_state;
        reads = record { clock = 7; network = answered; reads = (refl, refl); time_is = refl; new_is = refl };
        after = (None, reply_checks alloc, refl);
      };
      result_is = refl;
    };
  }

  awaits : Awaits (signed_calls script_calls) update 5000 (2 ^ 64 - 1) asked_state 0 (Ok response) answered_state 1
  awaits = other_arrives (2 ^ 64 - 1) asked_state 0 [] tricked_state (Ok response) answered_state 1 (omega arith) receives_forged (λ m reads. absurd (no_message m reads))
      (reply_arrives (2 ^ 64 - 2) tricked_state 1 answer_bytes response answered_state (omega arith) receives_reply finds_answer)

  -- ---- the exchange

  abbrev server : Server
  server = record { udp = Some address; tcp = None; trust_negative_responses = true }

  abbrev requester : Requester (SignedNetwork ScriptState)
  requester = record { alloc = alloc; network = unsigned_state; timeout = 5000; streams_alone = false; counts = first_counts }

  abbrev pool : NameServerPool (SignedNetwork ScriptState) I
  pool = record { alloc = alloc; requester = requester; ids = ids; servers = servers_from (server ∷ []) false; attempts = 1 }

  -- one datagram was sent, and one was dropped
  abbrev requester_after : Requester (SignedNetwork ScriptState)
  requester_after = record requester { network = answered_state; counts = record first_counts { datagrams = 1; dropped = 1 } }

  abbrev pool_after : NameServerPool (SignedNetwork ScriptState) I
  pool_after = record pool { requester = requester_after }

  tries : Tries (signed_calls script_calls) update request server requester (Ok response) requester_after
  tries = record {
    waited = Ok response;
    mid = requester_after;
    sent = record {
      result = Ok tt;
      network = asked_state;
      sends = sends;
      after = record {
        deadline = 5000;
        mid = record requester { network = asked_state; counts = record first_counts { datagrams = 1 } };
        network = answered_state;
        dropped = 1;
        reads = record { start = 0; after = asked_state; reads = record { network = asked; reads = (refl, refl); new_is = refl }; deadline_is = refl; new_is = refl };
        awaits = awaits;
        new_is = refl;
      };
    };
    ends = (refl, refl);
  }

  pub exchange : Exchanges (signed_calls script_calls) update pool (Ok response) pool_after
  exchange = plan_runs request 0 unsigned_state (Ok response) pool_after encodes (record { network = network; reads = (refl, refl); new_is = refl })
      (try_ends 0 [] no_try pool (Ok response) pool_after (server_accepted (Ok response) requester_after tries refl))

-- ---- the run that ends with the forged reply

-- the owner of the TSIG record ends after three bytes
root_end : {labels : List (List ℕ)} {end : ℕ} → Reads forged 14 12 253 labels end → end ≡ 15
root_end (at_closing e) = refl
root_end (at_label e room r) = absurd (cc)
root_end (at_pointer e back r) = absurd (cc)

owner_end : {labels : List (List ℕ)} {end : ℕ} → Reads forged 12 12 255 labels end → end ≡ 15
owner_end (at_closing e) = absurd (cc)
owner_end {end = end} (at_label {label = label} {labels = labels} e room r) =
    let label_is : label ≡ 107 ∷ [] = cc in
    root_end (subst (λ (l : List ℕ). Reads forged (12 + (length l + 1)) 12 (255 - (length l + 1)) labels end) label_is r)
owner_end (at_pointer e back r) = absurd (cc)

-- the TSIG record of the forged reply
forged_place : (s : Signature) → IsSignature forged s → s.place ≡ 12
forged_place s i = let e : layouts.Signed 12 ≡ layouts.Signed s.place = i.layout in cc

forged_fields : (s : Signature) → IsSignature forged s → s.tsig ≡ fields forged_mac
forged_fields s i =
    let at_place : ReadsName forged 12 i.owner.labels i.end = subst (λ (p : ℕ). ReadsName forged p i.owner.labels i.end) (forged_place s i) i.owner.reads in
    let e : Some (fields forged_mac) ≡ Some s.tsig = subst (λ (n : ℕ). tsig_of (drop n forged) ≡ Some s.tsig) (owner_end at_place) i.fields in
    cc

-- its MAC is not that of the reply
is_refused : (alloc : Global) (now : ℕ) → judgement (key alloc) request_mac forged 12 (fields forged_mac) Variables now ≡ judgements.BadSig
unfolding block_words md5_rounds compress hash_after digest_bytes md5
is_refused alloc now = refl

refuses : (b : Bool) (s : Signature) (a : AcceptedBytes) (outcome : Result AcceptedBytes Refusal) → outcome ≡ Ok a
    → outcome ≡ outcome_by (refusal_of (cond b (verdicts.Judged judgements.BadSig) verdicts.OtherKey) s.tsig) forged s → ⊥
refuses true s a outcome e f = absurd (cc)
refuses false s a outcome e f = absurd (cc)

by_signature : (alloc : Global) (now : ℕ) (s : Signature) (a : AcceptedBytes) (outcome : Result AcceptedBytes Refusal) → IsSignature forged s → outcome ≡ Ok a
    → outcome ≡ outcome_of (key alloc) request_mac forged now (found.Signed s) → ⊥
by_signature alloc now s a outcome i e f =
    let judged_so : judgement (key alloc) request_mac forged s.place s.tsig Variables now ≡ judgements.BadSig =
    ap (λ (p : ℕ). judgement (key alloc) request_mac forged p s.tsig Variables now) (forged_place s i)
    ∙ ap (λ (t : TsigFields). judgement (key alloc) request_mac forged 12 t Variables now) (forged_fields s i)
    ∙ is_refused alloc now in
    refuses (is_key_of (key alloc) s) s a outcome e
    (f ∙ ap (λ (j : Judgement). outcome_by (refusal_of (cond (is_key_of (key alloc) s) (verdicts.Judged j) verdicts.OtherKey) s.tsig) forged s) judged_so)

abbrev accepting : AcceptedBytes → Result AcceptedBytes Refusal
accepting a = Ok a

not_accepted : (alloc : Global) (now : ℕ) (a : AcceptedBytes) → Checks (key alloc) request_mac forged now (Ok a) → ⊥
not_accepted alloc now a c = by_found c.record_found c.finds c.outcome_is
  where
    by_found : (f : Found) → FindsRecord forged f → accepting a ≡ outcome_of (key alloc) request_mac forged now f → ⊥
    by_found found.Unsigned finds e = absurd (cc)
    by_found found.Malformed finds e = absurd (cc)
    by_found (found.Signed s) finds e = by_signature alloc now s a (accepting a) finds refl e

-- ---- which request and which reply a run ends with

-- what the run with the forged reply leaves to choose: nothing
record IsForgedRun (signed_at : ℕ) (request reply : List ℕ) : Type 0 where
  signed_at_is : signed_at ≡ 0
  request_is : request ≡ signed
  reply_is : reply ≡ forged

-- no run is empty once something was added
never_empty : (run : List NetworkStep) (step : NetworkStep) (more : List NetworkStep) → [] ≡ (run ++ step ∷ []) ++ more → ⊥
never_empty [] step more e = absurd (cc)
never_empty (first ∷ run) step more e = absurd (cc)

module _ (address : SocketAddr) where
  -- the exchange begins, the request is signed and sent, the wait begins, and the forged reply comes and is checked
  abbrev forged_run : List NetworkStep
  forged_run =
      ClockRead 0 ∷ ClockRead 0 ∷ Sent address signed (Ok tt) ∷ ClockRead 0 ∷ Received 5000 (Ok (Some forged)) ∷ ClockRead 3 ∷ []

  in_wait : (wait : List NetworkStep) (deadline : ℕ) (reply : List ℕ) (more : List NetworkStep)
      → ClockRead 0 ∷ Received 5000 (Ok (Some forged)) ∷ ClockRead 3 ∷ [] ≡ (wait ++ Received deadline (Ok (Some reply)) ∷ []) ++ more → reply ≡ forged
  in_wait [] deadline reply more e = absurd (cc)
  in_wait (a ∷ []) deadline reply more e = cc
  in_wait (a ∷ b ∷ []) deadline reply more e = absurd (cc)
  in_wait (a ∷ b ∷ c ∷ wait) deadline reply more e =
      let rest : [] ≡ (wait ++ Received deadline (Ok (Some reply)) ∷ []) ++ more = cc in
      absurd (never_empty wait (Received deadline (Ok (Some reply))) more rest)

  at_send : (server : SocketAddr) (request reply : List ℕ) (exchange : List NetworkStep) (signed_at : ℕ) (more : List NetworkStep) → BringsReply server request reply exchange
      → ClockRead 0 ∷ Sent address signed (Ok tt) ∷ ClockRead 0 ∷ Received 5000 (Ok (Some forged)) ∷ ClockRead 3 ∷ [] ≡ ClockRead signed_at ∷ exchange ++ more → IsForgedRun signed_at request reply
  at_send server request reply exchange signed_at more (by_datagram wait deadline w) e = record {
    signed_at_is = cc;
    request_is = cc;
    reply_is = in_wait wait deadline reply more (cc);
  }
  at_send server request reply exchange signed_at more (by_stream deadline) e = absurd (cc)

  not_at : (server : SocketAddr) (request reply : List ℕ) (exchange : List NetworkStep) (first : NetworkStep) (rest more : List NetworkStep) → BringsReply server request reply exchange
      → ((bytes : List ℕ) (result : Result (Unit {0}) LinkError) → first ≡ Sent server bytes result → ⊥) → ((bytes : List ℕ) (deadline : ℕ) (result : Result (List ℕ) LinkError) → first ≡ Streamed server bytes deadline result → ⊥)
      → first ∷ rest ≡ exchange ++ more → ⊥
  not_at server request reply exchange first rest more (by_datagram wait deadline w) sent streamed e = sent request (Ok tt) (cc)
  not_at server request reply exchange first rest more (by_stream deadline) sent streamed e = streamed request deadline (Ok reply) (cc)

  not_empty : (server : SocketAddr) (request reply : List ℕ) (exchange more : List NetworkStep) → BringsReply server request reply exchange → [] ≡ exchange ++ more → ⊥
  not_empty server request reply exchange more (by_datagram wait deadline w) e = absurd (cc)
  not_empty server request reply exchange more (by_stream deadline) e = absurd (cc)

  forged_ends : (before : List NetworkStep) (server : SocketAddr) (request reply : List ℕ) (exchange : List NetworkStep) (signed_at : ℕ) (more : List NetworkStep) → BringsReply server request reply exchange
      → forged_run ≡ before ++ (ClockRead signed_at ∷ exchange ++ more) → IsForgedRun signed_at request reply
  forged_ends [] server request reply exchange signed_at more b e =
      absurd (not_at server request reply exchange (ClockRead 0) (Sent address signed (Ok tt) ∷ ClockRead 0 ∷ Received 5000 (Ok (Some forged)) ∷ ClockRead 3 ∷ []) more b (λ bytes result i. absurd (cc)) (λ bytes deadline result i. absurd (cc)) (cc))
  forged_ends (s ∷ []) server request reply exchange signed_at more b e = at_send server request reply exchange signed_at more b (cc)
  forged_ends (s ∷ t ∷ []) server request reply exchange signed_at more b e = absurd (cc)
  forged_ends (s ∷ t ∷ u ∷ []) server request reply exchange signed_at more b e =
      absurd (not_at server request reply exchange (Received 5000 (Ok (Some forged))) (ClockRead 3 ∷ []) more b (λ bytes result i. absurd (cc)) (λ bytes deadline result i. absurd (cc)) (cc))
  forged_ends (s ∷ t ∷ u ∷ v ∷ []) server request reply exchange signed_at more b e = absurd (cc)
  forged_ends (s ∷ t ∷ u ∷ v ∷ w ∷ []) server request reply exchange signed_at more b e = absurd (not_empty server request reply exchange more b (cc))
  forged_ends (s ∷ t ∷ u ∷ v ∷ w ∷ x ∷ []) server request reply exchange signed_at more b e = absurd (cc)
  forged_ends (s ∷ t ∷ u ∷ v ∷ w ∷ x ∷ y ∷ before) server request reply exchange signed_at more b e = absurd (cc)

  -- No message is the reply with which this run ends: the record excludes the forged one, whose MAC is another one.
  pub forged_reply_is_excluded : (alloc : Global) (message : List ℕ) → EndsWithReply (key alloc) 1000000 request forged_run message → ⊥
  forged_reply_is_excluded alloc message e =
      let shape : IsForgedRun e.signed_at e.signed e.reply = forged_ends e.before e.server e.signed e.reply e.exchange e.signed_at (ClockRead e.checked_at ∷ e.after) e.brings e.run_is in
      let code_is : e.code ≡ request_mac = e.signs.code_is
      ∙ ap (λ (t : ℕ). code_for (key alloc) [] request Variables (time_at 1000000 t) 300 0 []) shape.signed_at_is
      ∙ sym (signs alloc).code_is in
      let now : ℕ = time_at 1000000 e.checked_at in
      let outcome : Result AcceptedBytes Refusal = Ok (record { message = message; error = e.accepted.error }) in
      let c : Checks (key alloc) e.code forged now outcome = subst (λ (b : List ℕ). Checks (key alloc) e.code b now outcome) shape.reply_is e.accepted.checks in
      not_accepted alloc now (record { message = message; error = e.accepted.error }) (subst (λ (b : List ℕ). Checks (key alloc) b forged now outcome) code_is c)
