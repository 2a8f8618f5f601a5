-- A whole run where w. is an alias of h.: at 30 the server is asked for the addresses of w., at 40 they are found in the cache, and at 50 no id
-- is left to ask for those of n. It meets the premises of the laws of runs.
use Rattle.std.proofs.Common.{◌≡◌, ◌∙◌, arith, ℕ, true, false, List, [], ◌∷◌, Some, Ok, Err, Vec, Global, refl, sym, ap, inl, inr}
use Rattle.dns_wire.specs.declared.codes.dns_class.DNSClass.TheVariants as classes
use Rattle.dns_wire.specs.declared.codes.record_type.RecordType.TheVariants as types
use Rattle.dns_names.specs.Name.{DomainName}
use Rattle.dns_records.specs.Record.{Record}
use Rattle.dns_messages.specs.Cut.{cut}
use Rattle.dns_messages.specs.Grammar.{ReadsMessage}
use Rattle.dns_messages.specs.Sound.{IsSound, IsSoundIn, IsSoundQuery}
use Rattle.dns_messages.specs.declared.message.Message.{Message}
use Rattle.dns_messages.specs.declared.response.DnsResponse.{DnsResponse}
use Rattle.dns_messages.specs.declared.response_code.ResponseCode.TheVariants.{NoError}
use Rattle.dns_messages.proofs.FitLaws.{uncut}
use Rattle.dns_zone.specs.Answer.{after_records, answer, answer_at, answer_by, next_owner, positive, record_of, rest_at}
use Rattle.dns_zone.specs.Serving.{bare_reply, sent_reply}
use Rattle.dns_zone.specs.declared.transport.Transport.TheVariants.{Datagram}
use Rattle.dns_zone.specs.declared.zone.answer.Answer.{Answer}
use Rattle.stub_config.specs.declared.request_options.DnsRequestOptions.{DnsRequestOptions}
use Rattle.stub_lookup.specs.declared.error.LinkFault.TheVariants as faults
use Rattle.stub_lookup.specs.declared.error.NetError.TheVariants as net
use Rattle.stub_cache.specs.Cache.{CacheContent, storing}
use Rattle.stub_hosts.specs.Hosts.{question}
use Rattle.stub_client.specs.Handle.{Ask, Behavior, request_for}
use Rattle.stub_client.specs.Looks.{Looks, Reply, lookup_settings}
use Rattle.stub_client.specs.Request.{request_of}
use Rattle.stub_core.specs.Resolver.{LooksUp, asks_of as asks_of_client, request_options}
use Rattle.stub_core.specs.ResolverBuilder.{empty_cache}
use Rattle.stub_link.specs.Ask.{IsAsked, Ask as AskOne}
use Rattle.stub_link.specs.AskState.{AskState, AskZone, first_asks}
use Rattle.stub_link.specs.History.{Occasion, first_past}
use Rattle.stub_link.specs.Link.{IsResponse, messages}
use Rattle.stub_link.specs.LinkState.{Honest, LinkState, deliver, link_calls, send}
use Rattle.stub_link.specs.Request.{IsQuestion, with_id}
use Rattle.stub_link.specs.Wait.{Wait}
use Rattle.stub_link.specs.declared.link.script.Script.TheVariants as script
use Rattle.stub_laws.specs.history.Faithful.{HasNoReuse}
use Rattle.stub_run.specs.Headline.{settings_of}
use Rattle.stub_run.specs.History.{AreOccasions, MakePasts}
use Rattle.stub_run.specs.Run.{InOrder, RunState, Runs, Step, asks_of, begin_event, end_event}
use Rattle.stub_run.specs.World.{IsFirst}
use Rattle.stub_run.specs.declared.event.Action.TheVariants as actions
use Rattle.stub_run.specs.declared.event.Event.{Event}
use Rattle.stub_run.specs.declared.report.EventReply.TheVariants as replies
use Rattle.stub_run.specs.declared.report.EventReport.{EventReport}
use Rattle.stub_witnesses.proofs.AliasWitness.{addresses, alias, alias_row, aliases, no_addresses, no_alias_at_host, zone}
use Rattle.stub_witnesses.proofs.ChainWitness.{alias_world}
use Rattle.stub_witnesses.proofs.VersionsWitness.{address, host, newcomer, occasion, root, row}

-- ---- the zone's answer

answer_at_host : answer_at 6 zone types.A host ≡ positive host (row 1 ∷ [])
unfolding answer_at
answer_at_host = λ i. answer_by zone host (addresses host refl i) (no_alias_at_host host refl i)
    (λ a. after_records (record_of host a ∷ []) (rest_at (answer_at 5 zone types.A) (next_owner root a.rdata)))

abbrev pub alias_record : Record
alias_record = record_of alias alias_row

abbrev pub address_record : Record
address_record = record_of host (row 1)

abbrev pub the_answer : Answer
the_answer = record { code = NoError; answers = alias_record ∷ address_record ∷ []; authorities = [] }

pub answered : answer zone (question alias types.A) ≡ the_answer
unfolding answer_at
answered =
    (λ i. answer_by zone alias (no_addresses alias refl i) (aliases alias refl i)
    (λ a. after_records (record_of alias a ∷ []) (rest_at (answer_at 6 zone types.A) (next_owner root a.rdata))))
    ∙ ap (after_records (alias_record ∷ [])) answer_at_host

-- ---- the request and its reply

abbrev pub options : DnsRequestOptions
options = request_options (settings_of alias_world).options

abbrev pub request : DomainName → Message
request name = request_of (question name types.A) options

abbrev pub datagram : Message
datagram = with_id 1 (request alias)

query_sound : (name : DomainName) → name.is_fqdn ≡ true → IsSoundQuery (question name types.A)
query_sound name full = record { fqdn = full; type_fits = omega arith; type_named = refl; class_fits = omega arith; class_named = refl }

pub alias_asks : IsQuestion (request alias) (question alias types.A)
alias_asks = record {
  whole = record {
    sound = record {
      metadata = record { id_fits = omega arith; op_fits = omega arith; op_named = refl; code_fits = omega arith; code_named = refl };
      queries = (query_sound alias refl, tt);
      answers = tt;
      authorities = tt;
      additionals = tt;
      edns = record {
        rcode_fits = omega arith;
        version_fits = omega arith;
        z_fits = omega arith;
        payload_least = omega arith;
        payload_fits = omega arith;
        options = record { values = (tt, tt); fields = refl; type_fits = omega arith; type_named = refl; fits = omega arith };
      };
      extended = refl;
      signature = tt;
    };
    fits = omega arith;
  };
  kind = refl;
  op_code = refl;
  only = refl;
}

pub newcomer_asks : IsQuestion (request newcomer) (question newcomer types.A)
newcomer_asks = record {
  whole = record {
    sound = record {
      metadata = record { id_fits = omega arith; op_fits = omega arith; op_named = refl; code_fits = omega arith; code_named = refl };
      queries = (query_sound newcomer refl, tt);
      answers = tt;
      authorities = tt;
      additionals = tt;
      edns = record {
        rcode_fits = omega arith;
        version_fits = omega arith;
        z_fits = omega arith;
        payload_least = omega arith;
        payload_fits = omega arith;
        options = record { values = (tt, tt); fields = refl; type_fits = omega arith; type_named = refl; fits = omega arith };
      };
      extended = refl;
      signature = tt;
    };
    fits = omega arith;
  };
  kind = refl;
  op_code = refl;
  only = refl;
}

abbrev pub reply_with : Answer → Message
reply_with a = record (bare_reply datagram a.code) { queries = question alias types.A ∷ []; answers = a.answers; authorities = a.authorities }

abbrev pub reply_message : Message
reply_message = reply_with the_answer

alias_sound : IsSoundIn false alias_record
alias_sound = record {
  sound = record {
    fqdn = refl;
    class_fits = omega arith;
    class_named = refl;
    ttl_fits = omega arith;
    rdata = record { values = (refl, tt); fields = refl; type_fits = omega arith; type_named = refl; fits = omega arith };
  };
  not_opt = refl;
  not_signature = refl;
  has_data = refl;
}

address_sound : IsSoundIn false address_record
address_sound = record {
  sound = record {
    fqdn = refl;
    class_fits = omega arith;
    class_named = refl;
    ttl_fits = omega arith;
    rdata = record { values = (refl, tt); fields = refl; type_fits = omega arith; type_named = refl; fits = omega arith };
  };
  not_opt = refl;
  not_signature = refl;
  has_data = refl;
}

pub reply_sound : IsSound reply_message
reply_sound = record {
  metadata = record { id_fits = omega arith; op_fits = omega arith; op_named = refl; code_fits = omega arith; code_named = refl };
  queries = (query_sound alias refl, tt);
  answers = (alias_sound, (address_sound, tt));
  authorities = tt;
  additionals = tt;
  edns = record {
    rcode_fits = omega arith;
    version_fits = omega arith;
    z_fits = omega arith;
    payload_least = omega arith;
    payload_fits = omega arith;
    options = record { values = (tt, tt); fields = refl; type_fits = omega arith; type_named = refl; fits = omega arith };
  };
  extended = refl;
  signature = tt;
}

-- the server's reply to the datagram is whole
pub replied : sent_reply zone (Datagram 512) datagram ≡ reply_message
replied = ap (λ (a : Answer). cut 512 (reply_with a)) answered ∙ uncut 512 reply_message reply_sound (omega arith)

-- ---- the run, over a buffer that has the bytes of the reply, from a state whose resolver is as in its world

abbrev pub record_with : ℕ → Record
record_with ttl = record { name = host; dns_class = classes.IN; ttl = ttl; rdata = address 1 }

-- what is left of the reply without the alias
abbrev pub found_message : ℕ → Message
found_message ttl = record reply_message { answers = record_with ttl ∷ [] }

abbrev pub found : ℕ → Reply
found ttl = Ok (record { message = found_message ttl; valid_until = 50 })

abbrev pub no_id : Reply
no_id = Err (net.Link faults.NoId)

abbrev pub lookup_at : DomainName → ℕ → Event
lookup_at name at = record { at = at; script = script.Honest; action = actions.Lookup name types.A }

abbrev pub events : List Event
events = lookup_at alias 30 ∷ lookup_at alias 40 ∷ lookup_at newcomer 50 ∷ []

abbrev pub report_of : Reply → ℕ → ℕ → EventReport
report_of reply count asked = record { reply = replies.Lookup reply; faults = count; questions = asked }

abbrev pub reports : List EventReport
reports = report_of (found 20) 0 1 ∷ report_of (found 10) 0 0 ∷ report_of no_id 1 0 ∷ []

abbrev pub occasions : List Occasion
occasions = occasion 30 ∷ occasion 40 ∷ occasion 50 ∷ []

module _ (buffer : Vec ℕ Global) (reads : ReadsMessage buffer.items reply_message) (base : RunState) where
  abbrev pub state_with : AskState → CacheContent → RunState
  state_with asks cache = record base {
    settings = settings_of alias_world;
    client = record base.client { handle = asks; cache = cache; preserve_intermediates = false };
  }

  abbrev pub empty : CacheContent
  empty = empty_cache alias_world.options

  abbrev pub first : RunState
  first = state_with (first_asks zone 512 (1 ∷ [])) empty

  pub is_first : IsFirst zone 512 (1 ∷ []) alias_world.config alias_world.options alias_world.hosts first
  is_first = record { asks = refl; settings = refl; cache = refl; aliases = refl }

  -- the datagram is sent, and its reply received

  abbrev pub begun_1 : RunState
  begun_1 = begin_event (lookup_at alias 30) first

  abbrev pub sent_link : LinkState
  sent_link = send datagram (asks_of begun_1).link

  abbrev pub received_link : LinkState
  received_link = record (deliver datagram sent_link) { course = Honest [] }

  abbrev pub asks_1 : AskState
  asks_1 = record {
    link = received_link;
    ids = 1 ∷ [];
    sent = (1, question alias types.A) ∷ [];
    dropped = 0;
    faults = 0;
    questions = 1;
  }

  abbrev pub response : DnsResponse
  response = record { message = reply_message; buffer = buffer }

  is_response : IsResponse (sent_reply zone (Datagram 512) datagram) response
  is_response = record { message = sym replied; reads = reads }

  waited : Wait messages link_calls 16 1 (Some (question alias types.A)) sent_link 0 (Ok response) received_link 0
  unfolding Wait
  waited = (
    Ok (Some (sent_reply zone (Datagram 512) datagram)),
    received_link,
    refl,
    inl (record { response = response; decodes = is_response; matching = refl; outcome_is = refl; same = refl; count = refl }),
  )

  is_asked : IsAsked messages link_calls datagram (question alias types.A)
      (record (asks_of begun_1) { sent = (1, question alias types.A) ∷ [] }) (Ok response) asks_1
  is_asked = record {
    datagram = datagram;
    waited = Ok response;
    mid = asks_1;
    sent = record {
      encodes = refl;
      result = Ok tt;
      link = sent_link;
      sends = (refl, refl);
      after = record { link = received_link; dropped = 0; waits = waited; new_is = refl };
    };
    ends = (refl, refl);
  }

  pub asked_once : AskOne messages link_calls (request alias) (asks_of begun_1) (Ok response) asks_1
  asked_once = record {
    uncounted = asks_1;
    asked = inr (record { question = question alias types.A; asks = alias_asks; asked = inr is_asked });
    counted = refl;
  }

  pub asked : AskZone (asks_of begun_1) (request_for (question alias types.A) options) 30 (Ok response) asks_1
  asked = inr asked_once

  -- the first lookup returns the address for as long as the alias

  abbrev pub kept : CacheContent
  kept = storing empty (question alias types.A) (Ok (found_message 20)) 30

  abbrev pub first_ask : Ask
  first_ask = record { question = question alias types.A; outcome = Ok response }

  abbrev pub mid_1 : RunState
  mid_1 = state_with asks_1 kept

  pub first_looks : Looks (lookup_settings begun_1.client options) 30 0 [] empty (question alias types.A) (first_ask ∷ []) (found 20) kept
  first_looks = (refl, refl, refl, inr (refl, inl (refl, refl)))

  abbrev pub gives : Behavior AskState
  gives asks request now outcome after = AskZone asks request now outcome after

  pub first_lookup
      : LooksUp begun_1.settings 30 (asks_of_client gives 30 begun_1) (Ok alias) types.A begun_1.client (found 20) mid_1.client
  first_lookup = inr (
    found 20,
    mid_1.client,
    inr (record { asks = first_ask ∷ []; led = (asks_1, asked, refl); looks = first_looks; few = omega arith; settings = refl }),
    (refl, refl),
  )

  step_1 : Step first (lookup_at alias 30) (report_of (found 20) 0 1) (end_event mid_1)
  step_1 = record {
    mid = mid_1;
    replies = record { lookup = first_lookup; settings = refl };
    ends = refl;
    faults = refl;
    questions = refl;
    memory = refl;
  }

  -- the second one finds it in the cache

  abbrev pub begun_2 : RunState
  begun_2 = begin_event (lookup_at alias 40) (end_event mid_1)

  second_looks : Looks (lookup_settings begun_2.client options) 40 0 [] kept (question alias types.A) [] (found 10) kept
  second_looks = (refl, inr refl, λ memory. tt)

  step_2 : Step (end_event mid_1) (lookup_at alias 40) (report_of (found 10) 0 0) (end_event begun_2)
  step_2 = record {
    mid = begun_2;
    replies = record {
      lookup = inr (
        found 10,
        begun_2.client,
        inr (record { asks = []; led = refl; looks = second_looks; few = omega arith; settings = refl }),
        (refl, refl),
      );
      settings = refl;
    };
    ends = refl;
    faults = refl;
    questions = refl;
    memory = refl;
  }

  -- the third one cannot ask

  abbrev pub begun_3 : RunState
  begun_3 = begin_event (lookup_at newcomer 50) (end_event begun_2)

  abbrev pub asks_3 : AskState
  asks_3 = record (asks_of begun_3) { faults = 1 }

  pub not_asked_once : AskOne messages link_calls (request newcomer) (asks_of begun_3) (Err (net.Link faults.NoId)) asks_3
  not_asked_once = record {
    uncounted = asks_of begun_3;
    asked = inr (record { question = question newcomer types.A; asks = newcomer_asks; asked = (refl, refl) });
    counted = refl;
  }

  abbrev pub last_ask : Ask
  last_ask = record { question = question newcomer types.A; outcome = Err (net.Link faults.NoId) }

  abbrev pub mid_3 : RunState
  mid_3 = state_with asks_3 kept

  last_looks : Looks (lookup_settings begun_3.client options) 50 0 [] kept (question newcomer types.A) (last_ask ∷ []) no_id kept
  last_looks = (refl, refl, refl, inr (refl, refl, refl))

  step_3 : Step (end_event begun_2) (lookup_at newcomer 50) (report_of no_id 1 0) (end_event mid_3)
  step_3 = record {
    mid = mid_3;
    replies = record {
      lookup = inr (
        no_id,
        mid_3.client,
        inr (record { asks = last_ask ∷ []; led = (asks_3, inr not_asked_once, refl); looks = last_looks; few = omega arith; settings = refl }),
        (refl, refl),
      );
      settings = refl;
    };
    ends = refl;
    faults = refl;
    questions = refl;
    memory = refl;
  }

  -- ---- the premises of the laws

  abbrev pub states : List RunState
  states = end_event mid_1 ∷ end_event begun_2 ∷ end_event mid_3 ∷ []

  abbrev pub last : RunState
  last = end_event mid_3

  pub runs : Runs first events reports states last
  runs = (step_1, (step_2, (step_3, refl)))

  pub pasts : MakePasts (first_past zone) states occasions
  pasts = (refl, (refl, (refl, tt)))

  pub once : HasNoReuse (asks_of last).sent
  once = (tt, tt)

pub in_order : InOrder 0 events
in_order = (omega arith, omega arith, (omega arith, omega arith, (omega arith, omega arith, tt)))

pub are_occasions : AreOccasions events reports occasions
are_occasions = (
  record { moment = refl; script = refl; update = refl },
  (record { moment = refl; script = refl; update = refl }, (record { moment = refl; script = refl; update = refl }, tt)),
)
