-- A handle is faithful at first, and as events begin and end.
use Rattle.std.proofs.Common.{◌≡◌, ℕ, ◌≤◌, List, [], Option, None, refl, sym, ◌∙◌, inl, inr, arith}
use Rattle.std.specs.Prelude.{IfSome}
use Rattle.std.proofs.lemmas.List.{append-nil}
use Rattle.std.proofs.lemmas.List.Elements.{All-nil, All-cons}
use Rattle.dns_names.specs.Name.{DomainName}
use Rattle.dns_messages.specs.Sound.{IsSound}
use Rattle.dns_messages.specs.declared.message.Message.{Message}
use Rattle.dns_messages.specs.declared.op_code.OpCode.{OpCode}
use Rattle.dns_messages.specs.declared.op_code.OpCode.TheVariants as ops
use Rattle.dns_messages.specs.declared.query.Query.{Query}
use Rattle.dns_zone.specs.Rows.{IsZone, ZoneContent}
use Rattle.stub_link.specs.declared.link.script.Script.{Script}
use Rattle.stub_link.specs.declared.link.script.Script.TheVariants as script
use Rattle.stub_link.specs.AskState.{AskState, begin, begin_with_update, end, first_asks}
use Rattle.stub_link.specs.LinkState.{LinkState, ServerReply, Version, course_of, end_event}
use Rattle.stub_laws.specs.history.Answered.{zone_with}
use Rattle.stub_laws.specs.history.Faithful.{EachUnderWay, HasHistory, IsFaithful, IsMadeBy, IsSentDatagram, StaysFaithful}
use Rattle.stub_laws.proofs.ReceiveLaws.{Holds, ReplyClaim, Still, end-still}
use Rattle.stub_laws.proofs.ServeLaws.{UpdatesKeepZones, each-push, each-weaker}

-- ---- faithful states, as what holds of the link

pub sent-sound : (sent : List (ℕ × Query)) (m : Message) → IsSentDatagram sent m → m.metadata.op_code ≡ ops.Update → IsSound m
sent-sound sent m (inl q) e = absurd (let clash : ◌≡◌ {A = OpCode} ops.Query ops.Update = sym q.op_code ∙ e in cc)
sent-sound sent m (inr u) e = u.sound

abbrev pub IsSentReply : List (ℕ × Query) → ServerReply → Type 0
IsSentReply sent r = IsSentDatagram sent r.datagram

-- the same as a claim of replies, by a history that goes on after earlier versions
abbrev pub SentReplies : List Version → List (ℕ × Query) → ReplyClaim
SentReplies earlier sent =
    record { earlier = earlier; holds = λ history r. IsSentReply sent r; later = λ history v r held. held }

pub holds-of : (origin : DomainName) (state : AskState) → IsFaithful origin state
    → Holds origin state.link.moment (IsSentDatagram state.sent) (SentReplies state.link.history state.sent) state.link
holds-of origin state f = record {
  history = f.history;
  sent = f.sent;
  added = ([], sym (append-nil state.link.history));
  replied = f.replied;
  at_moment = refl;
}

pub faithful-of : (origin : DomainName) (now : ℕ) (earlier : List Version) (state : AskState)
    → Holds origin now (IsSentDatagram state.sent) (SentReplies earlier state.sent) state.link
    → IsFaithful origin state
faithful-of origin now earlier state h = record { history = h.history; sent = h.sent; replied = h.replied }

-- ---- at first

pub first-faithful : (zone : ZoneContent) (limit : ℕ) (ids : List ℕ) → IsZone zone → IsFaithful zone.origin (first_asks zone limit ids)
first-faithful zone limit ids good = record {
  history = record {
    zone = good;
    origin_is = refl;
    versions = All-cons (λ (v : Version). IsZone (zone_with zone.origin v.rows)) (record { moment = 0; rows = zone.rows }) [] good
        (All-nil (λ (v : Version). IsZone (zone_with zone.origin v.rows)));
    current = record { before = []; since = 0; split = refl; begun = omega arith };
    replies = tt;
  };
  sent = record { datagrams = tt; updates = tt; under_way = tt };
  replied = tt;
}

-- ---- an event begins

none-under-way : (D : Message → Type 0) (s : Script) → EachUnderWay D (course_of s)
none-under-way D script.Honest = tt
none-under-way D (script.Listed events) = tt

history-later : (origin : DomainName) (moment : ℕ) (state : LinkState) → state.moment ≤ moment → HasHistory origin state
    → HasHistory origin (record state { moment = moment })
history-later origin moment state less has = record {
  zone = has.zone;
  origin_is = has.origin_is;
  versions = has.versions;
  current = record {
    before = has.current.before;
    since = has.current.since;
    split = has.current.split;
    begun = omega (arith, has.current.begun);
  };
  replies = each-weaker (IsMadeBy origin state.history state.moment) (IsMadeBy origin state.history moment)
      (λ r made. record { origin_is = made.origin_is; stand = made.stand; past = (let past : r.moment ≤ state.moment = made.past in omega arith) }) state.replies has.replies;
}

module _ (origin : DomainName) (moment : ℕ) (s : Script) (state : AskState) (less : state.link.moment ≤ moment) (f : IsFaithful origin state) where
  later : HasHistory origin (record state.link { moment = moment })
  later = history-later origin moment state.link less f.history

  pub begin-faithful : IsFaithful origin (begin moment s state)
  begin-faithful = record {
    history = record {
      zone = later.zone;
      origin_is = later.origin_is;
      versions = later.versions;
      current = later.current;
      replies = later.replies;
    };
    sent = record {
      datagrams = f.sent.datagrams;
      updates = f.sent.updates;
      under_way = none-under-way (IsSentDatagram state.sent) s;
    };
    replied = f.replied;
  }

  pub begin-update-faithful : IsFaithful origin (begin_with_update moment s state)
  begin-update-faithful = record {
    history = record {
      zone = later.zone;
      origin_is = later.origin_is;
      versions = later.versions;
      current = later.current;
      replies = later.replies;
    };
    sent = record {
      datagrams = f.sent.datagrams;
      updates = each-push (λ (place : Option Message). IfSome place (IsSentDatagram state.sent)) state.link.updates None f.sent.updates tt;
      under_way = none-under-way (IsSentDatagram state.sent) s;
    };
    replied = f.replied;
  }

-- ---- an event ends

pub end-faithful : UpdatesKeepZones → (origin : DomainName) (state : AskState) → IsFaithful origin state → StaysFaithful origin state (end state)
end-faithful keep origin state f =
    let still : Still origin state.link.moment (IsSentDatagram state.sent) (SentReplies state.link.history state.sent) state.link (end_event state.link) =
    end-still keep origin state.link.moment (IsSentDatagram state.sent) (SentReplies state.link.history state.sent) (λ m made has added d. d) (sent-sound state.sent)
    state.link (holds-of origin state f) in
    record {
      faithful = faithful-of origin state.link.moment state.link.history (end state) still.holds;
      moment_is = still.holds.at_moment;
      added = still.holds.added;
      stands = still.stands;
      drawn = [];
      sent_is = sym (append-nil state.sent);
    }
