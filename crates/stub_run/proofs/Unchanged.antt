-- Where the rows of a zone do not change, questions are answered by it.
use Rattle.std.proofs.Common.{◌≡◌, ℕ, ◌≤◌, ◌+◌, ◌++◌, suc, List, [], ◌∷◌, Ok, Err, false, All, length, refl, sym, ap, subst, ◌∙◌, arith, length-append}
use Rattle.std.proofs.lemmas.List.{append_assoc}
use Rattle.std.proofs.lemmas.List.Elements.{All-cons, All-head, All-nil, All-tail, All-weaker}
use Rattle.dns_names.specs.Name.{DomainName}
use Rattle.dns_records.specs.Rows.{Rows}
use Rattle.dns_messages.specs.declared.message.Message.{Message}
use Rattle.dns_messages.specs.declared.query.Query.{Query}
use Rattle.dns_messages.specs.declared.response.DnsResponse.{DnsResponse}
use Rattle.dns_zone.specs.Rows.{ZoneContent}
use Rattle.stub_config.specs.declared.request_options.DnsRequestOptions.{DnsRequestOptions}
use Rattle.stub_lookup.specs.declared.error.NetError.{NetError}
use Rattle.stub_lookup.specs.declared.error.NetError.TheVariants as net
use Rattle.stub_client.specs.Handle.{Ask, Led, Outcome}
use Rattle.stub_link.specs.AskState.{AskState, AskZone}
use Rattle.stub_link.specs.History.{Past}
use Rattle.stub_link.specs.LinkState.{Version}
use Rattle.stub_laws.specs.history.Answered.{HoldsAnswer, IsAnsweredSince, zone_with}
use Rattle.stub_laws.specs.history.Faithful.{IsCurrent}
use Rattle.stub_laws.specs.history.Stands.{Extends, HoldSince}
use Rattle.stub_laws.specs.walk.Answered.{HaveNoFault, IsAsked, IsZoneOutcome, IsZoneReply}
use Rattle.stub_run.specs.Questions.{AsksZone, IsReplyUnlessMemory}
use Rattle.stub_run.specs.Walked.{IsUnchanged}
use Rattle.stub_run.proofs.SoundQuestionLaws.{led-turn}
use Rattle.stub_run.proofs.ZoneQuestions.{IsNoMeaning, all-answered, no-meanings}

-- ---- lists

all-left : {X : Type 0} (P : X → Type 0) (xs ys : List X) → All P (xs ++ ys) → All P xs
all-left P [] ys h = All-nil P
all-left P (x ∷ xs) ys h = All-cons P x xs (All-head P x (xs ++ ys) h) (all-left P xs ys (All-tail P x (xs ++ ys) h))

all-middle : {X : Type 0} (P : X → Type 0) (xs : List X) (x : X) (ys : List X) → All P (xs ++ x ∷ ys) → P x
all-middle P [] x ys h = All-head P x ys h
all-middle P (y ∷ xs) x ys h = all-middle P xs x ys (All-tail P y (xs ++ x ∷ ys) h)

same-head : (v w : Version) (vs ws : List Version) → ◌≡◌ {A = List Version} (v ∷ vs) (w ∷ ws) → v ≡ w
same-head v w vs ws e = cc

same-tail : (v w : Version) (vs ws : List Version) → ◌≡◌ {A = List Version} (v ∷ vs) (w ∷ ws) → vs ≡ ws
same-tail v w vs ws e = cc

-- ---- versions

module _ (rows : Rows) where
  abbrev Same : Version → Type 0
  Same v = v.rows ≡ rows

  -- a version that is the last of earlier ones, or comes after them
  version-same : (earlier : List Version) (last : Version) (added before : List Version) (v : Version) (after : List Version)
      → earlier ++ last ∷ added ≡ before ++ v ∷ after → length earlier ≤ length before → last.rows ≡ rows → All Same added
      → v.rows ≡ rows
  version-same [] last added [] v after e less same all =
      ap (λ (x : Version). x.rows) (sym (same-head last v added after e)) ∙ same
  version-same [] last added (b ∷ before) v after e less same all =
      all-middle Same before v after (subst (All Same) (same-tail last b added (before ++ v ∷ after) e) all)
  version-same (x ∷ earlier) last added [] v after e less same all = absurd (omega arith)
  version-same (x ∷ earlier) last added (b ∷ before) v after e less same all =
      version-same earlier last added before v after (same-tail x b (earlier ++ last ∷ added) (before ++ v ∷ after) e) (omega arith) same all

-- rows that hold since a past are those of its zone, if this has not changed since
pub since-same : (first : Past) (history : List Version) (moment : ℕ) → IsCurrent first.history moment first.zone.rows
    → Extends first.history history → IsUnchanged first history → (rows : Rows) → HoldSince first.history history rows
    → rows ≡ first.zone.rows
since-same first history moment c added unchanged rows s =
    version-same first.zone.rows c.before last added.0 s.before (record { moment = s.since; rows = rows }) s.after (sym whole ∙ s.split)
    (less (ap (λ (vs : List Version). length vs) c.split) (length-append c.before (last ∷ [])) s.late) refl (unchanged added.0 added.1)
  where
    last : Version
    last = record { moment = c.since; rows = first.zone.rows }

    whole : history ≡ c.before ++ last ∷ added.0
    whole = added.1 ∙ ap (λ (vs : List Version). vs ++ added.0) c.split ∙ append_assoc c.before (last ∷ []) added.0

    less : length first.history ≡ length (c.before ++ last ∷ []) → length (c.before ++ last ∷ []) ≡ length c.before + 1
        → length first.history ≤ suc (length s.before) → length c.before ≤ length s.before
    less a b late = omega (arith, a, b, late)

-- what has not changed by later had not changed before
pub unchanged-before : (first : Past) (history later : List Version) → Extends history later → IsUnchanged first later
    → IsUnchanged first history
unchanged-before first history later more unchanged = λ added is.
    all-left (λ (v : Version). v.rows ≡ first.zone.rows) added more.0
    (unchanged (added ++ more.0)
    (more.1 ∙ ap (λ (vs : List Version). vs ++ more.0) is ∙ append_assoc first.history added more.0))

-- ---- questions

zone-reply : (zone : ZoneContent) (origin : DomainName) (q : Query) (m : Message) → zone.origin ≡ origin → (rows : Rows) → rows ≡ zone.rows
    → HoldsAnswer (zone_with origin rows) q m → IsZoneReply zone q m
zone-reply zone origin q m is rows same h = record {
  repeats = h.queries;
  holds = subst (λ (o : DomainName). HoldsAnswer (zone_with o zone.rows) q m) (sym is)
      (subst (λ (rs : Rows). HoldsAnswer (zone_with origin rs) q m) same h);
}

zone-outcome : (zone : ZoneContent) (q : Query) (outcome : Outcome) → IsNoMeaning outcome
    → ((response : DnsResponse) → outcome ≡ Ok response → IsZoneReply zone q response.message) → IsZoneOutcome zone q outcome
zone-outcome zone q (Ok response) h reply = reply response refl
zone-outcome zone q (Err net.Memory) h reply = tt
zone-outcome zone q (Err (net.Link error)) h reply = tt
zone-outcome zone q (Err (net.Dns error)) h reply = h
zone-outcome zone q (Err (net.Proto error)) h reply = tt
zone-outcome zone q (Err (net.Message text)) h reply = tt
zone-outcome zone q (Err net.Unsupported) h reply = tt

-- questions that are answered by rows that hold are answered by the zone with these rows
answered-by-zone : (zone : ZoneContent) (origin : DomainName) (earlier history : List Version) → zone.origin ≡ origin
    → ((rows : Rows) → HoldSince earlier history rows → rows ≡ zone.rows) → (asks : List Ask)
    → All (λ (ask : Ask). IsNoMeaning ask.outcome) asks → All (IsAnsweredSince origin earlier history) asks → All (IsAsked zone) asks
answered-by-zone zone origin earlier history is same [] none answered = All-nil (IsAsked zone)
answered-by-zone zone origin earlier history is same (ask ∷ asks) none answered =
    All-cons (IsAsked zone) ask asks
    (zone-outcome zone ask.question ask.outcome (All-head (λ (a : Ask). IsNoMeaning a.outcome) ask asks none)
    (λ response ok.
    let held = All-head (IsAnsweredSince origin earlier history) ask asks answered response ok in
    zone-reply zone origin ask.question response.message is held.rows (same held.rows held.since) held.holds))
    (answered-by-zone zone origin earlier history is same asks (All-tail (λ (a : Ask). IsNoMeaning a.outcome) ask asks none)
    (All-tail (IsAnsweredSince origin earlier history) ask asks answered))

-- a response, or want of memory, is no fault
no-fault : (outcome : Outcome) → IsReplyUnlessMemory outcome → (error : NetError) → outcome ≡ Err error → error ≡ net.Memory
no-fault (Ok response) h error e = absurd (let clash : ◌≡◌ {A = Outcome} (Ok response) (Err error) = e in cc)
no-fault (Err net.Memory) h error e = cc
no-fault (Err (net.Link fault)) h error e = absurd h
no-fault (Err (net.Dns fault)) h error e = absurd h
no-fault (Err (net.Proto fault)) h error e = absurd h
no-fault (Err (net.Message text)) h error e = absurd h
no-fault (Err net.Unsupported) h error e = absurd h

module _ (options : DnsRequestOptions) (now : ℕ) (old new : AskState) (asks : List Ask)
    (led : Led (λ old request now outcome new. AsksZone old request now outcome new) options now old asks new)
    (memory : new.link.out_of_memory ≡ false) where
  -- they are questions to the zone's server
  pub led-zone : Led (λ old request now outcome new. AskZone old request now outcome new) options now old asks new
  led-zone =
      led-turn (λ old request now outcome new. AsksZone old request now outcome new)
      (λ old request now outcome new. AskZone old request now outcome new) (λ old request now outcome new h. h.0)
      options now old new asks led

  pub asked-of-zone : (zone : ZoneContent) (origin : DomainName) (earlier history : List Version) → zone.origin ≡ origin
      → ((rows : Rows) → HoldSince earlier history rows → rows ≡ zone.rows) → All (IsAnsweredSince origin earlier history) asks
      → All (IsAsked zone) asks
  asked-of-zone zone origin earlier history is same answered =
      answered-by-zone zone origin earlier history is same asks (no-meanings options now old new asks led memory) answered

  pub none-faulted : new.faults ≡ 0 → HaveNoFault asks
  none-faulted none =
      All-weaker (λ (ask : Ask). IsReplyUnlessMemory ask.outcome)
      (λ (ask : Ask). (error : NetError) → ask.outcome ≡ Err error → error ≡ net.Memory)
      (λ ask h. no-fault ask.outcome h) asks (all-answered options now old new asks led memory none)
