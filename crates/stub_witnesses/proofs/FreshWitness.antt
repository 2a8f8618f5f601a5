-- What `fresh` says of an address that was replaced at 10: 20 seconds later it may be returned for 40 seconds, but after its 60 seconds
-- not at all.
use Rattle.std.proofs.Common.{◌≡◌, ◌≤◌, ◌<◌, ◌⊎◌, ◌∙◌, arith, ℕ, Bool, true, false, cond, List, [], ◌∷◌, Contains, Option, Some, None, Ok, refl, sym, ap, subst, inl, inr}
use Rattle.std.proofs.lemmas.List.Elements.{All-cons, All-contains, All-head, All-nil}
use Rattle.dns_wire.specs.declared.codes.dns_class.DNSClass.{DNSClass}
use Rattle.dns_wire.specs.declared.codes.dns_class.DNSClass.TheVariants as classes
use Rattle.dns_wire.specs.declared.codes.record_type.RecordType.{RecordType}
use Rattle.dns_wire.specs.declared.codes.record_type.RecordType.TheVariants as types
use Rattle.dns_wire.specs.codes.DNSClass.{class_number, class_of}
use Rattle.dns_wire.specs.codes.RecordType.{type_number, type_of}
use Rattle.dns_names.specs.Name.{DomainName}
use Rattle.dns_text.specs.Usage.{is_loopback, is_nonexistent}
use Rattle.dns_data.specs.declared.rdata.RData.{RData}
use Rattle.dns_records.specs.Record.{Record}
use Rattle.dns_records.specs.Rows.{Rows, rows_at}
use Rattle.dns_records.specs.declared.row.Row.{Row}
use Rattle.dns_messages.specs.Response.{has_type}
use Rattle.dns_messages.specs.declared.query.Query.{Query}
use Rattle.dns_messages.specs.declared.response_code.ResponseCode.TheVariants.{NoError, NXDomain}
use Rattle.stub_lookup.specs.Lookup.{lookup_of}
use Rattle.stub_hosts.specs.Hosts.{question, static_lookup}
use Rattle.stub_client.specs.Looks.{Reply}
use Rattle.stub_client.specs.SpecialNames.{in_class, loopback_answer, loopback_data, loopback_record}
use Rattle.stub_client.specs.declared.special_names.SpecialAnswer.{SpecialAnswer}
use Rattle.stub_client.specs.declared.special_names.SpecialAnswer.TheVariants.{Ordinary, Loopback, Nothing}
use Rattle.stub_core.specs.Origins.{IsAnswer}
use Rattle.stub_core.specs.Origins.IsAnswer.{from_question, from_hosts, from_literal}
use Rattle.stub_link.specs.declared.link.script.Script.TheVariants as script
use Rattle.stub_laws.specs.history.Answered.{greatest_ttl}
use Rattle.stub_laws.specs.history.Stands.{IsFresh, IsLoopback}
use Rattle.stub_laws.specs.history.Stands.IsReached.{here}
use Rattle.stub_laws.proofs.StandLaws.{contains-head, contains-none}
use Rattle.stub_run.specs.Headline.{HoldsOfEvents, IsFreshBy, settings_of, ttls_of}
use Rattle.stub_run.specs.declared.event.Action.TheVariants as actions
use Rattle.stub_run.specs.declared.event.Event.{Event}
use Rattle.stub_run.specs.declared.report.EventReply.TheVariants as replies
use Rattle.stub_run.specs.declared.report.EventReport.{EventReport}
use Rattle.stub_witnesses.proofs.VersionsWitness.{address, host, last_octet, occasion, one, past, row, rows_there, stand_one, table_one, table_two, two, versions, which, world}

-- ---- an event, and what `fresh` says of its report

abbrev record_with : ℕ → Record
record_with ttl = record { name = host; dns_class = classes.IN; ttl = ttl; rdata = address 1 }

abbrev found : ℕ → Reply
found ttl = Ok (lookup_of (question host types.A) (record_with ttl ∷ []) 0)

abbrev lookup_at : ℕ → Event
lookup_at at = record { at = at; script = script.Honest; action = actions.Lookup host types.A }

abbrev report_of : Reply → EventReport
report_of reply = record { reply = replies.Lookup reply; faults = 0; questions = 0 }

-- the old address, returned at a moment with a TTL
abbrev IsReturned : ℕ → ℕ → Type 0
IsReturned at ttl =
    HoldsOfEvents (IsFreshBy (ttls_of world)) (settings_of world) past (lookup_at at ∷ []) (report_of (found ttl) ∷ []) (occasion at ∷ [])

-- an answer at 30
abbrev IsFreshAnswer : Record → Type 0
IsFreshAnswer r =
    has_type types.A r ≡ true → IsAnswer (IsFreshBy (ttls_of world) versions) (settings_of world).hosts 30 (types.A ∷ []) (host ∷ []) (host ∷ []) [] r

old_rows : rows_at one.rows host.labels types.A ≡ row 1 ∷ row 2 ∷ []
old_rows = rows_there table_one types.A host host refl

new_rows : rows_at two.rows host.labels types.A ≡ row 3 ∷ row 4 ∷ []
new_rows = rows_there table_two types.A host host refl

-- 20 seconds after it was replaced, for 40 seconds
pub returned_at_30 : IsReturned 30 40
returned_at_30 = (
  λ plain. All-cons IsFreshAnswer (record_with 40) [] (λ typed. from_question host types.A (record_with 40) (contains-head host []) (contains-head types.A []) refl (inl (
    record {
      full = refl;
      moment = 10;
      rows = one.rows;
      row = row 1;
      stand = stand_one 10 (omega arith);
      past = omega arith;
      holds = subst (λ (rows : List Row). Contains rows (row 1)) (sym old_rows) (contains-head (row 1) (row 2 ∷ []));
      same_data = refl;
      lasts = omega arith;
    },
    here host refl,
  ))) (All-nil IsFreshAnswer),
  tt,
)

-- ---- what is not fresh

the_kind : (kind : RecordType) → Contains (types.A ∷ []) kind → types.A ≡ kind
the_kind kind there =
    All-contains (λ (k : RecordType). types.A ≡ k) (types.A ∷ []) kind (All-cons (λ (k : RecordType). types.A ≡ k) types.A [] refl (All-nil (λ (k : RecordType). types.A ≡ k))) there

not_fresh : IsFresh versions 86400 71 (record_with 0) → ⊥
not_fresh fresh = by (which fresh.moment fresh.rows fresh.stand)
  where
    by : ((fresh.rows ≡ one.rows) × (fresh.moment ≤ 10)) ⊎ ((fresh.rows ≡ two.rows) × (10 ≤ fresh.moment)) → ⊥
    by (inl first) =
        let there : Contains (row 1 ∷ row 2 ∷ []) fresh.row =
        subst (λ (rows : List Row). Contains rows fresh.row) (ap (λ (rows : Rows). rows_at rows host.labels types.A) first.0 ∙ old_rows) fresh.holds in
        let short : fresh.row.ttl ≤ 60 =
        All-contains (λ (x : Row). x.ttl ≤ 60) (row 1 ∷ row 2 ∷ []) fresh.row
        (All-cons (λ (x : Row). x.ttl ≤ 60) (row 1) (row 2 ∷ []) (omega arith)
        (All-cons (λ (x : Row). x.ttl ≤ 60) (row 2) [] (omega arith) (All-nil (λ (x : Row). x.ttl ≤ 60)))) there in
        let lasts = fresh.lasts in
        absurd (omega (arith, lasts, short, first.1))
    by (inr second) =
        let there : Contains (row 3 ∷ row 4 ∷ []) fresh.row =
        subst (λ (rows : List Row). Contains rows fresh.row) (ap (λ (rows : Rows). rows_at rows host.labels types.A) second.0 ∙ new_rows) fresh.holds in
        let new : 2 < last_octet fresh.row.rdata =
        All-contains (λ (x : Row). 2 < last_octet x.rdata) (row 3 ∷ row 4 ∷ []) fresh.row
        (All-cons (λ (x : Row). 2 < last_octet x.rdata) (row 3) (row 4 ∷ []) (omega arith)
        (All-cons (λ (x : Row). 2 < last_octet x.rdata) (row 4) [] (omega arith) (All-nil (λ (x : Row). 2 < last_octet x.rdata)))) there in
        let is : last_octet fresh.row.rdata ≡ 1 = ap last_octet fresh.same_data in
        absurd (omega (arith, new, is))

-- a record of the local host is at a name of the local host
in_internet : (c : DNSClass) (a : SpecialAnswer) (r : Record) → in_class c a ≡ Loopback r → a ≡ Loopback r
in_internet classes.IN a r e = e
in_internet classes.CH a r e = absurd (let clash : ◌≡◌ {A = SpecialAnswer} Ordinary (Loopback r) = e in cc)
in_internet classes.HS a r e = absurd (let clash : ◌≡◌ {A = SpecialAnswer} Ordinary (Loopback r) = e in cc)
in_internet classes.NONE a r e = absurd (let clash : ◌≡◌ {A = SpecialAnswer} Ordinary (Loopback r) = e in cc)
in_internet classes.ANY a r e = absurd (let clash : ◌≡◌ {A = SpecialAnswer} Ordinary (Loopback r) = e in cc)
in_internet (classes.OPT n) a r e = absurd (let clash : ◌≡◌ {A = SpecialAnswer} Ordinary (Loopback r) = e in cc)
in_internet (classes.Unknown n) a r e = absurd (let clash : ◌≡◌ {A = SpecialAnswer} Ordinary (Loopback r) = e in cc)

local_name : (name : DomainName) (o : Option RData) (x y : Bool) (r : Record)
    → cond x (loopback_answer name o) (cond y (Nothing NXDomain) Ordinary) ≡ Loopback r → (r.name ≡ name) × (x ≡ true)
local_name name None true y r e = absurd (let clash : ◌≡◌ {A = SpecialAnswer} (Nothing NoError) (Loopback r) = e in cc)
local_name name (Some rdata) true y r e =
    let same : loopback_record name rdata ≡ r = (let both : ◌≡◌ {A = SpecialAnswer} (Loopback (loopback_record name rdata)) (Loopback r) = e in cc) in
    (ap (λ (x : Record). x.name) (sym same), refl)
local_name name o false true r e = absurd (let clash : ◌≡◌ {A = SpecialAnswer} (Nothing NXDomain) (Loopback r) = e in cc)
local_name name o false false r e = absurd (let clash : ◌≡◌ {A = SpecialAnswer} Ordinary (Loopback r) = e in cc)

not_local : (now : ℕ) (from : DomainName) → IsLoopback versions now from (record_with 0) → ⊥
not_local now from local =
    let q : Query = local.question in
    let at = local_name q.name (loopback_data (type_of (type_number q.query_type))) (is_loopback q.name) (is_nonexistent q.name) local.whole
    (in_internet (class_of (class_number q.query_class)) _ local.whole local.special) in
    let name : q.name ≡ host = sym at.0 ∙ ap (λ (r : Record). r.name) (sym local.same) in
    let never : false ≡ true = ap is_loopback (sym name) ∙ at.1 in absurd cc

-- nothing that the world has brings the old address at 71
not_an_answer : IsAnswer (IsFreshBy (ttls_of world) versions) (settings_of world).hosts 71 (types.A ∷ []) (host ∷ []) (host ∷ []) [] (record_with 0) → ⊥
not_an_answer (from_question name kind r named typed has (inl fresh)) = by (the_kind kind typed) fresh.0
  where
    by : types.A ≡ kind → IsFresh versions (greatest_ttl (ttls_of world) kind) 71 (record_with 0) → ⊥
    by same h = not_fresh (subst (λ (k : RecordType). IsFresh versions (greatest_ttl (ttls_of world) k) 71 (record_with 0)) (sym same) h)
not_an_answer (from_question name kind r named typed has (inr local)) = not_local 71 name local
not_an_answer (from_hosts name kind lookup r named typed is there) =
    let same : types.A ≡ kind = the_kind kind typed in
    let never : None ≡ Some lookup = ap (λ (k : RecordType). static_lookup (settings_of world).hosts (question name k) 71) same ∙ is in absurd cc
not_an_answer (from_literal r there) = contains-none r there

-- an answer at 71
abbrev IsLateAnswer : Record → Type 0
IsLateAnswer r =
    has_type types.A r ≡ true → IsAnswer (IsFreshBy (ttls_of world) versions) (settings_of world).hosts 71 (types.A ∷ []) (host ∷ []) (host ∷ []) [] r

-- the greatest moment is 70: at 71 it is returned no longer, not even for no time
pub returned_at_71_is_excluded : IsReturned 71 0 → ⊥
returned_at_71_is_excluded returned = not_an_answer (All-head IsLateAnswer (record_with 0) [] (returned.0 refl) refl)
