-- What `whole` says of a set of two addresses that was replaced at 10, and of a name that came then: at 30 the old set may still be
-- returned, but not one old address beside a new one; and the name may be missing up to 31, but not at 32.
use Rattle.std.proofs.Common.{◌≡◌, ◌≤◌, ◌⊎◌, ◌∙◌, arith, ℕ, Bool, true, false, get_or, List, [], ◌∷◌, map, Option, Some, None, Ok, Err, refl, sym, ap, subst, inl, inr, cond}
use Rattle.std.proofs.lemmas.List.Elements.{All-cons, All-nil}
use Rattle.dns_wire.specs.declared.codes.dns_class.DNSClass.TheVariants as classes
use Rattle.dns_wire.specs.declared.codes.record_type.RecordType.TheVariants as types
use Rattle.dns_names.specs.Name.{DomainName}
use Rattle.dns_records.specs.Record.{Record}
use Rattle.dns_records.specs.Rows.{Rows, rows_at}
use Rattle.dns_records.specs.declared.row.Row.{Row}
use Rattle.dns_messages.specs.declared.query.Query.{Query}
use Rattle.dns_messages.specs.declared.response_code.ResponseCode.TheVariants.{NXDomain, NoError}
use Rattle.dns_zone.specs.Answer.{negative_ttl}
use Rattle.stub_lookup.specs.Lookup.{lookup_of}
use Rattle.stub_lookup.specs.declared.error.DnsError.TheVariants as dns
use Rattle.stub_lookup.specs.declared.error.NetError.TheVariants as net
use Rattle.stub_lookup.specs.declared.error.NoRecords.{NoRecords}
use Rattle.stub_hosts.specs.Hosts.{question}
use Rattle.stub_client.specs.AnswerTypes.{is_asked_or_alias}
use Rattle.stub_client.specs.Looks.{Reply}
use Rattle.stub_core.specs.Origins.{HasNoMinima}
use Rattle.stub_core.specs.Resolver.{LooksUp}
use Rattle.stub_laws.specs.answers.Claims.{HasNoNegativeMinima}
use Rattle.stub_laws.specs.answers.Standing.{HasBeenAbsent, HasRows, IsAbsent, IsWholeSet}
use Rattle.stub_laws.specs.answers.Standing.HasBeenAbsent.{as_absence, as_link, as_special}
use Rattle.stub_laws.specs.answers.Standing.HasRows.{no_more, of_row}
use Rattle.stub_laws.specs.answers.Standing.HaveStood.{as_set}
use Rattle.stub_laws.specs.answers.Standing.IsLed.{here}
use Rattle.stub_laws.specs.history.Stands.{AreSame}
use Rattle.stub_run.specs.Headline.{settings_of, ttls_of}
use Rattle.stub_run.specs.Whole.{AreStandingEvents, ByStandingIn}
use Rattle.stub_run.specs.declared.event.Action.TheVariants as actions
use Rattle.stub_run.specs.declared.event.Event.{Event}
use Rattle.stub_run.specs.declared.report.EventReply.TheVariants as replies
use Rattle.stub_run.specs.declared.report.EventReport.{EventReport}
use Rattle.stub_link.specs.declared.link.script.Script.TheVariants as script
use Rattle.stub_witnesses.proofs.VersionsWitness.{address, below_found, data_of_rows, full, host, is_of_memory, last_octet, newcomer, no_alias, occasion, one, past, root, row, rows_there, set_of_two, stand_one, start, stays, table_one, table_two, two, versions, which, world}

-- ---- events, and what `whole` says of their reports

abbrev lookup_at : DomainName → ℕ → Event
lookup_at name at = record { at = at; script = script.Honest; action = actions.Lookup name types.A }

abbrev report_of : Reply → EventReport
report_of reply = record { reply = replies.Lookup reply; faults = 0; questions = 0 }

abbrev IsWhole : DomainName → ℕ → Reply → Type 0
IsWhole name at reply =
    AreStandingEvents (ttls_of world) root (settings_of world) past (lookup_at name at ∷ []) (report_of reply ∷ []) (occasion at ∷ [])

-- the claim on the reply to a question
abbrev Stood : List Query → DomainName → ℕ → Reply → Type 0
Stood failed name at reply = ByStandingIn (ttls_of world) root versions (settings_of world) failed at tt (question name types.A) reply tt

-- a lookup of a fully qualified name is one question
asked : (name : List (List ℕ)) (at : ℕ) (reply : Reply) → Stood [] (full name) at reply → IsWhole (full name) at reply
asked name at reply stood = (([], omega arith, inr (reply, tt, inr stood, (refl, refl))), tt)

answered : (name : List (List ℕ)) (at : ℕ) (reply : Reply) → is_of_memory reply ≡ false → IsWhole (full name) at reply
    → (failed : List Query) × Stood failed (full name) at reply
answered name at reply other ((failed, counted, looks), more) = by looks
  where
    by : LooksUp (settings_of world) at (ByStandingIn (ttls_of world) root versions (settings_of world) failed at) (Ok (full name)) types.A tt reply tt
        → (failed : List Query) × Stood failed (full name) at reply
    by (inl out) = let never : false ≡ true = sym other ∙ ap is_of_memory out.0 in absurd cc
    by (inr (first, mid, inl out, (same, back))) = let never : false ≡ true = sym other ∙ ap is_of_memory (same ∙ out.0) in absurd cc
    by (inr (first, mid, inr stood, (same, back))) = (failed, subst (λ (r : Reply). Stood failed (full name) at r) (sym same) stood)

low : HasNoMinima (ttls_of world)
low kind = refl

short : HasNoNegativeMinima (ttls_of world)
short kind = refl

-- ---- the set of h.

abbrev record_with : ℕ → ℕ → Record
record_with last ttl = record { name = host; dns_class = classes.IN; ttl = ttl; rdata = address last }

abbrev found : List Record → Reply
found records = Ok (lookup_of (question host types.A) records 0)

abbrev IsTyped : Record → Type 0
IsTyped r = is_asked_or_alias (question host types.A) r ≡ true

abbrev old_set : List Record
old_set = record_with 1 40 ∷ record_with 2 40 ∷ []

old_rows : (owner : DomainName) → AreSame host owner → rows_at one.rows owner.labels types.A ≡ row 1 ∷ row 2 ∷ []
old_rows owner same = rows_there table_one types.A host owner same

new_rows : (owner : DomainName) → AreSame host owner → rows_at two.rows owner.labels types.A ≡ row 3 ∷ row 4 ∷ []
new_rows owner same = rows_there table_two types.A host owner same

-- both old addresses, for 40 seconds, 20 seconds after they were replaced
pub old_set_is_whole : IsWhole host 30 (found old_set)
old_set_is_whole = asked host.labels 30 (found old_set) (record {
  holds = λ least. as_set old_set (record {
    owner = host;
    full = refl;
    links = 0;
    led = here host refl;
    moment = 10;
    rows = one.rows;
    stand = stand_one 10 (omega arith);
    past = omega arith;
    filled = λ none. let never : row 1 ∷ row 2 ∷ [] ≡ [] = sym (old_rows host refl) ∙ none in absurd cc;
    set = subst (λ (rows : List Row). HasRows 86400 10 30 host types.A rows old_set) (sym (old_rows host refl))
        (of_row (row 1) 40 (row 2 ∷ []) (record_with 2 40 ∷ []) refl (omega arith) (of_row (row 2) 40 [] [] refl (omega arith) no_more));
  });
  typed = All-cons IsTyped (record_with 1 40) (record_with 2 40 ∷ []) refl (All-cons IsTyped (record_with 2 40) [] refl (All-nil IsTyped));
})

-- ---- a set that is not whole

-- an old address beside a new one
abbrev mixed : List Record
mixed = record_with 1 0 ∷ record_with 3 0 ∷ []

no_mixed_set : IsWholeSet false versions 86400 30 types.A host mixed → ⊥
no_mixed_set set = by (which set.moment set.rows set.stand)
  where
    has : 1 ∷ 3 ∷ [] ≡ map (λ (row : Row). last_octet row.rdata) (rows_at set.rows set.owner.labels types.A)
    has = data_of_rows set.set (refl, (refl, tt))

    with_rows : (rows : List Row) → rows_at set.rows set.owner.labels types.A ≡ rows → 1 ∷ 3 ∷ [] ≡ map (λ (row : Row). last_octet row.rdata) rows
    with_rows rows e = has ∙ ap (map (λ (row : Row). last_octet row.rdata)) e

    by : ((set.rows ≡ one.rows) × (set.moment ≤ 10)) ⊎ ((set.rows ≡ two.rows) × (10 ≤ set.moment)) → ⊥
    by (inl first) =
        let e : ◌≡◌ {A = List ℕ} (1 ∷ 3 ∷ []) (1 ∷ 2 ∷ []) =
        with_rows (row 1 ∷ row 2 ∷ []) (ap (λ (rows : Rows). rows_at rows set.owner.labels types.A) first.0 ∙ old_rows set.owner (stays set.led)) in
        let differ : ◌≡◌ {A = ℕ} 3 2 = ap (λ (l : List ℕ). get_or l 1 0) e in absurd (omega (arith, differ))
    by (inr second) =
        let e : ◌≡◌ {A = List ℕ} (1 ∷ 3 ∷ []) (3 ∷ 4 ∷ []) =
        with_rows (row 3 ∷ row 4 ∷ []) (ap (λ (rows : Rows). rows_at rows set.owner.labels types.A) second.0 ∙ new_rows set.owner (stays set.led)) in
        let differ : ◌≡◌ {A = ℕ} 1 3 = ap (λ (l : List ℕ). get_or l 0 0) e in absurd (omega (arith, differ))

pub mixed_set_is_excluded : IsWhole host 30 (found mixed) → ⊥
mixed_set_is_excluded whole =
    let stood = answered host.labels 30 (found mixed) refl whole in
    no_mixed_set (set_of_two (stood.1.holds low) refl)

-- ---- the name n.

abbrev no_records : ℕ → NoRecords
no_records left = record {
  query = question newcomer types.A;
  soa = Some (record { name = root; dns_class = classes.IN; ttl = 60; rdata = record { mname = root; rname = root; serial = 1; refresh = 4; retry = 3; expire = 2; minimum = 21 } });
  ns = None;
  negative_ttl = Some left;
  response_code = NXDomain;
  authorities = None;
}

abbrev missing : ℕ → Reply
missing left = Err (net.Dns (dns.NoRecordsFound (no_records left)))

-- the name is missing for a second more, 20 seconds after it came
pub missing_at_30 : IsWhole newcomer 30 (missing 1)
missing_at_30 = asked newcomer.labels 30 (missing 1) (record {
  holds = as_absence (record {
    owner = newcomer;
    links = 0;
    led = here newcomer refl;
    moment = 10;
    rows = one.rows;
    stand = stand_one 10 (omega arith);
    past = omega arith;
    recent = omega arith;
    inside = refl;
    no_row = rows_there table_one types.A newcomer newcomer refl;
    no_alias = no_alias table_one newcomer.labels (omega arith, (omega arith, tt));
    code = sym (ap (λ (b : Bool). cond b NoError NXDomain) (below_found table_one newcomer.labels));
    soa_row = start;
    soa_there = rows_there table_one types.SOA root root refl;
    soa = (refl, refl);
    left = 1;
    left_is = refl;
    lasts = λ least. omega arith;
  });
  typed = tt;
})

abbrev negative_time_of : List Row → ℕ
negative_time_of [] = 0
negative_time_of (row ∷ rows) = negative_ttl row.ttl row.rdata

no_absence : (age : ℕ) (answer : NoRecords) → IsAbsent (ttls_of world) false root versions age 32 types.A newcomer answer → ⊥
no_absence age answer absent = by (which absent.moment absent.rows absent.stand)
  where
    by : ((absent.rows ≡ one.rows) × (absent.moment ≤ 10)) ⊎ ((absent.rows ≡ two.rows) × (10 ≤ absent.moment)) → ⊥
    by (inl first) =
        let time : negative_ttl absent.soa_row.ttl absent.soa_row.rdata ≡ 21 =
        ap negative_time_of (sym absent.soa_there ∙ ap (λ (rows : Rows). rows_at rows [] types.SOA) first.0 ∙ rows_there table_one types.SOA root root refl) in
        let lasts = absent.lasts short in
        absurd (omega (arith, lasts, time, first.1))
    by (inr second) =
        let there : rows_at absent.rows absent.owner.labels types.A ≡ row 5 ∷ [] =
        ap (λ (rows : Rows). rows_at rows absent.owner.labels types.A) second.0 ∙ rows_there table_two types.A newcomer absent.owner (stays absent.led) in
        let never : [] ≡ row 5 ∷ [] = sym absent.no_row ∙ there in absurd cc

no_longer_absent : (age : ℕ) (answer : NoRecords) → answer.negative_ttl ≡ Some 0
    → HasBeenAbsent (ttls_of world) false root versions age 32 (question newcomer types.A) answer → ⊥
no_longer_absent age answer some (as_absence absent) = no_absence age answer absent
no_longer_absent age answer some (as_special links p led special none) = let never : ◌≡◌ {A = Option ℕ} (Some 0) None = sym some ∙ none in absurd cc
no_longer_absent age answer some (as_link link code none) = let never : ◌≡◌ {A = Option ℕ} (Some 0) None = sym some ∙ none in absurd cc

-- at 32 it is missing no longer, not even for no time
pub missing_at_32_is_excluded : IsWhole newcomer 32 (missing 0) → ⊥
missing_at_32_is_excluded whole =
    let stood = answered newcomer.labels 32 (missing 0) refl whole in
    no_longer_absent _ (no_records 0) refl stood.1.holds
