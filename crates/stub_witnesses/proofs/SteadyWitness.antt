-- What `steady` says of a zone in which h. has two addresses and nothing changes: a lookup returns both, and not one of them alone,
-- even if the link met a fault.
use Rattle.std.proofs.Common.{◌≡◌, ◌++◌, ◌∙◌, arith, ℕ, true, false, map, get_or, List, [], ◌∷◌, Contains, Ok, refl, sym, ap, subst, inl, inr}
use Rattle.std.proofs.lemmas.List.Elements.{All-cons, All-nil}
use Rattle.dns_wire.specs.declared.codes.dns_class.DNSClass.TheVariants as classes
use Rattle.dns_wire.specs.declared.codes.record_type.RecordType.TheVariants as types
use Rattle.dns_names.specs.Name.{DomainName}
use Rattle.dns_records.specs.Record.{Record}
use Rattle.dns_records.specs.Rows.{Rows, rows_at}
use Rattle.dns_records.specs.declared.row.Row.{Row}
use Rattle.dns_messages.specs.declared.query.Query.{Query}
use Rattle.stub_lookup.specs.Lookup.{lookup_of}
use Rattle.stub_hosts.specs.Hosts.{question}
use Rattle.stub_client.specs.AnswerTypes.{is_asked_or_alias}
use Rattle.stub_client.specs.Looks.{Reply}
use Rattle.stub_core.specs.Resolver.{LooksUp}
use Rattle.stub_laws.specs.answers.Standing.{HasRows, IsLed, IsWholeSet}
use Rattle.stub_laws.specs.answers.Standing.HasRows.{no_more, of_row}
use Rattle.stub_laws.specs.answers.Standing.HaveStood.{as_set}
use Rattle.stub_laws.specs.answers.Standing.IsLed.{here, by_alias, by_service}
use Rattle.stub_laws.specs.answers.Steady.{always}
use Rattle.stub_laws.specs.history.Stands.{AreSame, StandAt}
use Rattle.stub_laws.proofs.StandLaws.{contains-none}
use Rattle.stub_run.specs.Headline.{settings_of, ttls_of}
use Rattle.stub_run.specs.Steady.{AreSteady}
use Rattle.stub_run.specs.Whole.{ByStandingIn}
use Rattle.stub_run.specs.declared.event.Action.TheVariants as actions
use Rattle.stub_run.specs.declared.event.Event.{Event}
use Rattle.stub_run.specs.declared.report.EventReply.TheVariants as replies
use Rattle.stub_run.specs.declared.report.EventReport.{EventReport}
use Rattle.stub_link.specs.LinkState.{Version}
use Rattle.stub_link.specs.declared.link.script.Script.TheVariants as script
use Rattle.stub_core.specs.Origins.{HasNoMinima}
use Rattle.stub_witnesses.proofs.VersionsWitness.{address, data_of_rows, host, is_of_memory, last_octet, no_alias, occasion, one, root, row, rows_there, set_of_two, table_one, world}
use Rattle.stub_witnesses.proofs.WalkedWitness.{unchanged}

-- ---- an event, and what `steady` says of its report

abbrev record_with : ℕ → ℕ → Record
record_with last ttl = record { name = host; dns_class = classes.IN; ttl = ttl; rdata = address last }

abbrev found : List Record → Reply
found records = Ok (lookup_of (question host types.A) records 0)

abbrev event : Event
event = record { at = 30; script = script.Honest; action = actions.Lookup host types.A }

abbrev report_of : Reply → EventReport
report_of reply = record { reply = replies.Lookup reply; faults = 1; questions = 1 }

abbrev IsSteadyRun : Reply → Type 0
IsSteadyRun reply = AreSteady world (event ∷ []) (report_of reply ∷ []) (occasion 30 ∷ [])

abbrev steady : List Version
steady = always one.rows

abbrev IsTyped : Record → Type 0
IsTyped r = is_asked_or_alias (question host types.A) r ≡ true

abbrev both : List Record
both = record_with 1 60 ∷ record_with 2 60 ∷ []

rows_of_host : (owner : DomainName) → AreSame host owner → rows_at one.rows owner.labels types.A ≡ row 1 ∷ row 2 ∷ []
rows_of_host owner same = rows_there table_one types.A host owner same

-- both addresses, for their whole TTL
pub both_are_steady : IsSteadyRun (found both)
both_are_steady = (
  λ same. (
    [],
    omega arith,
    inr (
      found both,
      tt,
      inr (record {
        holds = λ least. as_set both (record {
          owner = host;
          full = refl;
          links = 0;
          led = here host refl;
          moment = 30;
          rows = one.rows;
          stand = record { before = []; since = 0; after = []; split = refl; begun = omega arith; lasts = tt };
          past = omega arith;
          filled = λ none. let never : row 1 ∷ row 2 ∷ [] ≡ [] = sym (rows_of_host host refl) ∙ none in absurd cc;
          set = subst (λ (rows : List Row). HasRows 86400 30 30 host types.A rows both) (sym (rows_of_host host refl))
              (of_row (row 1) 60 (row 2 ∷ []) (record_with 2 60 ∷ []) refl (omega arith) (of_row (row 2) 60 [] [] refl (omega arith) no_more));
        });
        typed = All-cons IsTyped (record_with 1 60) (record_with 2 60 ∷ []) refl (All-cons IsTyped (record_with 2 60) [] refl (All-nil IsTyped));
      }),
      (refl, refl),
    ),
  ),
  tt,
)

-- ---- a reply that is not steady

abbrev first_rows : List Version → Rows
first_rows [] = one.rows
first_rows (version ∷ more) = version.rows

abbrev more_of : List Version → List Version
more_of [] = []
more_of (version ∷ more) = more

not_none : (more : List Version) (version : Version) (after : List Version) → [] ≡ more ++ version ∷ after → ⊥
not_none [] version after e = absurd cc
not_none (v ∷ more) version after e = absurd cc

one_stands : {moment : ℕ} {rows : Rows} → StandAt steady moment rows → rows ≡ one.rows
one_stands {moment} {rows} s = by s.before s.split
  where
    by : (before : List Version) → steady ≡ before ++ record { moment = s.since; rows = rows } ∷ s.after → rows ≡ one.rows
    by [] e = sym (ap first_rows e)
    by (b ∷ before) e = absurd (not_none before _ s.after (ap more_of e))

stays : {now links : ℕ} {name : DomainName} → IsLed false steady now types.A host links name → AreSame host name
stays (here name same) = same
stays (by_alias links owner name moment rows row alias other led s past there is same) =
    absurd (contains-none row (subst (λ (l : List Row). Contains l row)
    (ap (λ (r : Rows). rows_at r owner.labels types.CNAME) (one_stands s) ∙ no_alias table_one owner.labels (omega arith, (omega arith, tt))) there))
stays (by_service links owner name moment rows row service services many led s past there is same) = absurd (omega (arith, services))

-- an address that the zone does not have, beside one that it has
abbrev other_set : List Record
other_set = record_with 1 0 ∷ record_with 3 0 ∷ []

not_other : IsWholeSet false steady 86400 30 types.A host other_set → ⊥
not_other set =
    let has : 1 ∷ 3 ∷ [] ≡ map (λ (x : Row). last_octet x.rdata) (rows_at set.rows set.owner.labels types.A) = data_of_rows set.set (refl, (refl, tt)) in
    let there : rows_at set.rows set.owner.labels types.A ≡ row 1 ∷ row 2 ∷ [] =
    ap (λ (rows : Rows). rows_at rows set.owner.labels types.A) (one_stands set.stand) ∙ rows_of_host set.owner (stays set.led) in
    let e : ◌≡◌ {A = List ℕ} (1 ∷ 3 ∷ []) (1 ∷ 2 ∷ []) = has ∙ ap (map (λ (x : Row). last_octet x.rdata)) there in
    let differ : ◌≡◌ {A = ℕ} 3 2 = ap (λ (l : List ℕ). get_or l 1 0) e in
    omega (arith, differ)

low : HasNoMinima (ttls_of world)
low kind = refl

never_found : (failed : List Query)
    → LooksUp (settings_of world) 30 (ByStandingIn (ttls_of world) root steady (settings_of world) failed 30) (Ok host) types.A tt (found other_set) tt → ⊥
never_found failed (inl out) = let never : false ≡ true = ap is_of_memory out.0 in absurd cc
never_found failed (inr (first, mid, inl out, (same, back))) = let never : false ≡ true = ap is_of_memory (same ∙ out.0) in absurd cc
never_found failed (inr (first, mid, inr stood, (same, back))) =
    let held = subst (λ (r : Reply). ByStandingIn (ttls_of world) root steady (settings_of world) failed 30 tt (question host types.A) r mid) (sym same) stood in
    not_other (set_of_two (held.holds low) refl)

pub other_set_is_excluded : IsSteadyRun (found other_set) → ⊥
other_set_is_excluded run = let reply = run.0 unchanged in never_found reply.0 reply.2
