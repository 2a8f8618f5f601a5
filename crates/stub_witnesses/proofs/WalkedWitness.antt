-- What `walked` says of a zone in which h. has two addresses and nothing changes: a lookup returns both, and not one of them alone.
use Rattle.std.proofs.Common.{◌≡◌, ◌∙◌, arith, ℕ, Bool, true, false, List, [], ◌∷◌, All, Contains, Ok, Err, length, refl, sym, ap, subst, inl, inr}
use Rattle.std.proofs.lemmas.List.Elements.{All-cons, All-nil}
use Rattle.dns_wire.specs.declared.codes.dns_class.DNSClass.TheVariants as classes
use Rattle.dns_wire.specs.declared.codes.record_type.RecordType.TheVariants as types
use Rattle.dns_names.specs.Name.{DomainName}
use Rattle.dns_records.specs.Record.{Record}
use Rattle.dns_records.specs.Rows.{rows_at}
use Rattle.dns_records.specs.declared.row.Row.{Row}
use Rattle.stub_lookup.specs.Lookup.{lookup_of}
use Rattle.stub_lookup.specs.declared.error.NetError.TheVariants as net
use Rattle.stub_hosts.specs.Hosts.{question}
use Rattle.stub_client.specs.Conclusions.{Conclusion, Finds, Lacks, Refuses, values}
use Rattle.stub_client.specs.Looks.{Reply}
use Rattle.stub_core.specs.Resolver.{LooksUp}
use Rattle.stub_link.specs.History.{first_past}
use Rattle.stub_link.specs.LinkState.{Version}
use Rattle.stub_link.specs.declared.link.script.Script.TheVariants as script
use Rattle.stub_laws.specs.history.Stands.{IsLinked}
use Rattle.stub_laws.specs.history.Stands.IsLinked.{no_link, one_link}
use Rattle.stub_laws.specs.walk.Agreement.{Agree, Failed, Found, OutOfMemory, Value}
use Rattle.stub_laws.specs.walk.Walk.{AreShortAt, ByWalk, HasShortAliasesAt, WalksTo}
use Rattle.stub_laws.specs.walk.Walk.Walk.{at_rows}
use Rattle.stub_laws.proofs.AgreementLaws.{looks-up-agree}
use Rattle.stub_laws.proofs.StandLaws.{contains-none}
use Rattle.stub_laws.proofs.WalkLaws.{walk-same}
use Rattle.stub_run.specs.Headline.{settings_of}
use Rattle.stub_run.specs.History.{AreOccasions}
use Rattle.stub_run.specs.Walked.{AreAgreed, AreWalked, HasSentUpdate, IsUnchanged, IsWalkedReply, with_cache_size, with_sizes}
use Rattle.stub_run.specs.declared.event.Action.TheVariants as actions
use Rattle.stub_run.specs.declared.event.Event.{Event}
use Rattle.stub_run.specs.declared.report.EventReply.{EventReply}
use Rattle.stub_run.specs.declared.report.EventReply.TheVariants as replies
use Rattle.stub_run.specs.declared.report.EventReport.{EventReport}
use Rattle.stub_run.proofs.RunsAgree.{runs-agree}
use Rattle.stub_witnesses.proofs.VersionsWitness.{address, host, no_alias, occasion, one, row, rows_there, table_one, world}

-- ---- an event, and what `walked` says of its report

abbrev record_with : ℕ → Record
record_with last = record { name = host; dns_class = classes.IN; ttl = 7; rdata = address last }

abbrev found : List Record → Reply
found records = Ok (lookup_of (question host types.A) records 0)

abbrev event : Event
event = record { at = 30; script = script.Honest; action = actions.Lookup host types.A }

abbrev report_of : Reply → EventReport
report_of reply = record { reply = replies.Lookup reply; faults = 0; questions = 1 }

abbrev IsWalkedRun : Reply → Type 0
IsWalkedRun reply = AreWalked world (event ∷ []) (report_of reply ∷ []) (occasion 30 ∷ [])

-- ---- the walk

rows_of_host : rows_at one.rows host.labels types.A ≡ row 1 ∷ row 2 ∷ []
rows_of_host = rows_there table_one types.A host host refl

walk : WalksTo world.zone (question host types.A) (Finds (values (record_with 1 ∷ record_with 2 ∷ [])))
walk = at_rows 7 host (row 1) (row 2 ∷ []) (record { ordinary = refl; inside = refl }) rows_of_host

-- both addresses
pub both_are_walked : IsWalkedRun (found (record_with 1 ∷ record_with 2 ∷ []))
both_are_walked = (
  λ unchanged short none. record {
    everywhere = λ walks. inr (found (record_with 1 ∷ record_with 2 ∷ []), tt, inr walk, (refl, refl));
    direct = λ typed. inr (found (record_with 1 ∷ record_with 2 ∷ []), tt, inr (λ direct. walk), (refl, refl));
  },
  tt,
)

-- ---- the premises hold

abbrev more_of : List Version → List Version
more_of [] = []
more_of (version ∷ more) = more

pub unchanged : IsUnchanged (first_past world.zone) (first_past world.zone).history
unchanged added e = subst (λ (vs : List Version). All (λ version. version.rows ≡ one.rows) vs) (ap more_of e) (All-nil (λ (version : Version). version.rows ≡ one.rows))

no_links : {links : ℕ} {from to : DomainName} → IsLinked one.rows from links to → links ≡ 0
no_links no_link = refl
no_links (one_link links owner row alias led there is) =
    absurd (contains-none row (subst (λ (rows : List Row). Contains rows row) (no_alias table_one owner.labels (omega arith, (omega arith, tt))) there))

short_at_host : HasShortAliasesAt world.zone host
short_at_host before after first through last to same from =
    let a = no_links to in
    let b = no_links from in
    omega (arith, a, b)

short : AreShortAt world.zone (host ∷ [])
short = All-cons (HasShortAliasesAt world.zone) host [] short_at_host (All-nil (HasShortAliasesAt world.zone))

-- ---- a reply that is not walked

abbrev count_of : Conclusion → ℕ
count_of (Finds records) = length records
count_of (Lacks code) = 0
count_of (Refuses code) = 0

abbrev is_found : Reply → Bool
is_found (Ok lookup) = true
is_found (Err error) = false

not_one : LooksUp (settings_of world) 30 (ByWalk world.zone) (Ok host) types.A tt (found (record_with 1 ∷ [])) tt → ⊥
not_one (inl out) = let never : true ≡ false = ap is_found out.0 in absurd cc
not_one (inr (first, mid, inl out, (same, back))) = let never : true ≡ false = ap is_found (same ∙ out.0) in absurd cc
not_one (inr (first, mid, inr walked, (same, back))) =
    let other : WalksTo world.zone (question host types.A) (Finds (values (record_with 1 ∷ []))) =
    subst (λ (r : Reply). ByWalk world.zone tt (question host types.A) r mid) (sym same) walked in
    let differ : ◌≡◌ {A = ℕ} 2 1 = ap count_of (walk-same world.zone types.A 7 host (Finds (values (record_with 1 ∷ record_with 2 ∷ []))) (Finds (values (record_with 1 ∷ []))) walk other) in
    omega (arith, differ)

-- one address alone
pub one_is_excluded : IsWalkedRun (found (record_with 1 ∷ [])) → ⊥
one_is_excluded walked = not_one ((walked.0 unchanged short refl).everywhere refl)

-- ---- two walked replies agree

abbrev both : Reply
both = found (record_with 1 ∷ record_with 2 ∷ [])

-- the same records at another moment, with other TTLs
abbrev later_record : ℕ → Record
later_record last = record { name = host; dns_class = classes.IN; ttl = 3; rdata = address last }

abbrev both_later : Reply
both_later = found (later_record 1 ∷ later_record 2 ∷ [])

later_walk : WalksTo world.zone (question host types.A) (Finds (values (later_record 1 ∷ later_record 2 ∷ [])))
later_walk = walk

walked_at_30 : IsWalkedReply world.zone (settings_of world) 30 event.action (replies.Lookup both)
walked_at_30 = record {
  everywhere = λ walks. inr (both, tt, inr walk, (refl, refl));
  direct = λ typed. inr (both, tt, inr (λ direct. walk), (refl, refl));
}

-- with a cache that keeps nothing
walked_at_40 : IsWalkedReply world.zone (with_cache_size 0 (settings_of world)) 40 event.action (replies.Lookup both_later)
walked_at_40 = record {
  everywhere = λ walks. inr (both_later, tt, inr later_walk, (refl, refl));
  direct = λ typed. inr (both_later, tt, inr (λ direct. later_walk), (refl, refl));
}

pub both_agree : Agree both both_later
both_agree =
    looks-up-agree world.zone 30 40 (settings_of world) tt tt both both_later tt tt (Ok host) types.A (walked_at_30.everywhere refl)
    (walked_at_40.everywhere refl)

abbrev found_count : Value → ℕ
found_count (Found records) = length records
found_count (Failed failure) = 0
found_count OutOfMemory = 3

-- one address alone does not agree with both
pub one_disagrees : Agree both (found (record_with 1 ∷ [])) → ⊥
one_disagrees (inl out) = let differ : ◌≡◌ {A = ℕ} 2 3 = ap found_count out in omega (arith, differ)
one_disagrees (inr (inl out)) = let differ : ◌≡◌ {A = ℕ} 1 3 = ap found_count out in omega (arith, differ)
one_disagrees (inr (inr same)) = let differ : ◌≡◌ {A = ℕ} 2 1 = ap found_count same in omega (arith, differ)

-- ---- two runs agree

is_occasion : (reply : Reply) → AreOccasions (event ∷ []) (report_of reply ∷ []) (occasion 30 ∷ [])
is_occasion reply = (record { moment = refl; script = refl; update = refl }, tt)

-- the same event over the same zone, with a cache that keeps nothing, other datagrams and other ids
other_walked : AreWalked (with_sizes 0 1232 (9 ∷ []) world) (event ∷ []) (report_of both_later ∷ []) (occasion 30 ∷ [])
other_walked = (
  λ unchanged short none. record {
    everywhere = λ walks. inr (both_later, tt, inr later_walk, (refl, refl));
    direct = λ typed. inr (both_later, tt, inr (λ direct. later_walk), (refl, refl));
  },
  tt,
)

no_update : (reply : Reply) → HasSentUpdate (report_of reply)
no_update reply e = absurd (let clash : ◌≡◌ {A = EventReply} (replies.Lookup reply) (replies.Update (Err net.Memory)) = e in cc)

pub runs_agree : AreAgreed world (event ∷ []) (report_of both ∷ []) (report_of both_later ∷ []) (occasion 30 ∷ [])
runs_agree =
    runs-agree world 0 1232 (9 ∷ []) (event ∷ []) (report_of both ∷ []) (report_of both_later ∷ []) (occasion 30 ∷ []) (occasion 30 ∷ [])
    (is_occasion both) (is_occasion both_later) both_are_walked other_walked (no_update both, tt) (no_update both_later, tt)

pub other_run_is_excluded
    : AreAgreed world (event ∷ []) (report_of both ∷ []) (report_of (found (record_with 1 ∷ [])) ∷ []) (occasion 30 ∷ []) → ⊥
other_run_is_excluded agreed = one_disagrees (agreed.0 unchanged short refl refl refl)
