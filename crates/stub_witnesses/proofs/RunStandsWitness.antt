-- What the laws of lookups of a resolver say of the first lookup of the run in which w. is an alias of h.: what is kept and what is returned
-- stood, has a source, and is that of a walk.
use Rattle.std.proofs.Common.{◌≡◌, arith, ℕ, false, true, All, List, [], ◌∷◌, Ok, Vec, Global, refl}
use Rattle.std.proofs.lemmas.List.Elements.{All-cons, All-nil}
use Rattle.dns_wire.specs.codes.RecordType.{type_number, type_of}
use Rattle.dns_wire.specs.declared.codes.record_type.RecordType.TheVariants as types
use Rattle.dns_messages.specs.Grammar.{ReadsMessage}
use Rattle.dns_records.specs.Record.{Record}
use Rattle.dns_messages.specs.Response.{has_type}
use Rattle.dns_messages.specs.declared.query.Query.{Query}
use Rattle.dns_messages.specs.declared.response.DnsResponse.{DnsResponse}
use Rattle.dns_zone.proofs.AnswerLaws.{answers_chain}
use Rattle.stub_lookup.specs.declared.error.NetError.{NetError}
use Rattle.stub_lookup.specs.declared.error.NoRecords.{NoRecords}
use Rattle.stub_cache.specs.Ttl.{TtlConfigContent}
use Rattle.stub_hosts.specs.Hosts.{question}
use Rattle.stub_client.specs.Handle.{Ask}
use Rattle.stub_client.specs.Looks.{lookup_settings}
use Rattle.stub_client.specs.Step.{meaning}
use Rattle.stub_client.specs.declared.caching_client.step.LookupSettings.{LookupSettings}
use Rattle.stub_core.specs.Origins.{HasNoMinima, names_of}
use Rattle.stub_core.specs.Resolver.{LooksUp, request_options}
use Rattle.stub_link.specs.LinkState.{Version}
use Rattle.stub_laws.specs.answers.Claims.{BearOut, HasNoNegativeMinima, HoldOfCache, HoldOfEntry, HoldOfReply, longest_of}
use Rattle.stub_laws.specs.answers.Failing.{FailsIndeed, failed_questions}
use Rattle.stub_laws.specs.answers.Lookups.{Stands}
use Rattle.stub_laws.specs.answers.Sources.{CacheHasSources, EachReceived, EntryHasSources, EntryIsRecent, IsRowNow, KeepsSources}
use Rattle.stub_laws.specs.answers.Standing.{FindsWhole, IsDeep, LacksIndeed, MissesIndeed}
use Rattle.stub_laws.specs.answers.Steady.{always}
use Rattle.stub_laws.specs.history.Answered.{HoldsAnswerAt, IsAnsweredBy, zone_with}
use Rattle.stub_laws.specs.walk.Answered.{ComesToWalk, IsWalkedLookup}
use Rattle.stub_laws.specs.walk.Walk.{AreShortAt}
use Rattle.stub_laws.proofs.AnswersResolverLaws.{name-keeps, none-kept}
use Rattle.stub_laws.proofs.AnswersStepLaws.{ask-bears}
use Rattle.stub_laws.proofs.ClaimLaws.{lookup-keeps, own-least}
use Rattle.stub_laws.proofs.FreshLaws.{meant}
use Rattle.stub_laws.proofs.ReceivedLaws.{received-rows}
use Rattle.stub_laws.proofs.RecentLaws.{recent-keep}
use Rattle.stub_laws.proofs.ResolverLaws.{name-walks}
use Rattle.stub_laws.proofs.SourcesLaws.{name-has-sources, sources-keep, sources-later}
use Rattle.stub_laws.proofs.StandingLaws.{deep-first, finds-outlast, lacks-outlast, special-hold}
use Rattle.stub_run.specs.Headline.{settings_of, ttls_of}
use Rattle.stub_run.specs.Run.{RunState}
use Rattle.stub_witnesses.proofs.AliasWitness.{alias, is_zone, zone}
use Rattle.stub_witnesses.proofs.ChainWitness.{alias_world}
use Rattle.stub_witnesses.proofs.RunClaimsWitness.{answered_by, zones}
use Rattle.stub_witnesses.proofs.RunWitness.{begun_1, empty, first_ask, first_looks, first_lookup, found, gives, kept, mid_1, options, reply_message}
use Rattle.stub_witnesses.proofs.VersionsWitness.{root}

abbrev versions : List Version
versions = always zone.rows

abbrev config : TtlConfigContent
config = ttls_of alias_world

abbrev q : Query
q = question alias types.A

abbrev pub Finds : Query → ℕ → List Record → Type 0
Finds p at records = FindsWhole config false versions p at records

abbrev pub Misses : Query → ℕ → NoRecords → Type 0
Misses p at answer = MissesIndeed config false root versions p at answer

abbrev Lacks : Query → ℕ → NoRecords → Type 0
Lacks p at answer = LacksIndeed config false root versions p at answer

abbrev Fails : Query → ℕ → NetError → Type 0
Fails p at error = FailsIndeed false root options versions [] p at error

abbrev Deep : ℕ → Query → Type 0
Deep depth p = IsDeep false versions 30 depth p

module _ (buffer : Vec ℕ Global) (reads : ReadsMessage buffer.items reply_message) (base : RunState) where
  abbrev ask : Ask
  ask = first_ask buffer reads base

  abbrev settings : LookupSettings
  settings = lookup_settings (begun_1 buffer reads base).client options

  -- ---- answers_that_stood_bear_out

  pub bears_out : BearOut Finds Misses Lacks Fails Deep settings config 30 ask
  bears_out = ask-bears answers_chain root options versions [] zones config settings 30 ask (answered_by buffer reads base) tt

  -- ---- every_lookup_keeps_whole_answers

  pub keeps_whole
      : HoldOfCache (HasNoMinima config) (HasNoNegativeMinima config) (longest_of config) Finds Misses 30 (kept buffer reads base)
      × HoldOfReply Finds Lacks Fails q 30 (found 20)
  keeps_whole =
      lookup-keeps (HasNoMinima config) (HasNoNegativeMinima config) (longest_of config) Finds Misses Lacks Fails Deep (finds-outlast config false versions)
      (lacks-outlast config false root versions) (special-hold config false root versions) settings 30 0 [] (empty buffer reads base) q (ask ∷ []) (found 20)
      (kept buffer reads base) (own-least config) (none-kept settings q) (deep-first false versions 30 q)
      (All-nil (HoldOfEntry (HasNoMinima config) (HasNoNegativeMinima config) (longest_of config) Finds Misses 30))
      (All-cons (BearOut Finds Misses Lacks Fails Deep settings config 30) ask [] bears_out
      (All-nil (BearOut Finds Misses Lacks Fails Deep settings config 30))) (first_looks buffer reads base)

  -- ---- answers_that_stood_are_rows

  pub receives_rows : EachReceived (IsRowNow versions 30) (ask ∷ [])
  receives_rows =
      received-rows answers_chain root versions zones 30 (ask ∷ [])
      (All-cons (λ (a : Ask). IsAnsweredBy root versions (record { moment = 30; ask = a })) ask [] (answered_by buffer reads base)
      (All-nil (λ (a : Ask). IsAnsweredBy root versions (record { moment = 30; ask = a }))))

  -- ---- every_answer_has_a_source

  pub resolver_has_sources
      : KeepsSources root versions (gives buffer reads base) 30 (begun_1 buffer reads base) (mid_1 buffer reads base)
      (λ asks. LooksUp (begun_1 buffer reads base).settings 30 asks (Ok alias) types.A tt (found 20) tt)
  resolver_has_sources =
      name-has-sources answers_chain root versions (gives buffer reads base) 30 (begun_1 buffer reads base) (mid_1 buffer reads base) (Ok alias) types.A
      (found 20) (first_lookup buffer reads base)

  -- ---- caches_keep_sources

  held : All (λ (a : Ask). (response : DnsResponse) → meaning a.outcome ≡ Ok response → HoldsAnswerAt root versions 30 a.question response.message) (ask ∷ [])
  held =
      All-cons (λ (a : Ask). (response : DnsResponse) → meaning a.outcome ≡ Ok response → HoldsAnswerAt root versions 30 a.question response.message) ask []
      (λ response means. answered_by buffer reads base response (meant ask.outcome response means))
      (All-nil (λ (a : Ask). (response : DnsResponse) → meaning a.outcome ≡ Ok response → HoldsAnswerAt root versions 30 a.question response.message))

  sources_at_30 : CacheHasSources config false versions 30 (kept buffer reads base)
  sources_at_30 = record {
    sources = (sources-keep config versions settings 30 0 [] (empty buffer reads base) q (ask ∷ []) (found 20) (kept buffer reads base) refl
        (All-nil (IsRowNow versions 30)) (All-nil (EntryHasSources config versions 30)) receives_rows (first_looks buffer reads base)).0;
    recent = (recent-keep config false root versions answers_chain zones settings 30 0 [] (empty buffer reads base) q (ask ∷ []) (found 20)
        (kept buffer reads base) refl (All-nil (λ (r : Record). has_type types.CNAME r ≡ true)) (All-nil (EntryIsRecent config false versions 30)) held
        (first_looks buffer reads base)).0;
  }

  pub sources_at_70 : CacheHasSources config false versions 70 (kept buffer reads base)
  sources_at_70 = sources-later config false versions 30 70 (kept buffer reads base) (omega arith) sources_at_30

  -- ---- every_resolver_lookup_comes_to_walks

  pub resolver_walks
      : ComesToWalk (zone_with root zone.rows) (gives buffer reads base) 30 (begun_1 buffer reads base) (mid_1 buffer reads base)
      (AreShortAt (zone_with root zone.rows) (names_of (begun_1 buffer reads base).settings (Ok alias))
      → IsWalkedLookup (zone_with root zone.rows) (begun_1 buffer reads base).settings 30 (Ok alias) types.A (found 20))
  resolver_walks =
      name-walks (zone_with root zone.rows) is_zone (gives buffer reads base) 30 (begun_1 buffer reads base) (mid_1 buffer reads base) refl (Ok alias) types.A
      (found 20) (first_lookup buffer reads base)

  -- ---- every_resolver_lookup_stands

  pub resolver_stands : ((number : ℕ) → type_number (type_of number) ≡ number)
      → Stands root versions (gives buffer reads base) 30 (begun_1 buffer reads base) (mid_1 buffer reads base)
      (λ asks. LooksUp (begun_1 buffer reads base).settings 30 asks (Ok alias) types.A tt (found 20) tt)
  resolver_stands round =
      name-keeps (gives buffer reads base) 30 (begun_1 buffer reads base) (mid_1 buffer reads base) (HasNoMinima config) (HasNoNegativeMinima config)
      (longest_of config) Finds Misses Lacks
      (λ asks p at error. FailsIndeed false root (request_options (settings_of alias_world).options) versions (failed_questions asks) p at error) Deep
      (finds-outlast config false versions) (lacks-outlast config false root versions) (special-hold config false root versions)
      (deep-first false versions 30) (own-least config) round (Ok alias) types.A (found 20) (first_lookup buffer reads base)
