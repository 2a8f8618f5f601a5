-- Further steps of the laws of runs for the first lookup of the run in which w. is an alias of h.: the chain bound of what it returns, what its
-- outcomes come to, and what is left of its cache later, and after a clear.
use Rattle.std.proofs.Common.{◌≡◌, arith, ℕ, true, false, List, [], ◌∷◌, Contains, Ok, Vec, Global, refl}
use Rattle.std.proofs.lemmas.List.Elements.{All-cons, All-nil, Contains-append_right}
use Rattle.dns_wire.specs.declared.codes.record_type.RecordType.TheVariants as types
use Rattle.dns_messages.specs.Grammar.{ReadsMessage}
use Rattle.dns_messages.specs.Message.{all_records}
use Rattle.dns_records.specs.Record.{Record}
use Rattle.dns_messages.specs.declared.query.Query.{Query}
use Rattle.dns_zone.proofs.AnswerLaws.{answers_chain}
use Rattle.stub_cache.specs.Cache.{entry_of}
use Rattle.stub_cache.specs.Ttl.{TtlConfigContent, clamped_record}
use Rattle.stub_cache.specs.declared.cache.entry.Entry.{Entry}
use Rattle.stub_hosts.specs.Hosts.{question}
use Rattle.stub_client.specs.AnswerTypes.{KeptHasAskedTypes, is_asked_or_alias}
use Rattle.stub_client.specs.Conclusions.{Finds, KeptComesTo, values}
use Rattle.stub_client.specs.Handle.{Ask}
use Rattle.stub_client.specs.Looks.{lookup_settings}
use Rattle.stub_client.specs.Origins.{Asked, IsBroughtClosely, after_aliases, asked_at, by_response}
use Rattle.stub_client.specs.Outcomes.{ComesTo, by_records}
use Rattle.stub_client.specs.SpecialNames.{special_answer}
use Rattle.stub_client.specs.Step.{lowered}
use Rattle.stub_client.specs.declared.caching_client.step.LookupSettings.{LookupSettings}
use Rattle.stub_client.specs.declared.special_names.SpecialAnswer.TheVariants.{Ordinary}
use Rattle.stub_core.specs.Origins.{HasNoMinima}
use Rattle.stub_core.specs.Resolver.{cleared_lookup}
use Rattle.stub_core.proofs.ResolvesLaws.{all-cleared_lookup}
use Rattle.stub_link.specs.LinkState.{Version}
use Rattle.stub_laws.specs.answers.Claims.{HasNoNegativeMinima, longest_of}
use Rattle.stub_laws.specs.answers.Lookups.{CacheStands}
use Rattle.stub_laws.specs.answers.Steady.{always}
use Rattle.stub_laws.specs.history.Answered.{IsAnsweredBy, greatest_ttl, zone_with}
use Rattle.stub_laws.specs.history.Stands.{HasChainFor}
use Rattle.stub_laws.specs.walk.Answered.{IsOrdinary}
use Rattle.stub_laws.specs.walk.Walk.{AgreesWithWalk, CacheAgrees}
use Rattle.stub_laws.proofs.AnswersResolverLaws.{held-later}
use Rattle.stub_laws.proofs.CloseLaws.{closely}
use Rattle.stub_laws.proofs.ComingLaws.{comes-agree}
use Rattle.stub_laws.proofs.StandLaws.{contains-head}
use Rattle.stub_run.specs.Headline.{settings_of, ttls_of}
use Rattle.stub_run.specs.Run.{RunState}
use Rattle.stub_witnesses.proofs.AliasWitness.{alias, is_zone, zone}
use Rattle.stub_witnesses.proofs.ChainWitness.{alias_world}
use Rattle.stub_witnesses.proofs.RunClaimsWitness.{answered_by, chains_are_short, lookup_agrees, of_the_zone, zones}
use Rattle.stub_witnesses.proofs.RunStandsWitness.{Finds as FindsIndeed, Misses, keeps_whole}
use Rattle.stub_witnesses.proofs.RunWitness.{address_record, alias_record, begun_1, first_ask, found_message, kept, options, record_with, reply_message, response}
use Rattle.stub_witnesses.proofs.VersionsWitness.{root}

abbrev versions : List Version
versions = always zone.rows

abbrev config : TtlConfigContent
config = ttls_of alias_world

abbrev q : Query
q = question alias types.A

module _ (buffer : Vec ℕ Global) (reads : ReadsMessage buffer.items reply_message) (base : RunState) where
  abbrev ask : Ask
  ask = first_ask buffer reads base

  abbrev settings : LookupSettings
  settings = lookup_settings (begun_1 buffer reads base).client options

  abbrev asked_so_far : List Asked
  asked_so_far = asked_at 30 (ask ∷ [])

  -- ---- answers_that_stood_have_the_chain_bound

  address_received : Contains (all_records reply_message) address_record
  address_received = Contains-append_right (alias_record ∷ []) (address_record ∷ []) address_record (contains-head address_record [])

  brought_closely : IsBroughtClosely config asked_so_far q 30 (clamped_record config (lowered 20 address_record))
  brought_closely =
      by_response q 30 (clamped_record config (lowered 20 address_record)) (response buffer reads base)
      (record { outcome = ask.outcome; asked = contains-head (record { moment = 30; ask = ask }) []; means = refl })
      (after_aliases address_record address_received refl refl refl)

  pub answer_is_bounded : HasChainFor versions (greatest_ttl config types.A) 30 alias (clamped_record config (lowered 20 address_record))
  answer_is_bounded =
      closely answers_chain root versions zones config 1 refl refl asked_so_far
      (All-cons (IsAnsweredBy root versions) (record { moment = 30; ask = ask }) [] (answered_by buffer reads base) (All-nil (IsAnsweredBy root versions)))
      (All-cons (λ (a : Asked). special_answer a.ask.question ≡ Ordinary) (record { moment = 30; ask = ask }) [] refl
      (All-nil (λ (a : Asked). special_answer a.ask.question ≡ Ordinary))) chains_are_short brought_closely refl

  -- ---- outcomes_of_answers_are_walks

  comes : ComesTo settings (ask ∷ []) q (Finds (values (record_with 20 ∷ [])))
  comes = by_records {m = found_message 20} (record { outcome = ask.outcome; is_asked = contains-head ask []; is_step = refl })

  pub comes_to_the_walk : AgreesWithWalk (zone_with root zone.rows) q (Finds (values (record_with 20 ∷ [])))
  comes_to_the_walk =
      comes-agree (zone_with root zone.rows) is_zone settings refl (ask ∷ []) (of_the_zone buffer reads base)
      (All-cons IsOrdinary ask [] refl (All-nil IsOrdinary)) comes

  -- ---- clears_keep_agreement

  abbrev AgreesEntry : Entry → Type 0
  AgreesEntry e = KeptComesTo (AgreesWithWalk (zone_with root zone.rows)) e.question e.kept

  pub cleared_agrees : CacheAgrees (zone_with root zone.rows) (record (kept buffer reads base) {
    entries = cleared_lookup (settings_of alias_world) (Ok alias) types.A (kept buffer reads base).entries;
  })
  cleared_agrees =
      all-cleared_lookup AgreesEntry (settings_of alias_world) (Ok alias) types.A (kept buffer reads base).entries (lookup_agrees buffer reads base).0

  -- ---- caches_keep_what_stood

  abbrev IsTypedEntry : Entry → Type 0
  IsTypedEntry e = KeptHasAskedTypes e.question e.kept

  abbrev IsTyped : Record → Type 0
  IsTyped r = is_asked_or_alias q r ≡ true

  pub still_kept : CacheStands config false root versions 70 (kept buffer reads base)
  still_kept =
      held-later (HasNoMinima config) (HasNoNegativeMinima config) (longest_of config) FindsIndeed Misses 30 70 (kept buffer reads base) (omega arith)
      (record {
        holds = (keeps_whole buffer reads base).0;
        typed = All-cons IsTypedEntry (entry_of config q (Ok (found_message 20)) 30) []
            (All-cons IsTyped (record_with 20) [] refl (All-nil IsTyped)) (All-nil IsTypedEntry);
      })
