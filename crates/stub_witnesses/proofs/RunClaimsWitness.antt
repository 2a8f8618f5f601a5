-- What the laws of runs say of the run in which w. is an alias of h.: each claim, and each of the steps by which they are derived.
use Rattle.std.proofs.Common.{◌≡◌, arith, ℕ, List, [], ◌∷◌, ◌++◌, All, Contains, Ok, Err, Vec, Global, refl}
use Rattle.std.proofs.lemmas.List.Elements.{All-cons, All-nil, Contains-append_right}
use Rattle.dns_wire.specs.codes.RecordType.{type_number, type_of}
use Rattle.dns_wire.specs.declared.codes.record_type.RecordType.TheVariants as types
use Rattle.dns_names.proofs.GrammarCompleteness.{read_is_spelled}
use Rattle.dns_messages.specs.Grammar.{ReadsMessage}
use Rattle.dns_records.specs.Rows.{Rows}
use Rattle.dns_messages.specs.declared.query.Query.{Query}
use Rattle.dns_messages.specs.declared.response.DnsResponse.{DnsResponse}
use Rattle.dns_zone.specs.Rows.{IsZone}
use Rattle.dns_zone.proofs.AnswerLaws.{answers_chain}
use Rattle.dns_zone.proofs.UpdatedLaws.{zone_kept}
use Rattle.stub_lookup.specs.declared.error.LinkFault.TheVariants as faults
use Rattle.stub_lookup.specs.declared.error.NetError.{NetError}
use Rattle.stub_lookup.specs.declared.error.NetError.TheVariants as net
use Rattle.stub_cache.specs.Ttl.{TtlConfigContent, clamped_record}
use Rattle.stub_cache.specs.declared.cache.entry.Entry.{Entry}
use Rattle.stub_hosts.specs.Hosts.{question}
use Rattle.stub_client.specs.AnswerTypes.{HasAskedTypes}
use Rattle.stub_client.specs.Conclusions.{KeptComesTo}
use Rattle.stub_client.specs.Handle.{Ask, Outcome}
use Rattle.stub_client.specs.Looks.{lookup_settings}
use Rattle.stub_client.specs.Origins.{Asked, IsBrought, asked_at, by_response, in_answers}
use Rattle.stub_client.specs.Outcomes.{ChainsEnd}
use Rattle.stub_client.specs.Step.{meaning}
use Rattle.stub_link.specs.AskState.{AskState, end}
use Rattle.stub_link.specs.Link.{messages}
use Rattle.stub_link.specs.LinkState.{Version, link_calls}
use Rattle.stub_link.specs.declared.link.script.Script.TheVariants as script
use Rattle.stub_laws.specs.answers.Steady.{always}
use Rattle.stub_laws.specs.history.Answered.{AreZones, IsAnsweredBy, IsAnsweredSince, greatest_ttl, zone_with}
use Rattle.stub_laws.specs.history.Faithful.{IsFaithful, StaysFaithful, StaysFaithfulUnlessOut}
use Rattle.stub_laws.specs.history.Stands.{HasShortChains, HasShortLinks, IsFreshFor, StandAt}
use Rattle.stub_laws.specs.walk.Answered.{HaveNoFault, IsAskError, IsAsked, IsOrdinary, IsPlainAsk}
use Rattle.stub_laws.specs.walk.Walk.{AgreesWithWalk, CacheAgrees, HasShortAliasesAt, IsWalked}
use Rattle.stub_laws.proofs.AnswersSteadyLaws.{always-stand, only-rows}
use Rattle.stub_laws.proofs.AskedTypeLaws.{asked-types}
use Rattle.stub_laws.proofs.ComingLaws.{chains-end, short-at}
use Rattle.stub_laws.proofs.DirectLaws.{everywhere-direct}
use Rattle.stub_laws.proofs.EventLaws.{begin-faithful, end-faithful, first-faithful}
use Rattle.stub_laws.proofs.FaithfulLaws.{ask-answers, ask-stays}
use Rattle.stub_laws.proofs.FaultLaws.{ask-fails}
use Rattle.stub_laws.proofs.FreshLaws.{fresh}
use Rattle.stub_laws.proofs.LedLaws.{led-holds, led-since}
use Rattle.stub_laws.proofs.ResolverLaws.{client-agrees}
use Rattle.stub_laws.proofs.StandLaws.{contains-head, stand-still}
use Rattle.stub_laws.proofs.SteadyLaws.{steady-asked}
use Rattle.stub_run.specs.AtReplies.{AreFreshAtReplies, AreWholeAtReplies, HaveChainBoundsAtReplies, HaveSourcesAtReplies}
use Rattle.stub_run.specs.Headline.{AreFresh, HaveChainBounds, ttls_of}
use Rattle.stub_run.specs.Questions.{AreAskable}
use Rattle.stub_run.specs.Run.{RunState, asks_of}
use Rattle.stub_run.specs.Steady.{AreSteady}
use Rattle.stub_run.specs.Walked.{AreWalked}
use Rattle.stub_run.specs.Whole.{AreWhole}
use Rattle.stub_run.proofs.FreshRuns.{chain-at-replies, chain-run, fresh-at-replies, fresh-run}
use Rattle.stub_run.proofs.SourcesRuns.{sources-run}
use Rattle.stub_run.proofs.SteadyRuns.{steady-run}
use Rattle.stub_run.proofs.WalkedRuns.{walked-run}
use Rattle.stub_run.proofs.WholeRuns.{whole-at-replies, whole-run}
use Rattle.stub_witnesses.proofs.AliasWitness.{alias, is_zone, short, zone}
use Rattle.stub_witnesses.proofs.ChainWitness.{alias_world, low}
use Rattle.stub_witnesses.proofs.RunWitness.{address_record, alias_record, asked, asked_once, asks_1, begun_1, empty, events, first, first_ask, first_looks, found, in_order, is_first, kept, last, newcomer_asks, not_asked_once, occasions, once, options, pasts, reply_message, reports, request, response, runs, states}
use Rattle.stub_witnesses.proofs.VersionsWitness.{newcomer, root}

abbrev versions : List Version
versions = always zone.rows

abbrev config : TtlConfigContent
config = ttls_of alias_world

abbrev q : Query
q = question alias types.A

pub zones : AreZones root versions
zones =
    All-cons (λ (v : Version). IsZone (zone_with root v.rows)) (record { moment = 0; rows = zone.rows }) [] is_zone
    (All-nil (λ (v : Version). IsZone (zone_with root v.rows)))

pub chains_are_short : HasShortChains versions
chains_are_short = All-cons HasShortLinks (record { moment = 0; rows = zone.rows }) [] short (All-nil HasShortLinks)

askable : AreAskable events
askable = ((omega arith, omega arith), ((omega arith, omega arith), ((omega arith, omega arith), tt)))

-- each number is that of the type that is read of it
module _ (round : (number : ℕ) → type_number (type_of number) ≡ number) (buffer : Vec ℕ Global) (reads : ReadsMessage buffer.items reply_message)
    (base : RunState) where
  -- ---- the claims about runs

  pub is_fresh : AreFresh alias_world events reports occasions
  is_fresh =
      fresh-run zone_kept answers_chain round alias_world (first buffer reads base) (last buffer reads base) events reports (states buffer reads base) is_zone
      (is_first buffer reads base) in_order (runs buffer reads base) (once buffer reads base) low occasions (pasts buffer reads base)

  pub is_bounded : HaveChainBounds alias_world events reports occasions
  is_bounded =
      chain-run zone_kept answers_chain round alias_world (first buffer reads base) (last buffer reads base) events reports (states buffer reads base) is_zone
      (is_first buffer reads base) in_order (runs buffer reads base) (once buffer reads base) low refl occasions (pasts buffer reads base)

  pub is_whole : AreWhole alias_world events reports occasions
  is_whole =
      whole-run zone_kept answers_chain round alias_world (first buffer reads base) (last buffer reads base) events reports (states buffer reads base) occasions
      is_zone (is_first buffer reads base) in_order (runs buffer reads base) (pasts buffer reads base) (once buffer reads base)

  pub is_steady : AreSteady alias_world events reports occasions
  is_steady =
      steady-run zone_kept answers_chain round alias_world (first buffer reads base) (last buffer reads base) events reports (states buffer reads base) occasions
      is_zone (is_first buffer reads base) in_order (runs buffer reads base) (pasts buffer reads base) (once buffer reads base)

  pub is_walked : AreWalked alias_world events reports occasions
  is_walked =
      walked-run zone_kept round (λ text name. read_is_spelled) alias_world (first buffer reads base) (last buffer reads base) events reports
      (states buffer reads base) is_zone (is_first buffer reads base) in_order (runs buffer reads base) (once buffer reads base) refl (omega arith) askable
      occasions (pasts buffer reads base)

  pub is_fresh_at_replies : AreFreshAtReplies alias_world (first buffer reads base) events reports (states buffer reads base) (last buffer reads base) (runs buffer reads base)
  is_fresh_at_replies =
      fresh-at-replies zone_kept answers_chain round alias_world (first buffer reads base) (last buffer reads base) events reports (states buffer reads base)
      is_zone (is_first buffer reads base) in_order (runs buffer reads base) (once buffer reads base) low

  pub is_bounded_at_replies
      : HaveChainBoundsAtReplies alias_world (first buffer reads base) events reports (states buffer reads base) (last buffer reads base) (runs buffer reads base)
  is_bounded_at_replies =
      chain-at-replies zone_kept answers_chain round alias_world (first buffer reads base) (last buffer reads base) events reports (states buffer reads base)
      is_zone (is_first buffer reads base) in_order (runs buffer reads base) (once buffer reads base) low refl

  pub is_whole_at_replies : AreWholeAtReplies alias_world (first buffer reads base) events reports (states buffer reads base) (last buffer reads base) (runs buffer reads base)
  is_whole_at_replies =
      whole-at-replies zone_kept answers_chain round alias_world (first buffer reads base) (last buffer reads base) events reports (states buffer reads base)
      is_zone (is_first buffer reads base) in_order (runs buffer reads base) (once buffer reads base)

  pub has_sources : HaveSourcesAtReplies alias_world (first buffer reads base) events reports (states buffer reads base) (last buffer reads base) (runs buffer reads base)
  has_sources =
      sources-run zone_kept answers_chain alias_world (first buffer reads base) (last buffer reads base) events reports (states buffer reads base) is_zone
      (is_first buffer reads base) in_order (runs buffer reads base) (once buffer reads base)

module _ (buffer : Vec ℕ Global) (reads : ReadsMessage buffer.items reply_message) (base : RunState) where
  abbrev old : AskState
  old = asks_of (begun_1 buffer reads base)

  abbrev new : AskState
  new = asks_1 buffer reads base

  abbrev ask : Ask
  ask = first_ask buffer reads base

  -- ---- events_keep_states_faithful

  pub faithful : IsFaithful root old
  faithful = begin-faithful root 30 script.Honest (asks_of (first buffer reads base)) (omega arith) (first-faithful zone 512 (1 ∷ []) is_zone)

  -- ---- outcomes_hold_answers_that_stood

  pub stays : StaysFaithfulUnlessOut root old new
  stays = ask-stays zone_kept root old faithful (request alias) (Ok (response buffer reads base)) new (asked_once buffer reads base)

  pub answered_by : IsAnsweredBy root versions (record { moment = 30; ask = ask })
  answered_by =
      ask-answers zone_kept root old faithful (request alias) (Ok (response buffer reads base)) new (asked_once buffer reads base) q [] refl (tt, tt)

  -- ---- lookups_have_answers_that_stood, lookups_have_current_answers

  pub led_answered : StaysFaithful root old new × All (IsAnsweredBy root new.link.history) (asked_at 30 (ask ∷ []))
  led_answered =
      led-holds options 30 zone_kept root old new (ask ∷ []) [] faithful refl (new, asked buffer reads base, refl) refl (tt, tt)

  pub led_current : All (IsAnsweredSince root old.link.history new.link.history) (ask ∷ [])
  led_current =
      led-since options 30 zone_kept root old.link.history old new (ask ∷ []) [] ([], refl) faithful refl (new, asked buffer reads base, refl) refl (tt, tt)

  pub ends_faithful : StaysFaithful root new (end new)
  ends_faithful = end-faithful zone_kept root new led_answered.0.faithful

  -- ---- answers_that_stood_are_fresh, answers_that_stood_have_the_chain_bound, answers_that_stood_have_asked_types

  abbrev asked_so_far : List Asked
  asked_so_far = asked_at 30 (ask ∷ [])

  address_answered : Contains reply_message.answers address_record
  address_answered = Contains-append_right (alias_record ∷ []) (address_record ∷ []) address_record (contains-head address_record [])

  brought : IsBrought config asked_so_far q 30 (clamped_record config address_record)
  brought =
      by_response q 30 (clamped_record config address_record) (response buffer reads base)
      (record { outcome = ask.outcome; asked = contains-head (record { moment = 30; ask = ask }) []; means = refl })
      (in_answers address_record address_answered refl)

  pub answer_is_fresh : IsFreshFor versions (greatest_ttl config types.A) 30 alias (clamped_record config address_record)
  answer_is_fresh = fresh answers_chain root versions zones config 1 refl refl asked_so_far led_answered.1 brought refl

  pub answers_are_typed
      : All (λ (a : Asked). (r : DnsResponse) → meaning a.ask.outcome ≡ Ok r → HasAskedTypes a.ask.question r.message) asked_so_far
  answers_are_typed = asked-types answers_chain root versions zones asked_so_far led_answered.1

  -- ---- later_versions_keep_what_stood

  pub still_stands : (rows : Rows) → StandAt (versions ++ record { moment = 40; rows = rows } ∷ []) 30 zone.rows
  still_stands rows = stand-still versions (record { moment = 40; rows = rows } ∷ []) 30 zone.rows (always-stand zone.rows 30) (omega arith)

  -- ---- questions_fail_by_faults

  pub fails_by_a_fault : IsAskError (net.Link faults.NoId)
  fails_by_a_fault =
      ask-fails messages link_calls (request newcomer) (question newcomer types.A) _ _ _ newcomer_asks (not_asked_once buffer reads base)
      (net.Link faults.NoId) refl

  -- ---- answers_of_steady_rows_are_of_a_zone

  never_failed : (error : NetError) → ask.outcome ≡ Err error → ⊥
  never_failed error e = let clash : ◌≡◌ {A = Outcome} (Ok (response buffer reads base)) (Err error) = e in cc

  abbrev FailsOnly : Ask → Type 0
  FailsOnly a = (error : NetError) → a.outcome ≡ Err error → IsAskError error

  pub of_the_zone : All (IsAsked (zone_with root zone.rows)) (ask ∷ [])
  of_the_zone =
      steady-asked root versions zone.rows 30 (λ other stands. only-rows zone.rows 30 other stands) (ask ∷ []) led_answered.1
      (All-cons FailsOnly ask [] (λ error e. absurd (never_failed error e)) (All-nil FailsOnly))

  -- ---- alias_chains_of_answers_end, outcomes_of_answers_are_walks, every_lookup_agrees_with_walks

  ordinary : All IsOrdinary (ask ∷ [])
  ordinary = All-cons IsOrdinary ask [] refl (All-nil IsOrdinary)

  plain : All IsPlainAsk (ask ∷ [])
  plain = All-cons IsPlainAsk ask [] (record { plain = refl; in_internet = refl }) (All-nil IsPlainAsk)

  no_fault : HaveNoFault (ask ∷ [])
  no_fault =
      All-cons (λ (a : Ask). (error : NetError) → a.outcome ≡ Err error → error ≡ net.Memory) ask [] (λ error e. absurd (never_failed error e))
      (All-nil (λ (a : Ask). (error : NetError) → a.outcome ≡ Err error → error ≡ net.Memory))

  pub chain_ends : ChainsEnd (lookup_settings (begun_1 buffer reads base).client options) (ask ∷ [])
  chain_ends =
      chains-end (zone_with root zone.rows) is_zone (lookup_settings (begun_1 buffer reads base).client options) refl (ask ∷ []) of_the_zone ordinary plain short

  pub lookup_agrees
      : CacheAgrees (zone_with root zone.rows) (kept buffer reads base)
      × IsWalked (zone_with root zone.rows) q (found 20)
  lookup_agrees =
      let both = client-agrees (zone_with root zone.rows) is_zone (lookup_settings (begun_1 buffer reads base).client options) refl 30
      (empty buffer reads base) q (ask ∷ []) (found 20) (kept buffer reads base) of_the_zone
      (All-nil (λ (e : Entry). KeptComesTo (AgreesWithWalk (zone_with root zone.rows)) e.question e.kept)) (first_looks buffer reads base) in
      (both.0, both.1 no_fault refl refl (everywhere-direct (zone_with root zone.rows) types.A alias refl) (λ inside. short-at zone short alias))

  -- ---- short_aliases_are_short_at_each_name

  pub short_at_alias : HasShortAliasesAt zone alias
  short_at_alias = short-at zone short alias
