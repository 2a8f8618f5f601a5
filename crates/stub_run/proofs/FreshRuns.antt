-- Every record that a run returns is fresh, and has the chain bound.
use Rattle.std.proofs.Common.{◌≡◌, ℕ, ◌≤◌, List, [], Bool, false, refl, sym, ap, subst, ◌∙◌}
use Rattle.std.proofs.lemmas.List.Elements.{All-nil}
use Rattle.dns_wire.specs.codes.RecordType.{type_number, type_of}
use Rattle.dns_names.specs.Name.{DomainName}
use Rattle.dns_records.specs.Record.{Record}
use Rattle.dns_messages.specs.declared.message.Message.{Message}
use Rattle.dns_messages.specs.declared.query.Query.{Query}
use Rattle.dns_zone.specs.Answer.{IsChain, answer}
use Rattle.dns_zone.specs.Rows.{IsZone, ZoneContent}
use Rattle.stub_cache.specs.Cache.{CacheContent}
use Rattle.stub_cache.specs.Ttl.{TtlConfigContent}
use Rattle.stub_client.specs.Origins.{Asked, Brings as BringsRecord, BringsClosely, Comes, LeadsOn, LeadsOnClosely}
use Rattle.stub_client.specs.SpecialNames.{special_answer}
use Rattle.stub_client.specs.declared.special_names.SpecialAnswer.TheVariants.{Ordinary}
use Rattle.stub_core.specs.Origins.{CacheIsFrom}
use Rattle.stub_core.specs.ResolverBuilder.{empty_cache}
use Rattle.stub_core.proofs.OriginsLaws.{Brings, brings-all, brings-closely, from-empty}
use Rattle.stub_link.specs.AskState.{AskState}
use Rattle.stub_link.specs.History.{Occasion, first_past}
use Rattle.stub_laws.specs.history.Answered.{IsAnsweredBy}
use Rattle.stub_laws.specs.history.Faithful.{HasNoReuse, IsFaithful}
use Rattle.stub_laws.proofs.CloseLaws.{closely}
use Rattle.stub_laws.proofs.EventLaws.{first-faithful}
use Rattle.stub_laws.proofs.FreshLaws.{fresh}
use Rattle.stub_laws.proofs.ServeLaws.{UpdatesKeepZones}
use Rattle.stub_run.specs.AtReplies.{AreFreshAtReplies, HaveChainBoundsAtReplies}
use Rattle.stub_run.specs.Headline.{AreFresh, HasChainBy, HasNoLeastTtl, HaveChainBounds, IsFreshBy, WorldContent, settings_of, ttls_of}
use Rattle.stub_run.specs.History.{MakePasts}
use Rattle.stub_run.specs.Run.{InOrder, RunState, Runs, asks_of}
use Rattle.stub_run.specs.World.{IsFirst}
use Rattle.stub_run.specs.declared.event.Event.{Event}
use Rattle.stub_run.specs.declared.report.EventReport.{EventReport}
use Rattle.stub_run.proofs.HeadlineLaws.{Has, replies-hold, runs-hold}

module _ (keep : UpdatesKeepZones) (chains : (zone : ZoneContent) (q : Query) → IsChain zone.rows q.query_type q.name (answer zone q).answers)
    (round : (number : ℕ) → type_number (type_of number) ≡ number) (content : WorldContent) (first last : RunState) (events : List Event)
    (reports : List EventReport) (states : List RunState) (zone : IsZone content.zone)
    (begins : IsFirst content.zone content.limit content.ids content.config content.options content.hosts first)
    (order : InOrder 0 events) (runs : Runs first events reports states last) (once : HasNoReuse (asks_of last).sent)
    (none : HasNoLeastTtl content) where
  abbrev origin : DomainName
  origin = content.zone.origin

  abbrev ttls : TtlConfigContent
  ttls = ttls_of content

  in-order : InOrder (asks_of first).link.moment events
  in-order = subst (λ (a : AskState). InOrder a.link.moment events) (sym begins.asks) order

  module _ (aliases : Bool) (same : content.options.preserve_intermediates ≡ aliases) (Carries : Query → Message → Record → Type 0)
      (Leads : Query → Message → Type 0) (brings : Brings ttls aliases (λ (asked : List Asked). Comes Carries Leads asked)) where
    abbrev HasHere : List Asked → RunState → Type 0
    HasHere = Has keep chains round origin ttls aliases (settings_of content) Carries Leads brings

    has-first : HasHere [] first
    has-first = record {
      faithful = subst (IsFaithful origin) (sym begins.asks) (first-faithful content.zone content.limit content.ids zone);
      answered = All-nil (IsAnsweredBy origin (asks_of first).link.history);
      early = All-nil (λ (a : Asked). a.moment ≤ (asks_of first).link.moment);
      ordinary = All-nil (λ (a : Asked). special_answer a.ask.question ≡ Ordinary);
      cache = subst (λ (c : CacheContent). CacheIsFrom (λ (asked : List Asked). Comes Carries Leads asked) [] (asks_of first).link.moment c)
          (sym begins.cache)
          (from-empty (λ (asked : List Asked). Comes Carries Leads asked) [] (asks_of first).link.moment (empty_cache content.options));
      config_is = ap (λ (c : CacheContent). c.config) begins.cache;
      settings_is = begins.settings;
      aliases_is = begins.aliases ∙ same;
    }

  pub fresh-run : (occasions : List Occasion) → MakePasts (first_past content.zone) states occasions
      → AreFresh content events reports occasions
  fresh-run occasions pasts =
      let aliases : Bool = content.options.preserve_intermediates in
      let brings = brings-all ttls aliases none in
      runs-hold keep chains round origin ttls aliases (settings_of content) (BringsRecord ttls) LeadsOn brings
      (IsFreshBy ttls)
      (λ history asked zones answered ordinary q now r plain brought.
      fresh chains origin history zones ttls (type_number q.query_type) plain (none q.query_type) asked answered brought refl)
      [] (first_past content.zone) first last events reports states occasions (has-first aliases refl (BringsRecord ttls) LeadsOn brings)
      in-order runs once pasts

  pub chain-run : content.options.preserve_intermediates ≡ false → (occasions : List Occasion)
      → MakePasts (first_past content.zone) states occasions → HaveChainBounds content events reports occasions
  chain-run off occasions pasts =
      let brings = brings-closely ttls false refl none in
      runs-hold keep chains round origin ttls false (settings_of content) (BringsClosely ttls) LeadsOnClosely brings
      (HasChainBy ttls)
      (λ history asked zones answered ordinary q now r plain brought short.
      closely chains origin history zones ttls (type_number q.query_type) plain (none q.query_type) asked answered ordinary short brought refl)
      [] (first_past content.zone) first last events reports states occasions
      (has-first false off (BringsClosely ttls) LeadsOnClosely brings) in-order runs once pasts

  -- ---- by the versions up to each reply

  pub fresh-at-replies : AreFreshAtReplies content first events reports states last runs
  fresh-at-replies =
      let aliases : Bool = content.options.preserve_intermediates in
      let brings = brings-all ttls aliases none in
      replies-hold keep chains round origin ttls aliases (settings_of content) (BringsRecord ttls) LeadsOn brings
      (IsFreshBy ttls)
      (λ history asked zones answered ordinary q now r plain brought.
      fresh chains origin history zones ttls (type_number q.query_type) plain (none q.query_type) asked answered brought refl)
      [] first last events reports states (has-first aliases refl (BringsRecord ttls) LeadsOn brings) in-order runs once

  pub chain-at-replies : content.options.preserve_intermediates ≡ false → HaveChainBoundsAtReplies content first events reports states last runs
  chain-at-replies off =
      let brings = brings-closely ttls false refl none in
      replies-hold keep chains round origin ttls false (settings_of content) (BringsClosely ttls) LeadsOnClosely brings
      (HasChainBy ttls)
      (λ history asked zones answered ordinary q now r plain brought short.
      closely chains origin history zones ttls (type_number q.query_type) plain (none q.query_type) asked answered ordinary short brought refl)
      [] first last events reports states (has-first false off (BringsClosely ttls) LeadsOnClosely brings) in-order runs once
