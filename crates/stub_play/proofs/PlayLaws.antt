-- What lines and events side by side are, and what the exits of a whole run say.
use Rattle.std.proofs.Common.{◌≡◌, ◌≢◌, ◌↔◌, ◌≤◌, ◌<◌, ◌⊎◌, ◌||◌, ◌^◌, Bool, true, false, nat_lt, map, ℕ, List, [], ◌∷◌, ◌++◌, suc, zero, length, take, slice_get, Option, Some, IfErr, IfSome, Result, Ok, Err, OnOk, refl, sym, subst, ap, ◌∙◌, inl, inr, arith, string_bytes, length-take, EachIndex, slice_index, ◌+◌}
use Rattle.std.proofs.lemmas.Bool.{le-ltb}
use Rattle.std.proofs.lemmas.Option.{slice_get_within}
use Rattle.std.proofs.Math.Seq.{take-nil}
use Rattle.std.specs.Io.KnownBytes.{Appends}
use Rattle.stub_hosts.specs.declared.hosts.file.HostsFault.{HostsFault}
use Rattle.stub_core.specs.ResolverBuilder.{is_unsupported}
use Rattle.dns_messages.specs.declared.query.Query.{Query}
use Rattle.dns_zone.specs.Rows.{ZoneContent, IsZone as IsZoneContent}
use Rattle.stub_config.specs.config.{config_of_servers}
use Rattle.stub_config.specs.declared.config.ResolverConfig.{ResolverConfig}
use Rattle.stub_config.specs.declared.options.ResolverOpts.{ResolverOpts}
use Rattle.stub_hosts.specs.Hosts.{HostsContent}
use Rattle.stub_core.specs.declared.resolver.Resolver.{Resolver}
use Rattle.stub_link.specs.LinkState.{first_link_state}
use Rattle.stub_link.specs.ScriptedLink.{IsAt}
use Rattle.stub_link.specs.declared.link.scripted.ScriptedLink.{ScriptedLink}
use Rattle.stub_link.specs.declared.link.LinkError.{LinkError}
use Rattle.stub_link.specs.declared.link.LinkError.TheVariants as links
use Rattle.stub_link.specs.declared.wire_handle.WireHandle.{WireHandle}
use Rattle.stub_play.specs.sockets.SocketLink.{socket_rules}
use Rattle.stub_play.specs.declared.sockets.socket_link.SocketLink.{SocketLink}
use Rattle.stub_run.specs.declared.event.Event.{Event}
use Rattle.stub_run.specs.ScriptedEvents.{scripted_rules}
use Rattle.stub_run.specs.Stepping.{RunsAs, RunsFrom}
use Rattle.stub_run.specs.World.{IsFirst, IsFirstOver}
use Rattle.stub_run.specs.Counts.{HasDrawn}
use Rattle.stub_run.specs.Headline.{WorldContent}
use Rattle.stub_run.specs.OneHistory.{HasOneHistory}
use Rattle.stub_run.specs.Questions.{AreAskable}
use Rattle.stub_run.specs.RunOver.{HasRunOver, IsReportBeforeOver, IsReportOver, LinkRules, RunsOver, StopsAtOver, with_sent}
use Rattle.stub_run.specs.Ids.{AreDistinct}
use Rattle.stub_run.proofs.Reporting.{HistoryLaw, front-askable, front-in-order}
use Rattle.stub_laws.specs.history.Faithful.{HasNoReuse}
use Rattle.stub_run.specs.declared.report.EventReport.{EventReport}
use Rattle.stub_run.specs.declared.report.Report.{Report}
use Rattle.stub_run.specs.declared.report.Stopped.{Stopped}
use Rattle.stub_run.specs.declared.report.Stopped.TheVariants.{Moments}
use Rattle.stub_run.specs.declared.report.Stopped.TheVariants as stops
use Rattle.stub_run.specs.Run.{InOrder, IsReportBefore, IsReportOf, RunState, Runs, StopsAt, asks_of, memory_report}
use Rattle.stub_script.specs.declared.script_text.ScriptFault.{ScriptFault}
use Rattle.stub_script.specs.declared.script_text.ScriptFault.TheVariants.{Line, Memory}
use Rattle.stub_script.specs.declared.script_text.ScriptText.{ScriptText}
use Rattle.stub_play.specs.declared.plays.Loaded.{Loaded}
use Rattle.stub_play.specs.declared.plays.fault.PlayFault.{PlayFault}
use Rattle.stub_play.specs.declared.plays.fault.PlayFault.TheVariants.{Write}
use Rattle.stub_play.specs.declared.plays.fault.PlayFault.TheVariants as plays
use Rattle.stub_play.specs.declared.plays.input.PlayInput.{PlayInput}
use Rattle.dns_names.specs.Name.{DomainName}
use Rattle.dns_zone_file.specs.declared.types.Types.{Types}
use Rattle.stub_script.specs.EventContent.{EventContent}
use Rattle.stub_run.specs.Event.{AreHonest}
use Rattle.stub_play.specs.Plays.{AreTold, Faults, HasFiles, HostsAre, IsAtFault, IsFirstOfPlay, IsLineListed, IsLineOf, IsLineOutOfOrder, IsLoaded, IsPlayed, IsPlayedOver, IsRead, IsScript, IsStart, IsStartOver, IsUnwritten, IsUsable, IsZone, ScriptIs, Tells, TellsAll, TellsAllBy, TellsFirst, TellsFirstBy, TellsOver, ZoneIs, content_of, events_of, lines_of, numbered, play_options}
use Rattle.stub_script.specs.declared.given_link.GivenLink.{GivenLink}
use Rattle.stub_script.specs.declared.reply_line.GivenReply.{GivenReply}
use Rattle.stub_play.specs.Given.{IsGivenLink, TellsGiven, given_rules}
use Rattle.stub_play.specs.PlayFault.{link_fault, script_fault}
use Rattle.stub_play.specs.report.Report.{report_text, told_text}
use Rattle.stub_play.specs.declared.report.report.PlayFormat.{PlayFormat}
use Rattle.stub_script.specs.ScriptText.{IsScriptOf, side_by_side}
use Rattle.stub_play.proofs.OrderLaws.{in_order_if_not_out}

-- ---- lines and events

pub events_beside : (numbers : List ℕ) (events : List Event) → length numbers ≡ length events → events_of (side_by_side numbers events) ≡ events
events_beside [] [] h = refl
events_beside [] (e ∷ events) h = absurd (omega arith)
events_beside (n ∷ numbers) [] h = absurd (omega arith)
events_beside (n ∷ numbers) (e ∷ events) h =
    let same : length numbers ≡ length events = omega arith in
    ap (λ (x : List Event). e ∷ x) (events_beside numbers events same)

sides_len : (numbers : List ℕ) (events : List Event) → length numbers ≡ length events → length (side_by_side numbers events) ≡ length events
sides_len [] [] h = refl
sides_len [] (e ∷ events) h = absurd (omega arith)
sides_len (n ∷ numbers) [] h = absurd (omega arith)
sides_len (n ∷ numbers) (e ∷ events) h =
    let same : length numbers ≡ length events = omega arith in
    ap suc (sides_len numbers events same)

lines_beside : (numbers : List ℕ) (events : List Event) → length numbers ≡ length events → lines_of (side_by_side numbers events) ≡ numbers
lines_beside [] [] h = refl
lines_beside [] (e ∷ events) h = absurd (omega arith)
lines_beside (n ∷ numbers) [] h = absurd (omega arith)
lines_beside (n ∷ numbers) (e ∷ events) h =
    let same : length numbers ≡ length events = omega arith in
    ap (λ (x : List ℕ). n ∷ x) (lines_beside numbers events same)

-- the line beside the first event of a kind
pub line_beside : (IsFirst : List Event → ℕ → Type 0) (numbers : List ℕ) (events : List Event) (place line : ℕ)
    → length numbers ≡ length events → IsFirst events place → slice_get numbers place ≡ Some line
    → IsLineOf IsFirst (side_by_side numbers events) line
line_beside IsFirst numbers events place line same first is = (
  place,
  subst (λ (es : List Event). IsFirst es place) (sym (events_beside numbers events same)) first,
  rw (lines_beside numbers events same) is,
)

pub first_at_some : (IsFirst : List Event → ℕ → Type 0) (found events : List Event) (r : Option ℕ) (place : ℕ) → found ≡ events
    → r ≡ Some place → IfSome r (IsFirst found) → IsFirst events place
first_at_some IsFirst found events r place same is h =
    subst (λ (es : List Event). IsFirst es place) same (subst (λ (o : Option ℕ). IfSome o (IsFirst found)) is h)

-- a run that was not stopped for its moments had them in order
pub in_order_if_run : (events : List Event) (result : Result Report Stopped) → (result ≡ Err Moments) ↔ (¬ InOrder 0 events) → result ≢ Err Moments
    → InOrder 0 events
in_order_if_run events result moments ran = in_order_if_not_out events (λ out. ran (moments.1 out))

pub on_ok : {T E P : Type 0} (r : Result T E) → P → OnOk r P
on_ok (Ok x) p = p
on_ok (Err e) p = tt

-- what holds of an error
pub if_err : {T E : Type 0} (P Q : E → Type 0) (r : Result T E) → ((e : E) → P e → Q e) → IfErr r P → IfErr r Q
if_err P Q (Ok x) h holds = tt
if_err P Q (Err e) h holds = h e holds

-- ---- the files

-- the first line that cannot be read is the script's fault
line_is_at_fault : (input : PlayInput) (zone : ZoneContent) (fault : ScriptFault) (line : ℕ) → fault ≡ Line line
    → (fault ≢ Memory → IsScriptOf input.types zone.origin (string_bytes input.script) (Err fault)) → IsAtFault input zone line
line_is_at_fault input zone fault line is refused =
    let other : fault ≢ Memory = λ e. let both : Line line ≡ Memory = sym is ∙ e in cc both in
    inl (subst (λ (x : ScriptFault). IsScriptOf input.types zone.origin (string_bytes input.script) (Err x)) is (refused other))

-- the script's fault is the run's
pub script_faults : (input : PlayInput) (zone : ZoneContent) (fault : ScriptFault) → ZoneIs input (Ok zone)
    → (fault ≢ Memory → IsScriptOf input.types zone.origin (string_bytes input.script) (Err fault))
    → IsUnwritten (script_fault fault) × Faults input (script_fault fault)
script_faults input zone (Line line) is refused = (tt, (zone, is, line_is_at_fault input zone (Line line) line refl refused))
script_faults input zone Memory is refused = (tt, (zone, is))

-- what was read of a script is that of the run's
pub script_read : {origin : DomainName} (input : PlayInput) (zone : ZoneContent) (found : List ℕ)
    (outcome : Result (List (ℕ × EventContent)) ScriptFault) → origin ≡ zone.origin → found ≡ string_bytes input.script
    → IsScriptOf input.types origin found outcome → IsScriptOf input.types zone.origin (string_bytes input.script) outcome
script_read input zone found outcome same text read = rw (same, text) at read

-- the fault of the hosts is the run's
pub hosts_faults : (input : PlayInput) (found : List ℕ) (fault : HostsFault) → IsScript input → found ≡ input.hosts.items
    → HostsAre found (Err fault) → IsUnwritten (plays.Hosts fault) × Faults input (plays.Hosts fault)
hosts_faults input found fault script same read =
    (tt, (script, subst (λ (src : List ℕ). HostsAre src (Err fault)) same read))

-- a line with link words is the script's fault over sockets
pub listed_faults : (input : PlayInput) (zone : ZoneContent) (script : List (ℕ × Event)) (fault : PlayFault) → ZoneIs input (Ok zone)
    → ScriptIs input zone script → ((line : ℕ) × (fault ≡ plays.Script line) × (input.udp ≡ true) × IsLineListed script line)
    → IsUnwritten fault × Faults input fault
listed_faults input zone script fault is read (line, is_line, udp, listed) =
    subst (λ (f : PlayFault). IsUnwritten f × Faults input f) (sym is_line)
    (tt, (zone, is, inr (inl (script, read, udp, listed))))

-- the events of a script follow no script of the link
pub usable_if : (input : PlayInput) (script : ScriptText) → length script.lines.items ≡ length script.events.items
    → (input.udp ≡ true → AreHonest script.events.items) → IsUsable input (numbered script)
usable_if input script same honest = λ udp.
    subst AreHonest (sym (events_beside script.lines.items script.events.items same)) (honest udp)

pub honest_if : (input : PlayInput) (script : ScriptText) → length script.lines.items ≡ length script.events.items
    → IsUsable input (numbered script) → input.udp ≡ true → AreHonest script.events.items
honest_if input script same usable udp = subst AreHonest (events_beside script.lines.items script.events.items same) (usable udp)

-- ---- the first state

none_below_zero : (n : ℕ) → nat_lt n 0 ≡ false
none_below_zero n = le-ltb n 0 (omega arith)

-- a resolver has the options of every run
pub play_options_are_supported : (input : PlayInput) → is_unsupported (play_options input) ≡ false
play_options_are_supported input = ap (λ (b : Bool). b || false) (none_below_zero input.max_ttl)

-- what holds of the resolver of a run, which begins with these ids, configuration and options
pub first_of_play : {L : Type 0} (input : PlayInput) (ids : List ℕ) (config : ResolverConfig) (options : ResolverOpts)
    (hosts : HostsContent) (link : L) (resolver : Resolver (WireHandle L)) → config ≡ config_of_servers [] → options ≡ play_options input
    → EachIndex ids (λ k. slice_index ids k ≡ k + 1) → length ids ≡ 65535 → IsFirstOver link ids config options hosts resolver
    → IsFirstOfPlay input link hosts resolver
first_of_play input ids config options hosts link resolver same_config same_options counted all first = record {
  ids = ids;
  first = rw (same_config, same_options) at first;
  counted = counted;
  all = all;
}

-- the resolver of a run over sockets begins as its input says
pub starts_over : {R : Type 0} (input : PlayInput) (zone : ZoneContent) (hosts : HostsContent) (link : SocketLink R)
    (resolver : Resolver (WireHandle (SocketLink R))) → link.zone ≡ zone → link.limit ≡ input.limit
    → IsFirstOfPlay input link hosts resolver → IsStartOver input zone hosts resolver
starts_over input zone hosts link resolver same_zone same_limit first = record {
  link = link;
  ids = first.ids;
  zone_is = same_zone;
  limit = same_limit;
  first = first.first;
  counted = first.counted;
  all = first.all;
}

-- ---- what is printed

-- a run reports of each event once
runs_len : (old : RunState) (events : List Event) (reports : List EventReport) (states : List RunState) (new : RunState)
    → Runs old events reports states new → length reports ≡ length events
runs_len old [] [] states new h = refl
runs_len old [] (r ∷ reports) states new h = absurd h
runs_len old (e ∷ events) [] states new h = absurd h
runs_len old (e ∷ events) (r ∷ reports) [] new h = absurd h
runs_len old (e ∷ events) (r ∷ reports) (state ∷ states) new h = ap suc (runs_len state events reports states new h.1)

-- events without a report have no text
pub front_text : (types : Types) (format : PlayFormat) (n : ℕ) (events : List Event) (reports : List EventReport) → length reports ≤ n
    → report_text types format events reports ≡ report_text types format (take n events) reports
front_text types format n [] reports h = ap (λ (x : List Event). report_text types format x reports) (sym (take-nil n))
front_text types format zero (e ∷ events) [] h = refl
front_text types format zero (e ∷ events) (r ∷ reports) h = absurd (omega arith)
front_text types format (suc n) (e ∷ events) [] h = refl
front_text types format (suc n) (e ∷ events) (r ∷ reports) h =
    let less : length reports ≤ n = omega arith in
    ap (λ (x : List ℕ). told_text types format e r ++ x) (front_text types format n events reports less)

front_is : (types : Types) (format : PlayFormat) (first : RunState) (events : List Event) (report : Report) (before : IsReportBefore first events report)
    → report_text types format events report.events.items ≡ report_text types format (take before.count events) report.events.items
front_is types format first events report before =
    let front = take before.count events in
    let same : length report.events.items ≡ length front =
    runs_len first front report.events.items before.reported.states before.reported.last before.reported.runs in
    let short = length-take before.count events in
    let few : length report.events.items ≤ before.count = omega (arith, same, short) in
    front_text types format before.count events report.events.items few

module _ {L : Type 0} (rules : LinkRules L) where
  runs_over_len : (old : Resolver (WireHandle L)) (events : List Event) (reports : List EventReport)
      (states : List (Resolver (WireHandle L))) (new : Resolver (WireHandle L)) → RunsOver rules old events reports states new
      → length reports ≡ length events
  runs_over_len old [] [] [] new h = refl
  runs_over_len old [] [] (state ∷ states) new h = absurd h
  runs_over_len old [] (r ∷ reports) states new h = absurd h
  runs_over_len old (e ∷ events) [] states new h = absurd h
  runs_over_len old (e ∷ events) (r ∷ reports) [] new h = absurd h
  runs_over_len old (e ∷ events) (r ∷ reports) (state ∷ states) new h = ap suc (runs_over_len state events reports states new h.1)

  -- a run over any link reports of each event once
  pub reports_len : (first : Resolver (WireHandle L)) (events : List Event) (reports : List EventReport) (last : Resolver (WireHandle L))
      → HasRunOver rules first events reports last → length reports ≡ length events
  reports_len first events reports last run = runs_over_len (with_sent first run.ids) events reports run.states last run.runs

  front_is_over : (types : Types) (format : PlayFormat) (first : Resolver (WireHandle L)) (events : List Event) (report : Report)
      (before : IsReportBeforeOver rules first events report)
      → report_text types format events report.events.items ≡ report_text types format (take before.count events) report.events.items
  front_is_over types format first events report before =
      let front = take before.count events in
      let same : length report.events.items ≡ length front =
      reports_len first front report.events.items before.reported.last before.reported.has_run in
      let short = length-take before.count events in
      let few : length report.events.items ≤ before.count = omega (arith, same, short) in
      front_text types format before.count events report.events.items few

  within_over : (count : ℕ) (events : List Event) (resolver : Resolver (WireHandle L)) → StopsAtOver rules count events resolver
      → (count ≡ 0) ⊎ (count < length events)
  within_over count events resolver (inl none) = inl none
  within_over count events resolver (inr stop) = inr (slice_get_within events count stop.0 stop.1)

-- the event at which a run stops is one of them
front_within : (count numbered : ℕ) (events : List Event) (state : RunState) → numbered ≡ length events → StopsAt count events state
    → (count ≡ 0) ⊎ (count < numbered)
front_within count numbered events state same (inl none) = inl none
front_within count numbered events state same (inr stop) =
    let below : count < length events = slice_get_within events count stop.0 stop.1 in
    inr (omega (arith, same, below))

-- what is said of a run that was stopped for memory
pub stopped_is : (P : Report → Type 0) (error : Stopped) (report : Report) → error ≡ stops.Memory report
    → IfSome (memory_report (Err error)) P → P report
stopped_is P error report is h = rw is at h

-- what holds of every run
pub record RunsHold : Type 0 where
  pub history : HistoryLaw
  pub drawn : (ids : List ℕ) (first last : RunState) (events : List Event) (reports : List EventReport) (states : List RunState)
      → HasDrawn ids (asks_of first) → Runs first events reports states last → HasDrawn ids (asks_of last)
  pub distinct : (ids : List ℕ) (sent : List (ℕ × Query)) → AreDistinct ids
      → map (λ (draw : ℕ × Query). draw.0) sent ≡ take (length sent) ids → HasNoReuse sent
  pub counted : (n : ℕ) (ids : List ℕ) → EachIndex ids (λ k. slice_index ids k ≡ k + n) → AreDistinct ids

-- a place is below as many lines as there are events
below_sides : (count : ℕ) (events : List Event) (lines : ℕ) → lines ≡ length events → (count ≡ 0) ⊎ (count < length events)
    → (count ≡ 0) ⊎ (count < lines)
below_sides count events lines same (inl none) = inl none
below_sides count events lines same (inr below) = inr (omega (arith, same, below))

-- files that could be read
module _ (input : PlayInput) (loaded : Loaded) (is : IsLoaded input loaded) where
  events_are : events_of (numbered loaded.script) ≡ loaded.script.events.items
  events_are = events_beside loaded.script.lines.items loaded.script.events.items is.beside

  pub zone_is : IsZone input
  zone_is = (loaded.zone, is.zone)

  abbrev pub has_files : HasFiles input
  has_files = record {
    zone = loaded.zone;
    script = numbered loaded.script;
    hosts = loaded.hosts;
    is_zone = is.zone;
    is_script = is.script;
    usable = is.usable;
    are_hosts = is.hosts;
  }

  pub is_read : InOrder 0 loaded.script.events.items → IsRead input
  is_read order = record { files = has_files; in_order = subst (InOrder 0) (sym events_are) order }

  pub moment_is_at_fault : (line : ℕ) → IsLineOutOfOrder (numbered loaded.script) line → Faults input (plays.Script line)
  moment_is_at_fault line out =
      (loaded.zone, is.zone, inr (inr (numbered loaded.script, loaded.hosts, is.script, is.usable, is.hosts, out)))

  -- what is told of all events, or of the first ones
  module _ (tells : ZoneContent → List Event → List ℕ → Type 0) (order : InOrder 0 loaded.script.events.items) (report : Report) where
    pub tells_all_by : tells loaded.zone loaded.script.events.items (report_text input.types input.format loaded.script.events.items report.events.items)
        → TellsAllBy tells input (report_text input.types input.format loaded.script.events.items report.events.items)
    tells_all_by told = (
      loaded.zone,
      numbered loaded.script,
      is.script,
      rw events_are order,
      subst (λ (es : List Event). tells loaded.zone es (report_text input.types input.format loaded.script.events.items report.events.items)) (sym events_are) told,
    )

    pub tells_first_by : (count : ℕ) → (count ≡ 0) ⊎ (count < length loaded.script.events.items)
        → report_text input.types input.format loaded.script.events.items report.events.items
        ≡ report_text input.types input.format (take count loaded.script.events.items) report.events.items
        → tells loaded.zone (take count loaded.script.events.items) (report_text input.types input.format (take count loaded.script.events.items) report.events.items)
        → TellsFirstBy tells input (report_text input.types input.format loaded.script.events.items report.events.items)
    tells_first_by count within same told =
        let events = loaded.script.events.items in
        let len = sides_len loaded.script.lines.items events is.beside in (
          loaded.zone,
          numbered loaded.script,
          count,
          is.script,
          rw events_are order,
          below_sides count events (length (numbered loaded.script)) len within,
          subst (λ (es : List Event). tells loaded.zone (take count es) (report_text input.types input.format events report.events.items)) (sym events_are)
              (subst (tells loaded.zone (take count events)) (sym same) told),
        )

  -- a run from the first state tells this
  module _ (laws : RunsHold) (zone : IsZoneContent loaded.zone) (order : InOrder 0 loaded.script.events.items)
      (askable : AreAskable loaded.script.events.items) (limit : input.limit < 2 ^ 16) (state : RunState)
      (start : IsStart input loaded.zone loaded.hosts state) (report : Report) where
    abbrev content : WorldContent
    content = content_of input loaded.zone start.ids loaded.hosts

    no-reuse : (told : List Event) (reported : IsReportOf state told report) → HasNoReuse (asks_of reported.last).sent
    no-reuse told reported =
        let first : HasDrawn start.ids (asks_of state) =
        subst (HasDrawn start.ids) (sym start.first.asks) (record { ids_are = refl; drawn = refl }) in
        let last = laws.drawn start.ids state reported.last told report.events.items reported.states first reported.runs in
        laws.distinct start.ids (asks_of reported.last).sent (laws.counted 1 start.ids start.counted) last.drawn

    tells : (told : List Event) → InOrder 0 told → AreAskable told → IsReportOf state told report
        → Tells input loaded.zone told (report_text input.types input.format told report.events.items)
    tells told in-order asked reported =
        let history : HasOneHistory content state told report =
        laws.history content state told report zone start.first limit in-order asked reported in
        let once : HasNoReuse report.sent.items = subst HasNoReuse (sym reported.sent) (no-reuse told reported) in
        record {
          hosts = loaded.hosts;
          state = state;
          report = report;
          is_zone = is.zone;
          are_hosts = is.hosts;
          start = start;
          is_text = refl;
          history = history;
          fresh = history.fresh once (λ kind. refl);
          chain_bound = history.chain_bound once (λ kind. refl) refl;
          whole = history.whole once;
          steady = history.steady once;
          walked = history.walked once refl;
        }

    pub tells_all : IsReportOf state loaded.script.events.items report
        → TellsAll input (report_text input.types input.format loaded.script.events.items report.events.items)
    tells_all reported = tells_all_by (Tells input) order report (tells loaded.script.events.items order askable reported)

    pub tells_first : IsReportBefore state loaded.script.events.items report
        → TellsFirst input (report_text input.types input.format loaded.script.events.items report.events.items)
    tells_first before =
        let events = loaded.script.events.items in
        tells_first_by (Tells input) order report before.count
        (front_within before.count (length events) events before.reported.last refl before.stopped) (front_is input.types input.format state events report before)
        (tells (take before.count events) (front-in-order 0 before.count events order) (front-askable before.count events askable)
        before.reported)

  -- a run over sockets tells this
  module _ {R : Type 0} (order : InOrder 0 loaded.script.events.items) (resolver : Resolver (WireHandle (SocketLink R)))
      (start : IsStartOver input loaded.zone loaded.hosts resolver) (report : Report) where
    tells_over : (told : List Event) → IsReportOver (socket_rules R) resolver told report
        → TellsOver R input loaded.zone told (report_text input.types input.format told report.events.items)
    tells_over told reported = record {
      hosts = loaded.hosts;
      resolver = resolver;
      report = report;
      is_zone = is.zone;
      are_hosts = is.hosts;
      start = start;
      reported = reported;
      is_text = refl;
    }

    pub tells_all_over : IsReportOver (socket_rules R) resolver loaded.script.events.items report
        → TellsAllBy (TellsOver R input) input (report_text input.types input.format loaded.script.events.items report.events.items)
    tells_all_over reported = tells_all_by (TellsOver R input) order report (tells_over loaded.script.events.items reported)

    pub tells_first_over : IsReportBeforeOver (socket_rules R) resolver loaded.script.events.items report
        → TellsFirstBy (TellsOver R input) input (report_text input.types input.format loaded.script.events.items report.events.items)
    tells_first_over before =
        let events = loaded.script.events.items in
        tells_first_by (TellsOver R input) order report before.count
        (within_over (socket_rules R) before.count events before.reported.last before.stopped)
        (front_is_over (socket_rules R) input.types input.format resolver events report before) (tells_over (take before.count events) before.reported)

-- ---- how a whole run ends

module _ (tells : ZoneContent → List Event → List ℕ → Type 0) (input : PlayInput) (same : Type 0) (old new : Option (List ℕ)) where
  -- nothing was written, and this was the fault
  pub silent_end : (fault : PlayFault) → Faults input fault → same → IsPlayed tells input same old new (Err fault)
  silent_end fault faults unwritten = record {
    read = tt;
    fault = faults;
    silent = λ _. unwritten;
    told = tt;
    stopped = λ _. inl unwritten;
  }

  -- the link could not be opened
  pub unopened_end : (error : LinkError) (loaded : Loaded) → IsLoaded input loaded → input.udp ≡ true → same
      → IsPlayed tells input same old new (Err (link_fault error))
  unopened_end links.Failed loaded is udp unwritten = silent_end plays.Sockets (udp, has_files input loaded is) unwritten
  unopened_end links.Memory loaded is udp unwritten = silent_end plays.Memory (zone_is input loaded is) unwritten

  -- the report could not be written
  pub unwritten_end : IsRead input → IsPlayed tells input same old new (Err Write)
  unwritten_end read = record {
    read = tt;
    fault = read;
    silent = λ before. absurd before;
    told = tt;
    stopped = λ e. absurd (cc e);
  }

  -- the whole report was written
  pub told_end : (report : List ℕ) → IsRead input → TellsAllBy tells input report → Appends old new report → IsPlayed tells input same old new (Ok tt)
  told_end report read tells written = record {
    read = read;
    fault = tt;
    silent = tt;
    told = (report, tells, written);
    stopped = tt;
  }

  -- what was reported before memory ran out was written
  pub stopped_end : (report : List ℕ) → IsZone input → TellsFirstBy tells input report → Appends old new report
      → IsPlayed tells input same old new (Err plays.Memory)
  stopped_end report zone tells written = record {
    read = tt;
    fault = zone;
    silent = λ before. absurd before;
    told = tt;
    stopped = λ _. inr (report, tells, written);
  }

  -- all events were told, or those before a fault, or none
  pub told_or_not : {L : Type 0} (rules : LinkRules L) (loaded : Loaded) → IsLoaded input loaded → (resolver : Resolver (WireHandle L))
      → (result : Result (Unit {0}) PlayFault) → AreTold rules input loaded.script resolver same old new result
      → (InOrder 0 loaded.script.events.items → (report : Report) → IsReportOver rules resolver loaded.script.events.items report
      → TellsAllBy tells input (report_text input.types input.format loaded.script.events.items report.events.items))
      → (InOrder 0 loaded.script.events.items → (report : Report) → IsReportBeforeOver rules resolver loaded.script.events.items report
      → TellsFirstBy tells input (report_text input.types input.format loaded.script.events.items report.events.items))
      → IsPlayed tells input same old new result
  told_or_not rules loaded is resolver (Ok done) t all first =
      told_end (report_text input.types input.format loaded.script.events.items t.told.0.events.items) (is_read input loaded is t.order)
      (all t.order t.told.0 t.told.1) t.told.2
  told_or_not rules loaded is resolver (Err (plays.Script line)) t all first =
      silent_end (plays.Script line) (moment_is_at_fault input loaded is line t.early.0) t.early.1
  told_or_not rules loaded is resolver (Err plays.Memory) t all first =
      let t = t.early in
      stopped_end (report_text input.types input.format loaded.script.events.items t.1.0.events.items) (zone_is input loaded is)
      (first t.0 t.1.0 t.1.1) t.1.2
  told_or_not rules loaded is resolver (Err plays.Write) t all first = unwritten_end (is_read input loaded is t.early)
  told_or_not rules loaded is resolver (Err (plays.Zone fault)) t all first = absurd t.early
  told_or_not rules loaded is resolver (Err (plays.Hosts fault)) t all first = absurd t.early
  told_or_not rules loaded is resolver (Err plays.Sockets) t all first = absurd t.early

-- ---- runs over links

-- what a resolver over a link tells, one over another link tells, if it runs as that
are_told_as : {T L : Type 0} (rules : LinkRules T) (others : LinkRules L) (input : PlayInput) (script : ScriptText)
    (resolver : Resolver (WireHandle T)) (other : Resolver (WireHandle L)) (same : Type 0) (old new : Option (List ℕ))
    (result : Result (Unit {0}) PlayFault) → RunsAs rules others resolver other
    → AreTold rules input script resolver same old new result → AreTold others input script other same old new result
are_told_as rules others input script resolver other same old new (Ok done) runs_as t =
    record { order = t.order; told = (t.told.0, runs_as.runs script.events.items t.told.0 t.told.1, t.told.2); early = tt }
are_told_as rules others input script resolver other same old new (Err (plays.Script line)) runs_as t =
    record { order = tt; told = tt; early = t.early }
are_told_as rules others input script resolver other same old new (Err plays.Memory) runs_as t = record {
  order = tt;
  told = tt;
  early = (t.early.0, (t.early.1.0, runs_as.stops script.events.items t.early.1.0 t.early.1.1, t.early.1.2));
}
are_told_as rules others input script resolver other same old new (Err plays.Write) runs_as t =
    record { order = tt; told = tt; early = t.early }
are_told_as rules others input script resolver other same old new (Err (plays.Zone fault)) runs_as t = absurd t.early
are_told_as rules others input script resolver other same old new (Err (plays.Hosts fault)) runs_as t = absurd t.early
are_told_as rules others input script resolver other same old new (Err plays.Sockets) runs_as t = absurd t.early

-- resolvers that begin over a link run as others that begin over another
abbrev pub RunAs : {T L : Type 0} → LinkRules T → LinkRules L → T → L → Type 0
RunAs {T} {L} rules others link other_link =
    (ids : List ℕ) (config : ResolverConfig) (options : ResolverOpts) (hosts : HostsContent) (resolver : Resolver (WireHandle T))
    → IsFirstOver link ids config options hosts resolver
    → (other : Resolver (WireHandle L)) × IsFirstOver other_link ids config options hosts other × RunsAs rules others resolver other

pub played_as : {T L : Type 0} (rules : LinkRules T) (others : LinkRules L) (input : PlayInput) (link : T) (other_link : L)
    (hosts : HostsContent) (script : ScriptText) (same : Type 0) (old new : Option (List ℕ)) (result : Result (Unit {0}) PlayFault)
    → RunAs rules others link other_link → IsPlayedOver rules input link hosts script same old new result
    → IsPlayedOver others input other_link hosts script same old new result
played_as rules others input link other_link hosts script same old new result run_as (inl none) = inl none
played_as rules others input link other_link hosts script same old new result run_as (inr (resolver, first, told)) =
    let other = run_as first.ids (config_of_servers []) (play_options input) hosts resolver first.first in
    inr (
      other.0,
      record { ids = first.ids; first = other.1; counted = first.counted; all = first.all },
      are_told_as rules others input script resolver other.0 same old new result other.2 told,
    )

-- there was no memory for the resolver
unplayed : (tells : ZoneContent → List Event → List ℕ → Type 0) (input : PlayInput) (loaded : Loaded) (is : IsLoaded input loaded)
    (same : Type 0) (old new : Option (List ℕ)) (result : Result (Unit {0}) PlayFault) → result ≡ Err plays.Memory → same
    → IsPlayed tells input same old new result
unplayed tells input loaded is same old new result out unwritten =
    subst (λ (r : Result (Unit {0}) PlayFault). IsPlayed tells input same old new r) (sym out)
    (silent_end tells input same old new plays.Memory (zone_is input loaded is) unwritten)

-- resolvers over the scripted link run in states
abbrev pub RunInStates : Type 0
RunInStates =
    (zone : ZoneContent) (limit : ℕ) (ids : List ℕ) (config : ResolverConfig) (options : ResolverOpts) (hosts : HostsContent)
    (link : ScriptedLink) (resolver : Resolver (WireHandle ScriptedLink)) → IsAt link (first_link_state zone limit)
    → IsFirstOver link ids config options hosts resolver
    → (state : RunState) × IsFirst zone limit ids config options hosts state × RunsFrom resolver state

-- a whole run over the scripted link
pub played_in_memory : (input : PlayInput) (loaded : Loaded) (is : IsLoaded input loaded) → RunsHold → IsZoneContent loaded.zone
    → AreAskable loaded.script.events.items → input.limit < 2 ^ 16 → RunInStates → (link : ScriptedLink)
    → IsAt link (first_link_state loaded.zone input.limit) → (same : Type 0) (old new : Option (List ℕ))
    (result : Result (Unit {0}) PlayFault) → IsPlayedOver scripted_rules input link loaded.hosts loaded.script same old new result
    → IsPlayed (Tells input) input same old new result
played_in_memory input loaded is laws zone askable limit states link at same old new result (inl none) =
    unplayed (Tells input) input loaded is same old new result none.0 none.1
played_in_memory input loaded is laws zone askable limit states link at same old new result (inr (resolver, first, told)) =
    let begun =
    states loaded.zone input.limit first.ids (config_of_servers []) (play_options input) loaded.hosts link resolver at first.first in
    let start : IsStart input loaded.zone loaded.hosts begun.0 =
    record { ids = first.ids; first = begun.1; counted = first.counted; all = first.all } in
    told_or_not (Tells input) input same old new scripted_rules loaded is resolver result told
    (λ order report over. tells_all input loaded is laws zone order askable limit begun.0 start report
    (begun.2.runs loaded.script.events.items report over))
    (λ order report over. tells_first input loaded is laws zone order askable limit begun.0 start report
    (begun.2.stops loaded.script.events.items report over))

-- a whole run over sockets
pub played_over_sockets : {R : Type 0} (input : PlayInput) (loaded : Loaded) (is : IsLoaded input loaded) (link : SocketLink R)
    → link.zone ≡ loaded.zone → link.limit ≡ input.limit → (same : Type 0) (old new : Option (List ℕ))
    (result : Result (Unit {0}) PlayFault) → IsPlayedOver (socket_rules R) input link loaded.hosts loaded.script same old new result
    → IsPlayed (TellsOver R input) input same old new result
played_over_sockets {R} input loaded is link zone limit same old new result (inl none) =
    unplayed (TellsOver R input) input loaded is same old new result none.0 none.1
played_over_sockets {R} input loaded is link zone limit same old new result (inr (resolver, first, told)) =
    let start = starts_over input loaded.zone loaded.hosts link resolver zone limit first in
    told_or_not (TellsOver R input) input same old new (socket_rules R) loaded is resolver result told
    (λ order report over. tells_all_over input loaded is order resolver start report over)
    (λ order report over. tells_first_over input loaded is order resolver start report over)

-- ---- runs with replies that the script gives

-- the first events of a list are as many as they are
take_again : {A : Type 0} (count : ℕ) (xs : List A) → take count xs ≡ take (length (take count xs)) xs
take_again zero xs = refl
take_again (suc count) [] = refl
take_again {A} (suc count) (x ∷ xs) = ap (λ (ys : List A). x ∷ ys) (take_again count xs)

all_taken : {A : Type 0} (xs : List A) → xs ≡ take (length xs) xs
all_taken [] = refl
all_taken {A} (x ∷ xs) = ap (λ (ys : List A). x ∷ ys) (all_taken xs)

module _ (input : PlayInput) (loaded : Loaded) (is : IsLoaded input loaded) (replies : List GivenReply) (link : GivenLink ScriptedLink)
    (given : IsGivenLink loaded.zone input.limit loaded.script.lines.items replies link)
    (resolver : Resolver (WireHandle (GivenLink ScriptedLink))) (first : IsFirstOfPlay input link loaded.hosts resolver) where
  tells_given : (told : List Event) (report : Report) → told ≡ take (length told) loaded.script.events.items
      → IsReportOver given_rules resolver told report
      → TellsGiven input replies loaded.zone told (report_text input.types input.format told report.events.items)
  tells_given told report front reported = record {
    hosts = loaded.hosts;
    script = numbered loaded.script;
    link = link;
    resolver = resolver;
    report = report;
    is_zone = is.zone;
    are_hosts = is.hosts;
    is_script = is.script;
    events_are = subst (λ (es : List Event). told ≡ take (length told) es)
        (sym (events_beside loaded.script.lines.items loaded.script.events.items is.beside)) front;
    is_link = subst (λ (lines : List ℕ). IsGivenLink loaded.zone input.limit lines replies link)
        (sym (lines_beside loaded.script.lines.items loaded.script.events.items is.beside)) given;
    first = first;
    reported = reported;
    is_text = refl;
  }

  tells_all_given : InOrder 0 loaded.script.events.items → (report : Report)
      → IsReportOver given_rules resolver loaded.script.events.items report
      → TellsAllBy (TellsGiven input replies) input (report_text input.types input.format loaded.script.events.items report.events.items)
  tells_all_given order report reported =
      let events = loaded.script.events.items in
      tells_all_by input loaded is (TellsGiven input replies) order report (tells_given events report (all_taken events) reported)

  tells_first_given : InOrder 0 loaded.script.events.items → (report : Report)
      → IsReportBeforeOver given_rules resolver loaded.script.events.items report
      → TellsFirstBy (TellsGiven input replies) input (report_text input.types input.format loaded.script.events.items report.events.items)
  tells_first_given order report before =
      let events = loaded.script.events.items in
      tells_first_by input loaded is (TellsGiven input replies) order report before.count
      (within_over given_rules before.count events before.reported.last before.stopped)
      (front_is_over given_rules input.types input.format resolver events report before)
      (tells_given (take before.count events) report (take_again before.count events) before.reported)

-- a whole run with such replies
pub played_given : (input : PlayInput) (loaded : Loaded) (is : IsLoaded input loaded) (replies : List GivenReply)
    (link : GivenLink ScriptedLink) → IsGivenLink loaded.zone input.limit loaded.script.lines.items replies link
    → (same : Type 0) (old new : Option (List ℕ)) (result : Result (Unit {0}) PlayFault)
    → IsPlayedOver given_rules input link loaded.hosts loaded.script same old new result
    → IsPlayed (TellsGiven input replies) input same old new result
played_given input loaded is replies link given same old new result (inl none) =
    unplayed (TellsGiven input replies) input loaded is same old new result none.0 none.1
played_given input loaded is replies link given same old new result (inr (resolver, first, told)) =
    told_or_not (TellsGiven input replies) input same old new given_rules loaded is resolver result told
    (tells_all_given input loaded is replies link given resolver first)
    (tells_first_given input loaded is replies link given resolver first)
