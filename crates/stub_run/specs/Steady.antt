-- What a run promises where the rows of the zone do not change, for all types: its lookups return what stands in the zone as it is.
use Rattle.std.specs.Prelude.{List, [], ◌∷◌}
use Rattle.dns_names.specs.Name.{DomainName}
use Rattle.stub_cache.specs.Ttl.{TtlConfigContent}
use Rattle.stub_core.specs.declared.resolver.settings.Settings.{Settings}
use Rattle.stub_link.specs.History.{Occasion, Past, first_past, past_after_occasion}
use Rattle.stub_laws.specs.answers.Steady.{always}
use Rattle.stub_run.specs.Headline.{WorldContent, settings_of, ttls_of}
use Rattle.stub_run.specs.Walked.{IsUnchanged, past_since}
use Rattle.stub_run.specs.Whole.{IsStandingReply}
use Rattle.stub_run.specs.declared.event.Event.{Event}
use Rattle.stub_run.specs.declared.report.EventReport.{EventReport}

-- If no delivery changed the rows since the last full clear, or the start, up to the end of the event, its reply stood in a zone that
-- always had these rows.
abbrev pub IsSteadyEvent : TtlConfigContent → DomainName → Settings → Past → Past → Event → EventReport → Type 0
IsSteadyEvent ttls origin settings first after e report =
    IsUnchanged first after.history → IsStandingReply ttls origin (always first.zone.rows) settings report.faults e.at e.action report.reply

-- event by event
abbrev pub AreSteadyEvents : TtlConfigContent → DomainName → Settings → Past → Past → List Event → List EventReport → List Occasion → Type 0
AreSteadyEvents ttls origin settings first past [] [] [] = Unit {0}
AreSteadyEvents ttls origin settings first past (e ∷ events) (report ∷ reports) (occasion ∷ occasions) =
    IsSteadyEvent ttls origin settings (past_since e.action first past) (past_after_occasion past occasion) e report
    × AreSteadyEvents ttls origin settings (past_since e.action first past) (past_after_occasion past occasion) events reports occasions
AreSteadyEvents ttls origin settings first past events reports occasions = ⊥

-- Where the rows do not change, the replies to the lookups of a run with these occasions stood in the zone as it is.
abbrev pub AreSteady : WorldContent → List Event → List EventReport → List Occasion → Type 0
AreSteady content events reports occasions =
    AreSteadyEvents (ttls_of content) content.zone.origin (settings_of content) (first_past content.zone) (first_past content.zone) events
    reports occasions
