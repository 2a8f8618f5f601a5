-- What a zone has for a question at a name (RFC 1034 section 4.3.2 step 3).
use Rattle.std.specs.Prelude.{◌==◌, ◌-◌, ◌&&◌, ◌||◌, not, true, false, length, map, slice_get, if◌then◌else◌, is_some, Bool, List, [], ◌∷◌, ℕ, Option, Some, None}
use Rattle.std.specs.Option.{option_or}
use Rattle.dns_wire.specs.codes.RecordType.{type_number}
use Rattle.dns_wire.specs.declared.codes.record_type.RecordType.{RecordType}
use Rattle.dns_wire.specs.declared.codes.record_type.RecordType.TheVariants as types
use Rattle.dns_names.specs.Name.{DomainName}
use Rattle.dns_names.specs.Build.{base_name}
use Rattle.dns_text.specs.Usage.{is_loopback, is_nonexistent}
use Rattle.dns_data.specs.declared.rdata.RData.{RData}
use Rattle.dns_data.specs.declared.rdata.RData.TheVariants as of
use Rattle.dns_messages.specs.declared.response_code.ResponseCode.{ResponseCode}
use Rattle.dns_messages.specs.declared.response_code.ResponseCode.TheVariants.{NoError, NXDomain, Refused, ServFail, YXDomain}
use Rattle.dns_records.specs.Record.{Record}
use Rattle.dns_records.specs.declared.row.Row.{Row}
use Rattle.dns_zone.specs.Rows.{ZoneContent, rows_at}
use Rattle.dns_zone.specs.Answer.{authority, record_of}
use Rattle.dns_server.specs.Zones.{closest}
use Rattle.dns_authority.specs.steps.Barrier.{barrier, is_cut, is_ds}
use Rattle.dns_authority.specs.steps.Wildcard.{answering_name}
use Rattle.dns_authority.specs.steps.Redirection.{dname_target, with_target}
use Rattle.dns_authority.specs.declared.answer.AuthorityAnswer.{AuthorityAnswer}
use Rattle.dns_authority.specs.declared.asked.Asked.{Asked}
use Rattle.dns_authority.specs.declared.step.Step.{Step}
use Rattle.dns_authority.specs.declared.step.Step.TheVariants.{End, Links}
use Rattle.dns_authority.specs.Asked.{asked_rows, is_any}

-- ---- answers

-- an answer without records, by a server without authority
abbrev pub refusal : ResponseCode → AuthorityAnswer
refusal code = record { code = code; authoritative = false; answers = []; authorities = []; additionals = [] }

-- an authoritative answer with a code, and these records
abbrev pub authoritative_answer : ResponseCode → List Record → List Record → AuthorityAnswer
authoritative_answer code answers authorities = record {
  code = code;
  authoritative = true;
  answers = answers;
  authorities = authorities;
  additionals = [];
}

-- the answer with these records
abbrev pub positive : List Record → AuthorityAnswer
positive records = authoritative_answer NoError records []

-- the answer where there are no records: the SOA record with the negative TTL (RFC 2308 section 3)
abbrev pub negative : ZoneContent → ResponseCode → AuthorityAnswer
negative zone code = authoritative_answer code [] (authority zone)

-- a referral: the NS records of a zone cut, without authority (RFC 1034 section 4.2.1)
abbrev pub referral : ZoneContent → DomainName → AuthorityAnswer
referral zone cut = record (refusal NoError) {
  authorities = map (record_of cut) (rows_at zone.rows cut.labels types.NS);
}

-- ---- zones

-- the zone at a place
abbrev pub zone_at : List ZoneContent → Option ℕ → Option ZoneContent
zone_at zones None = None
zone_at zones (Some place) = slice_get zones place

-- the zone with the closest origin at or above a name (RFC 1034 section 4.3.2 step 2)
abbrev pub closest_zone : List ZoneContent → List (List ℕ) → Option ZoneContent
closest_zone zones labels = zone_at zones (closest zones labels)

-- The zone of a question: that with the closest origin at or above the name, but for DS the closest above it, if there is one
-- (RFC 4035 section 3.1.4.1).
abbrev pub zone_for : List ZoneContent → RecordType → DomainName → Option ZoneContent
zone_for zones t name =
    if is_ds t then option_or (closest_zone zones (base_name name).labels) (closest_zone zones name.labels)
    else closest_zone zones name.labels

-- ---- aliases (RFC 1034 section 3.6.2)

-- whether an alias is followed to a name: to one in a zone that is served, which is not a special-use name (RFC 6761)
abbrev pub is_followed : List ZoneContent → DomainName → Bool
is_followed zones name =
    is_some (closest_zone zones name.labels) && not (is_loopback name || is_nonexistent name)

-- the name at which an answer goes on, if it does
abbrev pub followed : List ZoneContent → Option DomainName → Option DomainName
followed zones None = None
followed zones (Some name) = if is_followed zones name then Some name else None

-- the target of an alias
abbrev pub alias_target : RData → Option DomainName
alias_target (of.CNAME cname) = Some cname.0
alias_target other = None

-- the step along an alias of a name
abbrev pub alias_step : List ZoneContent → DomainName → Row → Step
alias_step zones owner alias = Links (record_of owner alias ∷ []) (followed zones (alias_target alias.rdata))

-- ---- rows

-- The step from records of the type and aliases: the records, or else the alias, or else no data.
abbrev pub step_by : List ZoneContent → ZoneContent → DomainName → List Record → List Row → Step
step_by zones zone owner [] [] = End (negative zone NoError)
step_by zones zone owner [] (alias ∷ more) = alias_step zones owner alias
step_by zones zone owner (r ∷ records) aliases = End (positive (r ∷ records))

-- the step from the rows at a name: their owner is the name that is asked for
abbrev pub step_from : List ZoneContent → ZoneContent → Asked → DomainName → DomainName → Step
step_from zones zone asked owner source =
    step_by zones zone owner (map (record_of owner) (asked_rows asked zone.rows source.labels))
    (rows_at zone.rows source.labels types.CNAME)

-- the step where no barrier is: from the rows of a name or a wildcard, or there is no such name
abbrev pub step_at : List ZoneContent → ZoneContent → Asked → DomainName → Option DomainName → Step
step_at zones zone asked owner None = End (negative zone NXDomain)
step_at zones zone asked owner (Some source) = step_from zones zone asked owner source

-- ---- DNAME records (RFC 6672 section 3.2)

-- whether a type is that of the synthesized alias, which then answers the question
abbrev pub is_alias_type : RecordType → Bool
is_alias_type t = type_number t == 5 || is_any t

-- the alias that is synthesized from a DNAME record: it has the TTL of that record (RFC 6672 section 3.1)
abbrev pub synthesized : DomainName → Row → DomainName → Record
synthesized owner dname target =
    record_of owner (record { ttl = dname.ttl; rdata = of.CNAME (record { 0 = target }) })

-- the name at which an answer goes on after a synthesized alias
abbrev pub followed_for : List ZoneContent → RecordType → DomainName → Option DomainName
followed_for zones t target = if is_alias_type t then None else followed zones (Some target)

-- the step by a DNAME record with the name that it makes, or without one where that has more than 255 bytes
abbrev pub redirected : List ZoneContent → RecordType → DomainName → DomainName → Row → Option DomainName → Step
redirected zones t owner at dname None = End (authoritative_answer YXDomain (record_of at dname ∷ []) [])
redirected zones t owner at dname (Some target) =
    Links (record_of at dname ∷ synthesized owner dname target ∷ []) (followed_for zones t target)

-- the name that a DNAME record at a name makes of a name below
abbrev pub redirect : DomainName → DomainName → DomainName → Option DomainName
redirect owner at target = with_target owner (length owner.labels - length at.labels) target

-- the step by a DNAME record with a target; data that is no name is a failure of the server
abbrev pub step_to : List ZoneContent → RecordType → DomainName → DomainName → Row → Option DomainName → Step
step_to zones t owner at dname None = End (refusal ServFail)
step_to zones t owner at dname (Some target) = redirected zones t owner at dname (redirect owner at target)

-- the step by the DNAME records at a name, of which there is one (RFC 6672 section 2.4)
abbrev pub step_below : List ZoneContent → RecordType → DomainName → DomainName → List Row → Step
step_below zones t owner at [] = End (refusal ServFail)
step_below zones t owner at (dname ∷ more) = step_to zones t owner at dname (dname_target dname.rdata)

-- ---- steps

-- the step at a barrier: a referral at a zone cut, or else by a DNAME record
abbrev pub step_over : List ZoneContent → ZoneContent → RecordType → DomainName → DomainName → Step
step_over zones zone t owner at =
    if is_cut zone at then End (referral zone at)
    else step_below zones t owner at (rows_at zone.rows at.labels types.DNAME)

-- the step in a zone, by its barrier on the way to a name
abbrev pub step_with : List ZoneContent → ZoneContent → Asked → DomainName → Option DomainName → Step
step_with zones zone asked owner None = step_at zones zone asked owner (answering_name zone.rows owner)
step_with zones zone asked owner (Some at) = step_over zones zone asked.record_type owner at

-- the step in a zone, or a refusal without one (RFC 1035 section 4.1.1)
abbrev pub step_in : List ZoneContent → Asked → DomainName → Option ZoneContent → Step
step_in zones asked owner None = End (refusal Refused)
step_in zones asked owner (Some zone) = step_with zones zone asked owner (barrier zone asked.record_type owner)

-- the step at a name, in the zone of the question
abbrev pub step : List ZoneContent → Asked → DomainName → Step
step zones asked owner = step_in zones asked owner (zone_for zones asked.record_type owner)
