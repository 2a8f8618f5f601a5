-- Bounds of TTLs, and how long answers are stored (RFC 2181 sections 5.2 and 8, RFC 2308 section 5).
use Rattle.std.specs.Prelude.{ℕ, Bool, false, ◌==◌, ◌||◌, ◌-◌, ◌++◌, nat_lt, min, max, List, [], ◌∷◌, map, Option, Some, None, option_map, Result, Ok, Err, if◌then◌else◌}
use Rattle.std.specs.BTreeMap.{insert_entry, is_at}
use Rattle.std.specs.List.{filter}
use Rattle.std.specs.Map.{lookup}
use Rattle.std.specs.Option.{unwrap_or}
use Rattle.std.specs.Ordering.{nat_cmp}
use Rattle.std.specs.Result.{result_map_both}
use Rattle.std.specs.declared.ops.RangeInclusive.{RangeInclusive}
use Rattle.dns_wire.specs.codes.RecordType.{type_number}
use Rattle.dns_wire.specs.declared.codes.record_type.RecordType.{RecordType}
use Rattle.dns_wire.specs.declared.codes.record_type.RecordType.TheVariants as types
use Rattle.dns_data.specs.rdata.{data_type}
use Rattle.dns_records.specs.Record.{Record, after_seconds}
use Rattle.dns_messages.specs.Response.{has_type}
use Rattle.dns_messages.specs.declared.message.Message.{Message}
use Rattle.stub_config.specs.declared.options.ResolverOpts.{ResolverOpts}
use Rattle.stub_lookup.specs.Lookup.{max_ttl}
use Rattle.stub_lookup.specs.declared.error.ForwardNSData.{ForwardNSData}
use Rattle.stub_lookup.specs.declared.error.NoRecords.{NoRecords}
use Rattle.stub_cache.specs.declared.ttl.TtlBounds.{TtlBounds}
use Rattle.stub_cache.specs.declared.ttl.TtlBoundsError.{TtlBoundsError}
use Rattle.stub_cache.specs.declared.ttl.TtlBoundsError.TheVariants.{MinimumAboveMaximum}

-- ---- bounds

-- the least and the greatest TTL, in seconds
pub record TtlRange : Type 0 where
  pub least : ℕ
  pub greatest : ℕ

-- A minimum that is not set is 0, and a maximum that is not set is one day.
abbrev pub range_of : Option ℕ → Option ℕ → TtlRange
range_of minimum maximum = record { least = unwrap_or minimum 0; greatest = unwrap_or maximum max_ttl }

-- the range of the TTLs of records
abbrev pub positive_range : TtlBounds → TtlRange
positive_range bounds = range_of bounds.positive_min bounds.positive_max

-- the range of the times for which negative answers are stored
abbrev pub negative_range : TtlBounds → TtlRange
negative_range bounds = range_of bounds.negative_min bounds.negative_max

-- whether the minimum is above the maximum
abbrev pub is_reversed : TtlRange → Bool
is_reversed range = nat_lt range.greatest range.least

-- whether a minimum is above its maximum
abbrev pub are_reversed : TtlBounds → Bool
are_reversed bounds = is_reversed (positive_range bounds) || is_reversed (negative_range bounds)

-- the bounds, or the error that a minimum is above its maximum
abbrev pub checked_bounds : TtlBounds → Result TtlBounds TtlBoundsError
checked_bounds bounds = if are_reversed bounds then Err MinimumAboveMaximum else Ok bounds

-- a configuration: the default bounds, and others for some types, by the number of the type
pub record TtlConfigContent : Type 0 where
  pub default : TtlBounds
  pub by_query_type : List (ℕ × TtlBounds)

-- the bounds that were set for a type, which is taken by its number
abbrev pub own_bounds : TtlConfigContent → RecordType → Option TtlBounds
own_bounds config kind = lookup (is_at (nat_cmp (type_number kind))) config.by_query_type

-- the bounds of a type, which is taken by its number: its own, or the default ones
abbrev pub bounds_of : TtlConfigContent → RecordType → TtlBounds
bounds_of config kind = unwrap_or (lookup (is_at (nat_cmp (type_number kind))) config.by_query_type) config.default

-- the range as a value of std, from which nothing has been taken
abbrev pub closed_range : TtlRange → RangeInclusive ℕ
closed_range range = record { start = range.least; end = range.greatest; exhausted = false }

-- a TTL within a range
abbrev pub clamp : TtlRange → ℕ → ℕ
clamp range ttl = min (max ttl range.least) range.greatest

-- ---- configurations

-- nothing is set
abbrev pub default_bounds : TtlBounds
default_bounds = record { positive_min = None; negative_min = None; positive_max = None; negative_max = None }

-- the same bounds for all types
abbrev pub plain_config : TtlBounds → TtlConfigContent
plain_config bounds = record { default = bounds; by_query_type = [] }

-- the bounds that the options of a resolver set
abbrev pub bounds_of_options : ResolverOpts → TtlBounds
bounds_of_options options = record {
  positive_min = options.positive_min_ttl;
  negative_min = options.negative_min_ttl;
  positive_max = options.positive_max_ttl;
  negative_max = options.negative_max_ttl;
}

-- the configuration that the options of a resolver set, or the error that a minimum is above its maximum
abbrev pub checked_config : ResolverOpts → Result TtlConfigContent TtlBoundsError
checked_config options = result_map_both plain_config (λ error. error) (checked_bounds (bounds_of_options options))

-- a configuration with bounds for a type, which replace those that it had
abbrev pub config_with : TtlConfigContent → RecordType → TtlBounds → TtlConfigContent
config_with config kind bounds = record config {
  by_query_type = insert_entry nat_cmp config.by_query_type (type_number kind) bounds;
}

-- ---- records within bounds

-- a message with its records mapped, section by section
abbrev pub map_records : (Record → Record) → Message → Message
map_records f m = record m {
  answers = map f m.answers;
  authorities = map f m.authorities;
  additionals = map f m.additionals;
}

-- a record with its TTL within the positive bounds of its own type
abbrev pub clamped_record : TtlConfigContent → Record → Record
clamped_record config r = record r { ttl = clamp (positive_range (bounds_of config (data_type r.rdata))) r.ttl }

-- a message with the TTL of each record within the positive bounds of its type
abbrev pub clamped : TtlConfigContent → Message → Message
clamped config m = map_records (clamped_record config) m

-- ---- lifetimes

-- the lesser of a TTL and another one, if there is one
abbrev pub lesser : ℕ → Option ℕ → ℕ
lesser ttl None = ttl
lesser ttl (Some other) = min ttl other

-- the least TTL of some records
abbrev pub least_ttl : List Record → Option ℕ
least_ttl [] = None
least_ttl (r ∷ rs) = Some (lesser r.ttl (least_ttl rs))

-- Which records decide how long a response is stored: the answers of the type that was asked for, and the aliases that lead to
-- them; for NS, the NS records of the answer and authority sections (RFC 1034 section 4.2.1).
abbrev pub deciding_records : RecordType → Message → List Record
deciding_records kind m =
    if type_number kind == 2 then filter (has_type types.NS) (m.answers ++ m.authorities)
    else filter (λ r. has_type kind r || has_type types.CNAME r) m.answers

-- a TTL brought within a range, or the least of the range if there is none
abbrev pub lifetime_within : TtlRange → Option ℕ → ℕ
lifetime_within range ttl = unwrap_or (option_map (clamp range) ttl) range.least

-- How long a response is stored, in seconds. The TTLs of its records are within their bounds already.
abbrev pub positive_lifetime : TtlConfigContent → RecordType → Message → ℕ
positive_lifetime config kind m =
    lifetime_within (positive_range (bounds_of config kind)) (least_ttl (deciding_records kind m))

-- how long a negative answer is stored, in seconds (RFC 2308 section 5)
abbrev pub negative_lifetime : TtlConfigContent → RecordType → NoRecords → ℕ
negative_lifetime config kind answer = lifetime_within (negative_range (bounds_of config kind)) answer.negative_ttl

-- ---- ageing: TTLs are reduced by the seconds that have passed, to 0 at the least (RFC 1034 section 5.3.3)

-- a name server with the TTLs that are left
abbrev pub aged_referral : ℕ → ForwardNSData → ForwardNSData
aged_referral seconds r = record { ns = after_seconds seconds r.ns; glue = map (after_seconds seconds) r.glue }

-- a message with the TTLs that are left
abbrev pub aged_message : ℕ → Message → Message
aged_message seconds m = map_records (after_seconds seconds) m

-- a negative answer with the TTLs that are left: its own, and those of all its records
abbrev pub aged_answer : ℕ → NoRecords → NoRecords
aged_answer seconds answer = record answer {
  soa = option_map (after_seconds seconds) answer.soa;
  ns = option_map (map (aged_referral seconds)) answer.ns;
  negative_ttl = option_map (λ ttl. ttl - seconds) answer.negative_ttl;
  authorities = option_map (map (after_seconds seconds)) answer.authorities;
}
