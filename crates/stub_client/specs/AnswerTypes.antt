-- The types of answers: the type that was asked for, and aliases.
use Rattle.std.specs.Prelude.{◌≡◌, ◌||◌, Bool, true, All, Ok, Err}
use Rattle.dns_wire.specs.declared.codes.record_type.RecordType.TheVariants as types
use Rattle.dns_records.specs.Record.{Record}
use Rattle.dns_messages.specs.Response.{has_type}
use Rattle.dns_messages.specs.declared.message.Message.{Message}
use Rattle.dns_messages.specs.declared.query.Query.{Query}
use Rattle.stub_cache.specs.Cache.{CacheContent, Kept}
use Rattle.stub_client.specs.Looks.{Reply}
use Rattle.stub_client.specs.Step.{asks_for}

-- whether a record has the type that is asked for, or is an alias
abbrev pub is_asked_or_alias : Query → Record → Bool
is_asked_or_alias q r = asks_for q r || has_type types.CNAME r

-- each answer has the type that was asked for, or is an alias
abbrev pub HasAskedTypes : Query → Message → Type 0
HasAskedTypes q m = All (λ r. is_asked_or_alias q r ≡ true) m.answers

-- the same of a response that is kept
abbrev pub KeptHasAskedTypes : Query → Kept → Type 0
KeptHasAskedTypes q (Ok m) = HasAskedTypes q m
KeptHasAskedTypes q (Err answer) = Unit {0}

-- the same of each entry of a cache
abbrev pub CacheHasAskedTypes : CacheContent → Type 0
CacheHasAskedTypes cache = All (λ e. KeptHasAskedTypes e.question e.kept) cache.entries

-- the same of what a lookup returns
abbrev pub ReplyHasAskedTypes : Query → Reply → Type 0
ReplyHasAskedTypes q (Ok lookup) = HasAskedTypes q lookup.message
ReplyHasAskedTypes q (Err error) = Unit {0}
