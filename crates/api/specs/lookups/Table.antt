-- A resolver, and its lookups by number.
use Rattle.std.specs.Prelude.{◌≡◌, ◌≢◌, ◌==◌, ◌^◌, ◌-◌, if◌then◌else◌, List, ℕ, suc, Option, Some, None, Result, Ok, Err, length}
use Rattle.std.specs.BTreeMap.{get}
use Rattle.std.specs.Ordering.{nat_cmp}
use Rattle.std.specs.declared.net.socket_addr.SocketAddr.{SocketAddr}
use Rattle.api.specs.buffer.Arguments.{name_in}
use Rattle.api.specs.declared.buffer.refusal.Refusal.TheVariants as buffer
use Rattle.api.specs.lookups.Answers.{IsAnswer}
use Rattle.api.specs.lookups.Endpoint.{IsEndpoint, endpoint_len}
use Rattle.api.specs.lookups.Servers.{AreServers, options_of}
use Rattle.api.specs.declared.lookups.refusal.LookupRefusal.{LookupRefusal}
use Rattle.api.specs.declared.lookups.refusal.LookupRefusal.TheVariants as refusal
use Rattle.api.specs.declared.lookups.table.LookupTable.{LookupTable}
use Rattle.api_resolver.specs.Lookup.{Goes, IsFresh, TakesEvent, awaited_in, course_of}
use Rattle.api_resolver.specs.Lookup as lookups
use Rattle.api_resolver.specs.declared.event.Arrival.{Arrival}
use Rattle.api_resolver.specs.declared.event.Arrival.TheVariants.{Failed, TimedOut}
use Rattle.api_resolver.specs.declared.exchange.Awaited.{Awaited}
use Rattle.api_resolver.specs.declared.lookup.OpenLookup.{OpenLookup}
use Rattle.api_resolver.specs.declared.resolver.StepResolver.{StepResolver}
use Rattle.dns_wire.specs.codes.RecordType.{type_of}
use Rattle.dns_names.specs.Name.{DomainName}
use Rattle.stub_config.specs.declared.config.ResolverConfig.{ResolverConfig}

-- ---- tables

-- the lookup with a number, if there is one
abbrev pub lookup_at : LookupTable → ℕ → Option OpenLookup
lookup_at table number = get nat_cmp table.lookups number

-- the lookups of a table after those of another, with something else at a number
abbrev pub HasAt : ℕ → Option OpenLookup → LookupTable → LookupTable → Type 0
HasAt number found old new = (k : ℕ) → lookup_at new k ≡ (if k == number then found else lookup_at old k)

-- a table before its first lookup
pub record IsFirstTable (servers : List ℕ) (timeout attempts cache_size : ℕ) (table : LookupTable) : Type 0 where
  pub config : ResolverConfig
  pub are_servers : AreServers servers config
  pub is_fresh : IsFresh config (options_of attempts cache_size) timeout table.resolver
  pub no_lookups : (k : ℕ) → lookup_at table k ≡ None
  pub first_number : table.next ≡ 1

-- ---- begin

-- why a text is no name
abbrev pub IsUnnamed : List ℕ → LookupRefusal → Type 0
IsUnnamed text refusal.Name = name_in text ≡ Err buffer.Name
IsUnnamed text refusal.Memory = Unit {0}
IsUnnamed text other = ⊥

-- why a lookup is not begun
abbrev pub IsUnbegun : LookupTable → List ℕ → LookupRefusal → Type 0
IsUnbegun old text refusal.NoNumber = old.next ≡ 2 ^ 64 - 1
IsUnbegun old text reason = IsUnnamed text reason

-- the resolver of a table begins the lookup of the records of the name that a text is
pub record BeginsLookup (old : LookupTable) (text : List ℕ) (kind : ℕ) (ids : List ℕ) (clock : ℕ) (lookup : OpenLookup)
    (new : LookupTable) : Type 0 where
  pub name : DomainName
  pub name_is : name_in text ≡ Ok name
  pub goes : Goes old.resolver (course_of name (type_of kind) ids clock) clock lookup.state lookup.course new.resolver

-- A lookup begins under the next number. There may be no memory for it, and the cache may have what it found.
pub data Begins (old : LookupTable) (text : List ℕ) (kind : ℕ) (ids : List ℕ) (clock : ℕ)
    : Result ℕ LookupRefusal → LookupTable → Type 0 where
  lookup_begins : (lookup : OpenLookup) (result : Result ℕ LookupRefusal) (new : LookupTable) → result ≡ Ok old.next
      → BeginsLookup old text kind ids clock lookup new → HasAt old.next (Some lookup) old new → new.next ≡ suc old.next
      → Begins old text kind ids clock result new
  no_memory_for_lookup : (lookup : OpenLookup) (new : LookupTable) → BeginsLookup old text kind ids clock lookup new
      → ((k : ℕ) → lookup_at new k ≡ lookup_at old k) → new.next ≡ old.next
      → Begins old text kind ids clock (Err refusal.Memory) new
  is_refused : (reason : LookupRefusal) (new : LookupTable) → IsUnbegun old text reason → new ≡ old
      → Begins old text kind ids clock (Err reason) new

-- ---- the message to send

-- what a lookup awaits, after so many exchanges, or that it has ended
abbrev pub AwaitsIn : OpenLookup → Option Awaited → Result (ℕ × Awaited) LookupRefusal → Type 0
AwaitsIn lookup (Some awaited) result = result ≡ Ok (length lookup.course.known, awaited)
AwaitsIn lookup None result = result ≡ Err refusal.Ended

-- the same of the lookup with a number, if there is one
abbrev pub AwaitsAt : Option OpenLookup → Result (ℕ × Awaited) LookupRefusal → Type 0
AwaitsAt (Some lookup) result = AwaitsIn lookup (awaited_in lookup.state) result
AwaitsAt None result = result ≡ Err refusal.NoLookup

-- the same of a table
abbrev pub Awaits : LookupTable → ℕ → Result (ℕ × Awaited) LookupRefusal → Type 0
Awaits table number result = AwaitsAt (lookup_at table number) result

-- ---- steps

-- what a step makes of a lookup
abbrev pub LookupStep : Type 1
LookupStep = StepResolver → OpenLookup → OpenLookup → StepResolver → Type 0

-- a step of the lookup with a number; the others are as they were
pub record Steps (step : LookupStep) (number : ℕ) (old : LookupTable) (lookup : OpenLookup) (new : LookupTable) : Type 0 where
  pub after : OpenLookup
  pub steps : step old.resolver lookup after new.resolver
  pub lookups_are : HasAt number (Some after) old new
  pub same_next : new.next ≡ old.next

-- the same of the lookup with a number, if there is one
abbrev pub StepsAt : LookupStep → ℕ → LookupTable → Option OpenLookup → Result (Unit {0}) LookupRefusal → LookupTable → Type 0
StepsAt step number old (Some lookup) result new = (result ≡ Ok tt) × Steps step number old lookup new
StepsAt step number old None result new = (result ≡ Err refusal.NoLookup) × (new ≡ old)

-- what comes of the wait of a lookup
abbrev pub StepsBy : Arrival → ℕ → LookupStep
StepsBy arrival clock resolver lookup lookup' resolver' =
    TakesEvent resolver lookup (record { moment = clock; arrival = arrival }) lookup' resolver'

-- the deadline of a wait has passed
abbrev pub TimesOut : LookupTable → ℕ → ℕ → Result (Unit {0}) LookupRefusal → LookupTable → Type 0
TimesOut old number clock result new = StepsAt (StepsBy TimedOut clock) number old (lookup_at old number) result new

-- a message could not be sent, or no reply can be received
abbrev pub Fails : LookupTable → ℕ → ℕ → Result (Unit {0}) LookupRefusal → LookupTable → Type 0
Fails old number clock result new = StepsAt (StepsBy Failed clock) number old (lookup_at old number) result new

-- a message was received from a server
abbrev pub StepsByMessage : List ℕ → SocketAddr → ℕ → LookupStep
StepsByMessage message from clock resolver lookup lookup' resolver' =
    lookups.Receives resolver lookup message from clock lookup' resolver'

-- A message is received from an address and a port. There may be no memory for it.
pub data Receives (old : LookupTable) (number : ℕ) (message from : List ℕ) (clock : ℕ)
    : Result (Unit {0}) LookupRefusal → LookupTable → Type 0 where
  message_is_received : (address : SocketAddr) (result : Result (Unit {0}) LookupRefusal) (new : LookupTable) → IsEndpoint from address
      → StepsAt (StepsByMessage message address clock) number old (lookup_at old number) result new
      → Receives old number message from clock result new
  no_endpoint : (new : LookupTable) → length from ≢ endpoint_len → new ≡ old
      → Receives old number message from clock (Err refusal.Endpoint) new
  no_memory_for_message : (new : LookupTable) → new ≡ old → Receives old number message from clock (Err refusal.Memory) new

-- ---- the end

-- what the lookup with a number has come to, if there is one
abbrev pub AnswersAt : Option OpenLookup → Result (List ℕ) LookupRefusal → Type 0
AnswersAt (Some lookup) result = IsAnswer lookup.state result
AnswersAt None result = result ≡ Err refusal.NoLookup

-- the same of a table
abbrev pub Answers : LookupTable → ℕ → Result (List ℕ) LookupRefusal → Type 0
Answers table number result = AnswersAt (lookup_at table number) result

-- a lookup is removed; nothing else changes
pub record IsWithout (number : ℕ) (old new : LookupTable) : Type 0 where
  pub lookups_are : HasAt number None old new
  pub same_next : new.next ≡ old.next
  pub same_resolver : new.resolver ≡ old.resolver

-- the lookup with a number is removed, if there is one
abbrev pub RemovesAt : Option OpenLookup → ℕ → LookupTable → Result (Unit {0}) LookupRefusal → LookupTable → Type 0
RemovesAt (Some lookup) number old result new = (result ≡ Ok tt) × IsWithout number old new
RemovesAt None number old result new = (result ≡ Err refusal.NoLookup) × IsWithout number old new

-- the same of a table
abbrev pub Removes : LookupTable → ℕ → Result (Unit {0}) LookupRefusal → LookupTable → Type 0
Removes old number result new = RemovesAt (lookup_at old number) number old result new
