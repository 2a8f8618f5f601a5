-- Resolvers behind handles, and their lookups.
use Rattle.std.specs.Prelude.{◌≡◌, ℤ, pos, negsuc, zero, suc, ℕ, List, Option, Some, None, Result, Ok, Err}
use base.Fml.{Fml, feq, fex, ftrue}
use denote.RawPtr.{Ptr, null_ptr}
use Rattle.std.specs.Box.Ownership.{box_owns}
use Rattle.std.specs.Global.{Global}
use Rattle.std.specs.contracts.impls.GlobalAllocator.TheImpl.{ghosts}
use Rattle.api.specs.buffer.Buffer.{Writes}
use Rattle.api.specs.declared.buffer.refusal.Refusal.{Refusal}
use Rattle.api.specs.lookups.Servers.{AreNoServers}
use Rattle.api.specs.lookups.Table as table
use Rattle.api.specs.lookups.Table.{IsFirstTable}
use Rattle.api.specs.contracts.lookups.table.LookupTable.{the_row}
use Rattle.api.specs.declared.lookups.refusal.LookupRefusal.{LookupRefusal}
use Rattle.api.specs.declared.lookups.table.LookupTable.{LookupTable}
use Rattle.api_resolver.specs.declared.exchange.Awaited as api
use Rattle.rumstrait_c.specs.Codes.{IsNullCode, RefusesNull, done_code, lookup_code, result_code}
use Rattle.rumstrait_c.specs.Waits.{wait_of}
use Rattle.rumstrait_c.specs.declared.wait.Wait.{Wait}

-- a resolver with its lookups on the heap, and the right to free it by the allocator
abbrev pub resolver_at : Global → Ptr → LookupTable → Fml
resolver_at alloc p resolver = box_owns (ghosts.dealloc_token alloc) the_row p resolver

-- a resolver behind a handle, or none behind a null one
abbrev pub handle_at : Global → Ptr → Option LookupTable → Fml
handle_at alloc p (Some resolver) = resolver_at alloc p resolver
handle_at alloc p None = feq Ptr p null_ptr

-- ---- new

-- the number of the reason why bytes are no servers, or of a want of memory
pub record IsUnresolved (servers : List ℕ) (code : ℤ) : Type 0 where
  pub reason : LookupRefusal
  pub refused : AreNoServers servers reason
  pub code_is : code ≡ lookup_code reason

-- At the code 0 there is a resolver without lookups behind the handle; at another it is null, and the code is the number of the
-- reason.
abbrev pub resolves_at : Global → ℤ → Ptr → List ℕ → ℕ → ℕ → ℕ → Fml
resolves_at alloc (pos zero) p servers timeout attempts cache_size =
    fex LookupTable (λ resolver. fex (IsFirstTable servers timeout attempts cache_size resolver)
    (λ _. resolver_at alloc p resolver))
resolves_at alloc (pos (suc number)) p servers timeout attempts cache_size =
    fex (IsUnresolved servers (pos (suc number))) (λ _. feq Ptr p null_ptr)
resolves_at alloc (negsuc number) p servers timeout attempts cache_size =
    fex (IsUnresolved servers (negsuc number)) (λ _. feq Ptr p null_ptr)

-- ---- begin

-- the number of a lookup is written, or nothing
abbrev pub WritesNumber : Result ℕ LookupRefusal → ℤ → ℕ → ℕ → Type 0
WritesNumber (Ok number) code old new = (code ≡ pos 0) × (new ≡ number)
WritesNumber (Err refused) code old new = (code ≡ lookup_code refused) × (new ≡ old)

-- What a call to begin a lookup returns and leaves.
pub record Begun (resolver : LookupTable) (name : List ℕ) (kind : ℕ) (ids : List ℕ) (clock : ℕ) (code : ℤ) (number number' : ℕ)
    (after : LookupTable) : Type 0 where
  pub outcome : Result ℕ LookupRefusal
  pub begins : table.Begins resolver name kind ids clock outcome after
  pub written : WritesNumber outcome code number number'

-- what a call on a null handle returns, and that the number is as it was
pub record RefusesNumber (code : ℤ) (number number' : ℕ) : Type 0 where
  pub code_is : IsNullCode code
  pub same_number : number' ≡ number

-- the resolver that such a call leaves behind the handle; a null handle is refused
abbrev pub begun_at : Global → Ptr → Option LookupTable → List ℕ → ℕ → List ℕ → ℕ → ℤ → ℕ → ℕ → Fml
begun_at alloc p (Some resolver) name kind ids clock code number number' =
    fex LookupTable (λ after. fex (Begun resolver name kind ids clock code number number' after)
    (λ _. resolver_at alloc p after))
begun_at alloc p None name kind ids clock code number number' = fex (RefusesNumber code number number') (λ _. ftrue)

-- ---- wait

-- what a lookup awaits, after so many exchanges
abbrev pub Awaiting : Type 0
Awaiting = ℕ × api.Awaited

-- what to do with a message is written if the message is
abbrev pub WaitsAs : Awaiting → Result (Unit {0}) Refusal → Wait → Wait → Type 0
WaitsAs found (Ok _) wait wait' = wait' ≡ wait_of found.0 found.1
WaitsAs found (Err refused) wait wait' = wait' ≡ wait

-- The message of a lookup is written, and what to do with it. If it does not fit, only its length is.
pub record WritesWait (found : Awaiting) (code : ℤ) (wait wait' : Wait) (buffer buffer' : List ℕ) (len' : ℕ) : Type 0 where
  pub outcome : Result (Unit {0}) Refusal
  pub writes : Writes found.1.outgoing.bytes buffer outcome buffer' len'
  pub code_is : code ≡ result_code outcome
  pub waits_as : WaitsAs found outcome wait wait'

-- the code is that of a refusal, and nothing is written
pub record LeavesAll (refused : LookupRefusal) (code : ℤ) (wait wait' : Wait) (buffer buffer' : List ℕ) (len len' : ℕ) : Type 0 where
  pub code_is : code ≡ lookup_code refused
  pub same_wait : wait' ≡ wait
  pub same_buffer : buffer' ≡ buffer
  pub same_len : len' ≡ len

-- what is written of what a lookup awaits, if it awaits something
abbrev pub WritesIfAwaited : Result Awaiting LookupRefusal → ℤ → Wait → Wait → List ℕ → List ℕ → ℕ → ℕ → Type 0
WritesIfAwaited (Ok found) code wait wait' buffer buffer' len len' = WritesWait found code wait wait' buffer buffer' len'
WritesIfAwaited (Err refused) code wait wait' buffer buffer' len len' = LeavesAll refused code wait wait' buffer buffer' len len'

-- What a call for what a lookup awaits returns and leaves.
pub record Awaited (resolver : LookupTable) (number : ℕ) (code : ℤ) (wait wait' : Wait) (buffer buffer' : List ℕ) (len len' : ℕ)
    (after : LookupTable) : Type 0 where
  pub found : Result Awaiting LookupRefusal
  pub awaits : table.Awaits resolver number found
  pub written : WritesIfAwaited found code wait wait' buffer buffer' len len'
  pub same : after ≡ resolver

-- what a call on a null handle returns, and that nothing is written
pub record RefusesWait (code : ℤ) (wait wait' : Wait) (buffer buffer' : List ℕ) (len len' : ℕ) : Type 0 where
  pub code_is : IsNullCode code
  pub same_wait : wait' ≡ wait
  pub same_buffer : buffer' ≡ buffer
  pub same_len : len' ≡ len

-- the resolver that such a call leaves behind the handle; a null handle is refused
abbrev pub awaited_at : Global → Ptr → Option LookupTable → ℕ → ℤ → Wait → Wait → List ℕ → List ℕ → ℕ → ℕ → Fml
awaited_at alloc p (Some resolver) number code wait wait' buffer buffer' len len' =
    fex LookupTable (λ after. fex (Awaited resolver number code wait wait' buffer buffer' len len' after)
    (λ _. resolver_at alloc p after))
awaited_at alloc p None number code wait wait' buffer buffer' len len' =
    fex (RefusesWait code wait wait' buffer buffer' len len') (λ _. ftrue)

-- ---- steps

-- What a call that tells a lookup something returns and leaves.
pub record Told (tells : Result (Unit {0}) LookupRefusal → LookupTable → Type 0) (code : ℤ) (after : LookupTable) : Type 0 where
  pub outcome : Result (Unit {0}) LookupRefusal
  pub told : tells outcome after
  pub code_is : code ≡ done_code outcome

-- a message was received
abbrev pub Received : LookupTable → ℕ → List ℕ → List ℕ → ℕ → ℤ → LookupTable → Type 0
Received resolver number message from clock code after = Told (table.Receives resolver number message from clock) code after

-- the deadline of a wait has passed
abbrev pub TimedOut : LookupTable → ℕ → ℕ → ℤ → LookupTable → Type 0
TimedOut resolver number clock code after = Told (table.TimesOut resolver number clock) code after

-- a message could not be sent, or no reply can be received
abbrev pub Failed : LookupTable → ℕ → ℕ → ℤ → LookupTable → Type 0
Failed resolver number clock code after = Told (table.Fails resolver number clock) code after

-- a lookup is removed
abbrev pub Removed : LookupTable → ℕ → ℤ → LookupTable → Type 0
Removed resolver number code after = Told (table.Removes resolver number) code after

-- the resolvers that such calls leave behind the handle; a null handle is refused
abbrev pub told_at : Global → Ptr → Option LookupTable → (LookupTable → ℤ → LookupTable → Type 0) → ℤ → Fml
told_at alloc p (Some resolver) told code =
    fex LookupTable (λ after. fex (told resolver code after) (λ _. resolver_at alloc p after))
told_at alloc p None told code = fex (IsNullCode code) (λ _. ftrue)

-- the one after a message
abbrev pub received_at : Global → Ptr → Option LookupTable → ℕ → List ℕ → List ℕ → ℕ → ℤ → Fml
received_at alloc p content number message from clock code =
    told_at alloc p content (λ old code' new. Received old number message from clock code' new) code

-- the one after a deadline
abbrev pub timed_out_at : Global → Ptr → Option LookupTable → ℕ → ℕ → ℤ → Fml
timed_out_at alloc p content number clock code = told_at alloc p content (λ old code' new. TimedOut old number clock code' new) code

-- the one after a failure
abbrev pub failed_at : Global → Ptr → Option LookupTable → ℕ → ℕ → ℤ → Fml
failed_at alloc p content number clock code = told_at alloc p content (λ old code' new. Failed old number clock code' new) code

-- the one without a lookup
abbrev pub removed_at : Global → Ptr → Option LookupTable → ℕ → ℤ → Fml
removed_at alloc p content number code = told_at alloc p content (λ old code' new. Removed old number code' new) code

-- ---- records

-- the records that were found are written; or nothing is
abbrev pub WritesRecords : Result (List ℕ) LookupRefusal → ℤ → List ℕ → List ℕ → ℕ → ℕ → Type 0
WritesRecords (Ok text) code buffer buffer' len len' =
    (outcome : Result (Unit {0}) Refusal) × Writes text buffer outcome buffer' len' × (code ≡ result_code outcome)
WritesRecords (Err refused) code buffer buffer' len len' = (code ≡ lookup_code refused) × (buffer' ≡ buffer) × (len' ≡ len)

-- What a call for the records of a lookup returns and leaves.
pub record Answered (resolver : LookupTable) (number : ℕ) (code : ℤ) (buffer buffer' : List ℕ) (len len' : ℕ) (after : LookupTable)
    : Type 0 where
  pub found : Result (List ℕ) LookupRefusal
  pub answers : table.Answers resolver number found
  pub written : WritesRecords found code buffer buffer' len len'
  pub same : after ≡ resolver

-- the resolver that such a call leaves behind the handle; a null handle is refused
abbrev pub answered_at : Global → Ptr → Option LookupTable → ℕ → ℤ → List ℕ → List ℕ → ℕ → ℕ → Fml
answered_at alloc p (Some resolver) number code buffer buffer' len len' =
    fex LookupTable (λ after. fex (Answered resolver number code buffer buffer' len len' after)
    (λ _. resolver_at alloc p after))
answered_at alloc p None number code buffer buffer' len len' = fex (RefusesNull code buffer buffer' len len') (λ _. ftrue)
