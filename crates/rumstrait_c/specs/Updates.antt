-- Updates behind handles.
use Rattle.std.specs.Prelude.{◌≡◌, ◌≢◌, ℤ, pos, negsuc, zero, suc, ℕ, List, Option, Some, None, Result, Ok, Err}
use base.Fml.{Fml, feq, fex, ftrue}
use denote.RawPtr.{Ptr, null_ptr}
use Rattle.std.specs.Box.Ownership.{box_owns}
use Rattle.std.specs.Global.{Global}
use Rattle.std.specs.contracts.impls.GlobalAllocator.TheImpl.{ghosts}
use Rattle.api.specs.buffer.Buffer.{Delivers}
use Rattle.api.specs.declared.buffer.refusal.Refusal.{Refusal}
use Rattle.api.specs.declared.buffer.refusal.Refusal.TheVariants.{Memory}
use Rattle.api.specs.messages.Updates.{AddsItem, EncodesWhole, IsUnadded, IsUnfit, message_of, update_of}
use Rattle.dns_updates.specs.builder.Parts.{UpdateParts}
use Rattle.dns_updates.specs.contracts.builder.builder.UpdateBuilder.{the_row}
use Rattle.rumstrait_c.specs.Codes.{Finds, IsNullCode, RefusesNull, code_of, result_code}

-- an update on the heap, and the right to free it by the allocator
abbrev pub update_at : Global → Ptr → UpdateParts → Fml
update_at alloc p update = box_owns (ghosts.dealloc_token alloc) the_row p update

-- an update behind a handle, or none behind a null one
abbrev pub handle_at : Global → Ptr → Option UpdateParts → Fml
handle_at alloc p (Some update) = update_at alloc p update
handle_at alloc p None = feq Ptr p null_ptr

-- ---- new

-- the update of the zone whose name a text is
abbrev pub IsUpdateOf : List ℕ → UpdateParts → Type 0
IsUpdateOf zone update = update_of zone ≡ Ok update

-- the number of the reason why a text is the name of no zone, or of a want of memory
pub record IsUnbegun (zone : List ℕ) (code : ℤ) : Type 0 where
  pub reason : Refusal
  pub refused : reason ≢ Memory → update_of zone ≡ Err reason
  pub code_is : code ≡ code_of reason

-- at the code 0 there is the update of a zone behind the handle; at another it is null, and the code is the number of the reason
abbrev pub begun_at : Global → ℤ → Ptr → List ℕ → Fml
begun_at alloc (pos zero) p zone =
    fex UpdateParts (λ update. fex (IsUpdateOf zone update) (λ _. update_at alloc p update))
begun_at alloc (pos (suc number)) p zone = fex (IsUnbegun zone (pos (suc number))) (λ _. feq Ptr p null_ptr)
begun_at alloc (negsuc number) p zone = fex (IsUnbegun zone (negsuc number)) (λ _. feq Ptr p null_ptr)

-- ---- item

-- an item is added, or it is not, and the update is as it was
abbrev pub AddsOr : UpdateParts → ℕ → List ℕ → ℕ → ℕ → List ℕ → Result (Unit {0}) Refusal → UpdateParts → Type 0
AddsOr update item name kind ttl text (Ok _) after = AddsItem update item name kind ttl text after
AddsOr update item name kind ttl text (Err reason) after = IsUnadded update item name kind text reason × (after ≡ update)

-- What a call to add an item returns and leaves.
pub record Extended (update : UpdateParts) (item : ℕ) (name : List ℕ) (kind ttl : ℕ) (text : List ℕ) (code : ℤ) (after : UpdateParts)
    : Type 0 where
  pub outcome : Result (Unit {0}) Refusal
  pub adds : AddsOr update item name kind ttl text outcome after
  pub code_is : code ≡ result_code outcome

-- the update that such a call leaves behind the handle; a null handle is refused
abbrev pub extended_at : Global → Ptr → Option UpdateParts → ℕ → List ℕ → ℕ → ℕ → List ℕ → ℤ → Fml
extended_at alloc p (Some update) item name kind ttl text code =
    fex UpdateParts (λ after. fex (Extended update item name kind ttl text code after) (λ _. update_at alloc p after))
extended_at alloc p None item name kind ttl text code = fex (IsNullCode code) (λ _. ftrue)

-- ---- bytes

-- What a call to encode an update returns and leaves: its bytes are found and delivered, the code is that of the outcome, and the
-- update is as it was.
pub record Encoded (update : UpdateParts) (id : ℕ) (code : ℤ) (buffer buffer' : List ℕ) (len len' : ℕ) (after : UpdateParts)
    : Type 0 where
  pub found : Result (List ℕ) Refusal
  pub outcome : Result (Unit {0}) Refusal
  pub finds : Finds (EncodesWhole (message_of update id)) (IsUnfit (message_of update id)) found
  pub delivered : Delivers found buffer len outcome buffer' len'
  pub code_is : code ≡ result_code outcome
  pub same : after ≡ update

-- the update that such a call leaves behind the handle; a null handle is refused
abbrev pub encoded_at : Global → Ptr → Option UpdateParts → ℕ → ℤ → List ℕ → List ℕ → ℕ → ℕ → Fml
encoded_at alloc p (Some update) id code buffer buffer' len len' =
    fex UpdateParts (λ after. fex (Encoded update id code buffer buffer' len len' after) (λ _. update_at alloc p after))
encoded_at alloc p None id code buffer buffer' len len' = fex (RefusesNull code buffer buffer' len len') (λ _. ftrue)
