-- Zones behind handles.
use Rattle.std.specs.Prelude.{◌≡◌, ℤ, pos, negsuc, zero, suc, ℕ, List, length, Option, Some, None, Result, Ok, Err}
use base.Fml.{Fml, feq, fex, ftrue}
use denote.RawPtr.{Ptr, null_ptr}
use Rattle.std.specs.Box.Ownership.{box_owns}
use Rattle.std.specs.Global.{Global}
use Rattle.std.specs.contracts.impls.GlobalAllocator.TheImpl.{ghosts}
use Rattle.api.specs.buffer.Buffer.{Delivers}
use Rattle.api.specs.declared.buffer.refusal.Refusal.{Refusal}
use Rattle.api.specs.declared.buffer.refusal.Refusal.TheVariants as refusal
use Rattle.api.specs.zones.Faults.{FindsFault, IsUnread}
use Rattle.api.specs.zones.Serving.{Replies}
use Rattle.api.specs.zones.Zones.{IsZoneOf}
use Rattle.api.specs.zones.Zones as zones
use Rattle.dns_zone.specs.Printed.{IsZoneText}
use Rattle.dns_zone.specs.Rows.{ZoneContent}
use Rattle.dns_zone.specs.contracts.zone.Zone.{the_row}
use Rattle.rumstrait_c.specs.Codes.{RefusesNull, code_of, result_code}

-- a zone on the heap, and the right to free it by the allocator
abbrev pub zone_at : Global → Ptr → ZoneContent → Fml
zone_at alloc p zone = box_owns (ghosts.dealloc_token alloc) the_row p zone

-- a zone behind a handle, or none behind a null one
abbrev pub handle_at : Global → Ptr → Option ZoneContent → Fml
handle_at alloc p (Some zone) = zone_at alloc p zone
handle_at alloc p None = feq Ptr p null_ptr

-- ---- new

-- the number of the reason why a text has no zone, or of a want of memory
pub record IsRefused (origin text : List ℕ) (code : ℤ) : Type 0 where
  pub reason : Refusal
  pub refused : zones.IsRefused origin text reason
  pub code_is : code ≡ code_of reason

-- at the code 0 there is a zone of the text behind the handle; at another it is null, and the code is the number of the reason
abbrev pub made_at : Global → ℤ → Ptr → List ℕ → List ℕ → Fml
made_at alloc (pos zero) p origin text =
    fex ZoneContent (λ zone. fex (IsZoneOf origin text zone) (λ _. zone_at alloc p zone))
made_at alloc (pos (suc number)) p origin text = fex (IsRefused origin text (pos (suc number))) (λ _. feq Ptr p null_ptr)
made_at alloc (negsuc number) p origin text = fex (IsRefused origin text (negsuc number)) (λ _. feq Ptr p null_ptr)

-- ---- fault

-- the line of the fault of a text, with a sentence; or why the text is not read, and the line as it was
abbrev pub IsFaultOf : List ℕ → List ℕ → ℕ → Result (List ℕ) Refusal → ℕ → Type 0
IsFaultOf origin text line (Ok sentence) line' = FindsFault origin text line' sentence
IsFaultOf origin text line (Err reason) line' = IsUnread origin text reason × (line' ≡ line)

-- What a call for the fault of a text returns and leaves: a line and a sentence are found, the sentence is delivered, and the
-- code is that of the outcome.
pub record TellsFault (origin text : List ℕ) (code : ℤ) (line line' : ℕ) (buffer buffer' : List ℕ) (len len' : ℕ) : Type 0 where
  pub found : Result (List ℕ) Refusal
  pub outcome : Result (Unit {0}) Refusal
  pub fault : IsFaultOf origin text line found line'
  pub delivered : Delivers found buffer len outcome buffer' len'
  pub code_is : code ≡ result_code outcome

-- ---- serve

-- What a call to serve a request returns and leaves: the reply is found and delivered, and the code is that of the outcome.
pub record Served (zone : ZoneContent) (transport limit : ℕ) (request : List ℕ) (code : ℤ) (buffer buffer' : List ℕ) (len len' : ℕ)
    (after : ZoneContent) : Type 0 where
  pub found : Result (List ℕ) Refusal
  pub outcome : Result (Unit {0}) Refusal
  pub replies : Replies zone transport limit request (length buffer) found after
  pub delivered : Delivers found buffer len outcome buffer' len'
  pub code_is : code ≡ result_code outcome

-- the zone that such a call leaves behind the handle; a null handle is refused
abbrev pub served_at : Global → Ptr → Option ZoneContent → ℕ → ℕ → List ℕ → ℤ → List ℕ → List ℕ → ℕ → ℕ → Fml
served_at alloc p (Some zone) transport limit request code buffer buffer' len len' =
    fex ZoneContent (λ after. fex (Served zone transport limit request code buffer buffer' len len' after)
    (λ _. zone_at alloc p after))
served_at alloc p None transport limit request code buffer buffer' len len' =
    fex (RefusesNull code buffer buffer' len len') (λ _. ftrue)

-- ---- text

-- a text of a zone, or that memory was refused
abbrev pub IsTextOf : ZoneContent → Result (List ℕ) Refusal → Type 0
IsTextOf zone (Ok text) = IsZoneText zone text
IsTextOf zone (Err reason) = reason ≡ refusal.Memory

-- What a call to write a zone returns and leaves: a text is found and delivered, the code is that of the outcome, and the zone
-- is as it was.
pub record Printed (zone : ZoneContent) (code : ℤ) (buffer buffer' : List ℕ) (len len' : ℕ) (after : ZoneContent) : Type 0 where
  pub found : Result (List ℕ) Refusal
  pub outcome : Result (Unit {0}) Refusal
  pub text : IsTextOf zone found
  pub delivered : Delivers found buffer len outcome buffer' len'
  pub code_is : code ≡ result_code outcome
  pub same : after ≡ zone

-- the zone that such a call leaves behind the handle; a null handle is refused
abbrev pub printed_at : Global → Ptr → Option ZoneContent → ℤ → List ℕ → List ℕ → ℕ → ℕ → Fml
printed_at alloc p (Some zone) code buffer buffer' len len' =
    fex ZoneContent (λ after. fex (Printed zone code buffer buffer' len len' after) (λ _. zone_at alloc p after))
printed_at alloc p None code buffer buffer' len len' = fex (RefusesNull code buffer buffer' len len') (λ _. ftrue)
