-- Entries, and the rules by which their updates are made.
use Rattle.std.proofs.Common.{◌≡◌, ℕ, List, [], ◌∷◌, ◌++◌, refl, sym, ap, subst, ◌∙◌, append_assoc, append-nil}
use Rattle.dns_message_bytes.specs.frames.Frame.{frame, stream_of}
use Rattle.dns_messages.specs.declared.message.Message.{Message}
use Rattle.dns_zone.specs.Rows.{ZoneContent}
use Rattle.dns_zone.specs.declared.zone.serials.Serials.TheVariants.{Kept, Rising}
use Rattle.dns_authority.specs.declared.service.answering.Answering.{Answering}
use Rattle.dns_authority.specs.declared.service.answering.Answering.TheVariants.{Plain, Whole}
use Rattle.dns_durable.specs.Durable.{Takes, TakesEntry, TakesEntryFront, TakesFront}
use Rattle.dns_durable.specs.Durable.Takes.{no_frame, a_frame}
use Rattle.dns_durable.specs.Rule.{begun, entry_of, entry_with, mark_of, step_of}

-- ---- no updates

-- no frames change nothing
pub takes_none : (step : List ZoneContent → Message → List ZoneContent) (zones after : List ZoneContent) (bytes : List ℕ) → bytes ≡ [] → Takes step zones bytes after → after ≡ zones
takes_none step zones after bytes none no_frame = refl
takes_none step zones after bytes none (a_frame short taken rest) = absurd cc

front_none : (l m : List ℕ) → l ++ m ≡ [] → l ≡ []
front_none [] m none = refl
front_none (x ∷ l) m none = absurd cc

pub takes_front_none : (step : List ZoneContent → Message → List ZoneContent) (zones after : List ZoneContent) (bytes : List ℕ) → bytes ≡ [] → TakesFront step zones bytes after
    → after ≡ zones
takes_front_none step zones after bytes none takes = takes_none step zones after takes.front (front_none takes.front takes.rest (sym takes.bytes_are ∙ none)) takes.takes

-- nor does an empty entry
pub entry_none : (zones after : List ZoneContent) (entry : List ℕ) → entry ≡ [] → TakesEntry zones entry after → after ≡ zones
entry_none zones after [] none takes = takes_none (step_of Plain) zones after [] refl takes
entry_none zones after (byte ∷ bytes) none takes = absurd cc

pub entry_front_none : (zones after : List ZoneContent) (entry : List ℕ) → entry ≡ [] → TakesEntryFront zones entry after → after ≡ zones
entry_front_none zones after [] none takes = takes_front_none (step_of Plain) zones after [] refl takes
entry_front_none zones after (byte ∷ bytes) none takes = absurd cc

-- ---- the updates of an entry

-- updates behind the mark of their rule
takes_marked : (answering : Answering) (zones after : List ZoneContent) (frames : List ℕ) → Takes (step_of answering) zones frames after
    → TakesEntry zones (mark_of answering ++ frames) after
takes_marked Plain zones after frames takes = takes
takes_marked (Whole any Kept) zones after frames takes = takes
takes_marked (Whole any Rising) zones after frames takes = takes

front_marked : (answering : Answering) (zones after : List ZoneContent) (frames : List ℕ) → TakesFront (step_of answering) zones frames after
    → TakesEntryFront zones (mark_of answering ++ frames) after
front_marked Plain zones after frames takes = takes
front_marked (Whole any Kept) zones after frames takes = takes
front_marked (Whole any Rising) zones after frames takes = takes

-- updates are made as their entry says
pub entry_takes : (answering : Answering) (zones after : List ZoneContent) (messages : List (List ℕ)) → Takes (step_of answering) zones (stream_of messages) after
    → TakesEntry zones (entry_of answering messages) after
entry_takes answering zones after [] takes =
    subst (λ (z : List ZoneContent). TakesEntry zones [] z) (sym (takes_none (step_of answering) zones after [] refl takes)) no_frame
entry_takes answering zones after (message ∷ more) takes = takes_marked answering zones after (stream_of (message ∷ more)) takes

no_entry : (zones : List ZoneContent) → TakesEntryFront zones [] zones
no_entry zones = record { front = []; rest = []; bytes_are = refl; takes = no_frame }

pub entry_takes_front : (answering : Answering) (zones after : List ZoneContent) (messages : List (List ℕ))
    → TakesFront (step_of answering) zones (stream_of messages) after → TakesEntryFront zones (entry_of answering messages) after
entry_takes_front answering zones after [] takes =
    subst (λ (z : List ZoneContent). TakesEntryFront zones [] z) (sym (takes_front_none (step_of answering) zones after [] refl takes)) (no_entry zones)
entry_takes_front answering zones after (message ∷ more) takes = front_marked answering zones after (stream_of (message ∷ more)) takes

-- ---- further updates

stream_append : (l m : List (List ℕ)) → stream_of (l ++ m) ≡ stream_of l ++ stream_of m
stream_append [] m = refl
stream_append (message ∷ l) m = ap (λ (rest : List ℕ). frame message ++ rest) (stream_append l m) ∙ sym (append_assoc (frame message) (stream_of l) (stream_of m))

-- an entry with a mark has begun
begun_marked : (answering : Answering) (frames : List ℕ) → begun answering (mark_of answering ++ frames) ≡ mark_of answering ++ frames
begun_marked Plain frames = refl
begun_marked (Whole any Kept) frames = refl
begun_marked (Whole any Rising) frames = refl

-- the entry for updates and further ones
pub entry_append : (answering : Answering) (old more : List (List ℕ)) → entry_with answering (entry_of answering old) more ≡ entry_of answering (old ++ more)
entry_append answering old [] = sym (ap (λ (l : List (List ℕ)). entry_of answering l) (append-nil old))
entry_append answering [] (message ∷ more) = refl
entry_append answering (first ∷ old) (message ∷ more) =
    ap (λ (l : List ℕ). l ++ stream_of (message ∷ more)) (begun_marked answering (stream_of (first ∷ old)))
    ∙ append_assoc (mark_of answering) (stream_of (first ∷ old)) (stream_of (message ∷ more))
    ∙ ap (λ (l : List ℕ). mark_of answering ++ l) (sym (stream_append (first ∷ old) (message ∷ more)))
