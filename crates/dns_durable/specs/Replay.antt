-- Why the updates of a journal are not all served again, and the zones after those that were.
use Rattle.std.specs.Prelude.{◌≡◌, ◌≤◌, ◌⊎◌, ℕ, suc, List, ◌∷◌, ◌++◌, length, None}
use Rattle.dns_message_bytes.specs.frames.Frame.{frame, EndsWithinFrame}
use Rattle.dns_zone.specs.Request.{DecodesRequest}
use Rattle.dns_zone.specs.Rows.{ZoneContent}
use Rattle.dns_durable.specs.Durable.{Replays, Takes, TakesEntryFront}
use Rattle.dns_durable.specs.Rule.{rule_in, step_of, updates_in}
use Rattle.dns_durable.specs.declared.error.ReplayError.{ReplayError}
use Rattle.dns_durable.specs.declared.error.ReplayError.TheVariants as errors

-- bytes that begin with the frame of a message which is no request
pub record BeginsOtherFrame (bytes : List ℕ) : Type 0 where
  pub message : List ℕ
  pub rest : List ℕ
  pub bytes_are : bytes ≡ frame message ++ rest
  pub short : length message ≤ 65535
  pub no_request : DecodesRequest message None

-- bytes that begin with no frame of a request (RFC 7766 section 8)
abbrev pub BeginsNoRequest : List ℕ → Type 0
BeginsNoRequest bytes = EndsWithinFrame bytes ⊎ BeginsOtherFrame bytes

-- zones after the requests in the frames of an entry, up to bytes that are no frame of a request
pub record StopsIn (zones : List ZoneContent) (entry : List ℕ) (after : List ZoneContent) : Type 0 where
  pub front : List ℕ
  pub rest : List ℕ
  pub updates_are : updates_in entry ≡ front ++ rest
  pub takes : Takes (step_of (rule_in entry)) zones front after
  pub stops : BeginsNoRequest rest

-- why the requests of an entry are not all served, by the number of the entry, and the zones after those that were
abbrev pub IsEntryRefusal : ℕ → List ZoneContent → List ℕ → List ZoneContent → ReplayError → Type 0
IsEntryRefusal number zones entry after (errors.NotUpdates n) = (n ≡ number) × StopsIn zones entry after
IsEntryRefusal number zones entry after errors.Memory = TakesEntryFront zones entry after

-- Why the updates of a journal are not all served: some entry, whose number counts from 1. Those in front of it were served.
pub record IsReplayRefusal (zones : List ZoneContent) (updates : List (List ℕ)) (after : List ZoneContent)
    (error : ReplayError) : Type 0 where
  pub done : List (List ℕ)
  pub entry : List ℕ
  pub more : List (List ℕ)
  pub mid : List ZoneContent
  pub updates_are : updates ≡ done ++ entry ∷ more
  pub replays : Replays zones done mid
  pub refused : IsEntryRefusal (suc (length done)) mid entry after error
