-- What a compaction asks of a storage.
use Rattle.std.proofs.Common.{◌≡◌, ◌≢◌, ◌⊎◌, Bool, false, ℕ, List, [], Err, refl, sym, subst, inl, inr}
use Rattle.sha2.specs.Sha256.{sha256}
use Rattle.dns_journal.specs.declared.error.AppendError.{AppendError}
use Rattle.dns_journal.specs.declared.error.AppendError.TheVariants as errors
use Rattle.dns_journal.specs.declared.journal.Position.{Position}
use Rattle.dns_journal.specs.declared.journal.State.{State}
use Rattle.dns_journal.specs.declared.journal.State.TheVariants as states
use Rattle.dns_journal.specs.Appending.{Appends, AreCalls, IsPosition, IsRefusal}
use Rattle.dns_journal.specs.Event.{Event}
use Rattle.dns_durable.specs.recovery.Compacting.{AsksToCompact, Compacts, mark}
use Rattle.dns_durable.proofs.CompactingLaws.{append_refused, nothing_done}

-- whether a state is ready, as a choice
pub ready_or : (s : State) → (s ≡ states.Ready) ⊎ (s ≢ states.Ready)
ready_or states.Ready = inl refl
ready_or states.Torn = inr (λ is. absurd cc)
ready_or states.Lost = inr (λ is. absurd cc)

-- nothing is asked
pub asks_nothing : (new carried : List ℕ) (p : Position) → AsksToCompact new carried false p p []
asks_nothing new carried p = record {
  compacts = λ text bytes digest payloads at belongs one. nothing_done p text new carried bytes digest payloads belongs one at;
  idle = λ not. (refl, refl);
}

-- a journal that is ready is asked to append the mark
pub asks_refused : (new carried : List ℕ) (p q : Position) (es : List Event) → p.state ≡ states.Ready
    → ((bytes digest : List ℕ) (payloads : List (List ℕ)) → IsPosition p bytes digest payloads → (text : List ℕ) → Appends p q (mark new carried) false text bytes digest payloads es)
    → AsksToCompact new carried false p q es
asks_refused new carried p q es ready appends = record {
  compacts = λ text bytes digest payloads at belongs one. append_refused p text new carried bytes digest payloads belongs one q es (appends bytes digest payloads at text);
  idle = λ not. absurd (not ready);
}

-- one that is not ready is not
idle_calls : (entry payload : List ℕ) (p q : Position) (error : AppendError) (es : List Event) → p.state ≢ states.Ready → IsRefusal p payload q error → AreCalls entry (Err error) q.state es
    → (es ≡ []) × (q ≡ p)
idle_calls entry payload p q errors.NotReady es not refused calls = (calls, refused.1)
idle_calls entry payload p q errors.Full es not refused calls = (calls, refused.1)
idle_calls entry payload p q errors.Storage es not refused calls = absurd (not refused.0)
idle_calls entry payload p q errors.Memory es not refused calls = (calls, refused)

pub asks_idle : (new carried entry payload : List ℕ) (p q : Position) (error : AppendError) (es : List Event) → p.state ≢ states.Ready → IsRefusal p payload q error
    → AreCalls entry (Err error) q.state es → AsksToCompact new carried false p q es
asks_idle new carried entry payload p q error es not refused calls =
    let both = idle_calls entry payload p q error es not refused calls in
    subst (λ (l : List Event). AsksToCompact new carried false p q l) (sym both.0) (subst (λ (r : Position). AsksToCompact new carried false p r []) (sym both.1) (asks_nothing new carried p))

-- a journal that is ready is compacted
pub asks_done : (new carried : List ℕ) (done : Bool) (p q : Position) (es : List Event) → p.state ≡ states.Ready
    → ((text bytes digest : List ℕ) (payloads : List (List ℕ)) → IsPosition p bytes digest payloads → digest ≡ sha256 text → (sha256 new ≡ sha256 text → new ≡ text)
    → Compacts p q done text new carried bytes digest payloads es)
    → AsksToCompact new carried done p q es
asks_done new carried done p q es ready compacts = record { compacts = compacts; idle = λ not. absurd (not ready) }
