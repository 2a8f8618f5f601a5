-- What a crash leaves of an append of updates.
use Rattle.std.proofs.Common.{◌≡◌, ℕ, Bool, false, List, [], ◌∷◌, ◌++◌, append_assoc, length, drop, refl, sym, ap, subst, ◌∙◌, inl, inr, ⊎_elim}
use Rattle.sha2.specs.Sha256.{sha256}
use Rattle.dns_journal.specs.format.Format.{entry, IsJournal}
use Rattle.dns_journal.specs.declared.journal.Position.{Position}
use Rattle.dns_journal.specs.Appending.{Appends, IsBeforeOrAfter, IsRemainder, StandsFor}
use Rattle.dns_journal.specs.Event.{Event, Files}
use Rattle.dns_journal.specs.Storage.{Always, Disk, Ends, Leaves, LeavesOnly, at_rest}
use Rattle.dns_durable.specs.recovery.Compacting.{Recovers, updates_in, updates_of}
use Rattle.dns_durable.specs.recovery.Updating.{AppendsUpdate, IsBeforeOrAfterUpdate, IsOpen, update_payload}
use Rattle.dns_durable.proofs.EventLaws.{always_weaker, ends_weaker, rest_is}

-- a further payload is a further update
pub appended_updates : (payloads : List (List ℕ)) (update : List ℕ) → updates_in (payloads ++ update_payload update ∷ []) ≡ updates_in payloads ++ update ∷ []
appended_updates [] update = refl
appended_updates (payload ∷ payloads) update =
    ap (λ (l : List (List ℕ)). updates_of payload ++ l) (appended_updates payloads update) ∙ sym (append_assoc (updates_of payload) (updates_in payloads) (update ∷ []))

-- files with the text of a journal stand for its updates
pub recovers : (text digest : List ℕ) (files : Files) (payloads updates : List (List ℕ)) → digest ≡ sha256 text → files.text ≡ text → updates ≡ updates_in payloads
    → StandsFor files.journal digest payloads → Recovers files updates
recovers text digest files payloads updates belongs same are stands = record {
  head = stands.head;
  payloads = payloads;
  end = stands.end;
  journal = stands.is;
  by = inl (stands.of_text ∙ belongs ∙ ap sha256 (sym same), are);
}

module _ (text : List ℕ) (updates : List (List ℕ)) (old new : Position) (update : List ℕ) (d : Disk) (opened : IsOpen text updates old d) where
  after_is : updates ++ update ∷ [] ≡ updates_in (opened.payloads ++ update_payload update ∷ [])
  after_is = ap (λ (l : List (List ℕ)). l ++ update ∷ []) opened.updates_are ∙ sym (appended_updates opened.payloads update)

  before_or_after : (files : Files) → IsBeforeOrAfter old text opened.bytes (sha256 text) opened.payloads (update_payload update) files → IsBeforeOrAfterUpdate text updates update old files
  before_or_after files holds = record {
    text_is = holds.text_is;
    stands = λ left.
        let tail_is : drop old.end files.journal ≡ drop (length opened.bytes) files.journal = ap (λ (n : ℕ). drop n files.journal) opened.at.end_is in
        ⊎_elim (λ a. inl (recovers text (sha256 text) files opened.payloads updates refl holds.text_is opened.updates_are a))
        (λ b. inr (recovers text (sha256 text) files (opened.payloads ++ update_payload update ∷ []) (updates ++ update ∷ []) refl holds.text_is after_is b))
        (holds.journal (subst (λ (tail : List ℕ). IsRemainder old (update_payload update) tail) tail_is left));
  }

  pub appends_update : (done : Bool) (es : List Event) → Appends old new (update_payload update) done text opened.bytes (sha256 text) opened.payloads es → AppendsUpdate old new update done text updates d es
  appends_update done es appends =
      let entry_is = entry old.key old.link (update_payload update) in
      record {
        any_moment = subst (λ (e : Disk). Always (LeavesOnly (IsBeforeOrAfterUpdate text updates update old)) e es) (sym opened.disk_is)
            (always_weaker (LeavesOnly (IsBeforeOrAfter old text opened.bytes (sha256 text) opened.payloads (update_payload update))) (LeavesOnly (IsBeforeOrAfterUpdate text updates update old))
            (λ e holds files leaves. before_or_after files (holds files leaves)) (at_rest text opened.bytes) es appends.any_moment);
        stored = λ is. subst (λ (e : Disk). Ends (IsOpen text (updates ++ update ∷ []) new) e es) (sym opened.disk_is)
            (ends_weaker (λ e. e ≡ at_rest text (opened.bytes ++ entry_is)) (IsOpen text (updates ++ update ∷ []) new)
            (λ e at. record { bytes = opened.bytes ++ entry_is; payloads = opened.payloads ++ update_payload update ∷ []; disk_is = at; at = appends.position is; updates_are = after_is })
            (at_rest text opened.bytes) es (appends.stored is));
        ready = appends.ready;
        refused = appends.refused;
      }

-- what a crash leaves of a journal that is open
pub open_stands : (text : List ℕ) (updates : List (List ℕ)) (old : Position) (d : Disk) (opened : IsOpen text updates old d) (files : Files) → Leaves d files
    → (files.text ≡ text) × Recovers files updates
open_stands text updates old d opened files leaves =
    let left : Leaves (at_rest text opened.bytes) files = subst (λ (e : Disk). Leaves e files) opened.disk_is leaves in
    let at = opened.at in
    let is : IsJournal files.journal at.head opened.payloads [] =
    subst (λ (l : List ℕ). IsJournal l at.head opened.payloads []) (sym (rest_is text opened.bytes files left)) at.journal in
    (left.text, recovers text (sha256 text) files opened.payloads updates refl left.text opened.updates_are (record { head = at.head; end = []; is = is; of_text = at.of_text }))

-- nothing was asked
before_it : (text : List ℕ) (updates : List (List ℕ)) (old : Position) (update : List ℕ) (d : Disk) → IsOpen text updates old d → LeavesOnly (IsBeforeOrAfterUpdate text updates update old) d
before_it text updates old update d opened files leaves =
    let both = open_stands text updates old d opened files leaves in
    record { text_is = both.0; stands = λ left. inl both.1 }

pub nothing_appended : (text : List ℕ) (updates : List (List ℕ)) (old : Position) (update : List ℕ) (d : Disk) → IsOpen text updates old d → AppendsUpdate old old update false text updates d []
nothing_appended text updates old update d opened = record {
  any_moment = before_it text updates old update d opened;
  stored = λ e. absurd cc;
  ready = λ e. absurd cc;
  refused = λ _ _. (refl, refl);
}
