-- What the storing of updates asks, and what a crash leaves of it.
use Rattle.std.proofs.Common.{◌≡◌, ◌≢◌, ℕ, Bool, true, false, List, [], ◌∷◌, ◌++◌, length, refl, sym, ap, subst, ◌∙◌, inl, inr, ⊎_elim, append-nil}
use Rattle.dns_journal.specs.declared.journal.Position.{Position}
use Rattle.dns_journal.specs.declared.journal.State.TheVariants as states
use Rattle.dns_journal.specs.Event.{Event}
use Rattle.dns_journal.specs.Storage.{Disk, Ends, LeavesOnly}
use Rattle.dns_durable.specs.recovery.Compacting.{Recovers}
use Rattle.dns_durable.specs.recovery.Updating.{AppendsUpdate, IsBeforeOrAfterUpdate, IsOpen}
use Rattle.dns_durable.proofs.EventLaws.{always_weaker}
use Rattle.dns_durable.proofs.UpdatingLaws.{open_stands}
use Rattle.dns_durable.specs.Storing.{Asks, IsWithOrWithout, entries_of}

pub entries_some : (frames : List ℕ) → frames ≢ [] → entries_of frames ≡ frames ∷ []
entries_some [] some = absurd (some refl)
entries_some (byte ∷ bytes) some = refl

pub entries_none : (frames : List ℕ) → frames ≡ [] → entries_of frames ≡ []
entries_none [] none = refl
entries_none (byte ∷ bytes) none = absurd cc

-- a crash leaves the updates of a journal that is open
pub open_leaves : (text : List ℕ) (updates : List (List ℕ)) (frames : List ℕ) (old : Position) (d : Disk) → IsOpen text updates old d
    → LeavesOnly (IsWithOrWithout text updates frames old) d
open_leaves text updates frames old d opened files leaves =
    let both = open_stands text updates old d opened files leaves in
    record { text_is = both.0; stands = λ genuine. inl both.1 }

-- there are no updates
pub asks_nothing : (frames : List ℕ) (p : Position) → frames ≡ [] → Asks frames true p p []
asks_nothing frames p none = record {
  stores = λ text updates d opened. record {
    any_moment = open_leaves text updates frames p d opened;
    stored = λ _. subst (λ (l : List (List ℕ)). IsOpen text l p d)
        (sym (ap (λ (l : List (List ℕ)). updates ++ l) (entries_none frames none) ∙ append-nil updates)) opened;
    refused = λ e. absurd cc;
  };
  none = λ _. (refl, refl);
  idle = λ _. record { unasked = refl; position = refl; refused = λ _. none };
}

-- they are refused
pub asks_refused : (frames : List ℕ) (p : Position) → Asks frames false p p []
asks_refused frames p = record {
  stores = λ text updates d opened. record {
    any_moment = open_leaves text updates frames p d opened;
    stored = λ e. absurd cc;
    refused = λ _ _. (refl, refl);
  };
  none = λ _. (refl, refl);
  idle = λ _. record { unasked = refl; position = refl; refused = λ e. absurd cc };
}

with_or_without : (text : List ℕ) (updates : List (List ℕ)) (frames : List ℕ) (old : Position) (some : frames ≢ []) (d : Disk)
    → LeavesOnly (IsBeforeOrAfterUpdate text updates frames old) d → LeavesOnly (IsWithOrWithout text updates frames old) d
with_or_without text updates frames old some d holds files leaves =
    let at = holds files leaves in
    record {
      text_is = at.text_is;
      stands = λ genuine. ⊎_elim (λ a. inl a)
          (λ b. inr (subst (λ (l : List (List ℕ)). Recovers files (updates ++ l)) (sym (entries_some frames some)) b)) (at.stands genuine);
    }

-- they are appended
pub asks_append : (frames : List ℕ) (done : Bool) (old new : Position) (es : List Event) → frames ≢ [] → old.state ≡ states.Ready
    → ((text : List ℕ) (updates : List (List ℕ)) (d : Disk) → IsOpen text updates old d → AppendsUpdate old new frames done text updates d es)
    → Asks frames done old new es
asks_append frames done old new es some ready appends = record {
  stores = λ text updates d opened.
      let a = appends text updates d opened in
      record {
        any_moment = always_weaker (LeavesOnly (IsBeforeOrAfterUpdate text updates frames old)) (LeavesOnly (IsWithOrWithout text updates frames old))
            (with_or_without text updates frames old some) d es a.any_moment;
        stored = λ is. subst (λ (l : List (List ℕ)). Ends (IsOpen text (updates ++ l) new) d es) (sym (entries_some frames some)) (a.stored is);
        refused = a.refused;
      };
  none = λ none. absurd (some none);
  idle = λ not. absurd (not ready);
}

pub no_length : (l : List ℕ) → length l ≡ 0 → l ≡ []
no_length [] none = refl
no_length (x ∷ l) none = absurd cc

pub some_length : (l : List ℕ) → ¬ (length l ≡ 0) → l ≢ []
some_length l some none = some (ap (λ (m : List ℕ). length m) none)
