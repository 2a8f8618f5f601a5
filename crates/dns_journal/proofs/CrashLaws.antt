-- What a crash leaves of a journal to which an entry is appended.
use Rattle.std.proofs.Common.{◌≡◌, ℕ, zero, suc, ◌+◌, ◌≤◌, ◌⊎◌, true, false, List, [], ◌∷◌, ◌++◌, length, take, drop, refl, sym, ap, subst, ◌∙◌, arith, inl, inr, ⊎_elim, length-append}
use Rattle.std.proofs.lemmas.List.{take_at, take_all, take-append-drop}
use Rattle.dns_journal.specs.declared.format.link.Link.{Link}
use Rattle.dns_journal.specs.format.Format.{entry, first_link, key_in, last_link, next, IsJournal, IsShort, IsTornWrite}
use Rattle.dns_journal.proofs.JournalLaws.{link_after_push}
use Rattle.dns_journal.specs.declared.journal.Position.{Position}
use Rattle.dns_journal.specs.declared.journal.State.TheVariants as states
use Rattle.dns_journal.specs.Appending.{Appends, IsBeforeOrAfter, IsPosition, IsStored, StandsFor}
use Rattle.dns_journal.specs.Storage.{Always, Disk, Ends, Leaves, LeavesOnly, appended, at_rest, lost}
use Rattle.dns_journal.specs.Event.{Event, Files}
use Rattle.dns_journal.specs.Event as events

-- ---- lists

pub take_take : (k m : ℕ) (l : List ℕ) → k ≤ m → take k (take m l) ≡ take k l
take_take zero m l within = refl
take_take (suc k) zero l within = absurd (omega arith)
take_take (suc k) (suc m) [] within = refl
take_take (suc k) (suc m) (x ∷ l) within = ap (λ (r : List ℕ). x ∷ r) (take_take k m l (omega arith))

-- ---- what the laws of the format say

abbrev pub EntriesAreRead : Type 0
EntriesAreRead = (bytes head payload : List ℕ) (payloads : List (List ℕ)) → IsJournal bytes head payloads [] → IsShort payload
    → IsJournal (bytes ++ entry (key_in head) (last_link head payloads) payload) head (payloads ++ payload ∷ []) []

abbrev pub TornWritesAreCutOff : Type 0
TornWritesAreCutOff = (bytes head payload end : List ℕ) (payloads : List (List ℕ)) → IsJournal bytes head payloads [] → IsShort payload
    → IsTornWrite (key_in head) (last_link head payloads) (length bytes) payload end
    → (end ≡ entry (key_in head) (last_link head payloads) payload) ⊎ IsJournal (bytes ++ end) head payloads end

-- ---- a crash

-- what a crash leaves of a disk at rest
at_rest_journal : (text journal : List ℕ) (files : Files) → Leaves (at_rest text journal) files → files.journal ≡ journal
at_rest_journal text journal files leaves =
    sym (take_all (length journal) files.journal leaves.no_longer) ∙ leaves.front ∙ take_all (length journal) journal (omega arith)

module _ (text bytes digest payload : List ℕ) (payloads : List (List ℕ)) (old : Position) (at : IsPosition old bytes digest payloads) where
  before : LeavesOnly (IsBeforeOrAfter old text bytes digest payloads payload) (at_rest text bytes)
  before files leaves = record {
    text_is = leaves.text;
    journal = λ left. inl (record {
      head = at.head;
      end = [];
      is = subst (λ (l : List ℕ). IsJournal l at.head payloads []) (sym (at_rest_journal text bytes files leaves)) at.journal;
      of_text = at.of_text;
    });
  }

  pub nothing_appends : Appends old old payload false text bytes digest payloads []
  nothing_appends = record { any_moment = before; stored = λ e. absurd cc; position = λ e. absurd cc; ready = λ e. absurd cc; refused = λ _ _. (refl, refl) }

module _ (read : EntriesAreRead) (cut_off : TornWritesAreCutOff) (text bytes digest payload : List ℕ) (payloads : List (List ℕ)) (short : IsShort payload)
    (old : Position) (at : IsPosition old bytes digest payloads) where
  abbrev E : List ℕ
  E = entry old.key old.link payload

  -- the entry, by the identity of the journal
  entry_is : E ≡ entry (key_in at.head) (last_link at.head payloads) payload
  entry_is = ap (λ (k : List ℕ). entry k old.link payload) at.key_is ∙ ap (λ (l : Link). entry (key_in at.head) l payload) at.link_is

  torn_is : (left : List ℕ) → IsTornWrite old.key old.link old.end payload left → IsTornWrite (key_in at.head) (last_link at.head payloads) (length bytes) payload left
  torn_is left torn =
      subst (λ (k : List ℕ). IsTornWrite k (last_link at.head payloads) (length bytes) payload left) at.key_is
      (subst (λ (l : Link). IsTornWrite old.key l (length bytes) payload left) at.link_is
      (subst (λ (n : ℕ). IsTornWrite old.key old.link n payload left) at.end_is torn))

  -- the journal with the entry
  grown : IsJournal (bytes ++ E) at.head (payloads ++ payload ∷ []) []
  grown = subst (λ (l : List ℕ). IsJournal (bytes ++ l) at.head (payloads ++ payload ∷ []) []) (sym entry_is) (read bytes at.head payload payloads at.journal short)

  -- a journal whose front is kept has the payloads, with the new one or without
  kept : (files : Files) → files.text ≡ text → take (length bytes) files.journal ≡ bytes → IsBeforeOrAfter old text bytes digest payloads payload files
  kept files same front =
      let end = drop (length bytes) files.journal in
      let whole : files.journal ≡ bytes ++ end = sym (take-append-drop (length bytes) files.journal) ∙ ap (λ (l : List ℕ). l ++ end) front in
      let with_it : end ≡ E → StandsFor files.journal digest (payloads ++ payload ∷ []) = λ is. record {
        head = at.head;
        end = [];
        is = subst (λ (l : List ℕ). IsJournal l at.head (payloads ++ payload ∷ []) []) (sym (whole ∙ ap (λ (l : List ℕ). bytes ++ l) is)) grown;
        of_text = at.of_text;
      } in
      let without_it : IsJournal (bytes ++ end) at.head payloads end → StandsFor files.journal digest payloads = λ is. record {
        head = at.head;
        end = end;
        is = subst (λ (l : List ℕ). IsJournal l at.head payloads end) (sym whole) is;
        of_text = at.of_text;
      } in
      record {
        text_is = same;
        journal = λ left. ⊎_elim (λ all. inr (with_it all))
            (λ torn. ⊎_elim (λ all. inr (with_it (all ∙ sym entry_is))) (λ is. inl (without_it is)) (cut_off bytes at.head payload end payloads at.journal short (torn_is end torn))) left;
      }

  -- a crash leaves that of a disk whose journal goes on from there
  left : (d : Disk) (more : List ℕ) → d.text ≡ text → d.seen ≡ bytes ++ more → length bytes ≤ d.safe → LeavesOnly (IsBeforeOrAfter old text bytes digest payloads payload) d
  left d more same seen safe files leaves =
      let front : take (length bytes) files.journal ≡ bytes =
      sym (take_take (length bytes) d.safe files.journal safe)
      ∙ ap (λ (l : List ℕ). take (length bytes) l) (leaves.front ∙ ap (λ (l : List ℕ). take d.safe l) seen)
      ∙ take_take (length bytes) d.safe (bytes ++ more) safe
      ∙ take_at bytes more (length bytes) refl in
      kept files (leaves.text ∙ same) front

  during : (more : List ℕ) → LeavesOnly (IsBeforeOrAfter old text bytes digest payloads payload) (appended (at_rest text bytes) more)
  during more = left (appended (at_rest text bytes) more) more refl refl (omega arith)

  unsynced : (more : List ℕ) → LeavesOnly (IsBeforeOrAfter old text bytes digest payloads payload) (lost (appended (at_rest text bytes) more))
  unsynced more = left (lost (appended (at_rest text bytes) more)) more refl refl (omega arith)

  after : (more : List ℕ) → LeavesOnly (IsBeforeOrAfter old text bytes digest payloads payload) (at_rest text (bytes ++ more))
  after more = left (at_rest text (bytes ++ more)) more refl refl (omega (arith, length-append bytes more))

  -- ---- the calls of an append

  module _ (stored : List ℕ) (written : stored ≡ E) (es : List Event) where
    pub ready_appends : (after : Position) → after.end ≡ old.end + length E → after.digest ≡ old.digest → after.key ≡ old.key → after.link ≡ next old.key old.link payload → after.state ≡ states.Ready
        → IsStored stored states.Ready es → Appends old after payload true text bytes digest payloads es
    ready_appends next_one next_end next_digest next_key next_link ready is =
        let P = LeavesOnly (IsBeforeOrAfter old text bytes digest payloads payload) in
        let both : List Event = events.Append stored true ∷ events.Sync true ∷ [] in
        let moments : Always P (at_rest text bytes) both =
        (before text bytes digest payload payloads old at, λ e s. subst (λ (d : Disk). Always P d (events.Sync true ∷ [])) (sym s) (during stored, λ e' s'. subst P (sym s') (after stored))) in
        let ends : Ends (λ d. d ≡ at_rest text (bytes ++ E)) (at_rest text bytes) both =
        λ e s. subst (λ (d : Disk). Ends (λ d'. d' ≡ at_rest text (bytes ++ E)) d (events.Sync true ∷ [])) (sym s) (λ e' s'. s' ∙ ap (λ (l : List ℕ). at_rest text (bytes ++ l)) written) in
        record {
          any_moment = subst (Always P (at_rest text bytes)) (sym is) moments;
          stored = λ _. subst (Ends (λ d. d ≡ at_rest text (bytes ++ E)) (at_rest text bytes)) (sym is) ends;
          position = λ _. record {
            head = at.head;
            journal = grown;
            of_text = at.of_text;
            end_is = next_end ∙ ap (λ (k : ℕ). k + length E) at.end_is ∙ sym (length-append bytes E);
            digest_is = next_digest ∙ at.digest_is;
            key_is = next_key ∙ at.key_is;
            link_is = next_link ∙ ap (λ (k : List ℕ). next k old.link payload) at.key_is ∙ ap (λ (l : Link). next (key_in at.head) l payload) at.link_is
                ∙ sym (link_after_push (key_in at.head) (first_link at.head) payloads payload);
          };
          ready = λ _. ready;
          refused = λ e. absurd cc;
        }

    pub torn_appends : (new : Position) → new.state ≡ states.Torn → IsStored stored states.Torn es → Appends old new payload false text bytes digest payloads es
    torn_appends new torn is =
        let P = LeavesOnly (IsBeforeOrAfter old text bytes digest payloads payload) in
        let moments : Always P (at_rest text bytes) (events.Append stored false ∷ []) = (before text bytes digest payload payloads old at, λ e s. subst P (sym s.1) (during (take s.0 stored))) in
        record {
          any_moment = subst (Always P (at_rest text bytes)) (sym is) moments;
          stored = λ e. absurd cc;
          position = λ e. absurd cc;
          ready = λ e. absurd cc;
          refused = λ _ ready. absurd (cc (torn, ready));
        }

    pub lost_appends : (new : Position) → new.state ≡ states.Lost → IsStored stored states.Lost es → Appends old new payload false text bytes digest payloads es
    lost_appends new lost_is is =
        let P = LeavesOnly (IsBeforeOrAfter old text bytes digest payloads payload) in
        let moments : Always P (at_rest text bytes) (events.Append stored true ∷ events.Sync false ∷ []) =
        (before text bytes digest payload payloads old at, λ e s. subst (λ (d : Disk). Always P d (events.Sync false ∷ [])) (sym s) (during stored, λ e' s'. subst P (sym s') (unsynced stored))) in
        record {
          any_moment = subst (Always P (at_rest text bytes)) (sym is) moments;
          stored = λ e. absurd cc;
          position = λ e. absurd cc;
          ready = λ e. absurd cc;
          refused = λ _ ready. absurd (cc (lost_is, ready));
        }
