-- What a crash leaves of a journal that is compacted.
use Rattle.std.proofs.Common.{◌≡◌, ℕ, ◌⊎◌, Bool, true, false, List, [], ◌∷◌, ◌++◌, refl, sym, ap, subst, ◌∙◌, inl, inr, ⊎_elim}
use Rattle.std.proofs.lemmas.Bool.{cases_eq}
use Rattle.sha2.specs.Sha256.{sha256}
use Rattle.dns_journal.specs.format.Format.{digest_in, entry, IsJournal}
use Rattle.dns_journal.specs.declared.journal.Position.{Position}
use Rattle.dns_journal.specs.declared.journal.State.{State}
use Rattle.dns_journal.specs.declared.journal.State.TheVariants as states
use Rattle.dns_journal.specs.Appending.{Appends, IsBeforeOrAfter, IsPosition, StandsFor}
use Rattle.dns_journal.specs.Event.{Event, Files}
use Rattle.dns_journal.specs.Event as events
use Rattle.dns_journal.specs.Storage.{Always, Disk, Ends, LeavesOnly, at_rest}
use Rattle.dns_durable.specs.recovery.Beginning.{new_journal}
use Rattle.dns_durable.specs.recovery.Compacting.{Compacts, IsOldOrNew, IsReplaced, Recovers, entries_of, last_after, last_payload, mark, payloads_of, updates_in, updates_of}
use Rattle.dns_durable.proofs.EventLaws.{always_then, always_weaker, ends_then, ends_weaker, rest_is}

-- ---- lists

same_list : (xs ys : List ℕ) → (xs ≡ ys) ⊎ (xs ≡ ys → ⊥)
same_list [] [] = inl refl
same_list [] (y ∷ ys) = inr (λ e. absurd cc)
same_list (x ∷ xs) [] = inr (λ e. absurd cc)
same_list (x ∷ xs) (y ∷ ys) = elim (cases_eq x y) [
  | inl e ↦ elim (same_list xs ys) [
    | inl f ↦ inl (cc (e, f))
    | inr differ ↦ inr (λ h. let tails : xs ≡ ys = cc in differ tails)
  ]
  | inr differ ↦ inr (λ h. let heads : x ≡ y = cc in differ heads)
]

-- a mark is no update
marked_updates : (payloads : List (List ℕ)) (text carried : List ℕ) → updates_in (payloads ++ mark text carried ∷ []) ≡ updates_in payloads
marked_updates [] text carried = refl
marked_updates (payload ∷ payloads) text carried = ap (λ (l : List (List ℕ)). updates_of payload ++ l) (marked_updates payloads text carried)

-- the updates that a new journal begins with
pub carried_updates : (carried : List ℕ) → entries_of carried ≡ updates_in (payloads_of carried)
carried_updates [] = refl
carried_updates (byte ∷ bytes) = refl

last_is : (last : List ℕ) (payloads : List (List ℕ)) (payload : List ℕ) → last_after last (payloads ++ payload ∷ []) ≡ payload
last_is last [] payload = refl
last_is last (p ∷ payloads) payload = last_is p payloads payload

pub last_marked : (payloads : List (List ℕ)) (payload : List ℕ) → last_payload (payloads ++ payload ∷ []) ≡ payload
last_marked payloads payload = last_is [] payloads payload

-- ---- a crash

module _ (old : Position) (text new carried bytes digest : List ℕ) (payloads : List (List ℕ)) (belongs : digest ≡ sha256 text) (one_text : sha256 new ≡ sha256 text → new ≡ text) where
  recovers_old : (files : Files) (more : List (List ℕ)) → files.text ≡ text → StandsFor files.journal digest more → updates_in more ≡ updates_in payloads → Recovers files (updates_in payloads)
  recovers_old files more same stands is = record {
    head = stands.head;
    payloads = more;
    end = stands.end;
    journal = stands.is;
    by = inl (stands.of_text ∙ belongs ∙ ap sha256 (sym same), sym is);
  }

  -- while the mark is appended
  pub appending : (files : Files) → IsBeforeOrAfter old text bytes digest payloads (mark new carried) files → IsOldOrNew old text new carried bytes digest payloads files
  appending files before = record {
    text_is = inl before.text_is;
    stands = λ left. inl (
      before.text_is,
      ⊎_elim (λ a. recovers_old files payloads before.text_is a refl) (λ b. recovers_old files (payloads ++ mark new carried ∷ []) before.text_is b (marked_updates payloads new carried)) (before.journal left),
    );
  }

  -- the new text, with the journal that ends with its mark
  pub renamed : (files : Files) (journal head : List ℕ) → digest_in head ≡ digest → IsJournal journal head (payloads ++ mark new carried ∷ []) [] → files.text ≡ new → files.journal ≡ journal → IsOldOrNew old text new carried bytes digest payloads files
  renamed files journal head of_text is same journal_is =
      let more = payloads ++ mark new carried ∷ [] in
      let read : IsJournal files.journal head more [] = subst (λ (l : List ℕ). IsJournal l head more []) (sym journal_is) is in
      record {
        text_is = inr same;
        stands = λ left. elim (same_list digest (sha256 new)) [
          | inl e ↦ let former : files.text ≡ text = same ∙ one_text (sym e ∙ belongs) in inl (former, recovers_old files more former (record { head = head; end = []; is = read; of_text = of_text }) (marked_updates payloads new carried))
          | inr differs ↦ inr (
            same,
            record {
              head = head;
              payloads = more;
              end = [];
              journal = read;
              by = inr (
                λ e. differs (sym of_text ∙ e ∙ ap sha256 same),
                record { carried = carried; marked = last_marked payloads (mark new carried) ∙ ap (λ (t : List ℕ). mark t carried) (sym same); updates_are = refl },
              );
            },
          )
        ];
      }

  -- the new text, with a new journal
  pub begun : (files : Files) (journal head : List ℕ) → digest_in head ≡ sha256 new → IsJournal journal head (payloads_of carried) [] → files.text ≡ new → files.journal ≡ journal → IsOldOrNew old text new carried bytes digest payloads files
  begun files journal head of_text is same journal_is = record {
    text_is = inr same;
    stands = λ left. inr (
      same,
      record {
        head = head;
        payloads = payloads_of carried;
        end = [];
        journal = subst (λ (l : List ℕ). IsJournal l head (payloads_of carried) []) (sym journal_is) is;
        by = inl (of_text ∙ ap sha256 (sym same), carried_updates carried);
      },
    );
  }

  -- the old text, with the journal that ends with the mark
  pub marked : (files : Files) (journal head : List ℕ) → digest_in head ≡ digest → IsJournal journal head (payloads ++ mark new carried ∷ []) [] → files.text ≡ text → files.journal ≡ journal → IsOldOrNew old text new carried bytes digest payloads files
  marked files journal head of_text is same journal_is =
      let more = payloads ++ mark new carried ∷ [] in
      let read : IsJournal files.journal head more [] = subst (λ (l : List ℕ). IsJournal l head more []) (sym journal_is) is in
      record {
        text_is = inl same;
        stands = λ left. inl (same, recovers_old files more same (record { head = head; end = []; is = read; of_text = of_text }) (marked_updates payloads new carried));
      }

  -- ---- the calls of a compaction

  module _ (journal head key : List ℕ) (of_text : digest_in head ≡ digest) (is : IsJournal journal head (payloads ++ mark new carried ∷ []) [])
      (of_new : digest_in (sha256 new ++ key) ≡ sha256 new) (begins : IsJournal (new_journal (sha256 new) key carried) (sha256 new ++ key) (payloads_of carried) []) where
    at_mark : LeavesOnly (IsOldOrNew old text new carried bytes digest payloads) (at_rest text journal)
    at_mark files leaves = marked files journal head of_text is leaves.text (rest_is text journal files leaves)

    at_text : LeavesOnly (IsOldOrNew old text new carried bytes digest payloads) (at_rest new journal)
    at_text files leaves = renamed files journal head of_text is leaves.text (rest_is new journal files leaves)

    at_end : LeavesOnly (IsOldOrNew old text new carried bytes digest payloads) (at_rest new (new_journal (sha256 new) key carried))
    at_end files leaves = begun files (new_journal (sha256 new) key carried) (sha256 new ++ key) of_new begins leaves.text (rest_is new (new_journal (sha256 new) key carried) files leaves)

    pub replaced_always : (state : State) (fs : List Event) → IsReplaced new (new_journal (sha256 new) key carried) state fs → Always (LeavesOnly (IsOldOrNew old text new carried bytes digest payloads)) (at_rest text journal) fs
    replaced_always states.Ready fs calls =
        let P = LeavesOnly (IsOldOrNew old text new carried bytes digest payloads) in
        let H = new_journal (sha256 new) key carried in
        let both : Always P (at_rest text journal) (events.ReplaceText new true ∷ events.ReplaceJournal H true ∷ []) =
        (at_mark, λ e s. subst (λ (d : Disk). Always P d (events.ReplaceJournal H true ∷ [])) (sym s) (at_text, λ e' s'. subst P (sym s') at_end)) in
        subst (Always P (at_rest text journal)) (sym calls) both
    replaced_always states.Torn fs calls =
        let P = LeavesOnly (IsOldOrNew old text new carried bytes digest payloads) in
        let one : Always P (at_rest text journal) (events.ReplaceText new false ∷ []) =
        (at_mark, λ e s. ⊎_elim (λ a. subst P (sym a) at_mark) (λ b. subst P (sym b) at_text) s) in
        subst (Always P (at_rest text journal)) (sym calls) one
    replaced_always states.Lost fs calls =
        let P = LeavesOnly (IsOldOrNew old text new carried bytes digest payloads) in
        let H = new_journal (sha256 new) key carried in
        let both : Always P (at_rest text journal) (events.ReplaceText new true ∷ events.ReplaceJournal H false ∷ []) =
        (at_mark, λ e s. subst (λ (d : Disk). Always P d (events.ReplaceJournal H false ∷ [])) (sym s) (at_text, λ e' s'. ⊎_elim (λ a. subst P (sym a) at_text) (λ b. subst P (sym b) at_end) s')) in
        subst (Always P (at_rest text journal)) (sym calls) both

    pub replaced_ends : (fs : List Event) → IsReplaced new (new_journal (sha256 new) key carried) states.Ready fs → Ends (λ d. d ≡ at_rest new (new_journal (sha256 new) key carried)) (at_rest text journal) fs
    replaced_ends fs calls =
        let H = new_journal (sha256 new) key carried in
        let Q : Disk → Type 0 = λ d. d ≡ at_rest new H in
        let both : Ends Q (at_rest text journal) (events.ReplaceText new true ∷ events.ReplaceJournal H true ∷ []) =
        λ e s. subst (λ (d : Disk). Ends Q d (events.ReplaceJournal H true ∷ [])) (sym s) (λ e' s'. s') in
        subst (Ends Q (at_rest text journal)) (sym calls) both

  before_it : IsPosition old bytes digest payloads → LeavesOnly (IsOldOrNew old text new carried bytes digest payloads) (at_rest text bytes)
  before_it at files leaves =
      let same : IsJournal files.journal at.head payloads [] = subst (λ (l : List ℕ). IsJournal l at.head payloads []) (sym (rest_is text bytes files leaves)) at.journal in
      record { text_is = inl leaves.text; stands = λ left. inl (leaves.text, recovers_old files payloads leaves.text (record { head = at.head; end = []; is = same; of_text = at.of_text }) refl) }

  -- nothing was asked
  pub nothing_done : IsPosition old bytes digest payloads → Compacts old old false text new carried bytes digest payloads []
  nothing_done at = record { any_moment = before_it at; stored = λ e. absurd cc; position = λ e. absurd cc; ready = λ e. absurd cc; refused = λ _ _. (refl, refl) }

  -- while the mark is appended, whatever becomes of it
  marking : (p : Position) (done : Bool) (es : List Event) → Appends old p (mark new carried) done text bytes digest payloads es → Always (LeavesOnly (IsOldOrNew old text new carried bytes digest payloads)) (at_rest text bytes) es
  marking p done es appends =
      always_weaker (LeavesOnly (IsBeforeOrAfter old text bytes digest payloads (mark new carried))) (LeavesOnly (IsOldOrNew old text new carried bytes digest payloads)) (λ d holds files leaves. appending files (holds files leaves)) (at_rest text bytes) es appends.any_moment

  pub append_refused : (p : Position) (es : List Event) → Appends old p (mark new carried) false text bytes digest payloads es → Compacts old p false text new carried bytes digest payloads es
  append_refused p es appends =
      record { any_moment = marking p false es appends; stored = λ e. absurd cc; position = λ e. absurd cc; ready = λ e. absurd cc; refused = appends.refused }

  module _ (p : Position) (es : List Event) (appends : Appends old p (mark new carried) true text bytes digest payloads es) (key : List ℕ)
      (of_new : digest_in (sha256 new ++ key) ≡ sha256 new) (begins : IsJournal (new_journal (sha256 new) key carried) (sha256 new ++ key) (payloads_of carried) []) where
    -- the journal with the mark
    marked_at : IsPosition p (bytes ++ entry old.key old.link (mark new carried)) digest (payloads ++ mark new carried ∷ [])
    marked_at = appends.position refl

    -- the mark, and then the calls that replace the text and the journal
    moments : (state : State) (fs : List Event) → IsReplaced new (new_journal (sha256 new) key carried) state fs → Always (LeavesOnly (IsOldOrNew old text new carried bytes digest payloads)) (at_rest text bytes) (es ++ fs)
    moments state fs calls =
        let P = LeavesOnly (IsOldOrNew old text new carried bytes digest payloads) in
        let journal = bytes ++ entry old.key old.link (mark new carried) in
        always_then P (at_rest text bytes) es fs (marking p true es appends)
        (ends_weaker (λ d. d ≡ at_rest text journal) (λ d. Always P d fs) (λ d s. subst (λ (e : Disk). Always P e fs) (sym s) (replaced_always journal marked_at.head key marked_at.of_text marked_at.journal of_new begins state fs calls)) (at_rest text bytes) es (appends.stored refl))

    pub replace_failed : (position : Position) (state : State) (fs : List Event) → IsReplaced new (new_journal (sha256 new) key carried) state fs → position.state ≡ states.Lost
        → Compacts old position false text new carried bytes digest payloads (es ++ fs)
    replace_failed position state fs calls lost = record {
      any_moment = moments state fs calls;
      stored = λ e. absurd cc;
      position = λ e. absurd cc;
      ready = λ e. absurd cc;
      refused = λ _ ready. absurd (let both : states.Lost ≡ states.Ready = sym lost ∙ ready in cc);
    }

    pub all_done : (position : Position) (fs : List Event) → IsReplaced new (new_journal (sha256 new) key carried) states.Ready fs → IsPosition position (new_journal (sha256 new) key carried) (sha256 new) (payloads_of carried) → position.key ≡ key
        → position.state ≡ states.Ready → Compacts old position true text new carried bytes digest payloads (es ++ fs)
    all_done position fs calls at key_is is_ready =
        let Q : Disk → Type 0 = λ d. d ≡ at_rest new (new_journal (sha256 new) key carried) in
        let journal = bytes ++ entry old.key old.link (mark new carried) in
        let ends : Ends Q (at_rest text bytes) (es ++ fs) =
        ends_then Q (at_rest text bytes) es fs (ends_weaker (λ d. d ≡ at_rest text journal) (λ d. Ends Q d fs) (λ d s. subst (λ (e : Disk). Ends Q e fs) (sym s)
        (replaced_ends journal marked_at.head key marked_at.of_text marked_at.journal of_new begins fs calls)) (at_rest text bytes) es (appends.stored refl)) in
        record {
          any_moment = moments states.Ready fs calls;
          stored = λ _. subst (λ (k : List ℕ). Ends (λ d. d ≡ at_rest new (new_journal (sha256 new) k carried)) (at_rest text bytes) (es ++ fs)) (sym key_is) ends;
          position = λ _. subst (λ (k : List ℕ). IsPosition position (new_journal (sha256 new) k carried) (sha256 new) (payloads_of carried)) (sym key_is) at;
          ready = λ _. is_ready;
          refused = λ e. absurd cc;
        }
