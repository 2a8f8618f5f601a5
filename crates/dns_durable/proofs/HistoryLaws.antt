-- What a crash leaves of the updates of calls.
use Rattle.std.proofs.Common.{◌≡◌, ◌≢◌, ◌⊎◌, ℕ, Bool, true, false, List, [], ◌∷◌, ◌++◌, drop, Result, Ok, Err, refl, sym, ap, subst, ◌∙◌, inl, inr, ⊎_elim, append_assoc, append-nil}
use Rattle.std.specs.declared.alloc.AllocError.{AllocError}
use Rattle.sha2.specs.Sha256.{sha256}
use Rattle.dns_journal.specs.declared.journal.Position.{Position}
use Rattle.dns_journal.specs.declared.journal.State.TheVariants as states
use Rattle.dns_journal.specs.Appending.{IsRemainder}
use Rattle.dns_journal.specs.Event.{Event, Files}
use Rattle.dns_journal.specs.Storage.{Always, Disk, Ends, LeavesOnly, at_rest}
use Rattle.dns_durable.specs.recovery.Beginning.{new_journal}
use Rattle.dns_durable.specs.recovery.Compacting.{IsOldOrNew, Recovers, entries_of, mark, payloads_of}
use Rattle.dns_durable.specs.recovery.Updating.{IsOpen}
use Rattle.dns_durable.proofs.AskingLaws.{ready_or}
use Rattle.dns_durable.proofs.CompactingLaws.{carried_updates}
use Rattle.dns_durable.proofs.EventLaws.{always_weaker, ends_then, ends_weaker}
use Rattle.dns_durable.proofs.UpdatingLaws.{open_stands}
use Rattle.dns_zone.specs.Rows.{ZoneContent}
use Rattle.dns_durable.specs.Compaction.{IsLeftAlone, IsTextBehind, Replaces, Rewrites}
use Rattle.dns_durable.specs.Durable.{Commits, EndsIn, IsUnchanged, LeadsTo, is_acknowledged}
use Rattle.dns_durable.specs.declared.durable_server.Replies.{Replies}
use Rattle.dns_durable.specs.declared.error.CompactError.{CompactError}
use Rattle.dns_durable.specs.declared.error.CompactError.TheVariants as errors
use Rattle.dns_durable.specs.History.{AreBatches, AreGenuine, AreInJournal, AreReady, Call, Deed, HasOwnDigest, HaveOwnDigests, IsBatch, IsGenuineOf, IsMade, IsServed, IsTextOf, KeepsContract, Kept, Outlasts, OutlastsInJournal, Runs, StandAfter, Writes, entries_in, events_of, is_done, lacking, position_after, text_after}
use Rattle.dns_durable.specs.History.Deed.{batch, compaction}
use Rattle.dns_durable.specs.History.Kept.{nothing, with_it, without_it}
use Rattle.dns_durable.specs.History.Runs.{a_call}
use Rattle.dns_durable.specs.History.Serves.{serves_none, serves_call}
use Rattle.dns_durable.specs.Storing.{IsWithOrWithout}
use Rattle.dns_durable.proofs.StoringLaws.{entries_none}

-- what always holds, holds at the end
always_ends : (P : Disk → Type 0) (d : Disk) (es : List Event) → Always P d es → Ends P d es
always_ends P d [] holds = holds
always_ends P d (event ∷ es) holds = λ e step. always_ends P e es (holds.1 e step)

-- a test, as a choice
true_or : (b : Bool) → (b ≡ true) ⊎ (b ≡ false)
true_or true = inl refl
true_or false = inr refl

-- a compaction that is not done asks a storage, or is left alone
not_done : (text carried : List ℕ) (error : CompactError) (old new : Position) (zones after : List ZoneContent) (es : List Event) → Rewrites text carried (Err error) old new zones after es
    → Replaces text carried false old new zones after es ⊎ IsLeftAlone old new zones after es
not_done text carried (errors.Journal error) old new zones after es rewrites = inl rewrites
not_done text carried errors.Zones old new zones after es rewrites = inr rewrites
not_done text carried errors.Text old new zones after es rewrites = inr rewrites
not_done text carried errors.Memory old new zones after es rewrites = inr rewrites

-- ---- a journal that is not ready

-- a call asks for nothing, and has no entry on the disk
record IsIdle (deed : Deed) (p new : Position) (es : List Event) : Type 0 where
  unasked : es ≡ []
  position : new ≡ p
  none : is_done deed ≡ true → IsBatch deed × (entries_in deed ≡ [])

idle_deed : (deed : Deed) (p new : Position) (zones after : List ZoneContent) (es : List Event) → p.state ≢ states.Ready → KeepsContract deed p new zones after es → IsIdle deed p new es
idle_deed (batch frames outcome) p new zones after es not keeps =
    let left = (keeps.idle not).0 in
    record { unasked = left.unasked; position = left.position; none = λ is. (tt, entries_none frames (left.refused is)) }
idle_deed (compaction text carried (Ok done)) p new zones after es not keeps = absurd (not (keeps.ready refl))
idle_deed (compaction text carried (Err error)) p new zones after es not keeps =
    ⊎_elim (λ asks. let both = asks.asks.idle not in record { unasked = both.0; position = both.1; none = λ e. absurd cc })
    (λ left. record { unasked = left.unasked; position = left.position; none = λ e. absurd cc }) (not_done text carried error p new zones after es keeps)

kept_none : (c : Call) (more : List Call) → (is_done c.deed ≡ true → IsBatch c.deed × (entries_in c.deed ≡ [])) → Kept more [] → Kept (c ∷ more) []
kept_none c more none kept =
    ⊎_elim (λ is. subst (λ (l : List (List ℕ)). Kept (c ∷ more) (l ++ [])) (none is).1 (with_it {c = c} ((none is).0, inl is) kept))
    (λ not. without_it {c = c} not kept) (true_or (is_done c.deed))

-- calls of a journal that is not ready ask for nothing, and keep nothing
stuck_kept : (p : Position) (zones : List ZoneContent) (done : List Call) (c : Call) → p.state ≢ states.Ready → Runs p zones (done ++ c ∷ []) → Kept done []
stuck_kept p zones [] c not runs = nothing
stuck_kept p zones (b ∷ done) c not (a_call keeps runs) =
    let idle = idle_deed b.deed p b.new zones b.after b.events not keeps in
    kept_none b done idle.none (stuck_kept b.new b.after done c (λ ready. not (ap (λ (q : Position). q.state) (sym idle.position) ∙ ready)) runs)

stuck : (P : Disk → Type 0) (p : Position) (zones : List ZoneContent) (d : Disk) (done : List Call) (c : Call) → p.state ≢ states.Ready → Runs p zones (done ++ c ∷ []) → P d
    → Ends (λ e. Always P e c.events) d (events_of done)
stuck P p zones d [] c not (a_call keeps runs) holds =
    subst (λ (es : List Event). Always P d es) (sym (idle_deed c.deed p c.new zones c.after c.events not keeps).unasked) holds
stuck P p zones d (b ∷ done) c not (a_call keeps runs) holds =
    let idle = idle_deed b.deed p b.new zones b.after b.events not keeps in
    subst (λ (es : List Event). Ends (λ e. Always P e c.events) d (es ++ events_of done)) (sym idle.unasked)
    (stuck P b.new b.after d done c (λ ready. not (ap (λ (q : Position). q.state) (sym idle.position) ∙ ready)) runs holds)

-- ---- a call of a journal that is ready

-- the files while it is made
record IsBetween (text : List ℕ) (updates : List (List ℕ)) (p : Position) (zones : List ZoneContent) (deed : Deed) (files : Files) : Type 0 where
  text_is : (files.text ≡ text) ⊎ Writes deed files.text
  stands : IsGenuineOf deed p files
      → ((files.text ≡ text) × (Recovers files updates ⊎ (IsBatch deed × Recovers files (updates ++ entries_in deed))))
      ⊎ (Writes deed files.text × (((again : ZoneContent) × IsTextBehind zones files.text (lacking deed) again) × Recovers files (entries_of (lacking deed))))

-- what it leads to
data Leads (text : List ℕ) (updates : List (List ℕ)) (p new : Position) (zones after : List ZoneContent) (deed : Deed) (d : Disk) (es : List Event) : Type 0 where
  stores : IsBatch deed → is_done deed ≡ true → IsServed deed zones after → Ends (IsOpen text (updates ++ entries_in deed) new) d es → Leads text updates p new zones after deed d es
  stays : is_done deed ≡ false → es ≡ [] → new ≡ p → after ≡ zones → Leads text updates p new zones after deed d es
  stops : is_done deed ≡ false → new.state ≢ states.Ready → Leads text updates p new zones after deed d es
  replaces : (next : List ℕ) (again : ZoneContent) → Writes deed next → IsServed deed zones after → IsTextBehind zones next (lacking deed) again → text_after text deed ≡ next
      → Ends (IsOpen next (entries_of (lacking deed)) new) d es → Leads text updates p new zones after deed d es

record IsStep (text : List ℕ) (updates : List (List ℕ)) (p new : Position) (zones after : List ZoneContent) (deed : Deed) (d : Disk) (es : List Event) : Type 0 where
  moments : Always (LeavesOnly (IsBetween text updates p zones deed)) d es
  leads : Leads text updates p new zones after deed d es

-- what is open leaves its updates
open_between : (text : List ℕ) (updates : List (List ℕ)) (p : Position) (zones : List ZoneContent) (deed : Deed) (d : Disk) → IsOpen text updates p d
    → LeavesOnly (IsBetween text updates p zones deed) d
open_between text updates p zones deed d opened files leaves =
    let both = open_stands text updates p d opened files leaves in
    record { text_is = inl both.0; stands = λ genuine. inl (both.0, inl both.1) }

-- ---- batches

module _ (text : List ℕ) (updates : List (List ℕ)) (p new : Position) (zones after : List ZoneContent) (frames : List ℕ) (d : Disk) (es : List Event) where
  batch_between : (outcome : Result Replies AllocError) (files : Files) → IsWithOrWithout text updates frames p files → IsBetween text updates p zones (batch frames outcome) files
  batch_between outcome files at = record {
    text_is = inl at.text_is;
    stands = λ genuine. inl (at.text_is, ⊎_elim (λ a. inl a) (λ b. inr (tt, b)) (at.stands genuine));
  }

  unchanged_leads : (outcome : Result Replies AllocError) → is_acknowledged outcome ≡ false → IsUnchanged p new zones after es → Leads text updates p new zones after (batch frames outcome) d es
  unchanged_leads outcome not same =
      ⊎_elim (λ ready. let both = same.unasked ready in stays not both.0 both.1 same.zones_are) (λ stopped. stops not stopped) (ready_or new.state)

  stored_leads : (replies : Replies) (stored : Bool) → replies.is_stored ≡ stored → LeadsTo stored text updates frames p new zones after d es → Leads text updates p new zones after (batch frames (Ok replies)) d es
  stored_leads replies true is leads = stores tt is (subst (λ (b : Bool). IsMade b frames zones after) (sym is) leads.1) leads.0
  stored_leads replies false is leads = unchanged_leads (Ok replies) is leads

  batch_leads : (outcome : Result Replies AllocError) → EndsIn outcome text updates frames p new zones after d es → Leads text updates p new zones after (batch frames outcome) d es
  batch_leads (Ok replies) ends = stored_leads replies replies.is_stored refl ends
  batch_leads (Err error) ends = ⊎_elim (λ same. unchanged_leads (Err error) refl same) (λ behind. stops refl behind.suspended) ends

  batch_step : (outcome : Result Replies AllocError) → Commits text updates frames outcome p new zones after d es → IsStep text updates p new zones after (batch frames outcome) d es
  batch_step outcome commits = record {
    moments = always_weaker (LeavesOnly (IsWithOrWithout text updates frames p)) (LeavesOnly (IsBetween text updates p zones (batch frames outcome)))
        (λ e holds files leaves. batch_between outcome files (holds files leaves)) d es commits.any_moment;
    leads = batch_leads outcome commits.ends;
  }

-- ---- compactions

module _ (text : List ℕ) (updates : List (List ℕ)) (p new : Position) (zones after : List ZoneContent) (next carried : List ℕ) (d : Disk) (es : List Event) (opened : IsOpen text updates p d)
    (own : sha256 next ≡ sha256 text → next ≡ text) where
  compaction_between : (result : Result (Unit {0}) CompactError) (again : ZoneContent) → IsTextBehind zones next carried again → (files : Files)
      → IsOldOrNew p text next carried opened.bytes (sha256 text) opened.payloads files → IsBetween text updates p zones (compaction next carried result) files
  compaction_between result again behind files at = record {
    text_is = at.text_is;
    stands = λ genuine. ⊎_elim
        (λ old. inl (old.0, inl (subst (λ (l : List (List ℕ)). Recovers files l) (sym opened.updates_are) old.1)))
        (λ is_new. inr (is_new.0, ((again, subst (λ (t : List ℕ). IsTextBehind zones t carried again) (sym is_new.0) behind), is_new.1)))
        (at.stands (subst (λ (n : ℕ). IsRemainder p (mark next carried) (drop n files.journal)) opened.at.end_is genuine));
  }

  compaction_moments : (result : Result (Unit {0}) CompactError) (done : Bool) → Replaces next carried done p new zones after es
      → Always (LeavesOnly (IsBetween text updates p zones (compaction next carried result))) d es
  compaction_moments result done at =
      let P = LeavesOnly (IsOldOrNew p text next carried opened.bytes (sha256 text) opened.payloads) in
      let Q = LeavesOnly (IsBetween text updates p zones (compaction next carried result)) in
      subst (λ (e : Disk). Always Q e es) (sym opened.disk_is)
      (always_weaker P Q (λ e holds files leaves. compaction_between result at.again at.behind files (holds files leaves)) (at_rest text opened.bytes) es
      (at.asks.compacts text opened.bytes (sha256 text) opened.payloads opened.at refl own).any_moment)

  done_step : (done : Unit {0}) → Replaces next carried true p new zones after es → IsStep text updates p new zones after (compaction next carried (Ok done)) d es
  done_step done at =
      let compacts = at.asks.compacts text opened.bytes (sha256 text) opened.payloads opened.at refl own in
      let journal = new_journal (sha256 next) new.key carried in
      record {
        moments = compaction_moments (Ok done) true at;
        leads = replaces next at.again refl (at.again, (at.behind, at.served refl)) at.behind refl
            (subst (λ (e : Disk). Ends (IsOpen next (entries_of carried) new) e es) (sym opened.disk_is)
            (ends_weaker (λ e. e ≡ at_rest next journal) (IsOpen next (entries_of carried) new)
            (λ e is. record { bytes = journal; payloads = payloads_of carried; disk_is = is; at = compacts.position refl; updates_are = carried_updates carried })
            (at_rest text opened.bytes) es (compacts.stored refl)));
      }

  failed_leads : (error : CompactError) → Replaces next carried false p new zones after es → Leads text updates p new zones after (compaction next carried (Err error)) d es
  failed_leads error at =
      let compacts = at.asks.compacts text opened.bytes (sha256 text) opened.payloads opened.at refl own in
      ⊎_elim (λ ready. let both = compacts.refused refl ready in stays refl both.0 both.1 (at.unchanged refl)) (λ stopped. stops refl stopped) (ready_or new.state)

  failed_step : (error : CompactError) → Rewrites next carried (Err error) p new zones after es → IsStep text updates p new zones after (compaction next carried (Err error)) d es
  failed_step error rewrites = ⊎_elim
      (λ at. record { moments = compaction_moments (Err error) false at; leads = failed_leads error at })
      (λ left. record {
        moments = subst (λ (l : List Event). Always (LeavesOnly (IsBetween text updates p zones (compaction next carried (Err error)))) d l) (sym left.unasked)
            (open_between text updates p zones (compaction next carried (Err error)) d opened);
        leads = stays refl left.unasked left.position left.zones_are;
      }) (not_done next carried error p new zones after es rewrites)

step : (text : List ℕ) (updates : List (List ℕ)) (p new : Position) (zones after : List ZoneContent) (deed : Deed) (d : Disk) (es : List Event) → IsOpen text updates p d → HasOwnDigest text deed
    → KeepsContract deed p new zones after es → IsStep text updates p new zones after deed d es
step text updates p new zones after (batch frames outcome) d es opened own keeps = batch_step text updates p new zones after frames d es outcome (keeps.commits text updates d opened)
step text updates p new zones after (compaction next carried (Ok done)) d es opened own keeps = done_step text updates p new zones after next carried d es opened own done keeps
step text updates p new zones after (compaction next carried (Err error)) d es opened own keeps = failed_step text updates p new zones after next carried d es opened own error keeps

-- ---- what is left

-- updates from before calls that keep nothing
in_journal : (text : List ℕ) (updates : List (List ℕ)) (done : List Call) (deed : Deed) (files : Files) → files.text ≡ text → Kept done [] → Recovers files updates → AreInJournal text updates done deed files
in_journal text updates done deed files same kept is = record {
  text_is = same;
  kept = [];
  last = [];
  are_kept = kept;
  is_last = inl refl;
  recovers = subst (λ (l : List (List ℕ)). Recovers files l) (sym (append-nil (updates ++ []) ∙ append-nil updates)) is;
}

-- the text from before calls is one of them
of_former : (former : List ℕ) (calls : List Call) (text : List ℕ) → text ≡ former → IsTextOf former calls text
of_former former [] text same = same
of_former former (c ∷ calls) text same = inl (of_former former calls text same)

of_next : (former next : List ℕ) (calls : List Call) (text : List ℕ) → IsTextOf next calls text → IsTextOf former calls text ⊎ (text ≡ next)
of_next former next [] text is = inr is
of_next former next (c ∷ calls) text (inl is) = ⊎_elim (λ a. inl (inl a)) (λ b. inr b) (of_next former next calls text is)
of_next former next (c ∷ calls) text (inr writes) = inl (inr writes)

-- the call itself is interrupted
interrupted : (text : List ℕ) (updates : List (List ℕ)) (p : Position) (zones : List ZoneContent) (c : Call) (files : Files) → p.state ≡ states.Ready → IsBetween text updates p zones c.deed files
    → Outlasts text updates p zones [] c files
interrupted text updates p zones c files ready at = record {
  text_is = at.text_is;
  stands = λ genuine. ⊎_elim
      (λ old. inl (⊎_elim (λ a. in_journal text updates [] c.deed files old.0 nothing a)
      (λ b. record {
        text_is = old.0;
        kept = [];
        last = entries_in c.deed;
        are_kept = nothing;
        is_last = inr refl;
        recovers = subst (λ (l : List (List ℕ)). Recovers files (l ++ entries_in c.deed)) (sym (append-nil updates)) b.1;
      }) old.1))
      (λ is_new. inr (inr (record {
        writes = is_new.0;
        is_text = record { served = zones; again = is_new.1.0.0; serves = serves_none; behind = is_new.1.0.1 };
        recovers = is_new.1.1;
      }))) (at.stands (genuine.0 ready (inr refl)));
}

-- the first call is interrupted, and none after it asks for anything
after_stuck : (text : List ℕ) (updates : List (List ℕ)) (p : Position) (zones : List ZoneContent) (b : Call) (done : List Call) (c : Call) (files : Files) → p.state ≡ states.Ready
    → b.new.state ≢ states.Ready → is_done b.deed ≡ false → Kept done [] → IsBetween text updates p zones b.deed files → Outlasts text updates p zones (b ∷ done) c files
after_stuck text updates p zones b done c files ready stopped not kept at = record {
  text_is = ⊎_elim (λ same. inl (of_former text (done ++ c ∷ []) files.text same)) (λ writes. inr writes) at.text_is;
  stands = λ genuine. ⊎_elim
      (λ old. inl (⊎_elim (λ a. in_journal text updates (b ∷ done) c.deed files old.0 (without_it {c = b} not kept) a)
      (λ with_batch. record {
        text_is = old.0;
        kept = entries_in b.deed ++ [];
        last = [];
        are_kept = with_it {c = b} (with_batch.0, inr stopped) kept;
        is_last = inl refl;
        recovers = subst (λ (l : List (List ℕ)). Recovers files l)
            (sym (append-nil (updates ++ (entries_in b.deed ++ [])) ∙ ap (λ (l : List (List ℕ)). updates ++ l) (append-nil (entries_in b.deed)))) with_batch.1;
      }) old.1))
      (λ is_new. inr (inl (record {
        before = [];
        compacted = b;
        rest = done;
        done_is = refl;
        writes = is_new.0;
        is_text = record { served = zones; again = is_new.1.0.0; serves = serves_none; behind = is_new.1.0.1 };
        journal = in_journal files.text (entries_of (lacking b.deed)) done c.deed files refl kept is_new.1.1;
      }))) (at.stands (genuine.0 ready (inl stopped)));
}

-- what stands after further calls, stands after the first one, too
stands_first : (text : List ℕ) (updates : List (List ℕ)) (zones : List ZoneContent) (later_text : List ℕ) (later : List (List ℕ)) (b : Call) (done : List Call) (deed : Deed) (files : Files)
    → IsServed b.deed zones b.after → (AreInJournal later_text later done deed files → StandAfter text updates zones (b ∷ done) deed files)
    → StandAfter later_text later b.after done deed files → StandAfter text updates zones (b ∷ done) deed files
stands_first text updates zones later_text later b done deed files served first stands = ⊎_elim first
    (λ replaced. ⊎_elim
    (λ at. inr (inl (record {
      before = b ∷ at.before;
      compacted = at.compacted;
      rest = at.rest;
      done_is = ap (λ (l : List Call). b ∷ l) at.done_is;
      writes = at.writes;
      is_text = record { served = at.is_text.served; again = at.is_text.again; serves = serves_call {c = b} served at.is_text.serves; behind = at.is_text.behind };
      journal = at.journal;
    })))
    (λ at. inr (inr (record {
      writes = at.writes;
      is_text = record { served = at.is_text.served; again = at.is_text.again; serves = serves_call {c = b} served at.is_text.serves; behind = at.is_text.behind };
      recovers = at.recovers;
    }))) replaced) stands

-- the first call is kept
after_stored : (text : List ℕ) (updates : List (List ℕ)) (p : Position) (zones : List ZoneContent) (b : Call) (done : List Call) (c : Call) → IsBatch b.deed → is_done b.deed ≡ true → IsServed b.deed zones b.after → (files : Files)
    → Outlasts text (updates ++ entries_in b.deed) b.new b.after done c files → Outlasts text updates p zones (b ∷ done) c files
after_stored text updates p zones b done c is_batch is served files at = record {
  text_is = inl at.text_is;
  stands = λ genuine. stands_first text updates zones text (updates ++ entries_in b.deed) b done c.deed files served
      (λ rest. inl (record {
        text_is = rest.text_is;
        kept = entries_in b.deed ++ rest.kept;
        last = rest.last;
        are_kept = with_it {c = b} (is_batch, inl is) rest.are_kept;
        is_last = rest.is_last;
        recovers = subst (λ (l : List (List ℕ)). Recovers files (l ++ rest.last)) (append_assoc updates (entries_in b.deed) rest.kept) rest.recovers;
      })) (at.stands genuine.1);
}

-- the first call is not kept
after_same : (text : List ℕ) (updates : List (List ℕ)) (p q : Position) (zones after : List ZoneContent) (b : Call) (done : List Call) (c : Call) → is_done b.deed ≡ false → IsServed b.deed zones b.after
    → b.new ≡ q → b.after ≡ after → (files : Files) → Outlasts text updates q after done c files → Outlasts text updates p zones (b ∷ done) c files
after_same text updates p q zones after b done c not served same same_zones files at = record {
  text_is = inl at.text_is;
  stands = λ genuine. stands_first text updates zones text updates b done c.deed files served
      (λ rest. inl (record {
        text_is = rest.text_is;
        kept = rest.kept;
        last = rest.last;
        are_kept = without_it {c = b} not rest.are_kept;
        is_last = rest.is_last;
        recovers = rest.recovers;
      }))
      (subst (λ (z : List ZoneContent). StandAfter text updates z done c.deed files) (sym same_zones) (at.stands (subst (λ (r : Position). AreGenuine r (done ++ c ∷ []) files) same genuine.1)));
}

-- the first call has replaced the text
after_replaced : (text : List ℕ) (updates : List (List ℕ)) (p : Position) (zones : List ZoneContent) (b : Call) (done : List Call) (c : Call) (next : List ℕ) (again : ZoneContent) → Writes b.deed next
    → IsServed b.deed zones b.after → IsTextBehind zones next (lacking b.deed) again → (files : Files)
    → Outlasts next (entries_of (lacking b.deed)) b.new b.after done c files → Outlasts text updates p zones (b ∷ done) c files
after_replaced text updates p zones b done c next again writes served behind files at = record {
  text_is = ⊎_elim (λ a. inl a) (λ is. inr (subst (λ (t : List ℕ). Writes b.deed t) (sym is) writes)) (of_next text next (done ++ c ∷ []) files.text at.text_is);
  stands = λ genuine. stands_first text updates zones next (entries_of (lacking b.deed)) b done c.deed files served
      (λ rest. inr (inl (record {
        before = [];
        compacted = b;
        rest = done;
        done_is = refl;
        writes = subst (λ (t : List ℕ). Writes b.deed t) (sym rest.text_is) writes;
        is_text = record {
          served = zones;
          again = again;
          serves = serves_none;
          behind = subst (λ (t : List ℕ). IsTextBehind zones t (lacking b.deed) again) (sym rest.text_is) behind;
        };
        journal = record { text_is = refl; kept = rest.kept; last = rest.last; are_kept = rest.are_kept; is_last = rest.is_last; recovers = rest.recovers };
      }))) (at.stands genuine.1);
}

-- a disk at rest, whose journal takes no entries
at_rest_left : (text : List ℕ) (updates : List (List ℕ)) (p : Position) (zones : List ZoneContent) (d : Disk) (done : List Call) (c : Call)
    → IsOpen text updates p d → p.state ≢ states.Ready → Runs p zones (done ++ c ∷ []) → LeavesOnly (Outlasts text updates p zones done c) d
at_rest_left text updates p zones d done c opened not runs files leaves =
    let both = open_stands text updates p d opened files leaves in
    record {
      text_is = of_former text (done ++ c ∷ []) files.text both.0;
      stands = λ genuine. inl (in_journal text updates done c.deed files both.0 (stuck_kept p zones done c not runs) both.1);
    }

-- ---- the law

-- a call that was not done leaves the text and the zones
text_stays : (text : List ℕ) (deed : Deed) → is_done deed ≡ false → text_after text deed ≡ text
text_stays text (batch frames outcome) not = refl
text_stays text (compaction next carried (Ok done)) not = absurd cc
text_stays text (compaction next carried (Err error)) not = refl

batch_stays : (text : List ℕ) (deed : Deed) → IsBatch deed → text_after text deed ≡ text
batch_stays text (batch frames outcome) is = refl
batch_stays text (compaction next carried result) is = absurd is

served_same : (deed : Deed) (zones after : List ZoneContent) → is_done deed ≡ false → after ≡ zones → IsServed deed zones after
served_same (batch frames outcome) zones after not same = subst (λ (b : Bool). IsMade b frames zones after) (sym not) same
served_same (compaction next carried (Ok done)) zones after not same = absurd cc
served_same (compaction next carried (Err error)) zones after not same = same

-- a law for what is after a call is one for what is after it and others
then_law : (P Q : Files → Type 0) (es : List Event) (done : List Call) → ((files : Files) → P files → Q files)
    → (d : Disk) → Ends (λ e. Always (LeavesOnly P) e es) d (events_of done) → Ends (λ e. Always (LeavesOnly Q) e es) d (events_of done)
then_law P Q es done weaker d law =
    ends_weaker (λ e. Always (LeavesOnly P) e es) (λ e. Always (LeavesOnly Q) e es)
    (λ e always. always_weaker (LeavesOnly P) (LeavesOnly Q) (λ f holds files leaves. weaker files (holds files leaves)) e es always) d (events_of done) law

module _ (text : List ℕ) (updates : List (List ℕ)) (p : Position) (ready : p.state ≡ states.Ready) (zones : List ZoneContent) (b : Call) (done : List Call) (c : Call) (d : Disk)
    (opened : IsOpen text updates p d) (runs : Runs b.new b.after (done ++ c ∷ [])) (own : HaveOwnDigests (text_after text b.deed) (done ++ c ∷ []))
    (law_after : (later_text : List ℕ) (later : List (List ℕ)) (q : Position) (after : List ZoneContent) (e : Disk) → IsOpen later_text later q e → HaveOwnDigests later_text (done ++ c ∷ [])
    → Runs q after (done ++ c ∷ []) → Ends (λ f. Always (LeavesOnly (Outlasts later_text later q after done c)) f c.events) e (events_of done)) where
  abbrev Law : Disk → Type 0
  Law e = Ends (λ f. Always (LeavesOnly (Outlasts text updates p zones (b ∷ done) c)) f c.events) e (events_of done)

  own_if : (later_text : List ℕ) → text_after text b.deed ≡ later_text → HaveOwnDigests later_text (done ++ c ∷ [])
  own_if later_text is = subst (λ (t : List ℕ). HaveOwnDigests t (done ++ c ∷ [])) is own

  by_leads : Always (LeavesOnly (IsBetween text updates p zones b.deed)) d b.events → Leads text updates p b.new zones b.after b.deed d b.events → Ends Law d b.events
  by_leads moments (stores is_batch is served ends) =
      let later = updates ++ entries_in b.deed in
      ends_weaker (IsOpen text later b.new) Law
      (λ e at. then_law (Outlasts text later b.new b.after done c) (Outlasts text updates p zones (b ∷ done) c) c.events done (after_stored text updates p zones b done c is_batch is served) e
      (law_after text later b.new b.after e at (own_if text (batch_stays text b.deed is_batch)) runs)) d b.events ends
  by_leads moments (stays not none same same_zones) =
      let here : Runs p zones (done ++ c ∷ []) =
      subst (λ (q : Position). Runs q zones (done ++ c ∷ [])) same (subst (λ (z : List ZoneContent). Runs b.new z (done ++ c ∷ [])) same_zones runs) in
      subst (λ (es : List Event). Ends Law d es) (sym none)
      (then_law (Outlasts text updates p zones done c) (Outlasts text updates p zones (b ∷ done) c) c.events done
      (after_same text updates p p zones zones b done c not (served_same b.deed zones b.after not same_zones) same same_zones) d
      (law_after text updates p zones d opened (own_if text (text_stays text b.deed not)) here))
  by_leads moments (stops not stopped) =
      ends_weaker (LeavesOnly (IsBetween text updates p zones b.deed)) Law
      (λ e holds. stuck (LeavesOnly (Outlasts text updates p zones (b ∷ done) c)) b.new b.after e done c stopped runs
      (λ files leaves. after_stuck text updates p zones b done c files ready stopped not (stuck_kept b.new b.after done c stopped runs) (holds files leaves)))
      d b.events (always_ends (LeavesOnly (IsBetween text updates p zones b.deed)) d b.events moments)
  by_leads moments (replaces next again writes served behind is ends) =
      let carried = entries_of (lacking b.deed) in
      ends_weaker (IsOpen next carried b.new) Law
      (λ e at. then_law (Outlasts next carried b.new b.after done c) (Outlasts text updates p zones (b ∷ done) c) c.events done
      (after_replaced text updates p zones b done c next again writes served behind) e
      (law_after next carried b.new b.after e at (own_if next is) runs)) d b.events ends

pub outlasts : (text : List ℕ) (updates : List (List ℕ)) (p : Position) (zones : List ZoneContent) (d : Disk) (done : List Call) (c : Call) → IsOpen text updates p d → HaveOwnDigests text (done ++ c ∷ [])
    → Runs p zones (done ++ c ∷ []) → Ends (λ e. Always (LeavesOnly (Outlasts text updates p zones done c)) e c.events) d (events_of done)
outlasts text updates p zones d [] c opened own (a_call keeps runs) =
    ⊎_elim (λ ready.
    always_weaker (LeavesOnly (IsBetween text updates p zones c.deed)) (LeavesOnly (Outlasts text updates p zones [] c))
    (λ e holds files leaves. interrupted text updates p zones c files ready (holds files leaves)) d c.events
    (step text updates p c.new zones c.after c.deed d c.events opened own.0 keeps).moments)
    (λ not. stuck (LeavesOnly (Outlasts text updates p zones [] c)) p zones d [] c not (a_call keeps runs) (at_rest_left text updates p zones d [] c opened not (a_call keeps runs)))
    (ready_or p.state)
outlasts text updates p zones d (b ∷ done) c opened own (a_call keeps runs) =
    ⊎_elim (λ ready.
    let made = step text updates p b.new zones b.after b.deed d b.events opened own.0 keeps in
    ends_then (λ f. Always (LeavesOnly (Outlasts text updates p zones (b ∷ done) c)) f c.events) d b.events (events_of done)
    (by_leads text updates p ready zones b done c d opened runs own.1
    (λ later_text later q after e at still more. outlasts later_text later q after e done c at still more) made.moments made.leads))
    (λ not. stuck (LeavesOnly (Outlasts text updates p zones (b ∷ done) c)) p zones d (b ∷ done) c not (a_call keeps runs)
    (at_rest_left text updates p zones d (b ∷ done) c opened not (a_call keeps runs)))
    (ready_or p.state)

-- ---- batches alone

batch_writes : (deed : Deed) (text : List ℕ) → IsBatch deed → Writes deed text → ⊥
batch_writes (batch frames outcome) text is writes = absurd writes
batch_writes (compaction next carried result) text is writes = absurd is

batches_own : (text : List ℕ) (calls : List Call) → AreBatches calls → HaveOwnDigests text calls
batches_own text [] are = tt
batches_own text (c ∷ calls) are = (own c.deed are.0, batches_own (text_after text c.deed) calls are.1)
  where
    own : (deed : Deed) → IsBatch deed → HasOwnDigest text deed
    own (batch frames outcome) is = tt
    own (compaction next carried result) is = absurd is

batches_text : (former : List ℕ) (calls : List Call) (text : List ℕ) → AreBatches calls → IsTextOf former calls text → text ≡ former
batches_text former [] text are is = is
batches_text former (c ∷ calls) text are (inl is) = batches_text former calls text are.1 is
batches_text former (c ∷ calls) text are (inr writes) = absurd (batch_writes c.deed text are.0 writes)

batch_among : (before : List Call) (c : Call) (rest : List Call) → AreBatches (before ++ c ∷ rest) → IsBatch c.deed
batch_among [] c rest are = are.0
batch_among (b ∷ before) c rest are = batch_among before c rest are.1

front_batches : (done more : List Call) → AreBatches (done ++ more) → AreBatches done
front_batches [] more are = tt
front_batches (b ∷ done) more are = (are.0, front_batches done more are.1)

in_journal_alone : (text : List ℕ) (updates : List (List ℕ)) (zones : List ZoneContent) (done : List Call) (c : Call) (files : Files) → AreBatches (done ++ c ∷ [])
    → StandAfter text updates zones done c.deed files → AreInJournal text updates done c.deed files
in_journal_alone text updates zones done c files are stands = ⊎_elim (λ at. at)
    (λ replaced. ⊎_elim
    (λ at. absurd (batch_writes at.compacted.deed files.text
    (batch_among at.before at.compacted at.rest (subst AreBatches at.done_is (front_batches done (c ∷ []) are))) at.writes))
    (λ at. absurd (batch_writes c.deed files.text (batch_among done c [] are) at.writes)) replaced) stands

pub batches_outlast : (text : List ℕ) (updates : List (List ℕ)) (p : Position) (zones : List ZoneContent) (d : Disk) (done : List Call) (c : Call) → AreBatches (done ++ c ∷ []) → IsOpen text updates p d
    → Runs p zones (done ++ c ∷ []) → Ends (λ e. Always (LeavesOnly (OutlastsInJournal text updates p done c)) e c.events) d (events_of done)
batches_outlast text updates p zones d done c are opened runs =
    then_law (Outlasts text updates p zones done c) (OutlastsInJournal text updates p done c) c.events done
    (λ files at. record {
      text_is = batches_text text (done ++ c ∷ []) files.text are at.text_is;
      stands = λ genuine. in_journal_alone text updates zones done c files are (at.stands genuine);
    }) d (outlasts text updates p zones d done c opened (batches_own text (done ++ c ∷ []) are) runs)

-- ---- the premise on seals

-- a list with a last call is not empty
some_last : (more : List Call) (c : Call) → (more ++ c ∷ []) ≢ []
some_last [] c is = absurd cc
some_last (b ∷ more) c is = absurd cc

-- calls that leave the journal ready need no premise
pub genuine_last : (p : Position) (done : List Call) (c : Call) (files : Files) → AreReady done → IsGenuineOf c.deed (position_after p done) files
    → AreGenuine p (done ++ c ∷ []) files
genuine_last p [] c files ready genuine = ((λ _ _. genuine), tt)
genuine_last p (b ∷ done) c files ready genuine =
    ((λ _ last. ⊎_elim (λ not. absurd (not ready.0)) (λ none. absurd (some_last done c none)) last), genuine_last b.new done c files ready.1 genuine)
