-- What requests keep.
use Rattle.std.proofs.Common.{◌≡◌, ◌≢◌, ◌⊎◌, ℕ, Bool, true, false, List, [], ◌∷◌, ◌++◌, Result, Ok, Err, refl, sym, subst, ◌∙◌, inl, inr, ⊎_elim}
use Rattle.std.specs.declared.alloc.AllocError.{AllocError}
use Rattle.dns_journal.specs.declared.journal.Position.{Position}
use Rattle.dns_journal.specs.declared.journal.State.TheVariants as states
use Rattle.dns_journal.specs.Event.{Event}
use Rattle.dns_journal.specs.Storage.{Disk}
use Rattle.dns_durable.specs.recovery.Updating.{IsOpen}
use Rattle.dns_durable.proofs.EventLaws.{ends_weaker}
use Rattle.dns_zone.specs.Rows.{ZoneContent}
use Rattle.dns_durable.specs.History.{IsEntryOf}
use Rattle.dns_durable.specs.Durable.{IsGivenUp, Keeps, LeadsTo, Responds, TakesEntry, TakesEntryFront}
use Rattle.dns_durable.specs.Incoming.{changes_in}
use Rattle.dns_durable.specs.Rule.{entry_of}
use Rattle.dns_durable.specs.Storing.{Asks, Stores, entries_of}
use Rattle.dns_durable.specs.declared.durable_server.Replies.{Replies}
use Rattle.dns_durable.specs.declared.incoming.Incoming.{Incoming}
use Rattle.dns_durable.specs.declared.policy.Policy.{Policy}
use Rattle.dns_durable.proofs.RuleLaws.{entry_front_none, entry_none}
use Rattle.dns_durable.proofs.StoringLaws.{asks_refused}

leads_to : (stored : Bool) (text : List ℕ) (updates : List (List ℕ)) (entry : List ℕ) (old new : Position) (zones after : List ZoneContent) (d : Disk) (es : List Event)
    → Stores text updates entry stored old new d es → (stored ≡ true → TakesEntry zones entry after) → (stored ≡ false → after ≡ zones)
    → LeadsTo stored text updates entry old new zones after d es
leads_to true text updates entry old new zones after d es stores takes same = (stores.stored refl, takes refl)
leads_to false text updates entry old new zones after d es stores takes same = record { zones_are = same refl; unasked = λ ready. stores.refused refl ready }

unchanged_if : (stored : Bool) (entry : List ℕ) (zones after : List ZoneContent) → (stored ≡ true → entry ≡ []) → (stored ≡ true → TakesEntry zones entry after) → (stored ≡ false → after ≡ zones) → after ≡ zones
unchanged_if true entry zones after none takes same = entry_none zones after entry (none refl) (takes refl)
unchanged_if false entry zones after none takes same = same refl

-- requests are answered
pub keeps_answered : (entry : List ℕ) (replies : Replies) (old new : Position) (zones after : List ZoneContent) (es : List Event) → Asks entry replies.is_stored old new es
    → (replies.is_stored ≡ true → TakesEntry zones entry after) → (replies.is_stored ≡ false → after ≡ zones) → Keeps entry (Ok replies) old new zones after es
keeps_answered entry replies old new zones after es asks takes same = record {
  commits = λ text updates d opened. record {
    any_moment = (asks.stores text updates d opened).any_moment;
    ends = leads_to replies.is_stored text updates entry old new zones after d es (asks.stores text updates d opened) takes same;
  };
  idle = λ not.
      let left = asks.idle not in
      (left, unchanged_if replies.is_stored entry zones after left.refused takes same);
}

-- memory is refused, and the updates are not on the disk
pub keeps_refused : (entry : List ℕ) (error : AllocError) (old new : Position) (zones after : List ZoneContent) (es : List Event) → Asks entry false old new es → after ≡ zones
    → Keeps entry (Err error) old new zones after es
keeps_refused entry error old new zones after es asks same = record {
  commits = λ text updates d opened. record {
    any_moment = (asks.stores text updates d opened).any_moment;
    ends = inl (record { zones_are = same; unasked = λ ready. (asks.stores text updates d opened).refused refl ready });
  };
  idle = λ not.
      let left = asks.idle not in
      (record { unasked = left.unasked; position = left.position; refused = λ e. absurd cc }, same);
}

-- a position with the same end
reopened : (text : List ℕ) (updates : List (List ℕ)) (p q : Position) → q.end ≡ p.end → q.digest ≡ p.digest → q.key ≡ p.key → q.link ≡ p.link → (d : Disk) → IsOpen text updates p d → IsOpen text updates q d
reopened text updates p q end digest key link d opened = record {
  bytes = opened.bytes;
  payloads = opened.payloads;
  disk_is = opened.disk_is;
  at = record {
    head = opened.at.head;
    journal = opened.at.journal;
    of_text = opened.at.of_text;
    end_is = end ∙ opened.at.end_is;
    digest_is = digest ∙ opened.at.digest_is;
    key_is = key ∙ opened.at.key_is;
    link_is = link ∙ opened.at.link_is;
  };
  updates_are = opened.updates_are;
}

-- bytes are none, or some
none_or_some : (entry : List ℕ) → (entry ≡ []) ⊎ (entry ≢ [])
none_or_some [] = inl refl
none_or_some (byte ∷ bytes) = inr (λ none. absurd cc)

is_lost : (new : Position) → new.state ≡ states.Lost → new.state ≢ states.Ready
is_lost new lost ready = let both : states.Lost ≡ states.Ready = sym lost ∙ ready in absurd cc

-- memory is refused, and the updates are on the disk
pub keeps_behind : (entry : List ℕ) (error : AllocError) (old mid new : Position) (zones after : List ZoneContent) (es : List Event) → Asks entry true old mid es → TakesEntryFront zones entry after
    → (entry ≡ [] → new ≡ mid) → (entry ≢ [] → new.state ≡ states.Lost) → new.end ≡ mid.end → new.digest ≡ mid.digest → new.key ≡ mid.key → new.link ≡ mid.link
    → Keeps entry (Err error) old new zones after es
keeps_behind entry error old mid new zones after es asks front same lost end digest key link = record {
  commits = λ text updates d opened. record {
    any_moment = (asks.stores text updates d opened).any_moment;
    ends = ⊎_elim (λ none. inl (record {
      zones_are = entry_front_none zones after entry none front;
      unasked = λ ready. ((asks.none none).0, same none ∙ (asks.none none).1);
    })) (λ some. inr (record {
      on_disk = ends_weaker (IsOpen text (updates ++ entries_of entry) mid) (IsOpen text (updates ++ entries_of entry) new)
          (reopened text (updates ++ entries_of entry) mid new end digest key link) d es ((asks.stores text updates d opened).stored refl);
      served = front;
      suspended = is_lost new (lost some);
    })) (none_or_some entry);
  };
  idle = λ not.
      let left = asks.idle not in
      let none = left.refused refl in
      (record { unasked = left.unasked; position = same none ∙ left.position; refused = λ e. absurd cc }, entry_front_none zones after entry none front);
}

-- memory is refused before anything is done
given_up_asks : (old new : Position) (es : List Event) → es ≡ [] → new ≡ old → Asks [] false old new es
given_up_asks old new es none same =
    subst (λ (l : List Event). Asks [] false old new l) (sym none) (subst (λ (p : Position). Asks [] false old p []) (sym same) (asks_refused [] old))

pub keeps_given_up : (outcome : Result Replies AllocError) (old new : Position) (zones after : List ZoneContent) (es : List Event) → IsGivenUp outcome old new zones after es
    → Keeps [] outcome old new zones after es
keeps_given_up (Ok replies) old new zones after es up = let never = up.refused in absurd cc
keeps_given_up (Err error) old new zones after es up = keeps_refused [] error old new zones after es (given_up_asks old new es up.unasked up.position) up.zones_are

-- what requests lead to is a call
pub responds_keep : (policy : Policy) (requests : List Incoming) (outcome : Result Replies AllocError) (old new : Position) (zones after : List ZoneContent) (es : List Event)
    → Responds policy requests outcome old new zones after es → (entry : List ℕ) × (IsEntryOf policy requests outcome entry × Keeps entry outcome old new zones after es)
responds_keep policy requests outcome old new zones after es (inl up) = ([], (inl (up.refused, refl), keeps_given_up outcome old new zones after es up))
responds_keep policy requests outcome old new zones after es (inr answers) =
    (entry_of policy.answering (changes_in answers.admitted), (inr (answers.admitted, (answers.are_admitted, refl)), answers.answers.keeps))
