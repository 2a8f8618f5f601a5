-- Messages that are made one after another have all records.
use Rattle.std.proofs.Common.{◌≡◌, ◌==◌, ◌<◌, ◌+◌, ◌-◌, ◌∙◌, ℕ, Bool, false, List, [], ◌∷◌, ◌++◌, flat_map, map, length, sym, ap, subst, arith, length-append, Option, Some, None, Result, Ok, Err}
use Rattle.std.proofs.lemmas.Bool.Decides.{nat_tests}
use Rattle.std.proofs.lemmas.List.{append_assoc, append-nil, length-map}
use Rattle.std.specs.List.{AllByRecursion}
use Rattle.dns_messages.specs.declared.message.Message.{Message}
use Rattle.dns_messages.specs.Cut.{edns_item, items_len, listed, query_item, record_item}
use Rattle.dns_messages.specs.Encoding.{Encodes}
use Rattle.dns_messages.specs.Grammar.{ReadsMessage}
use Rattle.dns_messages.specs.Sound.{IsSound, IsSoundIn}
use Rattle.dns_records.specs.Record.{Record}
use Rattle.dns_transfers.specs.declared.lent_record.LentRecord.{LentRecord}
use Rattle.dns_transfers.specs.Message.{with_answers}
use Rattle.dns_transfers.specs.Records.{front, lent_record}
use Rattle.dns_transfers.specs.Sending.{Sending, next_records, room_of, start, AreRead, CannotSend, GetsStuck, IsStuck, Sends, SendsAll, SendsNext}
use Rattle.dns_transfers.proofs.MessageLaws.{first_sound, message_uncut, with_records, without_question, IsEmpty}

both_parts : {A : Type 0} (P : A → Type 0) (xs ys : List A) → AllByRecursion P (xs ++ ys) → AllByRecursion P xs × AllByRecursion P ys
both_parts P [] ys all = (tt, all)
both_parts P (x ∷ xs) ys all = let more = both_parts P xs ys all.1 in ((all.0, more.0), more.1)

-- the messages of a transfer under way
arrive : (s : Sending) (messages : List (List ℕ)) → IsEmpty s.message → AllByRecursion (IsSoundIn false) s.records → SendsAll s messages
    → (decoded : List Message) × (AreRead messages decoded × (flat_map (λ m. m.answers) decoded ≡ s.records))
arrive s [] is all over = ([], (tt, sym over))
arrive s (bytes ∷ more) is all (next, (sent, rest)) =
    let m : Message = with_answers s.message (next_records s) in
    let parts = both_parts (IsSoundIn false) (next_records s) next.records (subst (AllByRecursion (IsSoundIn false)) sent.left all) in
    let sound : IsSound m = with_records s.message (next_records s) is parts.0 in
    let reads : ReadsMessage bytes m = subst (ReadsMessage bytes) (message_uncut s is.answers sent.some sound) (sent.encodes.decodes sound) in
    let others = arrive next more (subst IsEmpty (sym sent.message) (without_question s.message is)) parts.1 rest in
    (m ∷ others.0, ((reads, others.1.0), ap (λ (l : List Record). next_records s ++ l) others.1.1 ∙ sym sent.left))

pub all_arrive : (request : Message) (records : List Record) (messages : List (List ℕ)) → IsSound request → AllByRecursion (IsSoundIn false) records → SendsAll (start request records) messages
    → (decoded : List Message) × (AreRead messages decoded × (flat_map (λ m. m.answers) decoded ≡ records))
all_arrive request records messages sound all sends = arrive (start request records) messages (first_sound request sound) all sends

-- ---- all messages

-- some messages were made, and a transfer is left
pub record Made (old now : Sending) (messages : List (List ℕ)) : Type 0 where
  pub leads : (more : List (List ℕ)) → SendsAll now more → SendsAll old (messages ++ more)
  pub sticks : (more : List (List ℕ)) → GetsStuck now more → GetsStuck old (messages ++ more)

pub none_made : (s : Sending) → Made s s []
none_made s = record { leads = λ more all. all; sticks = λ more stuck. stuck }

pub one_made : (old now new : Sending) (messages after : List (List ℕ)) (bytes : List ℕ) → Made old now messages → SendsNext now bytes new → after ≡ messages ++ bytes ∷ [] → Made old new after
one_made old now new messages after bytes made sent e = record {
  leads = λ more all.
      subst (λ (l : List (List ℕ)). SendsAll old (l ++ more)) (sym e)
      (subst (SendsAll old) (sym (append_assoc messages (bytes ∷ []) more)) (made.leads (bytes ∷ more) (new, (sent, all))));
  sticks = λ more stuck.
      subst (λ (l : List (List ℕ)). GetsStuck old (l ++ more)) (sym e)
      (subst (GetsStuck old) (sym (append_assoc messages (bytes ∷ []) more)) (made.sticks (bytes ∷ more) (new, (sent, stuck))));
}

pub all_made : (old now : Sending) (messages : List (List ℕ)) → Made old now messages → now.records ≡ [] → SendsAll old messages
all_made old now messages made over = subst (SendsAll old) (append-nil messages) (made.leads [] over)

pub cannot_send : (old now : Sending) (messages : List (List ℕ)) → Made old now messages → IsStuck now → CannotSend old
cannot_send old now messages made stuck = (messages ++ [], made.sticks [] stuck)

-- an error is the same one whatever the value of the result would be
abbrev with_error : {T U E : Type 0} → E → Result T E → Result U E
with_error other (Ok x) = Err other
with_error other (Err e) = Err e

pub same_error : {T U E : Type 0} (a b : E) → ◌≡◌ {A = Result T E} (Err a) (Err b) → ◌≡◌ {A = Result U E} (Err a) (Err b)
same_error {T} {U} {E} a b same = ap (with_error {T = T} {U = U} {E = E} a) same

pub fewer_left : (old : Sending) (bytes : List ℕ) (new : Sending) → SendsNext old bytes new → length new.records < length old.records
fewer_left old bytes new sent = omega (arith, sent.some, ap length sent.left, length-append (next_records old) new.records)

-- ---- one message

room_is : (queries edns : ℕ) → 65535 - (12 + (queries + edns)) ≡ 65535 - (12 + (queries + (0 + (0 + (0 + (edns + 0))))))
room_is queries edns = omega arith

-- the room of a message without records
pub room_beside : (s : Sending) (room : ℕ) → s.message.answers ≡ [] → s.message.authorities ≡ [] → s.message.additionals ≡ [] → s.message.signature ≡ None
    → room ≡ 65535 - (12 + (items_len query_item s.message.queries + items_len edns_item (listed s.message.edns))) → room ≡ room_of s
room_beside s room a n d t e =
    omega (arith, e, ap (items_len record_item) a, ap (items_len record_item) n, ap (items_len record_item) d, ap (λ (x : Option Record). items_len record_item (listed x)) t)

pub sends_next : (old new : Sending) (bytes : List ℕ) (batch : List LentRecord) (room : ℕ) (m : Message) → room ≡ room_of old → map lent_record batch ≡ front room old.records → map lent_record batch ++ new.records ≡ old.records → 0 < length batch
    → new.message ≡ record old.message { queries = [] } → m ≡ with_answers old.message (map lent_record batch) → Encodes 65535 m bytes → SendsNext old bytes new
sends_next old new bytes batch room m r fronts joined some message is encodes =
    let next : map lent_record batch ≡ next_records old = fronts ∙ ap (λ (n : ℕ). front n old.records) r in
    record {
      some = omega (arith, some, ap length next, length-map batch lent_record);
      left = sym joined ∙ ap (λ (l : List Record). l ++ new.records) next;
      message = message;
      encodes = subst (λ (x : Message). Encodes 65535 x bytes) (is ∙ ap (with_answers old.message) next) encodes;
    }

-- no record is taken, and none is left
pub ends : (old mid new : Sending) (batch : List LentRecord) (found : Option (List ℕ)) → length batch ≡ 0 → map lent_record batch ++ mid.records ≡ old.records → mid.message ≡ old.message → found ≡ None → mid.records ≡ [] → new ≡ mid
    → Sends old found new
ends old mid new [] None empty joined message is over same =
    (sym joined ∙ over, same ∙ (λ i. record { message = message i; records = joined i }))
ends old mid new [] (Some bytes) empty joined message is over same = absurd (cc)
ends old mid new (r ∷ more) found empty joined message is over same = absurd (omega (arith, empty))

-- no record is taken, although one is left
pub is_stuck : (old mid : Sending) (batch : List LentRecord) (room : ℕ) → length batch ≡ 0 → room ≡ room_of old → map lent_record batch ≡ front room old.records → map lent_record batch ++ mid.records ≡ old.records
    → 0 < length mid.records → IsStuck old
is_stuck old mid [] room empty r fronts joined some = record {
  none = ap (λ (n : ℕ). front n old.records) (sym r) ∙ sym fronts;
  some = omega (arith, some, ap length joined);
}
is_stuck old mid (x ∷ more) room empty r fronts joined some = absurd (omega (arith, empty))

pub not_empty : (b : Bool) (n : ℕ) → b ≡ (n == 0) → b ≡ false → 0 < n
not_empty b n e f = grind (arith, nat_tests)
