-- Whole journals.
use Rattle.std.proofs.Common.{◌≡◌, ℕ, ◌+◌, ◌-◌, ◌<◌, ◌≤◌, ◌⊎◌, List, [], ◌∷◌, ◌++◌, length, take, drop, refl, sym, ap, subst, ◌∙◌, append_assoc, arith, inl, inr, length-append}
use Rattle.std.proofs.lemmas.List.{take_at, take_all, drop_at, take-append-drop, length-drop, append-nil}
use Rattle.dns_journal.specs.declared.format.link.Link.{Link}
use Rattle.dns_journal.specs.format.Format.{entry, entries, first_link, head_seal, header, key_in, last_link, link_after, magic, next, place_after, word, AreEntriesOf, AreShort, BeginsWith, HasHeader, IsDamagedAt, IsJournal, IsShort, IsTorn, IsTornWrite}
use Rattle.dns_journal.proofs.EntryLaws.{drop_drop, length-entry, length-word, longer, same_entry}
use Rattle.dns_journal.proofs.TornLaws.{nothing_torn, torn_front, torn_write, whole_or_not}

-- ---- entries are added at the end

pub entries_push : (key : List ℕ) (link : Link) (payloads : List (List ℕ)) (payload : List ℕ) → entries key link (payloads ++ payload ∷ []) ≡ entries key link payloads ++ entry key (link_after key link payloads) payload
entries_push key link [] payload = append-nil (entry key link payload)
entries_push key link (p ∷ payloads) payload =
    let after = next key link p in
    ap (λ (l : List ℕ). entry key link p ++ l) (entries_push key after payloads payload)
    ∙ sym (append_assoc (entry key link p) (entries key after payloads) (entry key (link_after key after payloads) payload))

pub link_after_push : (key : List ℕ) (link : Link) (payloads : List (List ℕ)) (payload : List ℕ) → link_after key link (payloads ++ payload ∷ []) ≡ next key (link_after key link payloads) payload
link_after_push key link [] payload = refl
link_after_push key link (p ∷ payloads) payload = link_after_push key (next key link p) payloads payload

pub place_after_push : (place : ℕ) (payloads : List (List ℕ)) (payload : List ℕ) → place_after place (payloads ++ payload ∷ []) ≡ place_after place payloads + (36 + length payload)
place_after_push place [] payload = refl
place_after_push place (p ∷ payloads) payload = place_after_push (place + (36 + length p)) payloads payload

pub length-entries : (key : List ℕ) (link : Link) (place : ℕ) (payloads : List (List ℕ)) → place + length (entries key link payloads) ≡ place_after place payloads
length-entries key link place [] = omega arith
length-entries key link place (p ∷ payloads) =
    let after = next key link p in
    omega (arith, length-entries key after (place + (36 + length p)) payloads, length-append (entry key link p) (entries key after payloads), length-entry key link p)

pub short_push : (payloads : List (List ℕ)) (payload : List ℕ) → AreShort payloads → IsShort payload → AreShort (payloads ++ payload ∷ [])
short_push [] payload short fits = (fits, tt)
short_push (p ∷ payloads) payload short fits = (short.0, short_push payloads payload short.1 fits)

pub length-header : (head : List ℕ) → length head ≡ 48 → length (header head) ≡ 64
length-header head len =
    omega (arith, len, length-word (head_seal head), length-append head (word (head_seal head)))

-- the place after the entries of a journal is its length without its end
pub length-front : (bytes head end : List ℕ) (payloads : List (List ℕ)) → length head ≡ 48 → bytes ≡ header head ++ (entries (key_in head) (first_link head) payloads ++ end)
    → place_after 64 payloads + length end ≡ length bytes
length-front bytes head end payloads len parts =
    let xs = entries (key_in head) (first_link head) payloads in
    omega (arith, ap length parts, length-header head len, length-append (header head) (xs ++ end), length-append xs end, length-entries (key_in head) (first_link head) 64 payloads)

-- ---- one reading

first_of : (key : List ℕ) (link : Link) (p rest : List ℕ) (payloads : List (List ℕ)) (end : List ℕ) → AreShort (p ∷ payloads) → rest ≡ entries key link (p ∷ payloads) ++ end → BeginsWith key link p rest (entries key (next key link p) payloads ++ end)
first_of key link p rest payloads end short parts = record { short = short.0; parts = parts ∙ append_assoc (entry key link p) (entries key (next key link p) payloads) end }

abbrev NoEntry : List ℕ → Link → List ℕ → Type 0
NoEntry key link end = (payload rest : List ℕ) → ¬ (BeginsWith key link payload end rest)

one_reading : (key : List ℕ) (link : Link) (payloads others : List (List ℕ)) (end rest : List ℕ) → AreShort payloads → AreShort others
    → entries key link payloads ++ end ≡ entries key link others ++ rest → NoEntry key (link_after key link payloads) end → NoEntry key (link_after key link others) rest → (payloads ≡ others) × (end ≡ rest)
one_reading key link [] [] end rest short short' same none none' = (refl, same)
one_reading key link [] (q ∷ others) end rest short short' same none none' = absurd (none q _ (first_of key link q end others rest short' same))
one_reading key link (p ∷ payloads) [] end rest short short' same none none' = absurd (none' p _ (first_of key link p rest payloads end short (sym same)))
one_reading key link (p ∷ payloads) (q ∷ others) end rest short short' same none none' =
    let bytes = entries key link (p ∷ payloads) ++ end in
    let after = next key link p in
    let other = next key link q in
    let one = same_entry key link p q bytes (entries key after payloads ++ end) (entries key other others ++ rest) (first_of key link p bytes payloads end short refl) (first_of key link q bytes others rest short' same) in
    let same_link : other ≡ after = ap (λ (l : List ℕ). next key link l) (sym one.0) in
    let more = one_reading key after payloads others end rest short.1 short'.1
    (one.1 ∙ ap (λ (k : Link). entries key k others ++ rest) same_link) none
    (subst (λ (k : Link). NoEntry key (link_after key k others) rest) same_link none') in
    (cc (one.0, more.0), more.1)

pub one_journal : (bytes head other : List ℕ) (payloads others : List (List ℕ)) (end rest : List ℕ) → IsJournal bytes head payloads end → IsJournal bytes other others rest
    → (head ≡ other) × ((payloads ≡ others) × (end ≡ rest))
one_journal bytes head other payloads others end rest one two =
    let a = one.entries_are in
    let b = two.entries_are in
    let s = word (head_seal head) in
    let t = word (head_seal other) in
    let xs = entries (key_in head) (first_link head) payloads ++ end in
    let ys = entries (key_in other) (first_link other) others ++ rest in
    let behind : head ++ (s ++ xs) ≡ other ++ (t ++ ys) =
    sym (append_assoc head s xs) ∙ ap (λ (l : List ℕ). drop 8 l) (sym a.parts ∙ b.parts) ∙ append_assoc other t ys in
    let heads : head ≡ other = sym (take_at head (s ++ xs) 48 a.head_len) ∙ ap (λ (l : List ℕ). take 48 l) behind ∙ take_at other (t ++ ys) 48 b.head_len in
    let sealed : s ++ xs ≡ t ++ ys = sym (drop_at head (s ++ xs) 48 a.head_len) ∙ ap (λ (l : List ℕ). drop 48 l) behind ∙ drop_at other (t ++ ys) 48 b.head_len in
    let rests : xs ≡ ys = sym (drop_at s xs 8 (length-word (head_seal head))) ∙ ap (λ (l : List ℕ). drop 8 l) sealed ∙ drop_at t ys 8 (length-word (head_seal other)) in
    let same : other ≡ head = sym heads in (
      heads,
      one_reading (key_in head) (first_link head) payloads others end rest a.short b.short
          (rests ∙ ap (λ (l : List ℕ). entries (key_in l) (first_link l) others ++ rest) same) a.no_entry
          (subst (λ (l : List ℕ). NoEntry (key_in l) (last_link l others) rest) same b.no_entry),
    )

-- ---- what follows the entries

-- the key of an identity, as it is taken
pub key_is : (head : List ℕ) (m : ℕ) → m ≡ length head - 32 → take m (drop 32 head) ≡ key_in head
key_is head m is = take_all m (drop 32 head) (omega (arith, is, length-drop 32 head))

module _ (bytes head end : List ℕ) (payloads : List (List ℕ)) (place m : ℕ) (link : Link) (front : AreEntriesOf bytes head payloads end) (is : place ≡ place_after 64 payloads)
    (link_is : link ≡ last_link head payloads) (all : m ≡ length head - 32) where
  pub damaged : (IsTorn (take m (drop 32 head)) link place end → ⊥) → IsDamagedAt bytes place
  damaged none =
      record {
        head = head;
        payloads = payloads;
        end = end;
        entries_are = front;
        place_is = ap (λ (k : ℕ). k + length end) is ∙ length-front bytes head end payloads front.head_len front.parts;
        not_torn = λ torn. none (subst (λ (k : List ℕ). IsTorn k link place end) (sym (key_is head m all))
            (subst (λ (l : Link). IsTorn (key_in head) l place end) (sym link_is) torn));
      }

  pub whole : IsTorn (take m (drop 32 head)) link place end → IsJournal bytes head payloads end
  whole torn =
      record {
        entries_are = front;
        torn = subst (λ (k : ℕ). IsTorn (key_in head) (last_link head payloads) k end) is
            (subst (λ (l : Link). IsTorn (key_in head) l place end) link_is (subst (λ (k : List ℕ). IsTorn k link place end) (key_is head m all) torn));
      }

-- what was read after a header
module _ (head : List ℕ) (payloads : List (List ℕ)) (m : ℕ) (start link : Link) (len : length head ≡ 48) (all : m ≡ length head - 32) (start_is : start ≡ first_link head)
    (link_is : link ≡ link_after (take m (drop 32 head)) start payloads) where
  pub link_read : link ≡ last_link head payloads
  link_read = link_is ∙ ap (λ (k : List ℕ). link_after k start payloads) (key_is head m all) ∙ ap (λ (l : Link). link_after (key_in head) l payloads) start_is

pub entries_read : (bytes head rest end : List ℕ) (payloads : List (List ℕ)) (m : ℕ) (start link : Link) → length head ≡ 48 → m ≡ length head - 32 → start ≡ first_link head
    → bytes ≡ header head ++ rest → rest ≡ entries (take m (drop 32 head)) start payloads ++ end → AreShort payloads → link ≡ link_after (take m (drop 32 head)) start payloads
    → NoEntry (take m (drop 32 head)) link end → AreEntriesOf bytes head payloads end
entries_read bytes head rest end payloads m start link len all start_is parts rest_is short link_is none =
    let key = key_is head m all in
    let last = link_read head payloads m start link len all start_is link_is in
    record {
      head_len = len;
      short = short;
      parts = parts ∙ ap (λ (l : List ℕ). header head ++ l) (rest_is ∙ ap (λ (k : List ℕ). entries k start payloads ++ end) key
          ∙ ap (λ (l : Link). entries (key_in head) l payloads ++ end) start_is);
      no_entry = subst (λ (l : Link). NoEntry (key_in head) l end) last (subst (λ (k : List ℕ). NoEntry k link end) key none);
    }

-- ---- reading on

pub record ReadSoFar (key : List ℕ) (first : Link) (start : ℕ) (payloads : List (List ℕ)) (link : Link) (place : ℕ) (rest bytes : List ℕ) : Type 0 where
  pub parts : bytes ≡ entries key first payloads ++ rest
  pub short : AreShort payloads
  pub link_is : link ≡ link_after key first payloads
  pub place_is : place ≡ place_after start payloads
  pub sum : place + length rest ≡ start + length bytes
  pub number : link.number < place

pub read_none : (key : List ℕ) (first : Link) (start : ℕ) (bytes : List ℕ) (payloads : List (List ℕ)) → first.number < start → payloads ≡ [] → ReadSoFar key first start payloads first start bytes bytes
read_none key first start bytes payloads less none =
    subst (λ (ps : List (List ℕ)). ReadSoFar key first start ps first start bytes bytes) (sym none) (record { parts = refl; short = tt; link_is = refl; place_is = refl; sum = refl; number = less })

pub read_more : (key : List ℕ) (first : Link) (start : ℕ) (payloads more : List (List ℕ)) (link after : Link) (place behind : ℕ) (rest bytes payload left : List ℕ)
    → ReadSoFar key first start payloads link place rest bytes → BeginsWith key link payload rest left → after ≡ next key link payload → behind ≡ place + (36 + length payload)
    → more ≡ payloads ++ payload ∷ [] → ReadSoFar key first start more after behind left bytes
read_more key first start payloads more link after place behind rest bytes payload left so_far begins after_is is added =
    let at_end : entry key link payload ≡ entry key (link_after key first payloads) payload = ap (λ (k : Link). entry key k payload) so_far.link_is in
    let number_is : after.number ≡ link.number + 1 = ap (λ (k : Link). k.number) after_is in
    let grown : ReadSoFar key first start (payloads ++ payload ∷ []) after behind left bytes =
    record {
      parts = so_far.parts ∙ ap (λ (l : List ℕ). entries key first payloads ++ l) (begins.parts ∙ ap (λ (l : List ℕ). l ++ left) at_end)
          ∙ sym (append_assoc (entries key first payloads) (entry key (link_after key first payloads) payload) left)
          ∙ ap (λ (l : List ℕ). l ++ left) (sym (entries_push key first payloads payload));
      short = short_push payloads payload so_far.short begins.short;
      link_is = after_is ∙ ap (λ (k : Link). next key k payload) so_far.link_is ∙ sym (link_after_push key first payloads payload);
      place_is = is ∙ ap (λ (k : ℕ). k + (36 + length payload)) so_far.place_is ∙ sym (place_after_push start payloads payload);
      sum = omega (arith, is, so_far.sum, longer key link payload rest left begins);
      number = omega (arith, is, so_far.number, number_is);
    } in
    subst (λ (ps : List (List ℕ)). ReadSoFar key first start ps after behind left bytes) (sym added) grown

-- ---- headers

pub header_found : (bytes : List ℕ) (n m k sealed : ℕ) → 64 ≤ length bytes → take 8 bytes ≡ magic → n ≡ 48 → m ≡ 8 → k ≡ length bytes - 64
    → sealed ≡ head_seal (take n (drop 8 bytes)) → take m (drop 56 bytes) ≡ word sealed → bytes ≡ header (take n (drop 8 bytes)) ++ take k (drop 64 bytes)
header_found bytes n m k sealed long is all eight rest sealed_is stored =
    let head = take n (drop 8 bytes) in
    let s = word (head_seal head) in
    let end : take k (drop 64 bytes) ≡ drop 64 bytes = take_all k (drop 64 bytes) (omega (arith, rest, length-drop 64 bytes)) in
    let seal_is : take 8 (drop 56 bytes) ≡ s = ap (λ (j : ℕ). take j (drop 56 bytes)) (sym eight) ∙ stored ∙ ap word sealed_is in
    let last : drop 56 bytes ≡ s ++ drop 64 bytes = sym (take-append-drop 8 (drop 56 bytes)) ∙ ap (λ (l : List ℕ). l ++ drop 8 (drop 56 bytes)) seal_is ∙ ap (λ (l : List ℕ). s ++ l) (drop_drop 56 8 bytes) in
    let place : 8 + n ≡ 56 = omega (arith, all) in
    let middle : drop 8 bytes ≡ head ++ (s ++ drop 64 bytes) =
    sym (take-append-drop n (drop 8 bytes)) ∙ ap (λ (l : List ℕ). head ++ l) (drop_drop 8 n bytes ∙ ap (λ (j : ℕ). drop j bytes) place ∙ last) in
    let split : bytes ≡ magic ++ (head ++ (s ++ drop 64 bytes)) = sym (take-append-drop 8 bytes) ∙ ap (λ (l : List ℕ). l ++ drop 8 bytes) is ∙ ap (λ (l : List ℕ). magic ++ l) middle in
    split ∙ ap (λ (l : List ℕ). magic ++ l) (sym (append_assoc head s (drop 64 bytes))) ∙ ap (λ (l : List ℕ). header head ++ l) (sym end)

pub header_long : (bytes : List ℕ) → HasHeader bytes → length bytes < 64 → ⊥
header_long bytes has short = omega (arith, short, ap length has.parts, length-append (header has.head) has.rest, length-header has.head has.head_len)

pub header_sealed : (bytes : List ℕ) (n m : ℕ) → n ≡ 48 → m ≡ 8 → HasHeader bytes → take m (drop 56 bytes) ≡ word (head_seal (take n (drop 8 bytes)))
header_sealed bytes n m all eight has =
    let head = has.head in
    let s = word (head_seal head) in
    let len : length head ≡ n = has.head_len ∙ sym all in
    let split : bytes ≡ magic ++ (head ++ (s ++ has.rest)) = has.parts ∙ ap (λ (l : List ℕ). magic ++ l) (append_assoc head s has.rest) in
    let middle : drop 8 bytes ≡ head ++ (s ++ has.rest) = ap (λ (l : List ℕ). drop 8 l) split in
    let head_is : take n (drop 8 bytes) ≡ head = ap (λ (l : List ℕ). take n l) middle ∙ take_at head (s ++ has.rest) n len in
    let last : drop 48 (drop 8 bytes) ≡ s ++ has.rest = ap (λ (l : List ℕ). drop 48 l) middle ∙ drop_at head (s ++ has.rest) 48 has.head_len in
    ap (λ (j : ℕ). take j (drop 56 bytes)) eight ∙ ap (λ (l : List ℕ). take 8 l) (sym (drop_drop 8 48 bytes) ∙ last) ∙ take_at s has.rest 8 (length-word (head_seal head))
    ∙ ap (λ (l : List ℕ). word (head_seal l)) (sym head_is)

-- ---- journals that end with their entries

nothing_begins : (key : List ℕ) (link : Link) → NoEntry key link []
nothing_begins key link payload rest begins = omega (arith, longer key link payload [] rest begins)

pub new_journal : (head : List ℕ) → length head ≡ 48 → IsJournal (header head) head [] []
new_journal head len =
    record {
      entries_are = record { head_len = len; short = tt; parts = sym (append-nil (header head)); no_entry = nothing_begins (key_in head) (first_link head) };
      torn = nothing_torn (key_in head) (first_link head) 64;
    }

-- bytes with more after them
with_more : (bytes head end : List ℕ) (payloads : List (List ℕ)) → IsJournal bytes head payloads [] → bytes ++ end ≡ header head ++ (entries (key_in head) (first_link head) payloads ++ end)
with_more bytes head end payloads journal =
    let xs = entries (key_in head) (first_link head) payloads in
    ap (λ (l : List ℕ). l ++ end) (journal.entries_are.parts ∙ ap (λ (l : List ℕ). header head ++ l) (append-nil xs)) ∙ append_assoc (header head) xs end

-- the place after its entries is the length of a whole journal
whole_len : (bytes head : List ℕ) (payloads : List (List ℕ)) → IsJournal bytes head payloads [] → length bytes ≡ place_after 64 payloads
whole_len bytes head payloads journal = omega (arith, length-front bytes head [] payloads journal.entries_are.head_len journal.entries_are.parts)

pub appended : (bytes head payload : List ℕ) (payloads : List (List ℕ)) → IsJournal bytes head payloads [] → IsShort payload
    → IsJournal (bytes ++ entry (key_in head) (last_link head payloads) payload) head (payloads ++ payload ∷ []) []
appended bytes head payload payloads journal short =
    let key = key_in head in
    let first = first_link head in
    let one = entry key (last_link head payloads) payload in
    let more = entries key first (payloads ++ payload ∷ []) in
    record {
      entries_are = record {
        head_len = journal.entries_are.head_len;
        short = short_push payloads payload journal.entries_are.short short;
        parts = with_more bytes head one payloads journal
            ∙ ap (λ (l : List ℕ). header head ++ l) (sym (entries_push key first payloads payload) ∙ sym (append-nil more));
        no_entry = nothing_begins key (last_link head (payloads ++ payload ∷ []));
      };
      torn = nothing_torn key (last_link head (payloads ++ payload ∷ [])) (place_after 64 (payloads ++ payload ∷ []));
    }

pub with_end : (bytes head end : List ℕ) (payloads : List (List ℕ)) → IsJournal bytes head payloads [] → IsTorn (key_in head) (last_link head payloads) (length bytes) end
    → NoEntry (key_in head) (last_link head payloads) end → IsJournal (bytes ++ end) head payloads end
with_end bytes head end payloads journal torn none =
    record {
      entries_are = record {
        head_len = journal.entries_are.head_len;
        short = journal.entries_are.short;
        parts = with_more bytes head end payloads journal;
        no_entry = none;
      };
      torn = subst (λ (k : ℕ). IsTorn (key_in head) (last_link head payloads) k end) (whole_len bytes head payloads journal) torn;
    }

pub torn_write_cut : (bytes head payload end : List ℕ) (payloads : List (List ℕ)) → IsJournal bytes head payloads [] → IsShort payload
    → IsTornWrite (key_in head) (last_link head payloads) (length bytes) payload end
    → (end ≡ entry (key_in head) (last_link head payloads) payload) ⊎ IsJournal (bytes ++ end) head payloads end
torn_write_cut bytes head payload end payloads journal short it =
    let key = key_in head in
    let link = last_link head payloads in
    elim (whole_or_not end (entry key link payload)) [
      | inl whole ↦ inl whole
      | inr differs ↦ inr (with_end bytes head end payloads journal (torn_write key link (length bytes) payload end short it differs)
          (λ other rest begins. differs (it.no_forgery.genuine other rest begins)))
    ]

-- ---- ends that are cut short

begins_whole : (key : List ℕ) (link : Link) (n : ℕ) (end : List ℕ) → NoEntry key link end → NoEntry key link (take n end)
begins_whole key link n end none payload rest begins =
    none payload (rest ++ drop n end) (record {
      short = begins.short;
      parts = sym (take-append-drop n end) ∙ ap (λ (l : List ℕ). l ++ drop n end) begins.parts ∙ append_assoc (entry key link payload) rest (drop n end);
    })

pub end_cut_short : (bytes head end : List ℕ) (payloads : List (List ℕ)) (n : ℕ) → IsJournal bytes head payloads end
    → IsJournal (take (length bytes - length end) bytes ++ take n end) head payloads (take n end)
end_cut_short bytes head end payloads n journal =
    let is = journal.entries_are in
    let xs = entries (key_in head) (first_link head) payloads in
    let split : bytes ≡ (header head ++ xs) ++ end = is.parts ∙ sym (append_assoc (header head) xs end) in
    let size : length (header head ++ xs) ≡ length bytes - length end = omega (arith, ap length split, length-append (header head ++ xs) end) in
    let front : take (length bytes - length end) bytes ≡ header head ++ xs =
    ap (λ (l : List ℕ). take (length bytes - length end) l) split ∙ take_at (header head ++ xs) end (length bytes - length end) size in
    record {
      entries_are = record {
        head_len = is.head_len;
        short = is.short;
        parts = ap (λ (l : List ℕ). l ++ take n end) front ∙ append_assoc (header head) xs (take n end);
        no_entry = begins_whole (key_in head) (last_link head payloads) n end is.no_entry;
      };
      torn = torn_front (key_in head) (last_link head payloads) (place_after 64 payloads) n end journal.torn;
    }

pub without_end : (bytes head end : List ℕ) (payloads : List (List ℕ)) → IsJournal bytes head payloads end → IsJournal (take (length bytes - length end) bytes) head payloads []
without_end bytes head end payloads journal =
    subst (λ (l : List ℕ). IsJournal l head payloads []) (append-nil (take (length bytes - length end) bytes)) (end_cut_short bytes head end payloads 0 journal)
