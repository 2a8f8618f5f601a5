-- The format of a journal: a header with the digest of the text that it belongs to and a key, and entries, each sealed with the key
-- and chained to the one before it.
use Rattle.std.specs.Prelude.{◌≡◌, ◌<◌, ◌≤◌, ◌+◌, ◌-◌, ◌^◌, ◌%◌, ◌⊎◌, ℕ, List, [], ◌∷◌, ◌++◌, length, take, drop, get_or, min}
use Rattle.std.specs.Int.{w32, w64, to_be_bytes}
use Rattle.std.specs.Hash.DefaultHasher as sip
use Rattle.dns_journal.specs.declared.format.error.ReadError.{ReadError}
use Rattle.dns_journal.specs.declared.format.error.ReadError.TheVariants as errors
use Rattle.dns_journal.specs.declared.format.link.Link.{Link}

-- a number in eight bytes, most significant first
unfoldable pub word : ℕ → List ℕ
word n = to_be_bytes w64 n

-- ---- headers

-- The identity of a journal, 48 bytes: the SHA-256 digest of the text that it belongs to, and the key that was drawn for it. This is
-- the digest.
abbrev pub digest_in : List ℕ → List ℕ
digest_in head = take 32 head

-- the key in an identity
abbrev pub key_in : List ℕ → List ℕ
key_in head = drop 32 head

-- the seal of a header: the SipHash-1-3 of the identity
unfoldable pub head_seal : List ℕ → ℕ
head_seal head = sip.finish (sip.write sip.initial head)

-- the eight bytes with which each journal begins: `dnsjrnl2`
abbrev pub magic : List ℕ
magic = 100 ∷ 110 ∷ 115 ∷ 106 ∷ 114 ∷ 110 ∷ 108 ∷ 50 ∷ []

-- the eight bytes with which a journal of the former format begins: `dnsjrnl1`
abbrev pub former_magic : List ℕ
former_magic = 100 ∷ 110 ∷ 115 ∷ 106 ∷ 114 ∷ 110 ∷ 108 ∷ 49 ∷ []

-- a header: the magic bytes, the identity, and its seal
abbrev pub header : List ℕ → List ℕ
header head = magic ++ (head ++ word (head_seal head))

-- ---- entries

-- The front of an entry, 20 bytes: the seal of the entry before it, its number, and the length of its payload.
unfoldable pub front : ℕ → ℕ → ℕ → List ℕ
front seal number len = to_be_bytes w64 seal ++ (to_be_bytes w64 number ++ to_be_bytes w32 len)

-- the check of a front: the SipHash-1-3 of the key and the front
unfoldable pub check : List ℕ → List ℕ → ℕ
check key bytes = sip.finish (sip.write (sip.write sip.initial key) bytes)

-- the frame of an entry that follows a link, 28 bytes: its front, and the check of that
abbrev pub frame : List ℕ → Link → ℕ → List ℕ
frame key link len =
    front link.seal (link.number + 1) len ++ word (check key (front link.seal (link.number + 1) len))

-- the seal of an entry: the SipHash-1-3 of the key, the front and the payload
unfoldable pub seal : List ℕ → List ℕ → List ℕ → ℕ
seal key bytes payload = sip.finish (sip.write (sip.write (sip.write sip.initial key) bytes) payload)

-- the seal of the entry with a payload that follows a link
abbrev pub entry_seal : List ℕ → Link → List ℕ → ℕ
entry_seal key link payload = seal key (front link.seal (link.number + 1) (length payload)) payload

-- the entry with a payload that follows a link: its frame, the payload, and the seal
abbrev pub entry : List ℕ → Link → List ℕ → List ℕ
entry key link payload = frame key link (length payload) ++ (payload ++ word (entry_seal key link payload))

-- the link that an entry is for the next one
abbrev pub next : List ℕ → Link → List ℕ → Link
next key link payload = record { seal = entry_seal key link payload; number = link.number + 1 }

-- entries with these payloads, one after another, from a link on
abbrev pub entries : List ℕ → Link → List (List ℕ) → List ℕ
entries key link [] = []
entries key link (payload ∷ more) = entry key link payload ++ entries key (next key link payload) more

-- the link after these entries
abbrev pub link_after : List ℕ → Link → List (List ℕ) → Link
link_after key link [] = link
link_after key link (payload ∷ more) = link_after key (next key link payload) more

-- the link for the first entry: the seal of the header, and no number
abbrev pub first_link : List ℕ → Link
first_link head = record { seal = head_seal head; number = 0 }

-- the link after the entries of a journal
abbrev pub last_link : List ℕ → List (List ℕ) → Link
last_link head payloads = link_after (key_in head) (first_link head) payloads

-- the place after these entries
abbrev pub place_after : ℕ → List (List ℕ) → ℕ
place_after place [] = place
place_after place (payload ∷ more) = place_after (place + (36 + length payload)) more

-- a payload is shorter than 8 MiB
abbrev pub IsShort : List ℕ → Type 0
IsShort payload = length payload < 2 ^ 23

-- payloads that are short
abbrev pub AreShort : List (List ℕ) → Type 0
AreShort [] = Unit {0}
AreShort (payload ∷ more) = IsShort payload × AreShort more

-- bytes begin with the entry that follows a link
pub record BeginsWith (key : List ℕ) (link : Link) (payload bytes rest : List ℕ) : Type 0 where
  pub short : IsShort payload
  pub parts : bytes ≡ entry key link payload ++ rest

-- bytes begin with the frame of an entry of the journal with a key, whatever it follows
pub record IsFrame (key bytes : List ℕ) : Type 0 where
  pub whole : 28 ≤ length bytes
  pub checked : take 8 (drop 20 bytes) ≡ word (check key (take 20 bytes))

-- an entry of the journal with a key begins somewhere in bytes, but not at their start
pub record HasLaterFrame (key bytes : List ℕ) : Type 0 where
  pub at : ℕ
  pub late : 1 ≤ at
  pub is_frame : IsFrame key (drop at bytes)

-- ---- what an interrupted write leaves

-- The number of bytes from a place up to the end of its block. A disk writes a block of 512 bytes whole or not at all.
unfoldable pub room : ℕ → ℕ
room place = 512 - place % 512

-- bytes of a block that was not written
abbrev pub AreZeros : List ℕ → Type 0
AreZeros bytes = (i : ℕ) → get_or bytes i 0 ≡ 0

-- What an interrupted write of bytes at a place leaves there: no more bytes than those; in the block where the write begins, and
-- in what the frame of an entry has of the next one, what was written, as far as the file goes, or zeros. The other blocks may be
-- anything.
pub record IsInterrupted (place : ℕ) (written left : List ℕ) : Type 0 where
  pub no_longer : length left ≤ length written
  pub first : (take (room place) left ≡ take (room place) (take (length left) written)) ⊎ AreZeros (take (room place) left)
  pub second : (drop (room place) (take 28 left) ≡ drop (room place) (take 28 (take (length left) written)))
      ⊎ AreZeros (drop (room place) (take 28 left))

-- No check and no seal is right by chance: what is left has no entry of the journal but the one that was written.
pub record HasNoForgery (key : List ℕ) (link : Link) (payload left : List ℕ) : Type 0 where
  pub alone : ¬ (HasLaterFrame key left)
  pub genuine : (other rest : List ℕ) → BeginsWith key link other left rest → left ≡ entry key link payload

-- what is left of an interrupted write of the entry with a payload
pub record IsTornWrite (key : List ℕ) (link : Link) (place : ℕ) (payload left : List ℕ) : Type 0 where
  pub interrupted : IsInterrupted place (entry key link payload) left
  pub no_forgery : HasNoForgery key link payload left

-- Bytes begin with the frame of the entry that follows a link, and are not longer than that entry. Those in the block in which it
-- begins, of which this is the number, are not all of it.
pub record IsTornEntry (key : List ℕ) (link : Link) (in_block : ℕ) (end : List ℕ) : Type 0 where
  pub len : ℕ
  pub small : len < 2 ^ 23
  pub frame_is : take 28 end ≡ frame key link len
  pub within : length end ≤ 36 + len
  pub unfinished : in_block < 36 + len

-- Bytes at a place begin as an interrupted write does: they end within the frame of an entry, or have a block that was not written,
-- or begin with the frame of the entry that follows a link.
abbrev pub HasTornStart : List ℕ → Link → ℕ → List ℕ → Type 0
HasTornStart key link place end = (length end < 28) ⊎ (AreZeros (take (room place) end)
    ⊎ (((room place < 28) × AreZeros (drop (room place) (take 28 end)))
    ⊎ IsTornEntry key link (min (room place) (length end)) end))

-- Bytes at a place, after a link, are what an interrupted write may leave: they are no longer than the longest entry, no entry of
-- the journal begins later in them, and they begin as an interrupted write does.
pub record IsTorn (key : List ℕ) (link : Link) (place : ℕ) (end : List ℕ) : Type 0 where
  pub bounded : length end < 36 + 2 ^ 23
  pub alone : ¬ (HasLaterFrame key end)
  pub start : HasTornStart key link place end

-- ---- journals

-- Bytes are a header, whole entries with these payloads, and an end that does not begin with another one.
pub record AreEntriesOf (bytes head : List ℕ) (payloads : List (List ℕ)) (end : List ℕ) : Type 0 where
  pub head_len : length head ≡ 48
  pub short : AreShort payloads
  pub parts : bytes ≡ header head ++ (entries (key_in head) (first_link head) payloads ++ end)
  pub no_entry : (payload rest : List ℕ) → ¬ (BeginsWith (key_in head) (last_link head payloads) payload end rest)

-- Bytes are a journal: what follows its entries is what an interrupted write may leave.
pub record IsJournal (bytes head : List ℕ) (payloads : List (List ℕ)) (end : List ℕ) : Type 0 where
  pub entries_are : AreEntriesOf bytes head payloads end
  pub torn : IsTorn (key_in head) (last_link head payloads) (place_after 64 payloads) end

-- Bytes are damaged at a place: what follows the entries before it is not what an interrupted write may leave.
pub record IsDamagedAt (bytes : List ℕ) (place : ℕ) : Type 0 where
  pub head : List ℕ
  pub payloads : List (List ℕ)
  pub end : List ℕ
  pub entries_are : AreEntriesOf bytes head payloads end
  pub place_is : place + length end ≡ length bytes
  pub not_torn : ¬ (IsTorn (key_in head) (last_link head payloads) place end)

-- bytes begin with a header
pub record HasHeader (bytes : List ℕ) : Type 0 where
  pub head : List ℕ
  pub rest : List ℕ
  pub head_len : length head ≡ 48
  pub parts : bytes ≡ header head ++ rest

-- why bytes are not read as a journal
abbrev pub IsFault : List ℕ → ReadError → Type 0
IsFault bytes errors.Header = ¬ (HasHeader bytes)
IsFault bytes errors.Former = take 8 bytes ≡ former_magic
IsFault bytes (errors.Damaged place) = IsDamagedAt bytes place
IsFault bytes errors.Memory = Unit {0}
