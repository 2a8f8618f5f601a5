-- How the bytes of suffixes are stored, one after another, and how a hash table finds them.
use Rattle.std.specs.Prelude.{◌≡◌, ℕ, suc, ◌+◌, ◌*◌, ◌%◌, ◌≤◌, ◌<◌, List, [], ◌∷◌, Some, get_or, length, map, slice_get, slice_range, take}
use Rattle.std.specs.List.{AllByRecursion}
use Rattle.dns_wire.specs.Suffixes.{Suffix, place_of}
use Rattle.dns_wire.specs.declared.suffixes.Entry.{Entry}

-- the suffix of an entry, with its bytes from the store
abbrev pub suffix_of : List ℕ → Entry → Suffix
suffix_of stored e = record { start = e.offset; bytes = slice_range stored e.start e.end }

-- the suffixes of entries, in order
abbrev pub suffixes_of : List ℕ → List Entry → List Suffix
suffixes_of stored entries = map (suffix_of stored) entries

-- the ranges of the entries follow one another, from a place up to an end
abbrev pub AreStoredFrom : ℕ → ℕ → List Entry → Type 0
AreStoredFrom place end [] = place ≤ end
AreStoredFrom place end (e ∷ es) = (place ≤ e.start) × (e.start ≤ e.end) × AreStoredFrom e.end end es

-- ---- the hash table

-- the bucket of a suffix with these bytes, by its length and by the first and the last byte of its first label
unfoldable pub bucket_of : List ℕ → ℕ
bucket_of bytes = (length bytes + 3 * get_or bytes 1 0 + 7 * get_or bytes (get_or bytes 0 0) 0) % 16

-- a link to the last suffix of a bucket among the first `here` ones: the one-based index of that suffix, or 0 for none.
-- Bytes of the bucket are found among the suffixes up to that one as they are among the first `here`.
pub record IsLink (suffixes : List Suffix) (here link bucket : ℕ) : Type 0 where
  pub within : link ≤ here
  pub finds : (bytes : List ℕ) → bucket_of bytes ≡ bucket
      → place_of (take link suffixes) bytes ≡ place_of (take here suffixes) bytes
  pub in_bucket : (i : ℕ) (s : Suffix) → link ≡ suc i → slice_get suffixes i ≡ Some s → bucket_of s.bytes ≡ bucket

-- each of the first `here` entries has a link to the previous suffix of its bucket
abbrev pub IsChained : ℕ → List Suffix → List Entry → Type 0
IsChained here suffixes entries =
    (i : ℕ) (e : Entry) (s : Suffix) → i < here → slice_get entries i ≡ Some e → slice_get suffixes i ≡ Some s
    → IsLink suffixes i e.next (bucket_of s.bytes)

-- the chains contain exactly the first `here` entries, and the heads are links to the last of each bucket
pub record IsIndexed (here : ℕ) (suffixes : List Suffix) (entries : List Entry) (heads : List ℕ) : Type 0 where
  pub chained : IsChained here suffixes entries
  pub headed : (bucket : ℕ) → IsLink suffixes here (get_or heads bucket 0) bucket

-- the bytes of the entries are stored in order, the chains contain exactly the entries, and the offsets are below a bound
pub record IsStore (stored : List ℕ) (entries : List Entry) (heads : List ℕ) (bound : ℕ) : Type 0 where
  pub in_order : AreStoredFrom 0 (length stored) entries
  pub indexed : IsIndexed (length entries) (suffixes_of stored entries) entries heads
  pub below : AllByRecursion (λ s. s.start < bound) (suffixes_of stored entries)
