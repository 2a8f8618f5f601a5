-- What the payloads of a journal say.
use Rattle.std.specs.Prelude.{◌==◌, if◌then◌else◌, ℕ, List, [], ◌∷◌, ◌++◌}
use Rattle.sha2.specs.Sha256.{sha256}

-- the payload of updates: a zero, and their bytes
abbrev pub update_payload : List ℕ → List ℕ
update_payload update = 0 ∷ update

-- The mark of a compaction: a one, the digest of the text that takes the place of the old one, and the bytes of the updates that this
-- text lacks, because they were made while it was written.
abbrev pub mark : List ℕ → List ℕ → List ℕ
mark text carried = 1 ∷ (sha256 text ++ carried)

-- the entry for bytes of updates, if there are any
abbrev pub entries_of : List ℕ → List (List ℕ)
entries_of [] = []
entries_of (byte ∷ bytes) = (byte ∷ bytes) ∷ []

-- the payload of these bytes, if there are any
abbrev pub payloads_of : List ℕ → List (List ℕ)
payloads_of [] = []
payloads_of (byte ∷ bytes) = update_payload (byte ∷ bytes) ∷ []

-- the updates of a payload: what follows a zero, and none of a mark
abbrev pub updates_of : List ℕ → List (List ℕ)
updates_of [] = []
updates_of (tag ∷ bytes) = if tag == 0 then bytes ∷ [] else []

-- the updates of payloads, in order
abbrev pub updates_in : List (List ℕ) → List (List ℕ)
updates_in [] = []
updates_in (payload ∷ more) = updates_of payload ++ updates_in more

-- the last of payloads that follow another one
abbrev pub last_after : List ℕ → List (List ℕ) → List ℕ
last_after last [] = last
last_after last (payload ∷ more) = last_after payload more

-- the last payload, which is empty if there is none
abbrev pub last_payload : List (List ℕ) → List ℕ
last_payload payloads = last_after [] payloads
