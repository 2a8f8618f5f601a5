-- New journals.
use Rattle.std.proofs.Common.{◌≡◌, ◌<◌, ◌+◌, ◌^◌, ℕ, List, [], ◌∷◌, ◌++◌, length, sym, ap, subst, ◌∙◌, arith, length-append, append-nil}
use Rattle.std.proofs.lemmas.List.{take_at, drop_at}
use Rattle.sha2.specs.Sha256.{sha256}
use Rattle.sha2.proofs.Facts256.{length-sha256}
use Rattle.dns_journal.specs.format.Format.{digest_in, entry, first_link, header, key_in, last_link, link_after, IsJournal, IsShort}
use Rattle.dns_journal.specs.declared.journal.Position.{Position}
use Rattle.dns_journal.specs.Appending.{IsPosition}
use Rattle.dns_durable.specs.recovery.Beginning.{IsFirst, new_journal}
use Rattle.dns_durable.specs.recovery.Payloads.{payloads_of, update_payload}

-- a header alone is a journal
abbrev pub HeadersAreJournals : Type 0
HeadersAreJournals = (head : List ℕ) → length head ≡ 48 → IsJournal (header head) head [] []

-- an entry that is appended is read
abbrev pub EntriesAreRead : Type 0
EntriesAreRead = (bytes head payload : List ℕ) (payloads : List (List ℕ)) → IsJournal bytes head payloads [] → IsShort payload
    → IsJournal (bytes ++ entry (key_in head) (last_link head payloads) payload) head (payloads ++ payload ∷ []) []

module _ (text key : List ℕ) (size : length key ≡ 16) where
  head_len : length (sha256 text ++ key) ≡ 48
  head_len = omega (arith, size, length-sha256 text, length-append (sha256 text) key)

  pub first_digest : digest_in (sha256 text ++ key) ≡ sha256 text
  first_digest = take_at (sha256 text) key 32 (length-sha256 text)

  key_there : key_in (sha256 text ++ key) ≡ key
  key_there = drop_at (sha256 text) key 32 (length-sha256 text)

  module _ (journals : HeadersAreJournals) (read : EntriesAreRead) where
    pub first_journal : (carried : List ℕ) → length carried + 1 < 2 ^ 23 → IsJournal (new_journal (sha256 text) key carried) (sha256 text ++ key) (payloads_of carried) []
    first_journal [] short =
        let head = sha256 text ++ key in
        subst (λ (l : List ℕ). IsJournal l head [] []) (sym (append-nil (header head))) (journals head head_len)
    first_journal (byte ∷ bytes) short =
        let head = sha256 text ++ key in
        let payload = update_payload (byte ∷ bytes) in
        let is_short : IsShort payload = omega (arith, short) in
        let one : IsJournal (header head ++ entry (key_in head) (first_link head) payload) head (payload ∷ []) [] = read (header head) head payload [] (journals head head_len) is_short in
        let two : IsJournal (header head ++ entry key (first_link head) payload) head (payload ∷ []) [] =
        subst (λ (k : List ℕ). IsJournal (header head ++ entry k (first_link head) payload) head (payload ∷ []) []) key_there one in
        subst (λ (l : List ℕ). IsJournal (header head ++ l) head (payload ∷ []) []) (sym (append-nil (entry key (first_link head) payload))) two

    pub first_position : (carried : List ℕ) → length carried + 1 < 2 ^ 23 → (p : Position) → IsFirst (sha256 text) key carried p
        → IsPosition p (new_journal (sha256 text) key carried) (sha256 text) (payloads_of carried)
    first_position carried short p first = record {
      head = sha256 text ++ key;
      journal = first_journal carried short;
      of_text = first_digest;
      end_is = first.end_is;
      digest_is = first.digest_is;
      key_is = first.key_is ∙ sym key_there;
      link_is = first.link_is ∙ ap (λ (k : List ℕ). link_after k (first_link (sha256 text ++ key)) (payloads_of carried)) (sym key_there);
    }
