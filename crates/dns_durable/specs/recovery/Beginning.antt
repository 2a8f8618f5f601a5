-- A journal that begins with the updates that its text lacks, if there are any.
use Rattle.std.specs.Prelude.{◌≡◌, ℕ, List, ◌++◌, length}
use Rattle.dns_journal.specs.format.Format.{entries, first_link, header, link_after}
use Rattle.dns_journal.specs.declared.journal.Position.{Position}
use Rattle.dns_journal.specs.declared.journal.State.TheVariants as states
use Rattle.dns_durable.specs.recovery.Payloads.{payloads_of}

-- a new journal with a key, that belongs to the text with a digest, and has the updates that this text lacks
abbrev pub new_journal : List ℕ → List ℕ → List ℕ → List ℕ
new_journal digest key carried = header (digest ++ key) ++ entries key (first_link (digest ++ key)) (payloads_of carried)

-- a position is the end of a new journal
pub record IsFirst (digest key carried : List ℕ) (p : Position) : Type 0 where
  pub end_is : p.end ≡ length (new_journal digest key carried)
  pub digest_is : p.digest ≡ digest
  pub key_is : p.key ≡ key
  pub link_is : p.link ≡ link_after key (first_link (digest ++ key)) (payloads_of carried)
  pub ready : p.state ≡ states.Ready
