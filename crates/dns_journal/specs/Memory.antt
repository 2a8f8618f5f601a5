-- A storage in memory, as a disk of which a number of calls succeed.
use Rattle.std.specs.Prelude.{◌≡◌, ◌-◌, ◌<◌, ◌++◌, ℕ, Bool, true, false, List, length, take}
use Rattle.dns_journal.specs.declared.memory.MemoryStorage.{MemoryStorage}
use Rattle.dns_journal.specs.Event as events
use Rattle.dns_journal.specs.Event.{Event}
use Rattle.dns_journal.specs.Storage.{Disk, Steps}

-- the disk that a storage in memory is
abbrev pub disk_of : MemoryStorage → Disk
disk_of m = record { text = m.text.items; seen = m.journal.items; safe = m.safe; reach = m.reach; unsure = m.unsure }

-- whether a call was done
abbrev pub is_done : Event → Bool
is_done (events.Read files) = true
is_done events.FailedRead = false
is_done (events.Append bytes done) = done
is_done (events.Sync done) = done
is_done (events.Cut len done) = done
is_done (events.ReplaceText text done) = done
is_done (events.ReplaceJournal bytes done) = done

-- A call of a storage in memory: what it does to the disk, and that it is counted. One that is done is one of those that succeed.
pub record Calls (old : MemoryStorage) (event : Event) (new : MemoryStorage) : Type 0 where
  pub steps : Steps (disk_of old) event (disk_of new)
  pub counted : new.calls_left ≡ old.calls_left - 1
  pub allowed : is_done event ≡ true → 0 < old.calls_left

-- the journal after a crash that leaves these bytes behind the safe front: as many of them as have room
abbrev pub torn : Disk → List ℕ → List ℕ
torn d tail = take d.safe d.seen ++ take (d.reach - length (take d.safe d.seen)) tail
