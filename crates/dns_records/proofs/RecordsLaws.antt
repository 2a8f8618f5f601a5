-- The iterator over the records of a set.
use Rattle.std.proofs.Common.{◌≡◌, List, length, map, map-id, refl, sym, ◌∙◌}
use Rattle.std.specs.Vec.Iter.{into_iter_items, into_iter_len, into_iter_steps}
use Rattle.std.specs.declared.alloc.Global.{Global}
use Rattle.std.specs.declared.vec.IntoIter.{IntoIter}
use Rattle.std.specs.Borrow.{Bor}
use Rattle.std.specs.Iterator.{Drains, YieldsFirstRef}
use Rattle.std.proofs.lemmas.Iterator.{items_from_drains}
use Rattle.std.proofs.lemmas.Iterator.Consumers.{YieldsList-from_first}
use Rattle.std.proofs.lemmas.Iterator.Adapters.{YieldsList-from_vec}
use Rattle.dns_records.specs.Record.{Record}
use Rattle.dns_records.specs.RrsetRecords.{records_left}
use Rattle.dns_records.specs.declared.rrset_records.RrsetRecords.{RrsetRecords}

pub records_in_order : (it : RrsetRecords) (items : List (Bor Record)) → Drains (YieldsFirstRef records_left) it items → map (λ (r : Bor Record). r.now) items ≡ records_left it
records_in_order it items all = items_from_drains {steps = YieldsFirstRef records_left} {v = λ (r : Bor Record). r.now} {s = it} items (all.1.0, all.1.1, λ w. (all.0, all.1.2)) (YieldsList-from_first (λ (r : Bor Record). r.now) records_left {s = it} (records_left it) refl)

pub owned_in_order : (it : IntoIter Record Global) (records items : List Record) → into_iter_items it ≡ records → into_iter_len it ≡ length records → Drains (into_iter_steps {X = Record} {Z = Global}) it items → items ≡ records
owned_in_order it records items e len all = sym (map-id items) ∙ items_from_drains {steps = into_iter_steps {X = Record} {Z = Global}} {v = λ (r : Record). r} {s = it} items (all.1.0, all.1.1, λ w. (all.0, all.1.2)) (YieldsList-from_vec {A = Record} {Z = Global} {s = it} records e len)
