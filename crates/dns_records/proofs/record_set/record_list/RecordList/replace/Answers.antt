use Rattle.std.proofs.Common.{List, subst, sym, ap}
use Rattle.std.specs.Prelude.{IfSome, slice_get}
use Rattle.dns_records.specs.Record.{Record}
use Rattle.dns_records.proofs.PutLaws.{replaced}
use Rattle.dns_records.proofs.record_set.record_list.RecordList.replace.Goals as goal

pub invariant_of-self : goal.invariant_of-self
invariant_of-self c = replaced c.self.inside.index c.self.inside.records.items c.args.place c.args.resource_record (rw c.self.view_is c.requires.equal) c.self.invariant
