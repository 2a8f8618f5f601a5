use Rattle.std.proofs.Common.{◌≡◌, ◌∙◌, Some, ap, arith}
use Rattle.std.specs.Prelude.{slice_get, slice_set}
use Rattle.dns_sockets.specs.declared.stream.Stream.{Stream}
use Rattle.dns_sockets.proofs.StreamTableLaws.{found_at, noted_here, noted_none, noted_past}
use Rattle.dns_sockets.proofs.stream_table.StreamTable.note.Goals as goal

pub returns-in-Some-clause-noted : goal.returns-in-Some-clause-noted
returns-in-Some-clause-noted c =
    let slots = c.args.self.now.slots.items in
    let found : slice_get slots c.args.index ≡ Some (Some c.in-Some.stream) =
    found_at slots c.args.index c.index_mut.result.now (omega (arith, c.args.self.now.slots.ok, c.len.ensures, c.if-index-len.true)) c.index_mut.ensures.value ∙ ap Some c.in-Some.is in
    ap (λ (s : Stream). slice_set slots c.args.index (Some s)) c.note.ensures.noted ∙ noted_here slots c.args.index c.args.is_readable c.args.is_writable (Some c.in-Some.stream) found

pub returns-in_default-clause-noted : goal.returns-in_default-clause-noted
returns-in_default-clause-noted c =
    let slots = c.args.self.now.slots.items in
    let found : slice_get slots c.args.index ≡ Some c.index_mut.result.now =
    found_at slots c.args.index c.index_mut.result.now (omega (arith, c.args.self.now.slots.ok, c.len.ensures, c.if-index-len.true)) c.index_mut.ensures.value in
    noted_none slots c.args.index c.args.is_readable c.args.is_writable c.index_mut.result.now found c.in_default.is

pub returns-else-index-len-clause-noted : goal.returns-else-index-len-clause-noted
returns-else-index-len-clause-noted c =
    noted_past c.args.self.now.slots.items c.args.index c.args.is_readable c.args.is_writable (omega (arith, c.args.self.now.slots.ok, c.len.ensures, c.if-index-len.false))
