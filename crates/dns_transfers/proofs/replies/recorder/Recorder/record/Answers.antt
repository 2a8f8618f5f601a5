use Rattle.std.proofs.Common.{length, refl, arith}
use Rattle.std.proofs.lemmas.Option.{slice_get_read}
use Rattle.dns_transfers.proofs.RecordedLaws.{known_either}
use Rattle.dns_transfers.proofs.replies.recorder.Recorder.record.Goals as goal

pub returns-clause-known : goal.returns-clause-known
returns-clause-known c =
    λ zones after changed known.
    known_either c.record.result c.args.change zones after c.args.self.now.histories.items c.index_mut-known.result.now
    (record { origin = c.index_mut-known.result.now.origin; history = c.record.new.self })
    (slice_get_read c.args.self.now.histories.items (length c.args.self.now.histories.items) c.args.change.place c.index_mut-known.result.now refl
    (omega (arith, c.if-place-len.false, c.len.ensures)) c.index_mut-known.ensures.value)
    refl c.record.ensures.limits c.record.ensures.ok c.record.ensures.err changed known
