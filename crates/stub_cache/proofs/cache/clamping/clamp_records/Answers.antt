use Rattle.std.proofs.Common.{◌∙◌, ℕ, ap, arith, slice_index_or, slice_set}
use Rattle.stub_cache.specs.Ttl.{clamped_record}
use Rattle.stub_cache.proofs.ClampingLaws.{write_each}
use Rattle.stub_cache.proofs.cache.clamping.clamp_records.Goals as goal

pub loop-present-preserved : goal.loop-present-preserved
loop-present-preserved c =
    let index = c.loop-present.present-index in
    let present = slice_index_or c.loop-present.records index c.present-item.result in
    ap (λ (ttl : ℕ). slice_set c.loop-present.records index (record present { ttl = ttl })) c.record_ttl-present.ensures
    ∙ write_each (clamped_record c.args.config.now) c.args.records.now c.loop-present.records index c.present-item.result (omega arith) c.loop-present.invariant c.present-item.is
