use Rattle.std.proofs.Common.{ℕ, refl, ap, ◌∙◌}
use Rattle.dns_wire.specs.Encoder.{state_of, trim_to_offset}
use Rattle.dns_wire.proofs.ItemLaws.{one_written, one_dropped}
use Rattle.dns_wire.proofs.items.emit_if_fits.Goals as goal

pub returns-in-Ok-clause-fits : goal.returns-in-Ok-clause-fits
returns-in-Ok-clause-fits g c =
    (one_written g.T.BinEncodable.pieces (state_of c.args.encoder.now) (state_of c.emit.new.encoder) c.args.item.now c.requires.at_end c.requires.behind c.in-Ok.ensures.emits (c.in-Ok.ensures.writable refl)).0

pub returns-in-Ok-clause-wrote : goal.returns-in-Ok-clause-wrote
returns-in-Ok-clause-wrote g c =
    λ _. (one_written g.T.BinEncodable.pieces (state_of c.args.encoder.now) (state_of c.emit.new.encoder) c.args.item.now c.requires.at_end c.requires.behind c.in-Ok.ensures.emits (c.in-Ok.ensures.writable refl)).1

pub returns-in-Ok-clause-writable : goal.returns-in-Ok-clause-writable
returns-in-Ok-clause-writable g c =
    λ _. (one_written g.T.BinEncodable.pieces (state_of c.args.encoder.now) (state_of c.emit.new.encoder) c.args.item.now c.requires.at_end c.requires.behind c.in-Ok.ensures.emits (c.in-Ok.ensures.writable refl)).2

pub returns-in-Ok-clause-at_end : goal.returns-in-Ok-clause-at_end
returns-in-Ok-clause-at_end g c =
    λ _. (one_written g.T.BinEncodable.pieces (state_of c.args.encoder.now) (state_of c.emit.new.encoder) c.args.item.now c.requires.at_end c.requires.behind c.in-Ok.ensures.emits (c.in-Ok.ensures.writable refl)).3

pub returns-in-Ok-clause-behind : goal.returns-in-Ok-clause-behind
returns-in-Ok-clause-behind g c =
    λ _. (one_written g.T.BinEncodable.pieces (state_of c.args.encoder.now) (state_of c.emit.new.encoder) c.args.item.now c.requires.at_end c.requires.behind c.in-Ok.ensures.emits (c.in-Ok.ensures.writable refl)).4

pub returns-in-Err-MaxBufferSizeExceeded-clause-fits : goal.returns-in-Err-MaxBufferSizeExceeded-clause-fits
returns-in-Err-MaxBufferSizeExceeded-clause-fits g c =
    let cut = c.trim.ensures ∙ ap trim_to_offset (c.set_offset.ensures ∙ ap (λ (n : ℕ). record (state_of c.emit.new.encoder) { offset = n }) c.offset-offset.ensures.value) in
    (one_dropped g.T.BinEncodable.pieces (state_of c.args.encoder.now) (state_of c.emit.new.encoder) (state_of c.trim.new.self) c.args.item.now c.requires.at_end c.requires.behind (rw c.in-Err-MaxBufferSizeExceeded.field-0-is at c.in-Err-MaxBufferSizeExceeded.ensures.emits) cut).0

pub returns-in-Err-MaxBufferSizeExceeded-clause-wrote : goal.returns-in-Err-MaxBufferSizeExceeded-clause-wrote
returns-in-Err-MaxBufferSizeExceeded-clause-wrote g c =
    let cut = c.trim.ensures ∙ ap trim_to_offset (c.set_offset.ensures ∙ ap (λ (n : ℕ). record (state_of c.emit.new.encoder) { offset = n }) c.offset-offset.ensures.value) in
    λ _. (one_dropped g.T.BinEncodable.pieces (state_of c.args.encoder.now) (state_of c.emit.new.encoder) (state_of c.trim.new.self) c.args.item.now c.requires.at_end c.requires.behind (rw c.in-Err-MaxBufferSizeExceeded.field-0-is at c.in-Err-MaxBufferSizeExceeded.ensures.emits) cut).1

pub returns-in-Err-MaxBufferSizeExceeded-clause-writable : goal.returns-in-Err-MaxBufferSizeExceeded-clause-writable
returns-in-Err-MaxBufferSizeExceeded-clause-writable g c =
    let cut = c.trim.ensures ∙ ap trim_to_offset (c.set_offset.ensures ∙ ap (λ (n : ℕ). record (state_of c.emit.new.encoder) { offset = n }) c.offset-offset.ensures.value) in
    λ _. (one_dropped g.T.BinEncodable.pieces (state_of c.args.encoder.now) (state_of c.emit.new.encoder) (state_of c.trim.new.self) c.args.item.now c.requires.at_end c.requires.behind (rw c.in-Err-MaxBufferSizeExceeded.field-0-is at c.in-Err-MaxBufferSizeExceeded.ensures.emits) cut).2

pub returns-in-Err-MaxBufferSizeExceeded-clause-at_end : goal.returns-in-Err-MaxBufferSizeExceeded-clause-at_end
returns-in-Err-MaxBufferSizeExceeded-clause-at_end g c =
    let cut = c.trim.ensures ∙ ap trim_to_offset (c.set_offset.ensures ∙ ap (λ (n : ℕ). record (state_of c.emit.new.encoder) { offset = n }) c.offset-offset.ensures.value) in
    λ _. (one_dropped g.T.BinEncodable.pieces (state_of c.args.encoder.now) (state_of c.emit.new.encoder) (state_of c.trim.new.self) c.args.item.now c.requires.at_end c.requires.behind (rw c.in-Err-MaxBufferSizeExceeded.field-0-is at c.in-Err-MaxBufferSizeExceeded.ensures.emits) cut).3

pub returns-in-Err-MaxBufferSizeExceeded-clause-behind : goal.returns-in-Err-MaxBufferSizeExceeded-clause-behind
returns-in-Err-MaxBufferSizeExceeded-clause-behind g c =
    let cut = c.trim.ensures ∙ ap trim_to_offset (c.set_offset.ensures ∙ ap (λ (n : ℕ). record (state_of c.emit.new.encoder) { offset = n }) c.offset-offset.ensures.value) in
    λ _. (one_dropped g.T.BinEncodable.pieces (state_of c.args.encoder.now) (state_of c.emit.new.encoder) (state_of c.trim.new.self) c.args.item.now c.requires.at_end c.requires.behind (rw c.in-Err-MaxBufferSizeExceeded.field-0-is at c.in-Err-MaxBufferSizeExceeded.ensures.emits) cut).4
