use Rattle.std.proofs.Common.{rules, ◌/◌, ◌%◌, refl}
use Rattle.dns_wire.specs.Decoder.{rest}
use Rattle.dns_message_bytes.specs.declared.view.edns_view.EdnsView.{EdnsView}
use Rattle.dns_message_bytes.proofs.EdnsLaws.{opt_shown}
use Rattle.dns_message_bytes.proofs.view.edns_view.EdnsView.read.Goals as goal

pub returns-clause-read : goal.returns-clause-read
returns-clause-read c =
    let ttl = c.in-Ok-read_u32.ttl in
    let view : EdnsView = record { rcode_high = ttl / 16777216; version = ttl / 65536 % 256; flags = c.from.result; max_payload = c.max.result; options = c.in-Some.options } in
    opt_shown view c.in-Ok.payload ttl (rest c.args.decoder.now) (rest c.begins_opt.new.decoder) (rest c.read_u16.new.self) (rest c.read_u32.new.self) (rest c.read_options.new.decoder)
    (c.begins_opt.ensures.read c.if-not-begins_opt.false) c.in-Ok.ensures.ok c.in-Ok-read_u32.ensures.ok c.in-Some.ensures.read c.in-Some.ensures.len c.in-Some.ensures.options
    (search rules) (search rules) refl refl c.from.ensures (search rules)
