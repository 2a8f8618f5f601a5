use Rattle.std.proofs.Common.{◌≡◌, ◌+◌, ◌<◌, ℕ, length, refl, ap, ◌∙◌, arith}
use Rattle.dns_wire.specs.Decoder.{Decoder, rest}
use Rattle.dns_records.specs.RecordHead.{bad_owner}
use Rattle.dns_message_bytes.specs.view.RecordView.{no_head}
use Rattle.dns_message_bytes.proofs.RecordViewLaws.{record_found, no_data, no_fields}
use Rattle.dns_message_bytes.proofs.view.record_view.RecordView.read_on.Goals as goal

pub returns-in-Err-clause-refused : goal.returns-in-Err-clause-refused
returns-in-Err-clause-refused c = no_head (bad_owner c.in-Err.ensures.refused)

pub returns-in_default-clause-refused : goal.returns-in_default-clause-refused
returns-in_default-clause-refused c =
    let d0 = c.args.decoder.now in
    let found = c.in-Ok.ensures.read in
    no_fields d0.bytes d0.index found.0 c.read.new.decoder found.1.0 c.in-Ok.ensures.bytes (c.in_default.ensures.none refl)

pub returns-in_default-read_slice-clause-refused : goal.returns-in_default-read_slice-clause-refused
returns-in_default-read_slice-clause-refused c =
    let d0 = c.args.decoder.now in
    let d2 = c.read_fields.new.decoder in
    let found = c.in-Ok.ensures.read in
    let short : length (rest d2) < c.in-Some.fields.len = omega (arith, c.in_default-read_slice.ensures.short.1, c.from.ensures) in
    no_data d0.bytes d0.index found.0 c.read.new.decoder d2 c.in-Some.fields c.type_number_round_trips.ensures found.1.0 c.in-Ok.ensures.bytes
    c.in-Some.ensures.read c.in-Some.ensures.fit c.in-Some.ensures.bytes c.in-Some.ensures.index short

pub returns-clause-read : goal.returns-clause-read
returns-clause-read c =
    let d0 = c.args.decoder.now in
    let d2 = c.read_fields.new.decoder in
    let d3 = c.read_slice.new.self in
    let found = c.in-Ok.ensures.read in
    let f = c.in-Some.fields in
    let cut = c.in-Ok-read_slice.ensures in
    let ends : d3.index ≡ d2.index + f.len = ap (λ (d : Decoder). d.index) cut.moved ∙ ap (λ (n : ℕ). d2.index + n) c.from.ensures in
    record_found d0.bytes d0.index found.0 c.read.new.decoder d2 f c.type_number_round_trips.ensures found.1.0 c.in-Ok.ensures.bytes
    c.in-Some.ensures.read c.in-Some.ensures.fit
    (record { name = c.in-Ok.name; record_type = c.from-record_type.result; dns_class = c.class_of.result; ttl = f.ttl; «data» = c.in-Ok-read_slice.data })
    d3 c.in-Some.ensures.bytes c.in-Some.ensures.index cut.ok (cut.len ∙ c.from.ensures) ends found.1.1 c.from-record_type.ensures c.class_of.ensures refl
