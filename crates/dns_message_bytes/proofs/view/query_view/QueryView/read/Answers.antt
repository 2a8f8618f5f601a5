use Rattle.std.proofs.Common.{◌≡◌, ◌+◌, ◌<◌, ◌^◌, ap, ◌∙◌, rules}
use Rattle.dns_wire.specs.Decoder.{Decoder}
use Rattle.dns_messages.specs.Grammar.{bad_question_name}
use Rattle.dns_message_bytes.proofs.QueryViewLaws.{no_type, no_class, question_found}
use Rattle.dns_message_bytes.proofs.view.query_view.QueryView.read.Goals as goal

pub returns-in-Err-clause-refused : goal.returns-in-Err-clause-refused
returns-in-Err-clause-refused c = bad_question_name c.in-Err.ensures.refused

pub returns-in_default-clause-refused : goal.returns-in_default-clause-refused
returns-in_default-clause-refused c =
    let d0 = c.args.decoder.now in
    let found = c.in-Ok.ensures.read in
    no_type d0.bytes d0.index found.0 c.read.new.decoder found.1.0 c.in-Ok.ensures.bytes c.in_default.ensures.short.1

pub returns-in_default-read_u16-clause-refused : goal.returns-in_default-read_u16-clause-refused
returns-in_default-read_u16-clause-refused c =
    let d0 = c.args.decoder.now in
    let found = c.in-Ok.ensures.read in
    no_class d0.bytes d0.index found.0 c.read.new.decoder found.1.0 c.in-Ok.ensures.bytes c.read_u16.new.self c.in-Ok-read_u16.query_type
    c.in-Ok-read_u16.ensures.ok c.in_default-read_u16.ensures.short.1

pub returns-clause-read : goal.returns-clause-read
returns-clause-read c =
    let d0 = c.args.decoder.now in
    let d1 = c.read.new.decoder in
    let d2 = c.read_u16.new.self in
    let d3 = c.read_u16-2.new.self in
    let t = c.in-Ok-read_u16.query_type in
    let k = c.in-Ok-read_u16-2.query_class in
    let found = c.in-Ok.ensures.read in
    let t_fits : t < 2 ^ 16 = search rules in
    let k_fits : k < 2 ^ 16 = search rules in
    let ends : d3.index ≡ d1.index + 2 + 2 = ap (λ (d : Decoder). d.index) c.in-Ok-read_u16-2.ensures.moved ∙ ap (λ (d : Decoder). d.index + 2) c.in-Ok-read_u16.ensures.moved in
    question_found d0.bytes d0.index found.0 d1 found.1.0 c.in-Ok.ensures.bytes
    (record { name = c.in-Ok.name; query_type = c.from.result; query_class = c.from-2.result }) d2 d3 t k
    (c.type_number_round_trips.ensures t) (c.class_number_round_trips.ensures k) t_fits k_fits c.in-Ok-read_u16.ensures.ok c.in-Ok-read_u16-2.ensures.ok ends
    (record { name = found.1.1; query_type = c.from.ensures; query_class = c.from-2.ensures })
