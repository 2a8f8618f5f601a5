use Rattle.std.proofs.Common.{List, ℕ, length, ap, arith, length-append}
use Rattle.std.specs.Int.{w16, to_be_bytes}
use Rattle.dns_wire.specs.Decoder.{rest}
use Rattle.dns_message_bytes.proofs.QuestionLaws.{past_name-some}
use Rattle.dns_message_bytes.proofs.view.question_view.QuestionView.read.Goals as goal

pub returns-in_default-read_u16-clause-none : goal.returns-in_default-read_u16-clause-none
returns-in_default-read_u16-clause-none c =
    let short = c.in_default-read_u16.ensures.short in
    λ _ question more labels there.
    let some = past_name-some c.in-Some.name.labels (rest c.args.decoder.now) (rest c.read.new.decoder) question more c.in-Some.ensures.labels labels c.in-Some.ensures.read there in
    omega (arith, some, short.1)

pub returns-in_default-read_u16-2-clause-none : goal.returns-in_default-read_u16-2-clause-none
returns-in_default-read_u16-2-clause-none c =
    let short = c.in_default-read_u16-2.ensures.short in
    let passed = ap (λ (xs : List ℕ). length xs) c.in-Ok.ensures.ok in
    λ _ question more labels there.
    let some = past_name-some c.in-Some.name.labels (rest c.args.decoder.now) (rest c.read.new.decoder) question more c.in-Some.ensures.labels labels c.in-Some.ensures.read there in
    omega (arith, some, short.1, passed, length-append (to_be_bytes w16 c.in-Ok.query_type) (rest c.read_u16.new.self))
