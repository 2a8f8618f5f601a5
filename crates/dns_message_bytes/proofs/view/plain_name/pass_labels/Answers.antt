use Rattle.std.proofs.Common.{◌≡◌, ◌+◌, ◌∷◌, ℕ, List, ap, ◌∙◌, arith}
use Rattle.dns_wire.specs.Decoder.{Decoder, rest}
use Rattle.dns_message_bytes.proofs.PlainNameLaws.{front-next, onward-next, passes, count_within, no_length, no_label, no_room}
use Rattle.dns_message_bytes.proofs.view.plain_name.pass_labels.Goals as goal
use Rattle.dns_message_bytes.proofs.view.plain_name.pass_labels.Goals.{then-len-gt-MAX_LABEL_LEN-via-then-len-gt-MAX_LABEL_LEN, then-len-gt-MAX_LABEL_LEN-via-else-len-gt-MAX_LABEL_LEN+then-index-start-ge-MAX_NAME_LEN}

pub returns-then-len-eq0-clause-passed : goal.returns-then-len-eq0-clause-passed
returns-then-len-eq0-clause-passed c =
    let moved = ap (λ (d : Decoder). d.index) c.in-Ok.ensures.moved in
    let room = c.loop-len.invariant.room in
    passes _ c.loop-len.decoder c.read_u8.new.self c.loop-len.label_count c.in-Ok.len c.loop-len.invariant.front c.in-Ok.ensures.ok c.if-len-eq0.true moved (omega (arith, moved, room))

pub returns-then-len-gt-MAX_LABEL_LEN-clause-none :
    goal.returns-then-len-gt-MAX_LABEL_LEN-clause-none
returns-then-len-gt-MAX_LABEL_LEN-clause-none c =
    let onward = c.loop-len.invariant.onward in
    let here = c.in-Ok.ensures.ok in
    let moved = ap (λ (d : Decoder). d.index) c.in-Ok.ensures.moved in
    let some = c.if-len-eq0.false in
    let start = c.index-start.ensures.value in
    elim c.then-len-gt-MAX_LABEL_LEN.branch [
      | then-len-gt-MAX_LABEL_LEN-via-then-len-gt-MAX_LABEL_LEN w ↦ λ _. no_length _ c.loop-len.decoder c.in-Ok.len (rest c.read_u8.new.self) onward here w.if-len-gt-MAX_LABEL_LEN.true
      | then-len-gt-MAX_LABEL_LEN-via-else-len-gt-MAX_LABEL_LEN+then-index-start-ge-MAX_NAME_LEN w ↦ λ _. no_room _ c.loop-len.decoder c.read_u8.new.self c.in-Ok.len onward here (omega (arith, some)) moved (omega (arith, start, w.index.ensures.value, w.from.ensures, w.if-index-start-ge-MAX_NAME_LEN.true))
    ]

pub returns-in_default-read_slice-clause-none : goal.returns-in_default-read_slice-clause-none
returns-in_default-read_slice-clause-none c =
    let short = c.in_default-read_slice.ensures.short in
    let is = c.from-in-loop-len.ensures in
    λ _. no_label _ c.loop-len.decoder c.read_u8.new.self c.in-Ok.len c.loop-len.invariant.onward c.in-Ok.ensures.ok (omega (arith, short.1, is))

pub overflow_add-label_count : goal.overflow_add-label_count
overflow_add-label_count c =
    let within = count_within _ c.loop-len.decoder c.loop-len.label_count c.loop-len.invariant.front in
    let room = c.loop-len.invariant.room in
    omega (arith, within, room)

pub loop-len-preserved : goal.loop-len-preserved
loop-len-preserved c =
    let inv = c.loop-len.invariant in
    let some = c.if-len-eq0.false in
    let most = c.if-len-gt-MAX_LABEL_LEN.false in
    let start = c.index-start.ensures.value in
    let moved = ap (λ (d : Decoder). d.index) c.in-Ok.ensures.moved in
    let passed = ap (λ (d : Decoder). d.index) c.in-Ok-read_slice.ensures.moved in
    let full = c.if-index-start-ge-MAX_NAME_LEN.false in
    let is = c.from-in-loop-len.ensures in
    let here = c.in-Ok.ensures.ok ∙ ap (λ (xs : List ℕ). c.in-Ok.len ∷ xs) c.in-Ok-read_slice.ensures.ok in
    let index : c.read_slice.new.self.index ≡ c.loop-len.decoder.index + 1 + c.in-Ok.len = omega (arith, moved, passed, is) in
    let len = c.in-Ok-read_slice.ensures.len ∙ is in
    record {
      front = front-next _ c.loop-len.decoder c.read_slice.new.self c.loop-len.label_count c.in-Ok.len c.in-Ok-read_slice._label.now inv.front here len (omega (arith, some)) (omega (arith, most)) index;
      onward = onward-next _ c.loop-len.decoder c.read_slice.new.self c.in-Ok.len c.in-Ok-read_slice._label.now (rest c.read_slice.new.self) inv.onward here len (omega (arith, some)) index;
      same_bytes = ap (λ (d : Decoder). d.bytes) c.in-Ok-read_slice.ensures.moved ∙ ap (λ (d : Decoder). d.bytes) c.in-Ok.ensures.moved ∙ inv.same_bytes;
      room = omega (arith, index, moved, start, c.index.ensures.value, c.from.ensures, full);
    }
