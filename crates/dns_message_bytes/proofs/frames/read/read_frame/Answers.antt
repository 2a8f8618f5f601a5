use Rattle.std.proofs.Common.{◌≡◌, ℕ, ◌<◌, ◌≤◌, ◌++◌, take, length, get_or, rules, subst}
use Rattle.dns_message_bytes.proofs.FrameLaws.{whole_frame}
use Rattle.dns_message_bytes.proofs.frames.read.read_frame.Goals as goal

pub returns-clause-read : goal.returns-clause-read
returns-clause-read g c =
    let small : get_or c.fill.new.buffer 1 0 < 256 = search rules in
    let short : length c.in_ok-read_bytes.field-0.items ≤ 65535 = search rules in
    let len : length c.fill.new.buffer ≡ 2 = search rules in
    let two : c.in_ok-fill.field-0 ≡ 2 = search rules in
    (short, whole_frame (g.S.Source.bytes_left c.args.source.now) (g.S.Source.bytes_left c.fill.new.source) (g.S.Source.bytes_left c.read_bytes.new.source) c.fill.new.buffer c.in_ok-read_bytes.field-0.items len small (subst (λ (n : ℕ). g.S.Source.bytes_left c.args.source.now ≡ take n c.fill.new.buffer ++ g.S.Source.bytes_left c.fill.new.source) two c.in_ok-fill.ensures.front) (search rules) c.in_ok-read_bytes.ensures.ok.1)
