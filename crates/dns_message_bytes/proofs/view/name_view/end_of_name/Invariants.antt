use Rattle.std.proofs.Common.{◌≡◌, ◌+◌, ◌-◌, ◌*◌, ◌≤◌, length}
use Rattle.std.specs.Prelude.{IfSome}
use Rattle.dns_message_bytes.proofs.NameViewLaws.{Passed}
use Rattle.dns_message_bytes.proofs.view.name_view.end_of_name.Given as goal

abbrev pub invariant-loop-label : goal.invariant-loop-label
invariant-loop-label l = record {
  passed : Passed l.fn.decoder.bytes l.fn.decoder.index l.reader.index l.segment l.len l.end;
  same_bytes : l.reader.bytes ≡ l.fn.decoder.bytes;
  within : l.segment ≤ length l.fn.decoder.bytes;
  end_within : IfSome l.end (λ e. e ≤ length l.fn.decoder.bytes);
}

-- a pointer leads to a lower segment, and a label leaves less room in the same
abbrev pub decreases-loop-label : goal.decreases-loop-label
decreases-loop-label l = l.segment * 256 + (256 - l.len)
