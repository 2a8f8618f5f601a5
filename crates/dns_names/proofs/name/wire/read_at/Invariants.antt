use Rattle.std.proofs.Common.{◌≡◌, ◌≤◌, [], length, true, Err}
use Rattle.std.specs.Prelude.{IfSome}
use Rattle.dns_wire.specs.Element.{element_at}
use Rattle.dns_wire.specs.declared.error.DecodeError.{DecodeError}
use Rattle.dns_names.proofs.Underway.{Underway}
use Rattle.dns_names.proofs.Leading.{Leads}
use Rattle.dns_names.proofs.name.wire.read_at.Given as goal

abbrev pub invariant-loop-name : goal.invariant-loop-name
invariant-loop-name l = record {
  underway : Underway l.fn.decoder.bytes l.fn.decoder.index l.place l.place l.name.labels l.end;
  leads : Leads l.fn.decoder.bytes l.fn.decoder.index l.place l.place l.name.labels;
  first : (error : DecodeError) → element_at l.fn.decoder.bytes l.fn.decoder.index ≡ Err error → (l.place ≡ l.fn.decoder.index) × (l.name.labels ≡ []);
  within : l.place ≤ length l.fn.decoder.bytes;
  end_within : IfSome l.end (λ e. e ≤ length l.fn.decoder.bytes);
  is_fqdn : l.name.is_fqdn ≡ true;
}

-- a pointer leads to a lower place
abbrev pub decreases-loop-name : goal.decreases-loop-name
decreases-loop-name l = l.place
