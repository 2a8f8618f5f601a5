use Rattle.std.proofs.Common.{◌≡◌, ◌≤◌, length, take}
use Rattle.std.specs.Option.{option_or}
use Rattle.dns_wire.specs.Suffixes.{place_of}
use Rattle.dns_wire.specs.internal.Suffixes.{suffixes_of, bucket_of, IsLink}
use Rattle.dns_wire.proofs.suffixes.find_in_chain.Given as goal

-- the first suffix is among those that the link holds, or is the one that was found after them
abbrev pub invariant-loop-link : goal.invariant-loop-link
invariant-loop-link l = record {
  finds : option_or (place_of (take l.link (suffixes_of l.stored l.entries)) l.bytes) l.found ≡ place_of (suffixes_of l.stored l.entries) l.bytes;
  within : l.link ≤ length l.entries;
  linked : IsLink (suffixes_of l.stored l.entries) l.link l.link (bucket_of l.bytes);
}

abbrev pub decreases-loop-link : goal.decreases-loop-link
decreases-loop-link l = l.link
