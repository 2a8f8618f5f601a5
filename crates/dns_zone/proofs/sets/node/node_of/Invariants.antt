use Rattle.std.proofs.Common.{◌≡◌, true, false, option_copied}
use Rattle.std.specs.List.{AllByRecursion}
use Rattle.std.specs.List.Sorted.{IsStrictlySortedBy}
use Rattle.std.specs.Map.{keys_of}
use Rattle.std.specs.Option.{option_or}
use Rattle.std.specs.Ordering.{is_gt}
use Rattle.dns_wire.specs.declared.codes.record_type.RecordType.TheVariants.{CNAME, DNAME, NS}
use Rattle.dns_updates.specs.Keys.{bytes_cmp, place_cmp, type_code}
use Rattle.dns_zone.specs.internal.Node.{at_place, is_first_below}
use Rattle.dns_zone.proofs.sets.node.node_of.Given as goal

-- the sets that were found and those that are left have what the sets have
abbrev pub invariant-loop-place : goal.invariant-loop-place
invariant-loop-place l = record {
  code : l.node.code ≡ type_code l.fn.record_type;
  asked : option_or (option_copied l.node.asked) (at_place (l.owner, type_code l.fn.record_type) l.sets) ≡ at_place (l.owner, type_code l.fn.record_type) l.initial.sets;
  aliases : option_or (option_copied l.node.aliases) (at_place (l.owner, type_code CNAME) l.sets) ≡ at_place (l.owner, type_code CNAME) l.initial.sets;
  servers : option_or (option_copied l.node.servers) (at_place (l.owner, type_code NS) l.sets) ≡ at_place (l.owner, type_code NS) l.initial.sets;
  redirections : option_or (option_copied l.node.redirections) (at_place (l.owner, type_code DNAME) l.sets) ≡ at_place (l.owner, type_code DNAME) l.initial.sets;
  ordered : IsStrictlySortedBy place_cmp (keys_of l.sets);
  reached : AllByRecursion (λ e. is_gt (bytes_cmp l.owner e.0.0) ≡ false) l.sets;
  begun : l.node.exists ≡ false → l.sets ≡ l.initial.sets;
  exists : l.node.exists ≡ true → is_first_below l.owner l.initial.sets ≡ true;
}
