use Rattle.std.proofs.Common.{◌≡◌, ◌≤◌, length, take}
use Rattle.dns_zone_file.specs.includes.Path.{folder}
use Rattle.dns_zone_file.proofs.includes.path.folder_len.Given as goal

-- what is left has the same folder
abbrev pub invariant-loop-len : goal.invariant-loop-len
invariant-loop-len l = (l.len ≤ length l.path) × (folder (take l.len l.path) ≡ folder l.path)

abbrev pub decreases-loop-len : goal.decreases-loop-len
decreases-loop-len l = l.len
