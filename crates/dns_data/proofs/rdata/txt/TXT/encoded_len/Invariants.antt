use Rattle.std.proofs.Common.{◌≡◌, ◌+◌, ◌*◌, ◌≤◌, drop}
use Rattle.dns_data.specs.Field.{values_len}
use Rattle.dns_data.specs.rdata.TXT.{txt_kinds, txt_values}
use Rattle.dns_data.proofs.rdata.txt.TXT.encoded_len.Given as goal

-- the strings that are left complete the length, and each has at most 256 bytes
abbrev pub invariant-loop-string : goal.invariant-loop-string
invariant-loop-string l = record {
  completes : l.len + values_len txt_kinds (txt_values (drop l.string-index l.strings)) ≡ values_len txt_kinds (txt_values l.strings);
  bounded : l.len ≤ 256 * l.string-index;
}
