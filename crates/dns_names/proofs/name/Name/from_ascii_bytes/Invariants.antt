use Rattle.std.proofs.Common.{◌≡◌, ◌-◌, length, drop}
use Rattle.dns_names.specs.Parse.{name_of_text, name_of_symbols, symbols_from}
use Rattle.dns_names.proofs.InlineText.{IsWithin}
use Rattle.dns_names.proofs.name.Name.from_ascii_bytes.Given as goal

-- parsing the rest of the text completes the partial name, which has no more octets than the text so far
abbrev pub invariant-loop-place : goal.invariant-loop-place
invariant-loop-place l = record {
  completes : name_of_text l.text ≡ name_of_symbols l.partial (symbols_from 0 l.place (drop l.place l.text));
  by_place : IsWithin l.partial l.place;
  by_text : IsWithin l.partial (length l.text);
}

abbrev pub decreases-loop-place : goal.decreases-loop-place
decreases-loop-place l = length l.text - l.place
