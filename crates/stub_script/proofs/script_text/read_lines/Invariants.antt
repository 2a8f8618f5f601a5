use Rattle.std.proofs.Common.{◌≡◌, ◌≤◌, length}
use Rattle.stub_script.proofs.ScriptLaws.{LeadsOn, contents_at}
use Rattle.stub_script.proofs.script_text.read_lines.Given as goal

-- the whole leads to what was read, and then to what the rest leads to; no line has more than one update
abbrev pub invariant-loop-i : goal.invariant-loop-i
invariant-loop-i l = record {
  beside : length l.lines.items ≡ length l.events.items;
  few : l.update_count ≤ l.i;
  leads : LeadsOn l.types l.origin l.all l.i l.update_count (contents_at l.lines.items l.events.items);
}
