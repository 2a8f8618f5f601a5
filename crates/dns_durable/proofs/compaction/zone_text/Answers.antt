use Rattle.std.proofs.Common.{[], ℕ, List, None, Ok, Err, ap, inl, inr, subst, sym, ◌∙◌}
use Rattle.std.specs.String.{string_bytes}
use Rattle.dns_zone.specs.Load.{ReadsZoneIn}
use Rattle.dns_zone_file.specs.declared.types.Types.TheVariants.{All}
use Rattle.dns_durable.specs.Compaction.{HasOtherText, IsFileText}
use Rattle.dns_durable.proofs.BatchLaws.{only_one}
use Rattle.dns_durable.proofs.CompactionLaws.{not_memory}
use Rattle.dns_durable.proofs.compaction.zone_text.Goals as goal

pub returns-then-branch-clause-rewritten : goal.returns-then-branch-clause-rewritten
returns-then-branch-clause-rewritten c =
    record {
      zone = c.zone-item.result;
      zones_are = only_one c.args.zones.now c.zone-item.result c.in-len1.len_at_least c.in-len1.len_below c.zone-item.is;
      is_text = c.in_ok-text.ensures;
      is_read = subst (λ (t : List ℕ). ReadsZoneIn All [] None t (Ok c.in-Ok.again)) c.as_str.ensures.value c.in-Ok.ensures.ok;
      is_same_text = subst (λ (t : List ℕ). IsFileText c.in-Ok.again t) c.as_str-in-Ok.ensures.value (c.in_ok-has_text-in-Ok.ensures.has c.if-branch.true);
    }

pub returns-in-Ok-clause-refused : goal.returns-in-Ok-clause-refused
returns-in-Ok-clause-refused c =
    record {
      zone = c.zone-item.result;
      zones_are = only_one c.args.zones.now c.zone-item.result c.in-len1.len_at_least c.in-len1.len_below c.zone-item.is;
      text = string_bytes c.in_ok-text.text;
      is_text = c.in_ok-text.ensures;
      fails = inr (record {
        again = c.in-Ok.again;
        is_read = subst (λ (t : List ℕ). ReadsZoneIn All [] None t (Ok c.in-Ok.again)) c.as_str.ensures.value c.in-Ok.ensures.ok;
        has_other = subst (λ (t : List ℕ). HasOtherText c.in-Ok.again t) c.as_str-in-Ok.ensures.value (c.in_ok-has_text-in-Ok.ensures.lacks (ap Ok c.if-branch.false));
      });
    }

pub returns-clause-refused : goal.returns-clause-refused
returns-clause-refused c =
    let has_memory = not_memory c.in-Err.fault (sym c.is_want_of_memory.ensures ∙ c.if-is_want_of_memory.false) in
    record {
      zone = c.zone-item.result;
      zones_are = only_one c.args.zones.now c.zone-item.result c.in-len1.len_at_least c.in-len1.len_below c.zone-item.is;
      text = string_bytes c.in_ok-text.text;
      is_text = c.in_ok-text.ensures;
      fails = inl (record {
        fault = c.in-Err.fault;
        is_fault = subst (λ (t : List ℕ). ReadsZoneIn All [] None t (Err c.in-Err.fault)) c.as_str.ensures.value (c.in-Err.ensures.refused has_memory);
        has_memory = has_memory;
      });
    }
