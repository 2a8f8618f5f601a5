-- Why a text is not read as a zone, and what is served after a compaction.
use Rattle.std.proofs.Common.{◌≡◌, ◌≢◌, ◌∙◌, ℕ, true, false, List, [], ◌∷◌, Option, Some, None, Ok, sym, ap, subst}
use Rattle.std.specs.Prelude.{option_map, unwrap_or}
use Rattle.dns_zone.specs.Load.{ReadsZoneIn}
use Rattle.dns_zone.specs.Rows.{ZoneContent}
use Rattle.dns_zone.specs.declared.zone.ZoneFault.{ZoneFault}
use Rattle.dns_zone.specs.declared.zone.ZoneFault.TheVariants as faults
use Rattle.dns_zone_file.specs.declared.types.Types.TheVariants.{All}
use Rattle.dns_durable.proofs.ZoneLaws.{file_reads}
use Rattle.dns_durable.specs.Compaction.{IsSuccessor, IsRewritten, IsStatedText, is_want_of_memory, zones_again}
use Rattle.dns_durable.specs.Durable.{TakesEntry}
use Rattle.dns_durable.specs.Durable.Takes.{no_frame}

-- a fault is no want of memory
pub not_memory : (fault : ZoneFault) → is_want_of_memory fault ≡ false → fault ≢ faults.Memory
not_memory fault lacks e =
    let never : false ≡ true = sym lacks ∙ ap is_want_of_memory e in
    absurd (cc)

-- a zone that can be stated is read from its text
pub stated_rewritten : (zones : List ZoneContent) (text : List ℕ) (is : IsStatedText zones text) → IsRewritten zones text is.zone
stated_rewritten zones text is = record {
  zone = is.zone;
  zones_are = is.zones_are;
  is_text = is.is_text;
  is_read = subst (λ (t : List ℕ). ReadsZoneIn All [] None t (Ok is.zone)) (sym is.is_text.text_is) (file_reads is.zone is.is_text.records is.is_text.is_text is.stated);
  is_same_text = is.is_text;
}

pub ready_stated : (zones : List ZoneContent) (text : List ℕ) → IsStatedText zones text → IsSuccessor zones text [] None
ready_stated zones text is = record {
  again = is.zone;
  behind = record { base = zones; rewritten = stated_rewritten zones text is; carries = no_frame };
  served = subst (λ (z : List ZoneContent). TakesEntry (is.zone ∷ []) [] z) (sym is.zones_are) no_frame;
}

-- a zone that was read is served
pub ready_read : (zones : List ZoneContent) (text : List ℕ) (again : ZoneContent) → IsRewritten zones text again → IsSuccessor zones text [] (Some again)
ready_read zones text again rewritten = record { again = again; behind = record { base = zones; rewritten = rewritten; carries = no_frame }; served = no_frame }

-- what is served after a compaction
after_is : (zones after : List ZoneContent) (read : Option ZoneContent) (server : Option (List ZoneContent)) → server ≡ option_map (λ z. z ∷ []) read → after ≡ unwrap_or server zones
    → after ≡ zones_again zones read
after_is zones after None server made is = is ∙ ap (λ (o : Option (List ZoneContent)). unwrap_or o zones) made
after_is zones after (Some z) server made is = is ∙ ap (λ (o : Option (List ZoneContent)). unwrap_or o zones) made

pub served_again : (zones after : List ZoneContent) (read : Option ZoneContent) (server : Option (List ZoneContent)) (again : ZoneContent) (carried : List ℕ)
    → server ≡ option_map (λ z. z ∷ []) read → after ≡ unwrap_or server zones → TakesEntry (again ∷ []) carried (zones_again zones read) → TakesEntry (again ∷ []) carried after
served_again zones after read server again carried made is served =
    subst (λ (z : List ZoneContent). TakesEntry (again ∷ []) carried z) (sym (after_is zones after read server made is)) served
