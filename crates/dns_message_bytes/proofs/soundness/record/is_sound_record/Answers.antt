use Rattle.std.proofs.Common.{◌≡◌, sym, subst, ◌∙◌}
use Rattle.dns_wire.specs.codes.DNSClass.{class_number}
use Rattle.dns_wire.specs.declared.codes.record_type.RecordType.{RecordType}
use Rattle.dns_records.specs.RecordHead.{class_for}
use Rattle.dns_message_bytes.proofs.soundness.record.is_sound_record.Goals as goal

pub returns-clause-sound : goal.returns-clause-sound
returns-clause-sound c = λ h.
    let class = c.args.resource_record.now.dns_class in
    record {
      fqdn = sym c.is_fqdn.ensures ∙ c.if-not-is_fqdn.false;
      class_fits = c.has_sound_class.ensures.fits;
      class_named = subst (λ (kind : RecordType). class_for kind (class_number class) ≡ class) c.record_type.ensures
          (c.has_sound_class.ensures.named.0 c.if-not-has_sound_class.false);
      ttl_fits = c.has_32_bits.ensures;
      rdata = c.is_sound_data.ensures.sound h;
    }
