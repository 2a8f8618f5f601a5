use Rattle.std.proofs.Common.{sym, ◌∙◌}
use Rattle.dns_message_bytes.proofs.soundness.rdata.has_sound_values.Goals as goal

pub returns-in-CNAME-clause-sound : goal.returns-in-CNAME-clause-sound
returns-in-CNAME-clause-sound c = rw c.in-CNAME.is (λ h. (sym c.is_fqdn.ensures ∙ h, tt))

pub returns-in-CNAME-clause-only : goal.returns-in-CNAME-clause-only
returns-in-CNAME-clause-only c = rw c.in-CNAME.is (λ h. c.is_fqdn.ensures ∙ h.0)

pub returns-in-NS-clause-sound : goal.returns-in-NS-clause-sound
returns-in-NS-clause-sound c = rw c.in-NS.is (λ h. (sym c.is_fqdn-in-NS.ensures ∙ h, tt))

pub returns-in-NS-clause-only : goal.returns-in-NS-clause-only
returns-in-NS-clause-only c = rw c.in-NS.is (λ h. c.is_fqdn-in-NS.ensures ∙ h.0)

pub returns-in-PTR-clause-sound : goal.returns-in-PTR-clause-sound
returns-in-PTR-clause-sound c = rw c.in-PTR.is (λ h. (sym c.is_fqdn-in-PTR.ensures ∙ h, tt))

pub returns-in-PTR-clause-only : goal.returns-in-PTR-clause-only
returns-in-PTR-clause-only c = rw c.in-PTR.is (λ h. c.is_fqdn-in-PTR.ensures ∙ h.0)

pub returns-in-MX-clause-sound : goal.returns-in-MX-clause-sound
returns-in-MX-clause-sound c = rw c.in-MX.is c.is_sound_mx.ensures.sound

pub returns-in-MX-clause-only : goal.returns-in-MX-clause-only
returns-in-MX-clause-only c = rw c.in-MX.is c.is_sound_mx.ensures.only

pub returns-in-SOA-clause-sound : goal.returns-in-SOA-clause-sound
returns-in-SOA-clause-sound c = rw c.in-SOA.is c.is_sound_soa.ensures.sound

pub returns-in-SOA-clause-only : goal.returns-in-SOA-clause-only
returns-in-SOA-clause-only c = rw c.in-SOA.is c.is_sound_soa.ensures.only

pub returns-in-SRV-clause-sound : goal.returns-in-SRV-clause-sound
returns-in-SRV-clause-sound c = rw c.in-SRV.is c.is_sound_srv.ensures.sound

pub returns-in-SRV-clause-only : goal.returns-in-SRV-clause-only
returns-in-SRV-clause-only c = rw c.in-SRV.is c.is_sound_srv.ensures.only

pub returns-in-A-clause-sound : goal.returns-in-A-clause-sound
returns-in-A-clause-sound c = rw c.in-A.is c.is_sound_a.ensures.sound

pub returns-in-AAAA-clause-sound : goal.returns-in-AAAA-clause-sound
returns-in-AAAA-clause-sound c = rw c.in-AAAA.is c.is_sound_aaaa.ensures.sound

pub returns-in-TXT-clause-sound : goal.returns-in-TXT-clause-sound
returns-in-TXT-clause-sound c = rw c.in-TXT.is c.is_sound_txt.ensures.sound

pub returns-in-TXT-clause-only : goal.returns-in-TXT-clause-only
returns-in-TXT-clause-only c = rw c.in-TXT.is c.is_sound_txt.ensures.only

pub returns-in-OPT-clause-sound : goal.returns-in-OPT-clause-sound
returns-in-OPT-clause-sound c = rw c.in-OPT.is c.has_sound_options.ensures.sound

pub returns-in-OPT-clause-only : goal.returns-in-OPT-clause-only
returns-in-OPT-clause-only c = rw c.in-OPT.is c.has_sound_options.ensures.only

pub returns-in-Unknown-clause-sound : goal.returns-in-Unknown-clause-sound
returns-in-Unknown-clause-sound c = rw c.in-Unknown.is c.is_sound_opaque.ensures.sound

pub returns-in-Unknown-clause-only : goal.returns-in-Unknown-clause-only
returns-in-Unknown-clause-only c = rw c.in-Unknown.is c.is_sound_opaque.ensures.only
