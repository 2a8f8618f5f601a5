-- Who may update the zones of a server (RFC 2136 section 3.3, RFC 8945 section 5.2).
use Rattle.std.specs.Prelude.{ℕ, if◌then◌else◌, slice_get, Option, Some, None}
use Rattle.dns_messages.specs.declared.message.Message.{Message}
use Rattle.dns_keys.specs.grants.Grant.{permits}
use Rattle.dns_server.specs.declared.updates.Updates.{Updates}
use Rattle.dns_server.specs.declared.updates.Updates.TheVariants.{Allowed, Refused}
use Rattle.dns_tsig.specs.declared.key.Key.{Key}
use Rattle.dns_tsig.specs.declared.verify.Verdict.{Verdict}
use Rattle.dns_tsig.specs.declared.verify.Verdict.TheVariants as verdicts
use Rattle.dns_durable.specs.declared.policy.Policy.{Policy}
use Rattle.dns_durable.specs.declared.policy.Admission.{Admission}
use Rattle.dns_durable.specs.declared.policy.Admission.TheVariants.{Serve, Malformed, NotAuthentic}

-- whether the holders of a key, if there is one, may make an update: as the grants say
abbrev pub updates_of_key : Policy → Option Key → Message → Updates
updates_of_key policy None m = Refused
updates_of_key policy (Some key) m = if permits policy.grants.items key.name.items m then Allowed else Refused

-- whether the holders of the key at an index may make an update
abbrev pub updates_by : Policy → ℕ → Message → Updates
updates_by policy index m = updates_of_key policy (slice_get policy.keys.items index) m

-- what is done with a request, by whom it was signed
abbrev pub admission : Policy → Verdict → Message → Updates → Admission
admission policy verdicts.Unsigned m local = Serve local
admission policy (verdicts.Verified index) m local = Serve (updates_by policy index m)
admission policy verdicts.FormErr m local = Malformed
admission policy verdicts.BadKey m local = NotAuthentic
admission policy (verdicts.BadSig index) m local = NotAuthentic
admission policy (verdicts.BadTime index) m local = NotAuthentic
admission policy (verdicts.BadTrunc index) m local = NotAuthentic
