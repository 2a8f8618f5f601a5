-- Zones whose answers need no wildcards, referrals and DNAME records.
use Rattle.std.specs.Prelude.{◌≡◌, false, List, ◌∷◌, ℕ}
use Rattle.dns_wire.specs.declared.codes.record_type.RecordType.TheVariants as types
use Rattle.dns_names.specs.Name.{DomainName}
use Rattle.dns_names.specs.Build.{star}
use Rattle.dns_zone.specs.Rows.{ZoneContent, some_row_below}
use Rattle.dns_zone.specs.declared.zone.answer.Answer.{Answer}
use Rattle.dns_authority.specs.steps.Barrier.{has_rows, is_cut}
use Rattle.dns_authority.specs.declared.answer.AuthorityAnswer.{AuthorityAnswer}

-- A zone without wildcards, zone cuts and DNAME records: no name that begins with the label `*` exists, so that no owner has such
-- a label, no name below the origin has NS rows, and none has DNAME rows.
pub record IsPlain (zone : ZoneContent) : Type 0 where
  pub no_wildcard : (labels : List (List ℕ)) → some_row_below zone.rows (star ∷ labels) ≡ false
  pub no_cut : (name : DomainName) → is_cut zone name ≡ false
  pub no_dname : (name : DomainName) → has_rows zone.rows name types.DNAME ≡ false

-- the code, the answers and the authority records of an answer: all that a zone's own answer has
abbrev pub zone_answer : AuthorityAnswer → Answer
zone_answer a = record { code = a.code; answers = a.answers; authorities = a.authorities }
