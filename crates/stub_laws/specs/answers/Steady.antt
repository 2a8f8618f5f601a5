-- What stood in a zone that does not change.
use Rattle.std.specs.Prelude.{◌≡◌, ◌≢◌, Bool, false, List, [], ◌∷◌, ℕ}
use Rattle.dns_wire.specs.codes.RecordType.{type_number}
use Rattle.dns_wire.specs.declared.codes.record_type.RecordType.TheVariants as types
use Rattle.dns_records.specs.Rows.{Rows, rows_at}
use Rattle.dns_messages.specs.declared.query.Query.{Query}
use Rattle.stub_lookup.specs.declared.error.NoRecords.{NoRecords}
use Rattle.stub_client.specs.SpecialNames.{special_answer}
use Rattle.stub_client.specs.declared.special_names.SpecialAnswer.TheVariants.{Nothing}
use Rattle.stub_link.specs.LinkState.{Version}
use Rattle.stub_laws.specs.answers.Standing.{IsLed}

-- the history of a zone that always had these rows
abbrev pub always : Rows → List Version
always rows = record { moment = 0; rows = rows } ∷ []

-- In some rows a question leads nowhere: it asks for aliases, or its name has none; and intermediate aliases are not preserved if it
-- asks for services.
pub record LeadsNowhere (preserves : Bool) (rows : Rows) (q : Query) : Type 0 where
  pub no_alias : type_number q.query_type ≢ 5 → rows_at rows q.name.labels types.CNAME ≡ []
  pub no_service : type_number q.query_type ≡ 33 → preserves ≡ false

-- A question leads to a special-use name, which has no records, by this code (RFC 6761, RFC 7686).
pub record HasSpecialEnd (preserves : Bool) (history : List Version) (now : ℕ) (q : Query) (answer : NoRecords) : Type 0 where
  pub question : Query
  pub links : ℕ
  pub led : IsLed preserves history now q.query_type q.name links question.name
  pub special : special_answer question ≡ Nothing answer.response_code
