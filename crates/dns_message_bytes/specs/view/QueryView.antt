-- Questions that are borrowed from a message (RFC 1035 section 4.1.2).
use Rattle.std.specs.Prelude.{◌≡◌}
use Rattle.dns_messages.specs.declared.query.Query.{Query}
use Rattle.dns_message_bytes.specs.view.NameView.{IsNameOf}
use Rattle.dns_message_bytes.specs.declared.view.query_view.QueryView.{QueryView}

-- the view borrows this question
pub record IsQueryOf (view : QueryView) (q : Query) : Type 0 where
  pub name : IsNameOf view.name q.name.labels
  pub query_type : view.query_type ≡ q.query_type
  pub query_class : view.query_class ≡ q.query_class
