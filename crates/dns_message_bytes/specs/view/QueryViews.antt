-- Sections of questions that are borrowed from a message (RFC 1035 section 4.1).
use Rattle.std.specs.Prelude.{ℕ, List, [], ◌∷◌, Option, Some, None}
use Rattle.dns_messages.specs.Grammar.{ReadsQuestions}
use Rattle.dns_messages.specs.declared.query.Query.{Query}
use Rattle.dns_message_bytes.specs.view.QueryView.{IsQueryOf}
use Rattle.dns_message_bytes.specs.declared.view.query_view.QueryView.{QueryView}
use Rattle.dns_message_bytes.specs.declared.view.query_views.QueryViews.{QueryViews}

-- the iterator has these questions left
abbrev pub HasQueries : QueryViews → List Query → Type 0
HasQueries views qs =
    (end : ℕ) × ReadsQuestions views.decoder.bytes views.decoder.index views.left qs end

-- the first of these questions is lent, and the others are left
abbrev pub LendsFirstQuery : List Query → Option QueryView → QueryViews → Type 0
LendsFirstQuery [] None new = HasQueries new []
LendsFirstQuery (q ∷ qs) (Some view) new = IsQueryOf view q × HasQueries new qs
LendsFirstQuery qs result new = ⊥

-- of the questions that are left, the first is lent
abbrev pub LendsQuery : QueryViews → Option QueryView → QueryViews → Type 0
LendsQuery old result new = (qs : List Query) → HasQueries old qs → LendsFirstQuery qs result new
