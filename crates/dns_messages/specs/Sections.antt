-- The sections of a message, with more items.
use Rattle.std.specs.Prelude.{◌++◌, List}
use Rattle.dns_records.specs.Record.{Record}
use Rattle.dns_messages.specs.declared.query.Query.{Query}
use Rattle.dns_messages.specs.declared.message.Message.{Message}

-- the message with more questions, after those that it has
abbrev pub with_more_queries : Message → List Query → Message
with_more_queries m queries = record m { queries = m.queries ++ queries }

-- the message with more answers, after those that it has
abbrev pub with_more_answers : Message → List Record → Message
with_more_answers m records = record m { answers = m.answers ++ records }

-- the message with more authority records, after those that it has
abbrev pub with_more_authorities : Message → List Record → Message
with_more_authorities m records = record m { authorities = m.authorities ++ records }

-- the message with more additional records, after those that it has
abbrev pub with_more_additionals : Message → List Record → Message
with_more_additionals m records = record m { additionals = m.additionals ++ records }
