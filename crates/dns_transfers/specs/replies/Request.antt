-- Requests for incremental transfers (RFC 1995 section 3).
use Rattle.std.specs.Prelude.{◌==◌, if◌then◌else◌, List, [], ◌∷◌, Option, Some, None}
use Rattle.dns_wire.specs.codes.RecordType.{type_number}
use Rattle.dns_messages.specs.Message.{version_of}
use Rattle.dns_messages.specs.declared.message.Message.{Message}
use Rattle.dns_messages.specs.declared.op_code.OpCode.{OpCode}
use Rattle.dns_messages.specs.declared.op_code.OpCode.TheVariants as ops
use Rattle.dns_messages.specs.declared.query.Query.{Query}

-- a question of the type IXFR
abbrev pub if_incremental : Query → Option Query
if_incremental q = if type_number q.query_type == 251 then Some q else None

-- a question of the type IXFR, if it is the only one
abbrev pub incremental_of : List Query → Option Query
incremental_of (q ∷ []) = if_incremental q
incremental_of queries = None

-- that of a query
abbrev pub incremental_by : OpCode → List Query → Option Query
incremental_by ops.Query queries = incremental_of queries
incremental_by op queries = None

-- the question of a request for an incremental transfer, without a version of EDNS above 0 (RFC 6891 section 6.1.3)
abbrev pub incremental_question : Message → Option Query
incremental_question m = if version_of m.edns == 0 then incremental_by m.metadata.op_code m.queries else None
