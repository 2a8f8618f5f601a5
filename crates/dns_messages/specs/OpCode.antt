-- Opcodes, their numbers and their names (RFC 1035 section 4.1.1, RFC 1996, RFC 2136).
use Rattle.std.specs.Prelude.{◌==◌, if◌then◌else◌, ℕ, List, ◌++◌, codes}
use Rattle.std.specs.Fmt.{decimal}
use Rattle.dns_messages.specs.declared.op_code.OpCode.{OpCode}
use Rattle.dns_messages.specs.declared.op_code.OpCode.TheVariants as ops

-- the number of an opcode
abbrev pub op_number : OpCode → ℕ
op_number ops.Query = 0
op_number ops.Status = 2
op_number ops.Notify = 4
op_number ops.Update = 5
op_number (ops.Unknown number) = number

-- the opcode with a number
abbrev pub op_of : ℕ → OpCode
op_of number =
    if number == 0 then ops.Query
    else if number == 2 then ops.Status
    else if number == 4 then ops.Notify
    else if number == 5 then ops.Update
    else ops.Unknown number

-- the name in capitals, or OPCODE and the number
abbrev pub op_text : OpCode → List ℕ
op_text ops.Query = codes "QUERY"
op_text ops.Status = codes "STATUS"
op_text ops.Notify = codes "NOTIFY"
op_text ops.Update = codes "UPDATE"
op_text (ops.Unknown number) = codes "OPCODE" ++ decimal number
