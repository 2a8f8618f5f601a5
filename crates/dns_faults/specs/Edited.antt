-- Edits of the bytes of a reply.
use Rattle.std.specs.Prelude.{if◌then◌else◌, List, ℕ, Option, Some, None}
use Rattle.dns_faults.specs.declared.rules.fault.Fault.{Fault}
use Rattle.dns_faults.specs.rules.Edits.{garbage, with_wrong_id, with_wrong_question}

-- bytes in place of a reply, if there are any
abbrev pub or_garbage : ℕ → Option ℕ → List ℕ → List ℕ
or_garbage id None bytes = bytes
or_garbage id (Some len) bytes = garbage id len

-- the edits of the bytes of a reply, in their order: the wrong id, the wrong question, and garbage with the request's id
abbrev pub with_edits : Fault → ℕ → List ℕ → List ℕ
with_edits f id bytes =
    let first = if f.wrong_id then with_wrong_id bytes else bytes in
    let second = if f.wrong_question then with_wrong_question first else first in
    or_garbage id f.garbage second
