-- Requests that have arrived, and what is done with them (RFC 2136 section 3.3, RFC 8945 section 5.2).
use Rattle.std.specs.Prelude.{◌≡◌, ◌≤◌, ◌<◌, ◌⊎◌, ◌++◌, ℕ, Bool, true, false, if◌then◌else◌, List, [], ◌∷◌, length}
use Rattle.std.specs.Prelude.{Option, Some, None}
use Rattle.dns_messages.specs.declared.header.Metadata.{Metadata}
use Rattle.dns_messages.specs.declared.op_code.OpCode.{OpCode}
use Rattle.dns_messages.specs.declared.op_code.OpCode.TheVariants as ops
use Rattle.dns_server.specs.declared.updates.Updates.TheVariants as may
use Rattle.dns_tsig.specs.Found.{Finds}
use Rattle.dns_tsig.specs.Verify.{verdict_of}
use Rattle.dns_zone.specs.Request.{DecodesRequest, IsRequest}
use Rattle.dns_durable.specs.Policy.{admission}
use Rattle.dns_durable.specs.declared.incoming.Admitted.{Admitted}
use Rattle.dns_durable.specs.declared.incoming.Arrived.{Arrived}
use Rattle.dns_durable.specs.declared.incoming.Arrived.TheVariants.{Request, Other}
use Rattle.dns_durable.specs.declared.incoming.Incoming.{Incoming}
use Rattle.dns_durable.specs.declared.policy.Admission.{Admission}
use Rattle.dns_durable.specs.declared.policy.Admission.TheVariants.{Serve}
use Rattle.dns_durable.specs.declared.policy.Policy.{Policy}

-- whether an opcode is that of an update
abbrev pub is_update_code : OpCode → Bool
is_update_code ops.Update = true
is_update_code other = false

-- whether a header is that of an update
abbrev pub is_update_header : Option Metadata → Bool
is_update_header (Some metadata) = is_update_code metadata.op_code
is_update_header None = false

-- whether a request is an update that may be made, by what is done with it and by its opcode
abbrev pub is_change : Admission → OpCode → Bool
is_change (Serve may.Allowed) ops.Update = true
is_change other op = false

-- A request is decoded and verified: these are its message, its TSIG record, and what the keys and the grants make of it.
pub record IsJudged (policy : Policy) (a : Admitted) : Type 0 where
  pub is_request : IsRequest a.incoming.bytes.now a.message
  pub short : length a.incoming.bytes.now ≤ 65535
  pub finds : Finds a.incoming.bytes.now a.checked.found
  pub verdict_is : a.checked.verdict ≡ verdict_of policy.keys.items a.incoming.bytes.now a.checked.found a.incoming.terms.now.time
  pub admission_is : a.admission ≡ admission policy a.checked.verdict a.message a.incoming.terms.now.local

-- Only bytes that do not decode, responses, and what is too long for a message are no request.
abbrev pub IsAdmitted : Policy → Incoming → Arrived → Type 0
IsAdmitted policy incoming (Request a) = (a.incoming ≡ incoming) × IsJudged policy a
IsAdmitted policy incoming (Other bytes) =
    (bytes ≡ incoming) × (DecodesRequest incoming.bytes.now None ⊎ (65535 < length incoming.bytes.now))

-- requests that are decoded and verified, in order
pub data AreAdmitted (policy : Policy) : List Incoming → List Arrived → Type 0 where
  no_request : AreAdmitted policy [] []
  a_request : {incoming : Incoming} {more : List Incoming} {a : Arrived} {others : List Arrived}
      → IsAdmitted policy incoming a → AreAdmitted policy more others → AreAdmitted policy (incoming ∷ more) (a ∷ others)

-- the message of a request if that is an update which may be made
abbrev pub change_of : Arrived → List (List ℕ)
change_of (Request a) = if is_change a.admission a.message.metadata.op_code then a.incoming.bytes.now ∷ [] else []
change_of (Other bytes) = []

-- the messages of the updates that may be made, in order
abbrev pub changes_in : List Arrived → List (List ℕ)
changes_in [] = []
changes_in (a ∷ more) = change_of a ++ changes_in more

-- the message of a request is short enough for a frame
abbrev pub IsShortIfAny : Arrived → Type 0
IsShortIfAny (Request a) = length a.incoming.bytes.now ≤ 65535
IsShortIfAny (Other bytes) = Unit {0}

-- a request, if it is one, is decoded and verified
abbrev pub IsJudgedIfAny : Policy → Arrived → Type 0
IsJudgedIfAny policy (Request a) = IsJudged policy a
IsJudgedIfAny policy (Other bytes) = Unit {0}

-- requests that are decoded and verified
abbrev pub AreJudged : Policy → List Arrived → Type 0
AreJudged policy [] = Unit {0}
AreJudged policy (a ∷ more) = IsJudgedIfAny policy a × AreJudged policy more
