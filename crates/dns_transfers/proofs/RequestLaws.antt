-- Requests for transfers, and the messages that reply to them.
use Rattle.std.proofs.Common.{◌≡◌, ◌≤◌, ◌&&◌, ◌∙◌, ℕ, Bool, true, false, List, [], ◌∷◌, map, length, refl, sym, ap, subst, arith, Option, Some, None, Result, Ok, Err, is_some}
use Rattle.std.specs.Prelude.{IfOk, option_copied, option_map}
use Rattle.std.specs.Borrow.{Bor}
use Rattle.std.specs.Global.{Vec}
use Rattle.dns_messages.specs.Grammar.{ReadsMessage}
use Rattle.dns_messages.specs.declared.message_type.MessageType.TheVariants as kinds
use Rattle.dns_messages.specs.declared.op_code.OpCode.{OpCode}
use Rattle.dns_messages.specs.declared.op_code.OpCode.TheVariants as ops
use Rattle.dns_messages.specs.declared.query.Query.{Query}
use Rattle.dns_messages.specs.declared.message.Message.{Message}
use Rattle.dns_messages.specs.declared.response_code.ResponseCode.{ResponseCode}
use Rattle.dns_zone.specs.Rows.{ZoneContent}
use Rattle.dns_zone.specs.Request.{reply_without_zone, DecodesRequest, IsEncodedReply, IsRequest}
use Rattle.dns_zone.specs.declared.transport.Transport.{Transport}
use Rattle.dns_transfers.specs.whole.Request.{asked_by, if_transfer, is_transfer, only, refusal, zone_at}
use Rattle.dns_transfers.specs.whole.Reply.{IsRefusal, IsReply, IsReplyBy, IsReplyFor, Transfers, TransfersTo}

-- ---- requests

pub if_ok : {T E : Type 0} (P Q : T → Type 0) (r : Result T E) → ((x : T) → P x → Q x) → IfOk r P → IfOk r Q
if_ok P Q (Ok x) f h = f x h
if_ok P Q (Err e) f h = tt

second : (a b : Bool) → (a && b) ≡ true → b ≡ true
second true b e = e
second false b e = absurd (cc)

one_only : (queries : List Query) → if_transfer (only queries) ≡ true → length queries ≤ 1
one_only [] e = absurd (cc)
one_only (q ∷ []) e = omega arith
one_only (q ∷ r ∷ more) e = absurd (cc)

one_asked : (op : OpCode) (queries : List Query) → if_transfer (asked_by op queries) ≡ true → length queries ≤ 1
one_asked ops.Query queries e = one_only queries e
one_asked other queries e = absurd (cc)

-- a request for a transfer has one question
pub few_asked : (m : Message) → is_transfer m ≡ true → length m.queries ≤ 1
few_asked m e = one_asked m.metadata.op_code m.queries (second _ (if_transfer (asked_by m.metadata.op_code m.queries)) e)

pub is_asked : (m : Message) (found : Option Query) → found ≡ asked_by m.metadata.op_code m.queries → is_transfer m ≡ true → found ≡ None → ⊥
is_asked m found e asks none =
    let yes : if_transfer (asked_by m.metadata.op_code m.queries) ≡ true = second _ (if_transfer (asked_by m.metadata.op_code m.queries)) asks in
    let no : if_transfer (asked_by m.metadata.op_code m.queries) ≡ false = ap if_transfer (sym e ∙ none) in
    cc

-- ---- replies

pub some_copied : {X : Type 0} (found : Option (Bor X)) → is_some found ≡ is_some (option_copied found)
some_copied None = refl
some_copied (Some x) = refl

pub refused_by : (m : Message) (transport : Transport) (code : ResponseCode) (messages : List (Vec ℕ)) (bytes : Vec ℕ) → messages ≡ bytes ∷ [] → IsEncodedReply (reply_without_zone m code) transport m bytes.items
    → IsRefusal m transport code (map (λ (b : Vec ℕ). b.items) messages)
refused_by m transport code messages bytes e h = subst (λ (l : List (Vec ℕ)). IsRefusal m transport code (map (λ (b : Vec ℕ). b.items) l)) (sym e) h

-- the messages for a question, by the zone that was found and why it is refused
pub replied : (zones : List ZoneContent) (transport : Transport) (is_permitted : Bool) (m : Message) (q : Query) (found : Option ZoneContent) (code : Option ResponseCode) (messages : List (List ℕ)) → Some q ≡ asked_by m.metadata.op_code m.queries → found ≡ zone_at zones q
    → code ≡ refusal transport is_permitted (is_some found) → IsReplyBy code found transport m messages → IsReply zones transport is_permitted m messages
replied zones transport is_permitted m q found code messages e f g h =
    subst (λ (o : Option Query). IsReplyFor o zones transport is_permitted m messages) e
    (subst (λ (z : Option ZoneContent). IsReplyBy (refusal transport is_permitted (is_some z)) z transport m messages) f
    (subst (λ (k : Option ResponseCode). IsReplyBy k found transport m messages) g h))

-- a reply with a code is the one that the refusal asks for
pub by_refusal : {E : Type 0} (m : Message) (transport : Transport) (is_permitted : Bool) (found : Option ZoneContent) (code : ResponseCode) (r : Result (Vec (Vec ℕ)) E) → Some code ≡ refusal transport is_permitted (is_some found)
    → IfOk r (λ messages. IsRefusal m transport code (map (λ (b : Vec ℕ). b.items) messages.items))
    → IfOk r (λ messages. IsReplyBy (refusal transport is_permitted (is_some found)) found transport m (map (λ (b : Vec ℕ). b.items) messages.items))
by_refusal m transport is_permitted found code (Ok messages) e h =
    subst (λ (o : Option ResponseCode). IsReplyBy o found transport m (map (λ (b : Vec ℕ). b.items) messages.items)) e h
by_refusal m transport is_permitted found code (Err error) e h = tt

-- ---- bytes

abbrev bytes_of : Option (Vec (Vec ℕ)) → Option (List (List ℕ))
bytes_of found = option_map {T = Vec (Vec ℕ)} {U = List (List ℕ)} (λ messages. map (λ (b : Vec ℕ). b.items) messages.items) found

-- the message that bytes are decides
pub by_bytes : {E : Type 0} (zones : List ZoneContent) (transport : Transport) (is_permitted : Bool) (bytes : List ℕ) (m : Message) (request : Option Message) → request ≡ Some m → DecodesRequest bytes request
    → ((a b : Message) → ReadsMessage bytes a → ReadsMessage bytes b → a ≡ b) → (r : Result (Option (Vec (Vec ℕ))) E)
    → IfOk r (λ found. TransfersTo zones transport is_permitted m (bytes_of found)) → IfOk r (λ found. Transfers zones transport is_permitted bytes (bytes_of found))
by_bytes zones transport is_permitted bytes m request e decodes same (Ok found) h = at found h
  where
    is_request : IsRequest bytes m
    is_request = subst (DecodesRequest bytes) e decodes

    at : (found : Option (Vec (Vec ℕ))) → TransfersTo zones transport is_permitted m (bytes_of found) → Transfers zones transport is_permitted bytes (bytes_of found)
    at None other = λ n is. ap is_transfer (same n m is.reads is_request.reads) ∙ other
    at (Some messages) found = (m, (is_request, found))
by_bytes zones transport is_permitted bytes m request e decodes same (Err error) h = tt

-- bytes that are no request are none for a transfer
pub no_request : (bytes : List ℕ) (request : Option Message) → request ≡ None → DecodesRequest bytes request → (m : Message) → IsRequest bytes m → is_transfer m ≡ false
no_request bytes request e decodes m is =
    let response : m.metadata.message_type ≡ kinds.Response = (subst (DecodesRequest bytes) e decodes) m is.reads in
    let asks : m.metadata.message_type ≡ kinds.Query = is.asks in
    absurd (cc)
