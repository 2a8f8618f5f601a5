-- What rules of a fault table make of requests.
use Rattle.std.specs.Prelude.{◌≡◌, Bool, true, false, List, [], ◌∷◌, ℕ, option_map, Option, Some, None}
use Rattle.dns_authority.specs.service.Answering.{IsServiceReply}
use Rattle.dns_durable.specs.Signed.{IsSignedAs, IsSignedWithin}
use Rattle.dns_durable.specs.declared.incoming.Terms.{Terms}
use Rattle.dns_faults.specs.Coded.{coded_reply}
use Rattle.dns_faults.specs.Decided.{Decides, counted_for}
use Rattle.dns_faults.specs.Delivery.{plain_sending, sending, sending_by}
use Rattle.dns_faults.specs.Edited.{with_edits}
use Rattle.dns_faults.specs.Truncated.{IsTruncated}
use Rattle.dns_faults.specs.declared.decided.Decided.{Decided}
use Rattle.dns_faults.specs.declared.delivery.Delivery.{Delivery}
use Rattle.dns_faults.specs.declared.rules.fault.Fault.{Fault}
use Rattle.dns_faults.specs.declared.rules.fault.Service.{Service}
use Rattle.dns_faults.specs.declared.rules.fault.Service.TheVariants as services
use Rattle.dns_faults.specs.declared.rules.table.CountedRule.{CountedRule}
use Rattle.dns_journal.specs.Event.{Event}
use Rattle.dns_messages.specs.Encoding.{Encodes}
use Rattle.dns_messages.specs.declared.message.Message.{Message}
use Rattle.dns_messages.specs.declared.op_code.OpCode.{OpCode}
use Rattle.dns_messages.specs.declared.op_code.OpCode.TheVariants as ops
use Rattle.dns_messages.specs.declared.query.Query.{Query}
use Rattle.dns_nameserver.specs.Answered.{reply_transport}
use Rattle.dns_nameserver.specs.Former.{Former}
use Rattle.dns_server.specs.declared.updates.Updates.TheVariants as may
use Rattle.dns_sockets.specs.Handler.{HandlerEvent, RequestContent, Handled, Noticed, Took, Transferred}
use Rattle.dns_tsig.specs.Found.{Finds}
use Rattle.dns_tsig.specs.Verify.{verdict_of}
use Rattle.dns_tsig.specs.declared.key.Key.{Key}
use Rattle.dns_tsig.specs.declared.verify.Checked.{Checked}
use Rattle.dns_tsig.specs.declared.verify.Verdict.{Verdict}
use Rattle.dns_tsig.specs.declared.verify.Verdict.TheVariants as verdicts
use Rattle.dns_wire.specs.Encoder.{max_message_len}
use Rattle.dns_zone.specs.declared.transport.Transport.TheVariants as transports
use Rattle.nameserver_handlers.specs.Handling.{AnswersTogether, IsTerms, Keeping, LeavesTogether, ServesWith, kept_content}
use Rattle.nameserver_handlers.specs.TextFile.{AsksNothing}
use Rattle.nameserver_handlers.specs.Transferring.{TransferByDatagram, TransferIf}

-- by whom a request was signed, at a time
pub record IsChecked (keys : List Key) (request : List ℕ) (time : ℕ) (checked : Checked) : Type 0 where
  pub finds : Finds request checked.found
  pub verdict_is : checked.verdict ≡ verdict_of keys request checked.found time

-- Bytes are those of a reply to a request, signed as the request is (RFC 8945 section 5.3).
pub record IsSignedFor (keys : List Key) (request : List ℕ) (time : ℕ) (plain signed : List ℕ) : Type 0 where
  pub checked : Checked
  pub checks : IsChecked keys request time checked
  pub signs : IsSignedAs keys checked time plain signed

-- ---- by what a request is answered

-- the reply by the current zones
abbrev pub ByCurrent : {S : Type 0} → (S → Event → S → Type 0) → Keeping S → RequestContent → Terms → Option (List ℕ) → Keeping S → Type 0
ByCurrent performs old r terms reply new = ServesWith performs old (r ∷ []) (terms ∷ []) (Some (reply ∷ [])) new

-- whether a request is one that is served, by its TSIG record: it has none, or a holder of the key made it
abbrev pub is_authentic : Verdict → Bool
is_authentic verdicts.Unsigned = true
is_authentic (verdicts.Verified index) = true
is_authentic other = false

-- whether a request is served by the zones from before the last update, if these are known
abbrev pub asks_former : OpCode → Verdict → Bool
asks_former ops.Update verdict = false
asks_former op verdict = is_authentic verdict

-- the reply by the zones from before the last update
pub record IsByFormer {S : Type 0} (old : Keeping S) (terms : Terms) (m : Message) (checked : Checked) (f : Former) (reply : Option (List ℕ))
    (new : Keeping S) : Type 0 where
  pub plain : List ℕ
  pub bytes : List ℕ
  pub replied : IsServiceReply old.settings.policy.answering may.Refused f.zones terms.transport m plain
  pub signed : IsSignedWithin old.settings.policy.keys.items checked terms m plain bytes
  pub reply_is : reply ≡ Some bytes
  pub unchanged : new ≡ old

-- by the ones or the others, for a request that asks for those from before
abbrev pub ByFormerIf : {S : Type 0} → (S → Event → S → Type 0) → Bool → Option Former → Keeping S → RequestContent → Terms → Message → Checked
    → Option (List ℕ) → Keeping S → Type 0
ByFormerIf performs true (Some f) old r terms m checked reply new = IsByFormer old terms m checked f reply new
ByFormerIf performs asks f old r terms m checked reply new = ByCurrent performs old r terms reply new

-- The reply by the zones from before the last update. An update, a request that is not authentic, and any one if these zones are not
-- known is answered by the current ones.
pub record ByFormer {S : Type 0} (performs : S → Event → S → Type 0) (old : Keeping S) (r : RequestContent) (terms : Terms) (m : Message)
    (reply : Option (List ℕ)) (new : Keeping S) : Type 0 where
  pub checked : Checked
  pub checks : IsChecked old.settings.policy.keys.items r.bytes terms.time checked
  pub answered : ByFormerIf performs (asks_former m.metadata.op_code checked.verdict) old.former old r terms m checked reply new

-- a request has exactly one question
pub record HasOneQuestion (m : Message) : Type 0 where
  pub question : Query
  pub queries_are : m.queries ≡ question ∷ []

-- the reply with a response code alone, to the only question of a request
pub record ByCode {S : Type 0} (old : Keeping S) (r : RequestContent) (time : ℕ) (m : Message) (number : ℕ) (reply : Option (List ℕ))
    (new : Keeping S) : Type 0 where
  pub one : HasOneQuestion m
  pub plain : List ℕ
  pub bytes : List ℕ
  pub encodes : Encodes max_message_len (coded_reply m one.question number) plain
  pub signed : IsSignedFor old.settings.policy.keys.items r.bytes time plain bytes
  pub reply_is : reply ≡ Some bytes
  pub unchanged : new ≡ old

-- What a request is answered with before its reply is edited. A request that is dropped or answered with a code is not served.
abbrev pub ByService : {S : Type 0} → (S → Event → S → Type 0) → Service → Keeping S → RequestContent → Terms → Message → Option (List ℕ)
    → Keeping S → Type 0
ByService performs services.Plain old r terms m reply new = ByCurrent performs old r terms reply new
ByService performs services.Stale old r terms m reply new = ByFormer performs old r terms m reply new
ByService performs services.Drop old r terms m reply new = (reply ≡ None) × (new ≡ old)
ByService performs (services.Code number) old r terms m reply new = ByCode old r terms.time m number reply new

-- ---- what is sent

-- a reply without its records, which is signed again at a time
pub record IsCut (keys : List Key) (request : List ℕ) (time : ℕ) (reply bytes : List ℕ) : Type 0 where
  pub middle : List ℕ
  pub cut : IsTruncated reply middle
  pub signed : IsSignedFor keys request time middle bytes

-- the same if a fault wants it, and there is a reply
abbrev pub IsCutIf : Bool → List Key → List ℕ → ℕ → Option (List ℕ) → Option (List ℕ) → Type 0
IsCutIf false keys request time reply cut = cut ≡ reply
IsCutIf true keys request time None cut = cut ≡ None
IsCutIf true keys request time (Some reply) cut = (bytes : List ℕ) × (IsCut keys request time reply bytes × (cut ≡ Some bytes))

-- a reply as a fault edits it
pub record IsEditedBy (f : Fault) (keys : List Key) (request : List ℕ) (time id : ℕ) (reply edited : Option (List ℕ)) : Type 0 where
  pub cut : Option (List ℕ)
  pub is_cut : IsCutIf f.truncate keys request time reply cut
  pub edited_is : edited ≡ option_map (with_edits f id) cut

-- A request is answered by the rule that decides, which is counted. Whatever it takes a time for, it takes the same one.
pub record AnswersByRule {S : Type 0} (performs : S → Event → S → Type 0) (old : Keeping S) (r : RequestContent) (d : Decided)
    (delivery : Delivery) (new : Keeping S) : Type 0 where
  pub terms : Terms
  pub are_terms : IsTerms old.settings r terms
  pub reply : Option (List ℕ)
  pub mid : Keeping S
  pub served : ByService performs d.decision.fault.service old r terms d.request reply mid
  pub edited : Option (List ℕ)
  pub edits : IsEditedBy d.decision.fault mid.settings.policy.keys.items r.bytes terms.time d.request.metadata.id reply edited
  pub sent_is : sending delivery ≡ sending_by d.decision.fault edited
  pub new_is : new ≡ record mid { faults = counted_for mid.faults r.transport d.request.queries }

-- ---- transfers

-- whether the service of a rule stops a transfer: it drops the request, or answers it with a code alone
abbrev pub stops_by : Service → Bool
stops_by services.Drop = true
stops_by (services.Code number) = true
stops_by other = false

-- whether what a table decides for a request stops a transfer
abbrev pub stops : Option Decided → Bool
stops (Some d) = stops_by d.decision.fault.service
stops None = false

-- whether a table stops a transfer; one without rules does not
abbrev pub IsStopped : List CountedRule → RequestContent → Bool → Type 0
IsStopped [] r stopped = stopped ≡ false
IsStopped (rule ∷ rules) r stopped =
    (decided : Option Decided) × (Decides (rule ∷ rules) r.bytes r.transport decided × (stopped ≡ stops decided))

-- the reply to a request for an incremental transfer in a datagram, unless it is stopped
abbrev pub TransferredUnless : {S : Type 0} → Bool → Keeping S → RequestContent → Option (List ℕ) → Type 0
TransferredUnless true old r found = found ≡ None
TransferredUnless false old r found =
    TransferByDatagram (kept_content old) old.settings.transfers (reply_transport r.transport old.settings.limit) r found

-- the messages of a transfer over a stream, unless it is stopped
abbrev pub TransfersUnless : {S : Type 0} → Bool → Keeping S → Bool → RequestContent → Option (List (List ℕ)) → Type 0
TransfersUnless true old is_busy r found = found ≡ None
TransfersUnless false old is_busy r found =
    TransferIf old.settings.transfers.are_offered (kept_content old) old.settings.transfers is_busy transports.Stream r found

-- ---- requests

-- by the rule that decides, or without a fault if none does
abbrev pub AnswersBy : {S : Type 0} → (S → Event → S → Type 0) → Option Decided → Keeping S → RequestContent → Delivery → Keeping S → Type 0
AnswersBy performs None old r d new = AnswersTogether performs old (r ∷ []) (d ∷ []) new
AnswersBy performs (Some decided) old r d new = AnswersByRule performs old r decided d new

-- by the reply to a request for an incremental transfer in a datagram, or else by a rule
abbrev pub AnswersUnless : {S : Type 0} → (S → Event → S → Type 0) → Option (List ℕ) → Option Decided → Keeping S → RequestContent → Delivery
    → Keeping S → Type 0
AnswersUnless performs (Some reply) decided old r d new = (sending d ≡ plain_sending (Some reply)) × (new ≡ old)
AnswersUnless performs None decided old r d new = AnswersBy performs decided old r d new

-- a request is answered by what a table decides for it
abbrev pub AnswersAs : {S : Type 0} → (S → Event → S → Type 0) → Option Decided → Keeping S → RequestContent → Delivery → Keeping S → Type 0
AnswersAs performs decided old r d new =
    (found : Option (List ℕ)) × (TransferredUnless (stops decided) old r found × AnswersUnless performs found decided old r d new)

-- a request is answered
abbrev pub AnswersOne : {S : Type 0} → (S → Event → S → Type 0) → Keeping S → RequestContent → Delivery → Keeping S → Type 0
AnswersOne performs old r d new =
    (decided : Option Decided) × (Decides old.faults r.bytes r.transport decided × AnswersAs performs decided old r d new)

-- requests are answered, one after another
abbrev pub AnswersEach : {S : Type 0} → (S → Event → S → Type 0) → Keeping S → List RequestContent → List Delivery → Keeping S → Type 0
AnswersEach performs old [] ds new = (ds ≡ []) × (new ≡ old)
AnswersEach performs old (r ∷ rs) [] new = ⊥
AnswersEach {S} performs old (r ∷ rs) (d ∷ ds) new = (mid : Keeping S) × (AnswersOne performs old r d mid × AnswersEach performs mid rs ds new)

-- Where memory is refused, some of them were, and the next one may have left an update.
pub data LeavesEach {S : Type 0} (performs : S → Event → S → Type 0) : Keeping S → List RequestContent → Keeping S → Type 0 where
  none_left : (old : Keeping S) (rs : List RequestContent) → LeavesEach performs old rs old
  one_left : (old : Keeping S) (r : RequestContent) (rs : List RequestContent) (new : Keeping S) → LeavesTogether performs old (r ∷ []) new
      → LeavesEach performs old (r ∷ rs) new
  more_left : (old : Keeping S) (r : RequestContent) (rs : List RequestContent) (d : Delivery) (mid new : Keeping S) → AnswersOne performs old r d mid
      → LeavesEach performs mid rs new → LeavesEach performs old (r ∷ rs) new

-- ---- the handler

-- requests that arrive together are answered together if there are no rules, or else one after another
abbrev pub AnswersWith : {S : Type 0} → (S → Event → S → Type 0) → List CountedRule → Keeping S → List RequestContent → List Delivery → Keeping S → Type 0
AnswersWith performs [] old rs ds new = AnswersTogether performs old rs ds new
AnswersWith performs (rule ∷ rules) old rs ds new = AnswersEach performs old rs ds new

-- the same where memory is refused
abbrev pub LeavesWith : {S : Type 0} → (S → Event → S → Type 0) → List CountedRule → Keeping S → List RequestContent → Keeping S → Type 0
LeavesWith performs [] old rs new = LeavesTogether performs old rs new
LeavesWith performs (rule ∷ rules) old rs new = LeavesEach performs old rs new

-- What is left once a notification is given, or there is none: the journal may be begun anew then, if there is one. Without one, the zones
-- stay, updates are taken as before, and nothing is asked of the storage.
pub record IsTended {S : Type 0} (performs : S → Event → S → Type 0) (old new : Keeping S) : Type 0 where
  pub settings : new.settings ≡ old.settings
  pub faults : new.faults ≡ old.faults
  pub former : new.former ≡ old.former
  pub recorder : new.recorder ≡ old.recorder
  pub zones : old.settings.has_journal ≡ false → new.zones ≡ old.zones
  pub position : old.settings.has_journal ≡ false → new.position ≡ old.position
  pub storage : old.settings.has_journal ≡ false → AsksNothing performs old.storage new.storage

-- What the handler does. Where memory is refused, there are no replies, and updates may have been made.
abbrev pub Steps : {S : Type 0} → (S → Event → S → Type 0) → Keeping S → HandlerEvent → Keeping S → Type 0
Steps performs old (Handled rs (Some ds)) new = AnswersWith performs old.faults old rs ds new
Steps performs old (Handled rs None) new = LeavesWith performs old.faults old rs new
Steps performs old (Transferred r is_busy (Some found)) new =
    ((stopped : Bool) × (IsStopped old.faults r stopped × TransfersUnless stopped old is_busy r found)) × (new ≡ old)
Steps performs old (Transferred r is_busy None) new = new ≡ old
Steps performs old (Took r is_taken) new = new ≡ old
Steps performs old (Noticed now notice) new = IsTended performs old new
