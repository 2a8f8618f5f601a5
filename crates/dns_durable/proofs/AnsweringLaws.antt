-- What requests leave.
use Rattle.std.proofs.Common.{◌≡◌, ℕ, zero, suc, Bool, true, false, if◌then◌else◌, List, [], ◌∷◌, ◌++◌, Option, Some, None, Result, Ok, Err, refl, sym, ap, subst, ◌∙◌, append_assoc}
use Rattle.std.specs.Prelude.{slice_get, slice_set, IfOk, OnOk}
use Rattle.dns_message_bytes.specs.frames.Frame.{frame, stream_of}
use Rattle.dns_messages.specs.declared.message.Message.{Message}
use Rattle.dns_messages.specs.declared.op_code.OpCode.{OpCode}
use Rattle.dns_messages.specs.declared.op_code.OpCode.TheVariants as ops
use Rattle.dns_messages.specs.declared.query.Query.{Query}
use Rattle.dns_server.specs.declared.updates.Updates.{Updates}
use Rattle.dns_server.specs.declared.updates.Updates.TheVariants as may
use Rattle.dns_server.specs.Server.{route_by_code, route_by_name, route_to, zones_by, zones_with}
use Rattle.dns_server.specs.Zones.{closest}
use Rattle.dns_zone.specs.Rows.{ZoneContent}
use Rattle.dns_zone.specs.Serving.{zone_after, zone_by_op}
use Rattle.dns_zone.specs.declared.zone.serials.Serials.{Serials}
use Rattle.dns_authority.specs.service.Answering.{IsServiceReply, zones_by_op, zones_served}
use Rattle.dns_authority.specs.declared.service.answering.Answering.{Answering}
use Rattle.dns_authority.specs.declared.service.answering.Answering.TheVariants.{Plain, Whole}
use Rattle.dns_durable.specs.Durable.{Takes, TakesFront}
use Rattle.dns_durable.specs.Durable.Takes.{no_frame, a_frame}
use Rattle.dns_durable.specs.Incoming.{AreJudged, IsJudged, IsJudgedIfAny, change_of, changes_in, is_change}
use Rattle.dns_durable.specs.Reply.{AnswersAll, AnswersOne, IsPlainReply, IsReplyBut, IsReplyOf, is_unstored, makes_change, zones_left}
use Rattle.dns_durable.specs.Rule.{step_of}
use Rattle.dns_durable.specs.Reply.AnswersAll.{no_request, a_request}
use Rattle.dns_durable.specs.declared.incoming.Admitted.{Admitted}
use Rattle.dns_durable.specs.declared.incoming.Arrived.{Arrived}
use Rattle.dns_durable.specs.declared.incoming.Arrived.TheVariants.{Request, Other}
use Rattle.dns_durable.specs.declared.policy.Admission.{Admission}
use Rattle.dns_durable.specs.declared.policy.Admission.TheVariants.{Serve}
use Rattle.dns_durable.specs.declared.policy.Policy.{Policy}

-- ---- requests that change nothing

set_same : (zones : List ZoneContent) (place : ℕ) (zone : ZoneContent) → slice_get zones place ≡ Some zone → slice_set zones place zone ≡ zones
set_same [] place zone is = refl
set_same (z ∷ zs) zero zone is = let same : zone ≡ z = cc in ap (λ (x : ZoneContent). x ∷ zs) same
set_same (z ∷ zs) (suc n) zone is = ap (λ (l : List ZoneContent). z ∷ l) (set_same zs n zone is)

same_with : (zones : List ZoneContent) (place : ℕ) (m : Message) (found : Option ZoneContent) → slice_get zones place ≡ found
    → ((zone : ZoneContent) → zone_after zone m ≡ zone) → zones_with zones place m found ≡ zones
same_with zones place m (Some zone) is same = ap (λ (z : ZoneContent). slice_set zones place z) (same zone) ∙ set_same zones place zone is
same_with zones place m None is same = refl

same_to : (zones : List ZoneContent) (m : Message) (found : Option ℕ) → ((zone : ZoneContent) → zone_after zone m ≡ zone) → zones_by zones m (route_to found) ≡ zones
same_to zones m (Some place) same = same_with zones place m (slice_get zones place) refl same
same_to zones m None same = refl

same_by_name : (zones : List ZoneContent) (m : Message) (queries : List Query) → ((zone : ZoneContent) → zone_after zone m ≡ zone)
    → zones_by zones m (route_by_name zones queries) ≡ zones
same_by_name zones m [] same = refl
same_by_name zones m (q ∷ []) same = same_to zones m (closest zones q.name.labels) same
same_by_name zones m (q ∷ r ∷ queries) same = refl

unchanged : (op : OpCode) (updates : Updates) (zones : List ZoneContent) (m : Message) → m.metadata.op_code ≡ op → is_change (Serve updates) op ≡ false
    → zones_by zones m (route_by_code updates zones m.queries op) ≡ zones
unchanged ops.Query updates zones m is idle = same_by_name zones m m.queries (λ zone. ap (λ (o : OpCode). zone_by_op zone m o) is)
unchanged ops.Status updates zones m is idle = refl
unchanged ops.Notify updates zones m is idle = refl
unchanged ops.Update may.Allowed zones m is idle = absurd cc
unchanged ops.Update may.Refused zones m is idle = refl
unchanged (ops.Unknown number) updates zones m is idle = refl

unchanged_whole : (serials : Serials) (op : OpCode) (updates : Updates) (zones : List ZoneContent) (m : Message) → is_change (Serve updates) op ≡ false
    → zones_by_op serials updates op zones m ≡ zones
unchanged_whole serials ops.Query updates zones m idle = refl
unchanged_whole serials ops.Status updates zones m idle = refl
unchanged_whole serials ops.Notify updates zones m idle = refl
unchanged_whole serials ops.Update may.Allowed zones m idle = absurd cc
unchanged_whole serials ops.Update may.Refused zones m idle = refl
unchanged_whole serials (ops.Unknown number) updates zones m idle = refl

-- a request that is no update that may be made leaves the zones unchanged
pub no_change : (answering : Answering) (updates : Updates) (zones : List ZoneContent) (m : Message) → is_change (Serve updates) m.metadata.op_code ≡ false
    → zones_served answering updates zones m ≡ zones
no_change Plain updates zones m idle = unchanged m.metadata.op_code updates zones m refl idle
no_change (Whole any serials) updates zones m idle = unchanged_whole serials m.metadata.op_code updates zones m idle

-- ---- the zones after one request

-- an update that may be made is allowed
allowed_by : (updates : Updates) (op : OpCode) → is_change (Serve updates) op ≡ true → updates ≡ may.Allowed
allowed_by may.Allowed op is = refl
allowed_by may.Refused op is = absurd cc

left_as : (b : Bool) (answering : Answering) (updates : Updates) (zones : List ZoneContent) (a : Admitted) → a.admission ≡ Serve updates → makes_change a ≡ b
    → zones_served answering updates zones a.message ≡ (if b then step_of answering zones a.message else zones)
left_as true answering updates zones a by is =
    ap (λ (u : Updates). zones_served answering u zones a.message)
    (allowed_by updates a.message.metadata.op_code (subst (λ (x : Admission). is_change x a.message.metadata.op_code ≡ true) by is))
left_as false answering updates zones a by is =
    no_change answering updates zones a.message (subst (λ (x : Admission). is_change x a.message.metadata.op_code ≡ false) by is)

-- a request that is served leaves what it may
pub served_left : (answering : Answering) (stored : Bool) (updates : Updates) (zones : List ZoneContent) (a : Admitted) → a.admission ≡ Serve updates
    → is_unstored stored a ≡ false → zones_served answering updates zones a.message ≡ zones_left answering stored zones (Request a)
served_left answering true updates zones a by is = left_as (makes_change a) answering updates zones a by refl
served_left answering false updates zones a by is =
    no_change answering updates zones a.message (subst (λ (x : Admission). is_change x a.message.metadata.op_code ≡ false) by is)

idle_left : (b : Bool) (zones others : List ZoneContent) → b ≡ false → (if b then others else zones) ≡ zones
idle_left true zones others is = absurd cc
idle_left false zones others is = refl

-- a request that is refused leaves the zones unchanged
pub refused_left : (answering : Answering) (stored : Bool) (zones : List ZoneContent) (a : Admitted) → makes_change a ≡ false
    → zones_left answering stored zones (Request a) ≡ zones
refused_left answering true zones a is = idle_left (makes_change a) zones (step_of answering zones a.message) is
refused_left answering false zones a is = refl

-- what is not on the disk changes nothing
pub unstored_left : (answering : Answering) (zones : List ZoneContent) (a : Arrived) → zones_left answering false zones a ≡ zones
unstored_left answering zones a = refl

pub left_by_one : (policy : Policy) (stored : Bool) (zones mid : List ZoneContent) (a : Arrived) (reply : Option (List ℕ)) → AnswersOne policy stored zones mid a reply
    → mid ≡ zones_left policy.answering stored zones a
left_by_one policy stored zones mid (Request a) (Some out) answers = answers.replied.after_is
left_by_one policy stored zones mid (Request a) None answers = absurd answers
left_by_one policy true zones mid (Other bytes) found answers = answers.0
left_by_one policy false zones mid (Other bytes) found answers = answers.0

-- ---- the zones after several requests

takes_change : (b : Bool) (policy : Policy) (zones mid after : List ZoneContent) (a : Admitted) (messages : List (List ℕ)) → IsJudged policy a
    → mid ≡ (if b then step_of policy.answering zones a.message else zones) → Takes (step_of policy.answering) mid (stream_of messages) after
    → Takes (step_of policy.answering) zones (stream_of ((if b then a.incoming.bytes.now ∷ [] else []) ++ messages)) after
takes_change true policy zones mid after a messages judged is takes =
    a_frame {mid = mid} {bytes = a.incoming.bytes.now} {rest = stream_of messages} judged.short (record { request = a.message; is_request = judged.is_request; after_is = is }) takes
takes_change false policy zones mid after a messages judged is takes = subst (λ (z : List ZoneContent). Takes (step_of policy.answering) z (stream_of messages) after) is takes

-- a request, and then others
pub takes_one_more : (policy : Policy) (zones mid after : List ZoneContent) (a : Arrived) (messages : List (List ℕ)) → IsJudgedIfAny policy a
    → mid ≡ zones_left policy.answering true zones a → Takes (step_of policy.answering) mid (stream_of messages) after → Takes (step_of policy.answering) zones (stream_of (change_of a ++ messages)) after
takes_one_more policy zones mid after (Request a) messages judged is takes = takes_change (makes_change a) policy zones mid after a messages judged is takes
takes_one_more policy zones mid after (Other bytes) messages judged is takes = subst (λ (z : List ZoneContent). Takes (step_of policy.answering) z (stream_of messages) after) is takes

pub answers_take : (policy : Policy) (zones after : List ZoneContent) (admitted : List Arrived) (replies : List (Option (List ℕ))) → AreJudged policy admitted
    → AnswersAll policy true zones admitted replies after → Takes (step_of policy.answering) zones (stream_of (changes_in admitted)) after
answers_take policy zones after admitted replies judged no_request = no_frame
answers_take policy zones after admitted replies judged (a_request {mid = mid} {a = a} {more = more} {reply = reply} {replies = others} one answers) =
    takes_one_more policy zones mid after a (changes_in more) judged.0 (left_by_one policy true zones mid a reply one)
    (answers_take policy mid after more others judged.1 answers)

pub answers_unstored : (policy : Policy) (zones after : List ZoneContent) (admitted : List Arrived) (replies : List (Option (List ℕ)))
    → AnswersAll policy false zones admitted replies after → after ≡ zones
answers_unstored policy zones after admitted replies no_request = refl
answers_unstored policy zones after admitted replies (a_request {mid = mid} {a = a} {more = more} {reply = reply} {replies = others} one answers) =
    answers_unstored policy mid after more others answers ∙ left_by_one policy false zones mid a reply one

-- ---- a front of them

pub no_front : (step : List ZoneContent → Message → List ZoneContent) (zones : List ZoneContent) (bytes : List ℕ) → TakesFront step zones bytes zones
no_front step zones bytes = record { front = []; rest = bytes; bytes_are = refl; takes = no_frame }

-- none of the updates is served where the zones are unchanged
pub none_served : (answering : Answering) (zones after : List ZoneContent) (admitted : List Arrived) → after ≡ zones
    → TakesFront (step_of answering) zones (stream_of (changes_in admitted)) after
none_served answering zones after admitted same =
    subst (λ (z : List ZoneContent). TakesFront (step_of answering) zones (stream_of (changes_in admitted)) z) (sym same)
    (no_front (step_of answering) zones (stream_of (changes_in admitted)))

front_change : (b : Bool) (policy : Policy) (zones mid after : List ZoneContent) (a : Admitted) (messages : List (List ℕ)) → IsJudged policy a
    → mid ≡ (if b then step_of policy.answering zones a.message else zones) → TakesFront (step_of policy.answering) mid (stream_of messages) after
    → TakesFront (step_of policy.answering) zones (stream_of ((if b then a.incoming.bytes.now ∷ [] else []) ++ messages)) after
front_change true policy zones mid after a messages judged is takes = record {
  front = frame a.incoming.bytes.now ++ takes.front;
  rest = takes.rest;
  bytes_are = ap (λ (l : List ℕ). frame a.incoming.bytes.now ++ l) takes.bytes_are ∙ sym (append_assoc (frame a.incoming.bytes.now) takes.front takes.rest);
  takes = a_frame {mid = mid} {bytes = a.incoming.bytes.now} {rest = takes.front} judged.short (record { request = a.message; is_request = judged.is_request; after_is = is }) takes.takes;
}
front_change false policy zones mid after a messages judged is takes = subst (λ (z : List ZoneContent). TakesFront (step_of policy.answering) z (stream_of messages) after) is takes

pub front_one_more : (policy : Policy) (zones mid after : List ZoneContent) (a : Arrived) (messages : List (List ℕ)) → IsJudgedIfAny policy a
    → mid ≡ zones_left policy.answering true zones a → TakesFront (step_of policy.answering) mid (stream_of messages) after → TakesFront (step_of policy.answering) zones (stream_of (change_of a ++ messages)) after
front_one_more policy zones mid after (Request a) messages judged is takes = front_change (makes_change a) policy zones mid after a messages judged is takes
front_one_more policy zones mid after (Other bytes) messages judged is takes = subst (λ (z : List ZoneContent). TakesFront (step_of policy.answering) z (stream_of messages) after) is takes

-- ---- no update

takes_nothing : (step : List ZoneContent → Message → List ZoneContent) (zones after : List ZoneContent) (bytes : List ℕ) → bytes ≡ [] → Takes step zones bytes after → after ≡ zones
takes_nothing step zones after bytes none no_frame = refl
takes_nothing step zones after bytes none (a_frame short taken rest) = absurd (cc none)

empty_front : (front rest : List ℕ) → [] ≡ front ++ rest → front ≡ []
empty_front [] rest is = refl
empty_front (byte ∷ front) rest is = absurd (cc is)

-- the zones stay where none of the requests is an update that may be made
module _ (policy : Policy) (zones after : List ZoneContent) (admitted : List Arrived) (none : changes_in admitted ≡ []) where
  pub answers_stay : (stored : Bool) (replies : List (Option (List ℕ))) → AreJudged policy admitted → AnswersAll policy stored zones admitted replies after → after ≡ zones
  answers_stay true replies judged answers =
      takes_nothing (step_of policy.answering) zones after (stream_of (changes_in admitted)) (ap stream_of none) (answers_take policy zones after admitted replies judged answers)
  answers_stay false replies judged answers = answers_unstored policy zones after admitted replies answers

  pub front_stays : TakesFront (step_of policy.answering) zones (stream_of (changes_in admitted)) after → after ≡ zones
  front_stays front = takes_nothing (step_of policy.answering) zones after front.front (empty_front front.front front.rest (sym (ap stream_of none) ∙ front.bytes_are)) front.takes

-- ---- the reply to one request

-- the reply to a request that is served
pub plain_served : {T E : Type 0} (result : Result T E) (out_of : T → List ℕ) (answering : Answering) (stored : Bool) (updates : Updates) (zones after : List ZoneContent) (a : Admitted) → a.admission ≡ Serve updates
    → is_unstored stored a ≡ false → IfOk result (λ x. IsServiceReply answering updates zones a.incoming.terms.now.transport a.message (out_of x))
    → OnOk result (after ≡ zones_served answering updates zones a.message) → IfOk result (λ x. IsPlainReply answering stored zones after a (out_of x))
plain_served (Ok x) out_of answering stored updates zones after a by un replied left = record {
  after_is = left ∙ served_left answering stored updates zones a by un;
  replied = subst (λ (b : Bool). IsReplyBut b answering a.admission zones a.incoming.terms.now.transport a.message (out_of x)) (sym un)
      (subst (λ (y : Admission). IsReplyOf answering y zones a.incoming.terms.now.transport a.message (out_of x)) (sym by) replied);
}
plain_served (Err e) out_of answering stored updates zones after a by un replied left = tt

-- what is on the disk, or changes nothing, is not missing there
pub is_on_disk : (stored : Bool) (a : Admitted) → stored ≡ true → is_unstored stored a ≡ false
is_on_disk true a is = refl
is_on_disk false a is = absurd cc

pub makes_none : (stored : Bool) (a : Admitted) → makes_change a ≡ false → is_unstored stored a ≡ false
makes_none true a is = refl
makes_none false a is = is
