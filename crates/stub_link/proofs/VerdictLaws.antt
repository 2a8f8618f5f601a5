-- What a datagram is, by its header and by what follows it.
use Rattle.std.proofs.Common.{◌≡◌, ◌&&◌, Bool, true, false, ℕ, List, Option, Some, None, Result, Ok, Err, IfOk, sym, ap, ◌∙◌}
use Rattle.std.specs.declared.alloc.AllocError.{AllocError}
use Rattle.dns_messages.specs.Header.{peeked_metadata}
use Rattle.dns_messages.specs.declared.header.Metadata.{Metadata}
use Rattle.dns_messages.specs.declared.query.Query.{Query}
use Rattle.stub_link.specs.Link.{wire}
use Rattle.stub_link.specs.Reply.{has_reply_header, is_reply_header, repeats}
use Rattle.stub_link.specs.Wait.{IsOther}
use Rattle.stub_link.proofs.ReplyHeaders.{PeeksHeaders, not-headed, same-header}
use Rattle.stub_link.specs.trace.Verdict.{HasFault, IsFaultOfContent, IsVerdict}
use Rattle.stub_link.specs.declared.trace.verdict.Verdict.{Verdict}
use Rattle.stub_link.specs.declared.trace.verdict.Verdict.TheVariants.{Reply, NoHeader, Request, OtherOpCode, OtherId, Malformed, OtherQuestion}

-- ---- two facts

-- with a fact that holds, only the other one counts
with-true : (a b : Bool) → a ≡ true → (a && b) ≡ b
with-true a b h = ap (λ (x : Bool). x && b) h

with-false : (a b : Bool) → a ≡ false → (a && b) ≡ false
with-false a b h = ap (λ (x : Bool). x && b) h

-- ---- the header

-- a header with a fault is not that of a reply
fault-of-header : (id : ℕ) (question : Option Query) (header : Metadata) (fault : Verdict) → HasFault id question header fault
    → is_reply_header id question header ≡ false
fault-of-header id question header Request h = with-false _ _ h
fault-of-header id question header OtherOpCode h = with-true _ _ h.0 ∙ with-false _ _ h.1
fault-of-header id question header OtherId h = with-true _ _ h.0 ∙ (with-true _ _ h.1 ∙ h.2)
fault-of-header id question header Reply h = absurd h
fault-of-header id question header NoHeader h = absurd h
fault-of-header id question header Malformed h = absurd h
fault-of-header id question header OtherQuestion h = absurd h

pub header-verdict : (id : ℕ) (question : Option Query) (bytes : List ℕ) (header : Metadata) (fault : Verdict)
    → peeked_metadata bytes ≡ Some header → HasFault id question header fault → IsVerdict id question bytes fault
header-verdict id question bytes header Request peeked h = (header, peeked, h)
header-verdict id question bytes header OtherOpCode peeked h = (header, peeked, h)
header-verdict id question bytes header OtherId peeked h = (header, peeked, h)
header-verdict id question bytes header Reply peeked h = absurd h
header-verdict id question bytes header NoHeader peeked h = absurd h
header-verdict id question bytes header Malformed peeked h = absurd h
header-verdict id question bytes header OtherQuestion peeked h = absurd h

-- a datagram that begins with such a header, or with none, is not the reply
pub header-other : PeeksHeaders → (id : ℕ) (question : Option Query) (bytes : List ℕ) (header : Metadata) (fault : Verdict)
    → peeked_metadata bytes ≡ Some header → HasFault id question header fault → IsOther wire id question bytes
header-other peeks id question bytes header fault peeked h = λ m reads.
    not-headed peeks id question bytes m (ap (has_reply_header id question) peeked ∙ fault-of-header id question header fault h) reads

pub none-other : PeeksHeaders → (id : ℕ) (question : Option Query) (bytes : List ℕ) → peeked_metadata bytes ≡ None
    → IsOther wire id question bytes
none-other peeks id question bytes peeked = λ m reads.
    not-headed peeks id question bytes m (ap (has_reply_header id question) peeked) reads

-- ---- what follows the header

pub content-verdict : PeeksHeaders → (id : ℕ) (question : Option Query) (bytes : List ℕ) (fault : Verdict)
    → has_reply_header id question (peeked_metadata bytes) ≡ true → IsOther wire id question bytes → IsFaultOfContent bytes fault
    → IsVerdict id question bytes fault
content-verdict peeks id question bytes Malformed headed other h = (headed, h)
content-verdict peeks id question bytes OtherQuestion headed other h =
    let m = h.0 in
    let same : is_reply_header id question m.metadata ≡ true = sym (same-header peeks id question bytes m h.1) ∙ headed in
    (headed, (m, h.1, sym (with-true (is_reply_header id question m.metadata) (repeats question m.queries) same) ∙ other m h.1))
content-verdict peeks id question bytes Reply headed other h = absurd h
content-verdict peeks id question bytes NoHeader headed other h = absurd h
content-verdict peeks id question bytes Request headed other h = absurd h
content-verdict peeks id question bytes OtherOpCode headed other h = absurd h
content-verdict peeks id question bytes OtherId headed other h = absurd h

-- what is known of a fault, if there was memory to find it
pub content-verdicts : PeeksHeaders → (id : ℕ) (question : Option Query) (bytes : List ℕ) (result : Result Verdict AllocError)
    → has_reply_header id question (peeked_metadata bytes) ≡ true → IsOther wire id question bytes
    → IfOk result (λ fault. IsFaultOfContent bytes fault) → IfOk result (λ verdict. IsVerdict id question bytes verdict)
content-verdicts peeks id question bytes (Ok fault) headed other h = content-verdict peeks id question bytes fault headed other h
content-verdicts peeks id question bytes (Err error) headed other h = tt
