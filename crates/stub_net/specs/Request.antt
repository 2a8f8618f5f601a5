-- Requests, and which datagrams are the reply to one (RFC 5452 section 9.1).
use Rattle.std.specs.Prelude.{◌≡◌, ◌&&◌, Bool, true, false, if◌then◌else◌, List, ℕ, Option, is_some, Ok, Err}
use Rattle.dns_messages.specs.Header.{peeked_metadata}
use Rattle.dns_messages.specs.declared.message.Message.{Message}
use Rattle.dns_messages.specs.declared.response.DnsResponse.{DnsResponse}
use Rattle.stub_client.specs.Handle.{Outcome}
use Rattle.stub_link.specs.Reply.{has_reply_header, question_in}
use Rattle.stub_link.specs.WireHandle.{FindsReply}
use Rattle.stub_lookup.specs.declared.error.LinkFault.TheVariants as fault
use Rattle.stub_lookup.specs.declared.error.NetError.TheVariants as net

-- the reply to a request in a datagram, or none
abbrev pub Finds : Message → List ℕ → Option DnsResponse → Type 0
Finds m bytes found = FindsReply m.metadata.id (question_in m) bytes found

-- a datagram begins with the header of a reply to a request
abbrev pub IsHeaded : Message → List ℕ → Type 0
IsHeaded m bytes = has_reply_header m.metadata.id (question_in m) (peeked_metadata bytes) ≡ true

-- Whether a reply is not used, since it is truncated (RFC 2181 section 9). That to an update is its response code, which is not.
abbrev pub is_cut : Message → DnsResponse → Bool
is_cut m response = is_some (question_in m) && response.message.metadata.truncation

-- whether an outcome is a reply that is not used
abbrev pub is_cut_reply : Message → Outcome → Bool
is_cut_reply m (Ok response) = is_cut m response
is_cut_reply m (Err error) = false

-- a reply over a stream, which is not used either if it is truncated, too
abbrev pub whole_reply : Message → DnsResponse → Outcome
whole_reply m response = if is_cut m response then Err (net.Link fault.Truncated) else Ok response
