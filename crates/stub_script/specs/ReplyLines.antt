-- The lines of a script that give replies, and those that do not.
use Rattle.std.specs.Prelude.{◌≡◌, ◌+◌, ◌++◌, if◌then◌else◌, is_some, List, [], ◌∷◌, ℕ, codes, Option, Some, None, Result, Ok, Err}
use Rattle.std.specs.Str.{bytes_eq}
use Rattle.dns_zone_file.specs.declared.types.Types.{Types}
use Rattle.update_text.specs.Words.{AreLineWords, is_blank}
use Rattle.stub_script.specs.ReplyLine.{ReplyContent, reply_of}
use Rattle.stub_script.specs.ScriptText.{after_blanks}
use Rattle.stub_script.specs.declared.reply_line.ReplyTransport.{ReplyTransport}
use Rattle.stub_script.specs.declared.reply_line.ReplyTransport.TheVariants.{Datagram, Stream}
use Rattle.stub_script.specs.declared.script_text.ScriptFault.{ScriptFault}
use Rattle.stub_script.specs.declared.script_text.ScriptFault.TheVariants.{Line}

-- ---- which lines

-- a text up to its first blank
abbrev pub first_word : List ℕ → List ℕ
first_word [] = []
first_word (c ∷ cs) = if is_blank c then [] else c ∷ first_word cs

-- how the reply of a line with this keyword is received
abbrev pub transport_named : List ℕ → Option ReplyTransport
transport_named word =
    if bytes_eq word (codes "reply") then Some Datagram
    else if bytes_eq word (codes "stream") then Some Stream
    else None

-- how the reply is received that a line gives, or none if it gives none; blanks may come before its keyword
abbrev pub transport_of : List ℕ → Option ReplyTransport
transport_of text = transport_named (first_word (after_blanks text))

-- ---- what they give

-- the reply of the words of a line, which has no link words
abbrev pub reply_of_words : Types → ℕ → ReplyTransport → List (List ℕ) → List (List ℕ) → Option ReplyContent
reply_of_words types number transport (keyword ∷ arguments) [] = reply_of types number transport arguments
reply_of_words types number transport words link = None

-- the reply of a line, if it is one of words
abbrev pub reply_of_line : Types → ℕ → ReplyTransport → Option (List (List ℕ) × List (List ℕ)) → Option ReplyContent
reply_of_line types number transport (Some line) = reply_of_words types number transport line.0 line.1
reply_of_line types number transport None = None

-- what a line with this number gives, or none if it cannot be read
abbrev pub IsReplyLine : Types → ℕ → ReplyTransport → List ℕ → Option ReplyContent → Type 0
IsReplyLine types number transport text found =
    (line : Option (List (List ℕ) × List (List ℕ))) × AreLineWords text line × (found ≡ reply_of_line types number transport line)

-- a reply before those of the lines below it
abbrev pub with_reply : ReplyContent → Result (List ReplyContent) ScriptFault → Result (List ReplyContent) ScriptFault
with_reply reply (Ok replies) = Ok (reply ∷ replies)
with_reply reply (Err fault) = Err fault

-- AreReplies types number lines found: the replies that the lines give, or the first line that is to give one and cannot be read. The
-- first line has this number.
pub data AreReplies (types : Types) : ℕ → List (List ℕ) → Result (List ReplyContent) ScriptFault → Type 0 where
  no_line : {number : ℕ} → AreReplies types number [] (Ok [])
  past_other : {number : ℕ} {text : List ℕ} {more : List (List ℕ)} {found : Result (List ReplyContent) ScriptFault}
      → transport_of text ≡ None → AreReplies types (number + 1) more found → AreReplies types number (text ∷ more) found
  past_reply : {number : ℕ} {text : List ℕ} {more : List (List ℕ)} {transport : ReplyTransport} (reply : ReplyContent)
      (found : Result (List ReplyContent) ScriptFault) → transport_of text ≡ Some transport
      → IsReplyLine types number transport text (Some reply) → AreReplies types (number + 1) more found
      → AreReplies types number (text ∷ more) (with_reply reply found)
  at_fault : {number : ℕ} {text : List ℕ} {more : List (List ℕ)} {transport : ReplyTransport} → transport_of text ≡ Some transport
      → IsReplyLine types number transport text None → AreReplies types number (text ∷ more) (Err (Line number))

-- ---- the script without them

-- a line with its end, or an empty one in the place of a reply
abbrev pub event_line : List ℕ → List ℕ
event_line text = if is_some (transport_of text) then 10 ∷ [] else text ++ 10 ∷ []

-- the text of the lines, without the replies
abbrev pub events_text : List (List ℕ) → List ℕ
events_text [] = []
events_text (text ∷ more) = event_line text ++ events_text more
