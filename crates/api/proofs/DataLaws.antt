-- Why a text is no record data, from why its tokens are none.
use Rattle.std.proofs.Common.{◌≡◌, ◌<◌, ℕ, false, List, [], ◌∷◌, length, Ok, Err, Some, Result, IfOk, IfErr, refl, sym, subst, arith}
use Rattle.std.specs.Prelude.{IsUtf8}
use Rattle.dns_wire.specs.codes.RecordType.{type_number}
use Rattle.dns_wire.specs.declared.codes.record_type.RecordType.{RecordType}
use Rattle.dns_data.specs.declared.error.RDataParseError.{RDataParseError}
use Rattle.dns_data.specs.declared.error.RDataParseError.TheVariants.{UnsupportedRecordType}
use Rattle.dns_data.specs.declared.rdata.RData.{RData}
use Rattle.dns_data.specs.declared.rdata.RData.TheVariants as of
use Rattle.dns_data.specs.rdata.{RefusesText}
use Rattle.dns_names.specs.Name.{DomainName}
use Rattle.dns_text.specs.Lexer.{Lexeme}
use Rattle.api.specs.declared.buffer.refusal.Refusal.{Refusal}
use Rattle.api.specs.declared.buffer.refusal.Refusal.TheVariants as refusal
use Rattle.api.specs.messages.Data.{AreBytes, AreNoData, IsData, IsDataText, IsOpaque, IsRefused, IsUnlexed, IsUnread, IsUnwritten, is_meta_type, no_data, none, not_data, not_in_bytes, not_lexed}
use Rattle.api.specs.messages.Tokens.{AreTokensOf}

-- no octets
pub no_octets : (bytes : List ℕ) → length bytes ≡ 0 → AreNoData bytes
no_octets [] e = none refl
no_octets (b ∷ bytes) e = absurd (omega (arith, e))

-- no opaque data of bytes that were found
pub unfilled : (zone : DomainName) (kind : RecordType) (tokens : List Lexeme) (bytes : List ℕ) (result : Result RData Refusal) → AreBytes zone kind tokens bytes
    → IfErr result (λ reason. (reason ≡ refusal.Data) × AreNoData bytes) → IfErr result (IsUnwritten zone kind tokens)
unfilled zone kind tokens bytes (Ok d) are not = tt
unfilled zone kind tokens bytes (Err reason) are not =
    subst (λ (r : Refusal). IsUnwritten zone kind tokens r) (sym not.0) (no_data bytes are not.1)

pub filled : (zone : DomainName) (kind : RecordType) (tokens : List Lexeme) (bytes : List ℕ) (result : Result RData Refusal) → is_meta_type (type_number kind) ≡ false
    → AreBytes zone kind tokens bytes → IfOk result (λ d. (0 < length bytes) × (d ≡ of.Unknown kind bytes)) → IfOk result (IsOpaque zone kind tokens)
filled zone kind tokens bytes (Ok d) stored are found = record { stored = stored; bytes = bytes; are = are; some = found.0; data_is = found.1 }
filled zone kind tokens bytes (Err reason) stored are found = tt

-- no opaque data
unwritten_as : (zone : DomainName) (kind : RecordType) (tokens : List Lexeme) (reason : Refusal)
    → RefusesText (Some zone) kind tokens UnsupportedRecordType → IsUnwritten zone kind tokens reason → IsUnread zone kind tokens reason
unwritten_as zone kind tokens refusal.Data fields not = not_in_bytes fields not
unwritten_as zone kind tokens refusal.Memory fields not = tt
unwritten_as zone kind tokens refusal.NoReply fields not = not
unwritten_as zone kind tokens refusal.TooSmall fields not = not
unwritten_as zone kind tokens refusal.NullHandle fields not = not
unwritten_as zone kind tokens refusal.Transport fields not = not
unwritten_as zone kind tokens refusal.Limit fields not = not
unwritten_as zone kind tokens refusal.Name fields not = not
unwritten_as zone kind tokens refusal.Zone fields not = not
unwritten_as zone kind tokens refusal.Message fields not = not
unwritten_as zone kind tokens refusal.TooLong fields not = not
unwritten_as zone kind tokens refusal.Update fields not = not
unwritten_as zone kind tokens refusal.Item fields not = not
unwritten_as zone kind tokens refusal.Encoding fields not = not

pub unwritten : (zone : DomainName) (kind : RecordType) (tokens : List Lexeme) (error : RDataParseError) (result : Result RData Refusal)
    → error ≡ UnsupportedRecordType → RefusesText (Some zone) kind tokens error → IfErr result (IsUnwritten zone kind tokens)
    → IfErr result (IsUnread zone kind tokens)
unwritten zone kind tokens error (Ok d) is fields not = tt
unwritten zone kind tokens error (Err reason) is fields not =
    unwritten_as zone kind tokens reason (subst (λ (e : RDataParseError). RefusesText (Some zone) kind tokens e) is fields) not

-- no tokens
pub unlexed : (zone : DomainName) (kind : RecordType) (text : List ℕ) (reason : Refusal) → IsUnlexed text reason
    → IsRefused zone kind text reason
unlexed zone kind text refusal.Data not = not_lexed not
unlexed zone kind text refusal.Memory not = tt
unlexed zone kind text refusal.NoReply not = absurd not
unlexed zone kind text refusal.TooSmall not = absurd not
unlexed zone kind text refusal.NullHandle not = absurd not
unlexed zone kind text refusal.Transport not = absurd not
unlexed zone kind text refusal.Limit not = absurd not
unlexed zone kind text refusal.Name not = absurd not
unlexed zone kind text refusal.Zone not = absurd not
unlexed zone kind text refusal.Message not = absurd not
unlexed zone kind text refusal.TooLong not = absurd not
unlexed zone kind text refusal.Update not = absurd not
unlexed zone kind text refusal.Item not = absurd not
unlexed zone kind text refusal.Encoding not = absurd not

-- no data
unread_as : (zone : DomainName) (kind : RecordType) (text : List ℕ) (tokens : List Lexeme) (reason : Refusal) → AreTokensOf text tokens
    → IsUnread zone kind tokens reason → IsRefused zone kind text reason
unread_as zone kind text tokens refusal.Data are not = not_data tokens are not
unread_as zone kind text tokens refusal.Memory are not = tt
unread_as zone kind text tokens refusal.NoReply are not = absurd not
unread_as zone kind text tokens refusal.TooSmall are not = absurd not
unread_as zone kind text tokens refusal.NullHandle are not = absurd not
unread_as zone kind text tokens refusal.Transport are not = absurd not
unread_as zone kind text tokens refusal.Limit are not = absurd not
unread_as zone kind text tokens refusal.Name are not = absurd not
unread_as zone kind text tokens refusal.Zone are not = absurd not
unread_as zone kind text tokens refusal.Message are not = absurd not
unread_as zone kind text tokens refusal.TooLong are not = absurd not
unread_as zone kind text tokens refusal.Update are not = absurd not
unread_as zone kind text tokens refusal.Item are not = absurd not
unread_as zone kind text tokens refusal.Encoding are not = absurd not

pub unread : (zone : DomainName) (kind : RecordType) (text : List ℕ) (tokens : List Lexeme) (result : Result RData Refusal)
    → AreTokensOf text tokens → IfErr result (IsUnread zone kind tokens) → IfErr result (IsRefused zone kind text)
unread zone kind text tokens (Ok d) are not = tt
unread zone kind text tokens (Err reason) are not = unread_as zone kind text tokens reason are not

-- data
pub data_read : (zone : DomainName) (kind : RecordType) (text : List ℕ) (tokens : List Lexeme) (result : Result RData Refusal)
    → IsUtf8 text → AreTokensOf text tokens → IfOk result (IsData zone kind tokens) → IfOk result (IsDataText zone kind text)
data_read zone kind text tokens (Ok d) utf8 are read = record { utf8 = utf8; tokens = tokens; are_tokens = are; is_data = read }
data_read zone kind text tokens (Err reason) utf8 are read = tt
