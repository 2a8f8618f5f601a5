use Rattle.std.proofs.Common.{◌≡◌, ◌∙◌, ℕ, List, [], Ok, sym, ap, subst}
use Rattle.std.proofs.lemmas.Result.{err_from_is_err_and}
use Rattle.dns_wire.specs.declared.error.DecodeError.{DecodeError}
use Rattle.dns_records.specs.Record.{Record}
use Rattle.dns_messages.specs.declared.header.Header.{Header}
use Rattle.dns_messages.specs.declared.header.HeaderCounts.{HeaderCounts}
use Rattle.dns_messages.specs.declared.query.Query.{Query}
use Rattle.dns_messages.specs.Section.{SectionKind, ReadsSection, RefusesSection}
use Rattle.dns_messages.specs.Header.{DecodesHeader, no_counts}
use Rattle.dns_messages.specs.Grammar.{ReadsQuestions, RefusesQuestions, section_kind, additional_kind, RefusesMessage, IsBareHeader, short_header, bad_questions, bad_answers, bad_authorities, bad_additionals}
use Rattle.dns_messages.proofs.BareLaws.{not_short, same_header, same_counts, empty_section, bare_message}
use Rattle.dns_messages.proofs.read.read_from.Goals as goal
use Rattle.dns_messages.proofs.read.read_from.Goals.{In_ok-header, In_ok-queries, In_ok-answers, In_ok-authorities}

-- ---- what was read, of the bytes of the message

bytes1 : (c : In_ok-header) → c.read_header.new.decoder.bytes ≡ c.args.decoder.bytes
bytes1 c = c.in_ok-header.ensures.bytes

bytes2 : (c : In_ok-queries) → c.read_queries.new.decoder.bytes ≡ c.args.decoder.bytes
bytes2 c = c.in_ok-queries.ensures.bytes ∙ c.in_ok-header.ensures.bytes

bytes3 : (c : In_ok-answers) → c.read_plain_section.new.decoder.bytes ≡ c.args.decoder.bytes
bytes3 c = c.in_ok-answers.ensures.bytes ∙ c.in_ok-queries.ensures.bytes ∙ c.in_ok-header.ensures.bytes

bytes4 : (c : In_ok-authorities) → c.read_plain_section-2.new.decoder.bytes ≡ c.args.decoder.bytes
bytes4 c = c.in_ok-authorities.ensures.bytes ∙ c.in_ok-answers.ensures.bytes ∙ c.in_ok-queries.ensures.bytes ∙ c.in_ok-header.ensures.bytes

header_read : (c : In_ok-header) → DecodesHeader c.args.decoder.bytes 0 c.in_ok-header.header 12
header_read c = c.in_ok-header.ensures.read

queries_read : (c : In_ok-header) (qs : List Query) (end : ℕ) → ReadsQuestions c.read_header.new.decoder.bytes c.read_header.new.decoder.index c.in_ok-header.header.counts.queries qs end → ReadsQuestions c.args.decoder.bytes 12 c.in_ok-header.header.counts.queries qs end
queries_read c qs end read =
    subst (λ (n : ℕ). ReadsQuestions c.args.decoder.bytes n c.in_ok-header.header.counts.queries qs end) c.in_ok-header.ensures.index (subst (λ (bs : List ℕ). ReadsQuestions bs c.read_header.new.decoder.index c.in_ok-header.header.counts.queries qs end) (bytes1 c) read)

section_read : (bytes bytes' : List ℕ) (kind : SectionKind) (place count : ℕ) (rs : List Record) (end : ℕ) → bytes ≡ bytes' → ReadsSection bytes kind place count rs end → ReadsSection bytes' kind place count rs end
section_read bytes bytes' kind place count rs end same read = subst (λ (bs : List ℕ). ReadsSection bs kind place count rs end) same read

section_refused : (bytes bytes' : List ℕ) (kind : SectionKind) (place count : ℕ) (error : DecodeError) → bytes ≡ bytes' → RefusesSection bytes kind place count error → RefusesSection bytes' kind place count error
section_refused bytes bytes' kind place count error same refused = subst (λ (bs : List ℕ). RefusesSection bs kind place count error) same refused

-- ---- refusals

pub returns-in_err-header-clause-refused : goal.returns-in_err-header-clause-refused
returns-in_err-header-clause-refused c =
    let p = err_from_is_err_and c.from_residual.result c.from_residual.ensures.1 in
    let few = c.in_err-header.ensures.short in
    rw (p.1, p.2) (λ other. subst (λ (e : DecodeError). RefusesMessage c.args.decoder.bytes e) (sym few.0) (short_header few.1))

pub returns-in_err-queries-clause-refused : goal.returns-in_err-queries-clause-refused
returns-in_err-queries-clause-refused c =
    let at = goal.at.returns-in_err-queries-clause-refused c in
    let p = err_from_is_err_and c.from_residual-in_err-queries.result c.from_residual-in_err-queries.ensures.1 in
    let h : Header = c.in_ok-header.header in
    let error : DecodeError = c.in_err-queries.field-0.0 in
    let here : RefusesQuestions c.args.decoder.bytes c.read_header.new.decoder.index h.counts.queries error → RefusesQuestions c.args.decoder.bytes 12 h.counts.queries error = subst (λ (n : ℕ). RefusesQuestions c.args.decoder.bytes n h.counts.queries error) c.in_ok-header.ensures.index in
    rw (p.1, p.2) (λ other. bad_questions h (header_read at.In_ok-header)
    (here (subst (λ (bs : List ℕ). RefusesQuestions bs c.read_header.new.decoder.index h.counts.queries error) (bytes1 at.In_ok-header) (c.in_err-queries.ensures.refused other))))

pub returns-in_err-answers-clause-refused : goal.returns-in_err-answers-clause-refused
returns-in_err-answers-clause-refused c =
    let at = goal.at.returns-in_err-answers-clause-refused c in
    let p = err_from_is_err_and c.from_residual-in_err-answers.result c.from_residual-in_err-answers.ensures.1 in
    let h : Header = c.in_ok-header.header in
    let qs : List Query = c.in_ok-queries.queries in
    let end : ℕ = c.read_queries.new.decoder.index in
    rw (p.1, p.2) (λ other. bad_answers h qs end (header_read at.In_ok-header) (queries_read at.In_ok-header qs end c.in_ok-queries.ensures.read)
    (section_refused _ _ (section_kind h) end h.counts.answers c.in_err-answers.field-0.0 (bytes2 at.In_ok-queries) (c.in_err-answers.ensures.refused other)))

pub returns-in_err-authorities-clause-refused : goal.returns-in_err-authorities-clause-refused
returns-in_err-authorities-clause-refused c =
    let at = goal.at.returns-in_err-authorities-clause-refused c in
    let p = err_from_is_err_and c.from_residual-in_err-authorities.result c.from_residual-in_err-authorities.ensures.1 in
    let h : Header = c.in_ok-header.header in
    let qs : List Query = c.in_ok-queries.queries in
    let an : List Record = c.in_ok-answers.answers in
    let end2 : ℕ = c.read_queries.new.decoder.index in
    let end3 : ℕ = c.read_plain_section.new.decoder.index in
    rw (p.1, p.2) (λ other. bad_authorities h qs an end2 end3 (header_read at.In_ok-header) (queries_read at.In_ok-header qs end2 c.in_ok-queries.ensures.read)
    (section_read _ _ (section_kind h) end2 h.counts.answers an end3 (bytes2 at.In_ok-queries) c.in_ok-answers.ensures.read)
    (section_refused _ _ (section_kind h) end3 h.counts.authorities c.in_err-authorities.field-0.0 (bytes3 at.In_ok-answers) (c.in_err-authorities.ensures.refused other)))

pub returns-in_err-read-clause-refused : goal.returns-in_err-read-clause-refused
returns-in_err-read-clause-refused c =
    let at = goal.at.returns-in_err-read-clause-refused c in
    let p = err_from_is_err_and c.from_residual-in_err-read.result c.from_residual-in_err-read.ensures.1 in
    let h : Header = c.in_ok-header.header in
    let qs : List Query = c.in_ok-queries.queries in
    let an : List Record = c.in_ok-answers.answers in
    let au : List Record = c.in_ok-authorities.authorities in
    let end2 : ℕ = c.read_queries.new.decoder.index in
    let end3 : ℕ = c.read_plain_section.new.decoder.index in
    let end4 : ℕ = c.read_plain_section-2.new.decoder.index in
    rw (p.1, p.2) (λ other. bad_additionals h qs an au end2 end3 end4 (header_read at.In_ok-header) (queries_read at.In_ok-header qs end2 c.in_ok-queries.ensures.read)
    (section_read _ _ (section_kind h) end2 h.counts.answers an end3 (bytes2 at.In_ok-queries) c.in_ok-answers.ensures.read)
    (section_read _ _ (section_kind h) end3 h.counts.authorities au end4 (bytes3 at.In_ok-answers) c.in_ok-authorities.ensures.read)
    (section_refused _ _ (additional_kind h) end4 h.counts.additionals c.in_err-read.field-0.0 (bytes4 at.In_ok-authorities) (c.in_err-read.ensures.refused other)))

-- ---- a bare header

header_same : (c : In_ok-header) (bare : Header) → IsBareHeader c.args.decoder.bytes bare → c.in_ok-header.header ≡ bare
header_same c bare is = same_header c.args.decoder.bytes c.in_ok-header.header bare (header_read c) is

no_entries : (c : In_ok-header) (bare : Header) → IsBareHeader c.args.decoder.bytes bare → c.in_ok-header.header.counts ≡ no_counts
no_entries c bare is = same_counts c.args.decoder.bytes c.in_ok-header.header bare (header_read c) is

pub returns-in_err-header-clause-decided : goal.returns-in_err-header-clause-decided
returns-in_err-header-clause-decided c = λ bare is.
    absurd (not_short c.args.decoder.bytes bare is c.in_err-header.ensures.short.1)

pub returns-in_err-queries-clause-decided : goal.returns-in_err-queries-clause-decided
returns-in_err-queries-clause-decided c = λ bare is.
    let at = (goal.at.returns-in_err-queries-clause-decided c).In_ok-header in
    let never = c.in_err-queries.ensures.decided (ap (λ (k : HeaderCounts). k.queries) (no_entries at bare is)) in
    absurd (cc never)

pub returns-in_err-answers-clause-decided : goal.returns-in_err-answers-clause-decided
returns-in_err-answers-clause-decided c = λ bare is.
    let at = (goal.at.returns-in_err-answers-clause-decided c).In_ok-header in
    let never = c.in_err-answers.ensures.decided (ap (λ (k : HeaderCounts). k.answers) (no_entries at bare is)) in
    absurd (cc never)

pub returns-in_err-authorities-clause-decided : goal.returns-in_err-authorities-clause-decided
returns-in_err-authorities-clause-decided c = λ bare is.
    let at = (goal.at.returns-in_err-authorities-clause-decided c).In_ok-header in
    let never = c.in_err-authorities.ensures.decided (ap (λ (k : HeaderCounts). k.authorities) (no_entries at bare is)) in
    absurd (cc never)

pub returns-in_err-read-clause-decided : goal.returns-in_err-read-clause-decided
returns-in_err-read-clause-decided c = λ bare is.
    let at = (goal.at.returns-in_err-read-clause-decided c).In_ok-header in
    let never = (c.in_err-read.ensures.decided (ap (λ (k : HeaderCounts). k.additionals) (no_entries at bare is))).0 in
    absurd (cc never)

pub returns-clause-decided : goal.returns-clause-decided
returns-clause-decided c = λ bare is.
    let at = (goal.at.returns-clause-decided c).In_ok-header in
    let none = no_entries at bare is in
    let queries : c.in_ok-queries.queries ≡ [] = cc (c.in_ok-queries.ensures.decided (ap (λ (k : HeaderCounts). k.queries) none)) in
    let answers : c.in_ok-answers.answers ≡ [] = cc (c.in_ok-answers.ensures.decided (ap (λ (k : HeaderCounts). k.answers) none)) in
    let authorities : c.in_ok-authorities.authorities ≡ [] = cc (c.in_ok-authorities.ensures.decided (ap (λ (k : HeaderCounts). k.authorities) none)) in
    let last : c.read.new.self ≡ empty_section = (c.in_ok-read.ensures.decided (ap (λ (k : HeaderCounts). k.additionals) none)).1 ∙ c.new-last.ensures in
    ap Ok (bare_message c.extended.result c.in_ok-queries.queries c.in_ok-answers.answers c.in_ok-authorities.authorities c.read.new.self c.in_ok-header.header bare c.extended.ensures queries answers authorities last (header_same at bare is))
