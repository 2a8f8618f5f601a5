use Rattle.std.proofs.Common.{◌≡◌, ℕ, List, refl, subst, ◌∙◌}
use Rattle.std.proofs.lemmas.Result.{err_from_is_err_and}
use Rattle.dns_message_bytes.specs.view.MessageView.{no_header, no_queries, no_answers, no_authorities, no_additionals}
use Rattle.dns_message_bytes.specs.view.RecordViews.{RefusesRecords}
use Rattle.dns_messages.specs.Grammar.{RefusesQuestions}
use Rattle.dns_message_bytes.proofs.MessageViewLaws.{queries_here, records_here, has_queries, has_records}
use Rattle.dns_message_bytes.proofs.view.message_view.MessageView.read.Goals as goal
use Rattle.dns_message_bytes.proofs.view.message_view.MessageView.read.Goals.{In-Some, In_ok-pass_queries, In_ok-pass_records, In_ok-pass_records-2}

-- ---- the bytes of the message

bytes1 : (c : In-Some) → c.read_header.new.decoder.bytes ≡ c.args.decoder.bytes
bytes1 c = c.read_header.ensures.bytes

bytes2 : (c : In_ok-pass_queries) → c.pass_queries.new.decoder.bytes ≡ c.args.decoder.bytes
bytes2 c = c.in_ok-pass_queries.ensures.bytes ∙ c.read_header.ensures.bytes

bytes3 : (c : In_ok-pass_records) → c.pass_records.new.decoder.bytes ≡ c.args.decoder.bytes
bytes3 c = c.in_ok-pass_records.ensures.bytes ∙ c.in_ok-pass_queries.ensures.bytes ∙ c.read_header.ensures.bytes

bytes4 : (c : In_ok-pass_records-2) → c.pass_records-2.new.decoder.bytes ≡ c.args.decoder.bytes
bytes4 c = c.in_ok-pass_records-2.ensures.bytes ∙ c.in_ok-pass_records.ensures.bytes ∙ c.in_ok-pass_queries.ensures.bytes ∙ c.read_header.ensures.bytes

-- ---- refusals

pub returns-in_default-clause-refused : goal.returns-in_default-clause-refused
returns-in_default-clause-refused c = no_header (c.in_default.ensures.none refl)

pub returns-in_err-pass_queries-clause-refused : goal.returns-in_err-pass_queries-clause-refused
returns-in_err-pass_queries-clause-refused c =
    let p = err_from_is_err_and c.from_residual.result c.from_residual.ensures.1 in
    let at = (goal.at.returns-in_err-pass_queries-clause-refused c).In-Some in
    let bytes = c.args.decoder.bytes in
    let d1 = c.read_header.new.decoder in
    let h = c.in-Some.header in
    let error = c.in_err-pass_queries.field-0.0 in
    rw (p.1, p.2) (no_queries h c.in-Some.ensures.read
    (subst (λ (n : ℕ). RefusesQuestions bytes n h.counts.queries error) c.in-Some.ensures.index
    (subst (λ (bs : List ℕ). RefusesQuestions bs d1.index h.counts.queries error) (bytes1 at) c.in_err-pass_queries.ensures.refused)))

pub returns-in_err-pass_records-clause-refused : goal.returns-in_err-pass_records-clause-refused
returns-in_err-pass_records-clause-refused c =
    let p = err_from_is_err_and c.from_residual-in_err-pass_records.result c.from_residual-in_err-pass_records.ensures.1 in
    let at = goal.at.returns-in_err-pass_records-clause-refused c in
    let bytes = c.args.decoder.bytes in
    let d1 = c.read_header.new.decoder in
    let d2 = c.pass_queries.new.decoder in
    let h = c.in-Some.header in
    let qs = c.in_ok-pass_queries.ensures.read in
    let error = c.in_err-pass_records.field-0.0 in
    rw (p.1, p.2) (no_answers h qs.0 d2.index c.in-Some.ensures.read
    (queries_here bytes d1 h.counts.queries qs.0 d2.index (bytes1 at.In-Some) c.in-Some.ensures.index qs.1)
    (subst (λ (bs : List ℕ). RefusesRecords bs d2.index h.counts.answers error) (bytes2 at.In_ok-pass_queries) c.in_err-pass_records.ensures.refused))

pub returns-in_err-pass_records-2-clause-refused : goal.returns-in_err-pass_records-2-clause-refused
returns-in_err-pass_records-2-clause-refused c =
    let p = err_from_is_err_and c.from_residual-in_err-pass_records-2.result c.from_residual-in_err-pass_records-2.ensures.1 in
    let at = goal.at.returns-in_err-pass_records-2-clause-refused c in
    let bytes = c.args.decoder.bytes in
    let d1 = c.read_header.new.decoder in
    let d2 = c.pass_queries.new.decoder in
    let d3 = c.pass_records.new.decoder in
    let h = c.in-Some.header in
    let qs = c.in_ok-pass_queries.ensures.read in
    let an = c.in_ok-pass_records.ensures.read in
    let error = c.in_err-pass_records-2.field-0.0 in
    rw (p.1, p.2) (no_authorities h qs.0 an.0 d2.index d3.index c.in-Some.ensures.read
    (queries_here bytes d1 h.counts.queries qs.0 d2.index (bytes1 at.In-Some) c.in-Some.ensures.index qs.1)
    (records_here bytes d2 h.counts.answers an.0 d3.index (bytes2 at.In_ok-pass_queries) an.1)
    (subst (λ (bs : List ℕ). RefusesRecords bs d3.index h.counts.authorities error) (bytes3 at.In_ok-pass_records) c.in_err-pass_records-2.ensures.refused))

pub returns-in_err-pass_records-3-clause-refused : goal.returns-in_err-pass_records-3-clause-refused
returns-in_err-pass_records-3-clause-refused c =
    let p = err_from_is_err_and c.from_residual-in_err-pass_records-3.result c.from_residual-in_err-pass_records-3.ensures.1 in
    let at = goal.at.returns-in_err-pass_records-3-clause-refused c in
    let bytes = c.args.decoder.bytes in
    let d1 = c.read_header.new.decoder in
    let d2 = c.pass_queries.new.decoder in
    let d3 = c.pass_records.new.decoder in
    let d4 = c.pass_records-2.new.decoder in
    let h = c.in-Some.header in
    let qs = c.in_ok-pass_queries.ensures.read in
    let an = c.in_ok-pass_records.ensures.read in
    let au = c.in_ok-pass_records-2.ensures.read in
    let error = c.in_err-pass_records-3.field-0.0 in
    rw (p.1, p.2) (no_additionals h qs.0 an.0 au.0 d2.index d3.index d4.index c.in-Some.ensures.read
    (queries_here bytes d1 h.counts.queries qs.0 d2.index (bytes1 at.In-Some) c.in-Some.ensures.index qs.1)
    (records_here bytes d2 h.counts.answers an.0 d3.index (bytes2 at.In_ok-pass_queries) an.1)
    (records_here bytes d3 h.counts.authorities au.0 d4.index (bytes3 at.In_ok-pass_records) au.1)
    (subst (λ (bs : List ℕ). RefusesRecords bs d4.index h.counts.additionals error) (bytes4 at.In_ok-pass_records-2) c.in_err-pass_records-3.ensures.refused))

-- ---- what was read

pub returns-clause-read : goal.returns-clause-read
returns-clause-read c =
    let at = goal.at.returns-clause-read c in
    let bytes = c.args.decoder.bytes in
    let d1 = c.read_header.new.decoder in
    let d2 = c.pass_queries.new.decoder in
    let d3 = c.pass_records.new.decoder in
    let d4 = c.pass_records-2.new.decoder in
    let d5 = c.pass_records-3.new.decoder in
    let h = c.in-Some.header in
    let qs = c.in_ok-pass_queries.ensures.read in
    let an = c.in_ok-pass_records.ensures.read in
    let au = c.in_ok-pass_records-2.ensures.read in
    let ad = c.in_ok-pass_records-3.ensures.read in
    let last = c.in_ok-pass_records-3.ensures.bytes ∙ bytes4 at.In_ok-pass_records-2 in
    let queries = queries_here bytes d1 h.counts.queries qs.0 d2.index (bytes1 at.In-Some) c.in-Some.ensures.index qs.1 in
    let answers = records_here bytes d2 h.counts.answers an.0 d3.index (bytes2 at.In_ok-pass_queries) an.1 in
    let authorities = records_here bytes d3 h.counts.authorities au.0 d4.index (bytes3 at.In_ok-pass_records) au.1 in
    let additionals = records_here bytes d4 h.counts.additionals ad.0 d5.index (bytes4 at.In_ok-pass_records-2) ad.1 in (
      record { head = h; queries = qs.0; answers = an.0; authorities = au.0; additionals = ad.0 },
      (
        record {
          header = c.in-Some.ensures.read;
          queries_end = d2.index;
          queries = queries;
          answers_end = d3.index;
          answers = answers;
          authorities_end = d4.index;
          authorities = authorities;
          end = d5.index;
          additionals = additionals;
        },
        record {
          metadata = refl;
          queries = has_queries c.at.result d5 c.index-queries.result h.counts.queries bytes qs.0 d2.index c.at.ensures last (c.index-queries.ensures.value ∙ c.in-Some.ensures.index) queries;
          answers = has_records c.at-2.result d5 d2 c.index-answers.result h.counts.answers bytes an.0 d3.index c.at-2.ensures last c.index-answers.ensures.value answers;
          authorities = has_records c.at-3.result d5 d3 c.index-authorities.result h.counts.authorities bytes au.0 d4.index c.at-3.ensures last c.index-authorities.ensures.value authorities;
          additionals = has_records c.at-4.result d5 d4 c.index-additionals.result h.counts.additionals bytes ad.0 d5.index c.at-4.ensures last c.index-additionals.ensures.value additionals;
        },
      ),
    )
