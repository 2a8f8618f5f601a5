-- Sections of a message, as they are lent.
use Rattle.std.proofs.Common.{◌≡◌, ℕ, ◌+◌, ◌<◌, List, [], ◌∷◌, Some, None, sym, subst, arith}
use Rattle.dns_wire.specs.Decodable.{Follow}
use Rattle.dns_wire.specs.declared.error.DecodeError.{DecodeError}
use Rattle.dns_messages.specs.declared.query.Query.{Query}
use Rattle.dns_messages.specs.Grammar.{ReadsQuestion, RefusesQuestion}
use Rattle.dns_messages.specs.internal.Questions.{question_same, question_not_refused}
use Rattle.dns_message_bytes.specs.declared.view.record_view.RecordView.{RecordView}
use Rattle.dns_message_bytes.specs.declared.view.record_views.RecordViews.{RecordViews}
use Rattle.dns_message_bytes.specs.declared.view.query_view.QueryView.{QueryView}
use Rattle.dns_message_bytes.specs.declared.view.query_views.QueryViews.{QueryViews}
use Rattle.dns_message_bytes.specs.view.RecordView.{RawRecord, ReadsRaw, RefusesRaw, IsRecordOf}
use Rattle.dns_message_bytes.specs.view.RecordViews.{HasRecords, LendsFirst}
use Rattle.dns_message_bytes.specs.view.QueryView.{IsQueryOf}
use Rattle.dns_message_bytes.specs.view.QueryViews.{HasQueries, LendsFirstQuery}
use Rattle.dns_message_bytes.proofs.RawRecordLaws.{raw_same, raw_not_refused}

-- ---- records

pub record_lent : (old new : RecordViews) (view : RecordView) (r : RawRecord) (rs : List RawRecord) → 0 < old.left → ReadsRaw old.decoder.bytes old.decoder.index r new.decoder.index → IsRecordOf view r → new.decoder.bytes ≡ old.decoder.bytes → new.left + 1 ≡ old.left
    → HasRecords old rs → LendsFirst rs (Some view) new
record_lent old new view r [] some reads is same left has = absurd (omega (arith, some, has.1.count_is))
record_lent old new view r (x ∷ rs) some reads is same left has =
    let bytes = old.decoder.bytes in
    let one = raw_same bytes old.decoder.index r x new.decoder.index has.1.records.0 reads has.1.records.1 in
    let follow = subst (λ (n : ℕ). Follow (ReadsRaw bytes) n rs has.0) (sym one.1) has.1.records.2 in (
      subst (IsRecordOf view) one.0 is,
      (
        has.0,
        record {
          records = subst (λ (bs : List ℕ). Follow (ReadsRaw bs) new.decoder.index rs has.0) (sym same) follow;
          count_is = omega (arith, left, has.1.count_is);
        },
      ),
    )

pub no_record_lent : (it : RecordViews) (rs : List RawRecord) → it.left ≡ 0 → HasRecords it rs → LendsFirst rs None it
no_record_lent it [] none has = has
no_record_lent it (r ∷ rs) none has = absurd (omega (arith, none, has.1.count_is))

pub record_not_refused : (old new : RecordViews) (error : DecodeError) (rs : List RawRecord) → 0 < old.left → RefusesRaw old.decoder.bytes old.decoder.index error → HasRecords old rs → LendsFirst rs None new
record_not_refused old new error [] some refused has = absurd (omega (arith, some, has.1.count_is))
record_not_refused old new error (r ∷ rs) some refused has = absurd (raw_not_refused old.decoder.bytes old.decoder.index r has.1.records.0 error has.1.records.1 refused)

-- ---- questions

pub query_lent : (old new : QueryViews) (view : QueryView) (q : Query) (qs : List Query) → 0 < old.left → ReadsQuestion old.decoder.bytes old.decoder.index q new.decoder.index → IsQueryOf view q → new.decoder.bytes ≡ old.decoder.bytes → new.left + 1 ≡ old.left
    → HasQueries old qs → LendsFirstQuery qs (Some view) new
query_lent old new view q [] some reads is same left has = absurd (omega (arith, some, has.1.count_is))
query_lent old new view q (x ∷ qs) some reads is same left has =
    let bytes = old.decoder.bytes in
    let one = question_same bytes old.decoder.index q x new.decoder.index has.1.queries.0 reads has.1.queries.1 in
    let follow = subst (λ (n : ℕ). Follow (ReadsQuestion bytes) n qs has.0) (sym one.1) has.1.queries.2 in (
      subst (IsQueryOf view) one.0 is,
      (
        has.0,
        record {
          queries = subst (λ (bs : List ℕ). Follow (ReadsQuestion bs) new.decoder.index qs has.0) (sym same) follow;
          count_is = omega (arith, left, has.1.count_is);
        },
      ),
    )

pub no_query_lent : (it : QueryViews) (qs : List Query) → it.left ≡ 0 → HasQueries it qs → LendsFirstQuery qs None it
no_query_lent it [] none has = has
no_query_lent it (q ∷ qs) none has = absurd (omega (arith, none, has.1.count_is))

pub query_not_refused : (old new : QueryViews) (error : DecodeError) (qs : List Query) → 0 < old.left → RefusesQuestion old.decoder.bytes old.decoder.index error → HasQueries old qs → LendsFirstQuery qs None new
query_not_refused old new error [] some refused has = absurd (omega (arith, some, has.1.count_is))
query_not_refused old new error (q ∷ qs) some refused has = absurd (question_not_refused old.decoder.bytes old.decoder.index q has.1.queries.0 error has.1.queries.1 refused)
