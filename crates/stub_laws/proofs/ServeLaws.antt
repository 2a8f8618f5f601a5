-- The server keeps a history: what it serves, delivers and replies.
use Rattle.std.proofs.Common.{◌≡◌, ℕ, ◌&&◌, ◌++◌, Bool, true, false, cond, List, [], ◌∷◌, refl, sym, subst, ◌∙◌, arith}
use Rattle.std.specs.List.{AllByRecursion}
use Rattle.std.proofs.lemmas.Bool.{true≢false}
use Rattle.std.proofs.lemmas.List.Elements.{All-push}
use Rattle.dns_names.specs.Name.{DomainName}
use Rattle.dns_records.specs.Rows.{Rows}
use Rattle.dns_messages.specs.Sound.{IsSound, is_update_code}
use Rattle.dns_messages.specs.declared.message.Message.{Message}
use Rattle.dns_messages.specs.declared.op_code.OpCode.{OpCode}
use Rattle.dns_messages.specs.declared.op_code.OpCode.TheVariants as ops
use Rattle.dns_messages.specs.declared.response_code.ResponseCode.{ResponseCode}
use Rattle.dns_messages.specs.declared.response_code.ResponseCode.TheVariants.{NoError}
use Rattle.dns_updates.specs.Change.{update_change}
use Rattle.dns_updates.specs.Code.{update_code}
use Rattle.dns_zone.specs.Rows.{IsZone, ZoneContent}
use Rattle.dns_zone.specs.Serving.{reply_by_code, zone_after, zone_by_code, zone_by_op}
use Rattle.stub_link.specs.LinkState.{LinkState, Version, deliver, is_applied, is_no_error, serve}
use Rattle.stub_laws.specs.history.Answered.{zone_with}
use Rattle.stub_laws.specs.history.Faithful.{HasHistory, IsCurrent, IsMadeBy, KeepsStanding}
use Rattle.stub_laws.specs.history.Stands.{StandAt}
use Rattle.stub_laws.proofs.StandLaws.{stand-still}

-- ---- lists

pub each-weaker : {X : Type 0} (P Q : X → Type 0) → ((x : X) → P x → Q x) → (xs : List X) → AllByRecursion P xs → AllByRecursion Q xs
each-weaker P Q f [] h = tt
each-weaker P Q f (x ∷ xs) h = (f x h.0, each-weaker P Q f xs h.1)

pub each-push : {X : Type 0} (P : X → Type 0) (xs : List X) (x : X) → AllByRecursion P xs → P x → AllByRecursion P (xs ++ x ∷ [])
each-push P [] x h p = (p, tt)
each-push P (y ∷ ys) x h p = (h.0, each-push P ys x h.1 p)

-- ---- a request changes the zone or leaves it

pub record Served (zone after : ZoneContent) (applied : Bool) : Type 0 where
  pub changed : applied ≡ true → IsZone after
  pub same : applied ≡ false → after ≡ zone
  pub origin_is : after.origin ≡ zone.origin

-- an update that is applied leads from zone to zone
abbrev pub UpdatesKeepZones : Type 0
UpdatesKeepZones =
    (zone : ZoneContent) (m : Message) → IsZone zone → IsSound m → update_code zone.origin zone.rows m ≡ NoError
    → IsZone (record zone { rows = update_change zone.origin zone.rows m })

module _ (keep : UpdatesKeepZones) (zone : ZoneContent) (good : IsZone zone) (m : Message) (sound : m.metadata.op_code ≡ ops.Update → IsSound m) where
  by-code : m.metadata.op_code ≡ ops.Update → (code : ResponseCode) → update_code zone.origin zone.rows m ≡ code
      → Served zone (zone_by_code zone m code) (is_no_error code)
  by-code u NoError e = record {
    changed = λ h. keep zone m good (sound u) e;
    same = λ h. absurd (true≢false h);
    origin_is = refl;
  }
  by-code u other e = record { changed = λ h. absurd (true≢false (sym h)); same = λ h. refl; origin_is = refl }

  by-op : (op : OpCode) → m.metadata.op_code ≡ op
      → Served zone (zone_by_op zone m op) (is_update_code op && is_no_error (reply_by_code zone m op).metadata.response_code)
  by-op ops.Update u = by-code u (update_code zone.origin zone.rows m) refl
  by-op other u = record { changed = λ h. absurd (true≢false (sym h)); same = λ h. refl; origin_is = refl }

  pub served : Served zone (zone_after zone m) (is_applied zone m)
  served = by-op m.metadata.op_code refl

-- ---- histories

-- the current rows stand
pub current-stands : (history : List Version) (moment : ℕ) (rows : Rows) → IsCurrent history moment rows → StandAt history moment rows
current-stands history moment rows c = record {
  before = c.before;
  since = c.since;
  after = [];
  split = c.split;
  begun = c.begun;
  lasts = tt;
}

abbrev pub with_version : LinkState → ZoneContent → Bool → LinkState
with_version state after applied = record state {
  zone = after;
  history = cond applied (state.history ++ record { moment = state.moment; rows = after.rows } ∷ []) state.history;
}

module _ (origin : DomainName) (state : LinkState) (has : HasHistory origin state) where
  version-stands : (after : ZoneContent) (applied : Bool) → KeepsStanding state (with_version state after applied)
  version-stands after true = λ moment rows past stand.
      stand-still state.history (record { moment = state.moment; rows = after.rows } ∷ []) moment rows stand past
  version-stands after false = λ moment rows past stand. stand

  version-has : (after : ZoneContent) (applied : Bool) → Served state.zone after applied → HasHistory origin (with_version state after applied)
  version-has after true s = record {
    zone = s.changed refl;
    origin_is = s.origin_is ∙ has.origin_is;
    versions = All-push (λ (v : Version). IsZone (zone_with origin v.rows)) state.history (record { moment = state.moment; rows = after.rows }) has.versions
        (subst (λ (o : DomainName). IsZone (zone_with o after.rows)) (s.origin_is ∙ has.origin_is) (s.changed refl));
    current = record { before = state.history; since = state.moment; split = refl; begun = omega arith };
    replies = each-weaker (IsMadeBy origin state.history state.moment)
        (IsMadeBy origin (state.history ++ record { moment = state.moment; rows = after.rows } ∷ []) state.moment)
        (λ r made. record { origin_is = made.origin_is; stand = version-stands after true r.moment r.zone.rows made.past made.stand; past = made.past })
        state.replies has.replies;
  }
  version-has after false s =
      subst (λ (z : ZoneContent). HasHistory origin (record state { zone = z })) (sym (s.same refl)) has

module _ (keep : UpdatesKeepZones) (origin : DomainName) (m : Message) (sound : m.metadata.op_code ≡ ops.Update → IsSound m) (state : LinkState)
    (has : HasHistory origin state) where
  pub serve-has : HasHistory origin (serve m state)
  serve-has = version-has origin state has (zone_after state.zone m) (is_applied state.zone m) (served keep state.zone has.zone m sound)

  pub serve-stands : KeepsStanding state (serve m state)
  serve-stands = version-stands origin state has (zone_after state.zone m) (is_applied state.zone m)

  -- a reply is made by the rows as they are
  pub deliver-has : HasHistory origin (deliver m state)
  deliver-has = record {
    zone = serve-has.zone;
    origin_is = serve-has.origin_is;
    versions = serve-has.versions;
    current = serve-has.current;
    replies = (
      record {
        origin_is = has.origin_is;
        stand = serve-stands state.moment state.zone.rows (omega arith) (current-stands state.history state.moment state.zone.rows has.current);
        past = omega arith;
      },
      serve-has.replies,
    );
  }
