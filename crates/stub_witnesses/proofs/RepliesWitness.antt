-- What the claims by the versions up to a reply exclude: at 10 an update replaces the address of a name. If it is delivered after the reply
-- to a lookup at 10, the new address is fresh by the versions up to the end of the event, but not by those up to the reply.
use Rattle.std.proofs.Common.{◌≡◌, ℕ, true, List, [], ◌∷◌, Contains, refl, sym, ap, subst, ◌∙◌, inl, inr, codes, arith}
use Rattle.std.specs.FinMap as rows_map
use Rattle.std.proofs.lemmas.List.Elements.{All-cons, All-contains, All-nil, Contains-append_right}
use Rattle.dns_wire.specs.declared.codes.dns_class.DNSClass.TheVariants as classes
use Rattle.dns_wire.specs.declared.codes.record_type.RecordType.TheVariants as types
use Rattle.dns_names.specs.Name.{DomainName}
use Rattle.dns_data.specs.declared.rdata.RData.{RData}
use Rattle.dns_data.specs.declared.rdata.RData.TheVariants as of
use Rattle.dns_records.specs.Record.{Record}
use Rattle.dns_records.specs.Rows.{Rows, key, rows_at}
use Rattle.dns_records.specs.declared.row.Row.{Row}
use Rattle.dns_messages.specs.declared.query.Query.{Query}
use Rattle.dns_zone.proofs.RowLaws.{key_total}
use Rattle.stub_cache.specs.Ttl.{TtlConfigContent, default_bounds, plain_config}
use Rattle.stub_link.specs.LinkState.{Version}
use Rattle.stub_laws.specs.history.Stands.IsReached.{here}
use Rattle.stub_laws.proofs.StandLaws.{contains-head}
use Rattle.stub_run.specs.Headline.{IsFreshBy}
use Rattle.stub_witnesses.proofs.LocalWitness.{first_byte, local_byte}

-- ---- the zone, before and after the update

abbrev host : DomainName
host = record { is_fqdn = true; labels = codes "a" ∷ codes "t" ∷ [] }

abbrev address : ℕ → RData
address last = of.A (record { 0 = record { octets = 10 ∷ 0 ∷ 0 ∷ last ∷ [] } })

abbrev row : ℕ → Row
row last = record { ttl = 60; rdata = address last }

abbrev rows : ℕ → Rows
rows last = rows_map.from_entries ((key host.labels types.A, row last ∷ []) ∷ [])

addresses : (last : ℕ) → rows_at (rows last) host.labels types.A ≡ row last ∷ []
addresses last = simp (rows_map.get-insert {X = List Row} key_total)

abbrev before : Version
before = record { moment = 0; rows = rows 1 }

abbrev after : Version
after = record { moment = 10; rows = rows 2 }

abbrev up_to_the_reply : List Version
up_to_the_reply = before ∷ []

abbrev up_to_the_end : List Version
up_to_the_end = before ∷ after ∷ []

-- ---- a lookup at 10 that returns the new address

abbrev q : Query
q = record { name = host; query_type = types.A; query_class = classes.IN }

abbrev new_address : Record
new_address = record { name = host; dns_class = classes.IN; ttl = 60; rdata = address 2 }

abbrev ttls : TtlConfigContent
ttls = plain_config default_bounds

-- by the versions up to the end of the event it is fresh
late_is_fresh : IsFreshBy ttls up_to_the_end q 10 new_address
late_is_fresh = inl (
  record {
    full = refl;
    moment = 10;
    rows = rows 2;
    row = row 2;
    stand = record { before = before ∷ []; since = 10; after = []; split = refl; begun = omega arith; lasts = tt };
    past = omega arith;
    holds = subst (λ (rs : List Row). Contains rs (row 2)) (sym (addresses 2)) (contains-head (row 2) []);
    same_data = refl;
    lasts = omega arith;
  },
  here host refl,
)

-- ---- by the versions up to the reply it is not

abbrev last_of : List ℕ → ℕ
last_of (a ∷ (b ∷ (c ∷ (d ∷ bytes)))) = d
last_of bytes = 0

abbrev last_byte : RData → ℕ
last_byte (of.A a) = last_of a.0.octets
last_byte other = 0

abbrev HasNot : Version → Type 0
HasNot version = (r : Row) → Contains (rows_at version.rows host.labels types.A) r → r.rdata ≡ address 2 → ⊥

has-not : HasNot before
has-not = λ r c is.
    let only : row 1 ≡ r =
    All-contains (λ (x : Row). row 1 ≡ x) (row 1 ∷ []) r (All-cons (λ (x : Row). row 1 ≡ x) (row 1) [] refl (All-nil (λ (x : Row). row 1 ≡ x)))
    (subst (λ (rs : List Row). Contains rs r) (addresses 1) c) in
    let clash : ◌≡◌ {A = ℕ} 1 2 = ap last_byte (ap (λ (x : Row). x.rdata) only ∙ is) in
    omega (arith, clash)

pub late_is_refused : IsFreshBy ttls up_to_the_reply q 10 new_address → ⊥
late_is_refused (inl (fresh, reached)) =
    All-contains HasNot up_to_the_reply (record { moment = fresh.stand.since; rows = fresh.rows }) (All-cons HasNot before [] has-not (All-nil HasNot))
    (subst (λ (vs : List Version). Contains vs (record { moment = fresh.stand.since; rows = fresh.rows })) (sym fresh.stand.split)
    (Contains-append_right fresh.stand.before (record { moment = fresh.stand.since; rows = fresh.rows } ∷ fresh.stand.after) _
    (contains-head (record { moment = fresh.stand.since; rows = fresh.rows }) fresh.stand.after)))
    fresh.row fresh.holds fresh.same_data
late_is_refused (inr local) =
    let first : first_byte local.whole.rdata ≡ 127 = local_byte local.question local.whole local.special in
    let clash : ◌≡◌ {A = ℕ} 10 127 = ap (λ (x : Record). first_byte x.rdata) local.same ∙ first in
    omega (arith, clash)
