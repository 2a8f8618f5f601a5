-- A zone in which w. is an alias of h. for 20 seconds: its rows, and where aliases lead.
use Rattle.std.proofs.Common.{◌≡◌, ◌≤◌, ◌⊎◌, ◌∙◌, arith, ℕ, Bool, true, false, cond, length, suc, List, [], ◌∷◌, Contains, Option, Some, refl, sym, ap, subst, inl, inr, unwrap_or}
use Rattle.std.specs.FinMap as rows_map
use Rattle.std.specs.FinMap.Entries.{find}
use Rattle.std.specs.List.{AllByRecursion, IsDistinct}
use Rattle.std.specs.Ordering.{eq_by_cmp}
use Rattle.std.specs.Prelude.{IfSome}
use Rattle.std.proofs.lemmas.List.Elements.{All-contains, All-from_recursion}
use Rattle.dns_wire.specs.declared.codes.record_type.RecordType.TheVariants as types
use Rattle.dns_names.specs.Compare.{lower}
use Rattle.dns_names.specs.Name.{DomainName}
use Rattle.dns_data.specs.declared.rdata.RData.{RData}
use Rattle.dns_data.specs.declared.rdata.RData.TheVariants as of
use Rattle.dns_data.specs.declared.rdata.cname.CNAME.{CNAME}
use Rattle.dns_records.specs.Rows.{Key, Rows, key, key_cmp, rows_at}
use Rattle.dns_records.specs.declared.row.Row.{Row}
use Rattle.dns_zone.specs.Rows.{AreRowsAt, IsSoundRow, IsZone, ZoneContent}
use Rattle.dns_zone.proofs.RowLaws.{key_antisymmetric, key_total}
use Rattle.stub_laws.specs.answers.Standing.{IsLed}
use Rattle.stub_laws.specs.answers.Standing.IsLed.{here, by_alias, by_service}
use Rattle.stub_laws.specs.answers.Steady.{always}
use Rattle.stub_laws.specs.history.Stands.{AreSame, IsLinked}
use Rattle.stub_laws.specs.history.Stands.IsLinked.{no_link, one_link}
use Rattle.stub_laws.specs.walk.Answered.{HasShortAliases}
use Rattle.stub_laws.proofs.AnswersSteadyLaws.{only-rows}
use Rattle.stub_laws.proofs.StandLaws.{contains-none}
use Rattle.stub_witnesses.proofs.VersionsWitness.{Table, full, host, is_equal, root, row, rows_found, rows_of_table, rows_there, start}

-- ---- the zone

abbrev pub alias : DomainName
alias = full ((119 ∷ []) ∷ [])

abbrev pub alias_row : Row
alias_row = record { ttl = 20; rdata = of.CNAME (record { 0 = host }) }

abbrev pub alias_table : Table
alias_table =
    (key [] types.SOA, start ∷ []) ∷ (key host.labels types.A, row 1 ∷ []) ∷ (key alias.labels types.CNAME, alias_row ∷ []) ∷ []

abbrev pub zone : ZoneContent
zone = record { origin = root; rows = rows_of_table alias_table }

pub addresses : (owner : DomainName) → AreSame host owner → rows_at zone.rows owner.labels types.A ≡ row 1 ∷ []
addresses owner same = rows_there alias_table types.A host owner same

pub no_addresses : (owner : DomainName) → AreSame alias owner → rows_at zone.rows owner.labels types.A ≡ []
no_addresses owner same = rows_there alias_table types.A alias owner same

pub aliases : (owner : DomainName) → AreSame alias owner → rows_at zone.rows owner.labels types.CNAME ≡ alias_row ∷ []
aliases owner same = rows_there alias_table types.CNAME alias owner same

pub no_alias_at_host : (owner : DomainName) → AreSame host owner → rows_at zone.rows owner.labels types.CNAME ≡ []
no_alias_at_host owner same = rows_there alias_table types.CNAME host owner same

-- ---- tables

-- what holds of each row of a type in a table holds of each row that is found
all_step : (P : Row → Type 0) (k : Key) (e : Key × List Row) (rest : Option (List Row)) (b : Bool) → eq_by_cmp key_cmp k e.0 ≡ b
    → (e.0.1 ≡ k.1 → AllByRecursion P e.1) → AllByRecursion P (unwrap_or rest []) → AllByRecursion P (unwrap_or (cond b (Some e.1) rest) [])
all_step P k e rest true same first more =
    first (sym (ap (λ (x : Key). x.1) (key_antisymmetric k e.0 (is_equal (key_cmp k e.0) same))))
all_step P k e rest false other first more = more

pub all_found : (P : Row → Type 0) (table : Table) (labels : List (List ℕ)) (number : ℕ)
    → AllByRecursion (λ (e : Key × List Row). e.0.1 ≡ number → AllByRecursion P e.1) table
    → AllByRecursion P (unwrap_or (find key_cmp (labels, number) table) [])
all_found P [] labels number h = tt
all_found P (e ∷ table) labels number h =
    all_step P (labels, number) e (find key_cmp (labels, number) table) (eq_by_cmp key_cmp (labels, number) e.0) refl h.0
    (all_found P table labels number h.1)

-- a table of sets that a zone may have is that of a zone
each_step : (origin : DomainName) (k : Key) (e : Key × List Row) (rest : Option (List Row)) (b : Bool) → eq_by_cmp key_cmp k e.0 ≡ b
    → AreRowsAt origin e.0 e.1 → IfSome rest (AreRowsAt origin k) → IfSome (cond b (Some e.1) rest) (AreRowsAt origin k)
each_step origin k e rest true same first more =
    subst (λ (q : Key). AreRowsAt origin q e.1) (sym (key_antisymmetric k e.0 (is_equal (key_cmp k e.0) same))) first
each_step origin k e rest false other first more = more

pub each_found : (origin : DomainName) (table : Table) (k : Key) → AllByRecursion (λ (e : Key × List Row). AreRowsAt origin e.0 e.1) table
    → IfSome (find key_cmp k table) (AreRowsAt origin k)
each_found origin [] k h = tt
each_found origin (e ∷ table) k h =
    each_step origin k e (find key_cmp k table) (eq_by_cmp key_cmp k e.0) refl h.0 (each_found origin table k h.1)

-- ---- it is a zone

start_sound : IsSoundRow start
start_sound = record {
  ttl_fits = omega arith;
  rdata = record {
    sound = record {
      values = (refl, (refl, (omega arith, (omega arith, (omega arith, (omega arith, (omega arith, tt)))))));
      fields = refl;
      type_fits = omega arith;
      type_named = refl;
      fits = omega arith;
    };
    not_opt = refl;
    not_tsig = refl;
    has_data = refl;
  };
}

address_sound : IsSoundRow (row 1)
address_sound = record {
  ttl_fits = omega arith;
  rdata = record {
    sound = record { values = (refl, tt); fields = refl; type_fits = omega arith; type_named = refl; fits = omega arith };
    not_opt = refl;
    not_tsig = refl;
    has_data = refl;
  };
}

alias_sound : IsSoundRow alias_row
alias_sound = record {
  ttl_fits = omega arith;
  rdata = record {
    sound = record { values = (refl, tt); fields = refl; type_fits = omega arith; type_named = refl; fits = omega arith };
    not_opt = refl;
    not_tsig = refl;
    has_data = refl;
  };
}

start_rows : AreRowsAt root (key [] types.SOA) (start ∷ [])
unfolding IsDistinct
start_rows = record {
  inside = refl;
  filled = omega arith;
  sound = (start_sound, tt);
  of_type = (refl, tt);
  distinct = (tt, tt);
  single = λ e. refl;
  soa_at_origin = λ e. refl;
}

address_rows : AreRowsAt root (key host.labels types.A) (row 1 ∷ [])
unfolding IsDistinct
address_rows = record {
  inside = refl;
  filled = omega arith;
  sound = (address_sound, tt);
  of_type = (refl, tt);
  distinct = (tt, tt);
  single = λ e. refl;
  soa_at_origin = λ e. (let clash : ◌≡◌ {A = ℕ} 1 6 = e in absurd (omega (arith, clash)));
}

alias_rows : AreRowsAt root (key alias.labels types.CNAME) (alias_row ∷ [])
unfolding IsDistinct
alias_rows = record {
  inside = refl;
  filled = omega arith;
  sound = (alias_sound, tt);
  of_type = (refl, tt);
  distinct = (tt, tt);
  single = λ e. refl;
  soa_at_origin = λ e. (let clash : ◌≡◌ {A = ℕ} 5 6 = e in absurd (omega (arith, clash)));
}

pub is_zone : IsZone zone
is_zone = record {
  origin_fqdn = refl;
  soa = ap (λ (found : List Row). length found) (rows_there alias_table types.SOA root root refl);
  rows = λ k. subst (λ (o : Option (List Row)). IfSome o (AreRowsAt root k)) (sym (rows_map.get-from_entries key_total alias_table k))
      (each_found root alias_table k (start_rows, (address_rows, (alias_rows, tt))));
}

-- ---- where aliases lead

only_alias : (owner : List (List ℕ)) (x : Row) → Contains (rows_at zone.rows owner types.CNAME) x → alias_row ≡ x
only_alias owner x there =
    All-contains (λ (r : Row). alias_row ≡ r) (rows_at zone.rows owner types.CNAME) x
    (All-from_recursion (λ (r : Row). alias_row ≡ r) (rows_at zone.rows owner types.CNAME)
    (subst (λ (rs : List Row). AllByRecursion (λ (r : Row). alias_row ≡ r) rs) (sym (rows_found alias_table owner types.CNAME))
    (all_found (λ (r : Row). alias_row ≡ r) alias_table (lower owner) 5 (
      λ e. (let clash : ◌≡◌ {A = ℕ} 6 5 = e in absurd (omega (arith, clash))),
      (λ e. (let clash : ◌≡◌ {A = ℕ} 1 5 = e in absurd (omega (arith, clash))), (λ e. (refl, tt), tt)),
    ))))
    there

pub alias_ttl : (owner : List (List ℕ)) (x : Row) → Contains (rows_at zone.rows owner types.CNAME) x → x.ttl ≡ 20
alias_ttl owner x there = ap (λ (r : Row). r.ttl) (sym (only_alias owner x there))

abbrev pub target_of : RData → DomainName
target_of (of.CNAME c) = c.0
target_of other = root

pub to_host : (owner : List (List ℕ)) (x : Row) (target : CNAME) → Contains (rows_at zone.rows owner types.CNAME) x → x.rdata ≡ of.CNAME target
    → target.0 ≡ host
to_host owner x target there is = sym (ap target_of (ap (λ (r : Row). r.rdata) (only_alias owner x there) ∙ is))

linked_once : {from : DomainName} {links : ℕ} {to : DomainName} → IsLinked zone.rows from links to → (links ≡ 0) ⊎ ((links ≡ 1) × (to ≡ host))
linked_once no_link = inl refl
linked_once (one_link links owner x target led there is) = inr (by (linked_once led))
  where
    by : (links ≡ 0) ⊎ ((links ≡ 1) × (owner ≡ host)) → (suc links ≡ 1) × (target.0 ≡ host)
    by (inl none) = (ap suc none, to_host owner.labels x target there is)
    by (inr one) =
        absurd (contains-none x (subst (λ (rs : List Row). Contains rs x)
        (ap (λ (n : DomainName). rows_at zone.rows n.labels types.CNAME) one.1 ∙ no_alias_at_host host refl) there))

-- no chain of aliases passes seven links
pub short : HasShortAliases zone
short links from to linked = by (linked_once linked)
  where
    by : (links ≡ 0) ⊎ ((links ≡ 1) × (to ≡ host)) → links ≤ 7
    by (inl none) = omega (arith, none)
    by (inr one) = let e : links ≡ 1 = one.0 in omega (arith, e)

-- a question for w. leads to w. and to h.
pub led_to : {now links : ℕ} {name : DomainName} → IsLed false (always zone.rows) now types.A alias links name → AreSame alias name ⊎ AreSame host name
led_to (here name same) = inl same
led_to (by_alias links owner name moment rows x target other led s past there is same) =
    inr (ap (λ (n : DomainName). lower n.labels) (sym (to_host owner.labels x target
    (subst (λ (rs : Rows). Contains (rows_at rs owner.labels types.CNAME) x) (only-rows zone.rows moment rows s) there) is)) ∙ same)
led_to (by_service links owner name moment rows x service services many led s past there is same) = absurd (omega (arith, services))
