-- Two versions of a zone: at 10 both addresses of h. are replaced, and n. comes. What stands in them, and where questions lead.
use Rattle.std.proofs.Common.{◌≡◌, ◌≢◌, ◌≤◌, ◌⊎◌, ◌++◌, ◌||◌, ◌∙◌, arith, map, ℕ, Bool, true, false, cond, get_or, length, List, [], ◌∷◌, Contains, Option, Some, None, Err, refl, sym, ap, subst, inl, inr, unwrap_or}
use Rattle.std.proofs.Common.{Ordering, Less, Equal, Greater}
use Rattle.std.specs.FinMap as rows_map
use Rattle.std.specs.FinMap.Entries.{find, put}
use Rattle.std.specs.List.{AllByRecursion, list_any}
use Rattle.std.specs.Ordering.{eq_by_cmp, is_eq}
use Rattle.dns_wire.specs.codes.RecordType.{type_number}
use Rattle.dns_wire.specs.declared.codes.record_type.RecordType.{RecordType}
use Rattle.dns_wire.specs.declared.codes.record_type.RecordType.TheVariants as types
use Rattle.dns_names.specs.Compare.{at_or_below, lower}
use Rattle.dns_names.specs.Name.{DomainName}
use Rattle.dns_data.specs.declared.rdata.RData.{RData}
use Rattle.dns_data.specs.declared.rdata.RData.TheVariants as of
use Rattle.dns_records.specs.Record.{Record}
use Rattle.dns_records.specs.Rows.{Key, Rows, key, key_cmp, rows_at, some_row_below}
use Rattle.dns_records.specs.declared.row.Row.{Row}
use Rattle.dns_messages.specs.Response.{has_type}
use Rattle.dns_messages.specs.declared.query.Query.{Query}
use Rattle.dns_zone.proofs.RowLaws.{key_antisymmetric, key_total}
use Rattle.stub_lookup.specs.declared.error.NetError.TheVariants as net
use Rattle.stub_client.specs.Looks.{Reply}
use Rattle.stub_config.specs.Options.{default_options}
use Rattle.stub_config.specs.config.{config_of_servers}
use Rattle.stub_core.specs.ResolverBuilder.{no_hosts}
use Rattle.stub_link.specs.History.{Occasion, Past}
use Rattle.stub_link.specs.LinkState.{Version}
use Rattle.stub_link.specs.declared.link.script.Script.TheVariants as script
use Rattle.stub_laws.specs.answers.Standing.{HasRows, HaveStood, IsLed, IsWholeSet}
use Rattle.stub_laws.specs.answers.Standing.HasRows.{no_more, of_other_type, of_row}
use Rattle.stub_laws.specs.answers.Standing.HaveStood.{as_loopback, as_set}
use Rattle.stub_laws.specs.answers.Standing.IsLed.{here, by_alias, by_service}
use Rattle.stub_laws.specs.history.Stands.{AreSame, BeginsNotBefore, StandAt}
use Rattle.stub_laws.proofs.StandLaws.{contains-none}
use Rattle.stub_run.specs.Headline.{WorldContent}

-- ---- the versions

abbrev pub full : List (List ℕ) → DomainName
full labels = record { is_fqdn = true; labels = labels }

abbrev pub root : DomainName
root = full []

abbrev pub host : DomainName
host = full ((104 ∷ []) ∷ [])

abbrev pub newcomer : DomainName
newcomer = full ((110 ∷ []) ∷ [])

abbrev pub address : ℕ → RData
address last = of.A (record { 0 = record { octets = 10 ∷ 0 ∷ 0 ∷ last ∷ [] } })

abbrev pub row : ℕ → Row
row last = record { ttl = 60; rdata = address last }

-- a "no" lasts for 21 seconds
abbrev pub start : Row
start = record {
  ttl = 60;
  rdata = of.SOA (record { mname = root; rname = root; serial = 1; refresh = 4; retry = 3; expire = 2; minimum = 21 });
}

abbrev pub Table : Type 0
Table = List (Key × List Row)

abbrev pub table_one : Table
table_one = (key [] types.SOA, start ∷ []) ∷ (key host.labels types.A, row 1 ∷ row 2 ∷ []) ∷ []

abbrev pub table_two : Table
table_two =
    (key [] types.SOA, start ∷ []) ∷ (key host.labels types.A, row 3 ∷ row 4 ∷ [])
    ∷ (key newcomer.labels types.A, row 5 ∷ []) ∷ []

abbrev pub rows_of_table : Table → Rows
rows_of_table table = rows_map.from_entries table

abbrev pub one : Version
one = record { moment = 0; rows = rows_of_table table_one }

abbrev pub two : Version
two = record { moment = 10; rows = rows_of_table table_two }

abbrev pub versions : List Version
versions = one ∷ two ∷ []

-- ---- the world, and an event at 30 that sends no update

abbrev pub world : WorldContent
world = record {
  zone = record { origin = root; rows = one.rows };
  limit = 512;
  ids = 1 ∷ [];
  config = config_of_servers [];
  options = record default_options { preserve_intermediates = false };
  hosts = no_hosts;
}

abbrev pub past : Past
past = record { zone = record { origin = root; rows = two.rows }; history = versions; updates = [] }

abbrev pub occasion : ℕ → Occasion
occasion moment = record { moment = moment; script = script.Honest; update = None }

-- ---- rows

pub rows_found : (table : Table) (owner : List (List ℕ)) (kind : RecordType)
    → rows_at (rows_of_table table) owner kind ≡ unwrap_or (find key_cmp (key owner kind) table) []
rows_found table owner kind = ap (λ (o : Option (List Row)). unwrap_or o []) (rows_map.get-from_entries key_total table (key owner kind))

-- the rows of a name are those of each other spelling
pub rows_there : (table : Table) (kind : RecordType) (name owner : DomainName) → AreSame name owner
    → rows_at (rows_of_table table) owner.labels kind ≡ unwrap_or (find key_cmp (lower name.labels, type_number kind) table) []
rows_there table kind name owner same =
    subst (λ (l : List (List ℕ)). rows_at (rows_of_table table) owner.labels kind ≡ unwrap_or (find key_cmp (l, type_number kind) table) []) (sym same)
    (rows_found table owner.labels kind)

pub is_equal : (r : Ordering) → is_eq r ≡ true → r ≡ Equal
is_equal Less e = absurd (cc)
is_equal Equal e = refl
is_equal Greater e = absurd (cc)

no_type_step : (k : Key) (e : Key × List Row) (rest : Option (List Row)) (b : Bool) → eq_by_cmp key_cmp k e.0 ≡ b → e.0.1 ≢ k.1 → rest ≡ None
    → cond b (Some e.1) rest ≡ None
no_type_step k e rest true same other none = absurd (other (sym (ap (λ (x : Key). x.1) (key_antisymmetric k e.0 (is_equal (key_cmp k e.0) same)))))
no_type_step k e rest false same other none = none

-- a table without sets of a type has none at any name
pub no_type : (table : Table) (labels : List (List ℕ)) (number : ℕ) → AllByRecursion (λ (e : Key × List Row). e.0.1 ≢ number) table
    → find key_cmp (labels, number) table ≡ None
no_type [] labels number h = refl
no_type (e ∷ table) labels number h =
    no_type_step (labels, number) e (find key_cmp (labels, number) table) (eq_by_cmp key_cmp (labels, number) e.0) refl h.0
    (no_type table labels number h.1)

pub no_alias : (table : Table) (owner : List (List ℕ)) → AllByRecursion (λ (e : Key × List Row). e.0.1 ≢ 5) table
    → rows_at (rows_of_table table) owner types.CNAME ≡ []
no_alias table owner h = rows_found table owner types.CNAME ∙ ap (λ (o : Option (List Row)). unwrap_or o []) (no_type table (lower owner) 5 h)

-- the entries of the rows of a table, in the order of their keys
abbrev pub entries_of : Table → Table
entries_of [] = []
entries_of (e ∷ table) = put key_cmp e.0 e.1 (entries_of table)

no_entries : (table : Table) → length table ≡ 0 → table ≡ []
no_entries [] e = refl
no_entries (x ∷ table) e = absurd (omega (arith, e))

entries_found : (table : Table) → rows_map.entries (rows_of_table table) ≡ entries_of table
entries_found [] = no_entries (rows_map.entries (rows_of_table [])) (sym (rows_map.len-entries (rows_of_table [])) ∙ rows_map.len-empty key_cmp (List Row))
entries_found (e ∷ table) = rows_map.entries-insert key_total (rows_of_table table) e.0 e.1 ∙ ap (put key_cmp e.0 e.1) (entries_found table)

-- whether a name exists
pub below_found : (table : Table) (name : List (List ℕ))
    → some_row_below (rows_of_table table) name ≡ list_any (λ (e : Key × List Row). at_or_below name e.0.0) (entries_of table)
below_found table name =
    any_of_keys (at_or_below name) (rows_map.entries (rows_of_table table))
    ∙ ap (λ (es : Table). list_any (λ (e : Key × List Row). at_or_below name e.0.0) es) (entries_found table)
  where
    any_of_keys : (p : List (List ℕ) → Bool) (es : Table) → list_any (λ (k : Key). p k.0) (map (λ (e : Key × List Row). e.0) es) ≡ list_any (λ (e : Key × List Row). p e.0.0) es
    any_of_keys p [] = refl
    any_of_keys p (e ∷ es) = ap (λ (b : Bool). p e.0.0 || b) (any_of_keys p es)

-- ---- what stands

abbrev first_of : List Version → Version
first_of [] = one
first_of (version ∷ more) = version

abbrev rest_of : List Version → List Version
rest_of [] = []
rest_of (version ∷ more) = more

not_none : (more : List Version) (version : Version) (after : List Version) → [] ≡ more ++ version ∷ after → ⊥
not_none [] version after e = absurd cc
not_none (v ∷ more) version after e = absurd cc

-- rows that stand are those of the first version, up to 10, or those of the second, from 10 on
pub which : (moment : ℕ) (rows : Rows) → StandAt versions moment rows
    → ((rows ≡ one.rows) × (moment ≤ 10)) ⊎ ((rows ≡ two.rows) × (10 ≤ moment))
which moment rows s = by s.before s.after s.split s.lasts
  where
    by : (before after : List Version) → versions ≡ before ++ record { moment = s.since; rows = rows } ∷ after
        → BeginsNotBefore moment after
        → ((rows ≡ one.rows) × (moment ≤ 10)) ⊎ ((rows ≡ two.rows) × (10 ≤ moment))
    by [] after e lasts = inl (
      sym (ap (λ (l : List Version). (first_of l).rows) e),
      subst (λ (l : List Version). BeginsNotBefore moment l) (sym (ap rest_of e)) lasts,
    )
    by (b ∷ []) after e lasts =
        let since : s.since ≡ 10 = sym (ap (λ (l : List Version). (first_of (rest_of l)).moment) e) in
        inr (sym (ap (λ (l : List Version). (first_of (rest_of l)).rows) e), omega (arith, since, s.begun))
    by (b ∷ c ∷ more) after e lasts = absurd (not_none more _ after (ap (λ (l : List Version). rest_of (rest_of l)) e))

pub stand_one : (moment : ℕ) → moment ≤ 10 → StandAt versions moment one.rows
stand_one moment early = record { before = []; since = 0; after = two ∷ []; split = refl; begun = omega arith; lasts = early }

pub stand_two : (moment : ℕ) → 10 ≤ moment → StandAt versions moment two.rows
stand_two moment late = record { before = one ∷ []; since = 10; after = []; split = refl; begun = late; lasts = tt }

-- ---- where questions lead

no_alias_stands : (moment : ℕ) (rows : Rows) (owner : List (List ℕ)) → StandAt versions moment rows → rows_at rows owner types.CNAME ≡ []
no_alias_stands moment rows owner s = by (which moment rows s)
  where
    by : ((rows ≡ one.rows) × (moment ≤ 10)) ⊎ ((rows ≡ two.rows) × (10 ≤ moment)) → rows_at rows owner types.CNAME ≡ []
    by (inl first) = subst (λ (r : Rows). rows_at r owner types.CNAME ≡ []) (sym first.0) (no_alias table_one owner (omega arith, (omega arith, tt)))
    by (inr second) =
        subst (λ (r : Rows). rows_at r owner types.CNAME ≡ []) (sym second.0)
        (no_alias table_two owner (omega arith, (omega arith, (omega arith, tt))))

-- no alias ever stood, so a question for addresses leads to its own name alone
pub stays : {now links : ℕ} {from name : DomainName} → IsLed false versions now types.A from links name → AreSame from name
stays (here name same) = same
stays (by_alias links owner name moment rows row alias other led s past there is same) =
    absurd (contains-none row (subst (λ (l : List Row). Contains l row) (no_alias_stands moment rows owner.labels s) there))
stays (by_service links owner name moment rows row service services many led s past there is same) = absurd (omega (arith, services))

-- ---- what sets have

abbrev pub last_octet : RData → ℕ
last_octet (of.A a) = get_or a.0.octets 3 0
last_octet other = 0

-- records of a type have the data of all rows
pub data_of_rows : {greatest moment now : ℕ} {owner : DomainName} {kind : RecordType} {rows : List Row} {records : List Record}
    → HasRows greatest moment now owner kind rows records → AllByRecursion (λ (r : Record). has_type kind r ≡ true) records
    → map (λ (r : Record). last_octet r.rdata) records ≡ map (λ (x : Row). last_octet x.rdata) rows
data_of_rows no_more all = refl
data_of_rows (of_other_type r rows records other more) all = let never : true ≡ false = sym all.0 ∙ other in absurd cc
data_of_rows (of_row x ttl rows records same lasts more) all = ap (λ (rest : List ℕ). last_octet x.rdata ∷ rest) (data_of_rows more all.1)

-- two records are a set
pub set_of_two : {preserves : Bool} {history : List Version} {greatest now : ℕ} {q : Query} {records : List Record}
    → HaveStood preserves history greatest now q records → length records ≡ 2
    → IsWholeSet preserves history greatest now q.query_type q.name records
set_of_two (as_set records set) pair = set
set_of_two (as_loopback r local) pair = absurd (omega (arith, pair))

-- ---- replies

abbrev pub is_of_memory : Reply → Bool
is_of_memory (Err net.Memory) = true
is_of_memory reply = false
