-- What stood and what is reached, as time passes and versions are added.
use Rattle.std.proofs.Common.{◌≡◌, ℕ, ◌+◌, ◌<◌, ◌≤◌, ◌&&◌, ◌++◌, Bool, true, false, List, [], ◌∷◌, Contains, refl, sym, ap, subst, ◌∙◌, inl, inr, arith}
use Rattle.std.specs.Str.{str_eq_ignore_ascii_case, str_to_ascii_lowercase}
use Rattle.std.proofs.lemmas.Bool.{true≢false}
use Rattle.std.proofs.lemmas.List.{append_assoc}
use Rattle.std.proofs.lemmas.List.Elements.{Contains-append_right}
use Rattle.std.proofs.lemmas.Slice.Eq.{bytes_eq-Decides}
use Rattle.dns_names.specs.Compare.{lower, same_labels, same_name}
use Rattle.dns_names.specs.Name.{DomainName}
use Rattle.dns_records.specs.Record.{Record}
use Rattle.dns_records.specs.Rows.{Rows}
use Rattle.stub_link.specs.LinkState.{Version}
use Rattle.stub_laws.specs.history.Stands.{AreSame, BeginsNotBefore, HasChain, HasChainFor, IsAliasChain, IsFresh, IsFreshFor, IsLoopback, IsReached, StandAt}
use Rattle.stub_laws.specs.history.Stands.IsAliasChain.{no_alias, one_alias}
use Rattle.stub_laws.specs.history.Stands.IsReached.{here, by_alias}

-- ---- names up to ASCII case

pub both-true : (a b : Bool) → a && b ≡ true → (a ≡ true) × (b ≡ true)
both-true true b h = (refl, h)
both-true false b h = absurd (true≢false (sym h))

pub labels-lower : (a b : List (List ℕ)) → same_labels a b ≡ true → lower a ≡ lower b
labels-lower [] [] h = refl
labels-lower [] (y ∷ ys) h = absurd (true≢false (sym h))
labels-lower (x ∷ xs) [] h = absurd (true≢false (sym h))
labels-lower (x ∷ xs) (y ∷ ys) h =
    let parts = both-true (str_eq_ignore_ascii_case x y) (same_labels xs ys) h in
    let first : str_to_ascii_lowercase x ≡ str_to_ascii_lowercase y = (bytes_eq-Decides (str_to_ascii_lowercase x) (str_to_ascii_lowercase y)).0 parts.0 in
    let rest : lower xs ≡ lower ys = labels-lower xs ys parts.1 in
    λ i. first i ∷ rest i

pub names-lower : (a b : DomainName) → same_name a b ≡ true → AreSame a b
names-lower a b h = labels-lower a.labels b.labels (both-true _ (same_labels a.labels b.labels) h).1

-- ---- lists

pub contains-head : {X : Type 0} (x : X) (xs : List X) → Contains (x ∷ xs) x
contains-head x xs = (0, omega arith, refl)

pub contains-none : {X : Type 0} (x : X) → Contains [] x → ⊥
contains-none x c = let less : c.0 < 0 = c.1 in omega arith

-- ---- more versions

begins-appended : (moment : ℕ) (after more : List Version) → BeginsNotBefore moment after → BeginsNotBefore moment more → BeginsNotBefore moment (after ++ more)
begins-appended moment [] more h k = k
begins-appended moment (next ∷ after) more h k = h

pub stand-still : (history more : List Version) (moment : ℕ) (rows : Rows) → StandAt history moment rows → BeginsNotBefore moment more
    → StandAt (history ++ more) moment rows
stand-still history more moment rows s k = record {
  before = s.before;
  since = s.since;
  after = s.after ++ more;
  split = ap (λ (all : List Version). all ++ more) s.split
      ∙ append_assoc s.before (record { moment = s.since; rows = rows } ∷ s.after) more;
  begun = s.begun;
  lasts = begins-appended moment s.after more s.lasts k;
}

-- rows that stand are among the versions
pub stands-among : (history : List Version) (moment : ℕ) (rows : Rows) (s : StandAt history moment rows)
    → Contains history (record { moment = s.since; rows = rows })
stands-among history moment rows s =
    let version : Version = record { moment = s.since; rows = rows } in
    subst (λ (all : List Version). Contains all version) (sym s.split)
    (Contains-append_right s.before (version ∷ s.after) version (contains-head version s.after))

-- ---- reached names

pub reached-same : {history : List Version} {now : ℕ} {from mid : DomainName} (to : DomainName) → IsReached history now from mid → AreSame mid to
    → IsReached history now from to
reached-same to (here mid s) e = here to (s ∙ e)
reached-same to (by_alias owner mid moment rows row alias first stand past there is s) e =
    by_alias owner to moment rows row alias first stand past there is (s ∙ e)

pub reached-through : {history : List Version} {now : ℕ} {from mid to : DomainName} → IsReached history now from mid → IsReached history now mid to
    → IsReached history now from to
reached-through first (here to s) = reached-same to first s
reached-through first (by_alias owner to moment rows row alias rest stand past there is s) =
    by_alias owner to moment rows row alias (reached-through first rest) stand past there is s

pub reached-from : {history : List Version} {now : ℕ} {from to : DomainName} (other : DomainName) → AreSame from other → IsReached history now from to
    → IsReached history now other to
reached-from other e (here to s) = here to (sym e ∙ s)
reached-from other e (by_alias owner to moment rows row alias rest stand past there is s) =
    by_alias owner to moment rows row alias (reached-from other e rest) stand past there is s

pub reached-later : {history : List Version} {now : ℕ} {from to : DomainName} (later : ℕ) → now ≤ later → IsReached history now from to
    → IsReached history later from to
reached-later later less (here to s) = here to s
reached-later later less (by_alias owner to moment rows row alias rest stand past there is s) =
    by_alias owner to moment rows row alias (reached-later later less rest) stand (omega arith) there is s

-- ---- time passes

fresh-aged : (history : List Version) (greatest since now ttl : ℕ) (first : Record) → IsFresh history greatest since first → since ≤ now
    → now + ttl ≤ since + first.ttl → IsFresh history greatest now (record first { ttl = ttl })
fresh-aged history greatest since now ttl first f past lasts = record {
  full = f.full;
  moment = f.moment;
  rows = f.rows;
  row = f.row;
  stand = f.stand;
  past = omega (arith, f.past);
  holds = f.holds;
  same_data = f.same_data;
  lasts = omega (arith, f.lasts);
}

chain-from : {rows : Rows} {bound : ℕ} {from to : DomainName} {least : ℕ} (other : DomainName) → AreSame from other → IsAliasChain rows bound from least to
    → IsAliasChain rows bound other least to
chain-from other e (no_alias to s) = no_alias to (sym e ∙ s)
chain-from other e (one_alias owner to least row alias rest there is s) =
    one_alias owner to least row alias (chain-from other e rest) there is s

chain-aged : (history : List Version) (greatest since now ttl : ℕ) (p q : DomainName) (first : Record) → HasChain history greatest since p first
    → AreSame p q → since ≤ now → now + ttl ≤ since + first.ttl → HasChain history greatest now q (record first { ttl = ttl })
chain-aged history greatest since now ttl p q first f same past lasts = record {
  full = f.full;
  moment = f.moment;
  rows = f.rows;
  row = f.row;
  least = f.least;
  stand = f.stand;
  past = omega (arith, f.past);
  chain = chain-from q same f.chain;
  holds = f.holds;
  same_data = f.same_data;
  lasts = omega (arith, f.lasts);
}

pub loopback-aged : (history : List Version) (since now ttl : ℕ) (p q : DomainName) (first : Record) → IsLoopback history since p first
    → AreSame p q → since ≤ now → ttl ≤ first.ttl → IsLoopback history now q (record first { ttl = ttl })
loopback-aged history since now ttl p q first l same past less = record {
  question = l.question;
  reached = reached-from q same (reached-later now past l.reached);
  whole = l.whole;
  special = l.special;
  same = ap (λ (x : Record). record x { ttl = ttl }) l.same;
  lasts = omega (arith, l.lasts);
}

-- a record that is left of one that could be returned before
pub fresh-left : (history : List Version) (greatest since now : ℕ) (p q : DomainName) (first r : Record) → r ≡ record first { ttl = r.ttl }
    → AreSame p q → since ≤ now → now + r.ttl ≤ since + first.ttl → IsFreshFor history greatest since p first → IsFreshFor history greatest now q r
fresh-left history greatest since now p q first r is same past lasts h =
    subst (IsFreshFor history greatest now q) (sym is) (by h)
  where
    by : IsFreshFor history greatest since p first → IsFreshFor history greatest now q (record first { ttl = r.ttl })
    by (inl h) = inl (fresh-aged history greatest since now r.ttl first h.0 past lasts, reached-from q same (reached-later now past h.1))
    by (inr l) = inr (loopback-aged history since now r.ttl p q first l same past (omega arith))

pub chain-left : (history : List Version) (greatest since now : ℕ) (p q : DomainName) (first r : Record) → r ≡ record first { ttl = r.ttl }
    → AreSame p q → since ≤ now → now + r.ttl ≤ since + first.ttl → HasChainFor history greatest since p first → HasChainFor history greatest now q r
chain-left history greatest since now p q first r is same past lasts h =
    subst (HasChainFor history greatest now q) (sym is) (by h)
  where
    by : HasChainFor history greatest since p first → HasChainFor history greatest now q (record first { ttl = r.ttl })
    by (inl h) = inl (chain-aged history greatest since now r.ttl p q first h same past lasts)
    by (inr l) = inr (loopback-aged history since now r.ttl p q first l same past (omega arith))

-- ---- a name from which another one is reached

pub loopback-through : (history : List Version) (now : ℕ) (from mid : DomainName) (r : Record) → IsReached history now from mid
    → IsLoopback history now mid r → IsLoopback history now from r
loopback-through history now from mid r first l = record {
  question = l.question;
  reached = reached-through first l.reached;
  whole = l.whole;
  special = l.special;
  same = l.same;
  lasts = l.lasts;
}

pub fresh-through : (history : List Version) (greatest now : ℕ) (from mid : DomainName) (r : Record) → IsReached history now from mid
    → IsFreshFor history greatest now mid r → IsFreshFor history greatest now from r
fresh-through history greatest now from mid r first (inl h) = inl (h.0, reached-through first h.1)
fresh-through history greatest now from mid r first (inr l) = inr (loopback-through history now from mid r first l)
