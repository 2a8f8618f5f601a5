-- Items that follow one another until the data ends.
use Rattle.std.proofs.Common.{◌≡◌, ℕ, ◌<◌, ◌≤◌, List, [], ◌∷◌, ◌++◌, flat_map, refl, sym, ap, subst, ◌∙◌, append_assoc, arith}
use Rattle.std.specs.List.{AllByRecursion}
use Rattle.std.proofs.lemmas.List.{append-nil}
use Rattle.dns_wire.specs.Encodable.{Piece, PiecesAt}
use Rattle.dns_wire.specs.declared.name_encoding.NameEncoding.TheVariants.{Uncompressed}
use Rattle.dns_wire.proofs.PieceLaws.{pieces_at-join, pieces_at-split}
use Rattle.dns_data.specs.Wire.{ItemsUpTo, no_more_items, one_more_item, RefusesItems, no_item_there, past_item}

-- at most one item is found at a place, up to one end
abbrev pub IsUnambiguous : {Item : Type 0} → (ℕ → Item → ℕ → Type 0) → Type 0
IsUnambiguous {Item} ItemAt = (place : ℕ) (a b : Item) (end end' : ℕ) → ItemAt place a end → ItemAt place b end' → (a ≡ b) × (end ≡ end')

module _ {Item : Type 0} (ItemAt : ℕ → Item → ℕ → Type 0) where
  pub items_same : IsUnambiguous ItemAt → {data_end place end end' : ℕ} {xs ys : List Item} → ItemsUpTo ItemAt data_end place xs end → ItemsUpTo ItemAt data_end place ys end' → (xs ≡ ys) × (end ≡ end')
  items_same same (no_more_items stop) (no_more_items stop') = (refl, refl)
  items_same same (no_more_items stop) (one_more_item less there more) = absurd (omega arith)
  items_same same (one_more_item less there more) (no_more_items stop) = absurd (omega arith)
  items_same same {data_end} {place} {end} {end'} (one_more_item {middle = m} {item = x} {items = xs} less there more) (one_more_item {middle = m'} {item = y} {items = ys} less' there' more') =
      let one = same place x y m m' there there' in
      let rest = items_same same more (subst (λ (n : ℕ). ItemsUpTo ItemAt data_end n ys end') (sym one.1) more') in
      (ap (λ (z : Item). z ∷ xs) one.0 ∙ ap (λ (zs : List Item). y ∷ zs) rest.0, rest.1)

  pub items_not_refused : IsUnambiguous ItemAt → {data_end place end : ℕ} {xs : List Item} → ItemsUpTo ItemAt data_end place xs end → RefusesItems ItemAt data_end place → ⊥
  items_not_refused same (no_more_items stop) (no_item_there less none) = omega arith
  items_not_refused same (no_more_items stop) (past_item less there more) = omega arith
  items_not_refused same (one_more_item {middle = m} {item = x} less there more) (no_item_there less' none) = none x m there
  items_not_refused same {data_end} {place} (one_more_item {middle = m} {item = x} less there more) (past_item {middle = m'} {item = y} less' there' more') =
      items_not_refused same more (subst (λ (n : ℕ). RefusesItems ItemAt data_end n) (sym (same place x y m m' there there').1) more')

  -- without an item, the data has ended
  pub no_item-ended : {data_end place end : ℕ} → ItemsUpTo ItemAt data_end place [] end → data_end ≤ place
  no_item-ended (no_more_items stop) = stop

-- ---- items that are read one after another

module _ {Item : Type 0} (ItemAt : ℕ → Item → ℕ → Type 0) (data_end : ℕ) where
  -- What was read so far from a start leads to a place: what is still read from there completes the items, and what is
  -- refused there is refused.
  pub record ReadsOn (start : ℕ) (done : List Item) (place : ℕ) : Type 0 where
    pub onward : start ≤ place
    pub completes : (items : List Item) (end : ℕ) → ItemsUpTo ItemAt data_end place items end → ItemsUpTo ItemAt data_end start (done ++ items) end
    pub refuses : RefusesItems ItemAt data_end place → RefusesItems ItemAt data_end start

  pub reads_on-start : (start : ℕ) → ReadsOn start [] start
  reads_on-start start = record { onward = omega arith; completes = λ items end h. h; refuses = λ h. h }

  pub reads_on-next : (start place middle : ℕ) (done : List Item) (item : Item) → ReadsOn start done place → place < data_end → ItemAt place item middle → place ≤ middle → ReadsOn start (done ++ item ∷ []) middle
  reads_on-next start place middle done item so_far less there ahead = record {
    onward = omega (arith, so_far.onward, ahead);
    completes = λ items end h. subst (λ (xs : List Item). ItemsUpTo ItemAt data_end start xs end) (sym (append_assoc done (item ∷ []) items)) (so_far.completes (item ∷ items) end (one_more_item less there h));
    refuses = λ h. so_far.refuses (past_item less there h);
  }

  pub reads_on-end : (start place : ℕ) (done : List Item) → ReadsOn start done place → data_end ≤ place → ItemsUpTo ItemAt data_end start done place
  reads_on-end start place done so_far ended = subst (λ (xs : List Item). ItemsUpTo ItemAt data_end start xs place) (append-nil done) (so_far.completes [] place (no_more_items ended))

-- ---- items that are pieces

module _ {Item : Type 0} (bytes : List ℕ) (pieces : Item → List Piece) (P : Item → Type 0) where
  abbrev pub PieceItem : ℕ → Item → ℕ → Type 0
  PieceItem place item end = PiecesAt Uncompressed bytes place (pieces item) end × P item

  pub items-pieces : {data_end place end : ℕ} {xs : List Item} → ItemsUpTo PieceItem data_end place xs end → PiecesAt Uncompressed bytes place (flat_map pieces xs) end × AllByRecursion P xs
  items-pieces (no_more_items stop) = (refl, tt)
  items-pieces {place = place} {end = end} (one_more_item {middle = m} {item = x} {items = xs} less there more) =
      let rest = items-pieces more in
      (pieces_at-join Uncompressed bytes place m end (pieces x) (flat_map pieces xs) there.0 rest.0, (there.1, rest.1))

  pub pieces-onward : ((place : ℕ) (x : Item) (end : ℕ) → PiecesAt Uncompressed bytes place (pieces x) end → place < end) → (place end : ℕ) (xs : List Item) → PiecesAt Uncompressed bytes place (flat_map pieces xs) end → place ≤ end
  pieces-onward some place end [] h = omega (arith, h)
  pieces-onward some place end (x ∷ xs) h =
      let split = pieces_at-split Uncompressed bytes place end (pieces x) (flat_map pieces xs) h in
      omega (arith, some place x split.0 split.1, pieces-onward some split.0 end xs split.2)

  pub pieces-items : ((place : ℕ) (x : Item) (end : ℕ) → PiecesAt Uncompressed bytes place (pieces x) end → place < end) → (place end : ℕ) (xs : List Item) → PiecesAt Uncompressed bytes place (flat_map pieces xs) end → AllByRecursion P xs → ItemsUpTo PieceItem end place xs end
  pieces-items some place end [] h each = subst (λ (n : ℕ). ItemsUpTo PieceItem end n [] end) (sym h) (no_more_items (omega arith))
  pieces-items some place end (x ∷ xs) h each =
      let split = pieces_at-split Uncompressed bytes place end (pieces x) (flat_map pieces xs) h in
      let less : place < end = omega (arith, some place x split.0 split.1, pieces-onward some split.0 end xs split.2) in
      one_more_item less (split.1, each.0) (pieces-items some split.0 end xs split.2 each.1)
