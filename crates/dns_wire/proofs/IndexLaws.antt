-- The hash table of suffixes: the chain of a bucket leads to the first suffix with these bytes.
use Rattle.std.proofs.Common.{◌≡◌, ◌≢◌, ℕ, zero, suc, ◌+◌, Bool, true, false, cond, List, [], ◌∷◌, ◌++◌, ◌<◌, ◌≤◌, length, take, set, replicate, get_or, slice_get, slice_range, Option, Some, None, ⊎_elim, refl, sym, ap, subst, ◌∙◌, arith, add-one, length-append}
use Rattle.std.specs.Option.{option_or, option_map}
use Rattle.std.specs.List.{AllByRecursion}
use Rattle.std.specs.Str.{bytes_eq}
use Rattle.std.proofs.lemmas.Bool.{false_from_ne_true}
use Rattle.std.proofs.lemmas.Bool.Decides.{eqb_tells}
use Rattle.std.proofs.lemmas.List.{length-map, take-append-le, get_or-set_same, get_or-set_other}
use Rattle.std.proofs.lemmas.Option.{slice_get-map}
use Rattle.std.proofs.lemmas.Slice.Eq.{bytes_eq-Decides}
use borrow.Author.Count.{below_more}
use Rattle.dns_wire.specs.Suffixes.{Suffix, place_of}
use Rattle.dns_wire.specs.internal.Suffixes.{suffix_of, suffixes_of, bucket_of, AreStoredFrom, IsLink, IsChained, IsIndexed, IsStore}
use Rattle.dns_wire.specs.declared.suffixes.Entry.{Entry}
use Rattle.dns_wire.proofs.StoredLaws.{stored-later, suffixes_of-append, suffixes_of-push}

-- ---- elements

get-append : {X : Type 0} (xs ys : List X) (i : ℕ) → i < length xs → slice_get (xs ++ ys) i ≡ slice_get xs i
get-append [] ys i lt = absurd (omega (arith, lt))
get-append (x ∷ xs) ys zero lt = refl
get-append (x ∷ xs) ys (suc i) lt = get-append xs ys i (omega (arith, lt))

get-set_below : {X : Type 0} (xs : List X) (here i : ℕ) (y : X) → i < here → slice_get (set xs here y) i ≡ slice_get xs i
get-set_below [] here i y lt = refl
get-set_below (x ∷ xs) zero i y lt = absurd (omega (arith, lt))
get-set_below (x ∷ xs) (suc here) zero y lt = refl
get-set_below (x ∷ xs) (suc here) (suc i) y lt = get-set_below xs here i y (omega (arith, lt))

get-set_here : {X : Type 0} (xs : List X) (here : ℕ) (y : X) → here < length xs → slice_get (set xs here y) here ≡ Some y
get-set_here [] here y lt = absurd (omega (arith, lt))
get-set_here (x ∷ xs) zero y lt = refl
get-set_here (x ∷ xs) (suc here) y lt = get-set_here xs here y (omega (arith, lt))

pub get-suffix : (stored : List ℕ) (es : List Entry) (i : ℕ) (e : Entry) → slice_get es i ≡ Some e → slice_get (suffixes_of stored es) i ≡ Some (suffix_of stored e)
get-suffix stored es i e found = slice_get-map (suffix_of stored) es i ∙ ap (option_map (suffix_of stored)) found

-- ---- the first suffix with these bytes, among one more

pub place_of-one_more : (suffixes : List Suffix) (i : ℕ) (s : Suffix) (bytes : List ℕ) → slice_get suffixes i ≡ Some s
    → place_of (take (suc i) suffixes) bytes ≡ option_or (place_of (take i suffixes) bytes) (cond (bytes_eq s.bytes bytes) (Some s.start) None)
place_of-one_more [] i s bytes found = absurd (cc)
place_of-one_more (x ∷ suffixes) zero s bytes found = let same : x ≡ s = cc in ap (λ (y : Suffix). cond (bytes_eq y.bytes bytes) (Some y.start) None) same
place_of-one_more (x ∷ suffixes) (suc i) s bytes found = at (bytes_eq x.bytes bytes) (place_of-one_more suffixes i s bytes found)
  where
    at : (b : Bool) → place_of (take (suc i) suffixes) bytes ≡ option_or (place_of (take i suffixes) bytes) (cond (bytes_eq s.bytes bytes) (Some s.start) None)
        → cond b (Some x.start) (place_of (take (suc i) suffixes) bytes) ≡ option_or (cond b (Some x.start) (place_of (take i suffixes) bytes)) (cond (bytes_eq s.bytes bytes) (Some s.start) None)
    at true more = refl
    at false more = more

-- a suffix of another bucket has other bytes
place_of-other : (suffixes : List Suffix) (i : ℕ) (s : Suffix) (bytes : List ℕ) → slice_get suffixes i ≡ Some s → bucket_of bytes ≢ bucket_of s.bytes
    → place_of (take (suc i) suffixes) bytes ≡ place_of (take i suffixes) bytes
place_of-other suffixes i s bytes found other =
    let no : bytes_eq s.bytes bytes ≡ false = false_from_ne_true (bytes_eq s.bytes bytes) (λ same. other (sym (ap bucket_of ((bytes_eq-Decides s.bytes bytes).0 same)))) in
    place_of-one_more suffixes i s bytes found ∙ rw no (or_none (place_of (take i suffixes) bytes))
  where
    or_none : (o : Option ℕ) → option_or o None ≡ o
    or_none None = refl
    or_none (Some x) = refl

-- ---- links

link-append : (suffixes more : List Suffix) (here link bucket : ℕ) → here ≤ length suffixes → IsLink suffixes here link bucket → IsLink (suffixes ++ more) here link bucket
link-append suffixes more here link bucket le k = record {
  within = k.within;
  finds = λ bytes is.
      ap (λ ss. place_of ss bytes) (take-append-le link suffixes more (omega (arith, k.within, le)))
      ∙ k.finds bytes is
      ∙ sym (ap (λ ss. place_of ss bytes) (take-append-le here suffixes more le));
  in_bucket = λ i s is found. k.in_bucket i s is (sym (get-append suffixes more i (omega (arith, is, k.within, le))) ∙ found);
}

-- the link to a suffix itself
link-last : (suffixes : List Suffix) (here : ℕ) (s : Suffix) → slice_get suffixes here ≡ Some s → IsLink suffixes (suc here) (suc here) (bucket_of s.bytes)
link-last suffixes here s found = record {
  within = omega arith;
  finds = λ bytes is. refl;
  in_bucket = λ i t is found_t.
      let here_is : here ≡ i = omega (arith, is) in
      let same : s ≡ t = cc (found, ap (λ (k : ℕ). slice_get suffixes k) here_is, found_t) in
      ap (λ (x : Suffix). bucket_of x.bytes) (sym same);
}

-- a link of another bucket passes over a suffix
link-past : (suffixes : List Suffix) (here link bucket : ℕ) (s : Suffix) → slice_get suffixes here ≡ Some s → bucket ≢ bucket_of s.bytes → IsLink suffixes here link bucket → IsLink suffixes (suc here) link bucket
link-past suffixes here link bucket s found other k = record {
  within = omega (arith, k.within);
  finds = λ bytes is. k.finds bytes is ∙ sym (place_of-other suffixes here s bytes found (λ same. other (sym is ∙ same)));
  in_bucket = k.in_bucket;
}

-- ---- the chains

pub indexed-append : (here : ℕ) (suffixes more : List Suffix) (es others : List Entry) (heads : List ℕ) → here ≤ length suffixes → here ≤ length es
    → IsIndexed here suffixes es heads → IsIndexed here (suffixes ++ more) (es ++ others) heads
indexed-append here suffixes more es others heads le le_es k = record {
  chained = λ i e s lt found found_s.
      link-append suffixes more i e.next (bucket_of s.bytes) (omega (arith, lt, le))
      (k.chained i e s lt (sym (get-append es others i (omega (arith, lt, le_es))) ∙ found) (sym (get-append suffixes more i (omega (arith, lt, le))) ∙ found_s));
  headed = λ bucket. link-append suffixes more here _ bucket le (k.headed bucket);
}

-- the chains are empty
pub indexed-none : (suffixes : List Suffix) (es : List Entry) (heads : List ℕ) → ((bucket : ℕ) → get_or heads bucket 0 ≡ 0) → IsIndexed 0 suffixes es heads
indexed-none suffixes es heads none = record {
  chained = λ i e s lt found found_s. absurd (omega (arith, lt));
  headed = λ bucket. subst (λ (link : ℕ). IsLink suffixes 0 link bucket) (sym (none bucket)) (record {
    within = omega arith;
    finds = λ bytes is. refl;
    in_bucket = λ i s is found. absurd (omega (arith, is));
  });
}

-- an entry is linked to the head of its bucket, and becomes the head
pub indexed-link : (here : ℕ) (suffixes : List Suffix) (es : List Entry) (heads : List ℕ) (e : Entry) (s : Suffix) → here < length es → bucket_of s.bytes < length heads
    → slice_get suffixes here ≡ Some s → e.next ≡ get_or heads (bucket_of s.bytes) 0
    → IsIndexed here suffixes es heads → IsIndexed (here + 1) suffixes (set es here e) (set heads (bucket_of s.bytes) (here + 1))
indexed-link here suffixes es heads e s lt room found next k = record { chained = chained; headed = headed }
  where
    chained : IsChained (here + 1) suffixes (set es here e)
    chained = λ i x t before found_x found_t.
        below_more (λ i. (x : Entry) (t : Suffix) → slice_get (set es here e) i ≡ Some x → slice_get suffixes i ≡ Some t → IsLink suffixes i x.next (bucket_of t.bytes)) here
        (λ i lt x t found_x found_t. k.chained i x t lt (sym (get-set_below es here i e lt) ∙ found_x) found_t)
        (λ x t found_x found_t.
        let same_e : e ≡ x = cc (get-set_here es here e lt, found_x) in
        let same_s : s ≡ t = cc (found, found_t) in
        subst (λ (x : Entry). IsLink suffixes here x.next (bucket_of t.bytes)) same_e
        (subst (λ (t : Suffix). IsLink suffixes here e.next (bucket_of t.bytes)) same_s
        (subst (λ (link : ℕ). IsLink suffixes here link (bucket_of s.bytes)) (sym next) (k.headed (bucket_of s.bytes)))))
        i before x t found_x found_t

    headed : (bucket : ℕ) → IsLink suffixes (here + 1) (get_or (set heads (bucket_of s.bytes) (here + 1)) bucket 0) bucket
    headed bucket =
        ⊎_elim
        (λ is.
        subst (λ (b : ℕ). IsLink suffixes (here + 1) (get_or (set heads (bucket_of s.bytes) (here + 1)) b 0) b) (sym is.1)
        (subst (λ (link : ℕ). IsLink suffixes (here + 1) link (bucket_of s.bytes)) (sym (get_or-set_same heads (bucket_of s.bytes) (here + 1) 0 room))
        (subst (λ (n : ℕ). IsLink suffixes n n (bucket_of s.bytes)) (sym (add-one here)) (link-last suffixes here s found))))
        (λ is.
        subst (λ (link : ℕ). IsLink suffixes (here + 1) link bucket) (sym (get_or-set_other heads (bucket_of s.bytes) bucket (here + 1) 0 is.1))
        (subst (λ (n : ℕ). IsLink suffixes n (get_or heads bucket 0) bucket) (sym (add-one here)) (link-past suffixes here _ bucket s found is.1 (k.headed bucket))))
        (eqb_tells bucket (bucket_of s.bytes))

-- ---- a turn of the search: the entry of a link is compared, and the search goes on at its `next`

or_or : (o : Option ℕ) (b : Bool) (x : ℕ) (found : Option ℕ) → option_or o (cond b (Some x) found) ≡ option_or (option_or o (cond b (Some x) None)) found
or_or None true x found = refl
or_or None false x found = refl
or_or (Some y) b x found = refl

pub record Turn (stored : List ℕ) (es : List Entry) (link next : ℕ) (bytes : List ℕ) (found later : Option ℕ) : Type 0 where
  pub smaller : next < link
  pub finds : option_or (place_of (take next (suffixes_of stored es)) bytes) later ≡ option_or (place_of (take link (suffixes_of stored es)) bytes) found
  pub linked : IsLink (suffixes_of stored es) next next (bucket_of bytes)

pub turn : (stored : List ℕ) (es : List Entry) (link i : ℕ) (e : Entry) (bytes : List ℕ) (found : Option ℕ) → link ≡ suc i → i < length es → slice_get es i ≡ Some e
    → IsChained (length es) (suffixes_of stored es) es → IsLink (suffixes_of stored es) link link (bucket_of bytes)
    → Turn stored es link e.next bytes found (cond (bytes_eq (slice_range stored e.start e.end) bytes) (Some e.offset) found)
turn stored es link i e bytes found is lt got chained linked =
    let got_s = get-suffix stored es i e got in
    let s = suffix_of stored e in
    let in_bucket : bucket_of s.bytes ≡ bucket_of bytes = linked.in_bucket i s is got_s in
    let k = chained i e s lt got got_s in
    record {
      smaller = omega (arith, k.within, is);
      finds =
          ap (λ (o : Option ℕ). option_or o (cond (bytes_eq s.bytes bytes) (Some s.start) found)) (k.finds bytes (sym in_bucket))
          ∙ or_or (place_of (take i (suffixes_of stored es)) bytes) (bytes_eq s.bytes bytes) s.start found
          ∙ ap (λ (o : Option ℕ). option_or o found) (sym (place_of-one_more (suffixes_of stored es) i s bytes got_s))
          ∙ ap (λ (n : ℕ). option_or (place_of (take n (suffixes_of stored es)) bytes) found) (sym is);
      linked = record {
        within = omega arith;
        finds = λ bytes is. refl;
        in_bucket = λ j t next_is got_t. k.in_bucket j t next_is got_t ∙ in_bucket;
      };
    }

-- ---- an entry with another link

pub stored-set : (place end : ℕ) (es : List Entry) (i : ℕ) (e y : Entry) → slice_get es i ≡ Some e → y.start ≡ e.start → y.end ≡ e.end → AreStoredFrom place end es → AreStoredFrom place end (set es i y)
stored-set place end [] i e y got start fin are = absurd (cc)
stored-set place end (x ∷ es) zero e y got start fin are =
    let same : x ≡ e = cc in
    let start_x : y.start ≡ x.start = start ∙ ap (λ (z : Entry). z.start) (sym same) in
    let end_x : y.end ≡ x.end = fin ∙ ap (λ (z : Entry). z.end) (sym same) in
    (omega (arith, start_x, are.0), omega (arith, start_x, end_x, are.1), subst (λ (n : ℕ). AreStoredFrom n end es) (sym end_x) are.2)
stored-set place end (x ∷ es) (suc i) e y got start fin are = (are.0, are.1, stored-set x.end end es i e y got start fin are.2)

-- ---- heads

pub get_or-replicate_zero : (n i : ℕ) → get_or {A = ℕ} (replicate n 0) i 0 ≡ 0
get_or-replicate_zero zero i = refl
get_or-replicate_zero (suc n) zero = refl
get_or-replicate_zero (suc n) (suc i) = get_or-replicate_zero n i

-- ---- the store

-- bytes that no entry has change nothing
pub store-more : (stored more : List ℕ) (es : List Entry) (heads : List ℕ) (bound : ℕ) → IsStore stored es heads bound → IsStore (stored ++ more) es heads bound
store-more stored more es heads bound k = record {
  in_order = stored-later 0 _ _ es (omega (arith, length-append stored more)) k.in_order;
  indexed = rw (suffixes_of-append 0 stored more es k.in_order) k.indexed;
  below = rw (suffixes_of-append 0 stored more es k.in_order) k.below;
}

-- a suffix more, before it is linked
pub indexed-push : (stored more : List ℕ) (es : List Entry) (heads : List ℕ) (bound : ℕ) (e : Entry) (last : ℕ) → last ≡ length es → IsStore stored es heads bound
    → e.start ≡ length stored → e.end ≡ length (stored ++ more) → IsIndexed last (suffixes_of (stored ++ more) (es ++ e ∷ [])) (es ++ e ∷ []) heads
indexed-push stored more es heads bound e last is k start fin =
    rw (is, suffixes_of-push 0 stored more es e k.in_order start fin)
    (indexed-append (length es) (suffixes_of stored es) _ es _ heads (omega (arith, length-map es (suffix_of stored))) (omega arith) k.indexed)

-- linked entries with the same suffixes
pub store-linked : (stored : List ℕ) (es linked : List Entry) (heads : List ℕ) (here bound : ℕ) → AreStoredFrom 0 (length stored) linked → suffixes_of stored linked ≡ suffixes_of stored es
    → here ≡ length linked → IsIndexed here (suffixes_of stored es) linked heads → AllByRecursion (λ s. s.start < bound) (suffixes_of stored es) → IsStore stored linked heads bound
store-linked stored es linked heads here bound in_order same all indexed below = record {
  in_order = in_order;
  indexed = rw (same, ← all) indexed;
  below = rw same below;
}
