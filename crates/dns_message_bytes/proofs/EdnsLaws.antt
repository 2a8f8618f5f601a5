-- OPT records, as they are read.
use Rattle.std.proofs.Common.{◌≡◌, ℕ, ◌+◌, ◌<◌, ◌≤◌, ◌^◌, ◌/◌, ◌%◌, List, [], ◌∷◌, ◌++◌, length, drop, max, flat_map, refl, sym, ap, subst, ◌∙◌, append_assoc, arith}
use Rattle.std.specs.Int.{w16, w32, to_be_bytes}
use Rattle.std.specs.List.{AllByRecursion}
use Rattle.dns_wire.specs.Element.{element}
use Rattle.dns_wire.specs.Reading.{at_closing}
use Rattle.dns_wire.specs.Encodable.{Plain, PiecesAt, start_position}
use Rattle.dns_wire.specs.declared.name_encoding.NameEncoding.TheVariants.{Uncompressed}
use Rattle.dns_data.specs.Field.{OptionValue, option_form}
use Rattle.dns_records.specs.Record.{Record, head_of, ReadsRecord}
use Rattle.dns_records.specs.RecordHead.{head_form}
use Rattle.dns_messages.specs.declared.edns.Edns.{Edns}
use Rattle.dns_messages.specs.Edns.{flags_of, edns_of}
use Rattle.dns_message_bytes.specs.declared.view.edns_view.EdnsView.{EdnsView}
use Rattle.dns_message_bytes.specs.view.Request.{IsSoundOption, opt_form, opt_record, ReadsOpt, IsEdnsOf}
use Rattle.dns_message_bytes.proofs.ListLaws.{same_rest, heads, behind, behind-within, plain_then}
use Rattle.dns_message_bytes.proofs.OptionLaws.{options_at, options-len}

-- ---- the parts of its encoding

-- the bytes in front of the length of the options
pub opt_split : (payload ttl : ℕ) (options more : List ℕ) → opt_form payload ttl options ++ more
    ≡ 0 ∷ (to_be_bytes w16 41 ++ (to_be_bytes w16 payload ++ (to_be_bytes w32 ttl ++ (to_be_bytes w16 (length options) ++ (options ++ more)))))
opt_split payload ttl options more =
    let T = to_be_bytes w16 41 in
    let P = to_be_bytes w16 payload in
    let L = to_be_bytes w32 ttl in
    let N = to_be_bytes w16 (length options) in
    ap (λ (xs : List ℕ). 0 ∷ xs) (append_assoc T (P ++ (L ++ (N ++ options))) more)
    ∙ ap (λ (xs : List ℕ). 0 ∷ (T ++ xs)) (append_assoc P (L ++ (N ++ options)) more)
    ∙ ap (λ (xs : List ℕ). 0 ∷ (T ++ (P ++ xs))) (append_assoc L (N ++ options) more)
    ∙ ap (λ (xs : List ℕ). 0 ∷ (T ++ (P ++ (L ++ xs)))) (append_assoc N options more)

-- what is read piece by piece
pub opt_read : (payload ttl : ℕ) (options a b c d more : List ℕ) → a ≡ 0 ∷ (to_be_bytes w16 41 ++ b) → b ≡ to_be_bytes w16 payload ++ c → c ≡ to_be_bytes w32 ttl ++ d
    → d ≡ to_be_bytes w16 (length options) ++ (options ++ more) → a ≡ opt_form payload ttl options ++ more
opt_read payload ttl options a b c d more e f g h =
    e ∙ ap (λ (xs : List ℕ). 0 ∷ (to_be_bytes w16 41 ++ xs)) (f ∙ ap (λ (xs : List ℕ). to_be_bytes w16 payload ++ xs) (g ∙ ap (λ (xs : List ℕ). to_be_bytes w32 ttl ++ xs) h))
    ∙ sym (opt_split payload ttl options more)

-- ---- what follows its front

pub past_type : (a b : List ℕ) (e : Edns) (more : List ℕ) → a ≡ 0 ∷ (to_be_bytes w16 41 ++ b) → (r : ReadsOpt a e more)
    → b ≡ to_be_bytes w16 r.payload ++ (to_be_bytes w32 r.ttl ++ (to_be_bytes w16 (length (flat_map option_form r.options)) ++ (flat_map option_form r.options ++ more)))
past_type a b e more f r =
    let whole = sym f ∙ r.there ∙ opt_split r.payload r.ttl (flat_map option_form r.options) more in
    same_rest (to_be_bytes w16 41) (to_be_bytes w16 41) b _ refl (heads 0 0 (to_be_bytes w16 41 ++ b) _ whole).1

pub past_payload : (payload : ℕ) (a b c : List ℕ) (e : Edns) (more : List ℕ) → a ≡ 0 ∷ (to_be_bytes w16 41 ++ b) → b ≡ to_be_bytes w16 payload ++ c → (r : ReadsOpt a e more)
    → c ≡ to_be_bytes w32 r.ttl ++ (to_be_bytes w16 (length (flat_map option_form r.options)) ++ (flat_map option_form r.options ++ more))
past_payload payload a b c e more f g r = same_rest (to_be_bytes w16 payload) (to_be_bytes w16 r.payload) c _ refl (sym g ∙ past_type a b e more f r)

pub past_ttl : (payload ttl : ℕ) (a b c d : List ℕ) (e : Edns) (more : List ℕ) → a ≡ 0 ∷ (to_be_bytes w16 41 ++ b) → b ≡ to_be_bytes w16 payload ++ c → c ≡ to_be_bytes w32 ttl ++ d → (r : ReadsOpt a e more)
    → d ≡ to_be_bytes w16 (length (flat_map option_form r.options)) ++ (flat_map option_form r.options ++ more)
past_ttl payload ttl a b c d e more f g h r = same_rest (to_be_bytes w32 ttl) (to_be_bytes w32 r.ttl) d _ refl (sym h ∙ past_payload payload a b c e more f g r)

pub no_payload : (a b : List ℕ) (e : Edns) (more : List ℕ) → a ≡ 0 ∷ (to_be_bytes w16 41 ++ b) → length b < 2 → ReadsOpt a e more → ⊥
no_payload a b e more f short r = omega (arith, short, ap (λ (xs : List ℕ). length xs) (past_type a b e more f r))

pub no_ttl : (payload : ℕ) (a b c : List ℕ) (e : Edns) (more : List ℕ) → a ≡ 0 ∷ (to_be_bytes w16 41 ++ b) → b ≡ to_be_bytes w16 payload ++ c → length c < 4 → ReadsOpt a e more → ⊥
no_ttl payload a b c e more f g short r = omega (arith, short, ap (λ (xs : List ℕ). length xs) (past_payload payload a b c e more f g r))

-- ---- what it says

-- The view that is made of its numbers is that of the OPT record.
pub opt_shown : (view : EdnsView) (payload ttl : ℕ) (a b c d more : List ℕ) → a ≡ 0 ∷ (to_be_bytes w16 41 ++ b) → b ≡ to_be_bytes w16 payload ++ c → c ≡ to_be_bytes w32 ttl ++ d
    → d ≡ to_be_bytes w16 (length view.options.now) ++ (view.options.now ++ more) → length view.options.now < 2 ^ 16
    → (options : List OptionValue) × (AllByRecursion IsSoundOption options × (view.options.now ≡ flat_map option_form options))
    → payload < 2 ^ 16 → ttl < 2 ^ 32 → view.rcode_high ≡ ttl / 16777216 → view.version ≡ (ttl / 65536) % 256 → view.flags ≡ flags_of (ttl % 65536) → view.max_payload ≡ max payload 512
    → (e : Edns) × (ReadsOpt a e more × IsEdnsOf view e)
opt_shown view payload ttl a b c d more e f g h len found payload_fits ttl_fits high version flags size =
    let bytes = view.options.now in
    let options = found.0 in
    let same : bytes ≡ flat_map option_form options = found.1.1 in (
      edns_of (opt_record payload ttl options),
      (
        record {
          payload = payload;
          ttl = ttl;
          options = options;
          there = opt_read payload ttl bytes a b c d more e f g h ∙ ap (λ (xs : List ℕ). opt_form payload ttl xs ++ more) same;
          payload_fits = payload_fits;
          ttl_fits = ttl_fits;
          len_fits = subst (λ (xs : List ℕ). length xs < 2 ^ 16) same len;
          sound = found.1.0;
          is = refl;
        },
        record {
          rcode_high = high;
          version = version;
          flags = flags;
          max_payload = size;
          options = same;
        },
      ),
    )

-- ---- it is a record

module _ (buffer : List ℕ) (place payload ttl : ℕ) (options : List OptionValue) (more : List ℕ) where
  abbrev O : List ℕ
  O = flat_map option_form options

  abbrev R : Record
  R = opt_record payload ttl options

  head_at : place ≤ length buffer → drop place buffer ≡ opt_form payload ttl O ++ more
      → PiecesAt Uncompressed buffer place (head_form (head_of R (length O)) payload) (place + 1 + 2 + 2 + 4 + 2)
  head_at within h =
      let parts = h ∙ opt_split payload ttl O more in
      let at = behind buffer place 1 (0 ∷ []) _ refl parts in
      let inside = behind-within buffer place 1 (0 ∷ []) _ refl within parts in
      let end = place + 1 + 2 + 2 + 4 + 2 in
      let P = Plain (to_be_bytes w16 payload) in
      let L = Plain (to_be_bytes w32 ttl) in
      let N = Plain (to_be_bytes w16 (length O)) in (
        place + 1,
        at_closing (ap element parts),
        plain_then buffer (place + 1) 2 (to_be_bytes w16 41) _ (P ∷ L ∷ N ∷ []) end refl inside at (λ h1 w1.
            plain_then buffer (place + 1 + 2) 2 (to_be_bytes w16 payload) _ (L ∷ N ∷ []) end refl w1 h1 (λ h2 w2.
            plain_then buffer (place + 1 + 2 + 2) 4 (to_be_bytes w32 ttl) _ (N ∷ []) end refl w2 h2 (λ h3 w3.
            plain_then buffer (place + 1 + 2 + 2 + 4) 2 (to_be_bytes w16 (length O)) (O ++ more) [] end refl w3 h3 (λ h4 w4. refl)))),
      )

  data_at : place ≤ length buffer → drop place buffer ≡ opt_form payload ttl O ++ more
      → (place + 1 + 2 + 2 + 4 + 2 ≤ length buffer) × (drop (place + 1 + 2 + 2 + 4 + 2) buffer ≡ O ++ more)
  data_at within h =
      let parts = h ∙ opt_split payload ttl O more in
      let a = behind buffer place 1 (0 ∷ []) _ refl parts in
      let b = behind buffer (place + 1) 2 (to_be_bytes w16 41) _ refl a in
      let c = behind buffer (place + 1 + 2) 2 (to_be_bytes w16 payload) _ refl b in
      let d = behind buffer (place + 1 + 2 + 2) 4 (to_be_bytes w32 ttl) _ refl c in
      let v = behind-within buffer place 1 (0 ∷ []) _ refl within parts in
      let w = behind-within buffer (place + 1) 2 (to_be_bytes w16 41) _ refl v a in
      let x = behind-within buffer (place + 1 + 2) 2 (to_be_bytes w16 payload) _ refl w b in
      let y = behind-within buffer (place + 1 + 2 + 2) 4 (to_be_bytes w32 ttl) _ refl x c in
      (behind-within buffer (place + 1 + 2 + 2 + 4) 2 (to_be_bytes w16 (length O)) (O ++ more) refl y d, behind buffer (place + 1 + 2 + 2 + 4) 2 (to_be_bytes w16 (length O)) (O ++ more) refl d)

  pub opt_at : payload < 2 ^ 16 → ttl < 2 ^ 32 → length O < 2 ^ 16 → AllByRecursion IsSoundOption options → place ≤ length buffer → drop place buffer ≡ opt_form payload ttl O ++ more
      → ReadsRecord buffer place R (place + 1 + 2 + 2 + 4 + 2 + length O)
  opt_at payload_fits ttl_fits len_fits sound within h =
      let at = data_at within h in
      record {
        len = length O;
        data_place = place + 1 + 2 + 2 + 4 + 2;
        head = record {
          fqdn = refl;
          type_fits = omega arith;
          type_named = refl;
          class = payload;
          class_fits = payload_fits;
          class_named = refl;
          ttl_fits = ttl_fits;
          len_fits = len_fits;
          there = head_at within h;
        };
        rdata = record {
          of_type = refl;
          sound = record {
            values = (sound, tt);
            fields = refl;
            type_fits = omega arith;
            type_named = refl;
            fits = omega (arith, options-len (record start_position { encoding = Uncompressed }) options, len_fits);
          };
          there = options_at buffer (place + 1 + 2 + 2 + 4 + 2) options more at.0 at.1;
        };
        ends = refl;
      }
