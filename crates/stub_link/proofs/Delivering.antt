-- What the server of a scripted link does, by states without bytes.
use Rattle.std.proofs.Common.{◌≡◌, ◌-◌, ◌<◌, ◌≤◌, ℕ, zero, suc, List, [], ◌∷◌, ◌++◌, Bool, true, false, length, reverse, map, get_or, Option, Some, None, Result, Ok, Err, refl, sym, ap, subst, ◌∙◌, inl, inr, arith}
use Rattle.std.specs.Prelude.{◌⊎◌, slice_get}
use Rattle.std.specs.List.{fold}
use Rattle.std.specs.Global.{Vec}
use Rattle.std.proofs.Math.ListN.{get_or-map}
use Rattle.std.proofs.lemmas.List.{get_or-reverse, length-map, length-reverse, map-append, reverse-append}
use Rattle.std.proofs.lemmas.Option.{slice_get_past, slice_get_read}
use Rattle.dns_messages.specs.declared.message_type.MessageType.TheVariants as kinds
use Rattle.dns_messages.specs.declared.message.Message.{Message}
use Rattle.dns_messages.specs.Grammar.{ReadsMessage}
use Rattle.dns_zone.specs.declared.transport.Transport.{Transport}
use Rattle.dns_zone.specs.declared.transport.Transport.TheVariants.{Datagram, Stream}
use Rattle.dns_zone.specs.Rows.{ZoneContent}
use Rattle.dns_zone.specs.Serving.{Serves, sent_reply, zone_after}
use Rattle.stub_link.specs.declared.link.server.Server.{Server}
use Rattle.stub_link.specs.LinkState.{LinkState, ServerReply, deliver, deliver_named, first_link_state, message_of, serve}
use Rattle.stub_link.specs.ScriptedLink.{AreRelated, IsPlace, IsRequest, IsServerOf, bytes_of}

abbrev OneWay : Type 0
OneWay = (bytes : List ℕ) (a b : Message) → ReadsMessage bytes a → ReadsMessage bytes b → a ≡ b

-- a request has a reply
pub replied : {P : Type 0} (zone : ZoneContent) (transport : Transport) (bytes : List ℕ) (after : ZoneContent) (m : Message) → IsRequest bytes m → Serves zone transport bytes None after → P
replied zone transport bytes after m r s = absurd (let wrong : kinds.Query ≡ kinds.Response = sym r.kind ∙ s.1 m r.decodes in cc wrong)

-- the zone after a request
served-zone : OneWay → (zone : ZoneContent) (transport : Transport) (bytes out : List ℕ) (after : ZoneContent) (state : LinkState) (m : Message) → zone ≡ state.zone → IsRequest bytes m → Serves zone transport bytes (Some out) after
    → after ≡ zone_after state.zone m
served-zone one_way zone transport bytes out after state m same r s =
    s.after_is ∙ (λ i. zone_after (same i) (one_way bytes s.request m s.reads r.decodes i))

-- its reply
pub served-reply : OneWay → (zone : ZoneContent) (transport : Transport) (bytes out : List ℕ) (after : ZoneContent) (state : LinkState) (m : Message) → zone ≡ state.zone → IsRequest bytes m → Serves zone transport bytes (Some out) after
    → ReadsMessage out (sent_reply state.zone transport m)
served-reply one_way zone transport bytes out after state m same r s =
    subst (ReadsMessage out) (λ i. sent_reply (same i) transport (one_way bytes s.request m s.reads r.decodes i)) s.replied.decodes

abbrev pub IsReplyIn : ℕ → List ℕ → ServerReply → Type 0
IsReplyIn limit bytes r = ReadsMessage bytes (message_of limit r)

pub delivered : OneWay → (old new : Server) (state : LinkState) (bytes out : List ℕ) (m : Message) → IsServerOf old state → IsRequest bytes m → Serves old.zone (Datagram old.limit) bytes (Some out) new.zone
    → new.limit ≡ old.limit → bytes_of new.replies ≡ bytes_of old.replies ++ out ∷ [] → IsServerOf new (deliver m state)
delivered one_way old new state bytes out m s r served limit pushed =
    let newest : reverse (bytes_of new.replies) ≡ out ∷ reverse (bytes_of old.replies) = ap reverse pushed ∙ reverse-append (bytes_of old.replies) (out ∷ []) in
    let reads : ReadsMessage out (sent_reply state.zone (Datagram state.limit) m) =
    subst (λ (n : ℕ). ReadsMessage out (sent_reply state.zone (Datagram n) m)) s.limit (served-reply one_way old.zone (Datagram old.limit) bytes out new.zone state m s.zone r served) in
    record {
      zone = served-zone one_way old.zone (Datagram old.limit) bytes out new.zone state m s.zone r served;
      limit = limit ∙ s.limit;
      replies = subst (λ (bs : List (List ℕ)). AreRelated (IsReplyIn state.limit) bs (deliver m state).replies) (sym newest) (reads, s.replies);
    }

-- a request over a stream leaves the replies as they are
pub streamed : OneWay → (old new : Server) (state : LinkState) (bytes out : List ℕ) (m : Message) → IsServerOf old state → IsRequest bytes m → Serves old.zone Stream bytes (Some out) new.zone
    → new.limit ≡ old.limit → bytes_of new.replies ≡ bytes_of old.replies → IsServerOf new (serve m state)
streamed one_way old new state bytes out m s r served limit same = record {
  zone = served-zone one_way old.zone Stream bytes out new.zone state m s.zone r served;
  limit = limit ∙ s.limit;
  replies = subst (λ (bs : List (List ℕ)). AreRelated (IsReplyIn state.limit) (reverse bs) state.replies) (sym same) s.replies;
}

-- ---- lists

-- items of related lists at a place
pub data AreAt {A B : Type 0} (R : A → B → Type 0) (x : Option A) (y : Option B) : Type 0 where
  at_none : x ≡ None → y ≡ None → AreAt R x y
  at_some : (a : A) (b : B) → x ≡ Some a → y ≡ Some b → R a b → AreAt R x y

pub related-at : {A B : Type 0} (R : A → B → Type 0) (xs : List A) (ys : List B) (n : ℕ) → AreRelated R xs ys → AreAt R (slice_get xs n) (slice_get ys n)
related-at R [] [] n h = at_none refl refl
related-at R [] (y ∷ ys) n h = absurd h
related-at R (x ∷ xs) [] n h = absurd h
related-at R (x ∷ xs) (y ∷ ys) zero h = at_some x y refl refl h.0
related-at R (x ∷ xs) (y ∷ ys) (suc n) h = related-at R xs ys n h.1

pub related-append : {A B : Type 0} (R : A → B → Type 0) (xs : List A) (ys : List B) (x : A) (y : B) → AreRelated R xs ys → R x y → AreRelated R (xs ++ x ∷ []) (ys ++ y ∷ [])
related-append R [] [] x y h r = (r, tt)
related-append R [] (z ∷ ys) x y h r = absurd h
related-append R (z ∷ xs) [] x y h r = absurd h
related-append R (z ∷ xs) (w ∷ ys) x y h r = (h.0, related-append R xs ys x y h.1 r)

-- ---- deliveries of what is named

pub place-some : (bytes : List ℕ) (m : Option Message) → IsPlace (Some bytes) m → (n : Message) × (m ≡ Some n) × IsRequest bytes n
place-some bytes None h = absurd h
place-some bytes (Some n) h = (n, refl, h)

pub place-none : (m : Option Message) → IsPlace None m → m ≡ None
place-none None h = refl
place-none (Some n) h = absurd h

-- a delivery of bytes leads from each state of the server to a state of it
abbrev pub Delivers : Server → List ℕ → Server → Type 0
Delivers old bytes new = (state : LinkState) (m : Message) → IsServerOf old state → IsRequest bytes m → IsServerOf new (deliver m state)

pub named-some : (old new : Server) (bytes : List ℕ) (state : LinkState) (m : Option Message) → Delivers old bytes new → IsServerOf old state → IsPlace (Some bytes) m → IsServerOf new (deliver_named m state)
named-some old new bytes state m d s p =
    let n = place-some bytes m p in
    subst (λ (x : Option Message). IsServerOf new (deliver_named x state)) (sym n.1) (d state n.0 s n.2)

pub named-none : (server : Server) (state : LinkState) (m : Option Message) → IsServerOf server state → IsPlace None m → IsServerOf server (deliver_named m state)
named-none server state m s p = subst (λ (x : Option Message). IsServerOf server (deliver_named x state)) (sym (place-none m p)) s

-- ---- deliveries one after another

-- from here on, deliveries of the rest lead to a state
pub record RestLeads (server : Server) (datagrams : List (List ℕ)) (goal : LinkState) : Type 0 where
  pub now : LinkState
  pub rest : List Message
  pub at : IsServerOf server now
  pub related : AreRelated IsRequest datagrams rest
  pub same : fold (λ (state : LinkState) (m : Message). deliver m state) now rest ≡ goal

pub rest-step : (old new : Server) (bytes : List ℕ) (more : List (List ℕ)) (goal : LinkState) → Delivers old bytes new → RestLeads old (bytes ∷ more) goal → RestLeads new more goal
rest-step old new bytes more goal d r = go r.rest r.related r.same
  where
    go : (rest : List Message) → AreRelated IsRequest (bytes ∷ more) rest → fold (λ (state : LinkState) (m : Message). deliver m state) r.now rest ≡ goal → RestLeads new more goal
    go [] h e = absurd h
    go (m ∷ ms) h e = record { now = deliver m r.now; rest = ms; at = d r.now m r.at h.0; related = h.1; same = e }

pub rest-end : (server : Server) (goal : LinkState) → RestLeads server [] goal → IsServerOf server goal
rest-end server goal r = go r.rest r.related r.same
  where
    go : (rest : List Message) → AreRelated IsRequest [] rest → fold (λ (state : LinkState) (m : Message). deliver m state) r.now rest ≡ goal → IsServerOf server goal
    go [] h e = subst (IsServerOf server) e r.at
    go (m ∷ ms) h e = absurd h

-- ---- lists of bytes

-- an item counted from the end
pub newest-some : {A B : Type 0} (f : A → B) (xs : List A) (n k : ℕ) (x : A) → n < length xs → k ≡ length xs - 1 - n → x ≡ get_or xs k x → Some (f x) ≡ slice_get (reverse (map f xs)) n
newest-some f xs n k x h e is =
    let len : length xs ≡ length (reverse (map f xs)) = sym (length-map xs f) ∙ sym (length-reverse (map f xs)) in
    let within : n < length (map f xs) = omega (arith, length-map xs f) in
    let place : length (map f xs) - 1 - n ≡ k = omega (arith, length-map xs f) in
    let item : get_or (reverse (map f xs)) n (f x) ≡ f x =
    get_or-reverse (map f xs) n (f x) within ∙ ap (λ (i : ℕ). get_or (map f xs) i (f x)) place ∙ get_or-map f xs k x ∙ ap f (sym is) in
    sym (slice_get_read (reverse (map f xs)) (length xs) n (f x) len h (sym item))

pub newest-none : {A B : Type 0} (f : A → B) (xs : List A) (n : ℕ) → length xs ≤ n → None ≡ slice_get (reverse (map f xs)) n
newest-none f xs n h =
    let past : length (reverse (map f xs)) ≤ n = omega (arith, length-map xs f, length-reverse (map f xs)) in
    sym (slice_get_past (reverse (map f xs)) n past)

-- a copy is appended
pub copy-appended : (old new : List (Vec ℕ)) (copy : Vec ℕ) (bytes : List ℕ) → new ≡ old ++ copy ∷ [] → copy.items ≡ bytes → map (λ (b : Vec ℕ). b.items) new ≡ map (λ (b : Vec ℕ). b.items) old ++ bytes ∷ []
copy-appended old new copy bytes e same =
    ap (map (λ (b : Vec ℕ). b.items)) e ∙ map-append (λ (b : Vec ℕ). b.items) old (copy ∷ []) ∙ ap (λ (bs : List ℕ). map (λ (b : Vec ℕ). b.items) old ++ bs ∷ []) same

-- ---- a new server

pub new-server : (server : Server) (zone : ZoneContent) (limit : ℕ) → server.zone ≡ zone → server.limit ≡ limit → server.replies.items ≡ [] → IsServerOf server (first_link_state zone limit)
new-server server zone limit same within none = record {
  zone = same;
  limit = within;
  replies = subst (λ (xs : List (Vec ℕ)). AreRelated (IsReplyIn limit) (reverse (map (λ (b : Vec ℕ). b.items) xs)) []) (sym none) tt;
}
