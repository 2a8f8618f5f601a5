-- Each datagram that is sent is paid with what a handler gave for a request, or without one.
use Rattle.std.proofs.Common.{◌≡◌, ◌∙◌, ◌+◌, ◌-◌, ◌*◌, ◌≤◌, ◌&&◌, ℕ, zero, suc, Bool, true, false, List, [], ◌∷◌, ◌++◌, Option, Some, None, refl, sym, ap, subst, arith}
use Rattle.std.specs.Prelude.{bytes_eq, slice_get}
use Rattle.std.specs.Global.{Vec}
use Rattle.std.specs.List.{Contains}
use Rattle.std.specs.Net.Addr.{ipv4_octets, ipv6_segments}
use Rattle.std.specs.declared.net.socket_addr.SocketAddr.{SocketAddr}
use Rattle.std.specs.declared.net.socket_addr.SocketAddr.TheVariants.{V4, V6}
use Rattle.std.proofs.lemmas.Slice.Eq.{bytes_eq-Decides}
use Rattle.dns_faults.specs.declared.delivery.Delivery.{Delivery}
use Rattle.dns_sockets.specs.Handler.{Handled, NoticeContent, Noticed, RequestContent, Took, Transferred}
use Rattle.dns_sockets.specs.Ledger.{AllPaid, Book, Earns, Weight, arrived_gain, deliveries_worth, gain, left_of, notice_gain, replies, reply_worth, requests, requests_worth}
use Rattle.dns_sockets.specs.Sent.{IsGiven, IsHandled}
use Rattle.dns_sockets.specs.Sent.IsGiven.{as_notice, as_reply}
use Rattle.dns_sockets.specs.Trace.{Act, At, By, Connection, Nowhere, Socket}
use Rattle.dns_sockets.specs.World.{Accepted, Admitted, Clocked, Closed, Read, Received, Sent, Unreceived, Waited, Woken, Written}
use Rattle.dns_sockets.specs.declared.datagrams.WaitingReply.{WaitingReply}
use Rattle.dns_sockets.specs.schedule.Schedule.{Waiting}

-- ---- what pays for an act

-- what acts bring
abbrev gains : Book → List Act → ℕ
gains b [] = 0
gains b (act ∷ acts) = b.gain act + gains b acts

left_at_most : (b : Book) (credit : ℕ) (acts : List Act) → left_of b credit acts ≤ credit + gains b acts
left_at_most b credit [] = omega arith
left_at_most b credit (act ∷ acts) = omega (arith, left_at_most b (credit - b.cost act + b.gain act) acts)

paid_at : (b : Book) (credit : ℕ) (before : List Act) (act : Act) (rest : List Act) → AllPaid b credit (before ++ act ∷ rest) → b.cost act ≤ left_of b credit before
paid_at b credit [] act rest paid = paid.0
paid_at b credit (x ∷ before) act rest paid = paid_at b (credit - b.cost x + b.gain x) before act rest paid.1

-- one of acts, which has P
record Among (P : Act → Type 0) (acts : List Act) : Type 0 where
  before : List Act
  act : Act
  rest : List Act
  acts_are : acts ≡ before ++ act ∷ rest
  holds : P act

later : (P : Act → Type 0) (x : Act) (acts : List Act) → Among P acts → Among P (x ∷ acts)
later P x acts found = record { before = x ∷ found.before; act = found.act; rest = found.rest; acts_are = ap (λ (xs : List Act). x ∷ xs) found.acts_are; holds = found.holds }

brings : (b : Book) (acts : List Act) → 1 ≤ gains b acts → Among (λ act. 1 ≤ b.gain act) acts
brings b [] some = absurd (omega (arith, some))
brings b (x ∷ acts) some = by (b.gain x) refl (λ more. brings b acts more)
  where
    by : (n : ℕ) → b.gain x ≡ n → (1 ≤ gains b acts → Among (λ act. 1 ≤ b.gain act) acts) → Among (λ act. 1 ≤ b.gain act) (x ∷ acts)
    by zero none others = later (λ act. 1 ≤ b.gain act) x acts (others (omega (arith, none, some)))
    by (suc n) is others = record { before = []; act = x; rest = acts; acts_are = refl; holds = omega (arith, is) }

-- what costs something after acts that began with nothing, is paid with one of these
pays_for : (b : Book) (before : List Act) (act : Act) (rest : List Act) → AllPaid b 0 (before ++ act ∷ rest) → 1 ≤ b.cost act → Among (λ act. 1 ≤ b.gain act) before
pays_for b before act rest paid costs = brings b before (omega (arith, costs, paid_at b 0 before act rest paid, left_at_most b 0 before))

-- ---- one datagram

-- what tells one peer from another
abbrev numbers : SocketAddr → List ℕ
numbers (V4 a) = 4 ∷ a.port ∷ ipv4_octets a.ip
numbers (V6 a) = 6 ∷ a.port ∷ a.flowinfo ∷ a.scope_id ∷ ipv6_segments a.ip

abbrev number_of : List ℕ → ℕ
number_of [] = 0
number_of (n ∷ ns) = n

abbrev rest_of : List ℕ → List ℕ
rest_of [] = []
rest_of (n ∷ ns) = ns

same_numbers : (a b : SocketAddr) → numbers a ≡ numbers b → a ≡ b
same_numbers (V4 a) (V4 b) same =
    let port : a.port ≡ b.port = ap (λ (ns : List ℕ). number_of (rest_of ns)) same in
    let octets : a.ip.octets ≡ b.ip.octets = ap (λ (ns : List ℕ). rest_of (rest_of ns)) same in
    subst (λ (n : ℕ). V4 a ≡ V4 (record { ip = b.ip; port = n })) port (subst (λ (os : List ℕ). V4 a ≡ V4 (record { ip = record { octets = os }; port = a.port })) octets refl)
same_numbers (V4 a) (V6 b) same = absurd (omega (arith, ap number_of same))
same_numbers (V6 a) (V4 b) same = absurd (omega (arith, ap number_of same))
same_numbers (V6 a) (V6 b) same =
    let port : a.port ≡ b.port = ap (λ (ns : List ℕ). number_of (rest_of ns)) same in
    let flowinfo : a.flowinfo ≡ b.flowinfo = ap (λ (ns : List ℕ). number_of (rest_of (rest_of ns))) same in
    let scope : a.scope_id ≡ b.scope_id = ap (λ (ns : List ℕ). number_of (rest_of (rest_of (rest_of ns)))) same in
    let segments : a.ip.segments ≡ b.ip.segments = ap (λ (ns : List ℕ). rest_of (rest_of (rest_of (rest_of ns)))) same in
    subst (λ (n : ℕ). V6 a ≡ V6 (record { ip = b.ip; port = n; flowinfo = b.flowinfo; scope_id = b.scope_id })) port
    (subst (λ (n : ℕ). V6 a ≡ V6 (record { ip = b.ip; port = a.port; flowinfo = n; scope_id = b.scope_id })) flowinfo
    (subst (λ (n : ℕ). V6 a ≡ V6 (record { ip = b.ip; port = a.port; flowinfo = a.flowinfo; scope_id = n })) scope
    (subst (λ (ss : List ℕ). V6 a ≡ V6 (record { ip = record { segments = ss }; port = a.port; flowinfo = a.flowinfo; scope_id = a.scope_id })) segments refl)))

abbrev one_if : Bool → ℕ
one_if true = 1
one_if false = 0

is_one : (b : Bool) → 1 ≤ one_if b → b ≡ true
is_one true some = refl
is_one false some = absurd (omega (arith, some))

both_true : (a b : Bool) → (a && b) ≡ true → (a ≡ true) × (b ≡ true)
both_true true true both = (refl, refl)
both_true true false both = absurd (cc both)
both_true false b both = absurd (cc both)

-- a datagram is the one of this peer with these bytes
abbrev is_of : SocketAddr → List ℕ → SocketAddr → List ℕ → Bool
is_of peer bytes p b = bytes_eq (numbers p) (numbers peer) && bytes_eq b bytes

-- and of the socket of this index
abbrev is_at : ℕ → SocketAddr → List ℕ → ℕ → SocketAddr → List ℕ → Bool
is_at socket peer bytes s p b = bytes_eq (s ∷ []) (socket ∷ []) && is_of peer bytes p b

of_same : (peer : SocketAddr) (bytes : List ℕ) (p : SocketAddr) (b : List ℕ) → is_of peer bytes p b ≡ true → (p ≡ peer) × (b ≡ bytes)
of_same peer bytes p b is =
    let both = both_true (bytes_eq (numbers p) (numbers peer)) (bytes_eq b bytes) is in
    (same_numbers p peer ((bytes_eq-Decides (numbers p) (numbers peer)).0 both.0), (bytes_eq-Decides b bytes).0 both.1)

at_same : (socket : ℕ) (peer : SocketAddr) (bytes : List ℕ) (s : ℕ) (p : SocketAddr) (b : List ℕ) → is_at socket peer bytes s p b ≡ true
    → (s ≡ socket) × ((p ≡ peer) × (b ≡ bytes))
at_same socket peer bytes s p b is =
    let both = both_true (bytes_eq (s ∷ []) (socket ∷ [])) (is_of peer bytes p b) is in
    (ap number_of ((bytes_eq-Decides (s ∷ []) (socket ∷ [])).0 both.0), of_same peer bytes p b both.1)

same_of : (peer : SocketAddr) (bytes : List ℕ) → is_of peer bytes peer bytes ≡ true
same_of peer bytes =
    ap (λ (b : Bool). b && bytes_eq bytes bytes) ((bytes_eq-Decides (numbers peer) (numbers peer)).1 refl) ∙ (bytes_eq-Decides bytes bytes).1 refl

same_at : (socket : ℕ) (peer : SocketAddr) (bytes : List ℕ) → is_at socket peer bytes socket peer bytes ≡ true
same_at socket peer bytes = ap (λ (b : Bool). b && is_of peer bytes peer bytes) ((bytes_eq-Decides (socket ∷ []) (socket ∷ [])).1 refl) ∙ same_of peer bytes

no_more : (a b : Bool) → one_if (a && b) ≤ one_if b
no_more true b = omega arith
no_more false b = omega arith

-- this one datagram is counted
abbrev weight : ℕ → SocketAddr → List ℕ → Weight
weight socket peer bytes = record {
  of = λ s p b. one_if (is_at socket peer bytes s p b);
  most = λ p b. one_if (is_of peer bytes p b);
  bounded = λ s p b. no_more (bytes_eq (s ∷ []) (socket ∷ [])) (is_of peer bytes p b);
}

-- this one request is counted
abbrev count : ℕ → SocketAddr → List ℕ → ℕ → SocketAddr → List ℕ → ℕ
count socket peer bytes s p b = one_if (is_at socket peer bytes s p b)

-- ---- requests

-- among requests and their deliveries, there is one at the same place of each
record Placed (socket : ℕ) (peer : SocketAddr) (bytes : List ℕ) (s : ℕ) (rs : List RequestContent) (ds : List Delivery) : Type 0 where
  place : ℕ
  request : RequestContent
  delivery : Delivery
  reply : Vec ℕ
  request_is : slice_get rs place ≡ Some request
  delivery_is : slice_get ds place ≡ Some delivery
  reply_is : delivery.reply ≡ Some reply
  socket_is : s ≡ socket
  peer_is : request.peer ≡ peer
  bytes_are : reply.items ≡ bytes

nothing_from_nothing : (n : ℕ) → 1 ≤ n * 0 → ⊥
nothing_from_nothing n some = omega (arith, some)

module _ (socket : ℕ) (peer : SocketAddr) (bytes : List ℕ) (s : ℕ) where
  placed_later : (r : RequestContent) (rs : List RequestContent) (d : Delivery) (ds : List Delivery) → Placed socket peer bytes s rs ds → Placed socket peer bytes s (r ∷ rs) (d ∷ ds)
  placed_later r rs d ds p = record {
    place = suc p.place;
    request = p.request;
    delivery = p.delivery;
    reply = p.reply;
    request_is = p.request_is;
    delivery_is = p.delivery_is;
    reply_is = p.reply_is;
    socket_is = p.socket_is;
    peer_is = p.peer_is;
    bytes_are = p.bytes_are;
  }

  here : (r : RequestContent) (rs : List RequestContent) (d : Delivery) (ds : List Delivery) (reply : Option (Vec ℕ)) → d.reply ≡ reply
      → 1 ≤ reply_worth (weight socket peer bytes) s r.peer d reply → Placed socket peer bytes s (r ∷ rs) (d ∷ ds)
  here r rs d ds None is some = absurd (omega (arith, some))
  here r rs d ds (Some reply) is some = by (is_at socket peer bytes s r.peer reply.items) refl
    where
      by : (b : Bool) → is_at socket peer bytes s r.peer reply.items ≡ b → Placed socket peer bytes s (r ∷ rs) (d ∷ ds)
      by true same =
          let all = at_same socket peer bytes s r.peer reply.items same in
          record {
            place = 0;
            request = r;
            delivery = d;
            reply = reply;
            request_is = refl;
            delivery_is = refl;
            reply_is = is;
            socket_is = all.0;
            peer_is = all.1.0;
            bytes_are = all.1.1;
          }
      by false differs = absurd (nothing_from_nothing d.copies (subst (λ (b : Bool). 1 ≤ d.copies * one_if b) differs some))

  placed : (rs : List RequestContent) (ds : List Delivery) → 1 ≤ deliveries_worth (weight socket peer bytes) s rs ds → Placed socket peer bytes s rs ds
  placed [] ds some = absurd (omega (arith, some))
  placed (r ∷ rs) [] some = absurd (omega (arith, some))
  placed (r ∷ rs) (d ∷ ds) some = by (reply_worth (weight socket peer bytes) s r.peer d d.reply) refl (λ more. placed rs ds more)
    where
      by : (n : ℕ) → reply_worth (weight socket peer bytes) s r.peer d d.reply ≡ n → (1 ≤ deliveries_worth (weight socket peer bytes) s rs ds → Placed socket peer bytes s rs ds)
          → Placed socket peer bytes s (r ∷ rs) (d ∷ ds)
      by zero none others = placed_later r rs d ds (others (omega (arith, none, some)))
      by (suc n) is others = here r rs d ds d.reply refl (omega (arith, is))

-- a request among others counts
counted : (s : ℕ) (rs : List RequestContent) (place : ℕ) (r : RequestContent) → slice_get rs place ≡ Some r → 1 ≤ requests_worth (count s r.peer r.bytes s) rs
counted s [] place r is = absurd (cc is)
counted s (q ∷ rs) zero r is =
    let same : q ≡ r = cc is in
    let one : one_if (is_at s r.peer r.bytes s q.peer q.bytes) ≡ 1 = subst (λ (x : RequestContent). one_if (is_at s r.peer r.bytes s x.peer x.bytes) ≡ 1) (sym same) (ap one_if (same_at s r.peer r.bytes)) in
    omega (arith, one)
counted s (q ∷ rs) (suc place) r is = omega (arith, counted s rs place r is)

contained : (before : List Act) (act : Act) (rest : List Act) → Contains (before ++ act ∷ rest) act
contained [] act rest = (0, omega arith, refl)
contained (x ∷ before) act rest = let in_rest = contained before act rest in (suc in_rest.0, omega (arith, in_rest.1), in_rest.2)

-- what brings a request is that it arrives
arrival : (socket : ℕ) (peer : SocketAddr) (bytes : List ℕ) (act : Act) → 1 ≤ arrived_gain (count socket peer bytes) act → act ≡ At (Received socket bytes peer)
arrival socket peer bytes (At (Received s b p)) some =
    let all = at_same socket peer bytes s p b (is_one (is_at socket peer bytes s p b) some) in
    subst (λ (n : ℕ). At (Received s b p) ≡ At (Received n bytes peer)) all.0
    (subst (λ (q : SocketAddr). At (Received s b p) ≡ At (Received s bytes q)) all.1.0
    (subst (λ (c : List ℕ). At (Received s b p) ≡ At (Received s c p)) all.1.1 refl))
arrival socket peer bytes (At (Unreceived s)) some = absurd (omega (arith, some))
arrival socket peer bytes (At (Sent s b p is_taken)) some = absurd (omega (arith, some))
arrival socket peer bytes (At (Accepted s p)) some = absurd (omega (arith, some))
arrival socket peer bytes (At (Admitted s is_admitted)) some = absurd (omega (arith, some))
arrival socket peer bytes (At (Closed s)) some = absurd (omega (arith, some))
arrival socket peer bytes (At (Read s b)) some = absurd (omega (arith, some))
arrival socket peer bytes (At (Written s b)) some = absurd (omega (arith, some))
arrival socket peer bytes (At (Clocked moment)) some = absurd (omega (arith, some))
arrival socket peer bytes (At (Waited most)) some = absurd (omega (arith, some))
arrival socket peer bytes (At (Woken wake)) some = absurd (omega (arith, some))
arrival socket peer bytes (By origin event) some = absurd (omega (arith, some))

-- a request that is handled had arrived
pub had_arrived : (before : List Act) (socket : ℕ) (rs : List RequestContent) (outcome : Option (List Delivery)) (rest : List Act) (place : ℕ) (r : RequestContent)
    → AllPaid (requests (count socket r.peer r.bytes)) 0 (before ++ By (Socket socket) (Handled rs outcome) ∷ rest) → slice_get rs place ≡ Some r
    → Contains before (At (Received socket r.bytes r.peer))
had_arrived before socket rs outcome rest place r paid is =
    let found = pays_for (requests (count socket r.peer r.bytes)) before (By (Socket socket) (Handled rs outcome)) rest paid (counted socket rs place r is) in
    let same = arrival socket r.peer r.bytes found.act found.holds in
    subst (λ (acts : List Act). Contains acts (At (Received socket r.bytes r.peer))) (sym found.acts_are)
    (subst (λ (act : Act). Contains (found.before ++ act ∷ found.rest) (At (Received socket r.bytes r.peer))) (sym same)
    (contained found.before (At (Received socket r.bytes r.peer)) found.rest))

-- ---- what is sent

module _ (socket : ℕ) (bytes : List ℕ) (peer : SocketAddr) (acts : List Act) (all_arrived : (g : ℕ → SocketAddr → List ℕ → ℕ) → AllPaid (requests g) 0 acts) where
  by_notice : (before rest : List Act) (now : ℕ) (notice : Option NoticeContent) → acts ≡ before ++ By Nowhere (Noticed now notice) ∷ rest
      → 1 ≤ notice_gain (weight socket peer bytes) (Noticed now notice) → IsGiven socket bytes peer acts
  by_notice before rest now None is some = absurd (omega (arith, some))
  by_notice before rest now (Some notice) is some =
      let same = of_same peer bytes notice.peer notice.bytes (is_one (is_of peer bytes notice.peer notice.bytes) some) in
      as_notice now (subst (λ (all : List Act). Contains all (By Nowhere (Noticed now (Some (record { peer = peer; bytes = bytes }))))) (sym is)
      (subst (λ (n : NoticeContent). Contains (before ++ By Nowhere (Noticed now (Some n)) ∷ rest) (By Nowhere (Noticed now (Some (record { peer = peer; bytes = bytes })))))
      (subst (λ (p : SocketAddr). record { peer = p; bytes = bytes } ≡ notice) same.0 (subst (λ (b : List ℕ). record { peer = notice.peer; bytes = b } ≡ notice) same.1 refl))
      (contained before (By Nowhere (Noticed now (Some (record { peer = peer; bytes = bytes })))) rest)))

  by_request : (before rest : List Act) (s : ℕ) (rs : List RequestContent) (ds : List Delivery) → acts ≡ before ++ By (Socket s) (Handled rs (Some ds)) ∷ rest
      → 1 ≤ deliveries_worth (weight socket peer bytes) s rs ds → IsGiven socket bytes peer acts
  by_request before rest s rs ds is some =
      let p = placed socket peer bytes s rs ds some in
      as_reply p.request p.delivery p.reply
      (subst (λ (n : ℕ). IsHandled n p.request p.delivery acts) p.socket_is (record {
        before = before;
        rest = rest;
        requests = rs;
        deliveries = ds;
        place = p.place;
        acts_are = is;
        request_is = p.request_is;
        delivery_is = p.delivery_is;
        arrived = had_arrived before s rs (Some ds) rest p.place p.request
            (subst (λ (all : List Act). AllPaid (requests (count s p.request.peer p.request.bytes)) 0 all) is (all_arrived (count s p.request.peer p.request.bytes))) p.request_is;
      }))
      p.peer_is p.reply_is p.bytes_are

  by_act : (before rest : List Act) (act : Act) → acts ≡ before ++ act ∷ rest → 1 ≤ gain (weight socket peer bytes) act → IsGiven socket bytes peer acts
  by_act before rest (At event) is some = absurd (omega (arith, some))
  by_act before rest (By (Socket s) (Handled rs (Some ds))) is some = by_request before rest s rs ds is some
  by_act before rest (By (Socket s) (Handled rs None)) is some = absurd (omega (arith, some))
  by_act before rest (By (Socket s) (Transferred r is_busy messages)) is some = absurd (omega (arith, some))
  by_act before rest (By (Socket s) (Took r is_taken)) is some = absurd (omega (arith, some))
  by_act before rest (By (Socket s) (Noticed now notice)) is some = absurd (omega (arith, some))
  by_act before rest (By (Connection s) event) is some = absurd (omega (arith, some))
  by_act before rest (By Nowhere (Noticed now notice)) is some = by_notice before rest now notice is some
  by_act before rest (By Nowhere (Handled rs outcome)) is some = absurd (omega (arith, some))
  by_act before rest (By Nowhere (Transferred r is_busy messages)) is some = absurd (omega (arith, some))
  by_act before rest (By Nowhere (Took r is_taken)) is some = absurd (omega (arith, some))

-- what is paid after more acts is paid after the first of them
paid_before : (b : Book) (credit : ℕ) (before rest : List Act) → AllPaid b credit (before ++ rest) → AllPaid b credit before
paid_before b credit [] rest paid = tt
paid_before b credit (x ∷ before) rest paid = (paid.0, paid_before b (credit - b.cost x + b.gain x) before rest paid.1)

pub given : (new : List (Waiting WaitingReply)) (before rest : List Act) (socket : ℕ) (bytes : List ℕ) (peer : SocketAddr)
    → Earns [] new (before ++ At (Sent socket bytes peer true) ∷ rest) → IsGiven socket bytes peer before
given new before rest socket bytes peer earns =
    let found = pays_for (replies (weight socket peer bytes)) before (At (Sent socket bytes peer true)) rest (earns.0 (weight socket peer bytes) 0 (omega arith)).0
    (omega (arith, ap one_if (same_at socket peer bytes))) in
    by_act socket bytes peer before (λ g. paid_before (requests g) 0 before (At (Sent socket bytes peer true) ∷ rest) (earns.1 g 0).0)
    found.before found.rest found.act found.acts_are found.holds
