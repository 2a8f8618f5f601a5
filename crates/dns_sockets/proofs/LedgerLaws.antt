-- What acts cost and bring, one after another.
use Rattle.std.proofs.Common.{◌≡◌, ◌∙◌, ◌+◌, ◌-◌, ◌*◌, ◌≤◌, ℕ, zero, suc, Bool, true, false, List, [], ◌∷◌, ◌++◌, length, map, Option, Some, None, inl, inr, refl, sym, ap, subst, arith}
use Rattle.std.proofs.Math.Nat.{suc-mul}
use Rattle.std.specs.Prelude.{nat_le, nat_lt, if◌then◌else◌, ◌⊎◌, ⊤}
use Rattle.std.specs.Global.{Vec}
use Rattle.std.specs.List.{AllByRecursion}
use Rattle.std.specs.declared.net.socket_addr.SocketAddr.{SocketAddr}
use Rattle.dns_faults.specs.declared.delivery.Delivery.{Delivery}
use Rattle.dns_sockets.specs.Datagrams.{AreSent, AreSteps, DeliversAll, DeliversAt, DeliversIf, DeliversReply, HandlesAt, HandlesIf, Handles, Handle, GathersIf, IsAddedOrLost, IsReceive, IsTurn, Receive, Receives, ReceivesBy, TakesIf, TurnStep, content_at, datagram_at, datagram_content, peer_of, waiting_reply}
use Rattle.dns_sockets.specs.Handler.{HandlerEvent, Handled, NoticeContent, Noticed, RequestContent, Took}
use Rattle.dns_sockets.specs.Ledger.{AllPaid, Book, Earns, EarnsReplies, HandlesArrived, Weight, deliveries_worth, event_cost, left_of, replies, requests, requests_worth, reply_worth, waiting_worth}
use Rattle.dns_sockets.specs.Notices.{AreNotices, AreTries, IsNotice, is_response}
use Rattle.dns_sockets.specs.Stream.{later_by}
use Rattle.dns_sockets.specs.Trace.{Act, At, By, Connection, IsAside, IsAsideEvent, Nowhere, Socket}
use Rattle.dns_sockets.proofs.TraceLaws.{all_become, all_more}
use Rattle.dns_sockets.specs.World.{WorldEvent, AreCopies, Accepted, Admitted, Clocked, Closed, IsSent, Read, Received, Sent, Unreceived, Waited, Woken, Written}
use Rattle.dns_sockets.specs.declared.datagrams.Datagram.{Datagram}
use Rattle.dns_sockets.specs.declared.datagrams.WaitingReply.{WaitingReply}
use Rattle.dns_sockets.specs.schedule.Schedule.{ScheduleContent, Waiting, all_due, all_left, inserted, scheduled}

-- Acts that a credit pays for, of which this is left, whatever is there besides.
abbrev pub Pays : Book → List Act → ℕ → ℕ → Type 0
Pays k acts a b = (more credit : ℕ) → a + more ≤ credit → AllPaid k credit acts × (b + more ≤ left_of k credit acts)

-- acts after others
pub pays_both : (k : Book) (xs ys : List Act) (a b d : ℕ) → Pays k xs a b → Pays k ys b d → Pays k (xs ++ ys) a d
pays_both k xs ys a b d first next more credit enough = both xs credit (first more credit enough).0 (first more credit enough).1
  where
    both : (xs : List Act) (credit : ℕ) → AllPaid k credit xs → b + more ≤ left_of k credit xs → AllPaid k credit (xs ++ ys) × (d + more ≤ left_of k credit (xs ++ ys))
    both [] credit paid left = next more credit left
    both (x ∷ xs) credit paid left =
        let rest = both xs (credit - k.cost x + k.gain x) paid.1 left in
        ((paid.0, rest.0), rest.1)

-- no act
pub pays_none : (k : Book) (a : ℕ) → Pays k [] a a
pays_none k a more credit enough = (tt, enough)

-- one act
pub pays_one : (k : Book) (x : Act) (a : ℕ) → Pays k (x ∷ []) (k.cost x + a) (k.gain x + a)
pays_one k x a more credit enough = ((omega (arith, enough), tt), omega (arith, enough))

-- with less, or more left
pub pays_less : (k : Book) (xs : List Act) (a b c d : ℕ) → a ≤ c → d ≤ b → Pays k xs a b → Pays k xs c d
pays_less k xs a b c d less more_left pays more credit enough =
    let paid = pays more credit (omega (arith, less, enough)) in
    let left = paid.1 in
    (paid.0, omega (arith, more_left, left))

-- with more besides
pub pays_beside : (k : Book) (xs : List Act) (a b m : ℕ) → Pays k xs a b → Pays k xs (a + m) (b + m)
pays_beside k xs a b m pays more credit enough =
    let paid = pays (m + more) credit (omega (arith, enough)) in
    let left = paid.1 in
    (paid.0, omega (arith, left))

-- and nothing is left but that
pub pays_whole : (k : Book) (xs : List Act) (a m : ℕ) → Pays k xs a 0 → Pays k xs (a + m) m
pays_whole k xs a m pays = pays_less k xs (a + m) (0 + m) (a + m) m (omega arith) (omega arith) (pays_beside k xs a 0 m pays)

-- ---- acts that cost and bring nothing

abbrev pub IsFree : Book → Act → Type 0
IsFree k act = (k.cost act ≡ 0) × (k.gain act ≡ 0)

pub pays_free : (k : Book) (acts : List Act) (a : ℕ) → AllByRecursion (IsFree k) acts → Pays k acts a a
pays_free k [] a all = pays_none k a
pays_free k (x ∷ xs) a all =
    let free = all.0 in
    let costs = free.0 in
    let brings = free.1 in
    pays_both k (x ∷ []) xs a a a (pays_less k (x ∷ []) (k.cost x + a) (k.gain x + a) a a (omega (arith, costs)) (omega (arith, brings)) (pays_one k x a)) (pays_free k xs a all.1)

event_is_free : (f : Weight) (e : WorldEvent) → IsAsideEvent e → event_cost f e ≡ 0
event_is_free f (Received socket bytes peer) aside = refl
event_is_free f (Unreceived socket) aside = refl
event_is_free f (Sent socket bytes peer taken) aside = absurd aside
event_is_free f (Accepted listener peer) aside = refl
event_is_free f (Admitted stream admitted) aside = refl
event_is_free f (Closed stream) aside = refl
event_is_free f (Read stream bytes) aside = refl
event_is_free f (Written stream bytes) aside = refl
event_is_free f (Clocked now) aside = refl
event_is_free f (Waited most) aside = refl
event_is_free f (Woken wake) aside = refl

aside_is_free : (f : Weight) (act : Act) → IsAside act → IsFree (replies f) act
aside_is_free f (At e) aside = (event_is_free f e aside, refl)
aside_is_free f (By (Connection stream) e) aside = (refl, refl)
aside_is_free f (By (Socket socket) e) aside = absurd aside
aside_is_free f (By Nowhere e) aside = absurd aside

-- a reading of the clock, and a call that takes a response
taken_free : (k : Book) (index : ℕ) → ((shown : Option ℕ) → IsFree k (At (Clocked shown))) → ((r : RequestContent) (is_taken : Bool) → IsFree k (By (Socket index) (Took r is_taken)))
    → (b : Bool) (bytes : List ℕ) (peer : SocketAddr) (clocks : List WorldEvent) (calls : List HandlerEvent) (taken : Option Bool) → TakesIf b bytes peer clocks calls taken
    → AllByRecursion (IsFree k) (map At clocks ++ map (By (Socket index)) calls)
taken_free k index clock took true bytes peer clocks calls None takes =
    subst (λ (es : List WorldEvent). AllByRecursion (IsFree k) (map At es ++ map (By (Socket index)) calls)) (sym takes.0)
    (subst (λ (l : List HandlerEvent). AllByRecursion (IsFree k) (At (Clocked None) ∷ map (By (Socket index)) l)) (sym takes.1) (clock None, tt))
taken_free k index clock took true bytes peer clocks calls (Some is_taken) takes =
    let now = takes.0 in
    subst (λ (es : List WorldEvent). AllByRecursion (IsFree k) (map At es ++ map (By (Socket index)) calls)) (sym takes.1.0)
    (subst (λ (l : List HandlerEvent). AllByRecursion (IsFree k) (At (Clocked (Some now)) ∷ map (By (Socket index)) l)) (sym takes.1.1)
    (clock (Some now), (took (datagram_at bytes peer now) is_taken, tt)))
taken_free k index clock took false bytes peer clocks calls taken takes =
    subst (λ (es : List WorldEvent). AllByRecursion (IsFree k) (map At es ++ map (By (Socket index)) calls)) (sym takes.0)
    (subst (λ (l : List HandlerEvent). AllByRecursion (IsFree k) (map (By (Socket index)) l)) (sym takes.1.0) tt)

-- neither
none_free : (k : Book) (index : ℕ) (clocks : List WorldEvent) (calls : List HandlerEvent) → clocks ≡ [] → calls ≡ [] → AllByRecursion (IsFree k) (map At clocks ++ map (By (Socket index)) calls)
none_free k index clocks calls none no_call =
    subst (λ (es : List WorldEvent). AllByRecursion (IsFree k) (map At es ++ map (By (Socket index)) calls)) (sym none)
    (subst (λ (l : List HandlerEvent). AllByRecursion (IsFree k) (map (By (Socket index)) l)) (sym no_call) tt)

-- ---- copies of a datagram

pub pays_copies : (f : Weight) (socket count : ℕ) (bytes : List ℕ) (peer : SocketAddr) (es : List WorldEvent) → AreCopies socket count bytes peer es → Pays (replies f) (map At es) (count * f.of socket peer bytes) 0
pays_copies f socket count bytes peer [] copies = pays_less (replies f) [] 0 0 (count * f.of socket peer bytes) 0 (omega arith) (omega arith) (pays_none (replies f) 0)
pays_copies f socket count bytes peer (e ∷ es) copies =
    let n = length es in
    let w = f.of socket peer bytes in
    let counted : count ≡ suc n = sym copies.0 in
    let is : count * w ≡ n * w + w = ap (λ (m : ℕ). m * w) counted ∙ suc-mul n w in
    pays_both (replies f) (At e ∷ []) (map At es) (count * w) (n * w) 0 (sent e copies.1.0 is) (pays_copies f socket n bytes peer es (refl, copies.1.1))
  where
    sent : (e : WorldEvent) → IsSent socket bytes peer e → count * f.of socket peer bytes ≡ length es * f.of socket peer bytes + f.of socket peer bytes
        → Pays (replies f) (At e ∷ []) (count * f.of socket peer bytes) (length es * f.of socket peer bytes)
    sent (Sent index out to true) same is =
        let costs : f.of index to out ≡ f.of socket peer bytes = λ j. f.of (same.0 j) (same.1.1 j) (same.1.0 j) in
        pays_less (replies f) (At (Sent index out to true) ∷ []) (f.of index to out + length es * f.of socket peer bytes) (0 + length es * f.of socket peer bytes) (count * f.of socket peer bytes) (length es * f.of socket peer bytes)
        (omega (arith, costs, is)) (omega arith) (pays_one (replies f) (At (Sent index out to true)) (length es * f.of socket peer bytes))
    sent (Sent index out to false) same is =
        pays_less (replies f) (At (Sent index out to false) ∷ []) (0 + length es * f.of socket peer bytes) (0 + length es * f.of socket peer bytes) (count * f.of socket peer bytes) (length es * f.of socket peer bytes)
        (omega (arith, is)) (omega arith) (pays_one (replies f) (At (Sent index out to false)) (length es * f.of socket peer bytes))
    sent (Received s b p) same is = absurd same
    sent (Unreceived s) same is = absurd same
    sent (Accepted l p) same is = absurd same
    sent (Admitted s a) same is = absurd same
    sent (Closed s) same is = absurd same
    sent (Read s b) same is = absurd same
    sent (Written s b) same is = absurd same
    sent (Clocked n) same is = absurd same
    sent (Waited m) same is = absurd same
    sent (Woken w) same is = absurd same

-- ---- replies that wait

-- what one reply is worth that waits
abbrev worth : Weight → Waiting WaitingReply → ℕ
worth f w = w.item.copies * f.of w.item.socket w.item.peer w.item.bytes.items

insert_if : (f : Weight) (w x : Waiting WaitingReply) (xs : List (Waiting WaitingReply)) (b : Bool) → waiting_worth f (inserted w xs) ≡ worth f w + waiting_worth f xs
    → waiting_worth f (if b then w ∷ x ∷ xs else x ∷ inserted w xs) ≡ worth f w + (worth f x + waiting_worth f xs)
insert_if f w x xs true rest = refl
insert_if f w x xs false rest = omega (arith, rest)

worth_inserted : (f : Weight) (w : Waiting WaitingReply) (ws : List (Waiting WaitingReply)) → waiting_worth f (inserted w ws) ≡ worth f w + waiting_worth f ws
worth_inserted f w [] = refl
worth_inserted f w (x ∷ xs) = insert_if f w x xs (nat_lt w.moment x.moment) (worth_inserted f w xs)

pub at_both : (xs ys : List WorldEvent) → map At (xs ++ ys) ≡ map At xs ++ map At ys
at_both [] ys = refl
at_both (e ∷ xs) ys = ap (λ (l : List Act). At e ∷ l) (at_both xs ys)

due_if : (f : Weight) (now : ℕ) (x : Waiting WaitingReply) (xs : List (Waiting WaitingReply)) (b : Bool) (es : List WorldEvent)
    → ((fs : List WorldEvent) → AreSent (all_due now xs) fs → Pays (replies f) (map At fs) (waiting_worth f xs) (waiting_worth f (all_left now xs)))
    → AreSent (if b then x.item ∷ all_due now xs else []) es → Pays (replies f) (map At es) (worth f x + waiting_worth f xs) (waiting_worth f (if b then all_left now xs else x ∷ xs))
due_if f now x xs true es rest s =
    let w = worth f x in
    subst (λ (l : List WorldEvent). Pays (replies f) (map At l) (w + waiting_worth f xs) (waiting_worth f (all_left now xs))) (sym s.2.0)
    (subst (λ (l : List Act). Pays (replies f) l (w + waiting_worth f xs) (waiting_worth f (all_left now xs))) (sym (at_both s.0 s.1))
    (pays_both (replies f) (map At s.0) (map At s.1) (w + waiting_worth f xs) (waiting_worth f xs) (waiting_worth f (all_left now xs))
    (pays_whole (replies f) (map At s.0) w (waiting_worth f xs) (pays_copies f x.item.socket x.item.copies x.item.bytes.items x.item.peer s.0 s.2.1.0))
    (rest s.1 s.2.1.1)))
due_if f now x xs false es rest none = subst (λ (l : List WorldEvent). Pays (replies f) (map At l) (worth f x + waiting_worth f xs) (worth f x + waiting_worth f xs)) (sym none) (pays_none (replies f) (worth f x + waiting_worth f xs))

-- those that are due are sent, and the others wait
pub pays_due : (f : Weight) (now : ℕ) (ws : List (Waiting WaitingReply)) (es : List WorldEvent) → AreSent (all_due now ws) es → Pays (replies f) (map At es) (waiting_worth f ws) (waiting_worth f (all_left now ws))
pays_due f now [] es none = subst (λ (l : List WorldEvent). Pays (replies f) (map At l) 0 0) (sym none) (pays_none (replies f) 0)
pays_due f now (x ∷ xs) es sent = due_if f now x xs (nat_le x.moment now) es (λ fs more. pays_due f now xs fs more) sent

-- ---- deliveries

no_delivery : (f : Weight) (a : ℕ) (old new : ScheduleContent WaitingReply) (es : List WorldEvent) → (es ≡ []) × (new ≡ old) → Pays (replies f) (map At es) (a + waiting_worth f old.items) (waiting_worth f new.items)
no_delivery f a old new es none =
    subst (λ (l : List WorldEvent). Pays (replies f) (map At l) (a + waiting_worth f old.items) (waiting_worth f new.items)) (sym none.0)
    (subst (λ (w : ScheduleContent WaitingReply). Pays (replies f) [] (a + waiting_worth f old.items) (waiting_worth f w.items)) (sym none.1)
    (pays_less (replies f) [] (waiting_worth f old.items) (waiting_worth f old.items) (a + waiting_worth f old.items) (waiting_worth f old.items) (omega arith) (omega arith) (pays_none (replies f) (waiting_worth f old.items))))

deliver_later : (f : Weight) (index : ℕ) (peer : SocketAddr) (moment : ℕ) (d : Delivery) (bytes : Vec ℕ) (old new : ScheduleContent WaitingReply)
    → (new ≡ old) ⊎ (new ≡ scheduled old moment (waiting_reply index peer d bytes)) → Pays (replies f) [] (d.copies * f.of index peer bytes.items + waiting_worth f old.items) (waiting_worth f new.items)
deliver_later f index peer moment d bytes old new (inl lost) =
    let all = d.copies * f.of index peer bytes.items + waiting_worth f old.items in
    subst (λ (w : ScheduleContent WaitingReply). Pays (replies f) [] all (waiting_worth f w.items)) (sym lost) (pays_less (replies f) [] all all all (waiting_worth f old.items) (omega arith) (omega arith) (pays_none (replies f) all))
deliver_later f index peer moment d bytes old new (inr waits) =
    let all = d.copies * f.of index peer bytes.items + waiting_worth f old.items in
    subst (λ (w : ScheduleContent WaitingReply). Pays (replies f) [] all (waiting_worth f w.items)) (sym waits)
    (subst (λ (n : ℕ). Pays (replies f) [] all n) (sym (worth_inserted f (record { moment = moment; item = waiting_reply index peer d bytes }) old.items)) (pays_none (replies f) all))

deliver_at : (f : Weight) (index : ℕ) (peer : SocketAddr) (moment : ℕ) (d : Delivery) (bytes : Vec ℕ) (b : Bool) (old new : ScheduleContent WaitingReply) (es : List WorldEvent)
    → DeliversAt b index peer moment d bytes old es new → Pays (replies f) (map At es) (d.copies * f.of index peer bytes.items + waiting_worth f old.items) (waiting_worth f new.items)
deliver_at f index peer moment d bytes true old new es delivers =
    subst (λ (w : ScheduleContent WaitingReply). Pays (replies f) (map At es) (d.copies * f.of index peer bytes.items + waiting_worth f old.items) (waiting_worth f w.items)) (sym delivers.1)
    (pays_whole (replies f) (map At es) (d.copies * f.of index peer bytes.items) (waiting_worth f old.items) (pays_copies f index d.copies bytes.items peer es delivers.0))
deliver_at f index peer moment d bytes false old new es delivers =
    subst (λ (l : List WorldEvent). Pays (replies f) (map At l) (d.copies * f.of index peer bytes.items + waiting_worth f old.items) (waiting_worth f new.items)) (sym delivers.0)
    (deliver_later f index peer moment d bytes old new delivers.1)

deliver_reply : (f : Weight) (index : ℕ) (peer : SocketAddr) (now : ℕ) (d : Delivery) (reply : Option (Vec ℕ)) (old new : ScheduleContent WaitingReply) (es : List WorldEvent)
    → DeliversReply index peer now d reply old es new → Pays (replies f) (map At es) (reply_worth f index peer d reply + waiting_worth f old.items) (waiting_worth f new.items)
deliver_reply f index peer now d None old new es delivers = no_delivery f 0 old new es delivers
deliver_reply f index peer now d (Some bytes) old new es delivers =
    deliver_at f index peer (later_by now d.after_milliseconds) d bytes (nat_le (later_by now d.after_milliseconds) now) old new es delivers

-- deliveries to the peers of datagrams
deliver_all : (f : Weight) (index now : ℕ) (gathered : List Datagram) (ds : List Delivery) (old new : ScheduleContent WaitingReply) (es : List WorldEvent) → DeliversAll index now (map peer_of gathered) ds old es new
    → Pays (replies f) (map At es) (deliveries_worth f index (map (content_at now) gathered) ds + waiting_worth f old.items) (waiting_worth f new.items)
deliver_all f index now [] ds old new es delivers = no_delivery f 0 old new es delivers
deliver_all f index now (datagram ∷ more) [] old new es delivers = no_delivery f 0 old new es delivers
deliver_all f index now (datagram ∷ more) (d ∷ ds) old new es delivers =
    let one = reply_worth f index datagram.peer d d.reply in
    let rest = deliveries_worth f index (map (content_at now) more) ds in
    let w = waiting_worth f old.items in
    let mid = waiting_worth f delivers.2.items in
    let end = waiting_worth f new.items in
    subst (λ (l : List WorldEvent). Pays (replies f) (map At l) (one + rest + w) end) (sym delivers.3.0)
    (subst (λ (l : List Act). Pays (replies f) l (one + rest + w) end) (sym (at_both delivers.0 delivers.1))
    (pays_both (replies f) (map At delivers.0) (map At delivers.1) (one + rest + w) (rest + mid) end
    (pays_less (replies f) (map At delivers.0) (one + w + rest) (mid + rest) (one + rest + w) (rest + mid) (omega arith) (omega arith)
    (pays_beside (replies f) (map At delivers.0) (one + w) mid rest (deliver_reply f index datagram.peer now d d.reply old delivers.2 delivers.0 delivers.3.1.0)))
    (deliver_all f index now more ds delivers.2 new delivers.1 delivers.3.1.1)))

-- ---- requests

handle_some : (f : Weight) (index now : ℕ) (gathered : List Datagram) (outcome : Option (List Delivery)) (old new : ScheduleContent WaitingReply) (es : List WorldEvent) → DeliversIf index now (map peer_of gathered) outcome old es new
    → Pays (replies f) (By (Socket index) (Handled (map (content_at now) gathered) outcome) ∷ map At es) (waiting_worth f old.items) (waiting_worth f new.items)
handle_some f index now gathered None old new es delivers =
    let act = By (Socket index) (Handled (map (content_at now) gathered) None) in
    let w = waiting_worth f old.items in
    pays_both (replies f) (act ∷ []) (map At es) w (0 + w) (waiting_worth f new.items) (pays_less (replies f) (act ∷ []) (0 + w) (0 + w) w (0 + w) (omega arith) (omega arith) (pays_one (replies f) act w)) (no_delivery f 0 old new es delivers)
handle_some f index now gathered (Some ds) old new es delivers =
    let act = By (Socket index) (Handled (map (content_at now) gathered) (Some ds)) in
    let w = waiting_worth f old.items in
    let brings = deliveries_worth f index (map (content_at now) gathered) ds in
    pays_both (replies f) (act ∷ []) (map At es) w (brings + w) (waiting_worth f new.items) (pays_less (replies f) (act ∷ []) (0 + w) (brings + w) w (brings + w) (omega arith) (omega arith) (pays_one (replies f) act w))
    (deliver_all f index now gathered ds old new es delivers)

handle_none : (f : Weight) (index now : ℕ) (gathered : List Datagram) (outcome : Option (List Delivery)) (old new : ScheduleContent WaitingReply) (es : List WorldEvent) → outcome ≡ None
    → DeliversIf index now (map peer_of gathered) outcome old es new → Pays (replies f) (map At es) (waiting_worth f old.items) (waiting_worth f new.items)
handle_none f index now gathered outcome old new es none delivers =
    let nothing = subst (λ (o : Option (List Delivery)). DeliversIf index now (map peer_of gathered) o old es new) none delivers in
    pays_less (replies f) (map At es) (0 + waiting_worth f old.items) (waiting_worth f new.items) (waiting_worth f old.items) (waiting_worth f new.items) (omega arith) (omega arith) (no_delivery f 0 old new es nothing)

handle_if : (f : Weight) (index now : ℕ) (gathered : List Datagram) (outcome : Option (List Delivery)) (calls : List HandlerEvent) (old new : ScheduleContent WaitingReply) (es : List WorldEvent)
    → HandlesIf now gathered calls outcome → DeliversIf index now (map peer_of gathered) outcome old es new
    → Pays (replies f) (map (By (Socket index)) calls ++ map At es) (waiting_worth f old.items) (waiting_worth f new.items)
handle_if f index now gathered outcome calls old new es (inl one) delivers =
    subst (λ (l : List HandlerEvent). Pays (replies f) (map (By (Socket index)) l ++ map At es) (waiting_worth f old.items) (waiting_worth f new.items)) (sym one) (handle_some f index now gathered outcome old new es delivers)
handle_if f index now gathered outcome calls old new es (inr none) delivers =
    subst (λ (l : List HandlerEvent). Pays (replies f) (map (By (Socket index)) l ++ map At es) (waiting_worth f old.items) (waiting_worth f new.items)) (sym none.0) (handle_none f index now gathered outcome old new es none.1 delivers)

handles_at : (f : Weight) (shown : Option ℕ) (index : ℕ) (gathered : List Datagram) (old new : ScheduleContent WaitingReply) (acts : List Act) → HandlesAt shown index gathered old acts new
    → Pays (replies f) acts (waiting_worth f old.items) (waiting_worth f new.items)
handles_at f None index gathered old new acts handled =
    subst (λ (l : List Act). Pays (replies f) l (waiting_worth f old.items) (waiting_worth f new.items)) (sym handled.0)
    (subst (λ (w : ScheduleContent WaitingReply). Pays (replies f) [] (waiting_worth f old.items) (waiting_worth f w.items)) (sym handled.1) (pays_none (replies f) (waiting_worth f old.items)))
handles_at f (Some now) index gathered old new acts handled =
    subst (λ (l : List Act). Pays (replies f) l (waiting_worth f old.items) (waiting_worth f new.items)) (sym handled.3.0) (handle_if f index now gathered handled.0 handled.1 old new handled.2 handled.3.1.0 handled.3.1.1)

handles : (f : Weight) (index : ℕ) (gathered : List Datagram) (old new : ScheduleContent WaitingReply) (acts : List Act) → Handles index gathered old acts new → Pays (replies f) acts (waiting_worth f old.items) (waiting_worth f new.items)
handles f index gathered old new acts (inl none) =
    subst (λ (l : List Act). Pays (replies f) l (waiting_worth f old.items) (waiting_worth f new.items)) (sym none.0)
    (subst (λ (w : ScheduleContent WaitingReply). Pays (replies f) [] (waiting_worth f old.items) (waiting_worth f w.items)) (sym none.1.1) (pays_none (replies f) (waiting_worth f old.items)))
handles f index gathered old new acts (inr some) =
    subst (λ (l : List Act). Pays (replies f) l (waiting_worth f old.items) (waiting_worth f new.items)) (sym some.2.0)
    (pays_both (replies f) (At (Clocked some.0) ∷ []) some.1 (waiting_worth f old.items) (waiting_worth f old.items) (waiting_worth f new.items)
    (pays_free (replies f) (At (Clocked some.0) ∷ []) (waiting_worth f old.items) ((refl, refl), tt)) (handles_at f some.0 index gathered old new some.1 some.2.1))

receive_free : (f : Weight) (index : ℕ) (e : WorldEvent) (old new : List Datagram) (clocks : List WorldEvent) (calls : List HandlerEvent) → IsReceive index e → ReceivesBy e old clocks calls new
    → AllByRecursion (IsFree (replies f)) (At e ∷ map At clocks ++ map (By (Socket index)) calls)
receive_free f index (Received socket bytes peer) old new clocks calls is received = ((refl, refl), taken_free (replies f) index (λ shown. (refl, refl)) (λ r is_taken. (refl, refl)) (is_response bytes) bytes peer clocks calls received.0 received.1.0)
receive_free f index (Unreceived socket) old new clocks calls is received = ((refl, refl), none_free (replies f) index clocks calls received.0 received.1.0)
receive_free f index (Sent socket bytes peer taken) old new clocks calls is received = absurd is
receive_free f index (Accepted listener peer) old new clocks calls is received = absurd is
receive_free f index (Admitted stream admitted) old new clocks calls is received = absurd is
receive_free f index (Closed stream) old new clocks calls is received = absurd is
receive_free f index (Read stream bytes) old new clocks calls is received = absurd is
receive_free f index (Written stream bytes) old new clocks calls is received = absurd is
receive_free f index (Clocked moment) old new clocks calls is received = absurd is
receive_free f index (Waited most) old new clocks calls is received = absurd is
receive_free f index (Woken wake) old new clocks calls is received = absurd is

receives : (f : Weight) (index : ℕ) (old new : List Datagram) (acts : List Act) (a : ℕ) → Receives index old acts new → Pays (replies f) acts a a
receives f index old new acts a received =
    subst (λ (l : List Act). Pays (replies f) l a a) (sym received.3.0)
    (pays_free (replies f) (At received.0 ∷ map At received.1 ++ map (By (Socket index)) received.2) a (receive_free f index received.0 old new received.1 received.2 received.3.1.0 received.3.1.1))

-- ---- turns

pays_steps : (f : Weight) (index : ℕ) (steps : List TurnStep) (g g1 : List Datagram) (old new : ScheduleContent WaitingReply) (acts : List Act) → AreSteps index steps g old acts g1 new
    → Pays (replies f) acts (waiting_worth f old.items) (waiting_worth f new.items)
pays_steps f index [] g g1 old new acts are =
    subst (λ (l : List Act). Pays (replies f) l (waiting_worth f old.items) (waiting_worth f new.items)) (sym are.0)
    (subst (λ (w : ScheduleContent WaitingReply). Pays (replies f) [] (waiting_worth f old.items) (waiting_worth f w.items)) (sym are.1.1) (pays_none (replies f) (waiting_worth f old.items)))
pays_steps f index (Receive first ∷ steps) g g1 old new acts are =
    subst (λ (l : List Act). Pays (replies f) l (waiting_worth f old.items) (waiting_worth f new.items)) (sym are.2.0)
    (pays_both (replies f) first are.1 (waiting_worth f old.items) (waiting_worth f old.items) (waiting_worth f new.items) (receives f index g are.0 first (waiting_worth f old.items) are.2.1.0)
    (pays_steps f index steps are.0 g1 old new are.1 are.2.1.1))
pays_steps f index (Handle first ∷ steps) g g1 old new acts are =
    subst (λ (l : List Act). Pays (replies f) l (waiting_worth f old.items) (waiting_worth f new.items)) (sym are.2.0)
    (pays_both (replies f) first are.1 (waiting_worth f old.items) (waiting_worth f are.0.items) (waiting_worth f new.items) (handles f index g old are.0 first are.2.1.0)
    (pays_steps f index steps [] g1 are.0 new are.1 are.2.1.1))

-- ---- datagrams without a request

pays_tries : (f : Weight) (socket left : ℕ) (bytes : List ℕ) (peer : SocketAddr) (es : List WorldEvent) → AreTries socket left bytes peer es → Pays (replies f) (map At es) (f.most peer bytes) 0
pays_tries f socket zero bytes peer es none =
    subst (λ (l : List WorldEvent). Pays (replies f) (map At l) (f.most peer bytes) 0) (sym none) (pays_less (replies f) [] 0 0 (f.most peer bytes) 0 (omega arith) (omega arith) (pays_none (replies f) 0))
pays_tries f socket (suc left) bytes peer es (inl taken) =
    let bounded = f.bounded socket peer bytes in
    subst (λ (l : List WorldEvent). Pays (replies f) (map At l) (f.most peer bytes) 0) (sym taken)
    (pays_less (replies f) (At (Sent socket bytes peer true) ∷ []) (f.of socket peer bytes + 0) (0 + 0) (f.most peer bytes) 0 (omega (arith, bounded)) (omega arith) (pays_one (replies f) (At (Sent socket bytes peer true)) 0))
pays_tries f socket (suc left) bytes peer es (inr more) =
    subst (λ (l : List WorldEvent). Pays (replies f) (map At l) (f.most peer bytes) 0) (sym more.1.0)
    (pays_both (replies f) (At (Sent socket bytes peer false) ∷ []) (map At more.0) (f.most peer bytes) (f.most peer bytes) 0 (pays_free (replies f) (At (Sent socket bytes peer false) ∷ []) (f.most peer bytes) ((refl, refl), tt))
    (pays_tries f (socket + 1) left bytes peer more.0 more.1.1))

pays_notice : (f : Weight) (sockets now : ℕ) (notice : NoticeContent) (acts : List Act) (a : ℕ) → IsNotice sockets now notice acts → Pays (replies f) acts a a
pays_notice f sockets now notice acts a is =
    let act = By Nowhere (Noticed now (Some notice)) in
    let most = f.most notice.peer notice.bytes in
    subst (λ (l : List Act). Pays (replies f) l a a) (sym is.1.0)
    (pays_both (replies f) (act ∷ []) (map At is.0) a (most + a) a (pays_less (replies f) (act ∷ []) (0 + a) (most + a) a (most + a) (omega arith) (omega arith) (pays_one (replies f) act a))
    (pays_less (replies f) (map At is.0) (most + a) (0 + a) (most + a) a (omega arith) (omega arith) (pays_beside (replies f) (map At is.0) most 0 a (pays_tries f 0 sockets notice.bytes notice.peer is.0 is.1.1))))

pays_notices : (f : Weight) (most sockets now : ℕ) (acts : List Act) (a : ℕ) → AreNotices most sockets now acts → Pays (replies f) acts a a
pays_notices f zero sockets now acts a none = subst (λ (l : List Act). Pays (replies f) l a a) (sym none) (pays_none (replies f) a)
pays_notices f (suc most) sockets now acts a (inl none) = subst (λ (l : List Act). Pays (replies f) l a a) (sym none) (pays_free (replies f) (By Nowhere (Noticed now None) ∷ []) a ((refl, refl), tt))
pays_notices f (suc most) sockets now acts a (inr more) =
    subst (λ (l : List Act). Pays (replies f) l a a) (sym more.3.0)
    (pays_both (replies f) more.1 more.2 a a a (pays_notice f sockets now more.0 more.1 a more.3.1.0) (pays_notices f most sockets now more.2 a more.3.1.1))

-- ---- requests that are handled, and datagrams that arrive

abbrev IsNoArrival : WorldEvent → Type 0
IsNoArrival (Received socket bytes peer) = ⊥
IsNoArrival event = ⊤

no_arrival_is_free : (g : ℕ → SocketAddr → List ℕ → ℕ) (e : WorldEvent) → IsNoArrival e → IsFree (requests g) (At e)
no_arrival_is_free g (Received socket bytes peer) none = absurd none
no_arrival_is_free g (Unreceived socket) none = (refl, refl)
no_arrival_is_free g (Sent socket bytes peer taken) none = (refl, refl)
no_arrival_is_free g (Accepted listener peer) none = (refl, refl)
no_arrival_is_free g (Admitted stream admitted) none = (refl, refl)
no_arrival_is_free g (Closed stream) none = (refl, refl)
no_arrival_is_free g (Read stream bytes) none = (refl, refl)
no_arrival_is_free g (Written stream bytes) none = (refl, refl)
no_arrival_is_free g (Clocked now) none = (refl, refl)
no_arrival_is_free g (Waited most) none = (refl, refl)
no_arrival_is_free g (Woken wake) none = (refl, refl)

no_arrivals_are_free : (g : ℕ → SocketAddr → List ℕ → ℕ) (es : List WorldEvent) → AllByRecursion IsNoArrival es → AllByRecursion (IsFree (requests g)) (map At es)
no_arrivals_are_free g [] all = tt
no_arrivals_are_free g (e ∷ es) all = (no_arrival_is_free g e all.0, no_arrivals_are_free g es all.1)

aside_is_no_arrival : (e : WorldEvent) → IsAsideEvent e → IsNoArrival e
aside_is_no_arrival (Received socket bytes peer) aside = aside
aside_is_no_arrival (Unreceived socket) aside = tt
aside_is_no_arrival (Sent socket bytes peer taken) aside = tt
aside_is_no_arrival (Accepted listener peer) aside = tt
aside_is_no_arrival (Admitted stream admitted) aside = tt
aside_is_no_arrival (Closed stream) aside = tt
aside_is_no_arrival (Read stream bytes) aside = tt
aside_is_no_arrival (Written stream bytes) aside = tt
aside_is_no_arrival (Clocked now) aside = tt
aside_is_no_arrival (Waited most) aside = tt
aside_is_no_arrival (Woken wake) aside = tt

aside_handles : (g : ℕ → SocketAddr → List ℕ → ℕ) (act : Act) → IsAside act → IsFree (requests g) act
aside_handles g (At e) aside = no_arrival_is_free g e (aside_is_no_arrival e aside)
aside_handles g (By (Connection stream) e) aside = (refl, refl)
aside_handles g (By (Socket socket) e) aside = absurd aside
aside_handles g (By Nowhere e) aside = absurd aside

-- a datagram is sent
abbrev pub IsSending : WorldEvent → Type 0
IsSending (Sent socket bytes peer is_taken) = ⊤
IsSending event = ⊥

sending_is_no_arrival : (e : WorldEvent) → IsSending e → IsNoArrival e
sending_is_no_arrival (Sent socket bytes peer taken) is = tt
sending_is_no_arrival (Received s b p) is = absurd is
sending_is_no_arrival (Unreceived s) is = absurd is
sending_is_no_arrival (Accepted l p) is = absurd is
sending_is_no_arrival (Admitted s a) is = absurd is
sending_is_no_arrival (Closed s) is = absurd is
sending_is_no_arrival (Read s b) is = absurd is
sending_is_no_arrival (Written s b) is = absurd is
sending_is_no_arrival (Clocked n) is = absurd is
sending_is_no_arrival (Waited m) is = absurd is
sending_is_no_arrival (Woken w) is = absurd is

sendings_are_no_arrivals : (es : List WorldEvent) → AllByRecursion IsSending es → AllByRecursion IsNoArrival es
sendings_are_no_arrivals es all = all_become IsSending IsNoArrival sending_is_no_arrival es all

sent_is_sending : (socket : ℕ) (bytes : List ℕ) (peer : SocketAddr) (e : WorldEvent) → IsSent socket bytes peer e → IsSending e
sent_is_sending socket bytes peer (Sent index out to taken) is = tt
sent_is_sending socket bytes peer (Received s b p) is = absurd is
sent_is_sending socket bytes peer (Unreceived s) is = absurd is
sent_is_sending socket bytes peer (Accepted l p) is = absurd is
sent_is_sending socket bytes peer (Admitted s a) is = absurd is
sent_is_sending socket bytes peer (Closed s) is = absurd is
sent_is_sending socket bytes peer (Read s b) is = absurd is
sent_is_sending socket bytes peer (Written s b) is = absurd is
sent_is_sending socket bytes peer (Clocked n) is = absurd is
sent_is_sending socket bytes peer (Waited m) is = absurd is
sent_is_sending socket bytes peer (Woken w) is = absurd is

copies_are_sendings : (socket : ℕ) (bytes : List ℕ) (peer : SocketAddr) (es : List WorldEvent) → AllByRecursion (IsSent socket bytes peer) es → AllByRecursion IsSending es
copies_are_sendings socket bytes peer es all = all_become (IsSent socket bytes peer) IsSending (sent_is_sending socket bytes peer) es all

none_sent : (es : List WorldEvent) → es ≡ [] → AllByRecursion IsSending es
none_sent es none = subst (λ (l : List WorldEvent). AllByRecursion IsSending l) (sym none) tt

pub sent_are_sendings : (rs : List WaitingReply) (es : List WorldEvent) → AreSent rs es → AllByRecursion IsSending es
sent_are_sendings [] es none = none_sent es none
sent_are_sendings (r ∷ rs) es sent =
    subst (λ (l : List WorldEvent). AllByRecursion IsSending l) (sym sent.2.0)
    (all_more IsSending sent.0 sent.1 (copies_are_sendings r.socket r.bytes.items r.peer sent.0 sent.2.1.0.1) (sent_are_sendings rs sent.1 sent.2.1.1))

pub tries_are_sendings : (socket left : ℕ) (bytes : List ℕ) (peer : SocketAddr) (es : List WorldEvent) → AreTries socket left bytes peer es → AllByRecursion IsSending es
tries_are_sendings socket zero bytes peer es none = none_sent es none
tries_are_sendings socket (suc left) bytes peer es (inl taken) = subst (λ (l : List WorldEvent). AllByRecursion IsSending l) (sym taken) (tt, tt)
tries_are_sendings socket (suc left) bytes peer es (inr more) =
    subst (λ (l : List WorldEvent). AllByRecursion IsSending l) (sym more.1.0) (tt, tries_are_sendings (socket + 1) left bytes peer more.0 more.1.1)

at_is_sending : (index : ℕ) (peer : SocketAddr) (moment : ℕ) (d : Delivery) (bytes : Vec ℕ) (b : Bool) (old new : ScheduleContent WaitingReply) (es : List WorldEvent) → DeliversAt b index peer moment d bytes old es new
    → AllByRecursion IsSending es
at_is_sending index peer moment d bytes true old new es delivers = copies_are_sendings index bytes.items peer es delivers.0.1
at_is_sending index peer moment d bytes false old new es delivers = none_sent es delivers.0

reply_is_sending : (index : ℕ) (peer : SocketAddr) (now : ℕ) (d : Delivery) (reply : Option (Vec ℕ)) (old new : ScheduleContent WaitingReply) (es : List WorldEvent) → DeliversReply index peer now d reply old es new
    → AllByRecursion IsSending es
reply_is_sending index peer now d None old new es delivers = none_sent es delivers.0
reply_is_sending index peer now d (Some bytes) old new es delivers =
    at_is_sending index peer (later_by now d.after_milliseconds) d bytes (nat_le (later_by now d.after_milliseconds) now) old new es delivers

replies_are_sendings : (index now : ℕ) (peers : List SocketAddr) (ds : List Delivery) (old new : ScheduleContent WaitingReply) (es : List WorldEvent) → DeliversAll index now peers ds old es new → AllByRecursion IsSending es
replies_are_sendings index now [] ds old new es delivers = none_sent es delivers.0
replies_are_sendings index now (peer ∷ peers) [] old new es delivers = none_sent es delivers.0
replies_are_sendings index now (peer ∷ peers) (d ∷ ds) old new es delivers =
    subst (λ (l : List WorldEvent). AllByRecursion IsSending l) (sym delivers.3.0)
    (all_more IsSending delivers.0 delivers.1 (reply_is_sending index peer now d d.reply old delivers.2 delivers.0 delivers.3.1.0) (replies_are_sendings index now peers ds delivers.2 new delivers.1 delivers.3.1.1))

pub outcome_is_sending : (index now : ℕ) (peers : List SocketAddr) (outcome : Option (List Delivery)) (old new : ScheduleContent WaitingReply) (es : List WorldEvent) → DeliversIf index now peers outcome old es new
    → AllByRecursion IsSending es
outcome_is_sending index now peers None old new es delivers = none_sent es delivers.0
outcome_is_sending index now peers (Some ds) old new es delivers = replies_are_sendings index now peers ds old new es delivers

-- what datagrams count
abbrev gathered_worth : (SocketAddr → List ℕ → ℕ) → List (SocketAddr × List ℕ) → ℕ
gathered_worth h [] = 0
gathered_worth h (x ∷ xs) = h x.0 x.1 + gathered_worth h xs

abbrev gathered : (SocketAddr → List ℕ → ℕ) → List Datagram → ℕ
gathered h ds = gathered_worth h (map datagram_content ds)

one_gathered : (h : SocketAddr → List ℕ → ℕ) (xs : List (SocketAddr × List ℕ)) (peer : SocketAddr) (bytes : List ℕ) → gathered_worth h (xs ++ (peer, bytes) ∷ []) ≡ gathered_worth h xs + h peer bytes
one_gathered h [] peer bytes = omega arith
one_gathered h (x ∷ xs) peer bytes = let rest = one_gathered h xs peer bytes in omega (arith, rest)

as_requests : (h : SocketAddr → List ℕ → ℕ) (now : ℕ) (ds : List Datagram) → requests_worth h (map (content_at now) ds) ≡ gathered h ds
as_requests h now [] = refl
as_requests h now (d ∷ ds) = ap (λ (n : ℕ). h d.peer d.bytes.items + n) (as_requests h now ds)

added : (h : SocketAddr → List ℕ → ℕ) (peer : SocketAddr) (bytes : List ℕ) (old new : List Datagram) → IsAddedOrLost peer bytes old new → gathered h new ≤ h peer bytes + gathered h old
added h peer bytes old new (inl lost) = let same = ap (gathered h) lost in omega (arith, same)
added h peer bytes old new (inr more) =
    let same = ap (gathered_worth h) more in
    let one = one_gathered h (map datagram_content old) peer bytes in
    omega (arith, same, one)

gathers : (h : SocketAddr → List ℕ → ℕ) (peer : SocketAddr) (bytes : List ℕ) (old new : List Datagram) (taken : Option Bool) → GathersIf taken peer bytes old new → gathered h new ≤ h peer bytes + gathered h old
gathers h peer bytes old new None same = let is = ap (gathered h) same in omega (arith, is)
gathers h peer bytes old new (Some true) same = let is = ap (gathered h) same in omega (arith, is)
gathers h peer bytes old new (Some false) more = added h peer bytes old new more

arrives : (g : ℕ → SocketAddr → List ℕ → ℕ) (index : ℕ) (e : WorldEvent) (old new : List Datagram) (clocks : List WorldEvent) (calls : List HandlerEvent) → IsReceive index e → ReceivesBy e old clocks calls new
    → Pays (requests g) (At e ∷ map At clocks ++ map (By (Socket index)) calls) (gathered (g index) old) (gathered (g index) new)
arrives g index (Received socket bytes peer) old new clocks calls is received =
    let act = At (Received socket bytes peer) in
    let rest = map At clocks ++ map (By (Socket index)) calls in
    let w = gathered (g index) old in
    let more = gathers (g index) peer bytes old new received.0 received.1.1 in
    let brings : g socket peer bytes ≡ g index peer bytes = ap (λ (n : ℕ). g n peer bytes) is in
    pays_both (requests g) (act ∷ []) rest w (gathered (g index) new) (gathered (g index) new)
    (pays_less (requests g) (act ∷ []) (0 + w) (g socket peer bytes + w) w (gathered (g index) new) (omega arith) (omega (arith, more, brings)) (pays_one (requests g) act w))
    (pays_free (requests g) rest (gathered (g index) new) (taken_free (requests g) index (λ shown. (refl, refl)) (λ r is_taken. (refl, refl)) (is_response bytes) bytes peer clocks calls received.0 received.1.0))
arrives g index (Unreceived socket) old new clocks calls is received =
    let w = gathered (g index) old in
    subst (λ (ds : List Datagram). Pays (requests g) (At (Unreceived socket) ∷ map At clocks ++ map (By (Socket index)) calls) w (gathered (g index) ds)) (sym received.1.1)
    (pays_free (requests g) (At (Unreceived socket) ∷ map At clocks ++ map (By (Socket index)) calls) w ((refl, refl), none_free (requests g) index clocks calls received.0 received.1.0))
arrives g index (Sent socket bytes peer taken) old new clocks calls is received = absurd is
arrives g index (Accepted listener peer) old new clocks calls is received = absurd is
arrives g index (Admitted stream admitted) old new clocks calls is received = absurd is
arrives g index (Closed stream) old new clocks calls is received = absurd is
arrives g index (Read stream bytes) old new clocks calls is received = absurd is
arrives g index (Written stream bytes) old new clocks calls is received = absurd is
arrives g index (Clocked moment) old new clocks calls is received = absurd is
arrives g index (Waited most) old new clocks calls is received = absurd is
arrives g index (Woken wake) old new clocks calls is received = absurd is

handled_if : (g : ℕ → SocketAddr → List ℕ → ℕ) (index now : ℕ) (ds : List Datagram) (outcome : Option (List Delivery)) (calls : List HandlerEvent) → HandlesIf now ds calls outcome
    → Pays (requests g) (map (By (Socket index)) calls) (gathered (g index) ds) 0
handled_if g index now ds outcome calls (inl one) =
    let act = By (Socket index) (Handled (map (content_at now) ds) outcome) in
    let costs = as_requests (g index) now ds in
    subst (λ (l : List HandlerEvent). Pays (requests g) (map (By (Socket index)) l) (gathered (g index) ds) 0) (sym one)
    (pays_less (requests g) (act ∷ []) (requests_worth (g index) (map (content_at now) ds) + 0) (0 + 0) (gathered (g index) ds) 0 (omega (arith, costs)) (omega arith) (pays_one (requests g) act 0))
handled_if g index now ds outcome calls (inr none) =
    subst (λ (l : List HandlerEvent). Pays (requests g) (map (By (Socket index)) l) (gathered (g index) ds) 0) (sym none.0)
    (pays_less (requests g) [] 0 0 (gathered (g index) ds) 0 (omega arith) (omega arith) (pays_none (requests g) 0))

requests_at : (g : ℕ → SocketAddr → List ℕ → ℕ) (shown : Option ℕ) (index : ℕ) (ds : List Datagram) (old new : ScheduleContent WaitingReply) (acts : List Act) → HandlesAt shown index ds old acts new
    → Pays (requests g) acts (gathered (g index) ds) 0
requests_at g None index ds old new acts handled =
    subst (λ (l : List Act). Pays (requests g) l (gathered (g index) ds) 0) (sym handled.0) (pays_less (requests g) [] 0 0 (gathered (g index) ds) 0 (omega arith) (omega arith) (pays_none (requests g) 0))
requests_at g (Some now) index ds old new acts handled =
    subst (λ (l : List Act). Pays (requests g) l (gathered (g index) ds) 0) (sym handled.3.0)
    (pays_both (requests g) (map (By (Socket index)) handled.1) (map At handled.2) (gathered (g index) ds) 0 0 (handled_if g index now ds handled.0 handled.1 handled.3.1.0)
    (pays_free (requests g) (map At handled.2) 0 (no_arrivals_are_free g handled.2 (sendings_are_no_arrivals handled.2 (outcome_is_sending index now (map peer_of ds) handled.0 old new handled.2 handled.3.1.1)))))

requests_handled : (g : ℕ → SocketAddr → List ℕ → ℕ) (index : ℕ) (ds : List Datagram) (old new : ScheduleContent WaitingReply) (acts : List Act) → Handles index ds old acts new → Pays (requests g) acts (gathered (g index) ds) 0
requests_handled g index ds old new acts (inl none) =
    subst (λ (l : List Act). Pays (requests g) l (gathered (g index) ds) 0) (sym none.0) (pays_less (requests g) [] 0 0 (gathered (g index) ds) 0 (omega arith) (omega arith) (pays_none (requests g) 0))
requests_handled g index ds old new acts (inr some) =
    subst (λ (l : List Act). Pays (requests g) l (gathered (g index) ds) 0) (sym some.2.0)
    (pays_both (requests g) (At (Clocked some.0) ∷ []) some.1 (gathered (g index) ds) (gathered (g index) ds) 0
    (pays_free (requests g) (At (Clocked some.0) ∷ []) (gathered (g index) ds) ((refl, refl), tt)) (requests_at g some.0 index ds old new some.1 some.2.1))

requests_steps : (g : ℕ → SocketAddr → List ℕ → ℕ) (index : ℕ) (steps : List TurnStep) (ds ds1 : List Datagram) (old new : ScheduleContent WaitingReply) (acts : List Act) → AreSteps index steps ds old acts ds1 new
    → Pays (requests g) acts (gathered (g index) ds) (gathered (g index) ds1)
requests_steps g index [] ds ds1 old new acts are =
    subst (λ (l : List Act). Pays (requests g) l (gathered (g index) ds) (gathered (g index) ds1)) (sym are.0)
    (subst (λ (d : List Datagram). Pays (requests g) [] (gathered (g index) ds) (gathered (g index) d)) (sym are.1.0) (pays_none (requests g) (gathered (g index) ds)))
requests_steps g index (Receive first ∷ steps) ds ds1 old new acts are =
    let received = are.2.1.0 in
    subst (λ (l : List Act). Pays (requests g) l (gathered (g index) ds) (gathered (g index) ds1)) (sym are.2.0)
    (pays_both (requests g) first are.1 (gathered (g index) ds) (gathered (g index) are.0) (gathered (g index) ds1)
    (subst (λ (l : List Act). Pays (requests g) l (gathered (g index) ds) (gathered (g index) are.0)) (sym received.3.0) (arrives g index received.0 ds are.0 received.1 received.2 received.3.1.0 received.3.1.1))
    (requests_steps g index steps are.0 ds1 old new are.1 are.2.1.1))
requests_steps g index (Handle first ∷ steps) ds ds1 old new acts are =
    subst (λ (l : List Act). Pays (requests g) l (gathered (g index) ds) (gathered (g index) ds1)) (sym are.2.0)
    (pays_both (requests g) first are.1 (gathered (g index) ds) 0 (gathered (g index) ds1) (requests_handled g index ds old are.0 first are.2.1.0)
    (requests_steps g index steps [] ds1 are.0 new are.1 are.2.1.1))

notice_handles_nothing : (g : ℕ → SocketAddr → List ℕ → ℕ) (sockets now : ℕ) (notice : NoticeContent) (acts : List Act) → IsNotice sockets now notice acts → AllByRecursion (IsFree (requests g)) acts
notice_handles_nothing g sockets now notice acts is =
    subst (λ (l : List Act). AllByRecursion (IsFree (requests g)) l) (sym is.1.0) ((refl, refl), no_arrivals_are_free g is.0 (sendings_are_no_arrivals is.0 (tries_are_sendings 0 sockets notice.bytes notice.peer is.0 is.1.1)))

notices_handle_nothing : (g : ℕ → SocketAddr → List ℕ → ℕ) (most sockets now : ℕ) (acts : List Act) → AreNotices most sockets now acts → AllByRecursion (IsFree (requests g)) acts
notices_handle_nothing g zero sockets now acts none = subst (λ (l : List Act). AllByRecursion (IsFree (requests g)) l) (sym none) tt
notices_handle_nothing g (suc most) sockets now acts (inl none) = subst (λ (l : List Act). AllByRecursion (IsFree (requests g)) l) (sym none) ((refl, refl), tt)
notices_handle_nothing g (suc most) sockets now acts (inr more) =
    subst (λ (l : List Act). AllByRecursion (IsFree (requests g)) l) (sym more.3.0)
    (all_more (IsFree (requests g)) more.1 more.2 (notice_handles_nothing g sockets now more.0 more.1 more.3.1.0) (notices_handle_nothing g most sockets now more.2 more.3.1.1))

-- ---- what a service does

-- acts that are paid whatever else there is
pub earns_if : (old new : List (Waiting WaitingReply)) (acts : List Act) → ((f : Weight) → Pays (replies f) acts (waiting_worth f old) (waiting_worth f new))
    → ((g : ℕ → SocketAddr → List ℕ → ℕ) → Pays (requests g) acts 0 0) → Earns old new acts
earns_if old new acts pays handles = (replied, arrived)
  where
    replied : EarnsReplies old new acts
    replied f credit enough =
        let paid = pays f 0 credit (omega (arith, enough)) in
        let left = paid.1 in
        (paid.0, omega (arith, left))

    arrived : HandlesArrived acts
    arrived g credit =
        let paid = handles g credit credit (omega arith) in
        let left = paid.1 in
        (paid.0, omega (arith, left))

paid_both : (k : Book) (xs ys : List Act) (credit : ℕ) → AllPaid k credit xs → AllPaid k (left_of k credit xs) ys → AllPaid k credit (xs ++ ys)
paid_both k [] ys credit first next = next
paid_both k (x ∷ xs) ys credit first next = (first.0, paid_both k xs ys (credit - k.cost x + k.gain x) first.1 next)

left_both : (k : Book) (xs ys : List Act) (credit : ℕ) → left_of k credit (xs ++ ys) ≡ left_of k (left_of k credit xs) ys
left_both k [] ys credit = refl
left_both k (x ∷ xs) ys credit = left_both k xs ys (credit - k.cost x + k.gain x)

-- acts after others
pub earns_both : (old mid new : List (Waiting WaitingReply)) (xs ys : List Act) → Earns old mid xs → Earns mid new ys → Earns old new (xs ++ ys)
earns_both old mid new xs ys first next = (replied, arrived)
  where
    replied : EarnsReplies old new (xs ++ ys)
    replied f credit enough =
        let a = first.0 f credit enough in
        let b = next.0 f (left_of (replies f) credit xs) a.1 in
        let left = b.1 in
        let is = left_both (replies f) xs ys credit in
        (paid_both (replies f) xs ys credit a.0 b.0, omega (arith, left, is))

    arrived : HandlesArrived (xs ++ ys)
    arrived g credit =
        let a = first.1 g credit in
        let b = next.1 g (left_of (requests g) credit xs) in
        let more = a.1 in
        let left = b.1 in
        let is = left_both (requests g) xs ys credit in
        (paid_both (requests g) xs ys credit a.0 b.0, omega (arith, more, left, is))

-- a turn of a datagram socket, at whose end some datagrams may be lost
pub turn_earns : (index : ℕ) (old new : ScheduleContent WaitingReply) (lost : List Datagram) (acts : List Act) → IsTurn index [] old lost new acts → Earns old.items new.items acts
turn_earns index old new lost acts turn =
    earns_if old.items new.items acts (λ f. pays_steps f index turn.0 [] lost old new acts turn.1)
    (λ g. pays_less (requests g) acts 0 (gathered (g index) lost) 0 0 (omega arith) (omega arith) (requests_steps g index turn.0 [] lost old new acts turn.1))

-- what is about no datagram
pub aside_earns : (ws : List (Waiting WaitingReply)) (acts : List Act) → AllByRecursion IsAside acts → Earns ws ws acts
aside_earns ws acts all =
    earns_if ws ws acts (λ f. pays_free (replies f) acts (waiting_worth f ws) (all_become IsAside (IsFree (replies f)) (aside_is_free f) acts all)) (λ g. pays_free (requests g) acts 0 (all_become IsAside (IsFree (requests g)) (aside_handles g) acts all))

-- replies whose moment has come
pub due_earns : (now : ℕ) (ws : List (Waiting WaitingReply)) (es : List WorldEvent) → AreSent (all_due now ws) es → Earns ws (all_left now ws) (map At es)
due_earns now ws es sent =
    earns_if ws (all_left now ws) (map At es) (λ f. pays_due f now ws es sent) (λ g. pays_free (requests g) (map At es) 0 (no_arrivals_are_free g es (sendings_are_no_arrivals es (sent_are_sendings (all_due now ws) es sent))))

-- datagrams without a request
pub notices_earn : (ws : List (Waiting WaitingReply)) (most sockets now : ℕ) (acts : List Act) → AreNotices most sockets now acts → Earns ws ws acts
notices_earn ws most sockets now acts notices =
    earns_if ws ws acts (λ f. pays_notices f most sockets now acts (waiting_worth f ws) notices) (λ g. pays_free (requests g) acts 0 (notices_handle_nothing g most sockets now acts notices))

-- ---- acts without one that is free

left_out : (k : Book) (x : Act) → IsFree k x → (m : ℕ) (xs ys : List Act) (credit : ℕ) → AllPaid k credit (xs ++ x ∷ ys) → m ≤ left_of k credit (xs ++ x ∷ ys) → AllPaid k credit (xs ++ ys) × (m ≤ left_of k credit (xs ++ ys))
left_out k x free m [] ys credit paid left =
    let costs = free.0 in
    let brings = free.1 in
    let same : credit - k.cost x + k.gain x ≡ credit = omega (arith, costs, brings) in
    (subst (λ (n : ℕ). AllPaid k n ys) same paid.1, subst (λ (n : ℕ). m ≤ left_of k n ys) same left)
left_out k x free m (y ∷ xs) ys credit paid left =
    let rest = left_out k x free m xs ys (credit - k.cost y + k.gain y) paid.1 left in
    ((paid.0, rest.0), rest.1)

-- without a reading of the clock
pub earns_unclocked : (old new : List (Waiting WaitingReply)) (shown : Option ℕ) (xs ys : List Act) → Earns old new (xs ++ At (Clocked shown) ∷ ys) → Earns old new (xs ++ ys)
earns_unclocked old new shown xs ys earns = (
  λ f credit enough. let paid = earns.0 f credit enough in left_out (replies f) (At (Clocked shown)) (refl, refl) (waiting_worth f new) xs ys credit paid.0 paid.1,
  λ g credit. let paid = earns.1 g credit in left_out (requests g) (At (Clocked shown)) (refl, refl) credit xs ys credit paid.0 paid.1,
)
