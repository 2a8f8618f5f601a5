-- The places of servers, in turn.
use Rattle.std.proofs.Common.{◌≡◌, ◌≤◌, ◌<◌, ◌+◌, ◌-◌, ℕ, zero, suc, List, ◌∷◌, ◌++◌, length, drop, take, refl, sym, ap, subst, ◌∙◌, arith, Option}
use Rattle.std.specs.Prelude.{All, IsPermutation, filter, not}
use Rattle.std.specs.List.{range_with_len}
use Rattle.std.proofs.lemmas.List.{take-append-drop}
use Rattle.std.proofs.Math.Seq.{drop-append_seam, take-append_seam}
use Rattle.std.proofs.lemmas.List.FromFn.{length-range_with_len, get_or-range_with_len}
use Rattle.std.proofs.lemmas.List.Sorted.{All-permutation, IsPermutation-append_comm, IsPermutation-filter_both, IsPermutation-trans, length_permutation}
use Rattle.stub_servers.specs.Servers.{Servers}
use Rattle.stub_servers.specs.ServerList.{is_fresh_at, order_at, places}

-- a range is a front and a rest
range-append : (a k m n : ℕ) → k + m ≡ n → range_with_len a k ++ range_with_len (a + k) m ≡ range_with_len a n
range-append a zero m n e = ap (λ b. range_with_len b m) (omega arith) ∙ ap (range_with_len a) (omega arith)
range-append a (suc k) m zero e = absurd (omega arith)
range-append a (suc k) m (suc n) e =
    let next : a + 1 + k ≡ a + suc k = omega arith in
    ap (λ xs. a ∷ xs) (ap (λ b. range_with_len (a + 1) k ++ range_with_len b m) (sym next) ∙ range-append (a + 1) k m n (omega arith))

front-of : (k n : ℕ) → k ≤ n → take k (range_with_len 0 n) ≡ range_with_len 0 k
front-of k n h =
    let all = range-append 0 k (n - k) n (omega arith) in
    ap (take k) (sym all)
    ∙ (ap (λ i. take i (range_with_len 0 k ++ range_with_len (0 + k) (n - k))) (sym (length-range_with_len 0 k))
    ∙ take-append_seam (range_with_len 0 k) (range_with_len (0 + k) (n - k)))

rest-of : (k n : ℕ) → k ≤ n → drop k (range_with_len 0 n) ≡ range_with_len k (n - k)
rest-of k n h =
    let all = range-append 0 k (n - k) n (omega arith) in
    let begins : 0 + k ≡ k = omega arith in
    ap (drop k) (sym all)
    ∙ (ap (λ i. drop i (range_with_len 0 k ++ range_with_len (0 + k) (n - k))) (sym (length-range_with_len 0 k))
    ∙ (drop-append_seam (range_with_len 0 k) (range_with_len (0 + k) (n - k)) ∙ ap (λ b. range_with_len b (n - k)) begins))

-- the places in turn are two ranges
pub places-in_turn : (list : Servers) → list.turn ≤ length list.servers
    → range_with_len list.turn (length list.servers - list.turn) ++ range_with_len 0 (list.turn - 0) ≡ places list
places-in_turn list h =
    let none : list.turn - 0 ≡ list.turn = omega arith in
    ap (λ xs. range_with_len list.turn (length list.servers - list.turn) ++ xs) (ap (range_with_len 0) none ∙ sym (front-of list.turn (length list.servers) h))
    ∙ ap (λ xs. xs ++ take list.turn (range_with_len 0 (length list.servers))) (sym (rest-of list.turn (length list.servers) h))

-- an order has each place once
pub order-permutes : (now : ℕ) (list : Servers) → IsPermutation (range_with_len 0 (length list.servers)) (order_at now list)
order-permutes now list =
    let all = range_with_len 0 (length list.servers) in
    let turned : IsPermutation all (places list) =
    subst (λ xs. IsPermutation xs (places list)) (take-append-drop list.turn all) (IsPermutation-append_comm (take list.turn all) (drop list.turn all)) in
    IsPermutation-trans all (places list) (order_at now list) turned (IsPermutation-filter_both (is_fresh_at now list.failed) (λ place. not (is_fresh_at now list.failed place)) (λ place. refl) (places list))

pub order-length : (now : ℕ) (list : Servers) → length (order_at now list) ≡ length list.servers
order-length now list =
    length_permutation (range_with_len 0 (length list.servers)) (order_at now list) (order-permutes now list)
    ∙ length-range_with_len 0 (length list.servers)

pub order-within : (now : ℕ) (list : Servers) → All (λ place. place < length list.servers) (order_at now list)
order-within now list =
    let n = length list.servers in
    All-permutation (λ place. place < n) (range_with_len 0 n) (order_at now list) (order-permutes now list)
    (λ k d h. subst (λ i. i < n) (sym (get_or-range_with_len 0 n k d (omega (arith, h, length-range_with_len 0 n)))) (omega (arith, h, length-range_with_len 0 n)))

-- the places whose servers are fresh, and the others, as two ranges have them
pub order-of : (now : ℕ) (list : Servers) (turn end : ℕ) (failed : List (Option ℕ)) → turn ≡ list.turn → end ≡ length list.servers → failed ≡ list.failed → list.turn ≤ length list.servers
    → filter (is_fresh_at now failed) (range_with_len turn (end - turn) ++ range_with_len 0 (turn - 0)) ++ filter (λ place. not (is_fresh_at now failed place)) (range_with_len turn (end - turn) ++ range_with_len 0 (turn - 0)) ≡ order_at now list
order-of now list turn end failed t e f h =
    let ranges : ℕ → ℕ → List ℕ = λ a b. range_with_len a (b - a) ++ range_with_len 0 (a - 0) in
    let turned : ranges turn end ≡ places list = ap (λ a. ranges a end) t ∙ (ap (ranges list.turn) e ∙ places-in_turn list h) in
    ap (λ xs. filter (is_fresh_at now failed) xs ++ filter (λ place. not (is_fresh_at now failed place)) xs) turned
    ∙ ap (λ fs. filter (is_fresh_at now fs) (places list) ++ filter (λ place. not (is_fresh_at now fs place)) (places list)) f
