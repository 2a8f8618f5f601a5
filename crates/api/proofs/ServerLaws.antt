-- Servers one after another.
use Rattle.std.proofs.Common.{◌≡◌, ◌<◌, ◌+◌, ◌*◌, ◌++◌, ◌∙◌, List, [], ◌∷◌, ℕ, Some, ap, arith, length, length-append, subst, sym}
use mathlib.Core.Logic.{⊎_elim}
use Rattle.std.specs.List.{slice_get, slice_range}
use Rattle.std.specs.declared.net.socket_addr.SocketAddr.{SocketAddr}
use Rattle.std.proofs.Math.ListN.{get_or-append}
use Rattle.std.proofs.Math.Seq.{get_or-append_seam}
use Rattle.std.proofs.lemmas.Bool.{cases_eq}
use Rattle.std.proofs.lemmas.Option.{get_or_from_slice_get, slice_get-get_or, slice_get_within}
use Rattle.api.specs.lookups.Endpoint.{IsEndpoint, endpoint_len}
use Rattle.api.specs.lookups.Servers.{IsServerAt, server_of}
use Rattle.stub_config.specs.declared.config.name_server.NameServerConfig.{NameServerConfig}

-- what is at a place is there with one more at the end
still_there : {X : Type 0} (xs : List X) (y x : X) (k : ℕ) → slice_get xs k ≡ Some x → slice_get (xs ++ y ∷ []) k ≡ Some x
still_there xs y x k is =
    let within : k < length xs = slice_get_within xs k x is in
    let more : length (xs ++ y ∷ []) ≡ length xs + 1 = length-append xs (y ∷ []) in
    slice_get-get_or (xs ++ y ∷ []) k x (omega arith) ∙ ap Some (get_or-append xs (y ∷ []) x k within ∙ get_or_from_slice_get xs k x x is)

-- and the one at the end is there
last_there : {X : Type 0} (xs : List X) (y : X) → slice_get (xs ++ y ∷ []) (length xs) ≡ Some y
last_there xs y =
    let more : length (xs ++ y ∷ []) ≡ length xs + 1 = length-append xs (y ∷ []) in
    slice_get-get_or (xs ++ y ∷ []) (length xs) y (omega arith) ∙ ap Some (get_or-append_seam xs y [] y)

-- one more server
pub one_more : (bytes : List ℕ) (found : List NameServerConfig) (address : SocketAddr) (server : NameServerConfig) (place : ℕ) → length found ≡ place
    → server ≡ server_of address → IsEndpoint (slice_range bytes (place * endpoint_len) (place * endpoint_len + endpoint_len)) address
    → ((k : ℕ) → k < length found → IsServerAt bytes k found) → (k : ℕ) → k < length (found ++ server ∷ []) → IsServerAt bytes k (found ++ server ∷ [])
one_more bytes found address server place count is ends before k within =
    let more : length (found ++ server ∷ []) ≡ length found + 1 = length-append found (server ∷ []) in
    ⊎_elim
    (λ (e : k ≡ length found). record {
      address = address;
      is_endpoint = subst (λ (p : ℕ). IsEndpoint (slice_range bytes (p * endpoint_len) (p * endpoint_len + endpoint_len)) address) (sym (e ∙ count)) ends;
      server_is = ap (slice_get (found ++ server ∷ [])) e ∙ last_there found server ∙ ap Some is;
    })
    (λ (ne : k ≡ length found → ⊥).
    let old : IsServerAt bytes k found = before k (omega arith) in record {
      address = old.address;
      is_endpoint = old.is_endpoint;
      server_is = still_there found server (server_of old.address) k old.server_is;
    })
    (cases_eq k (length found))
