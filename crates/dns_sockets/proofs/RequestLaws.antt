-- What arrived as requests, one after another.
use Rattle.std.proofs.Common.{◌≡◌, ◌∙◌, ◌+◌, ◌<◌, ◌≤◌, ℕ, List, [], ◌∷◌, ◌++◌, length, map, take, get_or, refl, sym, ap}
use Rattle.std.proofs.lemmas.List.{map-append, take_all, take_more}
use Rattle.dns_sockets.specs.Handler.{RequestContent, request_content}
use Rattle.dns_sockets.specs.declared.handler.Request.{Request}

module _ {A : Type 0} (content : A → RequestContent) where
  -- one more is a request
  pub requests_more : (i : ℕ) (arrived : List A) (default : A) (requests more : List Request) (r : Request) → i < length arrived → more ≡ requests ++ r ∷ []
      → request_content r ≡ content (get_or arrived i default) → map request_content requests ≡ map content (take i arrived)
      → map request_content more ≡ map content (take (i + 1) arrived)
  requests_more i arrived default requests more r below is one so_far =
      ap (map request_content) is ∙ map-append request_content requests (r ∷ [])
      ∙ (λ j. so_far j ++ one j ∷ [])
      ∙ sym (map-append content (take i arrived) (get_or arrived i default ∷ []))
      ∙ ap (map content) (sym (take_more arrived i default below))

  -- all are requests
  pub requests_whole : (i : ℕ) (arrived : List A) (requests : List Request) → length arrived ≤ i → map request_content requests ≡ map content (take i arrived)
      → map request_content requests ≡ map content arrived
  requests_whole i arrived requests all so_far = so_far ∙ ap (map content) (take_all i arrived all)
