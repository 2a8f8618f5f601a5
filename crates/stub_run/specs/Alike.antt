-- Resolvers that are alike: over a handle, and over the states that the handle is in.
use Rattle.std.specs.Prelude.{◌≡◌}
use Rattle.stub_client.specs.declared.caching_client.CachingClient.{CachingClient}
use Rattle.stub_core.specs.declared.resolver.Resolver.{Resolver}

-- the handles are alike, and nothing else differs
pub record AreAlikeClients {H S : Type 0} (is_in : H → S → Type 0) (client : CachingClient H) (other : CachingClient S)
    : Type 0 where
  pub handle : is_in client.handle other.handle
  pub cache : other.cache ≡ client.cache
  pub aliases : other.preserve_intermediates ≡ client.preserve_intermediates

-- the clients of resolvers are alike, and their settings are equal
pub record AreAlike {H S : Type 0} (is_in : H → S → Type 0) (resolver : Resolver H) (other : Resolver S) : Type 0 where
  pub settings : other.settings ≡ resolver.settings
  pub client : AreAlikeClients is_in resolver.client other.client
