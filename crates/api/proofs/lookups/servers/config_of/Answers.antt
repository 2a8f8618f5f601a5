use Rattle.std.proofs.Common.{◌≡◌, ℕ, ◌<◌, ◌+◌, length, List, [], ◌∷◌, ◌++◌, ◌∙◌, ap, length-append, subst, sym}
use Rattle.api.specs.lookups.Servers.{IsServerAt}
use Rattle.stub_config.specs.declared.config.name_server.NameServerConfig.{NameServerConfig}
use Rattle.api.proofs.ServerLaws.{one_more}
use Rattle.api.proofs.lookups.servers.config_of.Goals as goal

pub loop-place-preserved : goal.loop-place-preserved
loop-place-preserved c =
    let found : List NameServerConfig = c.loop-place.found.items in
    let server : NameServerConfig = c.in_ok-server_at.field-0 in
    let pushed : c.push.new.self.items ≡ found ++ server ∷ [] = c.in_ok-push.ensures.items in
    let count : length found ≡ c.loop-place.place = c.loop-place.invariant.count_is in record {
      count_is = ap length pushed ∙ length-append found (server ∷ []) ∙ ap (λ (n : ℕ). n + 1) count;
      servers_are = subst (λ (servers : List NameServerConfig). (k : ℕ) → k < length servers → IsServerAt c.args.servers.now k servers) (sym pushed)
          (one_more c.args.servers.now found c.endpoint_of-address.result server c.loop-place.place count c.in_ok-server_at.ensures c.endpoint_of-address.ensures c.loop-place.invariant.servers_are);
    }
