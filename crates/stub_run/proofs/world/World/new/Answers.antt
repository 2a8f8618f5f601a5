use Rattle.std.proofs.Common.{◌≡◌, false}
use Rattle.stub_core.specs.ResolverBuilder.{is_unsupported}
use Rattle.stub_lookup.specs.declared.error.NetError.TheVariants.{Unsupported}
use Rattle.stub_run.proofs.Beginning.{is-false, ok-is-no-error, world-begins}
use Rattle.stub_run.proofs.world.World.new.Goals as goal

pub returns-clause-supported : goal.returns-clause-supported
returns-clause-supported c = λ supported.
    world-begins c.args.zone c.args.limit c.args.ids.items c.args.config c.args.options c.args.hosts c.new-link.result
    (record { alloc = c.args.alloc; resolver = c.in_ok-resolver.resolver }) c.new-link.ensures.state
    (c.in_ok-resolver.ensures.supported supported)

pub returns-clause-content : goal.returns-clause-content
returns-clause-content c =
    let supported : is_unsupported c.args.options ≡ false = is-false (is_unsupported c.args.options)
    (λ is. ok-is-no-error c.in_ok-resolver.resolver Unsupported (c.in_ok-resolver.ensures.unsupported is)) in
    let made = returns-clause-supported c supported in
    record { zone = c.origin-origin.ensures.well_formed; payload = c.payload_len-payload.ensures; state = made.0; first = made.1; begins = made.2 }
