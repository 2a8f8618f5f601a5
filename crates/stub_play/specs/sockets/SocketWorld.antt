-- Worlds over sockets.
use Rattle.stub_core.specs.declared.resolver.Resolver.{Resolver}
use Rattle.stub_link.specs.declared.wire_handle.WireHandle.{WireHandle}
use Rattle.stub_play.specs.declared.sockets.socket_link.SocketLink.{SocketLink}
use Rattle.stub_play.specs.declared.sockets.world.SocketWorld.{SocketWorld}

-- the resolver of a world
abbrev pub resolver_of : {R : Type 0} → SocketWorld R → Resolver (WireHandle (SocketLink R))
resolver_of world = world.resolver
