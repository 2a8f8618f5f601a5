-- An exchange over sockets each of whose calls ends in time, at most three milliseconds late. Two servers are asked in one round, with a
-- time-out of 100 milliseconds. At each a datagram that is not the reply arrives, and the deadline passes.
use Rattle.std.proofs.Common.{◌-◌, ◌^◌, ℕ, [], ◌∷◌, Some, None, true, false, Ok, Err, refl, arith}
use Rattle.std.specs.Global.{Global}
use Rattle.std.specs.declared.net.socket_addr.SocketAddr.{SocketAddr}
use Rattle.std.specs.declared.ops.ControlFlow.TheVariants.{Continue}
use Rattle.stub_client.specs.Handle.{Outcome}
use Rattle.stub_lookup.specs.declared.error.LinkFault.TheVariants as fault
use Rattle.stub_lookup.specs.declared.error.NetError.TheVariants as net
use Rattle.stub_servers.specs.ServerList.{servers_from, with_failure}
use Rattle.stub_servers.specs.declared.server.Server.{Server}
use Rattle.stub_net.specs.Exchange.{Exchanges, TriesPlace, all_tried, next_is_tried, no_try, plan_runs, server_declined}
use Rattle.stub_net.specs.Network.{NetworkCalls}
use Rattle.stub_net.specs.Time.{EndsInTime, prompt_calls}
use Rattle.stub_net.specs.Try.{Tries, first_counts}
use Rattle.stub_net.specs.Wait.{Awaits, deadline_passes, other_arrives}
use Rattle.stub_net.specs.declared.pool.NameServerPool.{NameServerPool}
use Rattle.stub_net.specs.declared.requester.Requester.{Requester}
use Rattle.stub_net.proofs.TimeLaws.{exchange-ends, prompt-is_timed}
use Rattle.stub_net.proofs.TimeWitness.{encodes, no_message, question, request}
use Rattle.stub_net_sockets.specs.SocketNetwork.{socket_calls, socket_clock}
use Rattle.stub_net_sockets.specs.declared.socket_network.SocketNetwork.{SocketNetwork}
use Rattle.stub_net_sockets.proofs.ClockLaws.{sockets-clock}

module _ {R I : Type 0} (network : SocketNetwork R) (alloc : Global) (one other : SocketAddr) (ids : I) where
  -- a state whose clock was last read at a moment
  abbrev at : ℕ → SocketNetwork R
  at moment = record network { clock = record network.clock { last = moment } }

  abbrev calls : NetworkCalls (SocketNetwork R)
  calls = prompt_calls socket_clock 3 socket_calls

  -- the clock is read, two milliseconds after it was read last; of the first server the deadline passes at 102, and of the other at 207
  start : calls.reads_clock (at 0) 0 (at 0)
  start = (record { kept = omega arith; noted = refl }, omega arith)

  wait : calls.reads_clock (at 0) 2 (at 2)
  wait = (record { kept = omega arith; noted = refl }, omega arith)

  strays : calls.receives (at 2) 102 (Ok (Some [])) (at 60)
  strays = (record { kept = omega arith; passed = λ e. absurd (cc e); arrived = λ bytes e. omega arith }, omega arith)

  passes : calls.receives (at 60) 102 (Ok None) (at 104)
  passes = (record { kept = omega arith; passed = λ e. omega arith; arrived = λ bytes e. absurd (cc e) }, omega arith)

  fails : calls.reads_clock (at 104) 105 (at 105)
  fails = (record { kept = omega arith; noted = refl }, omega arith)

  wait_other : calls.reads_clock (at 105) 107 (at 107)
  wait_other = (record { kept = omega arith; noted = refl }, omega arith)

  strays_other : calls.receives (at 107) 207 (Ok (Some [])) (at 206)
  strays_other = (record { kept = omega arith; passed = λ e. absurd (cc e); arrived = λ bytes e. omega arith }, omega arith)

  passes_other : calls.receives (at 206) 207 (Ok None) (at 210)
  passes_other = (record { kept = omega arith; passed = λ e. omega arith; arrived = λ bytes e. absurd (cc e) }, omega arith)

  fails_other : calls.reads_clock (at 210) 211 (at 211)
  fails_other = (record { kept = omega arith; noted = refl }, omega arith)

  abbrev quiet : Outcome
  quiet = Err (net.Link fault.Quiet)

  awaits : Awaits calls question 102 (2 ^ 64 - 1) (at 2) 0 quiet (at 104) 1
  awaits = other_arrives (2 ^ 64 - 1) (at 2) 0 [] (at 60) quiet (at 104) 1 (omega arith) strays (λ m reads. absurd (no_message m reads))
      (deadline_passes (2 ^ 64 - 2) (at 60) 1 (at 104) (omega arith) passes)

  awaits_other : Awaits calls question 207 (2 ^ 64 - 1) (at 107) 1 quiet (at 210) 2
  awaits_other = other_arrives (2 ^ 64 - 1) (at 107) 1 [] (at 206) quiet (at 210) 2 (omega arith) strays_other (λ m reads. absurd (no_message m reads))
      (deadline_passes (2 ^ 64 - 2) (at 206) 2 (at 210) (omega arith) passes_other)

  abbrev server : SocketAddr → Server
  server address = record { udp = Some address; tcp = None; trust_negative_responses = true }

  abbrev requester : Requester (SocketNetwork R)
  requester = record { alloc = alloc; network = at 0; timeout = 100; streams_alone = false; counts = first_counts }

  abbrev after_one : Requester (SocketNetwork R)
  after_one = record requester { network = at 104; counts = record first_counts { datagrams = 1; dropped = 1 } }

  abbrev before_other : Requester (SocketNetwork R)
  before_other = record after_one { network = at 105 }

  abbrev after_both : Requester (SocketNetwork R)
  after_both = record requester { network = at 210; counts = record first_counts { datagrams = 2; dropped = 2 } }

  tries : Tries calls question request (server one) requester quiet after_one
  tries = record {
    waited = quiet;
    mid = after_one;
    sent = record {
      result = Ok tt;
      network = at 0;
      sends = (refl, omega arith);
      after = record {
        deadline = 102;
        mid = record requester { network = at 2; counts = record first_counts { datagrams = 1 } };
        network = at 104;
        dropped = 1;
        reads = record { start = 2; after = at 2; reads = wait; deadline_is = refl; new_is = refl };
        awaits = awaits;
        new_is = refl;
      };
    };
    ends = (refl, refl);
  }

  tries_other : Tries calls question request (server other) before_other quiet after_both
  tries_other = record {
    waited = quiet;
    mid = after_both;
    sent = record {
      result = Ok tt;
      network = at 105;
      sends = (refl, omega arith);
      after = record {
        deadline = 207;
        mid = record before_other { network = at 107; counts = record first_counts { datagrams = 2; dropped = 1 } };
        network = at 210;
        dropped = 2;
        reads = record { start = 107; after = at 107; reads = wait_other; deadline_is = refl; new_is = refl };
        awaits = awaits_other;
        new_is = refl;
      };
    };
    ends = (refl, refl);
  }

  abbrev pool : NameServerPool (SocketNetwork R) I
  pool = record { alloc = alloc; requester = requester; ids = ids; servers = servers_from (server one ∷ server other ∷ []) false; attempts = 1 }

  abbrev pool_between : NameServerPool (SocketNetwork R) I
  pool_between = record pool { requester = before_other; servers = with_failure 0 (Some 105) pool.servers }

  abbrev pool_after : NameServerPool (SocketNetwork R) I
  pool_after = record pool { requester = record after_both { network = at 211 }; servers = with_failure 1 (Some 211) pool_between.servers }

  at_one : TriesPlace calls question request 0 pool (Continue quiet) pool_between
  at_one = server_declined quiet after_one 105 (at 105) tries refl fails

  at_other : TriesPlace calls question request 1 pool_between (Continue quiet) pool_after
  at_other = server_declined quiet after_both 211 (at 211) tries_other refl fails_other

  pub exchange : Exchanges calls question pool quiet pool_after
  exchange = plan_runs request 0 (at 0) quiet pool_after encodes start
      (next_is_tried 0 (1 ∷ []) no_try pool quiet pool_between quiet pool_after at_one
      (next_is_tried 1 [] quiet pool_between quiet pool_after quiet pool_after at_other (all_tried quiet pool_after)))

  -- it ended at 211; the bound is 439
  pub ends : EndsInTime socket_clock 3 pool pool_after
  ends = exchange-ends calls socket_clock 3 question pool pool_after quiet (prompt-is_timed socket_calls socket_clock 3 sockets-clock) exchange
