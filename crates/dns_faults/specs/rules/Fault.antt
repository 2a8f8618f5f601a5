-- The actions of a rule, and those that apply on a transport.
use Rattle.std.specs.Prelude.{◌||◌, Bool, true, false, None, is_some}
use Rattle.dns_faults.specs.declared.rules.fault.Fault.{Fault}
use Rattle.dns_faults.specs.declared.rules.fault.Service.{Service}
use Rattle.dns_faults.specs.declared.rules.fault.Service.TheVariants as services
use Rattle.dns_faults.specs.declared.rules.fault.Transport.{Transport}
use Rattle.dns_faults.specs.declared.rules.fault.Transport.TheVariants.{Datagram, Stream}

-- no action
abbrev pub no_fault : Fault
no_fault = record {
  service = services.Plain;
  truncate = false;
  wrong_id = false;
  wrong_question = false;
  garbage = None;
  delay = None;
  duplicate = false;
  close = None;
}

-- A connection can only be closed on a stream, and only a datagram is truncated or sent twice.
abbrev pub on_transport : Transport → Fault → Fault
on_transport Datagram f = record f { close = None }
on_transport Stream f = record f { truncate = false; duplicate = false }

-- whether a request is answered with something else than the server's reply
abbrev pub is_special : Service → Bool
is_special services.Plain = false
is_special other = true

-- whether an action changes what the reply is
abbrev pub changes_reply : Fault → Bool
changes_reply f =
    is_special f.service || (f.truncate || (f.wrong_id || (f.wrong_question || is_some f.garbage)))

-- whether an action changes how the reply is sent
abbrev pub changes_delivery : Fault → Bool
changes_delivery f = is_some f.delay || (f.duplicate || is_some f.close)

-- whether there is an action
abbrev pub has_action : Fault → Bool
has_action f = changes_reply f || changes_delivery f
