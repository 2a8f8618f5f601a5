-- A turn in which two datagrams arrive, and then the clock shows the moment of both.
use Rattle.std.proofs.Common.{◌≡◌, true, false, ℕ, List, [], ◌∷◌, ◌++◌, map, Option, Some, refl}
use Rattle.std.specs.Global.{Vec}
use Rattle.std.specs.declared.net.socket_addr.SocketAddr.{SocketAddr}
use Rattle.dns_sockets.proofs.EarnsWitness as run
use Rattle.dns_sockets.proofs.MomentLaws.{dated}
use Rattle.dns_sockets.proofs.ServedLaws.{turn_served}
use Rattle.dns_sockets.specs.Datagrams.{content_at}
use Rattle.dns_sockets.specs.Handler.{Handled}
use Rattle.dns_sockets.specs.Moments.{AreTimed, IsDated}
use Rattle.dns_sockets.specs.Notices.{is_response}
use Rattle.dns_sockets.specs.Served.{IsServed}
use Rattle.dns_sockets.specs.Trace.{Act, At, By, Socket}
use Rattle.dns_sockets.specs.World.{Clocked, Sent}
use Rattle.dns_sockets.specs.declared.stream.Stream.{Stream}

module _ (first second : SocketAddr) (question reply other : Vec ℕ) (asks : is_response question.items ≡ false) where
  abbrev before : List Act
  before = run.arrived first second question reply other asks first ++ run.arrived first second question reply other asks second ++ At (Clocked (Some 5)) ∷ []

  -- the premise of the law is met
  pub served : (slots : List (Option Stream)) → IsServed [] slots [] slots (run.clocked first second question reply other asks)
  served slots = turn_served 0 (run.none_waits first second question reply other asks) (run.none_waits first second question reply other asks) [] (run.clocked first second question reply other asks) slots (run.turn first second question reply other asks)

  -- both requests have the moment that was shown after the second had arrived
  pub moment_is_shown : IsDated 5 before
  moment_is_shown =
      dated before (Socket 0) (Handled (map (content_at 5) (run.from first second question reply other asks first ∷ run.from first second question reply other asks second ∷ []))
      (Some (run.once first second question reply other asks ∷ run.twice first second question reply other asks ∷ [])))
      (At (Sent 0 reply.items first true) ∷ At (Sent 0 other.items second true) ∷ At (Sent 0 other.items second false) ∷ []) 1 (content_at 5 (run.from first second question reply other asks second)) (served []).timed refl

  -- and not one that was shown before
  pub moment_of_before_is_refused : AreTimed (Some 5) (run.acts first second question reply other asks) → ⊥
  moment_of_before_is_refused timed = cc timed.1.1.0.0
