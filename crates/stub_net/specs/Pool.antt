-- A handle that asks the servers of a list.
use Rattle.std.specs.Prelude.{◌≡◌, ◌*◌, ◌-◌, ◌^◌, min, max, true, false, ℕ, Option, Some, None, Result, Err}
use Rattle.dns_messages.specs.declared.message.Message.{Message}
use Rattle.dns_messages.specs.declared.query.Query.{Query}
use Rattle.dns_messages.specs.declared.response_code.ResponseCode.{ResponseCode}
use Rattle.stub_client.specs.Handle.{Outcome}
use Rattle.stub_link.specs.Request.{IsQuestion, with_id}
use Rattle.stub_link.specs.Update.{code_of}
use Rattle.stub_lookup.specs.declared.error.LinkFault.TheVariants as fault
use Rattle.stub_lookup.specs.declared.error.NetError.{NetError}
use Rattle.stub_lookup.specs.declared.error.NetError.TheVariants as net
use Rattle.stub_servers.specs.Servers.{Servers}
use Rattle.stub_net.specs.Exchange.{Exchanges}
use Rattle.stub_net.specs.Network.{NetworkCalls}
use Rattle.stub_net.specs.Try.{count_fault, first_counts}
use Rattle.stub_net.specs.declared.pool.NameServerPool.{NameServerPool}

-- a pool before it is asked: it waits for each reply so many seconds, and makes so many rounds, at least one
pub record IsFirstPool {N I : Type 0} (network : N) (ids : I) (servers : Servers) (seconds attempts : ℕ)
    (pool : NameServerPool N I) : Type 0 where
  pub network_is : pool.requester.network ≡ network
  pub ids_are : pool.ids ≡ ids
  pub servers_are : pool.servers ≡ servers
  pub timeout_is : pool.requester.timeout ≡ min (seconds * 1000) (2 ^ 64 - 1)
  pub attempts_are : pool.attempts ≡ max attempts 1
  pub sends_datagrams : pool.requester.streams_alone ≡ false
  pub counts_are : pool.requester.counts ≡ first_counts

-- a pool that uses streams alone
abbrev pub streams_alone : {N I : Type 0} → NameServerPool N I → NameServerPool N I
streams_alone pool = record pool { requester = record pool.requester { streams_alone = true } }

-- a pool that waits so many milliseconds for each reply
abbrev pub with_timeout : {N I : Type 0} → ℕ → NameServerPool N I → NameServerPool N I
with_timeout milliseconds pool = record pool { requester = record pool.requester { timeout = milliseconds } }

-- the fault of an outcome is counted, if it is one
abbrev pub count_pool_fault : {N I : Type 0} → Outcome → NameServerPool N I → NameServerPool N I
count_pool_fault outcome pool = record pool { requester = count_fault outcome pool.requester }

-- A request is asked: one that is no question is not supported, and nothing happens. Any other is sent under an id that is drawn for
-- it, or is F9 if there is none.
pub data Asks {N I : Type 0} (calls : NetworkCalls N) (draws : I → Option ℕ → I → Type 0) (old : NameServerPool N I) (m : Message)
    : Outcome → NameServerPool N I → Type 0 where
  not_a_question : ((q : Query) → ¬ IsQuestion m q) → Asks calls draws old m (Err net.Unsupported) old
  no_id_is_drawn : (q : Query) (ids : I) → IsQuestion m q → draws old.ids None ids
      → Asks calls draws old m (Err (net.Link fault.NoId)) (record old { ids = ids })
  is_asked : (q : Query) (id : ℕ) (ids : I) (outcome : Outcome) (new : NameServerPool N I) → IsQuestion m q
      → draws old.ids (Some id) ids → Exchanges calls (with_id id m) (record old { ids = ids }) outcome new
      → Asks calls draws old m outcome new

-- One request, its outcome, and the pool afterwards, with the fault counted.
pub record Gives {N I : Type 0} (calls : NetworkCalls N) (draws : I → Option ℕ → I → Type 0) (old : NameServerPool N I)
    (m : Message) (outcome : Outcome) (new : NameServerPool N I) : Type 0 where
  pub uncounted : NameServerPool N I
  pub asks : Asks calls draws old m outcome uncounted
  pub counted : new ≡ count_pool_fault outcome uncounted

-- One update under its own id, the response code of its reply or the fault, and the pool afterwards, with the fault counted.
pub record Updates {N I : Type 0} (calls : NetworkCalls N) (old : NameServerPool N I) (update : Message)
    (reply : Result ResponseCode NetError) (new : NameServerPool N I) : Type 0 where
  pub outcome : Outcome
  pub uncounted : NameServerPool N I
  pub exchange : Exchanges calls update old outcome uncounted
  pub reply_is : reply ≡ code_of outcome
  pub counted : new ≡ count_pool_fault outcome uncounted
