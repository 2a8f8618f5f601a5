-- Lookups of a resolver: the names that are attempted, and the options of the requests.
use Rattle.std.proofs.Common.{◌≡◌, inr, ℕ, subst}
use Rattle.std.specs.Prelude.{List, Option, Ok}
use Rattle.dns_wire.specs.declared.codes.record_type.RecordType.{RecordType}
use Rattle.dns_names.specs.Name.{DomainName}
use Rattle.dns_data.specs.declared.rdata.RData.{RData}
use Rattle.dns_messages.specs.declared.query.Query.{Query}
use Rattle.stub_config.specs.declared.request_options.DnsRequestOptions.{DnsRequestOptions}
use Rattle.stub_core.specs.Attempts.{AttemptsWithHosts, UnlessMemory}
use Rattle.stub_client.specs.Handle.{Behavior}
use Rattle.stub_client.specs.Looks.{Answers, Reply}
use Rattle.stub_core.specs.Resolver.{AnswersName, LooksUpName, asks_of, names_for, request_options}
use Rattle.stub_core.specs.Strategies.{LooksUpIp}
use Rattle.stub_client.specs.declared.caching_client.CachingClient.{CachingClient}
use Rattle.stub_core.specs.declared.resolver.Resolver.{Resolver}

module _ {H : Type 0} (gives : Behavior H) (now : ℕ) (self : Resolver H) (name : DomainName)
    (options : DnsRequestOptions) (attempted : List DomainName) (old : CachingClient H) (reply : Reply) (new : CachingClient H)
    (is_options : options ≡ request_options self.settings.options) (is_attempted : attempted ≡ names_for self.settings name) where
  -- what a client is asked with options
  abbrev Asked : DnsRequestOptions → CachingClient H → Query → Reply → CachingClient H → Type 0
  Asked o old q reply new = Answers gives o now old q reply new

  pub answers-name : (kind : RecordType)
      → AttemptsWithHosts self.settings.hosts now (λ old q reply new. Asked options old q reply new) kind old attempted reply new
      → UnlessMemory (AnswersName self.settings now (asks_of gives now self) (Ok name) kind old reply new) old reply new
  answers-name kind attempts =
      let with_names = subst (λ (ns : List DomainName). AttemptsWithHosts self.settings.hosts now (λ old q reply new. Asked options old q reply new) kind old ns reply new) is_attempted attempts in
      inr (subst (λ (o : DnsRequestOptions). AttemptsWithHosts self.settings.hosts now (λ old q reply new. Asked o old q reply new) kind old (names_for self.settings name) reply new) is_options with_names)

  pub answers-addresses : (finally : Option RData)
      → LooksUpIp self.settings.options.ip_strategy self.settings.hosts now (λ old q reply new. Asked options old q reply new) finally old attempted reply new
      → UnlessMemory (LooksUpName self.settings now (asks_of gives now self) finally (Ok name) old reply new) old reply new
  answers-addresses finally attempts =
      let with_names = subst (λ (ns : List DomainName). LooksUpIp self.settings.options.ip_strategy self.settings.hosts now (λ old q reply new. Asked options old q reply new) finally old ns reply new) is_attempted attempts in
      inr (subst (λ (o : DnsRequestOptions). LooksUpIp self.settings.options.ip_strategy self.settings.hosts now (λ old q reply new. Asked o old q reply new) finally old (names_for self.settings name) reply new) is_options with_names)
