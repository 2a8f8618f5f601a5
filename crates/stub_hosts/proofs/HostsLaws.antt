-- The types of addresses, and what is inserted for them.
use Rattle.std.proofs.Common.{◌≡◌, ℕ, List, None, ◌⊎◌, inl, inr, refl, ap, sym, ◌∙◌}
use Rattle.dns_names.specs.Name.{DomainName}
use Rattle.dns_wire.specs.codes.RecordType.{type_of}
use Rattle.dns_wire.specs.declared.codes.record_type.RecordType.{RecordType}
use Rattle.dns_wire.specs.declared.codes.record_type.RecordType.TheVariants as types
use Rattle.dns_messages.specs.declared.query.Query.{Query}
use Rattle.stub_lookup.specs.Lookup.{LookupContent}
use Rattle.stub_hosts.specs.Hosts.{HostsContent, qualified, fresh, with_entry, with_lookup_of, with_lookup, lookup_of_type}
use Rattle.stub_hosts.specs.declared.hosts.table.HostEntry.{HostEntry}

pub address_type_is : (n : ℕ) → (n ≡ 1) ⊎ (n ≡ 28) → (type_of n ≡ types.AAAA → ⊥) → type_of n ≡ types.A
address_type_is n (inl e) other = ap type_of e
address_type_is n (inr e) other = absurd (other (ap type_of e))

module _ (hosts : HostsContent) where
  module _ (name own : DomainName) (kind : RecordType) (lookup : LookupContent) (now : ℕ) (new : List HostEntry) (own_is : own ≡ qualified name) where
    pub inserted_a : kind ≡ types.A → new ≡ with_entry own (fresh own types.A now) lookup hosts.a → record hosts { a = new } ≡ with_lookup hosts name kind lookup now
    inserted_a kind_is new_is =
        let own_new : new ≡ with_lookup_of types.A name lookup now hosts.a = new_is ∙ ap (λ n. with_entry n (fresh n types.A now) lookup hosts.a) own_is in
        ap (λ es. record hosts { a = es }) own_new ∙ ap (λ t. with_lookup hosts name t lookup now) (sym kind_is)

    pub inserted_aaaa : kind ≡ types.AAAA → new ≡ with_entry own (fresh own types.AAAA now) lookup hosts.aaaa → record hosts { aaaa = new } ≡ with_lookup hosts name kind lookup now
    inserted_aaaa kind_is new_is =
        let own_new : new ≡ with_lookup_of types.AAAA name lookup now hosts.aaaa = new_is ∙ ap (λ n. with_entry n (fresh n types.AAAA now) lookup hosts.aaaa) own_is in
        ap (λ es. record hosts { aaaa = es }) own_new ∙ ap (λ t. with_lookup hosts name t lookup now) (sym kind_is)

  pub other_type_unknown : (query : Query) (now : ℕ) (kind : RecordType) → (kind ≡ types.A → ⊥) → (kind ≡ types.AAAA → ⊥) → (kind ≡ types.PTR → ⊥) → lookup_of_type kind hosts query now ≡ None
  other_type_unknown query now types.A not_a not_aaaa not_ptr = absurd (not_a refl)
  other_type_unknown query now types.AAAA not_a not_aaaa not_ptr = absurd (not_aaaa refl)
  other_type_unknown query now types.PTR not_a not_aaaa not_ptr = absurd (not_ptr refl)
  other_type_unknown query now kind not_a not_aaaa not_ptr = refl
