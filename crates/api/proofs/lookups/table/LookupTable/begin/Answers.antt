use Rattle.std.proofs.Common.{List, ℕ, refl, rules, subst}
use Rattle.std.proofs.lemmas.Result.{err_from_is_err_and}
use Rattle.dns_wire.specs.codes.RecordType.{type_of}
use Rattle.dns_wire.specs.declared.codes.record_type.RecordType.{RecordType}
use Rattle.api_resolver.specs.Lookup.{Goes, course_of}
use Rattle.api.specs.lookups.Table.{BeginsLookup, is_refused, no_memory_for_lookup}
use Rattle.api.specs.declared.lookups.refusal.LookupRefusal.TheVariants as refusal
use Rattle.api.specs.declared.lookups.table.LookupTable.{LookupTable}
use Rattle.api.proofs.TableLaws.{begins_there, unbegun}
use Rattle.api.proofs.lookups.table.LookupTable.begin.Goals as goal

pub returns-in_err-name : goal.returns-in_err-name
returns-in_err-name c =
    let p = err_from_is_err_and c.from_residual.result c.from_residual.ensures.1 in
    rw (p.1, p.2) (is_refused c.in_err-name.field-0.0 c.args.self.now (unbegun c.args.self.now c.args.name.now c.in_err-name.field-0.0 c.in_err-name.ensures.refused) refl)

pub returns-in_err-ids : goal.returns-in_err-ids
returns-in_err-ids c =
    let p = err_from_is_err_and c.from_residual-in_err-ids.result c.from_residual-in_err-ids.ensures.1 in
    rw (p.1, p.2) (is_refused refusal.Memory c.args.self.now tt refl)

pub returns-in_default : goal.returns-in_default
returns-in_default c = is_refused refusal.NoNumber c.args.self.now (search rules) refl

pub returns-in-Ok : goal.returns-in-Ok
returns-in-Ok c =
    let new : LookupTable = record { resolver = c.begin-lookup.new.self; lookups = c.insert.new.self; next = c.in-Some.next } in
    let kind = subst (λ (k : RecordType). Goes c.args.self.now.resolver (course_of c.in_ok-name.name k c.in_ok-ids.ids.items c.args.clock) c.args.clock c.begin-lookup.result.state c.begin-lookup.result.course new.resolver) c.from-kind.ensures c.begin-lookup.ensures in
    let goes = subst (λ (ids : List ℕ). Goes c.args.self.now.resolver (course_of c.in_ok-name.name (type_of c.args.record_type) ids c.args.clock) c.args.clock c.begin-lookup.result.state c.begin-lookup.result.course new.resolver) c.in_ok-ids.ensures.items kind in
    let begins : BeginsLookup c.args.self.now c.args.name.now c.args.record_type c.args.ids.now c.args.clock c.begin-lookup.result new = record { name = c.in_ok-name.name; name_is = c.in_ok-name.ensures.name; goes = goes } in
    begins_there c.args.self.now new c.args.name.now c.args.record_type c.args.ids.now c.args.clock c.begin-lookup.result begins c.in-Ok.ensures.updates (search rules)

pub returns : goal.returns
returns c =
    let new : LookupTable = record { resolver = c.begin-lookup.new.self; lookups = c.insert.new.self; next = c.args.self.now.next } in
    let kind = subst (λ (k : RecordType). Goes c.args.self.now.resolver (course_of c.in_ok-name.name k c.in_ok-ids.ids.items c.args.clock) c.args.clock c.begin-lookup.result.state c.begin-lookup.result.course new.resolver) c.from-kind.ensures c.begin-lookup.ensures in
    let goes = subst (λ (ids : List ℕ). Goes c.args.self.now.resolver (course_of c.in_ok-name.name (type_of c.args.record_type) ids c.args.clock) c.args.clock c.begin-lookup.result.state c.begin-lookup.result.course new.resolver) c.in_ok-ids.ensures.items kind in
    let begins : BeginsLookup c.args.self.now c.args.name.now c.args.record_type c.args.ids.now c.args.clock c.begin-lookup.result new = record { name = c.in_ok-name.name; name_is = c.in_ok-name.ensures.name; goes = goes } in
    no_memory_for_lookup c.begin-lookup.result new begins (search rules) refl
