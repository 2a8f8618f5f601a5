-- The codes of updates fit the header of a reply.
use Rattle.std.proofs.Common.{◌≡◌, ◌<◌, Bool, true, false, cond, List, [], ◌∷◌, refl, lit<}
use Rattle.dns_wire.specs.declared.codes.record_type.RecordType.TheVariants as types
use Rattle.dns_wire.specs.declared.codes.dns_class.DNSClass.{DNSClass}
use Rattle.dns_wire.specs.declared.codes.dns_class.DNSClass.TheVariants as classes
use Rattle.dns_names.specs.Name.{DomainName}
use Rattle.dns_records.specs.Record.{Record}
use Rattle.dns_records.specs.Rows.{Rows}
use Rattle.dns_messages.specs.declared.message.Message.{Message}
use Rattle.dns_messages.specs.declared.query.Query.{Query}
use Rattle.dns_messages.specs.declared.response_code.ResponseCode.{ResponseCode}
use Rattle.dns_messages.specs.declared.response_code.ResponseCode.TheVariants.{NoError, FormErr, NXDomain, YXDomain, YXRRSet, NXRRSet, NotAuth, NotZone}
use Rattle.dns_messages.specs.Header.{code_number, code_of}
use Rattle.dns_updates.specs.Records.{is_of_type}
use Rattle.dns_updates.specs.Code.{absence_code, existence_code, fault_if, first_fault, first_fault_of, prerequisite_code, prescan_code, test_code, update_code, zone_code}

-- a code of four bits, which its number stands for
pub record IsHeaderCode (c : ResponseCode) : Type 0 where
  pub fits : code_number c < 16
  pub named : code_of (code_number c) ≡ c

no_error : IsHeaderCode NoError
no_error = record { fits = lit< tt; named = refl }

form_err : IsHeaderCode FormErr
form_err = record { fits = lit< tt; named = refl }

not_zone : IsHeaderCode NotZone
not_zone = record { fits = lit< tt; named = refl }

first : (a b : ResponseCode) → IsHeaderCode a → IsHeaderCode b → IsHeaderCode (first_fault a b)
first NoError b ha hb = hb
first other b ha hb = ha

fault : (b : Bool) (c : ResponseCode) → IsHeaderCode c → IsHeaderCode (fault_if b c)
fault true c h = h
fault false c h = no_error

first_of : {A : Type 0} (code : A → ResponseCode) → ((x : A) → IsHeaderCode (code x)) → (xs : List A) → IsHeaderCode (first_fault_of code xs)
first_of code h [] = no_error
first_of code h (x ∷ xs) = first (code x) (first_fault_of code xs) (h x) (first_of code h xs)

either : (b : Bool) (c d : ResponseCode) → IsHeaderCode c → IsHeaderCode d → IsHeaderCode (cond b c d)
either true c d hc hd = hc
either false c d hc hd = hd

zone_fits : (origin : DomainName) (zones : List Query) → IsHeaderCode (zone_code origin zones)
zone_fits origin [] = form_err
zone_fits origin (q ∷ []) = first _ _ (fault _ FormErr form_err) (fault _ NotAuth (record { fits = lit< tt; named = refl }))
zone_fits origin (q ∷ r ∷ more) = form_err

existence_fits : (rows : Rows) (r : Record) → IsHeaderCode (existence_code rows r)
existence_fits rows r =
    either (is_of_type types.ANY r) _ _ (fault _ NXDomain (record { fits = lit< tt; named = refl })) (fault _ NXRRSet (record { fits = lit< tt; named = refl }))

absence_fits : (rows : Rows) (r : Record) → IsHeaderCode (absence_code rows r)
absence_fits rows r =
    either (is_of_type types.ANY r) _ _ (fault _ YXDomain (record { fits = lit< tt; named = refl })) (fault _ YXRRSet (record { fits = lit< tt; named = refl }))

test_fits : (rows : Rows) (c : DNSClass) (r : Record) → IsHeaderCode (test_code rows c r)
test_fits rows classes.ANY r = first _ _ (fault _ FormErr form_err) (existence_fits rows r)
test_fits rows classes.NONE r = first _ _ (fault _ FormErr form_err) (absence_fits rows r)
test_fits rows classes.IN r = no_error
test_fits rows other r = form_err

prerequisite_fits : (origin : DomainName) (rows : Rows) (r : Record) → IsHeaderCode (prerequisite_code origin rows r)
prerequisite_fits origin rows r = first _ _ (fault _ FormErr form_err) (first _ _ (fault _ NotZone not_zone) (test_fits rows r.dns_class r))

prescan_fits : (origin : DomainName) (r : Record) → IsHeaderCode (prescan_code origin r)
prescan_fits origin r = first _ _ (fault _ NotZone not_zone) (fault _ FormErr form_err)

pub update_fits : (origin : DomainName) (rows : Rows) (m : Message) → IsHeaderCode (update_code origin rows m)
update_fits origin rows m =
    first _ _ (zone_fits origin m.queries)
    (first _ _ (first_of (prerequisite_code origin rows) (prerequisite_fits origin rows) m.answers)
    (first _ _ (fault _ NXRRSet (record { fits = lit< tt; named = refl })) (first_of (prescan_code origin) (prescan_fits origin) m.authorities)))
