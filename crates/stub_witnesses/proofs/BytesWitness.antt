-- Bytes decode to the reply of the run in which w. is an alias of h.: those to which it is encoded.
use Rattle.std.proofs.Common.{arith, subst}
use Rattle.dns_wire.specs.Name.{AreLabels}
use Rattle.dns_messages.specs.Cut.{cut_form}
use Rattle.dns_messages.specs.Grammar.{ReadsMessage}
use Rattle.dns_messages.specs.declared.message.Message.{Message}
use Rattle.dns_messages.proofs.DecodeLaws.{decodes_again}
use Rattle.dns_messages.proofs.EmitLaws.{Writables}
use Rattle.dns_messages.proofs.FitLaws.{uncut}
use Rattle.stub_witnesses.proofs.AliasWitness.{alias}
use Rattle.stub_witnesses.proofs.RunWitness.{reply_message, reply_sound}
use Rattle.stub_witnesses.proofs.VersionsWitness.{host, root}

alias_labels : AreLabels alias.labels
alias_labels = record { each = (record { some = omega arith; most = omega arith }, tt); fits = omega arith }

host_labels : AreLabels host.labels
host_labels = record { each = (record { some = omega arith; most = omega arith }, tt); fits = omega arith }

root_labels : AreLabels root.labels
root_labels = record { each = tt; fits = omega arith }

writable : Writables 512 reply_message
writable = record {
  answers = (alias_labels, (tt, (tt, (tt, (tt, (host_labels, (host_labels, (tt, (tt, (tt, (tt, (tt, tt))))))))))));
  authorities = tt;
  additionals = tt;
  edns = (root_labels, (tt, (tt, (tt, (tt, tt)))));
  signature = tt;
}

pub reply_decodes : ReadsMessage (cut_form 512 reply_message) reply_message
reply_decodes =
    subst (λ (m : Message). ReadsMessage (cut_form 512 reply_message) m) (uncut 512 reply_message reply_sound (omega arith))
    (decodes_again 512 reply_message (omega arith) (omega arith) (alias_labels, (tt, (tt, tt))) writable reply_sound)
