use Rattle.std.proofs.Common.{◌≡◌, ◌<◌, length, refl, ap, ◌∙◌, arith}
use Rattle.std.proofs.Math.Seq.{map-set_same}
use Rattle.std.proofs.lemmas.Option.{slice_get_read}
use Rattle.dns_wire.specs.internal.Suffixes.{suffix_of, bucket_of}
use Rattle.dns_wire.proofs.StoredLaws.{stored-at}
use Rattle.dns_wire.proofs.IndexLaws.{stored-set, indexed-link, get-suffix}
use Rattle.dns_wire.proofs.suffixes.link.Goals as goal

pub bytes_of-requires-clause-order : goal.bytes_of-requires-clause-order
bytes_of-requires-clause-order c = (stored-at 0 _ _ _ _ c.requires.stored (slice_get_read c.args.entries.now.items _ c.args.at _ refl c.requires.within c.index.ensures)).0

pub bytes_of-requires-clause-within : goal.bytes_of-requires-clause-within
bytes_of-requires-clause-within c = (stored-at 0 _ _ _ _ c.requires.stored (slice_get_read c.args.entries.now.items _ c.args.at _ refl c.requires.within c.index.ensures)).1

pub returns-clause-stored : goal.returns-clause-stored
returns-clause-stored c =
    stored-set 0 _ _ c.args.at c.index_mut.result.now _ (slice_get_read c.args.entries.now.items _ c.args.at _ refl c.requires.within c.index_mut.ensures.value) refl refl c.requires.stored

pub returns-clause-same : goal.returns-clause-same
returns-clause-same c = map-set_same (suffix_of c.args.stored.now) c.args.entries.now.items c.args.at _ c.index_mut.result.now (ap (suffix_of c.args.stored.now) c.index_mut.ensures.value)

pub returns-clause-indexed : goal.returns-clause-indexed
returns-clause-indexed c =
    let found = slice_get_read c.args.entries.now.items _ c.args.at _ refl c.requires.within c.index_mut.ensures.value in
    let s = suffix_of c.args.stored.now c.index_mut.result.now in
    let same : c.index.result.now ≡ c.index_mut.result.now = cc (slice_get_read c.args.entries.now.items _ c.args.at _ refl c.requires.within c.index.ensures, found) in
    let bucket : c.hash_bucket-bucket.result ≡ bucket_of s.bytes =
    c.hash_bucket-bucket.ensures.value ∙ ap bucket_of c.bytes_of.ensures ∙ ap (λ e. bucket_of (suffix_of c.args.stored.now e).bytes) same in
    let within : c.hash_bucket-bucket.result < length c.args.heads.now = omega (arith, c.hash_bucket-bucket.ensures.within) in
    rw bucket
    (indexed-link c.args.at _ _ _ _ s c.requires.within (omega (arith, within, bucket)) (get-suffix c.args.stored.now _ c.args.at _ found) refl c.requires.indexed)
