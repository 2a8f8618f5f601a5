use Rattle.std.proofs.Common.{refl, subst, ap, ◌∙◌}
use Rattle.dns_tsig.specs.declared.key.Key.{Key}
use Rattle.dns_tsig.specs.signer.Signer.{SignsRequest}
use Rattle.stub_net.specs.declared.signed.network.SignedNetwork.{SignedNetwork}
use Rattle.stub_net.proofs.signed.network.SignedNetwork.sign.Goals as goal

pub returns-in-Ok : goal.returns-in-Ok
returns-in-Ok g c = record {
  time = c.time-now.result;
  mid = c.time-now.new.self;
  signer = c.sign.new.self;
  reads = c.time-now.ensures;
  key_is = c.in-Ok.ensures.key ∙ ap (λ (s : SignedNetwork g.row.N.Denot). s.signer.key) c.time-now.ensures.new_is;
  after = subst (λ (k : Key). SignsRequest k c.args.bytes.now c.time-now.result c.sign.new.self.code.items c.in-Ok.signed.items)
      (ap (λ (s : SignedNetwork g.row.N.Denot). s.signer.key) c.time-now.ensures.new_is) c.in-Ok.ensures.signed;
  new_is = refl;
}

pub returns-in-Err : goal.returns-in-Err
returns-in-Err g c = record {
  time = c.time-now.result;
  mid = c.time-now.new.self;
  signer = c.sign.new.self;
  reads = c.time-now.ensures;
  key_is = c.in-Err.ensures.key ∙ ap (λ (s : SignedNetwork g.row.N.Denot). s.signer.key) c.time-now.ensures.new_is;
  after = (c.in-Err.error, c.link_error.ensures, c.in-Err.ensures.refused);
  new_is = refl;
}
