-- How servers would be probed for encrypted transports (RFC 9539).
use Rattle.std.specs.Prelude.{None}
use Rattle.stub_config.specs.declared.opportunistic.OpportunisticEncryptionConfig.{OpportunisticEncryptionConfig}

-- periods of three days and of one, in seconds
abbrev pub default_encryption : OpportunisticEncryptionConfig
default_encryption = record {
  persistence_period = 259200;
  damping_period = 86400;
  max_concurrent_probes = 10;
  persistence = None;
}
