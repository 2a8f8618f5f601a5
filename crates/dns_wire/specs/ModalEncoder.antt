-- What contracts see of a `ModalEncoder`.
use Rattle.std.specs.Borrow.{GName, MutBor}
use Rattle.dns_wire.specs.declared.encoder.BinEncoder.{BinEncoder}
use Rattle.dns_wire.specs.declared.modal_encoder.ModalEncoder.{ModalEncoder}
use Rattle.dns_wire.specs.declared.name_encoding.NameEncoding.{NameEncoding}
use Rattle.dns_wire.specs.Encoder.{EncoderState, state_of}

-- the state of its encoder
abbrev pub modal_state : ModalEncoder → EncoderState
modal_state m = state_of m.encoder.now

-- the encoding that its drop restores
abbrev pub saved_encoding : ModalEncoder → NameEncoding
saved_encoding m = m.previous

-- the state in which its drop leaves the encoder
abbrev pub released_state : {A B : Type 0} → A × (MutBor BinEncoder × B) → EncoderState
released_state left = state_of left.1.0.now

-- the identity of the borrowed encoder
abbrev pub modal_lender : ModalEncoder → GName
modal_lender m = m.encoder.ghost_name
