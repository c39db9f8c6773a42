-- The phases of a connection, item by item (AMQP 1.0 part 2, section 2.4.6).
use Rattle.std.specs.Prelude.{ℕ, true, nat_lt, if◌then◌else◌, Result, Ok, Err}
use Rattle.amqp_model.specs.declared.perf.Open.{Open}
use Rattle.amqp_conn.specs.declared.conn.Conn.{Conn}
use Rattle.amqp_conn.specs.declared.fault.ConnFault.{ConnFault}
use Rattle.amqp_conn.specs.declared.fault.ConnFault.TheVariants.{WrongPhase, FrameSizeTooSmall, ChannelTooHigh}

-- the phase once headers are exchanged, once opens are, and once the connection is over
abbrev pub with_header : Conn → Conn
with_header c = record c { header = true }

abbrev pub with_open : Conn → Conn
with_open c = record c { opened = true }

abbrev pub over : Conn → Conn
over c = record c { closed = true }

-- a header: only the first is in turn
abbrev pub header_in_turn : Conn → Result (Unit {0}) ConnFault
header_in_turn c = if c.closed then Err WrongPhase else if c.header then Err WrongPhase else Ok tt

-- an open: only the first is in turn, and its largest frame is at least MIN-MAX-FRAME-SIZE (2.7.1)
abbrev pub open_in_turn : Open → Conn → Result (Unit {0}) ConnFault
open_in_turn o c = if c.closed then Err WrongPhase else if c.opened then Err WrongPhase
    else if nat_lt o.max_frame_size 512 then Err FrameSizeTooSmall else Ok tt

-- another frame: the open came before it, and its channel is at most 14 (2.7.1, channel-max)
abbrev pub frame_in_turn : ℕ → Conn → Result (Unit {0}) ConnFault
frame_in_turn channel c = if c.closed then Err WrongPhase else if c.opened then
    (if nat_lt 14 channel then Err ChannelTooHigh else Ok tt) else Err WrongPhase

-- a close is in turn where another frame is
abbrev pub close_in_turn : ℕ → Conn → Result (Unit {0}) ConnFault
close_in_turn channel c = frame_in_turn channel c

-- the fault's number
abbrev pub number_of : ConnFault → ℕ
number_of WrongPhase = 1
number_of FrameSizeTooSmall = 2
number_of ChannelTooHigh = 3
