-- The descriptors of the standard's lists: a number whose high part is 0, or a symbol (AMQP 1.0 part 2, section 2.7; part
-- 3, sections 3.4 and 3.5; part 5, section 5.3.3).
use Rattle.std.specs.Prelude.{ℕ, List, Option, Some, None, ◌==◌, if◌then◌else◌, codes}
use Rattle.std.specs.Cmp.Lexicographic.{pointwise}
use Rattle.amqp_model.specs.declared.descriptor.Descriptor.{Descriptor}
use Rattle.amqp_model.specs.declared.descriptor.Descriptor.TheVariants as is

-- its number
abbrev pub code_of : Descriptor → ℕ
code_of is.Open = 0x10
code_of is.Begin = 0x11
code_of is.Attach = 0x12
code_of is.Flow = 0x13
code_of is.Transfer = 0x14
code_of is.Disposition = 0x15
code_of is.Detach = 0x16
code_of is.End = 0x17
code_of is.Close = 0x18
code_of is.Error = 0x1d
code_of is.Received = 0x23
code_of is.Accepted = 0x24
code_of is.Rejected = 0x25
code_of is.Released = 0x26
code_of is.Modified = 0x27
code_of is.Source = 0x28
code_of is.Target = 0x29
code_of is.SaslMechanisms = 0x40
code_of is.SaslInit = 0x41
code_of is.SaslChallenge = 0x42
code_of is.SaslResponse = 0x43
code_of is.SaslOutcome = 0x44

-- the descriptor of a number
abbrev pub named : ℕ → Option Descriptor
named n =
    if n == 0x10 then Some is.Open
    else if n == 0x11 then Some is.Begin
    else if n == 0x12 then Some is.Attach
    else if n == 0x13 then Some is.Flow
    else if n == 0x14 then Some is.Transfer
    else if n == 0x15 then Some is.Disposition
    else if n == 0x16 then Some is.Detach
    else if n == 0x17 then Some is.End
    else if n == 0x18 then Some is.Close
    else if n == 0x1d then Some is.Error
    else if n == 0x23 then Some is.Received
    else if n == 0x24 then Some is.Accepted
    else if n == 0x25 then Some is.Rejected
    else if n == 0x26 then Some is.Released
    else if n == 0x27 then Some is.Modified
    else if n == 0x28 then Some is.Source
    else if n == 0x29 then Some is.Target
    else if n == 0x40 then Some is.SaslMechanisms
    else if n == 0x41 then Some is.SaslInit
    else if n == 0x42 then Some is.SaslChallenge
    else if n == 0x43 then Some is.SaslResponse
    else if n == 0x44 then Some is.SaslOutcome
    else None

-- the descriptor of a symbol that names no performative of the transport
abbrev pub otherwise_named : List ℕ → Option Descriptor
otherwise_named text =
    if pointwise ◌==◌ text (codes "amqp:error:list") then Some is.Error
    else if pointwise ◌==◌ text (codes "amqp:received:list") then Some is.Received
    else if pointwise ◌==◌ text (codes "amqp:accepted:list") then Some is.Accepted
    else if pointwise ◌==◌ text (codes "amqp:rejected:list") then Some is.Rejected
    else if pointwise ◌==◌ text (codes "amqp:released:list") then Some is.Released
    else if pointwise ◌==◌ text (codes "amqp:modified:list") then Some is.Modified
    else if pointwise ◌==◌ text (codes "amqp:source:list") then Some is.Source
    else if pointwise ◌==◌ text (codes "amqp:target:list") then Some is.Target
    else if pointwise ◌==◌ text (codes "amqp:sasl-mechanisms:list") then Some is.SaslMechanisms
    else if pointwise ◌==◌ text (codes "amqp:sasl-init:list") then Some is.SaslInit
    else if pointwise ◌==◌ text (codes "amqp:sasl-challenge:list") then Some is.SaslChallenge
    else if pointwise ◌==◌ text (codes "amqp:sasl-response:list") then Some is.SaslResponse
    else if pointwise ◌==◌ text (codes "amqp:sasl-outcome:list") then Some is.SaslOutcome
    else None

-- the descriptor of a symbol
abbrev pub symbol_named : List ℕ → Option Descriptor
symbol_named text =
    if pointwise ◌==◌ text (codes "amqp:open:list") then Some is.Open
    else if pointwise ◌==◌ text (codes "amqp:begin:list") then Some is.Begin
    else if pointwise ◌==◌ text (codes "amqp:attach:list") then Some is.Attach
    else if pointwise ◌==◌ text (codes "amqp:flow:list") then Some is.Flow
    else if pointwise ◌==◌ text (codes "amqp:transfer:list") then Some is.Transfer
    else if pointwise ◌==◌ text (codes "amqp:disposition:list") then Some is.Disposition
    else if pointwise ◌==◌ text (codes "amqp:detach:list") then Some is.Detach
    else if pointwise ◌==◌ text (codes "amqp:end:list") then Some is.End
    else if pointwise ◌==◌ text (codes "amqp:close:list") then Some is.Close
    else otherwise_named text
