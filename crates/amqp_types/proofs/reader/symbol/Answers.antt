use Rattle.std.proofs.Common.{sym, ◌∙◌}
use Rattle.amqp_types.proofs.Texts.{IsUtf8-from_all, symbol_ok}
use Rattle.amqp_types.proofs.reader.symbol.Goals as goal

pub unreachable-requires : goal.unreachable-requires
unreachable-requires c = c.in-Err.ensures.cases.0 (IsUtf8-from_all c.args.bytes.now (sym c.is_ascii.ensures ∙ c.if-not-is_ascii.false))

pub returns : goal.returns
returns c = symbol_ok c.args.bytes.now c.in-Ok.name.now c.in-Ok.ensures.cases.0 (sym c.is_ascii.ensures ∙ c.if-not-is_ascii.false)
