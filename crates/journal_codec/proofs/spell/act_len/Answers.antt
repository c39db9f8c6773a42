use Rattle.std.proofs.Common.{length, sym, ◌∙◌, ap}
use Rattle.book_model.specs.declared.act.Act.{Act}
use Rattle.journal_codec.specs.Format.{act_bytes}
use Rattle.journal_codec.proofs.Counted.{forget_counted, drop_counted}
use Rattle.journal_codec.proofs.spell.act_len.Goals as goal

pub returns-in-Forget : goal.returns-in-Forget
returns-in-Forget c = forget_counted _ ∙ ap (λ (a : Act). length (act_bytes a)) (sym c.in-Forget.is)

pub returns-in-Drop : goal.returns-in-Drop
returns-in-Drop c = drop_counted _ ∙ ap (λ (a : Act). length (act_bytes a)) (sym c.in-Drop.is)
