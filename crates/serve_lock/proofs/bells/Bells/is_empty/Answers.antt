use Rattle.std.proofs.Common.{◌∙◌, sym}
use Rattle.std.specs.Cmp.Lexicographic.{same_text}
use Rattle.serve_lock.proofs.Ringings.{empty_rings}
use Rattle.serve_lock.proofs.bells.Bells.is_empty.Goals as goal

pub returns : goal.returns
returns g = λ is. empty_rings g.args.self.now.words (same_text g.args.self.now.words _ (sym is ∙ g.eq.ensures))
