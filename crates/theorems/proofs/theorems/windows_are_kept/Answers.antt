use Rattle.theorems.specs.Windows.{WindowKept}
use Rattle.theorems.proofs.Always.{holds_always}
use Rattle.theorems.proofs.WindowsKept.{trace_keeps_windows}
use Rattle.theorems.proofs.Lives.{lives_keep_windows}
use Rattle.theorems.proofs.theorems.windows_are_kept.Goals as goal

pub returns : goal.returns
returns c = holds_always WindowKept trace_keeps_windows lives_keep_windows
