use Rattle.theorems.specs.Credit.{WithinCredit}
use Rattle.theorems.specs.Windows.{WindowKept}
use Rattle.theorems.proofs.Always.{holds_in_scripts}
use Rattle.theorems.proofs.CreditKept.{trace_starts_within}
use Rattle.theorems.proofs.WindowsKept.{trace_keeps_windows}
use Rattle.theorems.proofs.theorems.scripts_keep_windows_and_credit.Goals as goal

pub returns : goal.returns
returns c = (holds_in_scripts WindowKept trace_keeps_windows, holds_in_scripts WithinCredit trace_starts_within)
