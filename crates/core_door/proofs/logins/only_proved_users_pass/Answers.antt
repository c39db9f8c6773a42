use Rattle.core_door.proofs.WhoPasses.{they_alone_pass, they_pass}
use Rattle.core_door.proofs.logins.only_proved_users_pass.Goals as goal

pub returns : goal.returns
returns c = record { only = they_alone_pass; all = they_pass }
