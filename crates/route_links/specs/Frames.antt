-- What the frames that pass on a link do to its ids.
use Rattle.std.specs.Prelude.{◌≡◌, ℕ, ◌+◌, ◌-◌, ◌<◌, Bool, ◌||◌, if◌then◌else◌, List, [], ◌∷◌, Option, None, Some}
use Rattle.amqp_model.specs.declared.perf.Transfer.{Transfer}
use Rattle.amqp_model.specs.declared.perf.Disposition.{Disposition}
use Rattle.route_links.specs.declared.middle.Middle.{Middle}
use Rattle.route_links.specs.declared.passing.Passing.{Passing}
use Rattle.route_links.specs.declared.passing.Passing.TheVariants as pass
use Rattle.route_links.specs.Parts.{Part, Start, Decides, starts}
use Rattle.route_links.specs.Naming.{Came, CameSettled, Went, Settled, Held, Told, Leaves, Ended, History, started, gone}

-- no id names its delivery from this transfer on
abbrev pub is_over : Transfer → Bool
is_over x = x.settled || x.aborted

-- A transfer comes that starts a delivery; one without id is refused before.
abbrev pub came_under_id : Option ℕ → History → History
came_under_id None h = CameSettled ∷ h
came_under_id (Some i) h = Came i ∷ h

abbrev pub start_came : Transfer → History → History
start_came x h = if is_over x then CameSettled ∷ h else came_under_id x.delivery_id h

-- A later one is of the delivery that was started last.
abbrev pub later_came : Transfer → History → History
later_came x h = if is_over x then Settled (started h - 1) ∷ h else h

abbrev pub transfer_came : Middle → Transfer → History → History
transfer_came m x h = if starts m then start_came x h else later_came x h

abbrev pub disposition_came : ℕ → Bool → History → History
disposition_came n settled h = if settled then Settled n ∷ Held n ∷ h else Held n ∷ h

-- What comes from the sender, where this delivery is in the middle, and from the receiver.
abbrev pub from_sender : Middle → Passing → History → History
from_sender m (pass.Transfer x payload) h = transfer_came m x h
from_sender m (pass.Disposition n d) h = disposition_came n.0 d.settled h
from_sender m (pass.Detach d) h = Leaves ∷ h
from_sender m f h = h

abbrev pub from_receiver : Passing → History → History
from_receiver (pass.Disposition n d) h = disposition_came n.0 d.settled h
from_receiver (pass.Detach d) h = Ended ∷ h
from_receiver f h = h

-- What goes to the receiver, where a transfer has an id exactly if it starts a delivery, and to the sender.
abbrev pub went_under_id : Option ℕ → History → History
went_under_id None h = h
went_under_id (Some o) h = Went o ∷ h

abbrev pub to_receiver : Passing → History → History
to_receiver (pass.Transfer x payload) h = went_under_id x.delivery_id h
to_receiver (pass.Disposition n d) h = Told n.0 ∷ h
to_receiver (pass.Detach d) h = Ended ∷ h
to_receiver f h = h

abbrev pub to_sender : Passing → History → History
to_sender (pass.Disposition n d) h = Told n.0 ∷ h
to_sender (pass.Detach d) h = Ended ∷ h
to_sender f h = h

-- a disposition of one delivery, under an id
abbrev pub under_id : ℕ → Disposition → Disposition
under_id id d = record d { first = id; last = None }

-- how many deliveries these parts start
abbrev pub starts_in : List Part → ℕ
starts_in [] = 0
starts_in (Start x ∷ ps) = starts_in ps + 1
starts_in (_ ∷ ps) = starts_in ps

-- the history counts what came and what went
pub record Counts (h : History) (came went : List Part) : Type 0 where
  pub starts : started h ≡ starts_in came
  pub goes : gone h ≡ starts_in went

-- each disposition names one of so many deliveries, or of those that are started before it
abbrev pub NamesStarted : ℕ → List Part → Type 0
NamesStarted n [] = Unit {0}
NamesStarted n (Start x ∷ ps) = NamesStarted (n + 1) ps
NamesStarted n (Decides m d ∷ ps) = (m < n) × NamesStarted n ps
NamesStarted n (_ ∷ ps) = NamesStarted n ps

-- so does this frame, if it is one
abbrev pub NamesOne : ℕ → Passing → Type 0
NamesOne n (pass.Disposition m d) = m.0 < n
NamesOne n _ = Unit {0}
