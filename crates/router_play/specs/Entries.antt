-- What runs show of what happened in them, and outlived their stops.
use Rattle.std.specs.Prelude.{◌≡◌, ◌∷◌, ◌++◌, ℕ, nat_lt, if◌then◌else◌, List, [], Option, Some, None}
use Rattle.disk_core.specs.Twin.{Contents}
use Rattle.router_trace.specs.declared.event.Event.{Event}
use Rattle.router_trace.specs.Trace.{Trace, did}
use Rattle.router_trace.specs.Configuration.{opened}
use Rattle.reply_rows.specs.Acts.{acts_of, booked}
use Rattle.core_machine.specs.Meaning.{Kept}
use Rattle.core_machine.specs.Moves.{Move}
use Rattle.core_player.specs.declared.entry.Entry.{Entry}
use Rattle.core_player.specs.declared.entry.Entry.TheVariants as entry
use Rattle.core_player.specs.declared.recorder.Cut.{Cut}
use Rattle.core_player.specs.Entries.{event_entry, Shows as ShowsBy}
use Rattle.router_core.specs.Machine.{HoldsKept}
use Rattle.router_core.specs.Replies.{handled}
use Rattle.router_play.specs.Lives.{Life, Lives, GoesInTurn}

-- what moves show from a trace on
abbrev pub Shows : List ℕ → List Move → Trace → List Entry → Type 0
Shows id = ShowsBy (handled id) acts_of

-- events that a stop cut off: of each its acts alone
abbrev pub cut_entries : List Event → Trace → List Entry
cut_entries [] t = []
cut_entries (e ∷ es) t = event_entry e (acts_of t e) ∷ cut_entries es (did e ∷ booked t e)

-- What a run shows that began with this trace below it: its moves, the events that its stop cut off, and the stop.
pub record ShowsLife (id : List ℕ) (x : Life) (below : Trace) (entries : List Entry) : Type 0 where
  pub end : Trace
  pub moved : List Entry
  pub goes : GoesInTurn id x.moves (opened x.opening below) end
  pub shows : Shows id x.moves (opened x.opening below) moved
  pub entries_are : entries ≡ moved ++ cut_entries x.cut end ++ entry.Stop ∷ []

-- What runs show, the newest first, on top of those before.
abbrev pub ShowsLives : List ℕ → List Life → List Life → List Entry → Type 0
ShowsLives id past [] entries = entries ≡ []
ShowsLives id past (x ∷ xs) entries =
    (below : Trace) × (before : List Entry) × (mine : List Entry) × Lives id (xs ++ past) below
    × ShowsLives id past xs before × ShowsLife id x below mine × (entries ≡ before ++ mine)

-- The event with which a router failed, if it did with one: it survived if the journal that is left has more batches than before it. Its acts are then
-- those of the last one.
abbrev pub survivor : Cut → Kept → List Entry
survivor cut k = if nat_lt cut.batches k.batches then entry.Event cut.came k.last ∷ [] else []

abbrev pub Survives : Option Cut → Contents → List Entry → Type 0
Survives None contents entries = entries ≡ []
Survives (Some cut) contents entries = (k : Kept) × HoldsKept contents k × (entries ≡ survivor cut k)
