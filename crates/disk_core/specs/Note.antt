-- The notes of a record, and the events that they stand for.
use Rattle.std.specs.Prelude.{ℕ, List, length, map, slice_index, if◌then◌else◌, ◌==◌}
use Rattle.disk_core.specs.declared.side.Side.TheVariants.{First, Second}
use Rattle.disk_core.specs.Event.{Event, Wrote, Shortened, Synced, BeganWrite, BeganCut}
use Rattle.disk_core.specs.Turns.{Turn, Of}

-- a code of src/record.rt, a place or a length, the number of a side, and bytes
abbrev pub Note : Type 0
Note = ℕ × ℕ × ℕ × List ℕ

abbrev pub note_of : List ℕ → List ℕ → Note
note_of numbers bytes = (slice_index numbers 0, slice_index numbers 1, slice_index numbers 2, bytes)

abbrev pub noted : Note → Event
noted note =
    if note.0 == 0 then Wrote note.1 note.3
    else if note.0 == 1 then Shortened note.1
    else if note.0 == 2 then BeganWrite note.1 (length note.3)
    else if note.0 == 3 then BeganCut note.1
    else Synced

-- the newest first
abbrev pub events_noted : List Note → List Event
events_noted notes = map noted notes

abbrev pub turn_noted : Note → Turn
turn_noted note = Of (if note.2 == 0 then First else Second) (noted note)

-- the newest first
abbrev pub turns_noted : List Note → List Turn
turns_noted notes = map turn_noted notes
