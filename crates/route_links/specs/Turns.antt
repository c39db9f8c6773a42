-- The turn of the first frame that is held: whether it goes out now, and what of it.
use Rattle.std.specs.Prelude.{ℕ, ◌==◌, ◌&&◌, if◌then◌else◌, List, [], ◌∷◌, ◌++◌, Option, Some, None, option_to_list, Result, Ok, Err}
use Rattle.route_links.specs.declared.allowed.Allowed.{Allowed}
use Rattle.route_links.specs.declared.allowed.Stop.{Stop}
use Rattle.route_links.specs.declared.allowed.Stop.TheVariants as stop
use Rattle.route_links.specs.declared.allowed.Turn.{Turn}
use Rattle.route_links.specs.declared.allowed.Turn.TheVariants.{Stopped, Passed}
use Rattle.route_links.specs.declared.cut.Carried.{Carried}
use Rattle.route_links.specs.declared.cut.Cut.{Cut}
use Rattle.route_links.specs.declared.cut.Cut.TheVariants as cut
use Rattle.route_links.specs.declared.middle.Middle.{Middle}
use Rattle.route_links.specs.declared.passing.Passing.{Passing}
use Rattle.route_links.specs.declared.turn.Released.{Released}
use Rattle.route_links.specs.Parts.{transfer_parts, after, starts}
use Rattle.route_links.specs.Cutting.{as_passing, carried_of, cut_of}
use Rattle.route_links.specs.Legs.{Held}

-- why no transfer goes: the window takes none, or it would start a delivery without credit, or under an id that is in use
abbrev pub held_back : Allowed → Middle → Option Stop
held_back a m =
    if a.window == 0 then Some stop.Window
    else if starts m && (a.credit == 0) then Some stop.Credit
    else if starts m && (a.free_ids == 0) then Some stop.Id
    else None

-- under the names of the end where it goes out: only a start has an id
abbrev pub id_at : Allowed → Middle → Option ℕ
id_at a m = if starts m then Some a.next_id else None

abbrev pub named : Allowed → ℕ → Middle → Carried → Carried
named a handle m c = record c { transfer = record c.transfer { handle = handle; delivery_id = id_at a m } }

-- a transfer stays, ...
abbrev pub stays : Stop → Middle → Carried → Released
stays s m c = record { turn = Stopped s; left = Some (as_passing c); went = m }

-- ... or goes, and something is left of it
abbrev pub goes : Middle → Carried → Option Passing → Released
goes m c left = record { turn = Passed (as_passing c); left = left; went = after m (transfer_parts m c.transfer c.payload) }

abbrev pub released_as : Middle → Carried → Cut → Released
released_as m c (cut.Whole d) = goes m d None
released_as m c (cut.Pieces d e) = goes m d (Some (as_passing e))
released_as m c (cut.TooLarge d) = stays stop.TooLarge m c

abbrev pub released_unless : Option Stop → Allowed → ℕ → Middle → Carried → Released
released_unless (Some s) a handle m c = stays s m c
released_unless None a handle m c = released_as m c (cut_of a.largest (named a handle m c))

abbrev pub released : Allowed → ℕ → Middle → Carried → Released
released a handle m c = released_unless (held_back a m) a handle m c

-- What goes out next, and the leg behind it: another frame goes as it is.
abbrev pub turn_as : Allowed → Held → Result Carried Passing → Turn
turn_as a leg (Ok c) = (released a leg.handle leg.went c).turn
turn_as a leg (Err f) = Passed f

abbrev pub turn_of : Allowed → Held → List Passing → Turn
turn_of a leg [] = Stopped stop.Empty
turn_of a leg (f ∷ fs) = turn_as a leg (carried_of f)

abbrev pub turn : Allowed → Held → Turn
turn a leg = turn_of a leg leg.queue

abbrev pub behind_as : Allowed → Held → List Passing → Result Carried Passing → Held
behind_as a leg fs (Ok c) = let r = released a leg.handle leg.went c in record leg { went = r.went; queue = option_to_list r.left ++ fs }
behind_as a leg fs (Err f) = record leg { queue = fs }

abbrev pub behind_of : Allowed → Held → List Passing → Held
behind_of a leg [] = leg
behind_of a leg (f ∷ fs) = behind_as a leg fs (carried_of f)

abbrev pub behind : Allowed → Held → Held
behind a leg = behind_of a leg leg.queue
