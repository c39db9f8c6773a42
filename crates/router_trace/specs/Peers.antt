-- A peer in a trace (AMQP 1.0 part 2, section 2.7.1): the user that it logged in as, and what its first open says of it.
use Rattle.std.specs.Prelude.{ℕ, ◌==◌, if◌then◌else◌, List, [], ◌∷◌, Option, Some, None, unwrap_or, option_map}
use Rattle.amqp_model.specs.declared.perf.Open.{Open}
use Rattle.amqp_model.specs.declared.perf.Perf.{Perf}
use Rattle.amqp_model.specs.declared.perf.Perf.TheVariants as perf
use Rattle.amqp_model.specs.declared.item.Item.{Item}
use Rattle.amqp_model.specs.declared.item.Item.TheVariants as item
use Rattle.router_trace.specs.declared.event.Event.{Event}
use Rattle.router_trace.specs.declared.event.Event.TheVariants as event
use Rattle.router_trace.specs.Trace.{Did, Out, Took, Bound, Booked, Routed, Began, Trace}
use Rattle.router_trace.specs.Sessions.{unless_close}

-- the user of a connection; none if the connection is closed or lost
abbrev pub user_at : Event → ℕ → Option (List ℕ) → Option (List ℕ)
user_at (event.Up d p) c user = if d.0 == c then Some p.user else user
user_at (event.Down d) c user = if d.0 == c then None else user
user_at _ c user = user

abbrev pub user : Trace → ℕ → Option (List ℕ)
user [] c = None
user (Did s ∷ t) c = user_at s.event c (user t c)
user (Out d i ∷ t) c = if d == c then unless_close i (user t c) else user t c
user (Took d n ∷ t) c = user t c
user (Bound b ∷ t) c = user t c
user (Booked acts full ∷ t) c = user t c
user (Routed passage ∷ t) c = user t c
user (Began g ∷ t) c = None

-- what links need of the peer's first open: its container-id, and the largest frame that it accepts
pub record Container : Type 0 where
  pub id : List ℕ
  pub largest : ℕ

abbrev pub container_of : Open → Container
container_of o = record { id = o.container_id; largest = o.max_frame_size }

abbrev pub first_open : Open → Option Container → Option Container
first_open o None = Some (container_of o)
first_open o (Some told) = Some told

abbrev pub container_in : Perf → Option Container → Option Container
container_in (perf.Open o) told = first_open o told
container_in _ told = told

abbrev pub container_by : Item → Option Container → Option Container
container_by (item.Frame sasl channel body payload) told = if sasl then told else container_in body told
container_by _ told = told

abbrev pub container_at : Event → ℕ → Option Container → Option Container
container_at (event.Item d i) c told = if d.0 == c then container_by i told else told
container_at (event.Down d) c told = if d.0 == c then None else told
container_at _ c told = told

abbrev pub container : Trace → ℕ → Option Container
container [] c = None
container (Did s ∷ t) c = container_at s.event c (container t c)
container (Out d i ∷ t) c = if d == c then unless_close i (container t c) else container t c
container (Took d n ∷ t) c = container t c
container (Bound b ∷ t) c = container t c
container (Booked acts full ∷ t) c = container t c
container (Routed passage ∷ t) c = container t c
container (Began g ∷ t) c = None

-- the largest frame that the peer accepts, in bytes; 4,294,967,295 if it states none
abbrev pub largest_frame : Trace → ℕ → ℕ
largest_frame t c = unwrap_or (option_map (λ told. told.largest) (container t c)) 4294967295

-- its container-id
abbrev pub container_id : Option Container → List ℕ
container_id None = []
container_id (Some told) = told.id
