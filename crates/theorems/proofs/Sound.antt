-- What the laws require of each entry, and that they still hold after an entry that satisfies it.
use Rattle.std.proofs.Common.{◌≡◌, sym, subst, ◌⊎◌, inl, ℕ, Bool, true, false, List, [], ◌∷◌, ◌++◌}
use Rattle.std.specs.Prelude.{Option, Some, None}
use Rattle.amqp_model.specs.declared.perf.Disposition.{Disposition}
use Rattle.amqp_model.specs.declared.perf.Perf.{Perf}
use Rattle.amqp_model.specs.declared.perf.Perf.TheVariants as perf
use Rattle.amqp_model.specs.declared.perf.Role.{Role}
use Rattle.amqp_model.specs.declared.perf.Role.TheVariants.{Sender, Receiver}
use Rattle.amqp_model.specs.declared.item.Item.{Item}
use Rattle.amqp_model.specs.declared.item.Item.TheVariants as item
use Rattle.router_trace.specs.Trace.{Beginning}
use Rattle.router_trace.specs.Configuration.{beginning, opened}
use Rattle.router_trace.specs.declared.binding.Binding.{Binding}
use Rattle.router_trace.specs.declared.binding.BindingKind.{BindingKind}
use Rattle.router_trace.specs.declared.binding.BindingKind.TheVariants as kind
use Rattle.router_trace.specs.declared.binding.Holding.{Holding}
use Rattle.router_trace.specs.declared.binding.Holding.TheVariants as holding
use Rattle.router_trace.specs.declared.binding.JoinedTo.{JoinedTo}
use Rattle.router_trace.specs.Deliveries.{resumed_held}
use Rattle.book_model.specs.declared.act.Act.{Act}
use Rattle.router_trace.specs.Trace.{Entry, Put, Did, Out, Took, Bound, Booked, Step, goes, each_to}
use Rattle.state_messages.specs.Messages.{with_bound}
use Rattle.theorems.specs.Each.{EachOut, EachBound}
use Rattle.theorems.specs.Carried.{CarriesWhatWasBound}
use Rattle.theorems.specs.Came.{Handled, just_handled, HoldsRow, JoinsAs, SettlesRow, TakesUp, BindsAs, BindsByKind}
use Rattle.theorems.specs.Told.{role_tells, TellsAsGiven}
use Rattle.theorems.proofs.Tests.{none_not_some}
use Rattle.theorems.proofs.Carrying.{Unstarted, did_unstarted, out_unstarted, bound_unstarted}

-- the laws

pub record Sound (t : List Entry) : Type 0 where
  pub carries : EachOut CarriesWhatWasBound t
  pub tells : EachOut TellsAsGiven t
  pub binds : EachBound BindsByKind t
  pub unstarted : Unstarted t

none_yet : (g : Beginning) (below : List Entry) → Unstarted (opened g below)
none_yet g below n d there = absurd (none_not_some there)

pub none_sound : Sound []
none_sound = record { carries = tt; tells = tt; binds = tt; unstarted = λ n d there. absurd (none_not_some there) }

-- a router that is opened has no delivery
pub opened_sound : (g : Beginning) (below : List Entry) → Sound below → Sound (opened g below)
opened_sound g below was = record { carries = was.carries; tells = was.tells; binds = was.binds; unstarted = none_yet g below }

pub sound_start : (g : Beginning) → Sound (beginning g)
sound_start g = record { carries = tt; tells = tt; binds = tt; unstarted = none_yet g [] }

pub did_sound : (s : Step) (t : List Entry) → Sound t → Sound (Did s ∷ t)
did_sound s t sound = record { carries = sound.carries; tells = sound.tells; binds = sound.binds; unstarted = did_unstarted t s sound.unstarted }

pub took_sound : (c n : ℕ) (t : List Entry) → Sound t → Sound (Took c n ∷ t)
took_sound c n t sound = record { carries = sound.carries; tells = sound.tells; binds = sound.binds; unstarted = sound.unstarted }

pub batch_sound : (t : List Entry) (acts : List Act) {full : List ℕ} → Sound t → Sound (Booked acts full ∷ t)
batch_sound t acts sound = record { carries = sound.carries; tells = sound.tells; binds = sound.binds; unstarted = sound.unstarted }

pub bound_sound : (b : Binding) (t : List Entry) → BindsByKind t b → Sound t → Sound (Bound b ∷ t)
bound_sound b t is sound = record { carries = sound.carries; tells = sound.tells; binds = (is, sound.binds); unstarted = bound_unstarted t b sound.unstarted }

-- a row that is taken up
pub joins_as : (t : List Entry) (b : Binding) (q : Holding) → resumed_held q ≡ None → HoldsRow t b q ⊎ SettlesRow t b q → JoinsAs q t b
joins_as t b (holding.Resumed p) quiet binds = absurd (none_not_some (sym quiet))
joins_as t b (holding.Unresumed a) quiet binds = binds
joins_as t b (holding.Settled a) quiet binds = binds

pub held_sound : (t : List Entry) (b : Binding) (q : Holding) (to : JoinedTo) → b.kind ≡ kind.Joined q to → resumed_held q ≡ None → HoldsRow t b q ⊎ SettlesRow t b q → Sound t → Sound (Bound b ∷ t)
held_sound t b q to is quiet binds sound = bound_sound b t (inl (subst (λ (k : BindingKind). BindsAs k t b) (sym is) (joins_as t b q quiet binds))) sound

pub taken_sound : (t : List Entry) (b : Binding) → TakesUp t b → Sound t → Sound (Bound b ∷ t)
taken_sound t b takes sound = bound_sound b t (inl (subst (λ (k : BindingKind). BindsAs k t b) (sym takes.taken) takes)) sound

-- an item that satisfies the laws

abbrev pub Lawful : List Entry → ℕ → Item → Type 0
Lawful t c i = CarriesWhatWasBound t c i × TellsAsGiven t c i

pub out_sound : (c : ℕ) (i : Item) (t : List Entry) → Lawful t c i → Sound t → Sound (Out c i ∷ t)
out_sound c i t is sound = record {
  carries = (is.0, sound.carries);
  tells = (is.1, sound.tells);
  binds = sound.binds;
  unstarted = out_unstarted t c i is.0 sound.unstarted;
}

-- each after the entries before it
abbrev pub AllLawful : List Entry → List Put → Type 0
AllLawful t [] = Unit {0}
AllLawful t (p ∷ ps) = Lawful t p.conn p.item × AllLawful (Out p.conn p.item ∷ t) ps

pub goes_sound : (ps : List Put) (t : List Entry) → AllLawful t ps → Sound t → Sound (goes ps t)
goes_sound [] t all sound = sound
goes_sound (p ∷ ps) t all sound = goes_sound ps (Out p.conn p.item ∷ t) all.1 (out_sound p.conn p.item t all.0 sound)

-- an item that is neither a transfer nor a disposition to a producer is always lawful

abbrev pub is_receiver : Role → Bool
is_receiver Receiver = true
is_receiver Sender = false

abbrev pub is_loud_in : Perf → Bool
is_loud_in (perf.Transfer x) = true
is_loud_in (perf.Disposition x) = is_receiver x.role
is_loud_in _ = false

abbrev pub is_loud : Item → Bool
is_loud (item.Frame sasl own body payload) = is_loud_in body
is_loud _ = false

quiet_role : (role : Role) (t : List Entry) (c own : ℕ) (x : Disposition) → is_receiver role ≡ false → role_tells role t c own x
quiet_role Receiver t c own x h = absurd cc
quiet_role Sender t c own x h = tt

quiet_perf : (body : Perf) (t : List Entry) (c : ℕ) (sasl : Bool) (own : ℕ) (payload : List ℕ) → is_loud_in body ≡ false → Lawful t c (item.Frame sasl own body payload)
quiet_perf (perf.Transfer x) t c sasl own payload h = absurd cc
quiet_perf (perf.Disposition x) t c sasl own payload h = (tt, quiet_role x.role t c own x h)
quiet_perf _ t c sasl own payload h = (tt, tt)

pub quiet_item : (i : Item) (t : List Entry) (c : ℕ) → is_loud i ≡ false → Lawful t c i
quiet_item (item.Frame sasl own body payload) t c h = quiet_perf body t c sasl own payload h
quiet_item _ t c h = (tt, tt)

abbrev pub Quiet : List Item → Type 0
Quiet [] = Unit {0}
Quiet (i ∷ is) = (is_loud i ≡ false) × Quiet is

abbrev pub QuietPut : List Put → Type 0
QuietPut [] = Unit {0}
QuietPut (p ∷ ps) = (is_loud p.item ≡ false) × QuietPut ps

pub quiet_both : (ps qs : List Put) → QuietPut ps → QuietPut qs → QuietPut (ps ++ qs)
quiet_both [] qs first rest = rest
quiet_both (p ∷ ps) qs first rest = (first.0, quiet_both ps qs first.1 rest)

pub quiet_to : (c : ℕ) (is : List Item) → Quiet is → QuietPut (each_to c is)
quiet_to c [] quiet = tt
quiet_to c (i ∷ is) quiet = (quiet.0, quiet_to c is quiet.1)

pub quiet_lawful : (ps : List Put) (t : List Entry) → QuietPut ps → AllLawful t ps
quiet_lawful [] t quiet = tt
quiet_lawful (p ∷ ps) t quiet = (quiet_item p.item t p.conn quiet.0, quiet_lawful ps (Out p.conn p.item ∷ t) quiet.1)

pub quiet_sound : (ps : List Put) (t : List Entry) → QuietPut ps → Sound t → Sound (goes ps t)
quiet_sound ps t quiet sound = goes_sound ps t (quiet_lawful ps t quiet) sound

-- What an event's answer binds, if it binds anything, is what it says, and the laws hold with the items that it puts.
abbrev pub Answered : List Entry → List Put → Option Binding → Type 0
Answered t ps None = Sound (goes ps t)
Answered t ps (Some b) = BindsAs b.kind t b × Sound (goes ps (Bound b ∷ t))

pub answer_binds : (b : Binding) (t : List Entry) → BindsAs b.kind t b → Sound t → Answered t [] (Some b)
answer_binds b t is sound = (is, bound_sound b t (inl is) sound)

pub answer_sound : (t : List Entry) (ps : List Put) (b : Option Binding) → Answered t ps b → Sound (goes ps (with_bound b t))
answer_sound t ps None answered = answered
answer_sound t ps (Some b) answered = answered.1

-- items don't change the last event handled
pub still_handled : (ps : List Put) (t : List Entry) (v : Option Handled) → just_handled t ≡ v → just_handled (goes ps t) ≡ v
still_handled [] t v is = is
still_handled (p ∷ ps) t v is = still_handled ps (Out p.conn p.item ∷ t) v is
