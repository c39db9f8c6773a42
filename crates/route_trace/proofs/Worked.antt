-- A link that is routed, step by step: what the definitions say of it.
use Rattle.std.specs.Prelude.{◌≡◌, refl, ℕ, true, false, [], ◌∷◌, Some, None, codes}
use Rattle.amqp_model.specs.declared.item.Item.{Item}
use Rattle.amqp_model.specs.declared.perf.Attach.{Attach}
use Rattle.amqp_model.specs.declared.perf.Perf.TheVariants as perf
use Rattle.amqp_model.specs.declared.perf.Role.TheVariants.{Sender, Receiver}
use Rattle.router_trace.specs.declared.event.Event.TheVariants as event
use Rattle.router_trace.specs.declared.event.PeerRole.TheVariants.{Normal, RouteContainer}
use Rattle.router_trace.specs.Frames.{open_item, router_open, begin_item, router_begin, frame_on}
use Rattle.router_trace.specs.LinkFrames.{detach_item, attach_item}
use Rattle.router_trace.specs.Routed.{RoutedLink, Begun, Answered, Passed, near, far}
use Rattle.router_trace.specs.Trace.{Out, Routed, Trace, did}
use Rattle.amqp_model.specs.ItemSpelling as items
use Rattle.amqp_model.specs.PerfSpelling as perfs
use Rattle.amqp_model.specs.Texts as texts
use Rattle.amqp_model.specs.ValueSpelling as values
use Rattle.router_trace.specs.LinkFrames.{refusal_of}
use Rattle.router_trace.specs.declared.condition.Condition.TheVariants.{NotFound}
use Rattle.route_trace.specs.declared.ends.LinkEnd.{LinkEnd}
use Rattle.route_trace.specs.declared.ends.RoutedAt.TheVariants as found
use Rattle.route_trace.specs.declared.ends.Side.TheVariants.{Near, Far}
use Rattle.route_trace.specs.Looking.{answers, routed_at, ends_of, first_end, up_to}
use Rattle.route_trace.specs.Serving.{serves, own_session}
use Rattle.route_trace.specs.Passing.{passing, first_below}
use Rattle.route_trace.specs.Pairs.{is_of}
use Rattle.route_trace.specs.Taking.{told_of_loss}

abbrev client_attach : Attach
client_attach = record {
  name = codes "p1";
  handle = 0;
  role = Sender;
  snd_settle_mode = 2;
  rcv_settle_mode = 0;
  source = None;
  target = None;
  unsettled = None;
  incomplete_unsettled = false;
  initial_delivery_count = Some 0;
  max_message_size = None;
  offered_capabilities = [];
  desired_capabilities = [];
  properties = None;
}

abbrev answer : Attach
answer = record client_attach { role = Receiver; handle = 5 }

abbrev heard : ℕ → Item → Trace → Trace
heard c i t = did (event.Item (record { 0 = c }) i) ∷ t

-- a container on connection 1, and a client on connection 2 with a session
abbrev stands : Trace
stands =
    Out 2 (begin_item 0 (Some 0)) ∷ heard 2 (frame_on 0 (perf.Begin (router_begin None)))
    (Out 2 (open_item (codes "R1")) ∷ heard 2 (frame_on 0 (perf.Open (router_open (codes "c"))))
    (did (event.Up (record { 0 = 2 }) (record { user = codes "u"; role = Normal }))
    ∷ Out 1 (open_item (codes "R1")) ∷ heard 1 (frame_on 0 (perf.Open (router_open (codes "b"))))
    (did (event.Up (record { 0 = 1 }) (record { user = codes "u"; role = RouteContainer })) ∷ [])))

it_serves : serves stands (codes "b") ≡ Some 1
it_serves = refl

no_other_serves : serves stands (codes "c") ≡ None
no_other_serves = refl

-- the client's attach is routed, on a session that the router begins
abbrev led : RoutedLink
led = record {
  near = record { conn = 2; channel = 0; handle = 0 };
  handle = 0;
  attach = client_attach;
  far = record { conn = 1; channel = 0; handle = 0 };
}

abbrev routed : Trace
routed = Routed (Begun led) ∷ Out 1 (begin_item 0 None) ∷ heard 2 (attach_item 0 client_attach) stands

its_session : own_session routed 1 ≡ Some 0
its_session = refl

abbrev near_end : LinkEnd
near_end = record { link = record { 0 = 0 }; side = Near }

abbrev far_end : LinkEnd
far_end = record { link = record { 0 = 0 }; side = Far }

it_stands : routed_at routed 2 0 0 ≡ found.On near_end
unfolding first_end
it_stands = refl

nothing_goes : passing routed ≡ []
unfolding first_below
nothing_goes = refl

-- the container's begin lets the attach go
abbrev begun : Trace
begun = heard 1 (frame_on 3 (perf.Begin (router_begin (Some 0)))) routed

the_attach_goes : passing begun ≡ Passed 0 far 1 (attach_item 0 client_attach) ∷ []
unfolding first_below items.item_spelling perfs.spelling texts.described_text texts.given values.spelling
the_attach_goes = refl

abbrev attached : Trace
attached = heard 1 (attach_item 3 answer) (Routed (Passed 0 far 1 (attach_item 0 client_attach)) ∷ begun)

it_answers : answers attached 1 0 answer ≡ Some far_end
unfolding first_end
it_answers = refl

abbrev answered : Trace
answered = Routed (Answered 0 5) ∷ attached

the_answer_goes : passing answered ≡ Passed 0 near 2 (attach_item 0 (record answer { handle = 0 })) ∷ []
unfolding first_below items.item_spelling perfs.spelling texts.described_text texts.given values.spelling
the_answer_goes = refl

abbrev joined : Trace
joined = Routed (Passed 0 near 2 (attach_item 0 (record answer { handle = 0 }))) ∷ answered

-- the container detaches; the client's detach answers it
abbrev leaving : Trace
leaving = heard 1 (detach_item 3 5 true None) joined

the_detach_goes : passing leaving ≡ Passed 0 near 2 (detach_item 0 0 true None) ∷ []
unfolding first_below items.item_spelling perfs.spelling texts.described_text texts.given values.spelling
the_detach_goes = refl

abbrev told : Trace
told = heard 2 (detach_item 0 0 true None) (Routed (Passed 0 near 2 (detach_item 0 0 true None)) ∷ leaving)

the_answer_to_it_goes : passing told ≡ Passed 0 far 1 (detach_item 0 0 true None) ∷ []
unfolding first_below items.item_spelling perfs.spelling texts.described_text texts.given values.spelling
the_answer_to_it_goes = refl

abbrev over : Trace
over = Routed (Passed 0 far 1 (detach_item 0 0 true None)) ∷ told

no_end_is_left : ends_of over 1 ≡ []
unfolding up_to first_end
no_end_is_left = refl

nor_here : ends_of over 2 ≡ []
unfolding up_to first_end
nor_here = refl

-- the client attaches and detaches before the container's session is begun: both go, and then the container's answers do
abbrev hasty : Trace
hasty = heard 1 (frame_on 3 (perf.Begin (router_begin (Some 0)))) (heard 2 (detach_item 0 0 true None) routed)

its_attach_goes_first : passing hasty ≡ Passed 0 far 1 (attach_item 0 client_attach) ∷ []
unfolding first_below items.item_spelling perfs.spelling texts.described_text texts.given values.spelling
its_attach_goes_first = refl

abbrev hasty_gone : Trace
hasty_gone = Routed (Passed 0 far 1 (detach_item 0 0 true None)) ∷ Routed (Passed 0 far 1 (attach_item 0 client_attach)) ∷ hasty

its_detach_goes_next : passing (Routed (Passed 0 far 1 (attach_item 0 client_attach)) ∷ hasty) ≡ Passed 0 far 1 (detach_item 0 0 true None) ∷ []
unfolding first_below items.item_spelling perfs.spelling texts.described_text texts.given values.spelling
its_detach_goes_next = refl

abbrev hasty_answered : Trace
hasty_answered = Routed (Answered 0 5) ∷ heard 1 (attach_item 3 answer) hasty_gone

the_answer_still_goes : passing hasty_answered ≡ Passed 0 near 2 (attach_item 0 (record answer { handle = 0 })) ∷ []
unfolding first_below items.item_spelling perfs.spelling texts.described_text texts.given values.spelling
the_answer_still_goes = refl

-- the container is lost: a client whose attach is unanswered is refused, one that is attached is detached
unanswered_is_refused : told_of_loss begun (is_of 1) (ends_of begun 1)
    ≡ Passed 0 near 2 (attach_item 0 (refusal_of client_attach 0)) ∷ Passed 0 near 2 (detach_item 0 0 true (Some NotFound)) ∷ []
unfolding up_to first_end
unanswered_is_refused = refl

attached_is_told : told_of_loss joined (is_of 1) (ends_of joined 1) ≡ Passed 0 near 2 (detach_item 0 0 false (Some NotFound)) ∷ []
unfolding up_to first_end
attached_is_told = refl

-- the client is lost: the container is told, if the attach is out there
container_is_told : told_of_loss joined (is_of 2) (ends_of joined 2) ≡ Passed 0 far 1 (detach_item 0 0 false (Some NotFound)) ∷ []
unfolding up_to first_end
container_is_told = refl

nothing_is_told : told_of_loss routed (is_of 2) (ends_of routed 2) ≡ []
unfolding up_to first_end
nothing_is_told = refl

and_it_is_taken_back : ends_of (did (event.Down (record { 0 = 2 })) ∷ routed) 1 ≡ []
unfolding up_to first_end
and_it_is_taken_back = refl
