-- The theorem: what the router promises, whatever peers send, and whenever it is stopped. Each law is one line; the
-- function of its name in src/theorems.rt proves it. The last one, the headline, puts the most important ones together.
-- A trace is what happened since the opening (docs/trace.md).
-- `Always`: in every trace of the router, and over every list of runs; `InOneRun`: in one. `Each`: over the trace so far.
use Rattle.std.specs.Prelude.{ℕ, List}
use Rattle.amqp_model.specs.declared.state.DeliveryState.{DeliveryState}
use Rattle.disk_core.specs.Twin.{Contents}
use Rattle.router_trace.specs.declared.event.Event.{Event}
use Rattle.router_trace.specs.Trace.{Beginning}
use Rattle.router_core.specs.declared.router.Core.{Core}
use Rattle.core_runs.specs.declared.driving.Driven.{Driven}
use Rattle.theorems.specs.Alike.{AnsweredAlone, SameWheneverTaken, SameHoweverCut}
use Rattle.theorems.specs.AsTold.{IsSendable, IsKeptAsTold, OutcomeIsInRow, RowsHaveWhatIsTold}
use Rattle.theorems.specs.Always.{Always, AlwaysFrom, AlwaysInTurn, AlwaysOnSound, InOneRun, InScripts, OnSound}
use Rattle.theorems.specs.Credit.{WithinCredit}
use Rattle.theorems.specs.Durable.{IsKeptFirst, RowIsAdmitted, EachRowIsBoundOnce, EachNewRowIsBound, OutcomeIsKept, EachOutcomeIsKept, EachRowIsDecidedOnce, RowsAreDecidedOnce, RowsAreAcceptedByConsumers, AcceptedIsTrue, MapIsOfBook, MapIsTrue, GoesToOwnConsumer, NumbersAreGivenOnce, TellsItsOwnRow, ToldRightly}
use Rattle.theorems.specs.Each.{EachOut, EachBound}
use Rattle.theorems.specs.Lives.{InLives, InSmallLives}
use Rattle.theorems.specs.Locked.{Kind, UnderTheLock, UnderTheLockIfSmall}
use Rattle.theorems.specs.Messages.{BindsByKind, BringsItsOutcome, CopiesAreForAll, EachDeliveryCame, StaysWithConsumer, NeverComesBack, OfMessages, CarriesWhatWasBound, FramesJoin, OutcomesAreGiven, OutcomesAreOfConsumers, ToldAtMostOnce, ToldAnew, TellsAsGiven}
use Rattle.theorems.specs.Order.{KeepsOrder, BeginsWithHeaders}
use Rattle.theorems.specs.Scripts.{InSmallScripts, InSmallRuns}
use Rattle.theorems.specs.Stops.{Stopping, AnyMomentLeavesAPrefix, TheEndLeavesAll, AFaultLeavesAllAnswered, EndsALife, EndsALifeAnswered, GoesOnFrom}
use Rattle.theorems.specs.Windows.{WindowKept}

-- Stopped at any moment, the journal opens to the book after some first groups of events, and some first events of the
-- next one; at the end, if no fault was answered, to the book after all of them, and if one was, to a book that holds all
-- of which an item was taken. It is the book of the runs before, and of this one.
abbrev pub AStopLeavesAPrefix : {T : Type 0} → Stopping T → Core T → List (List Event) → Core T → Driven → Type 0
AStopLeavesAPrefix d old groups new x =
    AnyMomentLeavesAPrefix d old groups new × TheEndLeavesAll d old groups new x × AFaultLeavesAllAnswered d old groups new x
    × EndsALife d old groups new × EndsALifeAnswered d old groups new x

-- A router that is opened on what a stop left goes on from the runs of whose book that is.
abbrev pub ARouterGoesOn : {T : Type 0} → Stopping T → List ℕ → Beginning → Contents → Core T → Type 0
ARouterGoesOn d id opening contents core = GoesOnFrom d id opening contents core

-- A transfer goes to an attached link, and starts a delivery only where the link has credit left; a flow moves the link's
-- delivery-count forward only, by at most that credit.
abbrev pub NoDeliveryStartsBeyondCredit : Type 0
NoDeliveryStartsBeyondCredit = Always WithinCredit

-- A message stays with the consumer to which it was bound, and its delivery never comes back once it is over.
abbrev pub ADeliveryHasOneConsumer : Type 0
ADeliveryHasOneConsumer = StaysWithConsumer × NeverComesBack × OfMessages

-- Each transfer carries the next bytes of a message to its consumer; the last one completes it.
abbrev pub FramesCarryWhatWasBound : Type 0
FramesCarryWhatWasBound = Always (EachOut CarriesWhatWasBound) × Always FramesJoin

-- A message is bound when it has come whole, as it came, and only once, except that its row may be taken up again, with
-- the outcome that the book has of it; or, on a multicast address, once for each consumer that has free credit then.
abbrev pub MessagesAreBoundOnce : Type 0
MessagesAreBoundOnce =
    Always (EachBound BindsByKind) × Always CopiesAreForAll × Always EachDeliveryCame × AlwaysOnSound (EachBound BringsItsOutcome)

-- An outcome is what the consumer gave, or what the end of its link gives; or its message came settled, and was sent.
abbrev pub OutcomesAreAsGiven : Type 0
OutcomesAreAsGiven = OutcomesAreGiven × OutcomesAreOfConsumers

-- A producer is told of a delivery at most once: the outcome that was given, or that the message went to nobody.
abbrev pub OutcomesAreToldOnce : Type 0
OutcomesAreToldOnce = ToldAtMostOnce × ToldAnew × Always (EachOut TellsAsGiven)

-- The outcome of a delivery with a row is in the journal's book before it is told, to the row's own producer, and no row
-- is decided twice.
abbrev pub DurableOutcomesAreKeptFirst : Type 0
DurableOutcomesAreKeptFirst =
    AlwaysInTurn (OnSound EachOutcomeIsKept) × AlwaysFrom (OnSound EachRowIsDecidedOnce)
    × InSmallLives (EachOut OutcomeIsKept) × InLives RowsAreDecidedOnce × InSmallLives (EachOut TellsItsOwnRow)

-- What the journal has of an outcome that a peer can send is the very state that the producer is told; and so has a row, over all runs in which each
-- frame that came was encoded; and so in every script of bytes, and over all runs of such scripts.
abbrev pub OutcomesAreKeptAsTold : Type 0
OutcomesAreKeptAsTold =
    ((s : DeliveryState) → IsSendable s → IsKeptAsTold s) × InSmallLives RowsHaveWhatIsTold
    × InSmallScripts (EachOut OutcomeIsInRow) × InSmallRuns (EachOut OutcomeIsInRow)

-- What the book has as accepted its consumer accepted, in this run or an earlier one; no producer is told accepted
-- before, by a disposition or by the map of an attach, which has what the book has.
abbrev pub AcceptedIsToldTruly : Type 0
AcceptedIsToldTruly =
    InLives RowsAreAcceptedByConsumers × InSmallLives (EachOut AcceptedIsTrue) × AlwaysOnSound (EachOut MapIsOfBook) × InLives (EachOut MapIsTrue)

-- What a producer is told of a durable delivery, by a disposition or by the map of an attach, is what was decided of its row,
-- in this run or an earlier one: accepted only if the row's own consumer accepted it while it was undecided. Of a message
-- without a row it is told that nobody takes it, and nothing else.
abbrev pub ProducersAreToldRightly : Type 0
ProducersAreToldRightly = InSmallLives (EachOut ToldRightly)

-- What is sent of a row goes to the link of the consumer for which it was admitted, in this run or an earlier one; it
-- was admitted once, and so its consumer's terminus was made once.
abbrev pub RowsStayWithConsumers : Type 0
RowsStayWithConsumers = InLives (EachOut GoesToOwnConsumer) × InLives NumbersAreGivenOnce

-- Under the lock, whatever threads do and whatever runs were before: within credit, outcomes kept first, decided once.
abbrev pub TheLockKeepsThem : {T : Type 0} → Kind T → Type 0
TheLockKeepsThem d =
    UnderTheLock d (λ g u. WithinCredit u) WithinCredit × UnderTheLockIfSmall d EachOutcomeIsKept (EachOut OutcomeIsKept)
    × UnderTheLock d EachRowIsDecidedOnce RowsAreDecidedOnce

-- A durable link is taken only once its terminus is in the book.
abbrev pub DurableLinksAreKeptFirst : Type 0
DurableLinksAreKeptFirst = Always (EachOut IsKeptFirst)

-- A durable message is in the book, whole, before it is bound; each row is bound once, except where it is taken up again.
abbrev pub DurableMessagesAreKeptFirst : Type 0
DurableMessagesAreKeptFirst = Always (EachBound RowIsAdmitted) × Always EachRowIsBoundOnce × AlwaysFrom EachNewRowIsBound

-- On each connection header, open and close come at most once, in order, and all other frames in their turn.
abbrev pub ConnectionsKeepOrder : Type 0
ConnectionsKeepOrder = InOneRun KeepsOrder

-- Before each transfer the session's window has room.
abbrev pub WindowsAreKept : Type 0
WindowsAreKept = Always WindowKept

-- In every script of bytes the same order is kept, and nothing is put out before the router's header.
abbrev pub ScriptsKeepOrder : Type 0
ScriptsKeepOrder = InScripts KeepsOrder × InScripts BeginsWithHeaders

-- In every script of bytes windows have room, and deliveries start within credit.
abbrev pub ScriptsKeepWindowsAndCredit : Type 0
ScriptsKeepWindowsAndCredit = InScripts WindowKept × InScripts WithinCredit

-- When items are taken from outboxes, and how many at a time, makes no difference as long as none is full.
abbrev pub TakesMakeNoDifference : Type 0
TakesMakeNoDifference = SameWheneverTaken

-- A connection on which no attach is received is answered the same, whatever happens on others.
abbrev pub ConnectionsAreAnsweredAlone : Type 0
ConnectionsAreAnsweredAlone = AnsweredAlone

-- How the bytes of connections are cut into pieces makes no difference as long as no outbox is full.
abbrev pub PiecesMakeNoDifference : Type 0
PiecesMakeNoDifference = SameHoweverCut

-- The headline. Stopped before, within or after any call of its files, the journal reopens to the book of a prefix of the
-- events handled that holds every event answered; and over every list of runs each row is decided at most once, and goes to
-- its own consumer alone, a producer is told accepted only after its consumer accepted, and no link starts a delivery
-- beyond its granted credit.
abbrev pub TheHeadline : {T : Type 0} → Stopping T → Core T → List (List Event) → Core T → Driven → Type 0
TheHeadline d old groups new x =
    AStopLeavesAPrefix d old groups new x × InLives RowsAreDecidedOnce × RowsStayWithConsumers × ProducersAreToldRightly
    × AcceptedIsToldTruly × InLives WithinCredit
