-- What is used in all.
mod Locked
pub mod Always
pub mod Tests
-- A stop.
pub mod Stops
-- Messages: their consumer, their frames, their outcomes.
pub mod Tags
pub mod Followed
pub mod Bindings
pub mod Rebound
pub mod Outcomes
pub mod Telling
pub mod Carrying
pub mod Names
pub mod Sound
pub mod Standing
pub mod GoingOn
pub mod LinkNumbers
pub mod Sending
pub mod Tells
pub mod Quiet
pub mod Claimed
pub mod Middles
pub mod Owning
pub mod Begun
pub mod Unshared
pub mod Ours
pub mod Wholes
pub mod Firsts
pub mod Arriving
pub mod Resumed
-- Durable links and messages in the book.
pub mod Made
pub mod Keeping
pub mod Served
pub mod Admitted
pub mod Rows
pub mod AllSound
pub mod Numbered
-- Durable outcomes in the book.
pub mod Looking
pub mod Applying
pub mod Once
pub mod Undecided
pub mod Changing
pub mod Hearing
pub mod Settling
pub mod KeptForm
pub mod Ended
pub mod Facts
pub mod Volatile
pub mod Decisions
pub mod Giving
pub mod Forgetting
pub mod Booked
pub mod Joins
pub mod Lasting
pub mod Held
pub mod Taking
pub mod Brings
pub mod Mapped
pub mod Consuming
pub mod Naming
pub mod Keeps
pub mod Ending
pub mod Rowing
pub mod Attaching
pub mod Answering
pub mod KeptFirst
-- What the journal has of an outcome.
pub mod Encoded
pub mod EncodedStates
pub mod AsTold
-- Who accepted a row.
pub mod Among
pub mod Accepting
-- Runs that end by stops.
pub mod EveryMove
pub mod Lives
-- The outcome that a row has is the one that is told.
pub mod Forms
pub mod ToldAsKept
pub mod EncodedItems
pub mod EncodedScenes
pub mod ToldInScripts
-- The consumer of a row.
pub mod Origins
pub mod DecidedFirst
pub mod OwnConsumer
pub mod GivenOnce
pub mod AcceptedFirst
pub mod ToldRightly
pub mod ToldWrongly
-- The order on a connection.
pub mod Headed
pub mod OnlyHeaders
pub mod Alike
pub mod Doored
pub mod AtDoor
-- Windows and credit.
pub mod Bare
pub mod WindowsKept
pub mod Echoed
pub mod CreditKept
-- Takes.
pub mod Untaken
pub mod UntakenActs
pub mod UntakenDeliveries
pub mod UntakenGrants
pub mod UntakenLinks
pub mod UntakenPassed
pub mod UntakenRows
pub mod Plain
pub mod Takes
-- One connection, whatever happens on others.
pub mod Mine
pub mod MineLinks
pub mod Idle
pub mod Only
pub mod WindowsWide
pub mod Apart
-- Pieces.
pub mod Calming
pub mod Courses
pub mod Copying
pub mod CopiedAll
pub mod Shadows
pub mod Shadowing
pub mod Streaming
pub mod Joining
pub mod Pieces
