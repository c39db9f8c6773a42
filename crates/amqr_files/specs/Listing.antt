-- The listing of a stream: a line for each item, and one for the rest.
use Rattle.std.specs.Prelude.{◌≡◌, ℕ, Bool, true, false, if◌then◌else◌, List, [], ◌∷◌, ◌++◌, map, length, codes, decimal, Option, Some, IfSome}
use Rattle.std.specs.Fmt.{digits}
use Rattle.std.specs.Io.KnownBytes.{Appends}
use Rattle.std.specs.List.{list_any}
use Rattle.amqp_model.specs.FrameFaults.{fault_number}
use Rattle.amqp_frames.specs.Cuts.{Cuts}
use Rattle.amqp_model.specs.declared.item.Item.{Item}
use Rattle.amqp_model.specs.declared.item.Item.TheVariants as item
use Rattle.amqp_model.specs.declared.descriptor.Descriptor.{Descriptor}
use Rattle.amqp_model.specs.declared.descriptor.Descriptor.TheVariants as is
use Rattle.amqp_model.specs.declared.perf.Perf.{Perf}
use Rattle.amqp_model.specs.declared.perf.Perf.TheVariants as perf
use Rattle.amqp_model.specs.Descriptors.{code_of}
use Rattle.amqr_files.specs.Print.{Refuses, printed}
use Rattle.amqr_files.specs.declared.listing.ListingLine.{ListingLine}
use Rattle.amqr_files.specs.declared.listing.ListingLine.TheVariants.{Header, Beat, Frame, Sasl, Bad, Rest}
use Rattle.amqr_files.specs.declared.status.Status.{Status}
use Rattle.amqr_files.specs.declared.status.Status.TheVariants.{Done, BadInput, BadWords, Failed}
use Rattle.amqr_files.specs.declared.status.Refusal.TheVariants as refusal

-- the descriptor of a performative or a SASL body
abbrev pub descriptor_of : Perf → Descriptor
descriptor_of (perf.Open p) = is.Open
descriptor_of (perf.Begin p) = is.Begin
descriptor_of (perf.Attach p) = is.Attach
descriptor_of (perf.Flow p) = is.Flow
descriptor_of (perf.Transfer p) = is.Transfer
descriptor_of (perf.Disposition p) = is.Disposition
descriptor_of (perf.Detach p) = is.Detach
descriptor_of (perf.End p) = is.End
descriptor_of (perf.Close p) = is.Close
descriptor_of (perf.SaslMechanisms p) = is.SaslMechanisms
descriptor_of (perf.SaslInit p) = is.SaslInit
descriptor_of (perf.SaslChallenge p) = is.SaslChallenge
descriptor_of (perf.SaslResponse p) = is.SaslResponse
descriptor_of (perf.SaslOutcome p) = is.SaslOutcome

-- the line of an item: a SASL frame's channel is left out, and of a payload only its length is given
abbrev pub line_of : Item → ListingLine
line_of (item.Header id major minor revision) = Header id
line_of (item.Beat channel) = Beat channel
line_of (item.Frame sasl channel p payload) = if sasl then Sasl (descriptor_of p) else Frame channel (descriptor_of p) (length payload)
line_of (item.Bad fault) = Bad (fault_number fault)

abbrev pub lines_of_items : List Item → List ListingLine
lines_of_items items = map line_of items

-- the lines of the items that a stream is cut into, and of the bytes after them, including those of no item
abbrev pub IsListing : List ℕ → List ListingLine → Type 0
IsListing stream lines = (ended : Bool) × (items : List Item) × (rest : List ℕ) × Cuts ended stream items rest × (lines ≡ lines_of_items items ++ Rest (length rest) ∷ [])

-- the text of a line, without the line feed; a descriptor is written by its two hexadecimal digits
abbrev pub text_of : ListingLine → List ℕ
text_of (Header id) = codes "header " ++ decimal id
text_of (Beat channel) = codes "beat " ++ decimal channel
text_of (Frame channel d payload) = codes "frame " ++ (decimal channel ++ (codes " " ++ (digits 16 true (code_of d) ++ (codes " " ++ decimal payload))))
text_of (Sasl d) = codes "sasl " ++ digits 16 true (code_of d)
text_of (Bad fault) = codes "bad " ++ decimal fault
text_of (Rest bytes) = codes "rest " ++ decimal bytes

abbrev pub is_bad : ListingLine → Bool
is_bad (Bad fault) = true
is_bad _ = false

-- the listing of the stream was written, and it reports bytes that begin no item, or not
abbrev pub WritesListing : Bool → List ℕ → Option (List ℕ) → Option (List ℕ) → Type 0
WritesListing bad stream old new = (lines : List ListingLine) × IsListing stream lines × (list_any is_bad lines ≡ bad) × IfSome (printed (λ x. Some (text_of x)) lines) (Appends old new)

-- what was written, by how the listing of a stream ends
abbrev pub Lists : List ℕ → Status → Option (List ℕ) → Option (List ℕ) → Type 0
Lists stream Done old new = WritesListing false stream old new
Lists stream BadInput old new = WritesListing true stream old new
Lists stream BadWords old new = ⊥
Lists stream Failed old new = Refuses refusal.Memory old new
