-- The history of a link's ids counts the deliveries that came and went.
use Rattle.std.proofs.Common.{◌≡◌, ◌≤◌, ◌∙◌, ◌+◌, ℕ, Bool, true, false, refl, sym, ap, subst, List, [], ◌∷◌, ◌++◌, Option, Some, None, if◌then◌else◌, map, arith}
use Rattle.std.specs.Option.{is_some}
use Rattle.amqp_model.specs.declared.perf.Transfer.{Transfer}
use Rattle.amqp_model.specs.declared.perf.Disposition.{Disposition}
use Rattle.route_links.specs.declared.allowed.Allowed.{Allowed}
use Rattle.route_links.specs.declared.allowed.Turn.TheVariants.{Passed}
use Rattle.route_links.specs.declared.middle.Middle.{Middle}
use Rattle.route_links.specs.declared.middle.Middle.TheVariants.{Between, Open, Settled}
use Rattle.route_links.specs.declared.passing.Passing.{Passing}
use Rattle.route_links.specs.declared.passing.Passing.TheVariants as pass
use Rattle.route_links.specs.declared.passing.StartNumber.{StartNumber}
use Rattle.route_links.specs.Parts.{Part, Attached, Flowed, Start, Again, Settles, Byte, Aborts, Ends, Decides, Detached, has_fields, fields, again, saying, ending, transfer_parts, parts, starts}
use Rattle.route_links.specs.Legs.{Held, Mirrors}
use Rattle.route_links.specs.Turns.{turn}
use Rattle.route_links.specs.Releases.{is_transfer, is_start}
use Rattle.route_links.specs.Naming.{History, IsLawful, CameSettled, started, gone, known, out_of, waiting}
use Rattle.route_links.specs.Frames.{is_over, came_under_id, transfer_came, disposition_came, from_sender, from_receiver, went_under_id, to_receiver, to_sender, starts_in, Counts, NamesStarted, NamesOne}
use Rattle.route_links.proofs.Lawful.{went_under_an_id, held_is_known}
use Rattle.route_links.proofs.Passes.{one, passes}
use Rattle.route_links.proofs.Waiting.{waits_behind}

-- the starts of more parts
starts_both : (ps qs : List Part) → starts_in (ps ++ qs) ≡ starts_in ps + starts_in qs
starts_both [] qs = omega arith
starts_both (Attached a ∷ ps) qs = starts_both ps qs
starts_both (Flowed f ∷ ps) qs = starts_both ps qs
starts_both (Start x ∷ ps) qs = let l = starts_both ps qs in omega (arith, l)
starts_both (Again x ∷ ps) qs = starts_both ps qs
starts_both (Settles ∷ ps) qs = starts_both ps qs
starts_both (Byte b ∷ ps) qs = starts_both ps qs
starts_both (Aborts ∷ ps) qs = starts_both ps qs
starts_both (Ends ∷ ps) qs = starts_both ps qs
starts_both (Decides k e ∷ ps) qs = starts_both ps qs
starts_both (Detached e ∷ ps) qs = starts_both ps qs

-- those of a transfer
bytes_start : (payload : List ℕ) (ps : List Part) → starts_in (map Byte payload ++ ps) ≡ starts_in ps
bytes_start [] ps = refl
bytes_start (b ∷ bs) ps = bytes_start bs ps

ending_starts : (aborted more : Bool) → starts_in (if aborted then Aborts ∷ [] else if more then [] else Ends ∷ []) ≡ 0
ending_starts true more = refl
ending_starts false true = refl
ending_starts false false = refl

again_starts : (b : Bool) (x : Transfer) (ps : List Part) → starts_in ((if b then Again x ∷ [] else []) ++ ps) ≡ starts_in ps
again_starts true x ps = refl
again_starts false x ps = refl

settling_starts : (b : Bool) (x : Transfer) (ps : List Part) → starts_in ((if b then again x ++ Settles ∷ [] else again x) ++ ps) ≡ starts_in ps
settling_starts true x ps =
    starts_both (again x ++ Settles ∷ []) ps ∙ ap (λ n. n + starts_in ps) (again_starts (has_fields x) (record (fields x) { settled = false }) (Settles ∷ [])) ∙ zero_more (starts_in ps)
  where
    zero_more : (n : ℕ) → 0 + n ≡ n
    zero_more n = omega arith
settling_starts false x ps = again_starts (has_fields x) (record (fields x) { settled = false }) ps

saying_starts : (m : Middle) (x : Transfer) (ps : List Part) → starts_in ps ≡ 0 → starts_in (saying m x ++ ps) ≡ one (starts m)
saying_starts Between x ps none = ap (λ n. n + 1) none
saying_starts Open x ps none = settling_starts x.settled x ps ∙ none
saying_starts Settled x ps none = again_starts (has_fields x) (record (fields x) { settled = false }) ps ∙ none

transfer_starts : (m : Middle) (x : Transfer) (payload : List ℕ) → starts_in (transfer_parts m x payload) ≡ one (starts m)
transfer_starts m x payload = saying_starts m x (map Byte payload ++ ending x) (bytes_start payload (ending x) ∙ ending_starts x.aborted x.more)

-- what comes from the sender
abbrev Grows : ℕ → History → History → Type 0
Grows n h now = (started now ≡ started h + n) × (gone now ≡ gone h)

stays : (n : ℕ) → n ≡ n + 0
stays n = omega arith

id_came : (id : Option ℕ) (h : History) → Grows 1 h (came_under_id id h)
id_came None h = (refl, refl)
id_came (Some i) h = (refl, refl)

start_grows : (b : Bool) (id : Option ℕ) (h : History) → Grows 1 h (if b then CameSettled ∷ h else came_under_id id h)
start_grows true id h = (refl, refl)
start_grows false id h = id_came id h

later_grows : (b : Bool) (h now : History) → Grows 0 h now → Grows 0 h (if b then now else h)
later_grows true h now is = is
later_grows false h now is = (stays (started h), refl)

transfer_grows : (m : Middle) (x : Transfer) (h : History) → Grows (one (starts m)) h (transfer_came m x h)
transfer_grows Between x h = start_grows (is_over x) x.delivery_id h
transfer_grows Open x h = later_grows (is_over x) h _ (stays (started h), refl)
transfer_grows Settled x h = later_grows (is_over x) h _ (stays (started h), refl)

disposition_grows : (n : ℕ) (b : Bool) (h : History) → Grows 0 h (disposition_came n b h)
disposition_grows n true h = (stays (started h), refl)
disposition_grows n false h = (stays (started h), refl)

sender_grows : (m : Middle) (f : Passing) (h : History) → Grows (starts_in (parts m f)) h (from_sender m f h)
sender_grows m (pass.Attach a) h = (stays (started h), refl)
sender_grows m (pass.Flow f) h = (stays (started h), refl)
sender_grows m (pass.Transfer x payload) h = let is = transfer_grows m x h in (is.0 ∙ ap (λ n. started h + n) (sym (transfer_starts m x payload)), is.1)
sender_grows m (pass.Disposition n d) h = disposition_grows n.0 d.settled h
sender_grows m (pass.Detach d) h = (stays (started h), refl)

pub sender_counts : (h : History) (came went : List Part) (m : Middle) (f : Passing) → Counts h came went → Counts (from_sender m f h) (came ++ parts m f) went
sender_counts h came went m f is = let grown = sender_grows m f h in record {
  starts = grown.0 ∙ ap (λ n. n + starts_in (parts m f)) is.starts ∙ sym (starts_both came (parts m f));
  goes = grown.1 ∙ is.goes;
}

-- what goes to the receiver
abbrev Goes : ℕ → History → History → Type 0
Goes n h now = (started now ≡ started h) × (gone now ≡ gone h + n)

id_goes : (id : Option ℕ) (h : History) → Goes (one (is_some id)) h (went_under_id id h)
id_goes None h = (refl, stays (gone h))
id_goes (Some o) h = (refl, refl)

receiver_goes : (m : Middle) (f : Passing) (h : History) → (is_transfer f ≡ true → is_start f ≡ starts m) → Goes (starts_in (parts m f)) h (to_receiver f h)
receiver_goes m (pass.Attach a) h begins = (refl, stays (gone h))
receiver_goes m (pass.Flow f) h begins = (refl, stays (gone h))
receiver_goes m (pass.Transfer x payload) h begins =
    let is = id_goes x.delivery_id h in
    (is.0, is.1 ∙ ap (λ b. gone h + one b) (begins refl) ∙ ap (λ n. gone h + n) (sym (transfer_starts m x payload)))
receiver_goes m (pass.Disposition n d) h begins = (refl, stays (gone h))
receiver_goes m (pass.Detach d) h begins = (refl, stays (gone h))

pub receiver_counts : (h : History) (a : Allowed) (leg : Held) (came went : List Part) (f : Passing) → turn a leg ≡ Passed f → Counts h came went
    → Counts (to_receiver f h) came (went ++ parts leg.went f)
receiver_counts h a leg came went f turned is = let grown = receiver_goes leg.went f h (passes a leg f turned).begins in record {
  starts = grown.0 ∙ is.starts;
  goes = grown.1 ∙ ap (λ n. n + starts_in (parts leg.went f)) is.goes ∙ sym (starts_both went (parts leg.went f));
}

-- what goes the other way
abbrev Same : History → History → Type 0
Same h now = (started now ≡ started h) × (gone now ≡ gone h)

disposition_same : (n : ℕ) (b : Bool) (h : History) → Same h (disposition_came n b h)
disposition_same n true h = (refl, refl)
disposition_same n false h = (refl, refl)

heard_same : (f : Passing) (h : History) → Same h (from_receiver f h)
heard_same (pass.Attach a) h = (refl, refl)
heard_same (pass.Flow f) h = (refl, refl)
heard_same (pass.Transfer x payload) h = (refl, refl)
heard_same (pass.Disposition n d) h = disposition_same n.0 d.settled h
heard_same (pass.Detach d) h = (refl, refl)

put_same : (f : Passing) (h : History) → Same h (to_sender f h)
put_same (pass.Attach a) h = (refl, refl)
put_same (pass.Flow f) h = (refl, refl)
put_same (pass.Transfer x payload) h = (refl, refl)
put_same (pass.Disposition n d) h = (refl, refl)
put_same (pass.Detach d) h = (refl, refl)

pub heard_counts : (h : History) (came went : List Part) (f : Passing) → Counts h came went → Counts (from_receiver f h) came went
heard_counts h came went f is = let same = heard_same f h in record { starts = same.0 ∙ is.starts; goes = same.1 ∙ is.goes }

pub put_counts : (h : History) (came went : List Part) (f : Passing) → Counts h came went → Counts (to_sender f h) came went
put_counts h came went f is = let same = put_same f h in record { starts = same.0 ∙ is.starts; goes = same.1 ∙ is.goes }

-- each disposition names what was started
names_more : (n : ℕ) (ps qs : List Part) → NamesStarted n ps → NamesStarted (n + starts_in ps) qs → NamesStarted n (ps ++ qs)
names_more n [] qs here there = subst (λ k. NamesStarted k qs) (sym (stays n)) there
names_more n (Attached a ∷ ps) qs here there = names_more n ps qs here there
names_more n (Flowed f ∷ ps) qs here there = names_more n ps qs here there
names_more n (Start x ∷ ps) qs here there = names_more (n + 1) ps qs here (subst (λ k. NamesStarted k qs) (moved (starts_in ps)) there)
  where
    moved : (k : ℕ) → n + (k + 1) ≡ n + 1 + k
    moved k = omega arith
names_more n (Again x ∷ ps) qs here there = names_more n ps qs here there
names_more n (Settles ∷ ps) qs here there = names_more n ps qs here there
names_more n (Byte b ∷ ps) qs here there = names_more n ps qs here there
names_more n (Aborts ∷ ps) qs here there = names_more n ps qs here there
names_more n (Ends ∷ ps) qs here there = names_more n ps qs here there
names_more n (Decides k e ∷ ps) qs here there = (here.0, names_more n ps qs here.1 there)
names_more n (Detached e ∷ ps) qs here there = names_more n ps qs here there

bytes_name : (n : ℕ) (payload : List ℕ) (ps : List Part) → NamesStarted n ps → NamesStarted n (map Byte payload ++ ps)
bytes_name n [] ps names = names
bytes_name n (b ∷ bs) ps names = bytes_name n bs ps names

ending_names : (n : ℕ) (aborted more : Bool) → NamesStarted n (if aborted then Aborts ∷ [] else if more then [] else Ends ∷ [])
ending_names n true more = tt
ending_names n false true = tt
ending_names n false false = tt

again_names : (n : ℕ) (b : Bool) (x : Transfer) → NamesStarted n (if b then Again x ∷ [] else [])
again_names n true x = tt
again_names n false x = tt

settling_names : (n : ℕ) (b : Bool) (x : Transfer) → NamesStarted n (if b then again x ++ Settles ∷ [] else again x)
settling_names n true x = names_more n (again x) (Settles ∷ []) (again_names n (has_fields x) (record (fields x) { settled = false })) tt
settling_names n false x = again_names n (has_fields x) (record (fields x) { settled = false })

saying_names : (n : ℕ) (m : Middle) (x : Transfer) → NamesStarted n (saying m x)
saying_names n Between x = tt
saying_names n Open x = settling_names n x.settled x
saying_names n Settled x = again_names n (has_fields x) (record (fields x) { settled = false })

frame_names : (n : ℕ) (m : Middle) (f : Passing) → NamesOne n f → NamesStarted n (parts m f)
frame_names n m (pass.Attach a) names = tt
frame_names n m (pass.Flow f) names = tt
frame_names n m (pass.Transfer x payload) names =
    let k = n + starts_in (saying m x) in
    names_more n (saying m x) (map Byte payload ++ ending x) (saying_names n m x) (bytes_name (n + starts_in (saying m x)) payload (ending x) (ending_names (n + starts_in (saying m x)) x.aborted x.more))
frame_names n m (pass.Disposition k d) names = (names, tt)
frame_names n m (pass.Detach d) names = tt

pub still_names : (came : List Part) (m : Middle) (f : Passing) → NamesStarted 0 came → NamesOne (starts_in came) f → NamesStarted 0 (came ++ parts m f)
still_names came m f names one_more = names_more 0 came (parts m f) names (frame_names (0 + starts_in came) m f (subst (λ k. NamesOne k f) (zero_more (starts_in came)) one_more))
  where
    zero_more : (k : ℕ) → k ≡ 0 + k
    zero_more k = omega arith

-- so a disposition that is first of what is held has the id of a delivery that went
pub has_its_id : (leg : Held) (h : History) (came went : List Part) (n : StartNumber) (d : Disposition) (fs : List Passing) → Mirrors leg came went → Counts h came went
    → NamesStarted 0 came → IsLawful h → leg.queue ≡ pass.Disposition n d ∷ fs → 1 ≤ waiting h n.0 → is_some (out_of (known h n.0)) ≡ true
has_its_id leg h came went n d fs is counts names lawful first there =
    let went_before = waits_behind leg came went n d fs is names first in
    let same = counts.goes in
    went_under_an_id h n.0 lawful (omega (arith, went_before, same)) (held_is_known h n.0 lawful there)
