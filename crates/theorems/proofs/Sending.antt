-- The frame that is due next carries the next bytes of its message.
use Rattle.std.proofs.Common.{◌≡◌, ◌∙◌, sym, ap, refl, subst, ◌⊎◌, inl, inr, ℕ, zero, suc, ◌+◌, Bool, true, false, not, ◌&&◌, ◌||◌, List, [], ◌∷◌, length, take}
use Rattle.std.specs.Prelude.{◌==◌, Option, Some, None, is_none, is_some, if◌then◌else◌}
use Rattle.std.proofs.Math.Seq.{take-length}
use Rattle.std.proofs.lemmas.Bool.{eqb-true}
use Rattle.amqp_model.specs.declared.perf.Transfer.{Transfer}
use Rattle.amqp_model.specs.Room.{transfer_frame}
use Rattle.router_trace.specs.declared.handle.Attachment.{Attachment}
use Rattle.router_trace.specs.Trace.{Entry}
use Rattle.router_trace.specs.LinkFrames.{fits}
use Rattle.router_trace.specs.Links.{Link, Happened, sends, receives, link, numbered}
use Rattle.router_trace.specs.Peers.{largest_frame}
use Rattle.router_trace.specs.Sessions.{session}
use Rattle.router_trace.specs.Deliveries.{Delivery, delivery, bindings, sending, next_id, is_number, rank_at}
use Rattle.router_trace.specs.DeliveryFrames.{first_transfer, later_transfer, with_more, part_frame, filled, next_frame, largest_out, rest_of}
use Rattle.router_trace.specs.Following.{link_of, goes_on_at, is_going, has_credit, takes_more, is_sending, can_start, is_wide, is_there, can_go, place_to_go, transfer_of, send, send_of, sends_due}
use Rattle.theorems.specs.Carried.{BeginsOrGoesOn}
use Rattle.router_core.proofs.Due.{both_true, placed_elim}
use Rattle.theorems.proofs.Tests.{none_is}
use Rattle.theorems.proofs.Outcomes.{number_is}
use Rattle.theorems.proofs.Carrying.{Unstarted}
use Rattle.theorems.proofs.GoingOn.{GoingSends}
use Rattle.theorems.proofs.Names.{NamesTold}
use Rattle.theorems.proofs.Sound.{Lawful, AllLawful}
use Rattle.theorems.proofs.Standing.{Sends}

-- a delivery goes on, or starts
pub record IsDue (t : List Entry) (n : ℕ) (d : Delivery) : Type 0 where
  pub going_on : d.going_on ≡ true
  pub on_link : Sends t d.link
  pub kind : (d.id ≡ None) ⊎ ((is_some d.id ≡ true) × (sending t d.link.conn.0 d.link.channel d.link.handle ≡ Some n))

goes_on_is : (v : Option Link) (number : ℕ) (sent : Option ℕ) (n : ℕ) → goes_on_at v number sent n ≡ true → sent ≡ Some n
goes_on_is None number sent n h = absurd cc
goes_on_is (Some l) number sent n h =
    number_is sent n (both_true l.going_on (is_number sent n) (both_true (l.number == number) (l.going_on && is_number sent n) h).1).1

-- its link is attached, and the router sends on it
goes_on_on : (t : List Entry) (a : Attachment) (sent : Option ℕ) (n : ℕ) → GoingSends t → (v : Option Link) → link_of t a ≡ v → goes_on_at v a.number sent n ≡ true → Sends t a
goes_on_on t a sent n sending None there h = absurd cc
goes_on_on t a sent n sending (Some l) there h =
    let both = both_true (l.number == a.number) (l.going_on && is_number sent n) h
    in record {
      at = l;
      there = there;
      number = eqb-true l.number a.number both.0;
      way = sending a.conn.0 a.channel a.handle l there (both_true l.going_on (is_number sent n) both.1).0;
    }

credit_sends : (h : Happened) → has_credit h ≡ true → is_sending h ≡ true
credit_sends (sends list) e = refl
credit_sends (receives list) e = absurd cc

takes_more_on : (t : List Entry) (a : Attachment) (v : Option Link) → link_of t a ≡ v → takes_more v a.number ≡ true → Sends t a
takes_more_on t a None there h = absurd cc
takes_more_on t a (Some l) there h =
    let both = both_true (l.number == a.number) (not l.going_on && has_credit l.happened) h
    in record {
      at = l;
      there = there;
      number = eqb-true l.number a.number both.0;
      way = credit_sends l.happened (both_true (not l.going_on) (has_credit l.happened) both.1).1;
    }

going_due : (t : List Entry) (n : ℕ) (d : Delivery) → GoingSends t → is_going t n d ≡ true → IsDue t n d
going_due t n d sending_on h =
    let at : Bool = goes_on_at (link_of t d.link) d.link.number (sending t d.link.conn.0 d.link.channel d.link.handle) n
    in let both = both_true (is_some d.id && d.going_on) at h
    in let begun = both_true (is_some d.id) d.going_on both.0
    in record {
      going_on = begun.1;
      on_link = goes_on_on t d.link (sending t d.link.conn.0 d.link.channel d.link.handle) n sending_on (link_of t d.link) refl both.1;
      kind = inr (begun.0, goes_on_is (link_of t d.link) d.link.number (sending t d.link.conn.0 d.link.channel d.link.handle) n both.1);
    }

starting_due : (t : List Entry) (n : ℕ) (d : Delivery) → can_start t d ≡ true → IsDue t n d
starting_due t n d h =
    let both = both_true (is_none d.id && d.going_on) _ h
    in let fresh = both_true (is_none d.id) d.going_on both.0
    in record { going_on = fresh.1; on_link = takes_more_on t d.link (link_of t d.link) refl (both_true (takes_more (link_of t d.link) d.link.number) _ both.1).0; kind = inl (none_is d.id fresh.0) }

either_due : (t : List Entry) (n : ℕ) (d : Delivery) (a b : Bool) → (a || b) ≡ true → (a ≡ true → IsDue t n d) → (b ≡ true → IsDue t n d) → IsDue t n d
either_due t n d true b h left right = left refl
either_due t n d false b h left right = right h

can_go_due : (t : List Entry) (n : ℕ) (d : Delivery) → GoingSends t → can_go t n d ≡ true → IsDue t n d
can_go_due t n d sending_on h =
    let open_and = both_true (is_there (numbered t d.link.number) d.link) (is_wide (session t d.link.conn.0 d.link.channel) && (is_going t n d || can_start t d)) h
    in either_due t n d (is_going t n d) (can_start t d) (both_true (is_wide (session t d.link.conn.0 d.link.channel)) (is_going t n d || can_start t d) open_and.1).1
    (going_due t n d sending_on) (starting_due t n d)

-- the content of its frame

names_more : (id : Option ℕ) (t : List Entry) (c own n : ℕ) (d : Delivery) (x : Transfer) → BeginsOrGoesOn id t c own n d x → BeginsOrGoesOn id t c own n d (with_more x)
names_more None t c own n d x is = record { id = is.id; tag = is.tag; tells_name = is.tells_name; format = is.format; starts = is.starts }
names_more (Some id) t c own n d x is = record { id = is.id; tag = is.tag; format = is.format; same_delivery = is.same_delivery }

pub record IsFrameOf (t : List Entry) (n : ℕ) (d : Delivery) (x : Transfer) : Type 0 where
  pub handle : d.link.handle ≡ x.handle
  pub aborted : x.aborted ≡ false
  pub names : BeginsOrGoesOn d.id t d.link.conn.0 d.link.channel n d x

transfer_is : (t : List Entry) (n : ℕ) (d : Delivery) → Unstarted t → NamesTold t → delivery t n ≡ Some d → IsDue t n d → IsFrameOf t n d (transfer_of t d)
transfer_is t n d unstarted told there due = by due.kind
  where
    fresh : d.id ≡ None → transfer_of t d ≡ first_transfer d.link.handle (next_id t d.link.conn.0 d.link.channel) d
    fresh e = rw e refl

    begun : (k : ℕ) → d.id ≡ Some k → transfer_of t d ≡ later_transfer d.link.handle d
    begun k e = rw e refl

    later : (v : Option ℕ) → d.id ≡ v → is_some v ≡ true → sending t d.link.conn.0 d.link.channel d.link.handle ≡ Some n → IsFrameOf t n d (transfer_of t d)
    later None e some same = absurd cc
    later (Some k) e some same =
        subst (λ (x : Transfer). IsFrameOf t n d x) (sym (begun k e)) (record {
          handle = refl;
          aborted = refl;
          names = subst (λ (id : Option ℕ). BeginsOrGoesOn id t d.link.conn.0 d.link.channel n d (later_transfer d.link.handle d)) (sym e)
              (record { id = refl; tag = refl; format = refl; same_delivery = same });
        })

    by : (d.id ≡ None) ⊎ ((is_some d.id ≡ true) × (sending t d.link.conn.0 d.link.channel d.link.handle ≡ Some n)) → IsFrameOf t n d (transfer_of t d)
    by (inl e) =
        subst (λ (x : Transfer). IsFrameOf t n d x) (sym (fresh e)) (record {
          handle = refl;
          aborted = refl;
          names = subst (λ (id : Option ℕ). BeginsOrGoesOn id t d.link.conn.0 d.link.channel n d (first_transfer d.link.handle (next_id t d.link.conn.0 d.link.channel) d)) (sym e)
              (record { id = refl; tag = refl; tells_name = told n d there; format = refl; starts = unstarted n d there e });
        })
    by (inr both) = later d.id refl both.0 both.1

take_taken : (k : ℕ) (xs : List ℕ) → take k xs ≡ take (length (take k xs)) xs
take_taken zero xs = refl
take_taken (suc k) [] = refl
take_taken (suc k) (x ∷ xs) = ap (λ (ys : List ℕ). x ∷ ys) (take_taken k xs)

last_more : (x : Transfer) → x.more ≡ true → x.more ≡ false → ⊥
last_more x more last = clash (sym more ∙ last)
  where
    clash : true ≡ false → ⊥
    clash e = cc

frame_lawful : (t : List Entry) (n : ℕ) (d : Delivery) (largest : ℕ) (x : Transfer) → delivery t n ≡ Some d → IsDue t n d → IsFrameOf t n d x
    → Lawful t d.link.conn.0 (next_frame largest d.link.channel x (rest_of d))
frame_lawful t n d largest x there due is = by (fits largest (transfer_frame d.link.channel x (rest_of d))) (filled largest d.link.channel x (rest_of d))
  where
    by : (b : Bool) (k : ℕ)
        → Lawful t d.link.conn.0 (if b then transfer_frame d.link.channel x (rest_of d) else part_frame d.link.channel x (rest_of d) k)
    by true k = (
      record {
        number = n;
        of = d;
        there = there;
        to_go = due.going_on;
        on_connection = refl;
        on_session = refl;
        on_handle = is.handle;
        attached = due.on_link.at;
        on_link = ap (link t d.link.conn.0 d.link.channel) (sym is.handle) ∙ due.on_link.there;
        its_number = due.on_link.number;
        sends = due.on_link.way;
        bytes = sym (take-length (rest_of d));
        last = λ last. refl;
        whole_frames = is.aborted;
        begins_or_goes_on = is.names;
      },
      tt,
    )
    by false k = (
      record {
        number = n;
        of = d;
        there = there;
        to_go = due.going_on;
        on_connection = refl;
        on_session = refl;
        on_handle = is.handle;
        attached = due.on_link.at;
        on_link = ap (link t d.link.conn.0 d.link.channel) (sym is.handle) ∙ due.on_link.there;
        its_number = due.on_link.number;
        sends = due.on_link.way;
        bytes = take_taken k (rest_of d);
        last = λ last. absurd (last_more (with_more x) refl last);
        whole_frames = is.aborted;
        begins_or_goes_on = names_more d.id t d.link.conn.0 d.link.channel n d x is.names;
      },
      tt,
    )

-- all that is due at once: at most one frame

passed_test : (b : Bool) (x a : Attachment) → (if b then Some x else None) ≡ Some a → b ≡ true
passed_test true x a e = refl
passed_test false x a e = absurd cc

sent_lawful : (t : List Entry) → Unstarted t → NamesTold t → GoingSends t → (n : ℕ) (a : Attachment) (v : Option Delivery) → delivery t n ≡ v → place_to_go t n v ≡ Some a → AllLawful t (send t v)
sent_lawful t unstarted told sending_on n a None there e = tt
sent_lawful t unstarted told sending_on n a (Some d) there e =
    let due : IsDue t n d = can_go_due t n d sending_on (passed_test (can_go t n d) d.link a e)
    in (frame_lawful t n d (largest_out (largest_frame t d.link.conn.0)) (transfer_of t d) there due (transfer_is t n d unstarted told there due), tt)

pub sends_lawful : (t : List Entry) → Unstarted t → NamesTold t → GoingSends t → AllLawful t (sends_due t)
sends_lawful t unstarted told sending_on =
    placed_elim (rank_at t) (bindings t + 1) (λ n. place_to_go t n (delivery t n)) (λ x. AllLawful t (send_of t x)) tt (λ n a e. sent_lawful t unstarted told sending_on n a (delivery t n) refl e)
