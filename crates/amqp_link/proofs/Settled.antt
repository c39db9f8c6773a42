-- A settlement in the middle lasts.
use Rattle.std.proofs.Common.{◌≡◌, ◌∙◌, Bool, true, false, refl, ap, List, [], ◌∷◌}
use Rattle.std.specs.Prelude.{◌||◌}
use Rattle.amqp_link.specs.Deliveries.{Frame, settled, is_settled, delivery}
use Rattle.amqp_link.specs.Receiving.{Received, TheirSettlement, middle, is_empty}

or_true : (b : Bool) → (b || true) ≡ true
or_true true = refl
or_true false = refl

pub lasts : (f g : Frame) (fs : List Frame) → (delivery g fs).settled ≡ true → (delivery f (g ∷ fs)).settled ≡ true
lasts f g fs e = ap (λ b. f.transfer.settled || b) e ∙ or_true f.transfer.settled

settled_first : (f : Frame) (fs : List Frame) → is_empty fs ≡ false → is_settled f (settled fs) ≡ true
settled_first f [] h = absurd (cc)
settled_first f (g ∷ []) h = or_true f.transfer.settled
settled_first f (g ∷ (k ∷ fs)) h = or_true f.transfer.settled

pub told_settled : (t : Received) (f : Frame) → is_empty (middle t) ≡ false → (delivery f (middle (TheirSettlement ∷ t))).settled ≡ true
told_settled t f h = settled_first f (middle t) h
