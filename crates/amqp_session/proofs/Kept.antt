-- Where the window is respected, no more transfers are sent than it has room for.
use Rattle.std.proofs.Common.{◌≤◌, ◌+◌, ◌-◌, ℕ, [], ◌∷◌, cond, subst, sym, arith}
use Rattle.std.proofs.lemmas.List.Sums.{sum_by-cons}
use Rattle.std.specs.Prelude.{count_by}
use Rattle.amqp_session.specs.Session.{Session, OurBegin, TheirBegin, OurFlow, TheirFlow, OurTransfer, TheirTransfer, is_our_transfer, since, tells_id, window_told, WindowKept}

one_more : (sent room : ℕ) → 1 ≤ room - sent → 1 + sent ≤ room
one_more sent room left = omega arith

pub within : (t : Session) → WindowKept t → count_by is_our_transfer (since tells_id t) ≤ window_told t
within [] kept = omega arith
within (OurBegin b ∷ t) kept = within t kept
within (TheirBegin b ∷ t) kept = omega arith
within (OurFlow f ∷ t) kept = within t kept
within (TheirFlow f ∷ t) kept = omega arith
within (OurTransfer ∷ t) kept =
    let room = one_more (count_by is_our_transfer (since tells_id t)) (window_told t) kept.0 in
    let P : ℕ → Type 0 = λ n. n ≤ window_told t in
    subst P (sym (sum_by-cons (λ h. cond (is_our_transfer h) 1 0) OurTransfer (since tells_id t))) room
within (TheirTransfer ∷ t) kept = within t kept
