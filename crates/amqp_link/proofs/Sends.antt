-- The figures of an end that sends follow what happens on its link: for a table of ends, which is compared with a view.
use Rattle.std.proofs.Common.{◌≡◌, ◌∙◌, ℕ, refl, sym, ap, subst, ◌+◌, ◌%◌, ◌^◌, ◌∷◌, Option, Some, arith}
use Rattle.std.specs.Prelude.{unwrap_or}
use Rattle.amqp_link.specs.declared.grant.Grant.{Grant}
use Rattle.amqp_link.specs.declared.send_end.SendEnd.{SendEnd}
use Rattle.amqp_link.specs.Credit.{Link, Attached, Granted, Started, Counted, tells_count, since, count_told}
use Rattle.amqp_link.specs.Figures.{Sends, send_end_of, left_at, begun_at, after_grant, after_start, after_drain, after_told_count, drained_count}
use Rattle.amqp_link.proofs.Uses.{skipped, count_started}

none_more : (n : ℕ) → n % 2 ^ 32 ≡ (n + 0) % 2 ^ 32
none_more n = omega arith

pub attached : (n : ℕ) (t : Link) → Sends (begun_at n) (Attached n ∷ t)
attached n t = record { initial = refl; count = none_more n; granted = refl }

pub grant_taken : (c : Option ℕ) (k : ℕ) (e : SendEnd) (t : Link) → Sends e t → Sends (after_grant c k e) (Granted c k ∷ t)
grant_taken c k e t s = record {
  initial = s.initial;
  count = s.count ∙ ap (λ n. (count_told t + n) % 2 ^ 32) (sym (skipped (Granted c k) (since tells_count t) refl));
  granted = let P : ℕ → Option Grant = λ i. Some (record { count = unwrap_or c i; credit = k }) in ap P s.initial;
}

pub start_noted : (e : SendEnd) (t : Link) → Sends e t → Sends (after_start e) (Started ∷ t)
start_noted e t s = record {
  initial = s.initial;
  count = ap (λ n. (n + 1) % 2 ^ 32) s.count ∙ sym (count_started t);
  granted = s.granted;
}

twice : (a : ℕ) → a % 2 ^ 32 ≡ (a % 2 ^ 32 + 0) % 2 ^ 32
twice a = omega arith

pub drain_noted : (e : SendEnd) (t : Link) → Sends e t → Sends (after_drain e) (Counted (drained_count e) ∷ t)
drain_noted e t s = record { initial = s.initial; count = twice (e.count + left_at e); granted = s.granted }

pub count_noted : (n : ℕ) (e : SendEnd) (t : Link) → Sends e t → Sends (after_told_count n e) (Counted n ∷ t)
count_noted n e t s = record { initial = s.initial; count = none_more n; granted = s.granted }

-- An end fits a list exactly where it is the list's end, ...
pub is_send_end_of : (e : SendEnd) (t : Link) → Sends e t → e ≡ send_end_of t
is_send_end_of e t s = rw (sym s.initial, sym s.count, sym s.granted) refl

pub send_end_of_fits : (t : Link) → Sends (send_end_of t) t
send_end_of_fits t = record { initial = refl; count = refl; granted = refl }

pub sends_as_send_end_of : (e : SendEnd) (t : Link) → e ≡ send_end_of t → Sends e t
sends_as_send_end_of e t same = let P : SendEnd → Type 0 = λ x. Sends x t in subst P (sym same) (send_end_of_fits t)

-- ... and the list's end follows what happens: for a table of ends, which is compared with a view by equality
pub at_attach : (n : ℕ) (t : Link) → begun_at n ≡ send_end_of (Attached n ∷ t)
at_attach n t = is_send_end_of _ _ (attached n t)

pub at_grant : (c : Option ℕ) (k : ℕ) (t : Link) → after_grant c k (send_end_of t) ≡ send_end_of (Granted c k ∷ t)
at_grant c k t = is_send_end_of _ _ (grant_taken c k _ t (send_end_of_fits t))

pub at_start : (t : Link) → after_start (send_end_of t) ≡ send_end_of (Started ∷ t)
at_start t = is_send_end_of _ _ (start_noted _ t (send_end_of_fits t))

pub at_drain : (t : Link) → after_drain (send_end_of t) ≡ send_end_of (Counted (drained_count (send_end_of t)) ∷ t)
at_drain t = is_send_end_of _ _ (drain_noted _ t (send_end_of_fits t))

pub at_told_count : (n : ℕ) (t : Link) → after_told_count n (send_end_of t) ≡ send_end_of (Counted n ∷ t)
at_told_count n t = is_send_end_of _ _ (count_noted n _ t (send_end_of_fits t))
