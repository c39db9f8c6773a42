-- The answer to an attach gets its handle once it is made.
use Rattle.std.proofs.Common.{◌≡◌, ◌∙◌, ℕ, Bool, true, false, refl, sym, ap, subst, Option, Some, List, [], ◌∷◌}
use Rattle.std.specs.Prelude.{if◌then◌else◌}
use Rattle.amqp_model.specs.declared.perf.Attach.{Attach as AnAttach}
use Rattle.amqp_model.specs.declared.perf.Role.{Role}
use Rattle.amqp_model.specs.declared.perf.Role.TheVariants.{Sender, Receiver}
use Rattle.amqp_model.specs.declared.state.UnsettledDelivery.{UnsettledDelivery}
use Rattle.router_trace.specs.Durable.{is_durable}
use Rattle.router_trace.specs.LinkFrames.{other, plain_answer, lasting_by, answer_to}
use Rattle.router_trace.specs.Links.{free_handle, holder, key_at}
use Rattle.router_trace.specs.Peers.{largest_frame}
use Rattle.router_trace.specs.Trace.{Trace, Put, each_to, goes, puts}
use Rattle.router_state.specs.declared.tables.State.{State}
use Rattle.router_state.specs.Tables.{TablesFit}
use Rattle.router_reply.specs.Replies.{stolen_by, unless_too_large, with_map, attach_answer, taken}
use Rattle.router_reply.proofs.Puts.{goes_both}

-- whether a link is durable doesn't depend on its handle
durable_same : (r : Role) (a : AnAttach) (h : ℕ) → is_durable r (plain_answer a 0) ≡ is_durable r (plain_answer a h)
durable_same Sender a h = refl
durable_same Receiver a h = refl

lasting_same : (r : Role) (b : Bool) (x : AnAttach) (h : ℕ)
    → record (if b then lasting_by r x else x) { handle = h } ≡ (if b then lasting_by r (record x { handle = h }) else record x { handle = h })
lasting_same Sender true x h = refl
lasting_same Sender false x h = refl
lasting_same Receiver true x h = refl
lasting_same Receiver false x h = refl

handled_later : (a : AnAttach) (h : ℕ) → record (answer_to a 0) { handle = h } ≡ answer_to a h
handled_later a h =
    lasting_same (other a.role) (is_durable (other a.role) (plain_answer a 0)) (plain_answer a 0) h
    ∙ ap (λ (b : Bool). if b then lasting_by (other a.role) (plain_answer a h) else plain_answer a h) (durable_same (other a.role) a h)

pub on_handle : (x a : AnAttach) (h : ℕ) → x ≡ answer_to a 0 → record x { handle = h } ≡ answer_to a h
on_handle x a h is = ap (λ (y : AnAttach). record y { handle = h }) is ∙ handled_later a h

-- a map leaves the handle as it is
pub handle_kept : (ours : List UnsettledDelivery) (a : AnAttach) → (with_map ours a).handle ≡ a.handle
handle_kept [] a = refl
handle_kept (d ∷ ds) a = refl

-- what is put for an attach that is taken, on the handle that is free once the older link is detached
pub taken_on : (s : State) (t : Trace) (c own largest h : ℕ) (ours : List UnsettledDelivery) (a first answer : AnAttach)
    → first ≡ answer_to a 0 → answer ≡ with_map ours (answer_to a h) → answer.handle ≡ h → largest ≡ largest_frame t c
    → Some h ≡ free_handle (goes (stolen_by (holder t (key_at t c first))) t) c own
    → TablesFit s (puts c (unless_too_large largest own answer.handle answer) (goes (stolen_by (holder t (key_at t c first))) t))
    → TablesFit s (goes (taken t c own ours a) t)
taken_on s t c own largest h ours a first answer is_first is_answer on most free fit =
    let older : AnAttach → List Put = λ x. stolen_by (holder t (key_at t c x)) in
    subst (λ u. TablesFit s u) (sym (goes_both (older (answer_to a 0)) (each_to c (attach_answer (largest_frame t c) own (free_handle (goes (older (answer_to a 0)) t) c own) ours a)) t))
    (subst (λ (x : AnAttach). TablesFit s (puts c (attach_answer (largest_frame t c) own (free_handle (goes (older x) t) c own) ours a) (goes (older x) t))) is_first
    (subst (λ (o : Option ℕ). TablesFit s (puts c (attach_answer (largest_frame t c) own o ours a) (goes (older first) t))) free
    (subst (λ (m : ℕ). TablesFit s (puts c (unless_too_large m own h (with_map ours (answer_to a h))) (goes (older first) t))) most
    (subst (λ (x : AnAttach). TablesFit s (puts c (unless_too_large largest own h x) (goes (older first) t))) is_answer
    (subst (λ (n : ℕ). TablesFit s (puts c (unless_too_large largest own n answer) (goes (older first) t))) on fit)))))
