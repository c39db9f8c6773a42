use Rattle.std.proofs.Common.{◌≡◌, ◌∙◌, refl, sym, ap, subst, ℕ, List, []}
use Rattle.std.specs.Prelude.{◌==◌, Option, option_map, Some}
use Rattle.std.proofs.lemmas.Result.{IfOk-weaker}
use Rattle.book_model.specs.declared.act.Act.{Act}
use Rattle.journal_store.specs.Store.{Writable}
use Rattle.journal_store.proofs.Writing.{none_writable}
use Rattle.reply_rows.specs.Admitting.{ChosenFor, admits}
use Rattle.reply_rows.specs.declared.transfer.admitting.Admittable.{Admittable}
use Rattle.router_reply.proofs.Chosen.{item_chose, none_chose}
use Rattle.router_core.specs.Handling.{kept_book}
use Rattle.router_core.proofs.Preparing.{none_ended, item_admits, itemless_admits}
use Rattle.router_core.proofs.router.Core.admission.Goals as goal

pub returns-in_default : goal.returns-in_default
returns-in_default g c = record {
  rest = refl;
  plan = refl;
  chosen = λ t f none. none_chose c.args.plan.now.ends.items t c.args.event.now c.args.plan.now.answer c.args.plan.now.consumer none;
  tables = λ t f. f;
  acts = λ t f are heard here. c.new.ensures.items ∙ sym (itemless_admits (kept_book c.args.self.now) t c.args.event.now c.args.plan.now.answer c.in_default.not-Item);
  writable = subst (λ (xs : List Act). Writable (kept_book c.args.self.now) xs) (sym c.new.ensures.items) (none_writable (kept_book c.args.self.now));
}

pub returns-then-not-is_empty-clause-writable : goal.returns-then-not-is_empty-clause-writable
returns-then-not-is_empty-clause-writable g c =
    subst (λ (xs : List Act). Writable (kept_book c.args.self.now) xs) (sym c.new-then-not-is_empty.ensures.items) (none_writable (kept_book c.args.self.now))

pub returns-in-None-clause-acts : goal.returns-in-None-clause-acts
returns-in-None-clause-acts g c = λ t f are heard here.
    let none : c.args.plan.now.ends.items ≡ [] = none_ended c.args.plan.now.ends.items (ap (λ (n : ℕ). n == 0) (sym c.args.plan.now.ends.ok.0) ∙ sym c.if-not-is_empty.ensures) in
    c.new-in-None.ensures.items ∙ ap (λ (x : Option Admittable). admits (kept_book c.args.self.now) (option_map (λ y. y.admission) x)) (sym c.in-None.is)
    ∙ item_admits (kept_book c.args.self.now) c.book.result.now t c.args.event.now c.in-Item.conn _ c.args.plan.now.answer c.args.heard.now c.args.plan.now.ends.items _ c.book.ensures c.in-Item.is are none heard here
    (c.in_ok-found.ensures.admission _ f)

pub returns-in-None-clause-writable : goal.returns-in-None-clause-writable
returns-in-None-clause-writable g c =
    subst (λ (xs : List Act). Writable (kept_book c.args.self.now) xs) (sym c.new-in-None.ensures.items) (none_writable (kept_book c.args.self.now))

pub returns-in-Some-clause-acts : goal.returns-in-Some-clause-acts
returns-in-Some-clause-acts g c = IfOk-weaker c.admission_acts.result _ _
    (λ r is t f are heard here.
    let none : c.args.plan.now.ends.items ≡ [] = none_ended c.args.plan.now.ends.items (ap (λ (n : ℕ). n == 0) (sym c.args.plan.now.ends.ok.0) ∙ sym c.if-not-is_empty.ensures) in
    is ∙ ap (λ (x : Option Admittable). admits (kept_book c.args.self.now) (option_map (λ y. y.admission) x)) (sym c.in-Some.is)
    ∙ item_admits (kept_book c.args.self.now) c.book.result.now t c.args.event.now c.in-Item.conn _ c.args.plan.now.answer c.args.heard.now c.args.plan.now.ends.items _ c.book.ensures c.in-Item.is are none heard here
    (c.in_ok-found.ensures.admission _ f))
    c.admission_acts.ensures.acts

pub returns-then-not-is_empty-clause-chosen : goal.returns-then-not-is_empty-clause-chosen
returns-then-not-is_empty-clause-chosen g c = λ t f none. none_chose c.args.plan.now.ends.items t c.args.event.now c.args.plan.now.answer c.args.plan.now.consumer none

pub returns-in-None-clause-chosen : goal.returns-in-None-clause-chosen
returns-in-None-clause-chosen g c = λ t f none. none_chose c.args.plan.now.ends.items t c.args.event.now c.args.plan.now.answer c.args.plan.now.consumer none

pub returns-in-Some-clause-chosen : goal.returns-in-Some-clause-chosen
returns-in-Some-clause-chosen g c = IfOk-weaker c.admission_acts.result _ _
    (λ r is t f unchosen.
    let none : c.args.plan.now.ends.items ≡ [] = none_ended c.args.plan.now.ends.items (ap (λ (n : ℕ). n == 0) (sym c.args.plan.now.ends.ok.0) ∙ sym c.if-not-is_empty.ensures) in
    item_chose c.args.plan.now.ends.items t c.args.event.now c.in-Item.conn _ c.args.plan.now.answer (Some c.in-Some.found.consumer) c.in-Item.is none
    (subst (λ (x : Option Admittable). ChosenFor t c.in-Item.conn.0 c.args.plan.now.answer (option_map (λ y. y.consumer) x)) c.in-Some.is (c.in_ok-found.ensures.chosen t f)))
    c.admission_acts.ensures.acts
