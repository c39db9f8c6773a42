-- What acts that apply to the empty book say of the book that they leave.
use Rattle.std.proofs.Common.{◌≡◌, ◌∙◌, sym, subst, List, [], ◌∷◌, ◌++◌, append_assoc, None}
use Rattle.std.proofs.lemmas.List.{append-nil}
use Rattle.book_model.specs.declared.act.Act.{Act}
use Rattle.book_model.specs.declared.act.Act.TheVariants.{Make, Admit, Decide, Forget, Drop}
use Rattle.book_model.specs.Book.{BookView, empty_book, refusal, effect, first_fault, effects}
use Rattle.book_laws.specs.Said.{Apply, book_of, makes_in, admits_in, decides_in, forgets_in, drops_in}
use Rattle.book_laws.proofs.Joining.{act_applies, acts_apply}
use Rattle.book_laws.proofs.Says.{Kinds, kinds_of, put, Says, says_nothing}
use Rattle.book_laws.proofs.Making.{says_make, says_drop}
use Rattle.book_laws.proofs.Admitting.{says_admit}
use Rattle.book_laws.proofs.Settling.{says_decide, says_forget}

says_act : (k : Kinds) (b : BookView) (act : Act) → refusal b act ≡ None → Says k b → Says (put k act) (effect b act)
says_act k b (Make t) applies says = says_make k b t applies says
says_act k b (Admit a) applies says = says_admit k b a applies says
says_act k b (Decide d) applies says = says_decide k b d applies says
says_act k b (Forget n) applies says = says_forget k b n applies says
says_act k b (Drop n) applies says = says_drop k b n applies says

-- acts are put one after another
put_all : Kinds → List Act → Kinds
put_all k [] = k
put_all k (act ∷ acts) = put_all (put k act) acts

says_all : (acts : List Act) (k : Kinds) (b : BookView) → first_fault b acts ≡ None → Says k b
    → Says (put_all k acts) (effects b acts)
unfolding put_all effects
says_all [] k b apply says = says
says_all (act ∷ acts) k b apply says =
    says_all acts (put k act) (effect b act) (acts_apply b act acts apply)
    (says_act k b act (act_applies b act acts apply) says)

abbrev with_acts : Kinds → List Act → Kinds
with_acts k acts = record {
  makes = k.makes ++ makes_in acts;
  admits = k.admits ++ admits_in acts;
  decides = k.decides ++ decides_in acts;
  forgets = k.forgets ++ forgets_in acts;
  drops = k.drops ++ drops_in acts;
}

put_of_kind : (acts : List Act) (k : Kinds) → put_all k acts ≡ with_acts k acts
unfolding put_all
put_of_kind [] k = sym (λ i. record {
  makes = append-nil k.makes i;
  admits = append-nil k.admits i;
  decides = append-nil k.decides i;
  forgets = append-nil k.forgets i;
  drops = append-nil k.drops i;
})
put_of_kind (Make t ∷ acts) k = put_of_kind acts (put k (Make t))
    ∙ (λ i. record (with_acts k acts) { makes = append_assoc k.makes (t ∷ []) (makes_in acts) i })
put_of_kind (Admit a ∷ acts) k = put_of_kind acts (put k (Admit a))
    ∙ (λ i. record (with_acts k acts) { admits = append_assoc k.admits (a ∷ []) (admits_in acts) i })
put_of_kind (Decide d ∷ acts) k = put_of_kind acts (put k (Decide d))
    ∙ (λ i. record (with_acts k acts) { decides = append_assoc k.decides (d ∷ []) (decides_in acts) i })
put_of_kind (Forget n ∷ acts) k = put_of_kind acts (put k (Forget n))
    ∙ (λ i. record (with_acts k acts) { forgets = append_assoc k.forgets (n ∷ []) (forgets_in acts) i })
put_of_kind (Drop n ∷ acts) k = put_of_kind acts (put k (Drop n))
    ∙ (λ i. record (with_acts k acts) { drops = append_assoc k.drops (n ∷ []) (drops_in acts) i })

pub says_of : (acts : List Act) → Apply acts → Says (kinds_of acts) (book_of acts)
says_of acts apply = subst (λ (k : Kinds). Says k (book_of acts)) (put_of_kind acts (kinds_of []))
    (says_all acts (kinds_of []) empty_book apply says_nothing)
