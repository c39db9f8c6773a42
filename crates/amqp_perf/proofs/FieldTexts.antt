-- Fields of a list that is written.
use Rattle.std.proofs.Common.{◌≡◌, ℕ, ◌+◌, ◌<◌, true, false, List, [], ◌∷◌, ◌++◌, length, take, drop, get_or, Some, None, is_none, refl, sym, ap, ◌∙◌, append_assoc, true≢false, arith, Result, Ok, Err, OnErr}
use Rattle.std.proofs.Math.Seq.{take-append_seam}
use Rattle.std.proofs.lemmas.List.{append-nil, take_more, take-append-drop}
use Rattle.amqp_perf.specs.declared.text.Field.{Field}
use Rattle.amqp_model.specs.Texts.{FieldText, given, given_by, field_bytes, joined}
use Rattle.amqp_perf.specs.TextViews.{field_view, fields_view}

given-null : (fs : List FieldText) → given (fs ++ None ∷ []) ≡ given fs
unfolding given
given-null [] = refl
given-null (f ∷ fs) = ap (λ gs. given_by f gs) (given-null fs)

given_by-some : (f g : FieldText) (gs : List FieldText) → given_by f (g ∷ gs) ≡ f ∷ g ∷ gs
given_by-some None g gs = refl
given_by-some (Some t) g gs = refl

before_last : (f : FieldText) (fs : List FieldText) (t : List ℕ) → given_by f (fs ++ Some t ∷ []) ≡ f ∷ fs ++ Some t ∷ []
before_last f [] t = given_by-some f (Some t) []
before_last f (g ∷ gs) t = given_by-some f g (gs ++ Some t ∷ [])

given-some : (fs : List FieldText) (t : List ℕ) → given (fs ++ Some t ∷ []) ≡ fs ++ Some t ∷ []
unfolding given
given-some [] t = refl
given-some (f ∷ fs) t = ap (λ gs. given_by f gs) (given-some fs t) ∙ before_last f fs t

fields_view-push : (fs : List Field) (f : Field) → fields_view (fs ++ f ∷ []) ≡ fields_view fs ++ field_view f ∷ []
fields_view-push [] f = refl
fields_view-push (g ∷ gs) f = ap (λ vs. field_view g ∷ vs) (fields_view-push gs f)

by_view : (v : FieldText) (fs : List FieldText) → is_none v ≡ true → given (fs ++ v ∷ []) ≡ given fs
by_view None fs h = given-null fs
by_view (Some t) fs h = absurd (true≢false (sym h))

by_text : (v : FieldText) (fs : List FieldText) → is_none v ≡ false → given (fs ++ v ∷ []) ≡ fs ++ v ∷ []
by_text None fs h = absurd (true≢false h)
by_text (Some t) fs h = given-some fs t

pub given_without_null : (all fs : List Field) (f : Field) → all ≡ fs ++ f ∷ [] → is_none (field_view f) ≡ true → given (fields_view fs) ≡ given (fields_view all)
given_without_null all fs f is null =
    sym (ap (λ x. given (fields_view x)) is ∙ ap (λ x. given x) (fields_view-push fs f) ∙ by_view (field_view f) (fields_view fs) null)

pub given_with_value : (all fs : List Field) (f : Field) → all ≡ fs ++ f ∷ [] → is_none (field_view f) ≡ false → fields_view all ≡ given (fields_view all)
given_with_value all fs f is null =
    ap (λ x. fields_view x) is ∙ fields_view-push fs f
    ∙ sym (ap (λ x. given (fields_view x)) is ∙ ap (λ x. given x) (fields_view-push fs f) ∙ by_text (field_view f) (fields_view fs) null)

joined-push : (fs : List FieldText) (f : FieldText) → joined (fs ++ f ∷ []) ≡ joined fs ++ field_bytes f
joined-push [] f = append-nil (field_bytes f)
joined-push (g ∷ gs) f = ap (λ t. field_bytes g ++ t) (joined-push gs f) ∙ sym (append_assoc (field_bytes g) (joined gs) (field_bytes f))

-- a writer of fields has written one more
pub joined_more : (fs : List Field) (i : ℕ) (d : Field) (out before behind : List ℕ) → i < length fs
    → before ≡ out ++ joined (fields_view (take i fs)) → behind ≡ before ++ field_bytes (field_view (get_or fs i d)) → behind ≡ out ++ joined (fields_view (take (i + 1) fs))
joined_more fs i d out before behind lt so_far e =
    let f = get_or fs i d in
    e ∙ ap (λ t. t ++ field_bytes (field_view f)) so_far
    ∙ append_assoc out (joined (fields_view (take i fs))) (field_bytes (field_view f))
    ∙ ap (λ t. out ++ t) (sym (joined-push (fields_view (take i fs)) (field_view f)))
    ∙ ap (λ t. out ++ joined t) (sym (fields_view-push (take i fs) f))
    ∙ ap (λ x. out ++ joined (fields_view x)) (sym (take_more fs i d lt))

pub given_nothing : (all : List Field) → length all ≡ 0 → fields_view all ≡ given (fields_view all)
unfolding given
given_nothing [] h = refl
given_nothing (f ∷ fs) h = absurd (omega (arith, h))

-- what stood before goes on standing, as long as each step keeps what it finds
pub still_kept : (old mid new more : List ℕ) → mid ≡ old ++ more → take (length mid) new ≡ mid → take (length old) new ≡ old
still_kept old mid new more is kept =
    ap (take (length old)) (sym (take-append-drop (length mid) new) ∙ ap (λ l. l ++ drop (length mid) new) (kept ∙ is) ∙ append_assoc old more (drop (length mid) new))
    ∙ take-append_seam old (more ++ drop (length mid) new)

pub on_err : {X Y : Type 0} (r : Result X Y) (P : Type 0) → P → OnErr r P
on_err (Ok x) P p = tt
on_err (Err y) P p = p

pub kept_on : (old mid new : List ℕ) → take (length old) mid ≡ old → take (length mid) new ≡ mid → take (length old) new ≡ old
kept_on old mid new first second =
    still_kept old mid new (drop (length old) mid) (sym (take-append-drop (length old) mid) ∙ ap (λ l. l ++ drop (length old) mid) first) second
