-- How streams are cut: one cut for each stream, and the same however the bytes come.
use Rattle.std.proofs.Common.{◌≡◌, ℕ, zero, suc, ◌<◌, List, [], ◌∷◌, ◌++◌, length, refl, sym, ap, subst, ◌∙◌, arith, append_assoc, append-nil, Bool, true, false}
use Rattle.amqp_model.specs.declared.frame_fault.FrameFault.{FrameFault}
use Rattle.amqp_model.specs.declared.item.Item.{Item}
use Rattle.amqp_model.specs.declared.item.Item.TheVariants as item
use Rattle.amqp_frames.specs.Laws.{Feeds, HasOneCut, joined}
use Rattle.amqp_frames.specs.Cuts.{Leads, Cuts}
use Rattle.amqp_frames.specs.Frames.{Front, more, found, wrong, front}
use Rattle.amqp_frames.proofs.Fronts.{front_stays, found_shorter}

-- one more item
pub leads_more : (stream : List ℕ) (xs : List Item) (rest : List ℕ) (x : Item) (after : List ℕ) → Leads stream xs rest → front rest ≡ found x after → Leads stream (xs ++ x ∷ []) after
leads_more stream [] rest x after h is = (after, rw h is, refl)
leads_more stream (y ∷ ys) rest x after h is = (h.0, h.1, leads_more h.0 ys rest x after h.2 is)

-- more bytes after them
pub leads_stays : (stream : List ℕ) (xs : List Item) (rest behind : List ℕ) → Leads stream xs rest → Leads (stream ++ behind) xs (rest ++ behind)
leads_stays stream [] rest behind h = ap (λ (l : List ℕ). l ++ behind) h
leads_stays stream (x ∷ xs) rest behind h = (h.0 ++ behind, front_stays stream behind x h.0 h.1, leads_stays h.0 xs rest behind h.2)

-- items, and then items of the rest after them
pub leads_append : (stream : List ℕ) (xs : List Item) (mid : List ℕ) (ys : List Item) (rest : List ℕ) → Leads stream xs mid → Leads mid ys rest → Leads stream (xs ++ ys) rest
leads_append stream [] mid ys rest h k = rw h k
leads_append stream (x ∷ xs) mid ys rest h k = (h.0, h.1, leads_append h.0 xs mid ys rest h.2 k)

-- a piece after what was cut
pub cuts_append : (ended : Bool) (stream : List ℕ) (xs : List Item) (mid piece : List ℕ) (ys : List Item) (rest : List ℕ)
    → Leads stream xs mid → Cuts ended (mid ++ piece) ys rest → Cuts ended (stream ++ piece) (xs ++ ys) rest
cuts_append false stream xs mid piece ys rest h k = (leads_append (stream ++ piece) xs (mid ++ piece) ys rest (leads_stays stream xs mid piece h) k.0, k.1)
cuts_append true stream xs mid piece ys rest h k = (
  xs ++ k.0,
  k.1,
  ap (λ (l : List Item). xs ++ l) k.2 ∙ sym (append_assoc xs k.0 (item.Bad k.1 ∷ [])),
  leads_append (stream ++ piece) xs (mid ++ piece) k.0 rest (leads_stays stream xs mid piece h) k.3,
  k.4,
)

-- no item stands at the front
abbrev Stops : List ℕ → Type 0
Stops bytes = (x : Item) (after : List ℕ) → front bytes ≡ found x after → ⊥

leads_at : (s t : List ℕ) (xs : List Item) (r : List ℕ) → s ≡ t → Leads s xs r → Leads t xs r
leads_at s t xs r e h = subst (λ (l : List ℕ). Leads l xs r) e h

leads_same : (stream : List ℕ) (xs ys : List Item) (r s : List ℕ) → Leads stream xs r → Leads stream ys s → Stops r → Stops s → (xs ≡ ys) × (r ≡ s)
leads_same stream [] [] r s h k hr ks = (refl, sym h ∙ k)
leads_same stream [] (y ∷ ys) r s h k hr ks = absurd (hr y k.0 (ap front (sym h) ∙ k.1))
leads_same stream (x ∷ xs) [] r s h k hr ks = absurd (ks x h.0 (ap front (sym k) ∙ h.1))
leads_same stream (x ∷ xs) (y ∷ ys) r s h k hr ks =
    let one : found x h.0 ≡ found y k.0 = sym h.1 ∙ k.1 in
    let head : x ≡ y = cc in
    let behind : h.0 ≡ k.0 = cc in
    let others = leads_same k.0 xs ys r s (leads_at (h.0) (k.0) xs r behind h.2) k.2 hr ks in
    (let same : xs ≡ ys = others.0 in cc, others.1)

more_stops : (rest : List ℕ) → front rest ≡ more → Stops rest
more_stops rest h x after is = let bad : more ≡ found x after = sym h ∙ is in absurd cc

wrong_stops : (rest : List ℕ) (f : FrameFault) → front rest ≡ wrong f → Stops rest
wrong_stops rest f h x after is = let bad : wrong f ≡ found x after = sym h ∙ is in absurd cc

-- a stream has one cut
pub one_cut : (ended closed : Bool) (stream : List ℕ) (xs ys : List Item) (r s : List ℕ) → Cuts ended stream xs r → Cuts closed stream ys s → (ended ≡ closed) × (xs ≡ ys) × (r ≡ s)
one_cut false false stream xs ys r s h k =
    let same = leads_same stream xs ys r s h.0 k.0 (more_stops r h.1) (more_stops s k.1) in (refl, same.0, same.1)
one_cut false true stream xs ys r s h k =
    let same = leads_same stream xs k.0 r s h.0 k.3 (more_stops r h.1) (wrong_stops s k.1 k.4) in
    absurd (let bad : more ≡ wrong k.1 = sym h.1 ∙ ap front same.1 ∙ k.4 in cc)
one_cut true false stream xs ys r s h k =
    let same = leads_same stream h.0 ys r s h.3 k.0 (wrong_stops r h.1 h.4) (more_stops s k.1) in
    absurd (let bad : wrong h.1 ≡ more = sym h.4 ∙ ap front same.1 ∙ k.1 in cc)
one_cut true true stream xs ys r s h k =
    let same = leads_same stream h.0 k.0 r s h.3 k.3 (wrong_stops r h.1 h.4) (wrong_stops s k.1 k.4) in
    let faults : wrong h.1 ≡ wrong k.1 = sym h.4 ∙ ap front same.1 ∙ k.4 in
    let fault : h.1 ≡ k.1 = cc in
    let whole : h.0 ≡ k.0 = same.0 in
    (refl, h.2 ∙ (rw (whole, fault) (sym k.2)), same.1)

-- and it has one
abbrev pub HasCut : List ℕ → Type 0
HasCut stream = (ended : Bool) × (items : List Item) × (rest : List ℕ) × Cuts ended stream items rest

pub one_more : (ended : Bool) (stream after : List ℕ) (x : Item) (xs : List Item) (rest : List ℕ) → front stream ≡ found x after → Cuts ended after xs rest → Cuts ended stream (x ∷ xs) rest
one_more false stream after x xs rest is h = ((after, is, h.0), h.1)
one_more true stream after x xs rest is h = (x ∷ h.0, h.1, ap (λ (l : List Item). x ∷ l) h.2, (after, is, h.3), h.4)

cut_by : {most : ℕ} → ((stream : List ℕ) → length stream < most → HasCut stream) → (stream : List ℕ) → length stream < suc most → (f : Front) → front stream ≡ f → HasCut stream
cut_by shorter stream h more is = (false, [], stream, (refl, is))
cut_by shorter stream h (wrong f) is = (true, item.Bad f ∷ [], stream, ([], f, refl, refl, is))
cut_by shorter stream h (found x after) is =
    let less = found_shorter stream x after is in
    let cut = shorter after (omega arith) in
    (cut.0, x ∷ cut.1, cut.2, one_more cut.0 stream after x cut.1 cut.2 is cut.3)

cut_within : (most : ℕ) (stream : List ℕ) → length stream < most → HasCut stream
cut_within zero stream h = absurd (omega arith)
cut_within (suc most) stream h = cut_by (cut_within most) stream h (front stream) refl

pub has_cut : (stream : List ℕ) → HasCut stream
has_cut stream = cut_within (suc (length stream)) stream (omega arith)

pub feeds_cut : (pieces : List (List ℕ)) (stream kept : List ℕ) (xs items : List Item) (ended : Bool) (rest : List ℕ) → Leads stream xs kept → front kept ≡ more
    → Feeds kept pieces items ended rest → Cuts ended (stream ++ joined pieces) (xs ++ items) rest
feeds_cut [] stream kept xs items ended rest h is fed =
    let whole : stream ++ [] ≡ stream = append-nil stream in
    let given : xs ++ items ≡ xs = ap (λ (l : List Item). xs ++ l) fed.0 ∙ append-nil xs in
    rw (whole, given, fed.1) (subst (λ (l : List ℕ). Cuts false stream xs l) fed.2 (h, is))
feeds_cut (piece ∷ []) stream kept xs items ended rest h is fed =
    let last : piece ++ [] ≡ piece = append-nil piece in
    rw last (cuts_append ended stream xs kept piece items rest h fed)
feeds_cut (piece ∷ next ∷ pieces) stream kept xs items ended rest h is fed =
    let cut = cuts_append false stream xs kept piece fed.0 fed.2 h fed.4 in
    let others = feeds_cut (next ∷ pieces) (stream ++ piece) fed.2 (xs ++ fed.0) fed.1 ended rest cut.0 cut.1 fed.5 in
    let bytes : (stream ++ piece) ++ joined (next ∷ pieces) ≡ stream ++ (piece ++ joined (next ∷ pieces)) = append_assoc stream piece (joined (next ∷ pieces)) in
    let all : (xs ++ fed.0) ++ fed.1 ≡ xs ++ items = append_assoc xs fed.0 fed.1 ∙ ap (λ (l : List Item). xs ++ l) (sym fed.3) in
    subst (λ (l : List ℕ). Cuts ended l (xs ++ items) rest) bytes (subst (λ (l : List Item). Cuts ended ((stream ++ piece) ++ joined (next ∷ pieces)) l rest) all others)

pub has_one_cut : (stream : List ℕ) → HasOneCut stream
has_one_cut stream = (has_cut stream, λ ended closed items others rest left h k. one_cut ended closed stream items others rest left h k)
