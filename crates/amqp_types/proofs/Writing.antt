-- The encodings of values that hold others, and one more value at the end.
use Rattle.std.proofs.Common.{◌≡◌, ℕ, suc, ◌+◌, ◌*◌, ◌<◌, Bool, true, false, ◌&&◌, List, [], ◌∷◌, ◌++◌, length, take, get_or, Vec, Box, refl, sym, ap, ◌∙◌, append_assoc, rules}
use Rattle.std.specs.declared.alloc.Global.{Global}
use Rattle.std.proofs.lemmas.List.{append-nil, take_more}
use Rattle.amqp_model.specs.declared.code.Kind.{Kind}
use Rattle.amqp_model.specs.declared.code.Kind.TheVariants as kind
use Rattle.amqp_model.specs.declared.value.Value.{Value, the_lemmas}
use Rattle.amqp_model.specs.declared.value.Value.TheViews as value
use Rattle.amqp_model.specs.Data as d
use Rattle.amqp_model.specs.Data.{Data, Items, no_items, item, Pairs, no_pairs, pair}
use Rattle.amqp_model.specs.View.{view, items_view, pairs_view}
use Rattle.amqp_model.specs.Data.{count, pair_count}
use Rattle.amqp_model.specs.ValueSpelling.{spelling, spellings, pair_spellings, piece, pieces, Piece, join, no_piece, constructed, compound_piece, list_text}

view-List : (v : Vec Value Global) → view (value.List v) ≡ d.list (items_view v.items)
view-List v = search (rules, the_lemmas)

view-Map : (v : Vec (Value × Value) Global) → view (value.Map v) ≡ d.map (pairs_view v.items)
view-Map v = search (rules, the_lemmas)

view-Array : (k : Kind) (v : Vec Value Global) → view (value.Array k v) ≡ d.array k (items_view v.items)
view-Array k v = search (rules, the_lemmas)

view-Described : (a b : Box Value Global) → view (value.Described a b) ≡ d.described (view a.value) (view b.value)
view-Described a b = search (rules, the_lemmas)

count-items_view : (vs : List Value) → count (items_view vs) ≡ length vs
count-items_view [] = refl
count-items_view (v ∷ vs) = ap suc (count-items_view vs)

pair_count-pairs_view : (ps : List (Value × Value)) → pair_count (pairs_view ps) ≡ length ps
pair_count-pairs_view [] = refl
pair_count-pairs_view (p ∷ ps) = ap suc (pair_count-pairs_view ps)

pub list_is : (v : Vec Value Global) → spelling (view (value.List v)) ≡ list_text (length v.items) (spellings (items_view v.items))
unfolding spelling
list_is v = ap (λ x. spelling x) (view-List v) ∙ ap (λ n. list_text n (spellings (items_view v.items))) (count-items_view v.items)

pub map_is : (v : Vec (Value × Value) Global) → spelling (view (value.Map v)) ≡ constructed kind.Map (compound_piece (2 * length v.items) (pair_spellings (pairs_view v.items)))
unfolding spelling
map_is v = ap (λ x. spelling x) (view-Map v) ∙ ap (λ n. constructed kind.Map (compound_piece (2 * n) (pair_spellings (pairs_view v.items)))) (pair_count-pairs_view v.items)

pub array_is : (k : Kind) (v : Vec Value Global) → spelling (view (value.Array k v)) ≡ constructed kind.Array (compound_piece (length v.items) (constructed k (pieces (items_view v.items))))
unfolding spelling
array_is k v = ap (λ x. spelling x) (view-Array k v) ∙ ap (λ n. constructed kind.Array (compound_piece n (constructed k (pieces (items_view v.items))))) (count-items_view v.items)

pub described_is : (a b : Box Value Global) → spelling (view (value.Described a b)) ≡ 0x00 ∷ (spelling (view a.value) ++ spelling (view b.value))
unfolding spelling
described_is a b = ap (λ x. spelling x) (view-Described a b)

pub list_piece : (v : Vec Value Global) → piece (view (value.List v)) ≡ compound_piece (length v.items) (spellings (items_view v.items))
unfolding piece
list_piece v = ap (λ x. piece x) (view-List v) ∙ ap (λ n. compound_piece n (spellings (items_view v.items))) (count-items_view v.items)

pub map_piece : (v : Vec (Value × Value) Global) → piece (view (value.Map v)) ≡ compound_piece (2 * length v.items) (pair_spellings (pairs_view v.items))
unfolding piece
map_piece v = ap (λ x. piece x) (view-Map v) ∙ ap (λ n. compound_piece (2 * n) (pair_spellings (pairs_view v.items))) (pair_count-pairs_view v.items)

pub array_piece : (k : Kind) (v : Vec Value Global) → piece (view (value.Array k v)) ≡ compound_piece (length v.items) (constructed k (pieces (items_view v.items)))
unfolding piece
array_piece k v = ap (λ x. piece x) (view-Array k v) ∙ ap (λ n. compound_piece n (constructed k (pieces (items_view v.items)))) (count-items_view v.items)

-- ---- loops: one more value at the end

spellings-push : (vs : List Value) (v : Value) → spellings (items_view (vs ++ v ∷ [])) ≡ spellings (items_view vs) ++ spelling (view v)
unfolding spellings
spellings-push [] v = append-nil (spelling (view v))
spellings-push (w ∷ vs) v = ap (λ (t : List ℕ). spelling (view w) ++ t) (spellings-push vs v) ∙ sym (append_assoc (spelling (view w)) (spellings (items_view vs)) (spelling (view v)))

pub spellings_more : (out behind : List ℕ) (vs : List Value) (v : Value) → behind ≡ (out ++ spellings (items_view vs)) ++ spelling (view v) → behind ≡ out ++ spellings (items_view (vs ++ v ∷ []))
spellings_more out behind vs v e = e ∙ append_assoc out (spellings (items_view vs)) (spelling (view v)) ∙ ap (λ (t : List ℕ). out ++ t) (sym (spellings-push vs v))

pair_spellings-push : (ps : List (Value × Value)) (p : Value × Value) → pair_spellings (pairs_view (ps ++ p ∷ [])) ≡ pair_spellings (pairs_view ps) ++ (spelling (view p.0) ++ spelling (view p.1))
unfolding pair_spellings
pair_spellings-push [] p = ap (λ (t : List ℕ). spelling (view p.0) ++ t) (append-nil (spelling (view p.1)))
pair_spellings-push (q ∷ ps) p =
    let k = spelling (view q.0) in
    let w = spelling (view q.1) in
    let last = spelling (view p.0) ++ spelling (view p.1) in
    ap (λ (t : List ℕ). k ++ (w ++ t)) (pair_spellings-push ps p) ∙ ap (λ (t : List ℕ). k ++ t) (sym (append_assoc w (pair_spellings (pairs_view ps)) last)) ∙ sym (append_assoc k (w ++ pair_spellings (pairs_view ps)) last)

pub pair_spellings_more : (out middle behind : List ℕ) (ps : List (Value × Value)) (p : Value × Value) → middle ≡ (out ++ pair_spellings (pairs_view ps)) ++ spelling (view p.0) → behind ≡ middle ++ spelling (view p.1) → behind ≡ out ++ pair_spellings (pairs_view (ps ++ p ∷ []))
pair_spellings_more out middle behind ps p first second =
    second ∙ ap (λ (t : List ℕ). t ++ spelling (view p.1)) first ∙ append_assoc (out ++ pair_spellings (pairs_view ps)) (spelling (view p.0)) (spelling (view p.1)) ∙ append_assoc out (pair_spellings (pairs_view ps)) (spelling (view p.0) ++ spelling (view p.1)) ∙ ap (λ (t : List ℕ). out ++ t) (sym (pair_spellings-push ps p))

abbrev make : Bool → List ℕ → List ℕ → Piece
make fits narrow wide = record { fits = fits; narrow = narrow; wide = wide }

same_pieces : (a b : Bool) (m n k l : List ℕ) → a ≡ b → m ≡ n → k ≡ l → make a m k ≡ make b n l
same_pieces a b m n k l e f g = ap (λ x. make x m k) e ∙ ap (λ x. make b x k) f ∙ ap (λ x. make b n x) g

and_assoc : (a b c : Bool) → ((a && b) && c) ≡ (a && (b && c))
and_assoc true b c = refl
and_assoc false b c = refl

and_true : (a : Bool) → (a && true) ≡ a
and_true true = refl
and_true false = refl

join-assoc : (p q r : Piece) → join (join p q) r ≡ join p (join q r)
join-assoc p q r = same_pieces _ _ _ _ _ _ (and_assoc p.fits q.fits r.fits) (append_assoc p.narrow q.narrow r.narrow) (append_assoc p.wide q.wide r.wide)

join-no_piece : (p : Piece) → join p no_piece ≡ p
join-no_piece p = same_pieces _ _ _ _ _ _ (and_true p.fits) (append-nil p.narrow) (append-nil p.wide)

pub pieces-push : (vs : List Value) (v : Value) → pieces (items_view (vs ++ v ∷ [])) ≡ join (pieces (items_view vs)) (piece (view v))
unfolding pieces
pieces-push [] v = join-no_piece (piece (view v))
pieces-push (w ∷ vs) v = ap (λ p. join (piece (view w)) p) (pieces-push vs v) ∙ sym (join-assoc (piece (view w)) (pieces (items_view vs)) (piece (view v)))

-- ---- the loops' goals

take_push : {A : Type 0} (xs : List A) (i : ℕ) (x : A) → i < length xs → x ≡ get_or xs i x → take i xs ++ x ∷ [] ≡ take (i + 1) xs
take_push xs i x lt is = sym (take_more xs i x lt ∙ ap (λ y. take i xs ++ y ∷ []) (sym is))

pub spellings_none : (out : List ℕ) → out ≡ out ++ spellings no_items
unfolding spellings
spellings_none out = sym (append-nil out)

pub pair_spellings_none : (out : List ℕ) → out ≡ out ++ pair_spellings no_pairs
unfolding pair_spellings
pair_spellings_none out = sym (append-nil out)

pub pieces_none : (p : Piece) → p ≡ no_piece → p ≡ pieces no_items
unfolding pieces
pieces_none p e = e

pub put_items_more : (xs : List Value) (i : ℕ) (x : Value) (out before behind : List ℕ) → i < length xs → x ≡ get_or xs i x → before ≡ out ++ spellings (items_view (take i xs)) → behind ≡ before ++ spelling (view x) → behind ≡ out ++ spellings (items_view (take (i + 1) xs))
put_items_more xs i x out before behind lt is so_far e =
    spellings_more out behind (take i xs) x (e ∙ ap (λ (t : List ℕ). t ++ spelling (view x)) so_far)
    ∙ ap (λ (t : List Value). out ++ spellings (items_view t)) (take_push xs i x lt is)

pub put_pairs_more : (xs : List (Value × Value)) (i : ℕ) (x : Value × Value) (out before middle behind : List ℕ) → i < length xs → x ≡ get_or xs i x → before ≡ out ++ pair_spellings (pairs_view (take i xs)) → middle ≡ before ++ spelling (view x.0) → behind ≡ middle ++ spelling (view x.1) → behind ≡ out ++ pair_spellings (pairs_view (take (i + 1) xs))
put_pairs_more xs i x out before middle behind lt is so_far e f =
    pair_spellings_more out middle behind (take i xs) x (e ∙ ap (λ (t : List ℕ). t ++ spelling (view x.0)) so_far) f
    ∙ ap (λ (t : List (Value × Value)). out ++ pair_spellings (pairs_view t)) (take_push xs i x lt is)

pub put_pieces_more : (xs : List Value) (i : ℕ) (x : Value) (before behind : Piece) → i < length xs → x ≡ get_or xs i x → before ≡ pieces (items_view (take i xs)) → behind ≡ join before (piece (view x)) → behind ≡ pieces (items_view (take (i + 1) xs))
put_pieces_more xs i x before behind lt is so_far e =
    e ∙ ap (λ p. join p (piece (view x))) so_far ∙ sym (pieces-push (take i xs) x)
    ∙ ap (λ (t : List Value). pieces (items_view t)) (take_push xs i x lt is)
