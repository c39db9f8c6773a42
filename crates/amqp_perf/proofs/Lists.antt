-- Lists that are written item by item.
use Rattle.std.proofs.Common.{◌≡◌, ℕ, ◌+◌, ◌<◌, List, [], ◌∷◌, ◌++◌, length, take, get_or, refl, sym, ap, ◌∙◌, append_assoc, String, string_bytes, rules}
use Rattle.std.specs.declared.alloc.Global.{Global}
use Rattle.std.proofs.lemmas.List.{append-nil, take_more}
use Rattle.amqp_model.specs.Data as d
use Rattle.amqp_model.specs.Data.{Data, Items, no_items, item}
use Rattle.amqp_model.specs.declared.value.Value.{Value, the_lemmas}
use Rattle.amqp_model.specs.declared.value.Value.TheVariants as value
use Rattle.amqp_model.specs.View.{view, items_view}
use Rattle.amqp_model.specs.declared.state.UnsettledDelivery.{UnsettledDelivery}
use Rattle.amqp_model.specs.Texts.{symbol_items, field_bytes, spelt}
use Rattle.amqp_model.specs.PerfSpelling.{deliveries_text, state_text}

-- values, and one more at the end
abbrev pub behind : Items → Data → Items
behind no_items v = item v no_items
behind (item w vs) v = item w (behind vs v)

items_view-push : (vs : List Value) (v : Value) → items_view (vs ++ v ∷ []) ≡ behind (items_view vs) (view v)
items_view-push [] v = refl
items_view-push (w ∷ vs) v = ap (λ x. item (view w) x) (items_view-push vs v)

symbol_items-push : (ss : List (List ℕ)) (s : List ℕ) → symbol_items (ss ++ s ∷ []) ≡ behind (symbol_items ss) (d.symbol s)
symbol_items-push [] s = refl
symbol_items-push (t ∷ ss) s = ap (λ x. item (d.symbol t) x) (symbol_items-push ss s)

view-Symbol : (text : String Global) → view (value.Symbol text) ≡ d.symbol (string_bytes text)
view-Symbol text = search (rules, the_lemmas)

-- one more symbol as an element
pub elements_more : (ss : List (List ℕ)) (i : ℕ) (s : List ℕ) (before behind' : List Value) (text : String Global) → i < length ss → s ≡ get_or ss i s
    → items_view before ≡ symbol_items (take i ss) → string_bytes text ≡ s → behind' ≡ before ++ value.Symbol text ∷ [] → items_view behind' ≡ symbol_items (take (i + 1) ss)
elements_more ss i s before behind' text lt at so_far is e =
    ap (λ x. items_view x) e ∙ items_view-push before (value.Symbol text)
    ∙ ap (λ x. behind x (view (value.Symbol text))) so_far ∙ ap (λ x. behind (symbol_items (take i ss)) x) (view-Symbol text ∙ ap (λ x. d.symbol x) (is ∙ at))
    ∙ sym (symbol_items-push (take i ss) (get_or ss i s))
    ∙ ap (λ x. symbol_items x) (sym (take_more ss i s lt))

deliveries_text-push : (us : List UnsettledDelivery) (u : UnsettledDelivery) → deliveries_text (us ++ u ∷ []) ≡ deliveries_text us ++ (field_bytes (spelt (d.binary u.tag.items)) ++ field_bytes (state_text u.state))
deliveries_text-push [] u = append-nil (field_bytes (spelt (d.binary u.tag.items)) ++ field_bytes (state_text u.state))
deliveries_text-push (w ∷ us) u =
    ap (λ t. field_bytes (spelt (d.binary w.tag.items)) ++ field_bytes (state_text w.state) ++ t) (deliveries_text-push us u)
    ∙ sym (append_assoc (field_bytes (spelt (d.binary w.tag.items)) ++ field_bytes (state_text w.state)) (deliveries_text us) (field_bytes (spelt (d.binary u.tag.items)) ++ field_bytes (state_text u.state)))

-- a writer of deliveries has written one more
pub deliveries_more : (us : List UnsettledDelivery) (i : ℕ) (u : UnsettledDelivery) (out before behind' : List ℕ) → i < length us → u ≡ get_or us i u
    → before ≡ out ++ deliveries_text (take i us)
    → behind' ≡ before ++ field_bytes (spelt (d.binary u.tag.items)) ++ field_bytes (state_text u.state)
    → behind' ≡ out ++ deliveries_text (take (i + 1) us)
deliveries_more us i u out before behind' lt at so_far e =
    let last = field_bytes (spelt (d.binary u.tag.items)) ++ field_bytes (state_text u.state) in
    e ∙ append_assoc before (field_bytes (spelt (d.binary u.tag.items))) (field_bytes (state_text u.state))
    ∙ ap (λ t. t ++ last) so_far
    ∙ append_assoc out (deliveries_text (take i us)) last
    ∙ ap (λ t. out ++ t) (sym (deliveries_text-push (take i us) u))
    ∙ ap (λ x. out ++ deliveries_text (take i us ++ x ∷ [])) at
    ∙ ap (λ t. out ++ deliveries_text t) (sym (take_more us i u lt))
