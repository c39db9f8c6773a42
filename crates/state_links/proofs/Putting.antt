-- A table of links after the router's flow or transfer.
use Rattle.std.proofs.Common.{◌≡◌, ◌∙◌, ℕ, Bool, true, false, refl, sym, ap, subst, List, ◌∷◌, Option, Some, None}
use Rattle.std.specs.Prelude.{◌&&◌, ◌==◌, not, if◌then◌else◌, option_map}
use Rattle.amqp_model.specs.declared.perf.Perf.{Perf}
use Rattle.amqp_model.specs.declared.perf.Perf.TheVariants as perf
use Rattle.amqp_model.specs.declared.item.Item.TheVariants as item
use Rattle.router_trace.specs.Trace.{Trace, Out}
use Rattle.router_trace.specs.Links as view
use Rattle.router_trace.specs.Links.{link, is_handle}
use Rattle.state_collections.specs.declared.by_handle.ByHandle.{ByHandle}
use Rattle.state_collections.specs.declared.number_set.NumberSet.{NumberSet}
use Rattle.state_links.specs.declared.link.Link.{Link}
use Rattle.state_links.specs.declared.link.Side.TheVariants.{Router}
use Rattle.state_links.specs.declared.table.LinkTable.{LinkTable}
use Rattle.state_links.specs.Ends.{link_of, noted}
use Rattle.state_links.specs.Fits.{TableFit, IsNoted, owes}
use Rattle.state_collections.specs.Places.{at}
use Rattle.state_links.proofs.Attached.{names_put}
use Rattle.state_links.proofs.Follows.{our_flow_follows, our_transfer_follows}
use Rattle.state_links.proofs.Rows.{mapped}
use Rattle.state_links.proofs.Thinning.{none_gone}

-- a row on which the router's flow or transfer may be noted
put_row : (here own handle : Bool) (f : Link → Link) (g : view.Link → view.Link) (x old : Option Link) (v : Option view.Link)
    → x ≡ (if here then (if own then (if handle then option_map f old else old) else old) else old)
    → old ≡ option_map link_of v → ((l : view.Link) → f (link_of l) ≡ link_of (g l))
    → x ≡ option_map link_of (if here then (if own && handle then option_map g v else v) else v)
put_row false own handle f g x old v is fit follows = is ∙ fit
put_row true false handle f g x old v is fit follows = is ∙ fit
put_row true true false f g x old v is fit follows = is ∙ fit
put_row true true true f g x old v is fit follows = is ∙ mapped f g old v follows fit

no_longer : (a b : Bool) → a ≡ false → (a && b) ≡ false
no_longer true b e = absurd cc
no_longer false b e = refl

our_owes : (body : Perf) (payload : List ℕ) (old : Option Link) → owes old ≡ false → owes (option_map (noted Router body payload) old) ≡ false
our_owes body payload None o = refl
our_owes (perf.Flow f) payload (Some l) o = no_longer l.owes_drain (not f.drain) o
our_owes (perf.Transfer x) payload (Some l) o = o
our_owes _ payload (Some l) o = o

put_owes : (here own handle : Bool) (body : Perf) (payload : List ℕ) (x old : Option Link)
    → x ≡ (if here then (if own then (if handle then option_map (noted Router body payload) old else old) else old) else old)
    → owes old ≡ false → owes x ≡ false
put_owes false own handle body payload x old is o = ap owes is ∙ o
put_owes true false handle body payload x old is o = ap owes is ∙ o
put_owes true true false body payload x old is o = ap owes is ∙ o
put_owes true true true body payload x old is o = ap owes is ∙ our_owes body payload old o

-- a table after the router's flow or transfer
pub put_noted : (conn own : ℕ) (handle : Option ℕ) (sasl : Bool) (body : Perf) (payload : List ℕ) (s : LinkTable) (rows : ByHandle Link) (touched : NumberSet) (t : Trace)
    → ((c o h : ℕ) → at rows c o h ≡ (if conn == c then (if own == o then (if is_handle handle h then option_map (noted Router body payload) (at s.links c o h) else at s.links c o h) else at s.links c o h) else at s.links c o h))
    → IsNoted body handle → TableFit s t → TableFit (record s { links = rows; touched = touched }) (Out conn (item.Frame sasl own body payload) ∷ t)
put_noted conn own handle sasl (perf.Flow f) payload s rows touched t links is fit = record {
  links = λ d o h. put_row (conn == d) (own == o) (is_handle f.handle h) (noted Router (perf.Flow f) payload) (view.after_our_flow f) _ (at s.links d o h) (link t d o h)
      (subst (λ (q : Option ℕ). at rows d o h ≡ (if conn == d then (if own == o then (if is_handle q h then option_map (noted Router (perf.Flow f) payload) (at s.links d o h) else at s.links d o h) else at s.links d o h) else at s.links d o h)) (sym is) (links d o h))
      (fit.links d o h) (our_flow_follows f);
  count = fit.count;
  names = names_put conn (item.Frame sasl own (perf.Flow f) payload) t (λ a. false) s.names s.names refl (λ a below e. absurd cc) (none_gone (λ a. false) s.names) fit.names;
  owing = λ d o h e. put_owes (conn == d) (own == o) (is_handle handle h) (perf.Flow f) payload _ (at s.links d o h) (links d o h) (fit.owing d o h e);
}
put_noted conn own handle sasl (perf.Transfer x) payload s rows touched t links is fit = record {
  links = λ d o h. put_row (conn == d) (own == o) (x.handle == h) (noted Router (perf.Transfer x) payload) (view.after_our_transfer x) _ (at s.links d o h) (link t d o h)
      (subst (λ (q : Option ℕ). at rows d o h ≡ (if conn == d then (if own == o then (if is_handle q h then option_map (noted Router (perf.Transfer x) payload) (at s.links d o h) else at s.links d o h) else at s.links d o h) else at s.links d o h)) (sym is) (links d o h))
      (fit.links d o h) (our_transfer_follows x);
  count = fit.count;
  names = names_put conn (item.Frame sasl own (perf.Transfer x) payload) t (λ a. false) s.names s.names refl (λ a below e. absurd cc) (none_gone (λ a. false) s.names) fit.names;
  owing = λ d o h e. put_owes (conn == d) (own == o) (is_handle handle h) (perf.Transfer x) payload _ (at s.links d o h) (links d o h) (fit.owing d o h e);
}
put_noted conn own handle sasl _ payload s rows touched t links is fit = absurd is
