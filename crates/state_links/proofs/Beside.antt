-- What the router's transfers, flows and dispositions leave of the table of links.
use Rattle.std.proofs.Common.{◌≡◌, ◌∙◌, ◌∷◌, ℕ, Bool, true, false, refl, ap, List}
use Rattle.std.specs.Prelude.{◌==◌, if◌then◌else◌, option_map}
use Rattle.amqp_model.specs.declared.perf.Disposition.{Disposition}
use Rattle.amqp_model.specs.declared.perf.Perf.{Perf}
use Rattle.amqp_model.specs.declared.perf.Perf.TheVariants as perf
use Rattle.amqp_model.specs.declared.item.Item.TheVariants as item
use Rattle.router_trace.specs.Links.{asked, told_handle_max, highest_handle, answered_handle, their_handle, link}
use Rattle.router_trace.specs.Trace.{Trace, Out}
use Rattle.state_links.specs.declared.handles.HandleTable.{HandleTable}
use Rattle.state_links.specs.declared.links.Links.{Links}
use Rattle.state_links.specs.Ends.{link_of}
use Rattle.state_links.specs.Fits.{LinksFit}
use Rattle.state_links.specs.Handled.{HandlesFit}
use Rattle.state_links.proofs.Attached.{names_put}
use Rattle.state_links.proofs.Thinning.{none_gone}

-- a transfer, a flow or a disposition
abbrev pub IsOfMessages : Perf → Type 0
IsOfMessages (perf.Transfer x) = Unit {0}
IsOfMessages (perf.Flow f) = Unit {0}
IsOfMessages (perf.Disposition x) = Unit {0}
IsOfMessages _ = ⊥

either_way : {A : Type 0} (b : Bool) (v : A) → v ≡ (if b then v else v)
either_way true v = refl
either_way false v = refl

pub handles_stay : (s : HandleTable) (d own : ℕ) (sasl : Bool) (body : Perf) (payload : List ℕ) (t : Trace) → IsOfMessages body → HandlesFit s t
    → HandlesFit s (Out d (item.Frame sasl own body payload) ∷ t)
handles_stay s d own sasl (perf.Transfer x) payload t is fit = record {
  asked = λ c. fit.asked c ∙ either_way (d == c) (asked t c);
  told = λ c. fit.told c ∙ either_way (d == c) (told_handle_max t c);
  highest = λ c o. fit.highest c o ∙ either_way (d == c) (highest_handle t c o);
  answered = λ c o h. fit.answered c o h ∙ either_way (d == c) (answered_handle t c o h);
  theirs = λ c o p. fit.theirs c o p ∙ either_way (d == c) (their_handle t c o p);
}
handles_stay s d own sasl (perf.Flow f) payload t is fit = record {
  asked = λ c. fit.asked c ∙ either_way (d == c) (asked t c);
  told = λ c. fit.told c ∙ either_way (d == c) (told_handle_max t c);
  highest = λ c o. fit.highest c o ∙ either_way (d == c) (highest_handle t c o);
  answered = λ c o h. fit.answered c o h ∙ either_way (d == c) (answered_handle t c o h);
  theirs = λ c o p. fit.theirs c o p ∙ either_way (d == c) (their_handle t c o p);
}
handles_stay s d own sasl (perf.Disposition x) payload t is fit = record {
  asked = λ c. fit.asked c ∙ either_way (d == c) (asked t c);
  told = λ c. fit.told c ∙ either_way (d == c) (told_handle_max t c);
  highest = λ c o. fit.highest c o ∙ either_way (d == c) (highest_handle t c o);
  answered = λ c o h. fit.answered c o h ∙ either_way (d == c) (answered_handle t c o h);
  theirs = λ c o p. fit.theirs c o p ∙ either_way (d == c) (their_handle t c o p);
}
handles_stay s d own sasl _ payload t is fit = absurd is

pub links_disposed : (s : Links) (d own : ℕ) (sasl : Bool) (x : Disposition) (payload : List ℕ) (t : Trace) → LinksFit s t
    → LinksFit s (Out d (item.Frame sasl own (perf.Disposition x) payload) ∷ t)
links_disposed s d own sasl x payload t fit = record {
  handles = handles_stay s.handles d own sasl (perf.Disposition x) payload t tt fit.handles;
  table = record {
    links = λ c o h. fit.table.links c o h ∙ ap (option_map link_of) (either_way (d == c) (link t c o h));
    count = fit.table.count;
    names = names_put d (item.Frame sasl own (perf.Disposition x) payload) t (λ a. false) s.table.names s.table.names refl (λ a below e. absurd cc) (none_gone (λ a. false) s.table.names) fit.table.names;
    owing = fit.table.owing;
  };
}
