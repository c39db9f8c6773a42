-- The rows of a table of links after what the peer sends, and after the router's attach.
use Rattle.std.proofs.Common.{◌≡◌, ◌∙◌, ◌+◌, ℕ, Bool, true, false, refl, sym, ap, List, [], Option, Some, None}
use Rattle.std.specs.Prelude.{◌&&◌, if◌then◌else◌, option_map, is_some}
use Rattle.amqp_model.specs.declared.perf.Attach.{Attach}
use Rattle.amqp_model.specs.declared.perf.Perf.{Perf}
use Rattle.amqp_model.specs.declared.perf.Perf.TheVariants as perf
use Rattle.book_model.specs.declared.terminus.LinkKey.{LinkKey}
use Rattle.router_trace.specs.declared.handle.Asked.{Asked}
use Rattle.router_trace.specs.declared.handle.PeerHandle.{PeerHandle}
use Rattle.router_trace.specs.Links as view
use Rattle.router_trace.specs.Links.{names, names_by, heard_link, attached, address_by, initial_of, begun_link}
use Rattle.state_links.specs.declared.link.Link.{Link}
use Rattle.state_links.specs.declared.link.Side.TheVariants.{Peer}
use Rattle.state_links.specs.Ends.{link_of, noted, begun}
use Rattle.state_links.specs.Fits.{names_in, owes, asks_drain}
use Rattle.state_links.proofs.Follows.{begun_follows, their_flow_follows, their_transfer_follows}

-- what a performative of the peer does to its link
abbrev pub heard : Perf → List ℕ → view.Link → view.Link
heard (perf.Flow f) payload l = view.after_their_flow f l
heard (perf.Transfer x) payload l = view.after_their_transfer x payload l
heard _ payload l = l

pub noted_follows : (body : Perf) (payload : List ℕ) (l : view.Link) → noted Peer body payload (link_of l) ≡ link_of (heard body payload l)
noted_follows (perf.Flow f) payload l = their_flow_follows f l
noted_follows (perf.Transfer x) payload l = their_transfer_follows x payload l
noted_follows _ payload l = refl

pub heard_where_named : (body : Perf) (payload : List ℕ) (h : ℕ) (known : ℕ → Option PeerHandle) (v : Option view.Link)
    → heard_link body payload h known v ≡ (if names_in body known h then option_map (heard body payload) v else v)
heard_where_named (perf.Flow f) payload h known v = refl
heard_where_named (perf.Transfer x) payload h known v = refl
heard_where_named _ payload h known v = refl

pub mapped : (f : Link → Link) (g : view.Link → view.Link) (old : Option Link) (v : Option view.Link)
    → ((l : view.Link) → f (link_of l) ≡ link_of (g l)) → old ≡ option_map link_of v → option_map f old ≡ option_map link_of (option_map g v)
mapped f g old None follows is = ap (option_map f) is
mapped f g old (Some l) follows is = ap (option_map f) is ∙ ap Some (follows l)

-- a row that a performative of the peer may change
pub heard_row : (here own maps handle named : Bool) (f : Link → Link) (g : view.Link → view.Link) (x old : Option Link) (v w : Option view.Link)
    → x ≡ (if here then (if own then (if handle then option_map f old else old) else old) else old)
    → old ≡ option_map link_of v → w ≡ (if named then option_map g v else v) → ((l : view.Link) → f (link_of l) ≡ link_of (g l))
    → (here ≡ true → own ≡ maps) → (here ≡ true → own ≡ true → handle ≡ named)
    → x ≡ option_map link_of (if here then (if maps then w else v) else v)
heard_row false own maps handle named f g x old v w is fit at follows chan nam = is ∙ fit
heard_row true own maps handle named f g x old v w is fit at follows chan nam = on_conn own maps (chan refl) (nam refl) is
  where
    on_link : (handle named : Bool) → handle ≡ named → x ≡ (if handle then option_map f old else old) → w ≡ (if named then option_map g v else v) → x ≡ option_map link_of w
    on_link true true e is at = rw at (is ∙ mapped f g old v follows fit)
    on_link false false e is at = rw at (is ∙ fit)
    on_link true false e is at = absurd cc
    on_link false true e is at = absurd cc

    on_conn : (own maps : Bool) → own ≡ maps → (own ≡ true → handle ≡ named) → x ≡ (if own then (if handle then option_map f old else old) else old) → x ≡ option_map link_of (if maps then w else v)
    on_conn true true e nam is = on_link handle named (nam refl) is at
    on_conn false false e nam is = is ∙ fit
    on_conn true false e nam is = absurd cc
    on_conn false true e nam is = absurd cc

-- a row that an attach may set
pub attached_row : (here own handle : Bool) (n x old : Option Link) (m v : Option view.Link)
    → x ≡ (if here then (if own then (if handle then n else old) else old) else old)
    → old ≡ option_map link_of v → (here ≡ true → n ≡ option_map link_of m)
    → x ≡ option_map link_of (if here then (if own && handle then m else v) else v)
attached_row false own handle n x old m v is fit at = is ∙ fit
attached_row true false handle n x old m v is fit at = is ∙ fit
attached_row true true false n x old m v is fit at = is ∙ fit
attached_row true true true n x old m v is fit at = is ∙ at refl

-- what was removed before makes no difference
pub over : (here own handle : Bool) (n x middle old : Option Link)
    → x ≡ (if here then (if own then (if handle then n else middle) else middle) else middle)
    → middle ≡ (if here then (if own then (if handle then None else old) else old) else old)
    → x ≡ (if here then (if own then (if handle then n else old) else old) else old)
over false own handle n x middle old is was = is ∙ was
over true false handle n x middle old is was = is ∙ was
over true true false n x middle old is was = is ∙ was
over true true true n x middle old is was = is

pub begun_at : (number : ℕ) (key : LinkKey) (a : Attach) (last : Option Asked) (address : List ℕ) (there : Option (List ℕ)) → Some address ≡ there
    → Some (begun number key a last address) ≡ option_map link_of (attached number key a last there)
begun_at number key a last address None e = absurd cc
begun_at number key a last address (Some b) e = ap Some (ap (begun number key a last) (same e) ∙ begun_follows number key a last b)
  where
    text : Option (List ℕ) → List ℕ
    text None = []
    text (Some b) = b

    same : Some address ≡ Some b → address ≡ b
    same e = ap text e

pub none_at : (number : ℕ) (key : LinkKey) (a : Attach) (last : Option Asked) (there : Option (List ℕ)) → None ≡ there
    → None ≡ option_map link_of (attached number key a last there)
none_at number key a last None e = refl
none_at number key a last (Some b) e = absurd cc

-- drains that are owed
owed_by_peer : (body : Perf) (payload : List ℕ) (l : Link) → asks_drain body ≡ false → l.owes_drain ≡ false → (noted Peer body payload l).owes_drain ≡ false
owed_by_peer (perf.Flow f) payload l e o = e
owed_by_peer (perf.Transfer x) payload l e o = o
owed_by_peer _ payload l e o = o

owed_mapped : (body : Perf) (payload : List ℕ) (old : Option Link) → asks_drain body ≡ false → owes old ≡ false → owes (option_map (noted Peer body payload) old) ≡ false
owed_mapped body payload None e o = refl
owed_mapped body payload (Some l) e o = owed_by_peer body payload l e o

pub heard_owes : (body : Perf) (payload : List ℕ) (here own handle marked now : Bool) (x old : Option Link)
    → x ≡ (if here then (if own then (if handle then option_map (noted Peer body payload) old else old) else old) else old)
    → now ≡ (if here then (if asks_drain body then true else marked) else marked)
    → (marked ≡ false → owes old ≡ false) → now ≡ false → owes x ≡ false
heard_owes body payload false own handle marked now x old is m fit e = ap owes is ∙ fit (sym m ∙ e)
heard_owes body payload true own handle marked now x old is m fit e = asked (asks_drain body) refl (sym m ∙ e)
  where
    unmarked : (drains : Bool) → (if drains then true else marked) ≡ false → marked ≡ false
    unmarked true e = absurd cc
    unmarked false e = e

    on : (own handle : Bool) → asks_drain body ≡ false → owes old ≡ false → x ≡ (if own then (if handle then option_map (noted Peer body payload) old else old) else old) → owes x ≡ false
    on true true d o is = ap owes is ∙ owed_mapped body payload old d o
    on true false d o is = ap owes is ∙ o
    on false handle d o is = ap owes is ∙ o

    asked : (drains : Bool) → asks_drain body ≡ drains → (if asks_drain body then true else marked) ≡ false → owes x ≡ false
    asked true d e = absurd (contra d e)
      where
        contra : asks_drain body ≡ true → (if asks_drain body then true else marked) ≡ false → ⊥
        contra d e = wrong (sym (ap (λ b. if b then true else marked) d) ∙ e)
          where
            wrong : true ≡ false → ⊥
            wrong e = cc
    asked false d e = on own handle d (fit (unmarked (asks_drain body) e)) is

pub set_owes : (here own handle : Bool) (n x old : Option Link) → x ≡ (if here then (if own then (if handle then n else old) else old) else old)
    → owes n ≡ false → owes old ≡ false → owes x ≡ false
set_owes false own handle n x old is new o = ap owes is ∙ o
set_owes true false handle n x old is new o = ap owes is ∙ o
set_owes true true false n x old is new o = ap owes is ∙ o
set_owes true true true n x old is new o = ap owes is ∙ new

pub begun_there : (n m : ℕ) (k l : LinkKey) (a : Attach) (last told : Option Asked) (address : List ℕ) (there : Option (List ℕ))
    → n ≡ m → k ≡ l → last ≡ told → Some address ≡ there
    → Some (begun (n + 1) k a last address) ≡ option_map link_of (attached (m + 1) l a told there)
begun_there n m k l a last told address there count key asked is = rw (count, key, asked) (begun_at (m + 1) l a told address there is)

pub counted : (there : Option (List ℕ)) (n m : ℕ) → is_some there ≡ true → m ≡ (if is_some there then m else n)
counted there n m e = rw e refl

pub uncounted : (there : Option (List ℕ)) (n m : ℕ) → is_some there ≡ false → n ≡ (if is_some there then m else n)
uncounted there n m e = rw e refl

pub same_key_of : (k l : LinkKey) → Some k ≡ Some l → k ≡ l
same_key_of k l e = cc

-- handles with equal names
pub named_same : (body : Perf) (known handles : ℕ → Option PeerHandle) → ((p : ℕ) → known p ≡ handles p) → (h : ℕ) → names_in body known h ≡ names_in body handles h
named_same (perf.Flow f) known handles same h = by_handle f.handle
  where
    by_handle : (p : Option ℕ) → names_by p known h ≡ names_by p handles h
    by_handle None = refl
    by_handle (Some p) = ap (λ v. names v h) (same p)
named_same (perf.Transfer x) known handles same h = ap (λ v. names v h) (same x.handle)
named_same _ known handles same h = refl
