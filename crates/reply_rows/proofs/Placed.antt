-- What an item finds on its channel, if that is a session, and on its handle there.
use Rattle.std.proofs.Common.{◌≡◌, ◌∙◌, sym, subst, ℕ}
use Rattle.std.specs.Prelude.{Option, Some, None}
use Rattle.amqp_session.specs.declared.window.Window.{Window}
use Rattle.amqp_session.specs.Session.{Session}
use Rattle.amqp_session.specs.Figures.{window_of}
use Rattle.router_trace.specs.declared.channel.PeerChannel.{PeerChannel}
use Rattle.router_trace.specs.declared.channel.PeerChannel.TheVariants.{Mapped, Ending}
use Rattle.router_trace.specs.Trace.{Trace}
use Rattle.router_trace.specs.Sessions.{Place, nowhere, ending, on, on_session, own_of, place_by, place, session, theirs}
use Rattle.router_trace.specs.Links.{link_place}
use Rattle.router_state.specs.Finding.{IsFoundBy, IsFoundLink, place_found}
use Rattle.router_state.specs.declared.finding.Found.{Found}
use Rattle.state_sessions.specs.declared.place.Place.TheVariants as found
use Rattle.state_sessions.specs.Fits.{found_of}

pub record IsOn (t : Trace) (c channel own : ℕ) (w : Window) (f : Found) : Type 0 where
  pub session : Session
  pub there : place t c channel ≡ on own session
  pub window : w ≡ window_of session
  pub found_own : f.own ≡ Some own

record IsAt (own : ℕ) (w : Window) (at : Place) : Type 0 where
  pub session : Session
  pub there : at ≡ on own session
  pub window : w ≡ window_of session

is_at : (at : Place) (own : ℕ) (w : Window) → found.On own w ≡ found_of at → IsAt own w at
is_at nowhere own w e = absurd cc
is_at ending own w e = absurd cc
is_at (on o h) own w e = record { session = h; there = cc; window = cc }

-- a session stands on the channel of the router that the peer's stands for
own_on : (v : Option PeerChannel) (known : ℕ → Option Session) (own : ℕ) (h : Session) → place_by v known ≡ on own h → own_of v ≡ Some own
own_on None known own h e = absurd cc
own_on (Some Ending) known own h e = absurd cc
own_on (Some (Mapped o)) known own h e = by (known o) e
  where
    by : (v : Option Session) → on_session o v ≡ on own h → Some o ≡ Some own
    by None e = absurd cc
    by (Some s) e = cc

pub is_on : (t : Trace) (c channel : ℕ) (handle : Option ℕ) (own : ℕ) (w : Window) (f : Found)
    → f.session ≡ found.On own w → IsFoundBy t c channel handle f → IsOn t c channel own w f
is_on t c channel handle own w f is here =
    let at : IsAt own w (place t c channel) = is_at (place t c channel) own w (sym is ∙ here.session) in
    record {
      session = at.session;
      there = at.there;
      window = at.window;
      found_own = here.own ∙ own_on (theirs t c channel) (session t c) own at.session at.there;
    }

-- what an item finds on its handle, if there are a session and a handle
pub linked : (t : Trace) (c channel : ℕ) (handle : Option ℕ) (f : Found) → IsFoundBy t c channel handle f
    → (own h : ℕ) → f.own ≡ Some own → handle ≡ Some h → IsFoundLink (link_place t c own h) f.link
linked t c channel handle f found own h stands named =
    subst (λ (v : Option ℕ). IsFoundLink (place_found t c (Some own) v) f.link) named
    (subst (λ (v : Option ℕ). IsFoundLink (place_found t c v handle) f.link) stands found.link)
