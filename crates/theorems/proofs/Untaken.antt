-- What takes don't change: a trace without its takes agrees on time, on sessions, and on what was put out.
use Rattle.std.proofs.Common.{◌≡◌, ap, refl, ℕ, List, [], ◌∷◌, ◌++◌, ◌==◌}
use Rattle.std.specs.Prelude.{Option, Some, if◌then◌else◌}
use Rattle.std.specs.List.{find}
use Rattle.amqp_model.specs.declared.item.Item.{Item}
use Rattle.amqp_session.specs.declared.states.BeginState.{BeginState}
use Rattle.router_trace.specs.declared.terms.Terms.{Terms}
use Rattle.router_trace.specs.Trace.{Entry, Did, Out, Took, Bound, Booked, Routed, Began, Put, goes, ups, with_up}
use Rattle.router_trace.specs.Clocks.{moment, moment_at, terms, terms_at, written, written_at, needs_beat, channel_max_of}
use Rattle.router_trace.specs.Routed.{passed_to, if_passed}
use Rattle.router_trace.specs.Sessions.{unless_close, offered, offered_at, awaited, awaited_at, awaited_after, answered_channel, answered_at, answered_by, theirs, theirs_at, theirs_after, session, session_at, after_item, place, place_by, free_channel, is_free, channels}
use Rattle.state_sessions.specs.Windows.{flows_below, windows_over}
use Rattle.router_state.specs.Tables.{beat_if, beats_over}
use Rattle.reply_rows.specs.Finding.{free_for}
use Rattle.reply_rows.specs.Acts.{Journaled, with_acts, journaled}
use Rattle.router_core.specs.Moves.{outs}
use Rattle.theorems.specs.Takes.{untaken}

-- outgoing items are not takes
pub untaken_goes : (ps : List Put) (t : List Entry) → untaken (goes ps t) ≡ goes ps (untaken t)
untaken_goes [] t = refl
untaken_goes (p ∷ ps) t = untaken_goes ps (Out p.conn p.item ∷ t)

-- the views of a trace that don't depend on takes

pub same_ups : (t : List Entry) → ups t ≡ ups (untaken t)
same_ups [] = refl
same_ups (Did s ∷ t) = ap (with_up s.event) (same_ups t)
same_ups (Out d i ∷ t) = same_ups t
same_ups (Took d n ∷ t) = same_ups t
same_ups (Bound b ∷ t) = same_ups t
same_ups (Booked acts full ∷ t) = same_ups t
same_ups (Routed passage ∷ t) = same_ups t
same_ups (Began g ∷ t) = refl

pub same_outs : (t : List Entry) (c : ℕ) → outs t c ≡ outs (untaken t) c
same_outs [] c = refl
same_outs (Did s ∷ t) c = same_outs t c
same_outs (Out d i ∷ t) c = ap (λ (is : List Item). if d == c then is ++ i ∷ [] else is) (same_outs t c)
same_outs (Took d n ∷ t) c = same_outs t c
same_outs (Bound b ∷ t) c = same_outs t c
same_outs (Booked acts full ∷ t) c = same_outs t c
same_outs (Routed passage ∷ t) c = ap (λ (is : List Item). if_passed (λ i js. js ++ i ∷ []) (passed_to passage c) is) (same_outs t c)
same_outs (Began g ∷ t) c = refl

same_moment : (t : List Entry) → moment t ≡ moment (untaken t)
same_moment [] = refl
same_moment (Did s ∷ t) = ap (moment_at s.event) (same_moment t)
same_moment (Out d i ∷ t) = same_moment t
same_moment (Took d n ∷ t) = same_moment t
same_moment (Bound b ∷ t) = same_moment t
same_moment (Booked acts full ∷ t) = same_moment t
same_moment (Routed passage ∷ t) = same_moment t
same_moment (Began g ∷ t) = refl

same_terms : (t : List Entry) (c : ℕ) → terms t c ≡ terms (untaken t) c
same_terms [] c = refl
same_terms (Did s ∷ t) c = ap (terms_at s.event c) (same_terms t c)
same_terms (Out d i ∷ t) c = ap (λ (v : Option Terms). if d == c then unless_close i v else v) (same_terms t c)
same_terms (Took d n ∷ t) c = same_terms t c
same_terms (Bound b ∷ t) c = same_terms t c
same_terms (Booked acts full ∷ t) c = same_terms t c
same_terms (Routed passage ∷ t) c = same_terms t c
same_terms (Began g ∷ t) c = refl

same_written : (t : List Entry) (c : ℕ) → written t c ≡ written (untaken t) c
same_written [] c = refl
same_written (Did s ∷ t) c = ap (written_at s.event c) (same_written t c)
same_written (Out d i ∷ t) c = λ j. if d == c then unless_close i (Some (same_moment t j)) else same_written t c j
same_written (Took d n ∷ t) c = same_written t c
same_written (Bound b ∷ t) c = same_written t c
same_written (Booked acts full ∷ t) c = same_written t c
same_written (Routed passage ∷ t) c = λ j. if_passed (λ i last. Some (same_moment t j)) (passed_to passage c) (same_written t c j)
same_written (Began g ∷ t) c = refl

same_offered : (t : List Entry) (c : ℕ) → offered t c ≡ offered (untaken t) c
same_offered [] c = refl
same_offered (Did s ∷ t) c = ap (offered_at s.event c) (same_offered t c)
same_offered (Out d i ∷ t) c = ap (λ (v : Option BeginState). if d == c then unless_close i v else v) (same_offered t c)
same_offered (Took d n ∷ t) c = same_offered t c
same_offered (Bound b ∷ t) c = same_offered t c
same_offered (Booked acts full ∷ t) c = same_offered t c
same_offered (Routed passage ∷ t) c = same_offered t c
same_offered (Began g ∷ t) c = refl

mutual
  pub same_awaited : (t : List Entry) (c o : ℕ) → awaited t c o ≡ awaited (untaken t) c o
  same_awaited [] c o = refl
  same_awaited (Did s ∷ t) c o = λ j. awaited_at s.event c o (λ p. same_theirs t c p j) (same_awaited t c o j)
  same_awaited (Out d i ∷ t) c o = ap (λ (v : Option BeginState). if d == c then awaited_after i o v else v) (same_awaited t c o)
  same_awaited (Took d n ∷ t) c o = same_awaited t c o
  same_awaited (Bound b ∷ t) c o = same_awaited t c o
  same_awaited (Booked acts full ∷ t) c o = same_awaited t c o
  same_awaited (Routed passage ∷ t) c o = same_awaited t c o
  same_awaited (Began g ∷ t) c o = refl

  same_answered : (t : List Entry) (c o : ℕ) → answered_channel t c o ≡ answered_channel (untaken t) c o
  same_answered [] c o = refl
  same_answered (Did s ∷ t) c o = λ j. answered_at s.event c o (λ p. same_theirs t c p j) (same_awaited t c o j) (same_answered t c o j)
  same_answered (Out d i ∷ t) c o = ap (λ (v : Option ℕ). if d == c then answered_by i o v else v) (same_answered t c o)
  same_answered (Took d n ∷ t) c o = same_answered t c o
  same_answered (Bound b ∷ t) c o = same_answered t c o
  same_answered (Booked acts full ∷ t) c o = same_answered t c o
  same_answered (Routed passage ∷ t) c o = same_answered t c o
  same_answered (Began g ∷ t) c o = refl

  pub same_theirs : (t : List Entry) (c p : ℕ) → theirs t c p ≡ theirs (untaken t) c p
  same_theirs [] c p = refl
  same_theirs (Did s ∷ t) c p = λ j. theirs_at s.event c p (λ o. same_awaited t c o j) (same_theirs t c p j)
  same_theirs (Out d i ∷ t) c p = λ j. if d == c then theirs_after i p (λ o. same_answered t c o j) (same_theirs t c p j) else same_theirs t c p j
  same_theirs (Took d n ∷ t) c p = same_theirs t c p
  same_theirs (Bound b ∷ t) c p = same_theirs t c p
  same_theirs (Booked acts full ∷ t) c p = same_theirs t c p
  same_theirs (Routed passage ∷ t) c p = same_theirs t c p
  same_theirs (Began g ∷ t) c p = refl

pub same_session : (t : List Entry) (c o : ℕ) → session t c o ≡ session (untaken t) c o
same_session [] c o = refl
same_session (Did s ∷ t) c o = λ j. session_at s.event c o (λ p. same_theirs t c p j) (same_awaited t c o j) (same_session t c o j)
same_session (Out d i ∷ t) c o = λ j. if d == c then after_item i o (same_offered t c j) (same_session t c o j) else same_session t c o j
same_session (Took d n ∷ t) c o = same_session t c o
same_session (Bound b ∷ t) c o = same_session t c o
same_session (Booked acts full ∷ t) c o = same_session t c o
same_session (Routed passage ∷ t) c o = λ j. if_passed (λ i v. after_item i o (same_offered t c j) v) (passed_to passage c) (same_session t c o j)
same_session (Began g ∷ t) c o = refl

-- the journal
pub same_journaled : (t : List Entry) → journaled t ≡ journaled (untaken t)
same_journaled [] = refl
same_journaled (Did s ∷ t) = same_journaled t
same_journaled (Out d i ∷ t) = same_journaled t
same_journaled (Took d n ∷ t) = same_journaled t
same_journaled (Bound b ∷ t) = same_journaled t
same_journaled (Booked acts full ∷ t) = ap (λ (j : Journaled). with_acts j acts) (same_journaled t)
same_journaled (Routed passage ∷ t) = same_journaled t
same_journaled (Began g ∷ t) = refl

-- what rows need of them

pub same_place : (t : List Entry) (c p : ℕ) → place t c p ≡ place (untaken t) c p
same_place t c p = λ j. place_by (same_theirs t c p j) (λ o. same_session t c o j)

same_channel : (t : List Entry) (c most : ℕ) → free_channel t c most ≡ free_channel (untaken t) c most
unfolding free_channel
same_channel t c most = λ j. find (is_free most (λ o. same_session t c o j) (λ o. same_awaited t c o j)) channels

pub same_free : (t : List Entry) (c : ℕ) → free_for t c ≡ free_for (untaken t) c
same_free t c = λ j. same_channel t c (channel_max_of (same_terms t c j)) j

pub same_beats : (t : List Entry) (now : ℕ) (cs : List ℕ) → beats_over t now cs ≡ beats_over (untaken t) now cs
same_beats t now [] = refl
same_beats t now (c ∷ cs) = λ j. beat_if (needs_beat (same_terms t c j) (same_written t c j) now) c ++ same_beats t now cs j

pub same_windows : (t : List Entry) (cs : List ℕ) → windows_over t cs ≡ windows_over (untaken t) cs
same_windows t [] = refl
same_windows t (c ∷ cs) = λ j. flows_below c (λ o. same_session t c o j) 15 ++ same_windows t cs j
