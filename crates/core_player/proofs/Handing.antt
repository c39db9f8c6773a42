-- A refused event appends a line, and nothing else changes.
use Rattle.std.proofs.Common.{◌≡◌, ◌∙◌, ◌++◌, ◌∷◌, ℕ, Bool, true, false, refl, sym, ap, subst, List, []}
use Rattle.std.specs.Prelude.{if◌then◌else◌, ◌||◌}
use Rattle.std.specs.Ordering.{nat_cmp}
use Rattle.std.specs.BTreeMap.{get}
use Rattle.core_machine.specs.declared.fault.CoreFault.{CoreFault}
use Rattle.core_machine.specs.declared.fault.CoreFault.TheVariants.{Disk, Memory, Failed, NoConnection}
use Rattle.core_machine.specs.Turns.{is_out_of_turn, is_start, is_started, declines}
use Rattle.router_trace.specs.declared.event.Event.TheVariants as event
use Rattle.router_trace.specs.declared.event.Event.{Event}
use Rattle.router_trace.specs.Refusing.{refuses}
use Rattle.route_table.specs.Settings.{Settings}
use Rattle.router_trace.specs.Configuration.{beginning}
use Rattle.router_trace.specs.Trace.{Beginning, Trace, step_of}
use Rattle.core_player.specs.declared.line.Line.TheVariants as line
use Rattle.core_player.specs.declared.player.Player.{Player}
use Rattle.core_player.specs.Playing.{Agrees, Begun, Follows, Said, seen}
use Rattle.core_player.specs.Script.{Scene, hand, opening, refused, say, with_trace}
use Rattle.book_model.specs.Book.{BookView}
use Rattle.core_machine.specs.Meaning.{Meaning}

-- once the router is started, an event other than a start is declined exactly if it is refused
declines_later : (t : Trace) (e : Event) → is_start e ≡ false → is_started t ≡ true → declines t e ≡ refuses t e
declines_later t (event.Up c p) later started = rw started refl
declines_later t (event.Item c i) later started = rw started refl
declines_later t (event.Down c) later started = rw started refl
declines_later t (event.Tick ms) later started = rw started refl
declines_later t event.Start later started = absurd cc

-- an event that isn't declined isn't refused
not_refused : (t : Trace) (e : Event) → declines t e ≡ false → refuses t e ≡ false
not_refused t e taken = second (is_out_of_turn t e) (refuses t e) taken
  where
    second : (a b : Bool) → (a || b) ≡ false → b ≡ false
    second true b h = absurd cc
    second false b h = h

module _ {M : Type 0} (m : Meaning M) where
  -- the player with one more line for a refusal
  refused_follows : (p q r : Player M) (s : Scene) → q.core ≡ p.core → q.config ≡ p.config → q.newest ≡ p.newest → q.sockets ≡ p.sockets → q.lines ≡ p.lines
      → Said q r (refused ∷ []) → Follows m p s → Follows m r (say refused s)
  refused_follows p q r s core config newest sockets lines said f = record {
    core = subst (λ (k : M). Agrees m k s.trace) (sym (said.core ∙ core)) f.core;
    started = f.started;
    named = ap m.id (said.core ∙ core) ∙ f.named;
    config = subst (λ k. k.now ≡ s.config) (sym (said.config ∙ config)) f.config;
    last = said.last ∙ newest ∙ f.last;
    sockets = λ c. ap (λ k. seen (get nat_cmp k c)) (said.sockets ∙ sockets) ∙ f.sockets c;
    lines = said.lines ∙ ap (λ l. l.items ++ refused ∷ []) lines ∙ ap (λ l. l ++ refused ∷ []) f.lines;
  }

  -- the player after an event that the router handled
  pub handled_follows : (p q : Player M) (e : Event) (s : Scene) → ((t : Trace) → m.fits p.core t → m.fits q.core (m.next (m.id p.core) t (step_of e)))
      → ((t : Trace) → m.fits p.core t → m.keeps p.core (m.book t) → m.keeps q.core (m.book (m.next (m.id p.core) t (step_of e))))
      → ((t : Trace) → m.fits p.core t → declines t e ≡ false)
      → ((t : Trace) → m.fits p.core t → is_started (m.next (m.id p.core) t (step_of e)) ≡ true)
      → m.id q.core ≡ m.id p.core → q.config ≡ p.config → q.newest ≡ p.newest → q.sockets ≡ p.sockets → q.lines ≡ p.lines → Follows m p s → Follows m q (hand m.next e s)
  handled_follows p q e s fits keeps taken starts named config newest sockets lines f =
      let was : declines s.trace e ≡ false = taken s.trace f.core.0 in
      rw (not_refused s.trace e was) (record {
        core = subst (λ (i : List ℕ). Agrees m q.core (m.next i s.trace (step_of e))) f.named (fits s.trace f.core.0, keeps s.trace f.core.0 f.core.1);
        started = subst (λ (i : List ℕ). is_started (m.next i s.trace (step_of e)) ≡ true) f.named (starts s.trace f.core.0);
        named = named ∙ f.named;
        config = subst (λ k. k.now ≡ s.config) (sym config) f.config;
        last = newest ∙ f.last;
        sockets = λ c. ap (λ k. seen (get nat_cmp k c)) sockets ∙ f.sockets c;
        lines = ap (λ l. l.items) lines ∙ f.lines;
      })

  -- If the router answers with a fault and hasn't failed, the event is refused.
  pub fault_follows : (p q r : Player M) (fault : CoreFault) (e : Event) (s : Scene)
      → is_start e ≡ false → (fault ≡ NoConnection → (q.core ≡ p.core) × ((t : Trace) → m.fits p.core t → declines t e ≡ true))
      → (fault ≡ Failed → (q.core ≡ p.core) × (m.is_failed p.core ≡ true))
      → (fault ≡ Memory → m.is_failed q.core ≡ true) → (fault ≡ Disk → m.is_failed q.core ≡ true)
      → q.config ≡ p.config → q.newest ≡ p.newest → q.sockets ≡ p.sockets → q.lines ≡ p.lines
      → Said q r (line.Failed fault ∷ []) → m.is_failed r.core ≡ false → Follows m p s → Follows m r (hand m.next e s)
  fault_follows p q r NoConnection e s later refused_as failed memory disk config newest sockets lines said works f =
      let is : (q.core ≡ p.core) × ((t : Trace) → m.fits p.core t → declines t e ≡ true) = refused_as refl in
      subst (λ (b : Bool). Follows m r (if b then say refused s else with_trace (m.next s.id s.trace (step_of e)) s)) (sym (sym (declines_later s.trace e later f.started) ∙ is.1 s.trace f.core.0))
      (refused_follows p q r s is.0 config newest sockets lines said f)
  fault_follows p q r Failed e s later refused_as failed memory disk config newest sockets lines said works f =
      let wrong : true ≡ false = sym (failed refl).1 ∙ ap m.is_failed (sym (said.core ∙ (failed refl).0)) ∙ works in absurd cc
  fault_follows p q r Memory e s later refused_as failed memory disk config newest sockets lines said works f =
      let wrong : true ≡ false = sym (memory refl) ∙ ap m.is_failed (sym said.core) ∙ works in absurd cc
  fault_follows p q r Disk e s later refused_as failed memory disk config newest sockets lines said works f =
      let wrong : true ≡ false = sym (disk refl) ∙ ap m.is_failed (sym said.core) ∙ works in absurd cc

  -- the player after a fuse: its router agrees with the same traces
  pub fused_follows : (p q : Player M) (s : Scene) → ((t : Trace) → m.fits p.core t → m.fits q.core t) → ((b : BookView) → m.keeps p.core b → m.keeps q.core b) → m.id q.core ≡ m.id p.core
      → q.config ≡ p.config → q.newest ≡ p.newest → q.sockets ≡ p.sockets → q.lines ≡ p.lines → Follows m p s → Follows m q s
  fused_follows p q s fits keeps named config newest sockets lines f = record {
    core = (fits s.trace f.core.0, keeps (m.book s.trace) f.core.1);
    started = f.started;
    named = named ∙ f.named;
    config = subst (λ k. k.now ≡ s.config) (sym config) f.config;
    last = newest ∙ f.last;
    sockets = λ c. ap (λ k. seen (get nat_cmp k c)) sockets ∙ f.sockets c;
    lines = ap (λ l. l.items) lines ∙ f.lines;
  }

  -- a player whose router was started
  pub start_follows : (p q : Player M) (config : Settings) (g : Beginning) → ((t : Trace) → m.fits p.core t → m.fits q.core (m.next (m.id p.core) t (step_of event.Start)))
      → ((t : Trace) → m.fits p.core t → m.keeps p.core (m.book t) → m.keeps q.core (m.book (m.next (m.id p.core) t (step_of event.Start))))
      → ((t : Trace) → m.fits p.core t → declines t event.Start ≡ false)
      → ((t : Trace) → m.fits p.core t → is_started (m.next (m.id p.core) t (step_of event.Start)) ≡ true)
      → m.id q.core ≡ m.id p.core → q.config ≡ p.config → q.newest ≡ p.newest → q.sockets ≡ p.sockets → q.lines ≡ p.lines → Begun m p config g → Follows m q (opening m.next config g)
  start_follows p q config g fits keeps taken starts named config_same newest sockets lines b = record {
    core = subst (λ (i : List ℕ). Agrees m q.core (m.next i (beginning g) (step_of event.Start))) b.named (fits (beginning g) b.core.0, keeps (beginning g) b.core.0 b.core.1);
    started = subst (λ (i : List ℕ). is_started (m.next i (beginning g) (step_of event.Start)) ≡ true) b.named (starts (beginning g) b.core.0);
    named = named ∙ b.named;
    config = subst (λ k. k.now ≡ config) (sym config_same) b.config_is;
    last = newest ∙ b.last;
    sockets = λ c. ap (λ k. seen (get nat_cmp k c)) sockets ∙ ap seen (b.sockets c);
    lines = ap (λ l. l.items) lines ∙ b.lines;
  }

  -- a start that the router answers with a fault fails it
  pub start_fails : (p q r : Player M) (fault : CoreFault) (config : Settings) (g : Beginning)
      → (fault ≡ NoConnection → (q.core ≡ p.core) × ((t : Trace) → m.fits p.core t → declines t event.Start ≡ true))
      → (fault ≡ Failed → (q.core ≡ p.core) × (m.is_failed p.core ≡ true))
      → (fault ≡ Memory → m.is_failed q.core ≡ true) → (fault ≡ Disk → m.is_failed q.core ≡ true)
      → Said q r (line.Failed fault ∷ []) → m.is_failed r.core ≡ false → Begun m p config g → Follows m r (opening m.next config g)
  start_fails p q r NoConnection config g refused failed memory disk said works b =
      let wrong : false ≡ true = (refused refl).1 (beginning g) b.core.0 in absurd cc
  start_fails p q r Failed config g refused failed memory disk said works b =
      let wrong : true ≡ false = sym (failed refl).1 ∙ b.works in absurd cc
  start_fails p q r Memory config g refused failed memory disk said works b =
      let wrong : true ≡ false = sym (memory refl) ∙ ap m.is_failed (sym said.core) ∙ works in absurd cc
  start_fails p q r Disk config g refused failed memory disk said works b =
      let wrong : true ≡ false = sym (disk refl) ∙ ap m.is_failed (sym said.core) ∙ works in absurd cc
