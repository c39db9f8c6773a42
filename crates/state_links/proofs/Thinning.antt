-- Removed entries.
use Rattle.std.proofs.Common.{◌≡◌, ◌∙◌, ℕ, Bool, true, false, refl, sym, Option, Some, None}
use Rattle.std.specs.Prelude.{◌&&◌, ◌==◌, if◌then◌else◌}
use Rattle.std.specs.Ordering.{nat_cmp}
use Rattle.std.specs.BTreeMap.{get}
use Rattle.book_model.specs.Keys.{key_cmp}
use Rattle.router_trace.specs.declared.handle.Attachment.{Attachment}
use Rattle.state_links.specs.declared.names.Names.{Names}
use Rattle.state_links.specs.Naming.{on_conn, on_session, on_handle, unless, IsThinned, Thinned}
use Rattle.state_collections.specs.NumberMap.{at_number}

same : (gone : Attachment → Bool) (e : Option Attachment) → IsThinned gone e e
same gone None = tt
same gone (Some a) = refl

further : (gone : Attachment → Bool) (e f g : Option Attachment) → IsThinned gone e f → IsThinned gone f g → IsThinned gone e g
further gone e f (Some a) x y = at_last e f a x y
  where
    at_last : (e f : Option Attachment) (a : Attachment) → IsThinned gone e f → f ≡ Some a → e ≡ Some a
    at_last e (Some b) a x y = x ∙ y
    at_last e None a x y = absurd cc
further gone None f None x y = tt
further gone (Some a) (Some b) None x y = gone_too a b x y
  where
    gone_too : (a b : Attachment) → Some a ≡ Some b → gone b ≡ true → gone a ≡ true
    gone_too a b x y = cc
further gone (Some a) None None x y = x

wider : (p q : Attachment → Bool) → ((a : Attachment) → p a ≡ true → q a ≡ true) → (e f : Option Attachment) → IsThinned p e f → IsThinned q e f
wider p q all e (Some a) x = x
wider p q all None None x = tt
wider p q all (Some a) None x = all a x

at_one : (gone : Attachment → Bool) (here : Bool) (e f : Option Attachment) → f ≡ (if here then unless gone e else e) → IsThinned gone e f
at_one gone here None f x = none here f x
  where
    none : (here : Bool) (f : Option Attachment) → f ≡ (if here then unless gone None else None) → IsThinned gone None f
    none true None x = tt
    none true (Some a) x = absurd cc
    none false None x = tt
    none false (Some a) x = absurd cc
at_one gone here (Some a) f x = some here (gone a) refl f x
  where
    some : (here b : Bool) → gone a ≡ b → (f : Option Attachment) → f ≡ (if here then (if b then None else Some a) else Some a) → IsThinned gone (Some a) f
    some true true e None x = e
    some true true e (Some c) x = absurd cc
    some true false e None x = absurd cc
    some true false e (Some c) x = sym x
    some false b e None x = absurd cc
    some false b e (Some c) x = sym x

pub none_gone : (gone : Attachment → Bool) (s : Names) → Thinned gone s s
none_gone gone s = record { keys = λ k. same gone (get key_cmp s.keys.entries k); numbers = λ n. same gone (at_number s.numbers.entries n) }

pub and_further : (gone : Attachment → Bool) (r s t : Names) → Thinned gone r s → Thinned gone s t → Thinned gone r t
and_further gone r s t x y = record {
  keys = λ k. further gone _ _ _ (x.keys k) (y.keys k);
  numbers = λ n. further gone _ _ _ (x.numbers n) (y.numbers n);
}

more : (p q : Attachment → Bool) (s t : Names) → ((a : Attachment) → p a ≡ true → q a ≡ true) → Thinned p s t → Thinned q s t
more p q s t all x = record {
  keys = λ k. wider p q all _ _ (x.keys k);
  numbers = λ n. wider p q all _ _ (x.numbers n);
}

both_first : (a b c : Bool) → (a && (b && c)) ≡ true → (a && b) ≡ true
both_first true true c e = refl
both_first true false c e = e
both_first false b c e = e

first : (a b : Bool) → (a && b) ≡ true → a ≡ true
first true b e = refl
first false b e = e

-- what was at a handle was on its session, and what was on a session was on its connection
pub handle_of_session : (c o h : ℕ) (s t : Names) → Thinned (on_handle c o h) s t → Thinned (on_session c o) s t
handle_of_session c o h s t x = more (on_handle c o h) (on_session c o) s t (λ a e. both_first (c == a.conn.0) (o == a.channel) (h == a.handle) e) x

pub session_of_conn : (c o : ℕ) (s t : Names) → Thinned (on_session c o) s t → Thinned (on_conn c) s t
session_of_conn c o s t x = more (on_session c o) (on_conn c) s t (λ a e. first (c == a.conn.0) (o == a.channel) e) x
