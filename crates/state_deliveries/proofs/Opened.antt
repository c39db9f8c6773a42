-- Whether ids name undecided deliveries, by what a table remembers of names.
use Rattle.std.proofs.Common.{◌≡◌, ◌∙◌, ◌<◌, ◌^◌, ◌&&◌, ℕ, true, false, refl, sym, ap, Option, Some, None}
use Rattle.std.specs.Option.{is_some}
use Rattle.router_trace.specs.Trace.{Trace}
use Rattle.router_trace.specs.Deliveries.{Delivery, delivery, stands_on, is_id}
use Rattle.router_trace.specs.Following.{is_used, is_open as is_open_there}
use Rattle.router_trace.specs.Settling.{is_open_as, names_open}
use Rattle.state_deliveries.specs.Naming.{is_open, Remembers, IsSmall, opens, uses}

open_same : (v : Option Delivery) → is_open v ≡ is_open_there v
open_same None = refl
open_same (Some d) = refl

pub used_is : (t : Trace) (stored view : Option ℕ) (known : ℕ → Option Delivery) → ((n : ℕ) → known n ≡ delivery t n) → Remembers t stored view → uses known stored ≡ is_used t view
used_is t (Some n) view known same x = ap is_open (same n) ∙ open_same (delivery t n) ∙ ap (is_used t) (sym x)
used_is t None None known same x = refl
used_is t None (Some n) known same x = sym (sym (open_same (delivery t n)) ∙ x)

closed_as : (c o id : ℕ) (v : Option Delivery) → is_open v ≡ false → is_open_as c o id v ≡ false
closed_as c o id None e = refl
closed_as c o id (Some d) e = ap (λ b. b && (stands_on d.link c o && is_id d.id id)) e

pub opens_is : (t : Trace) (c o id : ℕ) (stored view : Option ℕ) (known : ℕ → Option Delivery) → ((n : ℕ) → known n ≡ delivery t n) → Remembers t stored view
    → opens known c o id stored ≡ names_open t c o id view
opens_is t c o id (Some n) view known same x = ap (is_open_as c o id) (same n) ∙ ap (names_open t c o id) (sym x)
opens_is t c o id None None known same x = refl
opens_is t c o id None (Some n) known same x = sym (closed_as c o id (delivery t n) x)

-- what passes exists, and has 32 bits
pub is_there : (known : ℕ → Option Delivery) (c o id : ℕ) (stored : Option ℕ) → opens known c o id stored ≡ true → is_some stored ≡ true
is_there known c o id None e = e
is_there known c o id (Some n) e = refl

pub is_small : (known : ℕ → Option Delivery) (c o id : ℕ) (stored : Option ℕ) → IsSmall id stored → opens known c o id stored ≡ true → id < 2 ^ 32
is_small known c o id None small e = absurd cc
is_small known c o id (Some n) small e = small
