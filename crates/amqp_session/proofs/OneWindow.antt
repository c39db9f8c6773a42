-- A window fits a list exactly where it is the list's window: for a table of windows, which is compared with a view by equality.
use Rattle.std.proofs.Common.{◌≡◌, ℕ, refl, subst, sym}
use Rattle.amqp_session.specs.declared.window.Window.{Window}
use Rattle.amqp_session.specs.Session.{Session}
use Rattle.amqp_session.specs.Figures.{Fits, window_of}

abbrev pub made_of : ℕ → ℕ → ℕ → ℕ → ℕ → Window
made_of a b c d e = record { first_outgoing = a; next_outgoing = b; next_incoming = c; remote_window = d; allowance = e }

pub same_parts : (a b c d e f g h i j : ℕ) → a ≡ f → b ≡ g → c ≡ h → d ≡ i → e ≡ j → made_of a b c d e ≡ made_of f g h i j
same_parts a b c d e f g h i j p q r s u = rw (p, q, r, s, u) refl

pub is_window_of : (w : Window) (t : Session) → Fits w t → w ≡ window_of t
is_window_of w t fits = same_parts _ _ _ _ _ _ _ _ _ _ fits.first_outgoing fits.next_outgoing fits.next_incoming fits.remote_window fits.allowance

pub window_of_fits : (t : Session) → Fits (window_of t) t
window_of_fits t = record { first_outgoing = refl; next_outgoing = refl; next_incoming = refl; remote_window = refl; allowance = refl }

pub fits_as_window_of : (w : Window) (t : Session) → w ≡ window_of t → Fits w t
fits_as_window_of w t same = let P : Window → Type 0 = λ x. Fits x t in subst P (sym same) (window_of_fits t)
