-- A disposition that is held stands behind its delivery.
use Rattle.std.proofs.Common.{◌≡◌, ◌∙◌, ◌<◌, ◌+◌, ℕ, ap, subst, List, [], ◌∷◌, ◌++◌, None, arith}
use Rattle.amqp_model.specs.declared.perf.Disposition.{Disposition}
use Rattle.route_links.specs.declared.passing.Passing.{Passing}
use Rattle.route_links.specs.declared.passing.Passing.TheVariants as pass
use Rattle.route_links.specs.declared.passing.StartNumber.{StartNumber}
use Rattle.route_links.specs.Parts.{Part, Attached, Flowed, Start, Again, Settles, Byte, Aborts, Ends, Decides, Detached, parts_of}
use Rattle.route_links.specs.Legs.{Held, Mirrors}
use Rattle.route_links.specs.Frames.{starts_in, NamesStarted}

started_before : (n m : ℕ) (d : Disposition) (ps rest : List Part) → NamesStarted n (ps ++ Decides m d ∷ rest) → m < n + starts_in ps
started_before n m d [] rest names = let l = names.0 in omega (arith, l)
started_before n m d (Attached a ∷ ps) rest names = started_before n m d ps rest names
started_before n m d (Flowed f ∷ ps) rest names = started_before n m d ps rest names
started_before n m d (Start x ∷ ps) rest names = let l = started_before (n + 1) m d ps rest names in omega (arith, l)
started_before n m d (Again x ∷ ps) rest names = started_before n m d ps rest names
started_before n m d (Settles ∷ ps) rest names = started_before n m d ps rest names
started_before n m d (Byte b ∷ ps) rest names = started_before n m d ps rest names
started_before n m d (Aborts ∷ ps) rest names = started_before n m d ps rest names
started_before n m d (Ends ∷ ps) rest names = started_before n m d ps rest names
started_before n m d (Decides k e ∷ ps) rest names = started_before n m d ps rest names.1
started_before n m d (Detached e ∷ ps) rest names = started_before n m d ps rest names

pub waits_behind : (leg : Held) (came went : List Part) (n : StartNumber) (d : Disposition) (fs : List Passing) → Mirrors leg came went → NamesStarted 0 came
    → leg.queue ≡ pass.Disposition n d ∷ fs → n.0 < starts_in went
waits_behind leg came went n d fs is names first =
    let all : came ≡ went ++ parts_of leg.went (pass.Disposition n d ∷ fs) = is.whole ∙ ap (λ held. went ++ parts_of leg.went held) first in
    let l = started_before 0 n.0 (record d { first = 0; last = None }) went _ (subst (NamesStarted 0) all names) in
    omega (arith, l)
