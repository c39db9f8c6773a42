-- What is in the middle after frames.
use Rattle.std.proofs.Common.{◌≡◌, ◌∙◌, ℕ, Bool, true, false, refl, ap, List, [], ◌∷◌, ◌++◌}
use Rattle.std.specs.Prelude.{map, not, ◌||◌, if◌then◌else◌}
use Rattle.amqp_model.specs.declared.perf.Transfer.{Transfer}
use Rattle.route_links.specs.declared.middle.Middle.{Middle}
use Rattle.route_links.specs.declared.middle.Middle.TheVariants.{Between, Open, Settled}
use Rattle.route_links.specs.Parts.{Part, Again, Byte, Settles, Aborts, Ends, has_fields, fields, again, saying, ending, transfer_parts, begun, after_part, after}

pub after_both : (m : Middle) (ps qs : List Part) → after m (ps ++ qs) ≡ after (after m ps) qs
after_both m [] qs = refl
after_both m (p ∷ ps) qs = after_both (after_part m p) ps qs

pub after_bytes : (m : Middle) (payload : List ℕ) (ps : List Part) → after m (map Byte payload ++ ps) ≡ after m ps
after_bytes m [] ps = refl
after_bytes m (b ∷ payload) ps = after_bytes m payload ps

-- fields that come again change nothing
after_again : (m : Middle) (x : Transfer) → after m (again x) ≡ m
after_again m x = by (has_fields x)
  where
    by : (given : Bool) → after m (if given then Again (record (fields x) { settled = false }) ∷ [] else []) ≡ m
    by true = refl
    by false = refl

after_saying : (m : Middle) (x : Transfer) → after m (saying m x) ≡ begun m x.settled
after_saying Between x = refl
after_saying Settled x = after_again Settled x
after_saying Open x = by x.settled
  where
    by : (settled : Bool) → after Open (if settled then again x ++ Settles ∷ [] else again x) ≡ begun Open settled
    by true = after_both Open (again x) (Settles ∷ []) ∙ ap (λ m. after m (Settles ∷ [])) (after_again Open x)
    by false = after_again Open x

after_ending : (m : Middle) (x : Transfer) → after m (ending x) ≡ (if x.aborted || not x.more then Between else m)
after_ending m x = by x.aborted x.more
  where
    by : (aborted more : Bool) → after m (if aborted then Aborts ∷ [] else if more then [] else Ends ∷ []) ≡ (if aborted || not more then Between else m)
    by true more = refl
    by false true = refl
    by false false = refl

pub after_transfer : (m : Middle) (x : Transfer) (payload : List ℕ) → after m (transfer_parts m x payload) ≡ (if x.aborted || not x.more then Between else begun m x.settled)
after_transfer m x payload =
    after_both m (saying m x) (map Byte payload ++ ending x)
    ∙ (after_bytes (after m (saying m x)) payload (ending x)
    ∙ (after_ending (after m (saying m x)) x
    ∙ ap (λ n. if x.aborted || not x.more then Between else n) (after_saying m x)))
