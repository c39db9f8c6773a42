-- What goes out, and then what is held, is what came in.
use Rattle.std.proofs.Common.{◌≡◌, ◌∙◌, ℕ, Bool, true, false, refl, sym, ap, subst, List, [], ◌∷◌, ◌++◌, append_assoc, append-nil}
use Rattle.std.specs.Prelude.{filter, map, if◌then◌else◌}
use Rattle.amqp_model.specs.declared.perf.Transfer.{Transfer}
use Rattle.route_links.specs.declared.middle.Middle.{Middle}
use Rattle.route_links.specs.declared.middle.Middle.TheVariants.{Between, Open, Settled}
use Rattle.route_links.specs.declared.passing.Passing.{Passing}
use Rattle.route_links.specs.declared.passing.Passing.TheVariants as pass
use Rattle.route_links.specs.Parts.{Part, Again, Byte, Settles, Aborts, Ends, Detached, has_fields, fields, again, saying, ending, transfer_parts, parts, after, middle, parts_of, is_detach, is_detached}
use Rattle.route_links.specs.Legs.{Held, Mirrors, new_leg, forwarded, dropped}
use Rattle.route_links.proofs.Middles.{after_both}

pub nothing_came : (handle : ℕ) → Mirrors (new_leg handle) [] []
nothing_came handle = record { whole = refl; came_middle = refl; went_middle = refl }

-- the parts of more frames
pub parts_both : (m : Middle) (fs gs : List Passing) → parts_of m (fs ++ gs) ≡ parts_of m fs ++ parts_of (after m (parts_of m fs)) gs
parts_both m [] gs = refl
parts_both m (f ∷ fs) gs =
    let n = after m (parts m f) in
    ap (λ ps. parts m f ++ ps) (parts_both n fs gs)
    ∙ (sym (append_assoc (parts m f) (parts_of n fs) (parts_of (after n (parts_of n fs)) gs))
    ∙ ap (λ k. (parts m f ++ parts_of n fs) ++ parts_of k gs) (sym (after_both m (parts m f) (parts_of n fs))))

-- what is in the middle where it came, by what is held
pub came_by_held : (leg : Held) (came went : List Part) → Mirrors leg came went → leg.came ≡ after leg.went (parts_of leg.went leg.queue)
came_by_held leg came went is =
    is.came_middle ∙ (ap middle is.whole ∙ (after_both Between went (parts_of leg.went leg.queue) ∙ ap (λ m. after m (parts_of leg.went leg.queue)) (sym is.went_middle)))

pub one_more : (leg : Held) (f : Passing) (came went : List Part) → Mirrors leg came went → Mirrors (forwarded f leg) (came ++ parts (middle came) f) went
one_more leg f came went is =
    let held = parts_of leg.went leg.queue in
    record {
      whole =
          ap (λ ps. ps ++ parts (middle came) f) is.whole
          ∙ (append_assoc went held (parts (middle came) f)
          ∙ ap (λ ps. went ++ ps)
          (ap (λ m. held ++ parts m f) (sym is.came_middle ∙ came_by_held leg came went is)
          ∙ (ap (λ ps. held ++ ps) (sym (append-nil (parts (after leg.went held) f)))
          ∙ sym (parts_both leg.went leg.queue (f ∷ [])))));
      came_middle = ap (λ m. after m (parts m f)) is.came_middle ∙ sym (after_both Between came (parts (middle came) f));
      went_middle = is.went_middle;
    }

pub one_more_as : (new leg : Held) (f : Passing) → new ≡ forwarded f leg → (came went : List Part) → Mirrors leg came went → Mirrors new (came ++ parts (middle came) f) went
one_more_as new leg f same came went is =
    let P : Held → Type 0 = λ l. Mirrors l (came ++ parts (middle came) f) went in subst P (sym same) (one_more leg f came went is)

-- transfers have no detach
past_ending : (x : Transfer) (ps : List Part) → filter is_detached (ending x ++ ps) ≡ filter is_detached ps
past_ending x ps = by x.aborted x.more
  where
    by : (aborted more : Bool) → filter is_detached ((if aborted then Aborts ∷ [] else if more then [] else Ends ∷ []) ++ ps) ≡ filter is_detached ps
    by true more = refl
    by false true = refl
    by false false = refl

past_bytes : (payload : List ℕ) (ps : List Part) → filter is_detached (map Byte payload ++ ps) ≡ filter is_detached ps
past_bytes [] ps = refl
past_bytes (b ∷ payload) ps = past_bytes payload ps

past_again : (x : Transfer) (ps : List Part) → filter is_detached (again x ++ ps) ≡ filter is_detached ps
past_again x ps = by (has_fields x)
  where
    by : (given : Bool) → filter is_detached ((if given then Again (record (fields x) { settled = false }) ∷ [] else []) ++ ps) ≡ filter is_detached ps
    by true = refl
    by false = refl

past_saying : (m : Middle) (x : Transfer) (ps : List Part) → filter is_detached (saying m x ++ ps) ≡ filter is_detached ps
past_saying Between x ps = refl
past_saying Settled x ps = past_again x ps
past_saying Open x ps = by x.settled
  where
    by : (settled : Bool) → filter is_detached ((if settled then again x ++ Settles ∷ [] else again x) ++ ps) ≡ filter is_detached ps
    by true = ap (λ qs. filter is_detached qs) (append_assoc (again x) (Settles ∷ []) ps) ∙ past_again x (Settles ∷ ps)
    by false = past_again x ps

past_transfer : (m : Middle) (x : Transfer) (payload : List ℕ) (ps : List Part) → filter is_detached (transfer_parts m x payload ++ ps) ≡ filter is_detached ps
past_transfer m x payload ps =
    ap (λ qs. filter is_detached qs) (append_assoc (saying m x) (map Byte payload ++ ending x) ps)
    ∙ (past_saying m x ((map Byte payload ++ ending x) ++ ps)
    ∙ (ap (λ qs. filter is_detached qs) (append_assoc (map Byte payload) (ending x) ps)
    ∙ (past_bytes payload (ending x ++ ps) ∙ past_ending x ps)))

-- the detaches among the frames that are held are those among their parts
pub detaches_held : (m n : Middle) (fs : List Passing) → parts_of n (filter is_detach fs) ≡ filter is_detached (parts_of m fs)
detaches_held m n [] = refl
detaches_held m n (pass.Attach a ∷ fs) = detaches_held m n fs
detaches_held m n (pass.Flow f ∷ fs) = detaches_held m n fs
detaches_held m n (pass.Transfer x payload ∷ fs) =
    let k = after m (transfer_parts m x payload) in detaches_held k n fs ∙ sym (past_transfer m x payload (parts_of k fs))
detaches_held m n (pass.Disposition s d ∷ fs) = detaches_held m n fs
detaches_held m n (pass.Detach d ∷ fs) = ap (λ ps. Detached (record d { handle = 0 }) ∷ ps) (detaches_held m n fs)

detaches_keep : (m : Middle) (fs : List Passing) → after m (parts_of m (filter is_detach fs)) ≡ m
detaches_keep m [] = refl
detaches_keep m (pass.Attach a ∷ fs) = detaches_keep m fs
detaches_keep m (pass.Flow f ∷ fs) = detaches_keep m fs
detaches_keep m (pass.Transfer x payload ∷ fs) = detaches_keep m fs
detaches_keep m (pass.Disposition s d ∷ fs) = detaches_keep m fs
detaches_keep m (pass.Detach d ∷ fs) = detaches_keep m fs

only_detaches : (leg : Held) (came went : List Part) → Mirrors leg came went → Mirrors (dropped leg) (went ++ filter is_detached (parts_of leg.went leg.queue)) went
only_detaches leg came went is =
    let kept = detaches_held leg.went leg.went leg.queue in
    record {
      whole = ap (λ ps. went ++ ps) (sym kept);
      came_middle =
          sym (ap (λ ps. after Between (went ++ ps)) (sym kept)
          ∙ (after_both Between went (parts_of leg.went (filter is_detach leg.queue))
          ∙ (ap (λ m. after m (parts_of leg.went (filter is_detach leg.queue))) (sym is.went_middle) ∙ detaches_keep leg.went leg.queue)));
      went_middle = is.went_middle;
    }

pub only_detaches_as : (new leg : Held) → new ≡ dropped leg → (came went : List Part) → Mirrors leg came went → Mirrors new (went ++ filter is_detached (parts_of leg.went leg.queue)) went
only_detaches_as new leg same came went is =
    let P : Held → Type 0 = λ l. Mirrors l (went ++ filter is_detached (parts_of leg.went leg.queue)) went in subst P (sym same) (only_detaches leg came went is)
