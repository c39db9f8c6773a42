use Rattle.std.proofs.Common.{◌≡◌, ◌++◌, inl, refl, sym, rules, append-nil, List, []}
use Rattle.std.specs.Prelude.{◌≢◌}
use Rattle.std.proofs.lemmas.Result.{on_err_weaker, on_ok_weaker}
use Rattle.disk_core.specs.Twin.{Contents}
use Rattle.journal_store.specs.Store.{OpensTo, Stands, twin_of}
use Rattle.router_trace.specs.Trace.{Entry}
use Rattle.reply_rows.specs.Acts.{book_in}
use Rattle.router_core.specs.Handling.{Fits, id_of, store_of}
use Rattle.core_runs.specs.declared.driving.Sent.{Sent as ASent}
use Rattle.core_runs.specs.Runs.{Broken, MaySteps}
use Rattle.core_runs.proofs.Remains.{opens_after}
use Rattle.core_runs.proofs.driving.step.Goals as goal

pub returns-in_err-handle_group-clause-broken : goal.returns-in_err-handle_group-clause-broken
returns-in_err-handle_group-clause-broken g c =
    let broken : (t : List Entry) → Fits c.args.core.now t
    → (ys : List ASent) × Broken (id_of c.args.core.now) c.args.place t c.args.group.items ys × (c.args.taken.now.items ≡ c.args.taken.now.items ++ ys)
    = λ t f. ([], inl refl, sym (append-nil c.args.taken.now.items)) in
    search (broken, rules)

pub returns-clause-fits : goal.returns-clause-fits
returns-clause-fits g c =
    on_ok_weaker c.empty.result
    (λ fits t f.
    let heard = c.in_ok-handle_group.ensures.fits t f in
    let all = fits heard.0 heard.2 in
    (all.0, all.1, record { behind = heard.0; events = heard.1; emptied = all.2 }, all.3, all.4))
    c.empty.ensures.fits

pub returns-in_err-handle_group-clause-answered : goal.returns-in_err-handle_group-clause-answered
returns-in_err-handle_group-clause-answered g c =
    let answered : c.args.taken.now.items ≢ c.args.taken.now.items → (t : List Entry) → Fits c.args.core.now t → Stands g.T.Twin.seen g.T.Twin.may_leave (store_of c.args.core.now)
    → (contents : Contents) → g.T.Twin.may_leave (twin_of (store_of c.handle_group.new.core)) contents
    → (u : List Entry) × MaySteps (id_of c.args.core.now) t c.args.group.items u × OpensTo contents (book_in u)
    = λ some. absurd (some refl) in
    search (answered, rules)

pub returns-clause-answered : goal.returns-clause-answered
returns-clause-answered g c =
    on_err_weaker c.empty.result
    (λ broken some t f s contents left.
    let heard = c.in_ok-handle_group.ensures.fits t f in (
      heard.0,
      heard.1,
      opens_after g.T.Twin.seen g.T.Twin.may_leave g.T.Twin.moment g.T.Twin.left_since c.handle_group.new.core c.empty.new.core heard.0 heard.2
          (c.in_ok-handle_group.ensures.stands s) c.empty.ensures.store contents left,
    ))
    c.empty.ensures.broken
