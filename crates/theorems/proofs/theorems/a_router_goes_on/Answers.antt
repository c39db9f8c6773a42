use Rattle.std.proofs.Common.{refl}
use Rattle.journal_store.proofs.Opened.{opens_to_one}
use Rattle.reply_rows.specs.Acts.{book_in}
use Rattle.router_core.specs.Handling.{kept_book}
use Rattle.router_core.specs.Machine.{opening_of}
use Rattle.router_trace.specs.Configuration.{opened}
use Rattle.theorems.proofs.theorems.a_router_goes_on.Goals as goal

pub returns-in-Ok : goal.returns-in-Ok
returns-in-Ok g c = λ lives u all opens.
    let book = opens_to_one (g.T.Twin.seen c.args.twin) (kept_book c.in-Ok.core) (book_in u) c.in-Ok.ensures.book opens in
    let now = opened (opening_of c.args.config.now c.in-Ok.core) u in
    ((refl, (u, now, all, book, refl, refl)), c.in-Ok.ensures.fits u, c.in-Ok.ensures.stands)
