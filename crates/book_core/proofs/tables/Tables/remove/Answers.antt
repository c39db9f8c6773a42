use Rattle.std.proofs.Common.{refl}
use Rattle.book_core.proofs.Looked.{terminus_missing}
use Rattle.book_core.proofs.Steps.{terminus_stays, terminus_gone, terminus_leaves}
use Rattle.book_core.proofs.tables.Tables.remove.Goals as goal

pub returns-in-None-clause-shows : goal.returns-in-None-clause-shows
returns-in-None-clause-shows c b s =
    let missing = rw c.deref.ensures.value at c.in-None.ensures.missing in
    terminus_stays c.args.self.now b c.args.number.0 s (terminus_missing _ _ (missing s.termini_rise))

pub returns-in-None-terminus-clause-shows : goal.returns-in-None-terminus-clause-shows
returns-in-None-terminus-clause-shows c b s =
    let found = rw c.deref.ensures.value at c.in-Some.ensures.found in
    terminus_stays c.args.self.now b c.args.number.0 s (terminus_gone _ _ _ _ s.termini_rise found c.index.ensures c.in-None-terminus.is)

pub returns-in_ok-replace-in-Some-terminus-clause-shows : goal.returns-in_ok-replace-in-Some-terminus-clause-shows
returns-in_ok-replace-in-Some-terminus-clause-shows c b s =
    let found = rw c.deref.ensures.value at c.in-Some.ensures.found in
    terminus_leaves c.args.self.now c.set_key.new.keys c.replace.new.self c.saturating_sub-self.result b c.args.number.0 c.in-Some.at _ _ _ s found c.index.ensures c.in-Some-terminus.is refl refl c.in_ok-replace-in-Some-terminus.ensures.ok c.saturating_sub-self.ensures c.in_ok-set_key-in-Some-terminus.ensures.set
