use Rattle.std.proofs.Common.{◌≡◌, inl, subst, sym, rules}
use Rattle.journal_store.specs.Store.{StandsBehind}
use Rattle.core_machine.specs.declared.fault.CoreFault.TheVariants.{NoConnection}
use Rattle.router_core.specs.declared.router.Core.{Core}
use Rattle.router_core.specs.Handling.{store_of}
use Rattle.core_runs.proofs.driving.hold.Goals as goal

pub returns-in-Err-NoConnection-clause-behind : goal.returns-in-Err-NoConnection-clause-behind
returns-in-Err-NoConnection-clause-behind g c = λ kept behind.
    let is : c.in-Err-NoConnection.field-0 ≡ NoConnection = search rules in
    let same = c.in-Err-NoConnection.ensures.refused is in
    inl (subst (λ (core : Core _). StandsBehind g.T.Twin.seen g.T.Twin.may_leave (store_of core) kept) (sym same.0) behind)
