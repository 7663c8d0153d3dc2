use Rattle.std.proofs.Common.{sym, rules}
use Rattle.std.proofs.lemmas.Result.{err_from_is_err_and}
use Rattle.com_io.proofs.NamedLemmas.{get-named, named-appends, named-stays}
use Rattle.com_io.proofs.named.Named.append.Goals as goal

pub returns-in_err-extend_from_slice-clause-err : goal.returns-in_err-extend_from_slice-clause-err
returns-in_err-extend_from_slice-clause-err g c =
    let list = c.extend_from_slice.new.self in
    let writes = (c.get_mut.follows.holds list).3 (search rules) in
    let failed = err_from_is_err_and c.from_residual.result c.from_residual.ensures.1 in
    rw (failed.1, ← c.self.view_is)
    (named-stays c.self.inside.lists (c.get_mut.follows.lender list) c.args.name.now list writes c.in-Some.list.now (sym c.in-Some.ensures.value) c.in_err-extend_from_slice.ensures.items)

pub returns-in-Some-clause-ok : goal.returns-in-Some-clause-ok
returns-in-Some-clause-ok g c =
    let list = c.extend_from_slice.new.self in
    let writes = (c.get_mut.follows.holds list).3 (search rules) in
    rw (← c.self.view_is)
    (named-appends c.self.inside.lists (c.get_mut.follows.lender list) c.args.name.now list writes c.in-Some.list.now (sym c.in-Some.ensures.value) c.args.more.now c.in_ok-extend_from_slice.ensures.items)

-- a name that has no list
pub returns-clause-ok : goal.returns-clause-ok
returns-clause-ok g c =
    rw (← c.self.view_is, get-named, ← c.in_default.ensures.value) (rw c.get_mut.follows.holds-at-none at c.insert.ensures.ok)
