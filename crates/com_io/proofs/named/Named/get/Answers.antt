use Rattle.com_io.proofs.NamedLemmas.{get-named}
use Rattle.com_io.proofs.named.Named.get.Goals as goal

pub returns-in_err-get : goal.returns-in_err-get
returns-in_err-get g c = rw (c.from_residual.ensures, ← c.self.view_is, get-named, ← c.in_err-get.ensures.value)

pub returns : goal.returns
returns g c = rw (← c.self.view_is, get-named, ← c.in_ok-get.ensures.value, c.as_slice.ensures.value)
