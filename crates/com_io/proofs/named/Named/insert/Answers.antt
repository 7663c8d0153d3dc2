use Rattle.com_io.proofs.NamedLemmas.{named-inserts}
use Rattle.com_io.proofs.named.Named.insert.Goals as goal

-- the key has the name's bytes
pub returns-clause-ok : goal.returns-clause-ok
returns-clause-ok g c =
    rw (← c.self.view_is, ← c.in_ok-key.ensures.ok)
    (named-inserts c.self.inside.lists c.insert.new.self _ c.in_ok-value.value c.in_ok-insert.ensures.updates c.args.list.now c.in_ok-value.ensures.items)
