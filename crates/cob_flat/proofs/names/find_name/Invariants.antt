use Rattle.std.proofs.Common.{◌≡◌, drop}
use Rattle.cob_flat.specs.inner.Referents.{listed, named_in}
use Rattle.cob_flat.proofs.names.find_name.Given as goal

abbrev pub invariant-entries : goal.invariant-entries
invariant-entries l =
    named_in (listed (drop l.entry-index l.entries)) l.name ≡ named_in (listed l.entries) l.name
