use Rattle.std.proofs.Common.{◌≡◌, ◌++◌, drop, map}
use Rattle.cob_code.proofs.names.names_of.Given as goal

abbrev pub invariant-entries : goal.invariant-entries
invariant-entries l = map (λ name. name.now) l.names.items ++ map (λ entry. entry.name.now) (drop l.entry-index l.entries) ≡ map (λ entry. entry.name.now) l.entries
