use Rattle.std.proofs.Common.{◌≡◌, List, ℕ, ◌++◌, drop, length, refl}
use Rattle.com_text.specs.Name.{IsName, field_of, spaces}
use Rattle.com_text.proofs.Fields.{before_space-field_of, field_of-written}
use Rattle.com_text.proofs.name.Name.new.Goals as goal

-- what `new` makes of a name is its field
field_of-copied : (name copied : List ℕ) → IsName name → copied ≡ name → copied ++ drop (length name) (spaces 12) ≡ field_of name
field_of-copied name copied h e = rw e (field_of-written name h)

pub returns-clause-name : goal.returns-clause-name
returns-clause-name c =
    let h : IsName c.args.bytes.now = cc in
    let e = field_of-copied c.args.bytes.now c.copy_from_slice.new.self h cc in
    rw e (before_space-field_of _ h)

pub invariant_of-result : goal.invariant_of-result
invariant_of-result c =
    let h : IsName c.args.bytes.now = cc in
    let e = field_of-copied c.args.bytes.now c.copy_from_slice.new.self h cc in
    rw (e, before_space-field_of _ h) (h, refl)
