-- What holds of every description: its length, and that it gives a network or has a fault.
use Rattle.std.proofs.Common.{◌≡◌, ℕ, ◌<◌, ◌^◌, Bool, true, false, List, [], ◌∷◌, length, Option, Some, None, is_some, refl, ap, arith, inl, inr}
use Rattle.std.specs.Prelude.{codes, is_none, IfSome, option_map, if◌then◌else◌}
use Rattle.std.specs.Option.{option_or}
use Rattle.std.proofs.lemmas.Bool.{cases_Bool}
use Rattle.std.proofs.lemmas.Bool.Decides.{nat_tests}
use Rattle.std.proofs.lemmas.Option.{none-some, same_Some}
use Rattle.toml.specs.Data.{Members}
use Rattle.com_tree.specs.declared.build.TreeFault.{TreeFault}
use Rattle.com_net.specs.declared.fault.NetKind.{NetKind}
use Rattle.com_net.specs.declared.fault.NetKind.TheVariants as kind
use Rattle.com_net.specs.declared.keys.Key.TheVariants as key
use Rattle.com_net.specs.Network.{IsNet}
use Rattle.com_net.specs.Values.{tables_at}
use Rattle.com_net.specs.Places.{places}
use Rattle.com_net.specs.NameFaults.{is_over, over_limit}
use Rattle.com_net.specs.TreeFaults.{bad_tree}
use Rattle.com_net.specs.Description.{told, document_fault, parts_of, document_of, is_too_long, net_of, net_fault_of}
use Rattle.com_net.proofs.FaultlessNets.{parts_are_net}

-- a fault of another kind is not this one, so this one is after it
behind : (other : NetKind) (path : Option (List ℕ)) (rest : Option (NetKind × List ℕ)) (place : List ℕ) → (other ≡ kind.OverLimit → ⊥) → option_or (told other path) rest ≡ Some (kind.OverLimit, place) → rest ≡ Some (kind.OverLimit, place)
behind other None rest place apart is = is
behind other (Some x) rest place apart is =
    let pair : (other, x) ≡ (kind.OverLimit, place) = same_Some _ _ is in
    absurd (apart (ap (λ (p : NetKind × List ℕ). p.0) pair))

behind_tree : (found : Option (TreeFault × List ℕ)) (rest : Option (NetKind × List ℕ)) (place : List ℕ)
    → option_or (option_map {T = TreeFault × List ℕ} {U = NetKind × List ℕ} (λ fault. (kind.BadTree fault.0, fault.1)) found) rest ≡ Some (kind.OverLimit, place) → rest ≡ Some (kind.OverLimit, place)
behind_tree None rest place is = is
behind_tree (Some fault) rest place is =
    let pair : (kind.BadTree fault.0, fault.1) ≡ (kind.OverLimit, place) = same_Some _ _ is in
    let same : kind.BadTree fault.0 ≡ kind.OverLimit = ap (λ (p : NetKind × List ℕ). p.0) pair in
    absurd (cc same)

abbrev head_of : List ℕ → ℕ
head_of [] = 0
head_of (x ∷ xs) = x

-- the fault of what bytes write
abbrev fault_in : Option Members → Option (NetKind × List ℕ)
fault_in found = elim found [ None ↦ Some (kind.NotToml, codes "file") | Some document ↦ document_fault document ]

-- numbers beyond the limits are told at their own key
not_the_file : (document : Members) → told kind.OverLimit (over_limit document) ≡ Some (kind.OverLimit, codes "file") → ⊥
not_the_file document is = by_number (is_over 32 (length (tables_at key.Terminals document))) (is_over 16 (length (tables_at key.Units document))) is
  where
    other : (path : List ℕ) → (length path ≡ 4 → ⊥) → ◌≡◌ {A = Option (NetKind × List ℕ)} (Some (kind.OverLimit, path)) (Some (kind.OverLimit, codes "file")) → ⊥
    other path apart same =
        let pair : (kind.OverLimit, path) ≡ (kind.OverLimit, codes "file") = same_Some _ _ same in
        apart (ap (λ (p : NetKind × List ℕ). length p.1) pair)

    by_number : (a b : Bool) → told kind.OverLimit (if a then Some (codes "terminal") else if b then Some (codes "unit") else None) ≡ Some (kind.OverLimit, codes "file") → ⊥
    by_number true b is = other (codes "terminal") (λ e. omega (arith, e)) is
    by_number false true is = other_unit is
      where
        other_unit : ◌≡◌ {A = Option (NetKind × List ℕ)} (Some (kind.OverLimit, codes "unit")) (Some (kind.OverLimit, codes "file")) → ⊥
        other_unit same =
            let pair : (kind.OverLimit, codes "unit") ≡ (kind.OverLimit, codes "file") = same_Some _ _ same in
            let path : codes "unit" ≡ codes "file" = ap (λ (p : NetKind × List ℕ). p.1) pair in
            let first : 117 ≡ 102 = ap head_of path in
            absurd (omega (arith, first))
    by_number false false is = absurd (none-some _ is)

never_the_file : (document : Members) → document_fault document ≡ Some (kind.OverLimit, codes "file") → ⊥
never_the_file document is =
    not_the_file document
    (behind kind.BadPassword _ _ _ (λ e. cc e)
    (behind kind.BadRoute _ _ _ (λ e. cc e)
    (behind_tree (bad_tree (places document)) _ _
    (behind kind.TwiceNamed _ _ _ (λ e. cc e)
    (behind kind.BadName _ _ _ (λ e. cc e)
    (behind kind.UnknownKey _ _ _ (λ e. cc e)
    (behind kind.WrongKind _ _ _ (λ e. cc e)
    (behind kind.MissingKey _ _ _ (λ e. cc e) is))))))))

-- what is too long is refused for that
pub too_long : (bytes : List ℕ) → 2 ^ 20 < length bytes → net_fault_of bytes ≡ Some (kind.OverLimit, codes "file")
too_long bytes long =
    let over : is_too_long bytes ≡ true = grind (arith, nat_tests, long) in
    rw over refl

-- and what is refused for that is too long
pub not_short : (bytes : List ℕ) → net_fault_of bytes ≡ Some (kind.OverLimit, codes "file") → 2 ^ 20 < length bytes
not_short bytes is = elim (cases_Bool (is_too_long bytes)) [
  | inl over ↦ grind (arith, nat_tests, over)
  | inr short ↦ absurd (by_document (document_of bytes) (rw short at is))
]
  where
    by_document : (found : Option Members) → fault_in found ≡ Some (kind.OverLimit, codes "file") → ⊥
    by_document None is =
        let pair : (kind.NotToml, codes "file") ≡ (kind.OverLimit, codes "file") = same_Some _ _ is in
        let same : kind.NotToml ≡ kind.OverLimit = ap (λ (p : NetKind × List ℕ). p.0) pair in
        absurd (cc same)
    by_document (Some document) is = never_the_file document is

-- a network or a fault, and never both
pub one_of_both : (bytes : List ℕ) → is_some (net_of bytes) ≡ is_none (net_fault_of bytes)
one_of_both bytes = elim (cases_Bool (is_too_long bytes)) [
  | inl over ↦ rw over refl
  | inr short ↦ rw short (by_document (document_of bytes))
]
  where
    by_document : (found : Option Members) → is_some (if is_none (fault_in found) then option_map parts_of found else None)
        ≡ is_none (fault_in found)
    by_document None = refl
    by_document (Some document) = by_fault (document_fault document)
      where
        by_fault : (fault : Option (NetKind × List ℕ)) → is_some (if is_none fault then Some (parts_of document) else None) ≡ is_none fault
        by_fault None = refl
        by_fault (Some fault) = refl

pub net_is_net : (bytes : List ℕ) → IfSome (net_of bytes) IsNet
net_is_net bytes = elim (cases_Bool (is_too_long bytes)) [
  | inl over ↦ rw over tt
  | inr short ↦ rw short (by_document (document_of bytes))
]
  where
    by_document : (found : Option Members) → IfSome (if is_none (fault_in found) then option_map parts_of found else None) IsNet
    by_document None = tt
    by_document (Some document) = by_fault (document_fault document) refl
      where
        by_fault : (fault : Option (NetKind × List ℕ)) → document_fault document ≡ fault → IfSome (if is_none fault then Some (parts_of document) else None) IsNet
        by_fault None none = parts_are_net document none
        by_fault (Some fault) some = tt
