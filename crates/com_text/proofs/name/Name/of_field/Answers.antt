use Rattle.std.proofs.Common.{◌≡◌, ℕ, List, length, take, drop, ap, refl, sym, subst, ◌∙◌, arith, false}
use Rattle.std.specs.List.{list_any, prefix_len}
use Rattle.std.proofs.lemmas.Bool.{eqb-true, false≢true}
use Rattle.com_text.specs.declared.name.Field.TheVariants.{Named}
use Rattle.com_text.specs.Name.{IsName, field_of, is_character, before_space}
use Rattle.com_text.proofs.Fields.{after_name, field_of-before, before_space-field_of, length-name}
use Rattle.com_text.proofs.name.Name.of_field.Goals as goal

-- the beginning of a name's field, cut before the first space, is the name
front-name : (name field front : List ℕ) (n : ℕ) → IsName name → field ≡ field_of name → n ≡ prefix_len is_character field → front ≡ take n field → front ≡ name
front-name name field front n h e place cut =
    rw (cut, place) (ap before_space e ∙ before_space-field_of name h)

pub returns-then-has_character-clause-named : goal.returns-then-has_character-clause-named
returns-then-has_character-clause-named c name =
    (λ e. cc, λ h. let t = after_name name c.args.field.now h.0 h.1 in cc (c.split_at.ensures.back, c.length_before_space.ensures.length))

pub returns-then-is_empty-clause-spaces : goal.returns-then-is_empty-clause-spaces
returns-then-is_empty-clause-spaces c =
    let field = c.args.field.now in
    let n = c.length_before_space.result in
    let none : list_any is_character (drop n field) ≡ false = cc (c.split_at.ensures.back) in
    let at_start : n ≡ 0 = omega (arith, c.split_at.ensures.front_len, eqb-true (length c.split_at.result.0.now) 0 cc) in
    let whole = field_of-before field n c.told-field c.length_before_space.ensures.within none in
    (λ _. rw at_start at whole, λ _. refl)

pub returns-then-is_empty-clause-named : goal.returns-then-is_empty-clause-named
returns-then-is_empty-clause-named c name = (
  λ e. cc,
  λ h.
      let t = after_name name c.args.field.now h.0 h.1 in
      let some = length-name name h.0 in
      absurd (omega (arith, c.length_before_space.ensures.length, c.split_at.ensures.front_len, eqb-true (length c.split_at.result.0.now) 0 cc)),
)

pub returns-in-Some-clause-named : goal.returns-in-Some-clause-named
returns-in-Some-clause-named c name =
    let field = c.args.field.now in
    let n = c.length_before_space.result in
    let none : list_any is_character (drop n field) ≡ false = cc (c.split_at.ensures.back) in
    let whole = field_of-before field n c.told-field c.length_before_space.ensures.within none in (
      λ e.
          let same : c.in-Some.name ≡ name = cc in
          let front : c.split_at.result.0.now ≡ name = sym c.in-Some.ensures.name ∙ same in
          (subst IsName front (c.in-Some.ensures.some.0 refl), whole ∙ ap field_of (sym c.split_at.ensures.front ∙ front)),
      λ h. ap Named (c.in-Some.ensures.name ∙ front-name name field _ n h.0 h.1 c.length_before_space.ensures.length c.split_at.ensures.front),
    )

pub returns-in-None-clause-named : goal.returns-in-None-clause-named
returns-in-None-clause-named c name = (
  λ e. cc,
  λ h.
      let front = front-name name c.args.field.now _ _ h.0 h.1 c.length_before_space.ensures.length c.split_at.ensures.front in
      absurd (false≢true (c.in-None.ensures.some.1 (subst IsName (sym front) h.0))),
)
