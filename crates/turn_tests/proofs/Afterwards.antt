-- A pass after so many turns.
use Rattle.std.proofs.Common.{ℕ, ◌+◌, sym, ◌∙◌, add_assoc, add-zero}
use Rattle.com_turn.specs.Passes.{PassState}
use Rattle.turn_tests.specs.Diaries.{IsAfter}

module _ {I B : Type 0} where
  pub after_none : (a : PassState I B) → IsAfter 0 a a
  after_none a = λ k. record a { turns = sym (add-zero a.turns) k }

  pub after_more : (n : ℕ) (a b c : PassState I B) → IsAfter n a b → IsAfter 1 b c → IsAfter (n + 1) a c
  after_more n a b c e f =
      f ∙ ((λ k. record (e k) { seen = c.seen; toggles = c.toggles; turns = (e k).turns + 1; found = c.found }) ∙ (λ k. record a { seen = c.seen; toggles = c.toggles; turns = add_assoc a.turns n 1 k; found = c.found }))
