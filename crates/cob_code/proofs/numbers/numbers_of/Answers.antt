use Rattle.std.proofs.Common.{◌≡◌, ℕ, List, map, take, length, sym, subst, ◌∙◌, arith}
use Rattle.std.proofs.lemmas.List.{length-map, length-take-le}
use Rattle.cob_code.specs.inner.Numbers.{AreNumbered}
use Rattle.cob_code.proofs.Numbering.{one_more}
use Rattle.cob_code.proofs.numbers.numbers_of.Goals as goal

pub names-preserved : goal.names-preserved
names-preserved c = record {
  within = omega arith;
  numbered =
      let names = c.args.names.now in
      let size : length (map (λ name. name.now) (take c.names.at names)) ≡ c.names.at = length-map (take c.names.at names) _ ∙ length-take-le c.names.at names c.names.invariant.within in
      let P : List (List ℕ) → Type 0 = λ l. AreNumbered c.add_number.new.numbers l in
      subst P (sym (one_more names c.names.at _ c.names-test.true)) (c.in_ok-add_number.ensures (map (λ name. name.now) (take c.names.at names)) size c.names.invariant.numbered);
}
