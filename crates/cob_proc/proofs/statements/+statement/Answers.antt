use Rattle.std.proofs.Common.{◌≡◌, ◌++◌, ◌∷◌, [], sym, ◌∙◌, arith}
use Rattle.std.proofs.lemmas.Result.{err_from_is_err_and}
use Rattle.std.proofs.lemmas.List.{map_push}
use Rattle.cob_forms.proofs.Lists.{ends, fails, goes_on}
use Rattle.cob_proc.specs.Forms as forms
use Rattle.cob_proc.specs.Spelled.{begins_form}
use Rattle.cob_proc.specs.Trees.{tree_of, trees_of}
use Rattle.cob_proc.specs.DivisionReaders.{read_statement, read_statements}
use Rattle.cob_proc.proofs.statements.+statement.Goals as goal

pub take_statements-returns-in_err-item-clause-gives : goal.take_statements-returns-in_err-item-clause-gives
take_statements-returns-in_err-item-clause-gives t c =
    let p = err_from_is_err_and c.from_residual-in_err-item.result c.from_residual-in_err-item.ensures.1 in
    rw (p.1, p.2) (fails (begins_form forms.statement) (read_statement c.args.depth) c.in_err-item.field-0.0 (trees_of c.turns.list.items) c.turns.rest.now (read_statements c.args.depth c.args.tokens.now) (sym c.next_is_statement.ensures ∙ c.turns-test.true) c.turns.invariant.read c.in_err-item.ensures.gives)

pub take_statements-turns-preserved : goal.take_statements-turns-preserved
take_statements-turns-preserved t c = record {
  read =
      let e : trees_of c.push-in-turns.new.self.items ≡ trees_of c.turns.list.items ++ tree_of c.in_ok-item.item ∷ [] = rw c.in_ok-push-2.ensures.items (map_push _ c.turns.list.items c.in_ok-item.item) in
      rw e (goes_on (begins_form forms.statement) (read_statement c.args.depth) (trees_of c.turns.list.items) (tree_of c.in_ok-item.item) c.turns.rest.now c.in_ok-item.after.now (read_statements c.args.depth c.args.tokens.now) (sym c.next_is_statement.ensures ∙ c.turns-test.true) c.in_ok-item.ensures.gives c.in_ok-item.ensures.fewer c.turns.invariant.read);
  fewer = omega (arith, c.in_ok-item.ensures.fewer);
}

pub take_statements-returns-clause-gives : goal.take_statements-returns-clause-gives
take_statements-returns-clause-gives t c = ends (begins_form forms.statement) (read_statement c.args.depth) (trees_of c.turns.list.items) c.turns.rest.now (read_statements c.args.depth c.args.tokens.now) (sym c.next_is_statement.ensures ∙ c.turns-test.false) c.turns.invariant.read
