use Rattle.com_net.proofs.NumberedNames.{number_of_unit, number_of_terminal}
use Rattle.com_net.proofs.numbers.a_name_has_its_place.Goals as goal

pub returns-clause-units : goal.returns-clause-units
returns-clause-units c = number_of_unit

pub returns-clause-terminals : goal.returns-clause-terminals
returns-clause-terminals c = number_of_terminal
