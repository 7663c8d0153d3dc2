-- What the definitions compute for descriptions that are written out.
use Rattle.std.proofs.Common.{◌≡◌, Some, refl}
use Rattle.std.specs.Prelude.{codes}
use Rattle.com_tree.specs.declared.build.TreeFault.TheVariants as tree
use Rattle.com_net.specs.declared.fault.NetKind.TheVariants as kind
use Rattle.com_net.specs.Description.{net_of, net_fault_of}
use Rattle.com_net.proofs.DescriptionTexts.{one_of_each, one_of_each_net, trees, trees_net, route_to_nowhere, long_password, missing_source, empty_schedule, framing_alone, unknown_keys, bad_part, terminal_and_queue, five_levels, empty_sub, no_queues, no_terminals, no_table, two_units, two_terminals, two_queues, route_to_inner, schedule_to_nowhere, hidden_source, version_two, no_units, held_lines, held_lines_net, no_document, unknown_before_name, name_before_twice, twice_before_tree, tree_before_route, password_before_limit}
use Rattle.com_net.proofs.OnLiterals.{on_literals}

-- one terminal, one queue and one run unit
net_of-one_of_each : net_of one_of_each ≡ Some one_of_each_net
unfolding on_literals
net_of-one_of_each = refl

-- trees, a unit that a node starts, and a terminal that nothing is typed at
net_of-trees : net_of trees ≡ Some trees_net
unfolding on_literals
net_of-trees = refl

-- a route to a queue that is not there
net_fault_of-route_to_nowhere : net_fault_of route_to_nowhere ≡ Some (kind.BadRoute, codes "terminal.1.route")
unfolding on_literals
net_fault_of-route_to_nowhere = refl

-- a password of eleven characters
net_fault_of-long_password : net_fault_of long_password ≡ Some (kind.BadPassword, codes "queue.1.password")
unfolding on_literals
net_fault_of-long_password = refl

-- a missing key comes before a value of a wrong kind
net_fault_of-missing_source : net_fault_of missing_source ≡ Some (kind.MissingKey, codes "unit.1.source")
unfolding on_literals
net_fault_of-missing_source = refl

-- a wrong kind comes before an unknown key
net_fault_of-empty_schedule : net_fault_of empty_schedule ≡ Some (kind.WrongKind, codes "unit.1.schedule")
unfolding on_literals
net_fault_of-empty_schedule = refl

-- a key that is not allowed here is unknown, whatever its value is
net_fault_of-framing_alone : net_fault_of framing_alone ≡ Some (kind.UnknownKey, codes "terminal.1.framing")
unfolding on_literals
net_fault_of-framing_alone = refl

-- of two unknown keys the lesser, with question marks for bytes that are no text
net_fault_of-unknown_keys : net_fault_of unknown_keys ≡ Some (kind.UnknownKey, codes "unit.1.caf??")
unfolding on_literals
net_fault_of-unknown_keys = refl

-- a part of a route that is no name
net_fault_of-bad_part : net_fault_of bad_part ≡ Some (kind.BadName, codes "terminal.1.route.2")
unfolding on_literals
net_fault_of-bad_part = refl

-- a terminal and a top queue with one name
net_fault_of-terminal_and_queue : net_fault_of terminal_and_queue ≡ Some (kind.TwiceNamed, codes "queue.2.name")
unfolding on_literals
net_fault_of-terminal_and_queue = refl

-- below the fourth level nothing is looked at
net_fault_of-five_levels : net_fault_of five_levels ≡ Some (kind.BadTree tree.TooDeep, codes "queue.1.sub.1.sub.1.sub.1.sub.1")
unfolding on_literals
net_fault_of-five_levels = refl

-- an inner queue without queues below it
net_fault_of-empty_sub : net_fault_of empty_sub ≡ Some (kind.BadTree tree.Empty, codes "queue.1.sub")
unfolding on_literals
net_fault_of-empty_sub = refl

-- no queues come before no terminals
net_fault_of-no_queues : net_fault_of no_queues ≡ Some (kind.BadTree tree.Empty, codes "queue")
unfolding on_literals
net_fault_of-no_queues = refl

-- no terminals
net_fault_of-no_terminals : net_fault_of no_terminals ≡ Some (kind.OverLimit, codes "terminal")
unfolding on_literals
net_fault_of-no_terminals = refl

-- the tables beside an element that is no table are not looked at
net_fault_of-no_table : net_fault_of no_table ≡ Some (kind.WrongKind, codes "unit")
unfolding on_literals
net_fault_of-no_table = refl

-- two units of one name, after one that has the name of a terminal
net_fault_of-two_units : net_fault_of two_units ≡ Some (kind.TwiceNamed, codes "unit.3.name")
unfolding on_literals
net_fault_of-two_units = refl

-- two terminals of one name
net_fault_of-two_terminals : net_fault_of two_terminals ≡ Some (kind.TwiceNamed, codes "terminal.2.name")
unfolding on_literals
net_fault_of-two_terminals = refl

-- two top queues of one name
net_fault_of-two_queues : net_fault_of two_queues ≡ Some (kind.BadTree tree.TwiceNamed, codes "queue.2")
unfolding on_literals
net_fault_of-two_queues = refl

-- a route to a queue that has another below it
net_fault_of-route_to_inner : net_fault_of route_to_inner ≡ Some (kind.BadRoute, codes "terminal.1.route")
unfolding on_literals
net_fault_of-route_to_inner = refl

-- a schedule that leads to no node comes before a password
net_fault_of-schedule_to_nowhere : net_fault_of schedule_to_nowhere ≡ Some (kind.BadRoute, codes "unit.1.schedule")
unfolding on_literals
net_fault_of-schedule_to_nowhere = refl

-- a file name that begins with a period
net_fault_of-hidden_source : net_fault_of hidden_source ≡ Some (kind.BadName, codes "unit.1.source")
unfolding on_literals
net_fault_of-hidden_source = refl

-- another version
net_fault_of-version_two : net_fault_of version_two ≡ Some (kind.WrongKind, codes "version")
unfolding on_literals
net_fault_of-version_two = refl

-- no units
net_fault_of-no_units : net_fault_of no_units ≡ Some (kind.OverLimit, codes "unit")
unfolding on_literals
net_fault_of-no_units = refl

-- lines that are not taken in at the beginning
net_of-held_lines : net_of held_lines ≡ Some held_lines_net
unfolding on_literals
net_of-held_lines = refl

-- no document
net_fault_of-no_document : net_fault_of no_document ≡ Some (kind.NotToml, codes "file")
unfolding on_literals
net_fault_of-no_document = refl

-- an unknown key comes before a bad name
net_fault_of-unknown_before_name : net_fault_of unknown_before_name ≡ Some (kind.UnknownKey, codes "unit.1.zz")
unfolding on_literals
net_fault_of-unknown_before_name = refl

-- a bad name comes before a name that stands twice
net_fault_of-name_before_twice : net_fault_of name_before_twice ≡ Some (kind.BadName, codes "unit.1.source")
unfolding on_literals
net_fault_of-name_before_twice = refl

-- a name that stands twice comes before a fault of the trees
net_fault_of-twice_before_tree : net_fault_of twice_before_tree ≡ Some (kind.TwiceNamed, codes "terminal.2.name")
unfolding on_literals
net_fault_of-twice_before_tree = refl

-- a fault of the trees comes before a route
net_fault_of-tree_before_route : net_fault_of tree_before_route ≡ Some (kind.BadTree tree.Empty, codes "queue.1.sub")
unfolding on_literals
net_fault_of-tree_before_route = refl

-- a bad password comes before too few units
net_fault_of-password_before_limit : net_fault_of password_before_limit ≡ Some (kind.BadPassword, codes "terminal.1.password")
unfolding on_literals
net_fault_of-password_before_limit = refl
