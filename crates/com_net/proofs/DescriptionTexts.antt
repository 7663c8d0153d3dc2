-- Descriptions that are written out, and networks that some of them give.
use Rattle.std.specs.Prelude.{ℕ, true, false, List, [], ◌∷◌, ◌++◌, Some, None, codes}
use Rattle.com_msg.specs.declared.framing.Framing.TheVariants as framing
use Rattle.com_tree.specs.declared.tree.TreeRow.{TreeRow}
use Rattle.com_tree.specs.declared.tree.Choose.{Choose}
use Rattle.com_tree.specs.declared.tree.Choose.TheVariants as choose
use Rattle.com_net.specs.declared.net.Terminal.{Terminal}
use Rattle.com_net.specs.Parts.{Parts}

abbrev pub version : List ℕ
version = codes "version = 1\n"

-- a terminal that is typed at, with its route
abbrev pub terminal_to : List ℕ → List ℕ
terminal_to route =
    codes "[[terminal]]\nname = \"T1\"\npassword = \"TPASS\"\ninput = \"t1.in\"\nframing = \"marks\"\n"
    ++ codes "route = " ++ route ++ codes "\n"

-- a terminal that nothing is typed at
abbrev pub printer : List ℕ
printer = codes "[[terminal]]\nname = \"P-1\"\npassword = \"P\"\noutput-enabled = false\n"

-- a queue with its name and its password
abbrev pub queue_with : List ℕ → List ℕ → List ℕ
queue_with name password =
    codes "[[queue]]\nname = \"" ++ name ++ codes "\"\npassword = \"" ++ password ++ codes "\"\n"

abbrev pub q1 : List ℕ
q1 = queue_with (codes "Q1") (codes "QPASS")

abbrev pub echo : List ℕ
echo = codes "[[unit]]\nname = \"ECHO\"\nsource = \"echo.cob\"\n"

-- one terminal, one queue and one run unit
abbrev pub one_of_each : List ℕ
one_of_each = version ++ terminal_to (codes "[\"Q1\"]") ++ q1 ++ echo

abbrev pub t1_to_the_first_leaf : Terminal
t1_to_the_first_leaf = record {
  name = codes "T1";
  password = codes "TPASS";
  feed = Some (record { file = codes "t1.in"; framing = framing.Marks; leaf = record { number = 0 } });
  input_on = true;
  output_on = true;
}

abbrev pub node : ℕ → List ℕ → TreeRow
node depth name = record { depth = depth; name = name; choose = None }

abbrev pub inner : ℕ → List ℕ → Choose → TreeRow
inner depth name way = record { depth = depth; name = name; choose = Some way }

abbrev pub one_of_each_net : Parts
one_of_each_net = record {
  terminals = t1_to_the_first_leaf ∷ [];
  tree = node 1 (codes "Q1") ∷ [];
  queue_passwords = codes "QPASS" ∷ [];
  leaf_on = true ∷ [];
  units = record { name = codes "ECHO"; source = codes "echo.cob"; schedule = None } ∷ [];
}

-- two trees, of which the first has three levels, and a unit that a node starts
abbrev pub trees : List ℕ
trees =
    version ++ printer
    ++ (q1 ++ codes "choose = \"oldest\"\n[[queue.sub]]\nname = \"A\"\nenabled = false\n")
    ++ codes "[[queue.sub]]\nname = \"B\"\nchoose = \"ordered\"\nsub = [{name = \"A\"}, {name = \"C\"}]\n"
    ++ queue_with (codes "A") (codes "X") ++ echo ++ codes "schedule = [\"Q1\", \"B\"]\n"

abbrev pub trees_net : Parts
trees_net = record {
  terminals = record {
    name = codes "P-1";
    password = codes "P";
    feed = None;
    input_on = true;
    output_on = false;
  } ∷ [];
  tree = inner 1 (codes "Q1") choose.Oldest ∷ node 2 (codes "A")
      ∷ inner 2 (codes "B") choose.Ordered ∷ node 3 (codes "A") ∷ node 3 (codes "C")
      ∷ node 1 (codes "A") ∷ [];
  queue_passwords = codes "QPASS" ∷ codes "X" ∷ [];
  leaf_on = false ∷ true ∷ true ∷ true ∷ [];
  units = record {
    name = codes "ECHO";
    source = codes "echo.cob";
    schedule = Some (record { row = 2 });
  } ∷ [];
}

-- a route to a queue that is not there
abbrev pub route_to_nowhere : List ℕ
route_to_nowhere = version ++ terminal_to (codes "[\"Q2\"]") ++ q1 ++ echo

-- eleven characters, after a route that is no fault
abbrev pub long_password : List ℕ
long_password =
    version ++ terminal_to (codes "[\"Q1\"]") ++ queue_with (codes "Q1") (codes "01234567890") ++ echo

-- a unit without a source, after a terminal with a wrong kind
abbrev pub missing_source : List ℕ
missing_source =
    version ++ printer ++ codes "input-enabled = 1\n" ++ q1 ++ codes "[[unit]]\nname = \"ECHO\"\n"

-- an empty schedule, after a terminal with an unknown key
abbrev pub empty_schedule : List ℕ
empty_schedule = version ++ printer ++ codes "baud = 110\n" ++ q1 ++ echo ++ codes "schedule = []\n"

-- framing without input, which is not looked at for its kind
abbrev pub framing_alone : List ℕ
framing_alone = version ++ printer ++ codes "framing = 1\n" ++ q1 ++ echo

-- two unknown keys, of which the lesser is told
abbrev pub unknown_keys : List ℕ
unknown_keys = version ++ printer ++ q1 ++ echo ++ codes "zone = 1\n\"caf\\u00e9\" = 1\n"

-- a part of a route that is no name
abbrev pub bad_part : List ℕ
bad_part = version ++ terminal_to (codes "[\"Q1\", \"q2\"]") ++ q1 ++ echo

-- a terminal and a top queue with one name
abbrev pub terminal_and_queue : List ℕ
terminal_and_queue = version ++ printer ++ q1 ++ queue_with (codes "P-1") (codes "X") ++ echo

-- five levels: the fifth is not looked at, and has a key that no queue has
abbrev pub five_levels : List ℕ
five_levels =
    version ++ printer ++ q1
    ++ codes "choose = \"ordered\"\nsub = [{name = \"A\", choose = \"ordered\", "
    ++ codes "sub = [{name = \"B\", choose = \"ordered\", sub = [{name = \"C\", choose = \"ordered\", "
    ++ codes "sub = [{colour = 1}]}]}]}]\n" ++ echo

-- an inner queue without queues below it
abbrev pub empty_sub : List ℕ
empty_sub = version ++ printer ++ q1 ++ codes "choose = \"ordered\"\nsub = []\n" ++ echo

-- no queues, and no terminals
abbrev pub no_queues : List ℕ
no_queues = version ++ codes "queue = []\nterminal = []\n" ++ echo

-- no terminals, but a queue
abbrev pub no_terminals : List ℕ
no_terminals = version ++ codes "terminal = []\n" ++ q1 ++ echo

-- an array with an element that is no table, whose tables are not looked at
abbrev pub no_table : List ℕ
no_table = version ++ codes "unit = [{}, 1]\n" ++ printer ++ q1

-- two units of one name, after one that has the name of a terminal
abbrev pub two_units : List ℕ
two_units = version ++ printer ++ q1 ++ codes "[[unit]]\nname = \"P-1\"\nsource = \"p.cob\"\n" ++ echo ++ echo

-- two terminals of one name
abbrev pub two_terminals : List ℕ
two_terminals = version ++ printer ++ printer ++ q1 ++ echo

-- two top queues of one name
abbrev pub two_queues : List ℕ
two_queues = version ++ printer ++ q1 ++ q1 ++ echo

-- a route to a queue that has another below it
abbrev pub route_to_inner : List ℕ
route_to_inner =
    version ++ terminal_to (codes "[\"Q1\"]") ++ q1
    ++ codes "choose = \"ordered\"\nsub = [{name = \"A\"}]\n" ++ echo

-- a schedule that leads to no node, after an empty password
abbrev pub schedule_to_nowhere : List ℕ
schedule_to_nowhere =
    version ++ printer ++ queue_with (codes "Q1") [] ++ echo ++ codes "schedule = [\"Q1\", \"B\"]\n"

-- a file name that begins with a period
abbrev pub hidden_source : List ℕ
hidden_source = version ++ printer ++ q1 ++ codes "[[unit]]\nname = \"ECHO\"\nsource = \".cob\"\n"

-- another version
abbrev pub version_two : List ℕ
version_two = codes "version = 2\n" ++ printer ++ q1 ++ echo

-- no units
abbrev pub no_units : List ℕ
no_units = version ++ codes "unit = []\n" ++ printer ++ q1

-- lines that are not taken in at the beginning
abbrev pub held_lines : List ℕ
held_lines =
    version ++ codes "[[terminal]]\nname = \"T1\"\npassword = \"TPASS\"\ninput = \"t1.in\"\n"
    ++ codes "framing = \"lines\"\nroute = [\"Q1\"]\ninput-enabled = false\n" ++ q1 ++ echo

abbrev pub held_lines_net : Parts
held_lines_net = record one_of_each_net {
  terminals = record t1_to_the_first_leaf {
    feed = Some (record { file = codes "t1.in"; framing = framing.Lines; leaf = record { number = 0 } });
    input_on = false;
  } ∷ [];
}

-- no document
abbrev pub no_document : List ℕ
no_document = codes "version 1"

-- a terminal whose name is none
abbrev pub small_printer : List ℕ
small_printer = codes "[[terminal]]\nname = \"p\"\npassword = \"P\"\n"

-- an inner queue without queues below it
abbrev pub empty_inner : List ℕ
empty_inner = q1 ++ codes "choose = \"ordered\"\nsub = []\n"

-- a key that no unit has, after a terminal whose name is none
abbrev pub unknown_before_name : List ℕ
unknown_before_name = version ++ small_printer ++ q1 ++ echo ++ codes "zz = 1\n"

-- a file name that is none, after two terminals of one name
abbrev pub name_before_twice : List ℕ
name_before_twice =
    version ++ printer ++ printer ++ q1 ++ codes "[[unit]]\nname = \"ECHO\"\nsource = \".x\"\n"

-- two terminals of one name, in front of an inner queue without queues below it: the kinds decide
abbrev pub twice_before_tree : List ℕ
twice_before_tree = version ++ empty_inner ++ printer ++ printer ++ echo

-- an inner queue without queues below it, after a route that leads nowhere
abbrev pub tree_before_route : List ℕ
tree_before_route = version ++ terminal_to (codes "[\"Q2\"]") ++ empty_inner ++ echo

-- an empty password, and no units
abbrev pub password_before_limit : List ℕ
password_before_limit =
    version ++ codes "unit = []\n[[terminal]]\nname = \"P-1\"\npassword = \"\"\n" ++ q1
