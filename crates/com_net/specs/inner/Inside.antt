-- How a network is kept: its parts, beside them the names in order.
use Rattle.com_net.specs.declared.net.Net.TheInside.{Inside}
use Rattle.com_net.specs.Parts.{Parts}

-- what callers see
abbrev pub parts : Inside → Parts
parts net = record {
  terminals = net.terminals;
  tree = net.tree;
  queue_passwords = net.queue_passwords;
  leaf_on = net.leaf_on;
  units = net.units;
}
