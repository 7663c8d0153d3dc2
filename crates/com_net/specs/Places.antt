-- The tables of a description, each with the path that leads to it.
use Rattle.std.specs.Prelude.{ℕ, zero, suc, ◌+◌, ◌-◌, List, [], ◌∷◌, ◌++◌, decimal, codes}
use Rattle.toml.specs.Data.{Members}
use Rattle.com_tree.specs.declared.tree.TheConstants.{MAX_DEPTH}
use Rattle.com_net.specs.declared.keys.Section.{Section}
use Rattle.com_net.specs.declared.keys.Section.TheVariants as section
use Rattle.com_net.specs.declared.keys.Key.{Key}
use Rattle.com_net.specs.declared.keys.Key.TheVariants as key
use Rattle.com_net.specs.Keys.{key_text}
use Rattle.com_net.specs.Values.{tables_at}

-- a table, what it is, and its path
pub record Place : Type 0 where
  pub section : Section
  pub path : List ℕ
  pub table : Members

-- the path of a key below that of a table; the document's own path is empty
abbrev pub below : List ℕ → List ℕ → List ℕ
below [] name = name
below (byte ∷ path) name = (byte ∷ path) ++ 46 ∷ name

-- the path of a key of a table
abbrev pub key_path : Place → Key → List ℕ
key_path place wanted = below place.path (key_text wanted)

-- the path of the element with a number
abbrev pub element : List ℕ → ℕ → List ℕ
element path number = path ++ 46 ∷ decimal number

-- tables of one kind, which are numbered from this number on
abbrev pub places_from : ℕ → Section → List ℕ → List Members → List Place
places_from number section path [] = []
places_from number section path (table ∷ tables) =
    record { section = section; path = element path number; table = table }
    ∷ places_from (number + 1) section path tables

-- queues numbered from this number on, each before the queues below it, down to so many levels;
-- none below the lowest level of a tree is looked at
abbrev pub queues_from : ℕ → ℕ → List ℕ → List Members → List Place
queues_from zero number path tables = []
queues_from (suc levels) number path [] = []
queues_from (suc levels) number path (table ∷ tables) =
    record { section = section.Queue (MAX_DEPTH - levels); path = element path number; table = table }
    ∷ queues_from levels 1 (below (element path number) (codes "sub")) (tables_at key.Children table)
    ++ queues_from (suc levels) (number + 1) path tables

-- the tables of a document in the order of the walk: itself, the terminals, the queues, the units
abbrev pub places : Members → List Place
places document =
    record { section = section.Top; path = []; table = document }
    ∷ places_from 1 section.Terminal (codes "terminal") (tables_at key.Terminals document)
    ++ queues_from MAX_DEPTH 1 (codes "queue") (tables_at key.Queues document)
    ++ places_from 1 section.Unit (codes "unit") (tables_at key.Units document)
