-- Programs, as they are written out.
use Rattle.std.proofs.Common.{ℕ, false, Bool, List, [], ◌∷◌, Option, Some, None}
use Rattle.cob_forms.specs.declared.written.Literal.{Literal}
use Rattle.cob_forms.specs.declared.written.Name.{Name}
use Rattle.cob_forms.specs.declared.written.Number.{Number}
use Rattle.cob_forms.specs.declared.written.Position.{Position}
use Rattle.cob_data.specs.declared.tree.ItemSort.{ItemSort}
use Rattle.cob_data.specs.Layout.{Referent, data_at}
use Rattle.cob_proc.specs.declared.tree.Addend.{Addend}
use Rattle.cob_proc.specs.declared.tree.Addend.TheVariants as addends
use Rattle.cob_proc.specs.declared.tree.Condition.{Condition}
use Rattle.cob_proc.specs.declared.tree.Ending.{Ending}
use Rattle.cob_proc.specs.declared.tree.Identifier.{Identifier}
use Rattle.cob_proc.specs.declared.tree.Joint.{Joint}
use Rattle.cob_proc.specs.declared.tree.Joint.TheVariants as joints
use Rattle.cob_proc.specs.declared.tree.Key.{Key}
use Rattle.cob_proc.specs.declared.tree.Operand.{Operand}
use Rattle.cob_proc.specs.declared.tree.Operand.TheVariants as operands
use Rattle.cob_proc.specs.declared.tree.Relation.{Relation}
use Rattle.cob_proc.specs.declared.tree.Relation.TheVariants as relations
use Rattle.cob_proc.specs.declared.tree.Repetition.{Repetition}
use Rattle.cob_proc.specs.declared.tree.Simple.{Simple}
use Rattle.cob_proc.specs.declared.tree.Simple.TheVariants as simples
use Rattle.cob_proc.specs.declared.tree.Subscript.TheVariants as subscripts
use Rattle.cob_proc.specs.Trees.{moves, adds, subtracts, performs, goes, exits, stops, sends, switches_input, switches_output, accepts, Tree, plain, branches, receives, block_of, ParagraphTree}

-- an item at a place, and one that occurs in a table
abbrev pub an_item : (area start length : ℕ) → ItemSort → Referent
an_item area start length sort = data_at (record { area = area; start = start; length = length; sort = sort }) None

abbrev pub a_table : (area start length : ℕ) → ItemSort → ℕ → Referent
a_table area start length sort occurs = data_at (record { area = area; start = start; length = length; sort = sort }) (Some occurs)

-- the statements, one by one
abbrev pub move_of : Operand → List Identifier → Tree
move_of source targets = plain (moves source targets)

abbrev pub add_of : Addend → Identifier → Tree
add_of addend target = plain (adds addend target)

abbrev pub subtract_of : Addend → Identifier → Tree
subtract_of addend target = plain (subtracts addend target)

abbrev pub if_of : Position → Condition → List Tree → List Tree → Tree
if_of position condition one other = branches position condition (block_of one) (block_of other)

abbrev pub perform_of : Name → Option Name → Repetition → Tree
perform_of first last often = plain (performs first last often)

abbrev pub go_of : Name → Tree
go_of target = plain (goes target)

abbrev pub exit_of : Tree
exit_of = plain exits

abbrev pub stop_of : Tree
stop_of = plain stops

abbrev pub receive_of : Name → Bool → Identifier → List Tree → Tree
receive_of cd segment into no_data = receives cd segment into (block_of no_data)

abbrev pub send_of : Name → Option Identifier → Option Ending → Tree
send_of cd from ending = plain (sends cd from ending)

abbrev pub switch_input_of : (on terminal : Bool) → Name → Key → Tree
switch_input_of on terminal cd key = plain (switches_input on terminal cd key)

abbrev pub switch_output_of : Bool → Name → Key → Tree
switch_output_of on cd key = plain (switches_output on cd key)

abbrev pub accept_of : Name → Tree
accept_of cd = plain (accepts cd)

-- where words stand plays no part in what a program does
abbrev pub here : Position
here = record { line = 1; column = 1 }

abbrev pub name : List ℕ → Name
name text = record { text = text; position = here }

abbrev pub digits : List ℕ → Number
digits text = record { digits = text; position = here }

abbrev pub quoted : List ℕ → Literal
quoted text = record { characters = text; position = here }

abbrev pub item : List ℕ → Identifier
item text = record { name = name text; subscript = None }

-- an occurrence by a number, and by an item
abbrev pub item_by_number : List ℕ → List ℕ → Identifier
item_by_number text n = record { name = name text; subscript = Some (subscripts.Number here (digits n)) }

abbrev pub item_by_item : List ℕ → List ℕ → Identifier
item_by_item text other = record { name = name text; subscript = Some (subscripts.Item here (name other)) }

abbrev pub of_item : List ℕ → Operand
of_item text = operands.Item (item text)

abbrev pub literal : List ℕ → Operand
literal text = operands.Literal (quoted text)

abbrev pub a_numeral : List ℕ → Operand
a_numeral text = operands.Number (digits text)

abbrev pub spaces_word : Operand
spaces_word = operands.Spaces here

abbrev pub zeros_word : Operand
zeros_word = operands.Zeros here

abbrev pub by_number : List ℕ → Addend
by_number text = addends.Number (digits text)

abbrev pub by_item : List ℕ → Addend
by_item text = addends.Item (item text)

abbrev pub move_to : Operand → List Identifier → Tree
move_to source targets = move_of source targets

abbrev pub compares : Operand → Relation → Operand → Simple
compares left relation right = simples.Compares left false relation right

abbrev pub equals : Operand → Operand → Simple
equals left right = compares left relations.Equal right

abbrev pub condition : Joint → List Simple → Condition
condition joint parts = record { joint = joint; parts = parts }

abbrev pub alone : Simple → Condition
alone part = condition joints.Alone (part ∷ [])

abbrev pub perform : List ℕ → Repetition → Tree
perform text often = perform_of (name text) None often

abbrev pub perform_thru : List ℕ → List ℕ → Repetition → Tree
perform_thru first last often = perform_of (name first) (Some (name last)) often

abbrev pub go_to : List ℕ → Tree
go_to text = go_of (name text)

-- a paragraph of one sentence
abbrev pub paragraph : List ℕ → List Tree → ParagraphTree
paragraph text statements = record { name = name text; sentences = block_of statements ∷ [] }
