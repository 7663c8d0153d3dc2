-- Readers of the statements in which no others stand.
use Rattle.std.specs.Prelude.{ℕ, Bool, true, false, List, Option, Some, None, codes}
use Rattle.cob_lex.specs.declared.token.TokenKind.TheVariants as tokens
use Rattle.cob_forms.specs.declared.written.Name.{Name}
use Rattle.cob_forms.specs.Sorts.{is, name, of_kind, reserved}
use Rattle.cob_forms.specs.Readers.{Reader, ◌>>=◌, ◌>>◌, found, at, maybe, optional, read_name, read_number}
use Rattle.cob_proc.specs.declared.tree.Addend.{Addend}
use Rattle.cob_proc.specs.declared.tree.Addend.TheVariants as addends
use Rattle.cob_proc.specs.declared.tree.Advancing.{Advancing}
use Rattle.cob_proc.specs.declared.tree.Ending.{Ending}
use Rattle.cob_proc.specs.declared.tree.Identifier.{Identifier}
use Rattle.cob_proc.specs.declared.tree.Indicator.{Indicator}
use Rattle.cob_proc.specs.declared.tree.Indicator.TheVariants as indicators
use Rattle.cob_proc.specs.declared.tree.Key.{Key}
use Rattle.cob_proc.specs.declared.tree.Lines.{Lines}
use Rattle.cob_proc.specs.declared.tree.Lines.TheVariants as lines
use Rattle.cob_proc.specs.declared.tree.Repetition.{Repetition}
use Rattle.cob_proc.specs.declared.tree.Repetition.TheVariants as repetitions
use Rattle.cob_proc.specs.Forms as forms
use Rattle.cob_proc.specs.Spelled.{begins_form}
use Rattle.cob_proc.specs.Trees.{Plain, moves, adds, subtracts, performs, goes, exits, stops, sends, switches_input, switches_output, accepts, Tree, plain}
use Rattle.cob_proc.specs.PartReaders.{word, identifier, identifiers, operand, addend, key, condition}

unfoldable pub read_move : Reader Plain
read_move = do
  _ ← word (codes "MOVE")
  source ← operand
  _ ← word (codes "TO")
  targets ← identifiers
  found (moves source targets)

unfoldable pub read_add : Reader Plain
read_add = do
  _ ← word (codes "ADD")
  what ← addend
  _ ← word (codes "TO")
  target ← identifier
  found (adds what target)

unfoldable pub read_subtract : Reader Plain
read_subtract = do
  _ ← word (codes "SUBTRACT")
  what ← addend
  _ ← word (codes "FROM")
  target ← identifier
  found (subtracts what target)

-- PERFORM
unfoldable pub through : Reader Name
through = at (is (reserved (codes "THRU"))) (word (codes "THRU")) (word (codes "THROUGH")) >> read_name

unfoldable pub times : Addend → Reader Repetition
times count = word (codes "TIMES") >> found (repetitions.Times count)

unfoldable pub repetition : Reader Repetition
repetition =
    at (is name) (identifier >>= λ item. times (addends.Item item))
    (at (is (of_kind tokens.Number)) (read_number >>= λ number. times (addends.Number number))
    (at (is (reserved (codes "UNTIL"))) (word (codes "UNTIL") >> condition >>= λ tested. found (repetitions.Until tested))
    (found repetitions.Once)))

unfoldable pub read_perform : Reader Plain
read_perform = do
  _ ← word (codes "PERFORM")
  first ← read_name
  last ← maybe (begins_form forms.through) through
  how ← repetition
  found (performs first last how)

unfoldable pub read_go : Reader Plain
read_go = do
  _ ← word (codes "GO")
  _ ← optional (reserved (codes "TO"))
  target ← read_name
  found (goes target)

unfoldable pub read_exit : Reader Plain
read_exit = word (codes "EXIT") >> found exits

unfoldable pub read_stop : Reader Plain
read_stop = word (codes "STOP") >> word (codes "RUN") >> found stops

-- SEND: ESI, EMI or EGI
unfoldable pub mark : Reader Indicator
mark =
    at (is (reserved (codes "ESI"))) (word (codes "ESI") >> found indicators.Esi)
    (at (is (reserved (codes "EMI"))) (word (codes "EMI") >> found indicators.Emi)
    (word (codes "EGI") >> found indicators.Egi))

-- what stands behind WITH
unfoldable pub with_what : Reader Indicator
with_what = at (is name) (identifier >>= λ item. found (indicators.Item item)) mark

unfoldable pub indicator : Reader Indicator
indicator = at (is (reserved (codes "WITH"))) (word (codes "WITH") >> with_what) mark

-- LINE or LINES may follow
unfoldable pub perhaps_lines : Lines → Reader Lines
perhaps_lines count =
    at (is (reserved (codes "LINE"))) (word (codes "LINE") >> found count)
    (at (is (reserved (codes "LINES"))) (word (codes "LINES") >> found count)
    (found count))

unfoldable pub lines_or_page : Reader Lines
lines_or_page =
    at (is name) (identifier >>= λ item. perhaps_lines (lines.Count (addends.Item item)))
    (at (is (of_kind tokens.Number)) (read_number >>= λ number. perhaps_lines (lines.Count (addends.Number number)))
    (word (codes "PAGE") >> found lines.Page))

unfoldable pub advanced : Reader Lines
advanced = optional (reserved (codes "ADVANCING")) >> lines_or_page

unfoldable pub advancing : Reader Advancing
advancing = do
  after ← at (is (reserved (codes "BEFORE"))) (word (codes "BEFORE") >> found false) (word (codes "AFTER") >> found true)
  count ← advanced
  found (record { after = after; lines = count })

unfoldable pub ending : Reader Ending
ending = do
  what ← indicator
  how ← maybe (begins_form forms.advancing) advancing
  found (record { indicator = what; advancing = how })

-- a text, an end or both
unfoldable pub sent : Reader (Option Identifier × Option Ending)
sent =
    at (is (reserved (codes "FROM"))) (word (codes "FROM") >> identifier >>= λ item. maybe (begins_form forms.ending) ending >>= λ end. found (Some item, end))
    (ending >>= λ end. found (None, Some end))

unfoldable pub read_send : Reader Plain
read_send = do
  _ ← word (codes "SEND")
  cd ← read_name
  what ← sent
  found (sends cd what.0 what.1)

-- ENABLE and DISABLE: INPUT, and whether TERMINAL follows, or OUTPUT
unfoldable pub switched : Reader (Option Bool)
switched =
    at (is (reserved (codes "INPUT"))) (word (codes "INPUT") >> optional (reserved (codes "TERMINAL")) >>= λ terminal. found (Some terminal))
    (word (codes "OUTPUT") >> found None)

abbrev pub switches : Bool → Option Bool → Name → Key → Plain
switches on (Some terminal) cd key = switches_input on terminal cd key
switches on None cd key = switches_output on cd key

unfoldable pub read_switch : List ℕ → Bool → Reader Plain
read_switch text on = do
  _ ← word text
  which ← switched
  cd ← read_name
  _ ← optional (reserved (codes "WITH"))
  _ ← word (codes "KEY")
  value ← key
  found (switches on which cd value)

unfoldable pub read_accept : Reader Plain
read_accept = do
  _ ← word (codes "ACCEPT")
  cd ← read_name
  _ ← optional (reserved (codes "MESSAGE"))
  _ ← word (codes "COUNT")
  found (accepts cd)

-- a statement in which no others stand, as a tree
abbrev pub stated : Reader Plain → Reader Tree
stated r = r >>= λ statement. found (plain statement)

-- the statements in which no others stand
unfoldable pub read_plain : Reader Plain
read_plain =
    at (is (reserved (codes "MOVE"))) read_move
    (at (is (reserved (codes "ADD"))) read_add
    (at (is (reserved (codes "SUBTRACT"))) read_subtract
    (at (is (reserved (codes "PERFORM"))) read_perform
    (at (is (reserved (codes "GO"))) read_go
    (at (is (reserved (codes "EXIT"))) read_exit
    (at (is (reserved (codes "STOP"))) read_stop
    (at (is (reserved (codes "SEND"))) read_send
    (at (is (reserved (codes "ENABLE"))) (read_switch (codes "ENABLE") true)
    (at (is (reserved (codes "DISABLE"))) (read_switch (codes "DISABLE") false)
    read_accept)))))))))
