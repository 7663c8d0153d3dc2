-- Readers of statements, sentences and paragraphs, and of the whole division.
use Rattle.std.specs.Prelude.{ℕ, zero, suc, Bool, true, false, List, [], ◌∷◌, length, Result, Ok, Err, codes}
use Rattle.cob_lex.specs.declared.token.Token.{Token}
use Rattle.cob_forms.specs.declared.written.Name.{Name}
use Rattle.cob_forms.specs.Sorts.{is, reserved}
use Rattle.cob_forms.specs.Written.{position_of}
use Rattle.cob_forms.specs.Readers.{Reader, ◌>>=◌, ◌>>◌, found, one, wanted, at, any, some, before_no, read_name}
use Rattle.cob_proc.specs.declared.tree.Identifier.{Identifier}
use Rattle.cob_proc.specs.Forms as forms
use Rattle.cob_proc.specs.Forms.{period}
use Rattle.cob_proc.specs.Spelled.{begins_form}
use Rattle.cob_proc.specs.Trees.{Tree, branches, receives, Block, none, block_of, ParagraphTree}
use Rattle.cob_proc.specs.PartReaders.{word, identifier, condition}
use Rattle.cob_proc.specs.StatementReaders.{read_plain, stated}

-- MESSAGE or SEGMENT: whether a segment is received
unfoldable pub unit_of_text : Reader Bool
unit_of_text = at (is (reserved (codes "MESSAGE"))) (word (codes "MESSAGE") >> found false) (word (codes "SEGMENT") >> found true)

-- RECEIVE up to its NO DATA: the CD, whether a segment is received, and into what
unfoldable pub receive_head : Reader (Name × Bool × Identifier)
receive_head = do
  _ ← word (codes "RECEIVE")
  cd ← read_name
  segment ← unit_of_text
  _ ← word (codes "INTO")
  into ← identifier
  found (cd, segment, into)

-- RECEIVE without NO DATA
unfoldable pub receive_alone : Reader Tree
receive_alone = receive_head >>= λ head. found (receives head.0 head.1 head.2 none)

-- a statement inside NO DATA
unfoldable pub inner : Reader Tree
inner = at (is (reserved (codes "RECEIVE"))) receive_alone (stated read_plain)

-- one or more
unfoldable pub inners : Reader (List Tree)
inners = some (begins_form forms.inner) inner

unfoldable pub no_data : Reader (List Tree)
no_data =
    at (is (reserved (codes "NO"))) (word (codes "NO") >> word (codes "DATA") >> inners >>= λ trees. before_no (reserved (codes "IF")) trees)
    (found [])

unfoldable pub receive : Reader Tree
receive = do
  head ← receive_head
  trees ← no_data
  found (receives head.0 head.1 head.2 (block_of trees))

-- ELSE and its statements
unfoldable pub otherwise : Reader (List Tree) → Reader (List Tree)
otherwise statements = at (is (reserved (codes "ELSE"))) (word (codes "ELSE") >> statements) (found [])

-- IF, by a reader of its statements
unfoldable pub branch : Reader (List Tree) → Reader Tree
branch statements = do
  sign ← word (codes "IF")
  tested ← condition
  holds ← statements
  others ← otherwise statements
  found (branches (position_of sign) tested (block_of holds) (block_of others))

-- a statement in which fewer IFs than this stand in one another
unfoldable pub read_statement : ℕ → Reader Tree
read_statement zero = wanted
read_statement (suc n) =
    at (is (reserved (codes "IF"))) (branch (some (begins_form forms.statement) (read_statement n)))
    (at (is (reserved (codes "RECEIVE"))) receive
    (stated read_plain))

-- one or more
unfoldable pub read_statements : ℕ → Reader (List Tree)
read_statements n = some (begins_form forms.statement) (read_statement n)

unfoldable pub read_sentence : ℕ → Reader Block
read_sentence n = do
  trees ← read_statements n
  _ ← one period
  found (block_of trees)

-- or none
unfoldable pub read_sentences : ℕ → Reader (List Block)
read_sentences n = any (begins_form forms.sentence) (read_sentence n)

unfoldable pub read_paragraph : ℕ → Reader ParagraphTree
read_paragraph n = do
  title ← read_name
  _ ← one period
  sentences ← read_sentences n
  found (record { name = title; sentences = sentences })

-- one or more
unfoldable pub read_paragraphs : ℕ → Reader (List ParagraphTree)
read_paragraphs n = some (begins_form forms.paragraph) (read_paragraph n)

-- the words PROCEDURE DIVISION, and the paragraphs
unfoldable pub read_division : ℕ → Reader (List ParagraphTree)
read_division n = do
  _ ← word (codes "PROCEDURE")
  _ ← word (codes "DIVISION")
  _ ← one period
  read_paragraphs n

-- no token is left
abbrev pub whole : {A : Type 0} → Result (A × List Token) ℕ → Result A ℕ
whole (Ok (x, [])) = Ok x
whole (Ok (x, t ∷ ts)) = Err (length (t ∷ ts))
whole (Err left) = Err left

-- the paragraphs that some tokens are, or how many are left where another is wanted
abbrev pub read_procedure : List Token → Result (List ParagraphTree) ℕ
read_procedure ts = whole (read_division (length ts) ts)
