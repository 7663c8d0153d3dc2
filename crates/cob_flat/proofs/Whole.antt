-- The code of a whole program.
use Rattle.std.proofs.Common.{◌≡◌, ℕ, ◌<◌, arith, List, [], ◌∷◌, length, map, Option, Some, Result, Ok, Err, IfOk, sym, ap, ◌∙◌, subst}
use Rattle.std.specs.Prelude.{slice_get}
use Rattle.std.specs.List.{AllByRecursion}
use Rattle.std.proofs.lemmas.List.{length-map}
use Rattle.std.proofs.lemmas.Option.{slice_get_within}
use Rattle.cob_lex.specs.declared.token.Token.{Token}
use Rattle.cob_proc.specs.declared.tree.Paragraph.{Paragraph}
use Rattle.cob_proc.specs.Spelled.{IsProcedure}
use Rattle.cob_proc.specs.Trees.{ParagraphTree, paragraph_tree}
use Rattle.cob_meaning.specs.Checked.{AreCheckedParagraphs}
use Rattle.cob_meaning.specs.Layouts.{Layout}
use Rattle.cob_meaning.specs.Meaning.{Program}
use Rattle.cob_meaning.specs.Sources.{IsProgramOf}
use Rattle.cob_flat.specs.Compiled.{IsCompiled, StaySentences}
use Rattle.cob_flat.specs.declared.code.Instruction.{Instruction}
use Rattle.cob_flat.specs.inner.Emitted.{BelowEmitted}
use Rattle.cob_flat.specs.inner.Written.{AreSoundParagraphs}
use Rattle.cob_flat.proofs.Emission.{extends_none}

-- a Procedure Division has paragraphs
some_paragraphs : (text : List ParagraphTree) (ts : List Token) → IsProcedure text ts → 0 < length text
some_paragraphs [] ts h = absurd h.2.2.2
some_paragraphs (one ∷ others) ts h = omega arith

-- paragraphs of a text that was checked
pub sound_paragraphs : (layout : Layout) (text : List ParagraphTree) (paragraphs : List Paragraph) → AreCheckedParagraphs layout text (map paragraph_tree paragraphs) → AreSoundParagraphs layout text paragraphs
sound_paragraphs layout text [] h = tt
sound_paragraphs layout text (one ∷ others) h = (record { checked = h.0 }, sound_paragraphs layout text others h.1)

-- the code of a program of a source
pub is_compiled : (source : List ℕ) (program : Program) (layout : Layout) (paragraphs : List Paragraph) (code : List Instruction) (starts : List ℕ)
    → IsProgramOf source program → layout ≡ program.layout → program.text ≡ map paragraph_tree paragraphs
    → ((k : ℕ) (p : ParagraphTree) → slice_get program.text k ≡ Some p → StaySentences program.text k p.sentences)
    → length starts ≡ length paragraphs → BelowEmitted layout (map paragraph_tree paragraphs) code starts (length paragraphs)
    → IsCompiled program code starts
is_compiled source program layout paragraphs code starts is layout_is text_is stays long below =
    let same : length program.text ≡ length paragraphs = ap length text_is ∙ length-map paragraphs paragraph_tree in
    let all : BelowEmitted program.layout program.text code starts (length paragraphs) =
    subst (λ l. BelowEmitted l program.text code starts (length paragraphs)) layout_is
    (subst (λ t. BelowEmitted layout t code starts (length paragraphs)) (sym text_is) below) in
    record {
      some = some_paragraphs program.text _ is.spells.is_procedure;
      as_long = long ∙ sym same;
      does = λ k p at. all code (extends_none code) k p (subst (λ n. k < n) same (slice_get_within program.text k p at)) at;
      stays = stays;
    }

-- both hold, if there is a result
pub if_ok_both : {A E : Type 0} (r : Result A E) (P Q R : A → Type 0) → IfOk r P → IfOk r Q → ((x : A) → P x → Q x → R x) → IfOk r R
if_ok_both (Ok x) P Q R p q f = f x p q
if_ok_both (Err e) P Q R p q f = tt
