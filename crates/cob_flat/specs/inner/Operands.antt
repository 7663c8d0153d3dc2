-- Which operands of flat code stand for operands of statements.
use Rattle.std.specs.Prelude.{◌≡◌, ℕ, Bool, List, [], ◌∷◌, Option, Some}
use Rattle.cob_data.specs.declared.tree.ItemPlace.{ItemPlace}
use Rattle.cob_proc.specs.declared.tree.Addend.{Addend}
use Rattle.cob_proc.specs.declared.tree.Advancing.{Advancing}
use Rattle.cob_proc.specs.declared.tree.Ending.{Ending}
use Rattle.cob_proc.specs.declared.tree.Identifier.{Identifier}
use Rattle.cob_proc.specs.declared.tree.Indicator.{Indicator}
use Rattle.cob_proc.specs.declared.tree.Key.{Key}
use Rattle.cob_proc.specs.declared.tree.Lines.{Lines}
use Rattle.cob_proc.specs.declared.tree.Operand.{Operand}
use Rattle.cob_proc.specs.declared.tree.Simple.{Simple}
use Rattle.cob_proc.specs.declared.tree.Subscript.{Subscript}
use Rattle.cob_proc.specs.declared.tree.Subscript.TheVariants as subscripts
use Rattle.cob_meaning.specs.Checked.{IsNumeral}
use Rattle.cob_meaning.specs.Layouts.{Layout, ◌>>=◌, occurrence}
use Rattle.cob_meaning.specs.Storage.{Storage}
use Rattle.cob_meaning.specs.Moves.{addend_number, content_at, item_at, subscript_number}
use Rattle.cob_meaning.specs.Conditions.{part_holds}
use Rattle.cob_meaning.specs.Verbs.{Request, advance_by, advance_of, key_characters, part_of, part_with, sent_text}
use Rattle.cob_flat.specs.declared.operands.Amount.{Amount}
use Rattle.cob_flat.specs.declared.operands.Index.{Index}
use Rattle.cob_flat.specs.declared.operands.SimpleTest.{SimpleTest}
use Rattle.cob_flat.specs.declared.operands.Source.{Source}
use Rattle.cob_flat.specs.declared.operands.Spot.{Spot}
use Rattle.cob_flat.specs.declared.code.Action.{Action}
use Rattle.cob_flat.specs.declared.code.Verb.{Verb}
use Rattle.cob_flat.specs.declared.operands.Advancement.{Advancement}
use Rattle.cob_flat.specs.declared.operands.EndSource.{EndSource}
use Rattle.cob_flat.specs.declared.operands.KeySource.{KeySource}
use Rattle.cob_flat.specs.declared.operands.LinesSource.{LinesSource}
use Rattle.cob_flat.specs.declared.operands.SendEnd.{SendEnd}
use Rattle.cob_flat.specs.Effects.{advance_with, advanced_by, amount_by, content_by, effect, ended_by, ends_with, index_number, item_by, key_by, part_by, request_by, text_by}

-- each of some is so to the one at its place
abbrev pub AreEach : {A B : Type 0} → (A → B → Type 0) → List A → List B → Type 0
AreEach R [] [] = Unit {0}
AreEach R (x ∷ xs) (y ∷ ys) = R x y × AreEach R xs ys
AreEach R _ _ = ⊥

-- a number that is written as a subscript has 1 to 18 digits
abbrev pub HasNumeral : Option Subscript → Type 0
HasNumeral (Some (subscripts.Number position n)) = IsNumeral n.digits
HasNumeral _ = Unit {0}

-- The number of a subscript chooses the same occurrence in each table.
abbrev pub IsIndexOf : Layout → Subscript → Index → Type 0
IsIndexOf layout subscript index =
    (occurs : ℕ) (place : ItemPlace) (storage : Storage)
    → index_number index storage >>= occurrence occurs place
    ≡ subscript_number layout subscript storage >>= occurrence occurs place

-- a spot is the item of an identifier
abbrev pub IsSpotOf : Layout → Identifier → Spot → Type 0
IsSpotOf layout identifier spot =
    (storage : Storage) → item_by spot storage ≡ item_at layout identifier storage

-- a source gives what an operand gives
abbrev pub IsSourceOf : Layout → Operand → Source → Type 0
IsSourceOf layout operand source =
    (storage : Storage) → content_by source storage ≡ content_at layout operand storage

-- an amount is the number of an addend
abbrev pub IsAmountOf : Layout → Addend → Amount → Type 0
IsAmountOf layout addend amount =
    (storage : Storage) → amount_by amount storage ≡ addend_number layout addend storage

-- a simple test holds exactly if a simple condition does
abbrev pub IsPartOf : Layout → Simple → SimpleTest → Type 0
IsPartOf layout simple test =
    (storage : Storage) → part_by test storage ≡ part_holds layout storage simple

-- a password is taken from the same place
abbrev pub IsKeyOf : Layout → Key → KeySource → Type 0
IsKeyOf layout key password =
    (storage : Storage) → key_by password storage ≡ key_characters layout key storage

-- what is sent is the same
abbrev pub IsTextOf : Layout → Option Identifier → Option Spot → Type 0
IsTextOf layout from spot =
    (storage : Storage) → text_by spot storage ≡ sent_text layout from storage

-- lines are advanced by the same number
abbrev pub AreLinesOf : Layout → Lines → LinesSource → Type 0
AreLinesOf layout lines counted =
    (after : Bool) (storage : Storage)
    → advanced_by after counted storage ≡ advance_by layout after lines storage

-- a text is advanced the same way
abbrev pub IsAdvancementOf : Layout → Option Advancing → Option Advancement → Type 0
IsAdvancementOf layout advancing advancement =
    (storage : Storage) → advance_with advancement storage ≡ advance_of layout advancing storage

-- an indicator ends the same, however the text is advanced
abbrev pub IsIndicatorOf : Layout → Indicator → EndSource → Type 0
IsIndicatorOf layout indicator end =
    (advancing : Option Advancing) (advancement : Option Advancement)
    → IsAdvancementOf layout advancing advancement → (storage : Storage)
    → ends_with end advancement storage ≡ part_with layout indicator advancing storage

-- a SEND ends the same
abbrev pub IsEndOf : Layout → Option Ending → Option SendEnd → Type 0
IsEndOf layout ending end = (storage : Storage) → ended_by end storage ≡ part_of layout ending storage

-- an action changes the storage so
abbrev pub IsActionFor : (Storage → Option Storage) → Action → Type 0
IsActionFor change action = (storage : Storage) → effect action storage ≡ change storage

-- a verb makes this request
abbrev pub IsVerbFor : (Storage → Option Request) → Verb → Type 0
IsVerbFor request verb = (storage : Storage) → request_by verb storage ≡ request storage
