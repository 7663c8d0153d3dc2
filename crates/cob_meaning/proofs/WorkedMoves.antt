-- What statements that move, add and compare do, worked out by hand.
use Rattle.std.proofs.Common.{◌≡◌, ℕ, true, false, List, [], ◌∷◌, refl, codes}
use Rattle.cob_proc.specs.declared.tree.Condition.{Condition}
use Rattle.cob_proc.specs.declared.tree.Joint.TheVariants as joints
use Rattle.cob_proc.specs.declared.tree.Relation.TheVariants as relations
use Rattle.cob_proc.specs.declared.tree.Simple.TheVariants as simples
use Rattle.cob_proc.specs.Trees.{Tree}
use Rattle.cob_meaning.specs.Meaning.{Meaning, unit_limits}
use Rattle.cob_meaning.proofs.Trees.{here, item, of_item, literal, a_numeral, spaces_word, zeros_word, by_number, by_item, move_to, compares, equals, condition, alone, add_of, if_of, subtract_of}
use Rattle.cob_meaning.proofs.SmallPrograms.{shows, sent, data_fault, does, then_shows}

-- a shorter text is filled with spaces
move_short : then_shows (move_to (literal (codes "Q")) (item (codes "A") ∷ []) ∷ []) (codes "A") ≡ sent (codes "Q  ")
unfolding unit_limits
move_short = refl

-- a longer one is cut on the right
move_long : then_shows (move_to (literal (codes "QRSTU")) (item (codes "A") ∷ []) ∷ []) (codes "A") ≡ sent (codes "QRS")
unfolding unit_limits
move_long = refl

-- a literal of digits is aligned right
move_literal_to_digits : then_shows (move_to (literal (codes "7")) (item (codes "M") ∷ []) ∷ []) (codes "M") ≡ sent (codes "007")
unfolding unit_limits
move_literal_to_digits = refl

-- and cut on the left
move_long_literal_to_digits : then_shows (move_to (literal (codes "98765")) (item (codes "M") ∷ []) ∷ []) (codes "M") ≡ sent (codes "765")
unfolding unit_limits
move_long_literal_to_digits = refl

-- another character is no digit
move_text_to_digits : then_shows (move_to (literal (codes "7 ")) (item (codes "M") ∷ []) ∷ []) (codes "M") ≡ data_fault
unfolding unit_limits
move_text_to_digits = refl

-- a number is moved as it is written
move_numeral_to_text : then_shows (move_to (a_numeral (codes "07")) (item (codes "B") ∷ []) ∷ []) (codes "B") ≡ sent (codes "07   ")
unfolding unit_limits
move_numeral_to_text = refl

-- so is a 9 item
move_digits_to_text : then_shows (move_to (of_item (codes "M")) (item (codes "B") ∷ []) ∷ []) (codes "B") ≡ sent (codes "042  ")
unfolding unit_limits
move_digits_to_text = refl

-- a number too wide keeps its low-order digits
move_digits_to_fewer : then_shows (move_to (of_item (codes "N")) (item (codes "M") ∷ []) ∷ []) (codes "M") ≡ sent (codes "345")
unfolding unit_limits
move_digits_to_fewer = refl

-- and a shorter one has leading zeros
move_digits_to_more : then_shows (move_to (of_item (codes "M")) (item (codes "N") ∷ []) ∷ []) (codes "N") ≡ sent (codes "00042")
unfolding unit_limits
move_digits_to_more = refl

-- a group is moved by its characters, whatever they are
move_group_to_digits : then_shows (move_to (of_item (codes "G")) (item (codes "M") ∷ []) ∷ []) (codes "M") ≡ sent (codes "XY1")
unfolding unit_limits
move_group_to_digits = refl

-- and what is moved to a group too
move_text_to_group : then_shows (move_to (literal (codes "12")) (item (codes "G") ∷ []) ∷ []) (codes "G") ≡ sent (codes "12  ")
unfolding unit_limits
move_text_to_group = refl

-- an item of a group is a slice of it
move_into_group : then_shows (move_to (a_numeral (codes "5")) (item (codes "GN") ∷ []) ∷ []) (codes "G") ≡ sent (codes "XY05")
unfolding unit_limits
move_into_group = refl

-- SPACES fill the item
move_spaces : then_shows (move_to (spaces_word) (item (codes "A") ∷ []) ∷ []) (codes "A") ≡ sent (codes "   ")
unfolding unit_limits
move_spaces = refl

-- so does ZERO
move_zeros : then_shows (move_to (zeros_word) (item (codes "A") ∷ []) ∷ []) (codes "A") ≡ sent (codes "000")
unfolding unit_limits
move_zeros = refl

-- also a 9 item
move_zeros_to_digits : then_shows (move_to (zeros_word) (item (codes "M") ∷ []) ∷ []) (codes "M") ≡ sent (codes "000")
unfolding unit_limits
move_zeros_to_digits = refl

-- an X item to a longer one
move_x_to_x : then_shows (move_to (of_item (codes "A")) (item (codes "B") ∷ []) ∷ []) (codes "B") ≡ sent (codes "ABC  ")
unfolding unit_limits
move_x_to_x = refl

-- to a group its characters
move_x_to_group : then_shows (move_to (of_item (codes "A")) (item (codes "G") ∷ []) ∷ []) (codes "G") ≡ sent (codes "ABC ")
unfolding unit_limits
move_x_to_group = refl

-- and to a 9 item, where they are digits
move_x_to_digits : does (codes "789") (codes "042") (codes "XY12") (move_to (of_item (codes "A")) (item (codes "N") ∷ []) ∷ shows (codes "N") ∷ []) ≡ sent (codes "00789")
unfolding unit_limits
move_x_to_digits = refl

-- and not where one is a letter
move_x_letters_to_digits : then_shows (move_to (of_item (codes "A")) (item (codes "M") ∷ []) ∷ []) (codes "M") ≡ data_fault
unfolding unit_limits
move_x_letters_to_digits = refl

-- a 9 item to a group as its digits stand
move_digits_to_group : then_shows (move_to (of_item (codes "M")) (item (codes "G") ∷ []) ∷ []) (codes "G") ≡ sent (codes "042 ")
unfolding unit_limits
move_digits_to_group = refl

-- a number too
move_numeral_to_group : then_shows (move_to (a_numeral (codes "7")) (item (codes "G") ∷ []) ∷ []) (codes "G") ≡ sent (codes "7   ")
unfolding unit_limits
move_numeral_to_group = refl

-- a number to a 9 item by number
move_numeral_to_digits : then_shows (move_to (a_numeral (codes "01234")) (item (codes "M") ∷ []) ∷ []) (codes "M") ≡ sent (codes "234")
unfolding unit_limits
move_numeral_to_digits = refl

-- a group to an X item
move_group_to_x : then_shows (move_to (of_item (codes "G")) (item (codes "A") ∷ []) ∷ []) (codes "A") ≡ sent (codes "XY1")
unfolding unit_limits
move_group_to_x = refl

-- a group to itself
move_group_to_group : then_shows (move_to (of_item (codes "G")) (item (codes "G") ∷ []) ∷ []) (codes "G") ≡ sent (codes "XY12")
unfolding unit_limits
move_group_to_group = refl

-- SPACES to a group
move_spaces_to_group : then_shows (move_to (spaces_word) (item (codes "G") ∷ []) ∷ []) (codes "G") ≡ sent (codes "    ")
unfolding unit_limits
move_spaces_to_group = refl

-- ZERO to a group
move_zeros_to_group : then_shows (move_to (zeros_word) (item (codes "G") ∷ []) ∷ []) (codes "G") ≡ sent (codes "0000")
unfolding unit_limits
move_zeros_to_group = refl

-- a 9 item that holds a letter is no number
move_letters : does (codes "ABC") (codes "0A2") (codes "XY12") (move_to (of_item (codes "M")) (item (codes "N") ∷ []) ∷ []) ≡ data_fault
unfolding unit_limits
move_letters = refl

-- but may be moved to a text
move_letters_to_text : does (codes "ABC") (codes "0A2") (codes "XY12") (move_to (of_item (codes "M")) (item (codes "A") ∷ []) ∷ shows (codes "A") ∷ []) ≡ sent (codes "0A2")
unfolding unit_limits
move_letters_to_text = refl

-- the source is read once, before the first target is filled
move_to_two : then_shows (move_to (of_item (codes "G")) (item (codes "GX") ∷ item (codes "B") ∷ []) ∷ []) (codes "B") ≡ sent (codes "XY12 ")
unfolding unit_limits
move_to_two = refl

-- a target that cannot hold it stops the unit
move_to_two_kinds : then_shows (move_to (literal (codes "Q")) (item (codes "A") ∷ item (codes "M") ∷ []) ∷ []) (codes "A") ≡ data_fault
unfolding unit_limits
move_to_two_kinds = refl

-- a sum that is too wide keeps its low-order digits
add_carries : then_shows (add_of (by_number (codes "999")) (item (codes "M")) ∷ []) (codes "M") ≡ sent (codes "041")
unfolding unit_limits
add_carries = refl

-- an item is added to itself
add_item : then_shows (add_of (by_item (codes "M")) (item (codes "M")) ∷ []) (codes "M") ≡ sent (codes "084")
unfolding unit_limits
add_item = refl

-- a letter is not added
add_letters : does (codes "ABC") (codes "0A2") (codes "XY12") (add_of (by_number (codes "1")) (item (codes "M")) ∷ []) ≡ data_fault
unfolding unit_limits
add_letters = refl

-- a difference below zero has no sign
subtract_below : then_shows (subtract_of (by_number (codes "50")) (item (codes "M")) ∷ []) (codes "M") ≡ sent (codes "008")
unfolding unit_limits
subtract_below = refl

abbrev yes : Tree
yes = move_to (literal (codes "YES")) (item (codes "A") ∷ [])

abbrev no : Tree
no = move_to (literal (codes "NO")) (item (codes "A") ∷ [])

-- IF this holds, A becomes YES, else NO; and A is shown
abbrev asks : List ℕ → List ℕ → Condition → Meaning
asks a m test =
    does a m (codes "XY12")
    (if_of here test ((yes ∷ [])) ((no ∷ [])) ∷ shows (codes "A") ∷ [])

-- numbers are equal whatever their lengths
equal_numbers : asks (codes "ABC") (codes "042") (alone (equals (of_item (codes "M")) (a_numeral (codes "42")))) ≡ sent (codes "YES")
unfolding unit_limits
equal_numbers = refl

-- beside a literal a 9 item is a text
equal_digits : asks (codes "ABC") (codes "042") (alone (equals (of_item (codes "M")) (literal (codes "42")))) ≡ sent (codes "NO ")
unfolding unit_limits
equal_digits = refl

-- the shorter text is filled with spaces
equal_texts : asks (codes "AB ") (codes "042") (alone (equals (of_item (codes "A")) (literal (codes "AB")))) ≡ sent (codes "YES")
unfolding unit_limits
equal_texts = refl

-- and a longer one is another text
longer_text :
    asks (codes "ABC") (codes "042") (alone (equals (of_item (codes "A")) (literal (codes "ABCD"))))
    ≡ sent (codes "NO ")
unfolding unit_limits
longer_text = refl

-- texts compare in the order of bytes
less_text : asks (codes "AB ") (codes "042") (alone (compares (of_item (codes "A")) relations.Less (literal (codes "ABA")))) ≡ sent (codes "YES")
unfolding unit_limits
less_text = refl

-- a digit stands before a letter
greater_text : asks (codes "A1C") (codes "042") (alone (compares (of_item (codes "A")) relations.Greater (literal (codes "AAA")))) ≡ sent (codes "NO ")
unfolding unit_limits
greater_text = refl

-- NOT turns the answer
denied : asks (codes "ABC") (codes "042") (alone (simples.Compares (of_item (codes "M")) true relations.Greater (a_numeral (codes "41")))) ≡ sent (codes "NO ")
unfolding unit_limits
denied = refl

-- SPACES are as long as the other side
all_spaces_beside : asks (codes "   ") (codes "042") (alone (equals (spaces_word) (of_item (codes "A")))) ≡ sent (codes "YES")
unfolding unit_limits
all_spaces_beside = refl

-- ZERO beside a text too
zeros_beside_text : asks (codes "000") (codes "042") (alone (equals (of_item (codes "A")) (zeros_word))) ≡ sent (codes "YES")
unfolding unit_limits
zeros_beside_text = refl

-- and beside a 9 item it is a number
zeros_beside_digits : asks (codes "ABC") (codes "000") (alone (equals (of_item (codes "M")) (zeros_word))) ≡ sent (codes "YES")
unfolding unit_limits
zeros_beside_digits = refl

-- a letter is not compared as a number
compare_letters : asks (codes "ABC") (codes "0A0") (alone (equals (of_item (codes "M")) (zeros_word))) ≡ data_fault
unfolding unit_limits
compare_letters = refl

-- NUMERIC asks for digits alone
numeric : asks (codes "ABC") (codes "1 2") (alone (simples.Numeric (item (codes "M")) false)) ≡ sent (codes "NO ")
unfolding unit_limits
numeric = refl

-- AND looks at each part, so a fault in the second stops the unit
both : asks (codes "ABC") (codes "0A2") (condition joints.And (equals (of_item (codes "A")) (literal (codes "Q")) ∷ equals (of_item (codes "M")) (a_numeral (codes "1")) ∷ [])) ≡ data_fault
unfolding unit_limits
both = refl

-- OR holds where one part does
either : asks (codes "ABC") (codes "042") (condition joints.Or (equals (of_item (codes "A")) (literal (codes "Q")) ∷ equals (of_item (codes "M")) (a_numeral (codes "42")) ∷ [])) ≡ sent (codes "YES")
unfolding unit_limits
either = refl

-- AND does not hold where one part does not
not_both : asks (codes "ABC") (codes "042") (condition joints.And (equals (of_item (codes "A")) (literal (codes "Q")) ∷ equals (of_item (codes "M")) (a_numeral (codes "42")) ∷ [])) ≡ sent (codes "NO ")
unfolding unit_limits
not_both = refl

-- NUMERIC holds of digits
numeric_digits : asks (codes "123") (codes "042") (alone (simples.Numeric (item (codes "A")) false)) ≡ sent (codes "YES")
unfolding unit_limits
numeric_digits = refl

-- OR looks at each part too, though the first holds
either_faults : asks (codes "ABC") (codes "0A2") (condition joints.Or (equals (of_item (codes "A")) (literal (codes "ABC")) ∷ equals (of_item (codes "M")) (a_numeral (codes "1")) ∷ [])) ≡ data_fault
unfolding unit_limits
either_faults = refl
