-- The faults of a document, in the order in which the code looks for them.
use Rattle.std.proofs.Common.{◌≡◌, ℕ, true, List, ◌∷◌, Option, Some, None, refl, sym, ap, ◌∙◌}
use Rattle.std.specs.Prelude.{option_map}
use Rattle.std.specs.Option.{option_or}
use Rattle.std.specs.List.{list_all}
use Rattle.toml.specs.Data.{Members}
use Rattle.com_tree.specs.declared.tree.TreeRow.{TreeRow}
use Rattle.com_net.specs.declared.fault.NetKind.{NetKind}
use Rattle.com_net.specs.declared.fault.NetError.{NetError}
use Rattle.com_net.specs.declared.fault.NetError.TheVariants.{Refused, Memory}
use Rattle.com_net.specs.Places.{Place, places}
use Rattle.com_net.specs.KeyFaults.{first_of, missing_key, wrong_kind, unknown_key, bad_name, bad_password}
use Rattle.com_net.specs.TreeFaults.{tree_rows, bad_route}
use Rattle.com_net.specs.Description.{told, told_tree, document_fault, IsRefusalBy}
use Rattle.com_net.specs.inner.Checks.{early_fault, late_fault}
use Rattle.com_net.specs.inner.Sound.{has_names, has_password}
use Rattle.com_net.proofs.SoundTables.{neither, no_image, all_checked, all_passwords}
use Rattle.com_net.proofs.FaultlessNets.{document_fault-parts}

pub first_here : {A B : Type 0} (test : A → Option B) (x : A) (xs : List A) (y : B) → test x ≡ Some y → first_of test (x ∷ xs) ≡ Some y
first_here test x xs y is = rw is refl

pub first_behind : {A B : Type 0} (test : A → Option B) (x : A) (xs : List A) → test x ≡ None → first_of test (x ∷ xs) ≡ first_of test xs
first_behind test x xs none = rw none refl

-- three kinds are none where there is no early fault
record IsEarly (tables : List Place) : Type 0 where
  missing : first_of missing_key tables ≡ None
  wrong : first_of wrong_kind tables ≡ None
  names : first_of bad_name tables ≡ None

none_early : (tables : List Place) → early_fault tables ≡ None → IsEarly tables
none_early tables none =
    let one = neither (told _ (first_of missing_key tables)) _ none in
    let two = neither (told _ (first_of wrong_kind tables)) _ one.1 in
    let three = neither (told _ (first_of unknown_key tables)) _ two.1 in
    let four = neither (told _ (first_of bad_name tables)) _ three.1 in
    record { missing = no_image _ _ one.0; wrong = no_image _ _ two.0; names = no_image _ _ four.0 }

pub names_sound : (tables : List Place) → early_fault tables ≡ None → list_all has_names tables ≡ true
names_sound tables none =
    let h = none_early tables none in
    all_checked tables h.missing h.wrong h.names

pub passwords_sound : (rows : List TreeRow) (tables : List Place) (document : Members) → early_fault tables ≡ None → late_fault rows tables document ≡ None → list_all has_password tables ≡ true
passwords_sound rows tables document early late =
    let h = none_early tables early in
    let one = neither (told _ (first_of (bad_route rows) tables)) _ late in
    let two = neither (told _ (first_of bad_password tables)) _ one.1 in
    all_passwords tables h.missing h.wrong h.names (no_image _ _ two.0)

all_none : (a b c : Option (NetKind × List ℕ)) → a ≡ None → b ≡ None → c ≡ None → option_or a (option_or b c) ≡ None
all_none a b c one two last = rw (one, two, last) refl

second : (a b c : Option (NetKind × List ℕ)) (x : NetKind × List ℕ) → a ≡ None → b ≡ Some x → option_or a (option_or b c) ≡ Some x
second a b c x one two = rw (one, two) refl

pub no_fault : (document : Members) → early_fault (places document) ≡ None → told_tree (places document) ≡ None → late_fault (tree_rows (places document)) (places document) document ≡ None → document_fault document ≡ None
no_fault document early tree late =
    document_fault-parts document ∙ all_none (early_fault (places document)) (told_tree (places document)) (late_fault (tree_rows (places document)) (places document) document) early tree late

pub refused_tree : (document : Members) (error : NetError) → early_fault (places document) ≡ None → IsRefusalBy (told_tree (places document)) error → IsRefusalBy (document_fault document) error
refused_tree document (Refused fault) early told =
    document_fault-parts document ∙ second (early_fault (places document)) (told_tree (places document)) (late_fault (tree_rows (places document)) (places document) document) (fault.kind, fault.path) early told
refused_tree document (Memory error) early told = tt

pub none_told : {A B : Type 0} (f : A → B) (found : Option A) (fault : Option B) → option_map f found ≡ fault → found ≡ None → fault ≡ None
none_told f found fault is none = sym is ∙ ap (option_map f) none
